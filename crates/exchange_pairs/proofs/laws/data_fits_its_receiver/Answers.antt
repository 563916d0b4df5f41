-- The proof of the law `data_fits_its_receiver`.
use Rattle.exchange_pairs.proofs.LengthsKept.{fixed_within, coming_within}
use Rattle.exchange_pairs.proofs.laws.data_fits_its_receiver.Goals as goal

pub returns-clause-fixed : goal.returns-clause-fixed
returns-clause-fixed c = fixed_within

pub returns-clause-coming : goal.returns-clause-coming
returns-clause-coming c = coming_within
