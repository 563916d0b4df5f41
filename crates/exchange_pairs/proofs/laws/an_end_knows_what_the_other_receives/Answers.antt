-- The proof of the law `an_end_knows_what_the_other_receives`.
use Rattle.exchange_pairs.proofs.LengthsKept.{known, sent_within, transmits_within}
use Rattle.exchange_pairs.proofs.laws.an_end_knows_what_the_other_receives.Goals as goal

pub returns-clause-known : goal.returns-clause-known
returns-clause-known c = known

pub returns-clause-sent : goal.returns-clause-sent
returns-clause-sent c = sent_within

pub returns-clause-transmits : goal.returns-clause-transmits
returns-clause-transmits c = transmits_within
