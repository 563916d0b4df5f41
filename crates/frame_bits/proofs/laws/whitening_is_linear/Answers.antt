-- The proof of `whitening_is_linear`.
use Rattle.frame_bits.proofs.WhiteBits.{length-whitening_of, whitening_of-sums, whitening_of-whitening_of}
use Rattle.frame_bits.proofs.laws.whitening_is_linear.Goals as goal

pub returns-clause-length : goal.returns-clause-length
returns-clause-length c = length-whitening_of

pub returns-clause-twice : goal.returns-clause-twice
returns-clause-twice c = whitening_of-whitening_of

pub returns-clause-change : goal.returns-clause-change
returns-clause-change c = whitening_of-sums
