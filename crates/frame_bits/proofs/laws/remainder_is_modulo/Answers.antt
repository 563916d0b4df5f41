-- The proof of `remainder_is_modulo`.
use Rattle.frame_bits.proofs.Multiples.{quotient_of, remainder_only}
use Rattle.frame_bits.proofs.Remainders.{remainder-lt}
use Rattle.frame_bits.proofs.laws.remainder_is_modulo.Goals as goal

pub returns-clause-degree : goal.returns-clause-degree
returns-clause-degree c = remainder-lt

pub returns-clause-some : goal.returns-clause-some
returns-clause-some c = quotient_of

pub returns-clause-only : goal.returns-clause-only
returns-clause-only c = remainder_only
