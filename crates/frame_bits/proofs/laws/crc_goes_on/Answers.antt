-- The proof of `crc_goes_on`.
use Rattle.frame_bits.proofs.Registers.{crc-append, crc-nil}
use Rattle.frame_bits.proofs.laws.crc_goes_on.Goals as goal

pub returns-clause-none : goal.returns-clause-none
returns-clause-none c = crc-nil

pub returns-clause-more : goal.returns-clause-more
returns-clause-more c = crc-append
