-- The proof of `crc_is_linear`.
use Rattle.frame_bits.proofs.BitSums.{crc-sums}
use Rattle.frame_bits.proofs.laws.crc_is_linear.Goals as goal

pub returns : goal.returns
returns c = crc-sums
