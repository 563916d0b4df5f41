-- The proof of `crc_goes_highest_first`.
use Rattle.frame_bits.proofs.SentOrder.{air_bits-crc_octets}
use Rattle.frame_bits.proofs.laws.crc_goes_highest_first.Goals as goal

pub returns : goal.returns
returns c = air_bits-crc_octets
