-- The proof of `whitening_goes_bit_by_bit`.
use Rattle.frame_bits.proofs.WhiteBits.{air_bits-whitening_of}
use Rattle.frame_bits.proofs.laws.whitening_goes_bit_by_bit.Goals as goal

pub returns : goal.returns
returns c = air_bits-whitening_of
