-- The proof of `next_mask`.
use Rattle.std.proofs.Common.{arith}
use Rattle.frame_bits.proofs.OctetValues.{next_mask_is}
use Rattle.frame_bits.proofs.whitening.next_mask.Goals as goal

pub returns : goal.returns
returns c = next_mask_is c.args.mask (omega arith)
