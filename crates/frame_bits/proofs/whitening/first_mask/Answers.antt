-- The proof of `first_mask`.
use Rattle.std.proofs.Common.{◌∙◌, arith}
use Rattle.frame_bits.proofs.OctetValues.{first_mask_is}
use Rattle.frame_bits.proofs.whitening.first_mask.Goals as goal

pub returns : goal.returns
returns c = c.next_mask.ensures ∙ first_mask_is c.args.channel (omega arith)
