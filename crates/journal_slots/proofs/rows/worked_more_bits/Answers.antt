-- Proof of `rows::worked_more_bits`: the definition computes.
use Rattle.std.proofs.Common.{refl}
use Rattle.frame_bits.specs.Whitening.{mask_of, next_mask, whitening_bit, whitening_of}
use Rattle.journal_slots.proofs.rows.worked_more_bits.Goals as goal

pub returns : goal.returns
unfolding mask_of next_mask whitening_bit whitening_of
returns c = record { first = refl; first_more = refl; reply = refl; reply_more = refl }
