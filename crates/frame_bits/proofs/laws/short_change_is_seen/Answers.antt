-- The proof of `short_change_is_seen`.
use Rattle.frame_bits.proofs.ShortChanges.{short_change}
use Rattle.frame_bits.proofs.laws.short_change_is_seen.Goals as goal

pub returns : goal.returns
returns c = short_change
