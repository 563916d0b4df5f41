-- Proof of `packets::a_short_pattern_is_a_short_damage`.
use Rattle.short_damage.proofs.Patterns.{short_pattern}
use Rattle.short_damage.proofs.packets.a_short_pattern_is_a_short_damage.Goals as goal

pub returns : goal.returns
returns c = short_pattern
