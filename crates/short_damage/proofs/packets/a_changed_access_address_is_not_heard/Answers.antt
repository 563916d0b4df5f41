-- Proof of `packets::a_changed_access_address_is_not_heard`.
use Rattle.std.proofs.Common.{sym, ◌∙◌}
use Rattle.radio_replay.specs.Damage.{damaged_packet}
use Rattle.short_damage.proofs.NeverWhole.{not_ours}
use Rattle.short_damage.proofs.packets.a_changed_access_address_is_not_heard.Goals as goal

pub returns : goal.returns
returns c = λ channel access init packet fate begins differs.
    not_ours channel access init (damaged_packet fate packet) (λ same. differs (same ∙ sym begins))
