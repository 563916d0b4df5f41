-- Proof of `packets::a_short_damage_is_never_whole`.
use Rattle.std.proofs.Common.{◌≡◌, List, ℕ, true, false, Bool, refl}
use Rattle.air_frame.specs.declared.Heard.{Heard}
use Rattle.air_frame.specs.declared.Heard.TheVariants.{NotOurs, Broken, Whole}
use Rattle.air_frame.specs.Hearing.{IsWhole, heard_in}
use Rattle.air_frame.specs.Packet.{on_air}
use Rattle.radio_replay.specs.Damage.{damaged_packet}
use Rattle.short_damage.proofs.NeverWhole.{heard_whole, never_whole}
use Rattle.short_damage.proofs.packets.a_short_damage_is_never_whole.Goals as goal

abbrev is_whole : Heard → Bool
is_whole NotOurs = false
is_whole Broken = false
is_whole (Whole pdu) = true

some_whole : (heard : Heard) (pdu : List ℕ) → IsWhole heard pdu → is_whole heard ≡ true
some_whole NotOurs pdu is = absurd is
some_whole Broken pdu is = absurd is
some_whole (Whole heard) pdu is = refl

pub returns : goal.returns
returns c = λ channel access init pdu heard fate small all changes is.
    let packet = on_air channel access init pdu in
    let octets = damaged_packet fate packet in
    let whole = heard_whole is_whole true (λ no. absurd cc) (λ no. absurd cc) channel access init octets
    (some_whole (heard_in channel access init octets) heard is) in
    never_whole
    (record {
      never = c.short_damage_is_never_whole.ensures;
      bitwise = c.whitening_goes_bit_by_bit.ensures;
      long = c.packet_tells_its_pdu.ensures.length;
    })
    channel access init pdu whole.pdu packet fate small all refl changes whole.is
