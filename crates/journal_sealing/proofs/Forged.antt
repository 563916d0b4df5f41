-- An end that opens nothing finds no packet forged.
use Rattle.std.proofs.Common.{◌≡◌, ℕ, ◌&&◌, not, Bool, true, false, Option, Some, None, List, drop, refl, ap, ◌∙◌, if◌then◌else◌}
use Rattle.std.proofs.Math.Bool.{and-false}
use Rattle.ble_base.specs.declared.roles.Side.{Side}
use Rattle.air_frame.specs.Hearing.{heard_in}
use Rattle.air_frame.specs.declared.Heard.{Heard}
use Rattle.air_frame.specs.declared.Heard.TheVariants.{NotOurs, Broken, Whole}
use Rattle.ccm_link.specs.Payload.{additional_data, is_genuine, nonce}
use Rattle.journal.specs.declared.entries.Entry.{Entry}
use Rattle.journal_controls.specs.LineSteps.{keyed_on}
use Rattle.journal_controls.specs.journal_acks.Exchange.{Exchanged, exchange_of}
use Rattle.journal_controls.specs.journal_ends.Asked.{Words}
use Rattle.journal_controls.specs.journal_links.Begun.{LinkBegun, link_numbered}
use Rattle.journal_controls.specs.link_model.Payload.{first_octet, opens_now}
use Rattle.journal_controls.specs.link_model.enc_phase.Phases.{is_central}
use Rattle.journal_controls.specs.link_model.enc_phase.Sealing.{EncEnd, is_right}
use Rattle.journal_controls.specs.link_model.keyed_control.Keyed.{Keyed}
use Rattle.journal_sealing.specs.Forged.{OpensNothing, counts_by, is_forged_for, is_wrong, is_wrong_in, is_wrong_on}

right_by : (opens genuine : Bool) → opens ≡ false → (if opens then genuine else true) ≡ true
right_by true genuine is = absurd cc
right_by false genuine is = refl

clear_right : (end : EncEnd) (header : ℕ) (payload : List ℕ) → opens_now end ≡ false → is_right end header payload ≡ true
clear_right end header payload is =
    right_by (opens_now end) (is_genuine end.key (nonce end.opened (not (is_central end.role)) end.iv) (additional_data header) payload) is

none_wrong : (found : Option Keyed) (end : Exchanged) (pdu : List ℕ) → ((k : Keyed) → found ≡ Some k → opens_now k.end ≡ false) → is_wrong found end pdu ≡ false
none_wrong None end pdu opens = refl
none_wrong (Some k) end pdu opens =
    ap (λ b. counts_by end pdu && not b) (clear_right k.end (first_octet pdu) (drop 2 pdu) (opens k refl)) ∙ and-false (counts_by end pdu)

none_heard : (found : Option Keyed) (end : Exchanged) (heard : Heard) → ((k : Keyed) → found ≡ Some k → opens_now k.end ≡ false) → is_wrong_in found end heard ≡ false
none_heard found end NotOurs opens = refl
none_heard found end Broken opens = refl
none_heard found end (Whole pdu) opens = none_wrong found end pdu.items opens

none_on : (link : Option LinkBegun) (found : Option Keyed) (end : Exchanged) (channel : ℕ) (octets : List ℕ) → ((k : Keyed) → found ≡ Some k → opens_now k.end ≡ false)
    → is_wrong_on link found end channel octets ≡ false
none_on None found end channel octets opens = refl
none_on (Some link) found end channel octets opens = none_heard found end (heard_in channel link.fields.access link.fields.crc_init octets) opens

pub none_forged : (words : Words) (number : ℕ) (front : List Entry) (side : Side) (channel : ℕ) (octets : List ℕ) → OpensNothing words number front side → is_forged_for words number front side channel octets ≡ false
none_forged words number front side channel octets opens =
    none_on (link_numbered number front) (keyed_on words side number front) (exchange_of number front side) channel octets opens
