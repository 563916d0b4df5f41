-- A PDU on an advertising channel is heard as it was sent.
use Rattle.std.proofs.Common.{◌≡◌, ℕ, ◌+◌, ◌≤◌, ◌==◌, ◌||◌, Bool, true, false, Some, List, ◌∷◌, length, slice_index, ◌↔◌, cond, ap, ◌∙◌, arith}
use Rattle.std.specs.Prelude.{◌&&◌, nat_le}
use Rattle.std.specs.Option.{option_and_then}
use Rattle.std.proofs.lemmas.Bool.Decides.{nat_tests}
use Rattle.ble_base.specs.declared.verdicts.Verdict.TheVariants.{Good}
use Rattle.wire_fields.specs.Field.{spelled}
use Rattle.adv_pdu.specs.declared.pdu.AdvPdu.{AdvPdu}
use Rattle.adv_pdu.specs.Pdu.{ch_sel_of, payload_of, rx_add_of, tx_add_of, type_of, written, IsPdu as IsAdvPdu}
use Rattle.adv_pdu.specs.Header.{header_octet}
use Rattle.adv_pdu.specs.Reading.{read_of}
use Rattle.adv_pdu.proofs.Rows.{has_length}
use Rattle.adv_pdu.proofs.Values.{written_is_read}
use Rattle.air_frame.specs.declared.Heard.{Heard}
use Rattle.air_frame.specs.declared.Heard.TheVariants.{Whole}
use Rattle.air_frame.specs.declared.advertising.TheConstants.{ADVERTISING_ACCESS, ADVERTISING_CRC_INIT}
use Rattle.air_frame.specs.Hearing.{heard_in}
use Rattle.air_frame.specs.Packet.{on_air, IsPdu}
use Rattle.controller_model.specs.Packets.{advertising_packet, heard_on_channel, pdu_by, pdu_heard, verdict_advertising, verdict_by}

-- a packet of a PDU in form is heard whole
abbrev pub IsHeardWhole : Type 0
IsHeardWhole = (channel access init : ℕ) (pdu : List ℕ) → IsPdu pdu → heard_in channel access init (on_air channel access init pdu) ≡ Whole (record { items = pdu })

-- the test of the form of a PDU is a count
abbrev pub IsCount : Type 0
IsCount = (pdu : List ℕ) → IsPdu pdu ↔ ((2 ≤ length pdu) × (length pdu ≤ 257) × (length pdu ≡ 2 + slice_index pdu 1))

short_by : (connects directed : Bool) (kind count : ℕ)
    → cond connects (count == 34) (cond directed (count == 12) (nat_le kind 6 && nat_le 6 count && nat_le count 37)) ≡ true → count ≤ 37
short_by true directed kind count is = grind (arith, nat_tests)
short_by false true kind count is = grind (arith, nat_tests)
short_by false false kind count is = grind (arith, nat_tests)

counted : (first : ℕ) (payload : List ℕ) → length payload ≤ 255
    → (2 ≤ length (first ∷ length payload ∷ payload)) × (length (first ∷ length payload ∷ payload) ≤ 257)
    × (length (first ∷ length payload ∷ payload) ≡ 2 + slice_index (first ∷ length payload ∷ payload) 1)
counted first payload short = (omega arith, omega arith, omega arith)

heard_whole : (whole : IsHeardWhole) (count : IsCount) (channel : ℕ) (pdu : AdvPdu) → IsAdvPdu pdu
    → heard_on_channel channel (advertising_packet channel pdu) ≡ Whole (record { items = written pdu })
heard_whole whole count channel pdu is =
    let payload = spelled (payload_of pdu) in
    let short = short_by (type_of pdu == 5) ((type_of pdu == 1) || (type_of pdu == 3)) (type_of pdu) (length payload) (has_length pdu is) in
    whole channel ADVERTISING_ACCESS ADVERTISING_CRC_INIT (written pdu)
    ((count (written pdu)).1 (counted (header_octet (type_of pdu) (ch_sel_of pdu) (tx_add_of pdu) (rx_add_of pdu)) payload (omega (arith, short))))

pub understood_good : (whole : IsHeardWhole) (count : IsCount) (channel : ℕ) (pdu : AdvPdu) → IsAdvPdu pdu
    → verdict_advertising channel (advertising_packet channel pdu) ≡ Good
understood_good whole count channel pdu is = ap verdict_by (heard_whole whole count channel pdu is)

pub understood_says : (whole : IsHeardWhole) (count : IsCount) (channel : ℕ) (pdu : AdvPdu) → IsAdvPdu pdu
    → pdu_heard channel (advertising_packet channel pdu) ≡ Some pdu
unfolding pdu_heard
understood_says whole count channel pdu is =
    ap (λ (heard : Heard). option_and_then read_of (pdu_by heard)) (heard_whole whole count channel pdu is) ∙ written_is_read pdu is
