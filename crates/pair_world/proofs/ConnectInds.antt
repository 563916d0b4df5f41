-- The packet of a CONNECT_IND has 43 octets.
use Rattle.std.proofs.Common.{◌≡◌, ℕ, ◌+◌, ◌%◌, ◌==◌, ◌&&◌, Bool, true, false, List, length, Some, None, if◌then◌else◌, refl, sym, ap, ◌∙◌, arith}
use Rattle.std.specs.Prelude.{nat_le, slice_index}
use Rattle.std.specs.Option.{option_and_then}
use Rattle.std.proofs.lemmas.Bool.{and_parts, eqb-true, true≢false}
use Rattle.std.proofs.lemmas.Slice.Eq.{bytes_eq-Decides}
use Rattle.adv_pdu.specs.declared.pdu.AdvPdu.{AdvPdu}
use Rattle.adv_pdu.specs.Reading.{is_adv_pdu, is_payload_length, pdu_of_type, read_of}
use Rattle.air_frame.specs.declared.Heard.TheVariants.{NotOurs, Broken, Whole}
use Rattle.air_frame.specs.Hearing.{heard_in}
use Rattle.air_frame.specs.Packet.{is_packet, on_air, pdu_in}
use Rattle.controller_model.specs.Packets.{pdu_by, pdu_heard}
use Rattle.air_frame.specs.declared.advertising.TheConstants.{ADVERTISING_ACCESS, ADVERTISING_CRC_INIT}
use Rattle.run_model.specs.Links.{begins_link, is_advertising, is_connect_ind}

-- a packet has seven octets more than its PDU
abbrev pub HasSevenMore : Type 0
HasSevenMore = (channel access init : ℕ) (pdu : List ℕ) → length (on_air channel access init pdu) ≡ length pdu + 7

whole_pdu : (addressed whole : Bool) (pdu : List ℕ)
    → is_connect_ind (option_and_then read_of (pdu_by (if addressed then (if whole then Whole (record { items = pdu }) else Broken) else NotOurs))) ≡ true
    → (whole ≡ true) × (is_connect_ind (read_of pdu) ≡ true)
whole_pdu true true pdu is = (refl, is)
whole_pdu true false pdu is = absurd (true≢false (sym is))
whole_pdu false whole pdu is = absurd (true≢false (sym is))

read_by : (readable : Bool) (kind : ℕ) (octets : List ℕ) → is_connect_ind (if readable then pdu_of_type kind octets else None) ≡ true
    → (readable ≡ true) × (is_connect_ind (pdu_of_type kind octets) ≡ true)
read_by true kind octets is = (refl, is)
read_by false kind octets is = absurd (true≢false (sym is))

-- only type 5 is a CONNECT_IND
type_by : (k0 k1 k2 k3 k4 k5 k6 : Bool) (a b c d e f g : AdvPdu) → is_connect_ind (Some a) ≡ false → is_connect_ind (Some b) ≡ false
    → is_connect_ind (Some c) ≡ false → is_connect_ind (Some d) ≡ false → is_connect_ind (Some e) ≡ false → is_connect_ind (Some g) ≡ false
    → is_connect_ind (if k0 then Some a else if k1 then Some b else if k2 then Some c else if k3 then Some d else if k4 then Some e
    else if k5 then Some f else if k6 then Some g else None) ≡ true → k5 ≡ true
type_by true k1 k2 k3 k4 k5 k6 a b c d e f g na nb nc nd ne ng is = absurd (true≢false (sym is ∙ na))
type_by false true k2 k3 k4 k5 k6 a b c d e f g na nb nc nd ne ng is = absurd (true≢false (sym is ∙ nb))
type_by false false true k3 k4 k5 k6 a b c d e f g na nb nc nd ne ng is = absurd (true≢false (sym is ∙ nc))
type_by false false false true k4 k5 k6 a b c d e f g na nb nc nd ne ng is = absurd (true≢false (sym is ∙ nd))
type_by false false false false true k5 k6 a b c d e f g na nb nc nd ne ng is = absurd (true≢false (sym is ∙ ne))
type_by false false false false false true k6 a b c d e f g na nb nc nd ne ng is = refl
type_by false false false false false false true a b c d e f g na nb nc nd ne ng is = absurd (true≢false (sym is ∙ ng))
type_by false false false false false false false a b c d e f g na nb nc nd ne ng is = absurd (true≢false (sym is))

type_five : (kind : ℕ) (octets : List ℕ) → is_connect_ind (pdu_of_type kind octets) ≡ true → (kind == 5) ≡ true
type_five kind octets is = type_by (kind == 0) (kind == 1) (kind == 2) (kind == 3) (kind == 4) (kind == 5) (kind == 6) _ _ _ _ _ _ _ refl refl refl refl refl refl is

payload_34 : (five : Bool) (count : ℕ) (other : Bool) → (if five then count == 34 else other) ≡ true → five ≡ true → (count == 34) ≡ true
payload_34 true count other is of = is
payload_34 false count other is of = absurd (true≢false (sym of))

length_36 : (pdu : List ℕ) → is_connect_ind (read_of pdu) ≡ true → length pdu ≡ 36
unfolding read_of
length_36 pdu is =
    let kind = slice_index pdu 0 % 16 in
    let read = read_by (is_adv_pdu pdu) kind pdu is in
    let parts = and_parts (nat_le 2 (length pdu) && (length pdu == 2 + slice_index pdu 1)) (is_payload_length kind (slice_index pdu 1)) read.0 in
    let counted : length pdu ≡ 2 + slice_index pdu 1 =
    eqb-true (length pdu) (2 + slice_index pdu 1) (and_parts (nat_le 2 (length pdu)) (length pdu == 2 + slice_index pdu 1) parts.0).1 in
    let payload : slice_index pdu 1 ≡ 34 =
    eqb-true (slice_index pdu 1) 34 (payload_34 (kind == 5) (slice_index pdu 1) _ parts.1 (type_five kind pdu read.1)) in
    omega (arith, counted, payload)

length_43 : HasSevenMore → (channel : ℕ) (octets : List ℕ) → is_connect_ind (pdu_heard channel octets) ≡ true → length octets ≡ 43
unfolding pdu_heard heard_in
length_43 seven channel octets is =
    let pdu = pdu_in channel octets in
    let whole = whole_pdu _ (is_packet channel ADVERTISING_ACCESS ADVERTISING_CRC_INIT octets) pdu is in
    let same = (bytes_eq-Decides octets (on_air channel ADVERTISING_ACCESS ADVERTISING_CRC_INIT pdu)).0 (and_parts _ _ whole.0).1 in
    ap length same ∙ seven channel ADVERTISING_ACCESS ADVERTISING_CRC_INIT pdu ∙ ap (λ n. n + 7) (length_36 pdu whole.1)

by_cases : (begins : Bool) → (begins ≡ true → ⊥) → false ≡ begins
by_cases true never = absurd (never refl)
by_cases false never = refl

-- octets of another length begin no link
pub begins_none : HasSevenMore → (channel : ℕ) (octets : List ℕ) → (length octets ≡ 43 → ⊥) → false ≡ begins_link channel octets
unfolding begins_link
begins_none seven channel octets other =
    by_cases (begins_link channel octets) (λ is. other (length_43 seven channel octets (and_parts (is_advertising channel) (is_connect_ind (pdu_heard channel octets)) is).1))

-- and neither do those on another channel
begins_if : (there connects : Bool) → there ≡ false → false ≡ (there && connects)
begins_if false connects is = refl
begins_if true connects is = absurd (true≢false is)

pub begins_nowhere : (channel : ℕ) (octets : List ℕ) → is_advertising channel ≡ false → false ≡ begins_link channel octets
unfolding begins_link
begins_nowhere channel octets is = begins_if (is_advertising channel) (is_connect_ind (pdu_heard channel octets)) is

pub begins_here : (channel : ℕ) (octets : List ℕ) → is_advertising channel ≡ true → is_connect_ind (pdu_heard channel octets) ≡ begins_link channel octets
unfolding begins_link
begins_here channel octets is = ap (λ (there : Bool). there && is_connect_ind (pdu_heard channel octets)) (sym is)
