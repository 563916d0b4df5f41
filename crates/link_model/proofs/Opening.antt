-- What one end sends is opened by the other end, and a PDU takes a counter as it is first sent.
use Rattle.std.proofs.Common.{◌≡◌, ◌≤◌, ◌<◌, ℕ, ◌+◌, ◌==◌, ◌&&◌, ◌||◌, not, Bool, true, false, List, [], ◌∷◌, length, Option, Some, None, refl, ap, sym, ◌∙◌, subst, arith, if◌then◌else◌}
use Rattle.std.proofs.lemmas.Bool.{eqb-false, ne_eqb}
use Rattle.ccm_link.specs.Ccm.{opened_payload, sealed_payload}
use Rattle.ccm_link.specs.Payload.{additional_data, is_genuine, nonce}
use Rattle.ccm_link.proofs.Sealing.{length-sealed_payload}
use Rattle.phased_end.specs.enc_phase.Phases.{is_central, seals}
use Rattle.phased_end.specs.enc_phase.Sealing.{AreMatched, EncEnd, after_sending, is_right, opened_body, sent_payload}
use Rattle.link_model.specs.Setup.{Setup}
use Rattle.link_model.specs.Acknowledgement.{Pdu, is_acked}
use Rattle.link_model.specs.Data.{is_empty}
use Rattle.link_model.specs.Verdicts.{code_octets}
use Rattle.link_model.specs.Payload.{CanOpen, end_sending, opened_if, opened_pdu, opens_now, payload_made, read_pdu}
use Rattle.link_model.specs.Facts.{Facts}
use Rattle.link_model.specs.Controls.{next_control, pdu_fixed, pdu_of_control}
use Rattle.link_model.specs.Packets.{FitsReceiver, has_new_pdu, header_sent, payload_sent, pdu_sent}
use Rattle.link_model.specs.Hearing.{IsOpened, air_octets}
use Rattle.link_model.specs.Sending.{control_gone_if, facts_sent, fixed_sent}
use Rattle.link_model.proofs.Received.{air_read, has_header}
use Rattle.link_model.proofs.Skipping.{no_last}

-- ---- what a sealed payload is opened to

abbrev pub IsOpenedRight : Type 0
IsOpenedRight = (a b : EncEnd) (header received : ℕ) (body : List ℕ) → AreMatched a b
    → additional_data header ≡ additional_data received → 1 ≤ length body
    → is_right b received (sent_payload a header body) ≡ true

abbrev pub IsOpenedBody : Type 0
IsOpenedBody =
    (a b : EncEnd) (header : ℕ) (body : List ℕ) → AreMatched a b → opened_body b (sent_payload a header body) ≡ body

-- the payload of a PDU, by whether that is empty and whether the end seals
module _ (made : EncEnd) (pdu : Pdu) where
  abbrev sealed : List ℕ
  sealed = sealed_payload made.key (nonce made.sent (is_central made.role) made.iv) (additional_data pdu.llid) pdu.body

  abbrev payload_by : Bool → Bool → List ℕ
  payload_by empty seals_now = if empty then pdu.body else (if seals_now then sealed else pdu.body)

  made_by : (empty seals_now : Bool) → is_empty pdu ≡ empty → seals made.role made.phase ≡ seals_now
      → payload_made made pdu ≡ payload_by empty seals_now
  made_by empty seals_now is does = λ i. payload_by (is i) (does i)

-- a PDU that is not empty has a body
pub some_body : (pdu : Pdu) → is_empty pdu ≡ false → 1 ≤ length pdu.body
some_body pdu is = by (pdu.llid == 0) (length pdu.body == 0) refl is
  where
    by : (none empty : Bool) → (length pdu.body == 0) ≡ empty → (none || empty) ≡ false → 1 ≤ length pdu.body
    by true empty e t = absurd cc
    by false true e t = absurd cc
    by false false e t = let some = eqb-false (length pdu.body) 0 e in omega (arith, some)

-- a longer body leaves it not empty
still_some : (pdu : Pdu) (body : List ℕ) → is_empty pdu ≡ false → 1 ≤ length body
    → is_empty (record { llid = pdu.llid; body = body }) ≡ false
still_some pdu [] is some = absurd (omega (arith, some))
still_some pdu (octet ∷ octets) is some = by (pdu.llid == 0) (length pdu.body == 0) is
  where
    by : (none empty : Bool) → (none || empty) ≡ false → (none || (length (octet ∷ octets) == 0)) ≡ false
    by true empty t = absurd cc
    by false empty t = ne_eqb (length (octet ∷ octets)) 0 (λ none. absurd (omega (arith, some, none)))

-- an end that opens nothing reads a payload as it is
opened_clear : (end : EncEnd) (first count : ℕ) (payload : List ℕ) → opens_now end ≡ false
    → opened_pdu end (first ∷ count ∷ payload) ≡ Some (first ∷ count ∷ payload)
opened_clear end first count payload is = λ i. by (is i)
  where
    by : Bool → Option (List ℕ)
    by opens =
        (if (if opens then is_genuine end.key (nonce end.opened (not (is_central end.role)) end.iv) (additional_data first) payload else true)
        then Some (first ∷ count ∷ (if opens then opened_payload end.key (nonce end.opened (not (is_central end.role)) end.iv) payload else payload))
        else None)

module _ (right : IsOpenedRight) (body_of : IsOpenedBody) (made end : EncEnd) (pdu : Pdu) (can : CanOpen made end) where
  -- it is read where it is new
  module _ (first count : ℕ) (masked : additional_data pdu.llid ≡ additional_data first) where
    abbrev ReadAs : List ℕ → Type 0
    ReadAs payload =
        read_pdu (not (is_empty (record { llid = pdu.llid; body = payload }))) end (first ∷ count ∷ payload) ≡ Some
        (first ∷ count ∷ pdu.body)

    new_read : (empty seals_now : Bool) → is_empty pdu ≡ empty → seals made.role made.phase ≡ seals_now
        → ReadAs (payload_by made pdu empty seals_now)
    new_read true seals_now is does = ap (λ b. read_pdu (not b) end (first ∷ count ∷ pdu.body)) is
    new_read false false is does =
        ap (λ b. read_pdu (not b) end (first ∷ count ∷ pdu.body)) is
        ∙ opened_clear end first count pdu.body (sym can.sealing ∙ does)
    new_read false true is does =
        let matched = can.session does in
        let as_sealed : sent_payload made pdu.llid pdu.body ≡ sealed made pdu =
        λ i. if does i then sealed made pdu else pdu.body in
        let longer : 1 ≤ length (sealed made pdu) =
        omega (
          arith,
          length-sealed_payload made.key (nonce made.sent (is_central made.role) made.iv)
              (additional_data pdu.llid) pdu.body,
        ) in
        let is_right_now : is_right end first (sealed made pdu) ≡ true =
        ap (is_right end first) (sym as_sealed)
        ∙ right made end pdu.llid first pdu.body matched masked (some_body pdu is) in
        let opened : opened_body end (sealed made pdu) ≡ pdu.body =
        ap (opened_body end) (sym as_sealed) ∙ body_of made end pdu.llid pdu.body matched in
        ap (λ b. read_pdu (not b) end (first ∷ count ∷ sealed made pdu)) (still_some pdu (sealed made pdu) is longer)
        ∙ ap (λ b. opened_if b end (first ∷ count ∷ sealed made pdu)) is_right_now
        ∙ ap (λ (body : List ℕ). Some (first ∷ count ∷ body)) opened

    read_back : (is_new : Bool) (payload : List ℕ) → payload ≡ payload_made made pdu
        → read_pdu (is_new && not (is_empty (record { llid = pdu.llid; body = payload }))) end (first ∷ count ∷ payload)
        ≡ Some (first ∷ count ∷ (if is_new then pdu.body else payload))
    read_back false payload is = refl
    read_back true payload is =
        subst ReadAs (sym (is ∙ made_by made pdu (is_empty pdu) (seals made.role made.phase) refl refl))
        (new_read (is_empty pdu) (seals made.role made.phase) refl refl)

module _ (made end : EncEnd) (pdu : Pdu) (can : CanOpen made end) where
  -- it fits where its body does
  fits_by : (most : ℕ) → length pdu.body ≤ most → (empty seals_now : Bool) → is_empty pdu ≡ empty
      → seals made.role made.phase ≡ seals_now
      → length (payload_by made pdu empty seals_now) ≤ most + code_octets (opens_now end) pdu
  fits_by most short true seals_now is does = omega (arith, short)
  fits_by most short false false is does = omega (arith, short)
  fits_by most short false true is does =
      let code : code_octets (opens_now end) pdu ≡ 4 = λ i. if (sym can.sealing ∙ does) i && not (is i) then 4 else 0 in
      omega (
        arith,
        short,
        code,
        length-sealed_payload made.key (nonce made.sent (is_central made.role) made.iv)
            (additional_data pdu.llid) pdu.body,
      )

pub opened_there : (right : IsOpenedRight) (body_of : IsOpenedBody) (made : EncEnd) (sender listener : Facts)
    → (pdu_sent sender).llid < 4
    → payload_sent sender ≡ payload_made made (pdu_sent sender) → CanOpen made listener.encryption.end
    → IsOpened sender listener
opened_there right body_of made sender listener two_bits is can =
    let has = has_header sender listener two_bits (payload_sent sender) in
    let end = listener.encryption.end in
    let header = header_sent sender in
    (λ i. read_pdu (has_new_pdu listener (has.read i) && not (is_empty (air_read sender listener two_bits i))) end
    (air_octets sender))
    ∙ read_back right body_of made end (pdu_sent sender) can _ header.length has.masked
    (has_new_pdu listener header) (payload_sent sender) is

pub fits_there : (made : EncEnd) (sender listener : Facts) (to : Setup)
    → payload_sent sender ≡ payload_made made (pdu_sent sender)
    → CanOpen made listener.encryption.end → length (pdu_sent sender).body ≤ to.link.max_rx
    → FitsReceiver sender to listener
fits_there made sender listener to is can short =
    let pdu = pdu_sent sender in
    subst (λ (payload : List ℕ). length payload ≤ to.link.max_rx + code_octets (opens_now listener.encryption.end) pdu)
    (sym (is ∙ made_by made pdu (is_empty pdu) (seals made.role made.phase) refl refl))
    (fits_by made listener.encryption.end pdu can to.link.max_rx short (is_empty pdu)
    (seals made.role made.phase) refl refl)

-- ---- the counter of a PDU that goes out

end_by : (acked fixes : Bool) (slot : ℕ) (facts : Facts) → is_acked facts.acknowledgement ≡ acked
    → facts.fixes_control ≡ fixes
    → (fixed_sent slot (control_gone_if (acked && fixes) slot facts)).encryption.end
    ≡ end_sending (acked && not (is_empty (pdu_fixed facts))) facts.encryption.end
end_by true true slot facts all fixes =
    ap (λ b. end_sending (b && not (is_empty (pdu_fixed facts))) facts.encryption.end) all
end_by true false slot facts all fixes =
    λ i. end_sending (all i && not (is_empty (if sym fixes i then pdu_of_control (next_control facts) else facts.outgoing.fixed)))
    facts.encryption.end
end_by false fixes slot facts all fixed =
    ap (λ b. end_sending (b && not (is_empty facts.outgoing.fixed)) facts.encryption.end) all

pub end_sent : (slot : ℕ) (facts : Facts) → (facts_sent slot facts).encryption.end
    ≡ end_sending (is_acked facts.acknowledgement && not (is_empty (pdu_fixed facts))) facts.encryption.end
end_sent slot facts = end_by (is_acked facts.acknowledgement) facts.fixes_control slot facts refl refl

module _ (facts : Facts) (slot : ℕ) where
  pub takes_counter : is_acked facts.acknowledgement ≡ true → is_empty (pdu_fixed facts) ≡ false
      → (facts_sent slot facts).encryption.end ≡ after_sending facts.encryption.end
  takes_counter all some = end_sent slot facts ∙ (λ i. end_sending (all i && not (some i)) facts.encryption.end)

  pub none_again : is_acked facts.acknowledgement ≡ false
      → (facts_sent slot facts).encryption.end ≡ facts.encryption.end
  none_again out =
      end_sent slot facts ∙ (λ i. end_sending (out i && not (is_empty (pdu_fixed facts))) facts.encryption.end)

  pub none_for_empty : is_empty (pdu_fixed facts) ≡ true → (facts_sent slot facts).encryption.end ≡ facts.encryption.end
  none_for_empty empty =
      end_sent slot facts ∙ (λ i. end_sending (is_acked facts.acknowledgement && not (empty i)) facts.encryption.end)
      ∙ ap (λ b. end_sending b facts.encryption.end) (no_last (is_acked facts.acknowledgement))
