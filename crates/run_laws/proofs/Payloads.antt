-- What the payload of a packet of an end is on the air, in all phases of encryption.
use Rattle.std.proofs.Common.{◌≡◌, ℕ, ◌+◌, ◌≤◌, ◌==◌, ◌&&◌, ◌||◌, ◌⊎◌, inl, inr, not, Bool, true, false, Option, Some, None, List, [], ◌∷◌, fold, length, refl, sym, ap, subst, ◌∙◌, arith, if◌then◌else◌}
use Rattle.std.proofs.lemmas.Bool.{ne_eqb}
use Rattle.ack_bit.specs.AckBits.{acknowledges}
use Rattle.ble_base.specs.declared.roles.Role.{Role}
use Rattle.ccm_link.specs.Ccm.{sealed_payload}
use Rattle.ccm_link.specs.Payload.{additional_data, nonce}
use Rattle.ccm_link.proofs.Sealing.{length-sealed_payload}
use Rattle.data_pdu.specs.Header.{header_in}
use Rattle.run_model.specs.link_model.Acknowledgement.{Acknowledgement, Pdu, bits_of, is_acked, next_sent, received_by}
use Rattle.run_model.specs.link_model.Controls.{pdu_fixed}
use Rattle.run_model.specs.link_model.Data.{is_empty}
use Rattle.run_model.specs.link_model.End.{facts_after, facts_of}
use Rattle.run_model.specs.link_model.Facts.{Facts, first_facts}
use Rattle.run_model.specs.link_model.Packets.{good_pdu, is_forged, payload_sent, pdu_sent}
use Rattle.run_model.specs.link_model.Payload.{payload_made}
use Rattle.run_model.specs.link_model.Receiving.{accepts, facts_before_taking, facts_received}
use Rattle.run_model.specs.link_model.Setup.{Setup}
use Rattle.run_model.specs.link_model.Step.{Step, PacketReceived, PacketSent}
use Rattle.run_model.specs.link_model.Verdicts.{pdu_of}
use Rattle.run_model.specs.link_model.enc_phase.Phases.{is_central, seals}
use Rattle.run_model.specs.link_model.enc_phase.Sealing.{EncEnd}
use Rattle.run_model.proofs.link_model.Acknowledging.{ack_heard, ack_sent, forged_leaves}
use Rattle.run_model.proofs.link_model.Agreeing.{others_leave}
use Rattle.run_model.proofs.link_model.Opening.{some_body}
use Rattle.run_model.proofs.link_model.Repeating.{first_payload, payload_kept, sent_again}
use Rattle.run_laws.specs.Ranges.{IsPayload, IsReadable}

-- ---- a payload that is made

-- a longer body leaves it not empty
still_some : (pdu : Pdu) (body : List ℕ) → is_empty pdu ≡ false → 1 ≤ length body → is_empty (record { llid = pdu.llid; body = body }) ≡ false
still_some pdu body is some = by (pdu.llid == 0) is
  where
    by : (none : Bool) → (none || (length pdu.body == 0)) ≡ false → (none || (length body == 0)) ≡ false
    by true t = absurd cc
    by false t = ne_eqb (length body) 0 (λ none. absurd (omega (arith, some, none)))

pub in_clear : (pdu : Pdu) → IsPayload pdu pdu.body
in_clear pdu = record { empty = refl; octets = inl refl }

module _ (end : EncEnd) (pdu : Pdu) where
  abbrev sealed : List ℕ
  sealed = sealed_payload end.key (nonce end.sent (is_central end.role) end.iv) (additional_data pdu.llid) pdu.body

  made_by : (empty does : Bool) → is_empty pdu ≡ empty → IsPayload pdu (if empty then pdu.body else (if does then sealed else pdu.body))
  made_by true does is = in_clear pdu
  made_by false false is = in_clear pdu
  made_by false true is =
      let longer = length-sealed_payload end.key (nonce end.sent (is_central end.role) end.iv) (additional_data pdu.llid) pdu.body in
      let some = some_body pdu is in record {
        empty = still_some pdu sealed is (omega (arith, longer, some)) ∙ sym is;
        octets = inr longer;
      }

  pub made_is : IsPayload pdu (payload_made end pdu)
  made_is = made_by (is_empty pdu) (seals end.role end.phase) refl

-- ---- a PDU that is not acknowledged stays the last one

last_of : {one other : Acknowledgement} → other ≡ one → other.last ≡ one.last
last_of same = ap (λ (a : Acknowledgement). a.last) same

module _ (setup : Setup) (facts : Facts) where
  received_last : (role : Role) (slot : ℕ) (room : Bool) (pdu : Option (List ℕ)) → (facts_received role slot room pdu facts).acknowledgement.last ≡ facts.acknowledgement.last
  received_last role slot room None = refl
  received_last role slot room (Some octets) = last_of (ack_heard role slot room (header_in octets) (pdu_of octets) facts)

  step_last : (step : Step) → is_acked facts.acknowledgement ≡ false → (facts_after setup facts step).acknowledgement.last ≡ facts.acknowledgement.last
  step_last (PacketSent slot) out =
      last_of (ack_sent slot facts) ∙ ap (λ b. (next_sent b (pdu_fixed facts) facts.acknowledgement).last) out
  step_last (PacketReceived slot octets room) out =
      last_of (forged_leaves (is_forged setup facts octets) (facts_received setup.link.role slot room (good_pdu setup facts octets) facts))
      ∙ received_last setup.link.role slot room (good_pdu setup facts octets)
  step_last step out = last_of (others_leave setup facts step refl)

-- what is acknowledged stays so until a new PDU is sent
received_out : (all says accepted : Bool) (pdu : Pdu) (ack : Acknowledgement) → is_acked ack ≡ all → is_acked (received_by (not all && says) accepted pdu ack) ≡ false → all ≡ false
received_out true says accepted pdu ack is out = absurd (let h : true ≡ false = sym is ∙ out in absurd cc)
received_out false says accepted pdu ack is out = refl

pub heard_out : (role : Role) (slot : ℕ) (room : Bool) (pdu : Option (List ℕ)) (facts : Facts) → is_acked (facts_received role slot room pdu facts).acknowledgement ≡ false
    → is_acked facts.acknowledgement ≡ false
heard_out role slot room None facts out = out
heard_out role slot room (Some octets) facts out =
    let header = header_in octets in
    let pdu = pdu_of octets in
    let ack = facts.acknowledgement in
    received_out (is_acked ack) (acknowledges (bits_of ack) header) (accepts room header pdu (facts_before_taking role slot header facts)) pdu ack refl
    (ap is_acked (sym (ack_heard role slot room header pdu facts)) ∙ out)

-- ---- the payload of the PDU that was sent last, until that is acknowledged

abbrev KeepsPayload : Facts → Type 0
KeepsPayload facts = is_acked facts.acknowledgement ≡ false → IsPayload facts.acknowledgement.last facts.outgoing.payload

module _ (setup : Setup) (facts : Facts) where
  payload_again : (step : Step) → is_acked facts.acknowledgement ≡ false → KeepsPayload facts
      → IsPayload (facts_after setup facts step).acknowledgement.last (facts_after setup facts step).outgoing.payload
  payload_again step out has =
      subst (λ pdu. IsPayload pdu (facts_after setup facts step).outgoing.payload) (sym (step_last setup facts step out))
      (subst (IsPayload facts.acknowledgement.last) (sym (payload_kept setup facts step out)) (has out))

  payload_new : (slot : ℕ) → is_acked facts.acknowledgement ≡ true
      → IsPayload (facts_after setup facts (PacketSent slot)).acknowledgement.last (facts_after setup facts (PacketSent slot)).outgoing.payload
  payload_new slot all =
      let last : (facts_after setup facts (PacketSent slot)).acknowledgement.last ≡ pdu_fixed facts =
      last_of (ack_sent slot facts) ∙ ap (λ b. (next_sent b (pdu_fixed facts) facts.acknowledgement).last) all in
      subst (λ pdu. IsPayload pdu (facts_after setup facts (PacketSent slot)).outgoing.payload) (sym last)
      (subst (IsPayload (pdu_fixed facts)) (sym (first_payload facts slot all)) (made_is facts.encryption.end (pdu_fixed facts)))

  step_payload : (step : Step) → KeepsPayload facts → KeepsPayload (facts_after setup facts step)
  step_payload (PacketSent slot) has = λ later. by (is_acked facts.acknowledgement) refl
    where
      by : (acked : Bool) → is_acked facts.acknowledgement ≡ acked
          → IsPayload (facts_after setup facts (PacketSent slot)).acknowledgement.last (facts_after setup facts (PacketSent slot)).outgoing.payload
      by true all = payload_new slot all
      by false out = payload_again (PacketSent slot) out has
  step_payload (PacketReceived slot octets room) has = λ later.
      let received = facts_received setup.link.role slot room (good_pdu setup facts octets) facts in
      payload_again (PacketReceived slot octets room)
      (heard_out setup.link.role slot room (good_pdu setup facts octets) facts
      (ap is_acked (sym (forged_leaves (is_forged setup facts octets) received)) ∙ later)) has
  step_payload step has = λ later. payload_again step (ap is_acked (sym (others_leave setup facts step refl)) ∙ later) has

module _ (setup : Setup) where
  steps_payload : (steps : List Step) (facts : Facts) → KeepsPayload facts → KeepsPayload (fold (facts_after setup) facts steps)
  steps_payload [] facts has = has
  steps_payload (step ∷ steps) facts has = steps_payload steps (facts_after setup facts step) (step_payload setup facts step has)

  past_keeps : (past : List Step) → KeepsPayload (facts_of setup past)
  unfolding facts_of
  past_keeps past = steps_payload past (first_facts setup) (λ out. record { empty = refl; octets = inl refl })

  -- the payload that an end sends
  pub payload_is : (past : List Step) → IsPayload (pdu_sent (facts_of setup past)) (payload_sent (facts_of setup past))
  payload_is past = by (is_acked facts.acknowledgement) refl
    where
      facts : Facts
      facts = facts_of setup past

      by : (acked : Bool) → is_acked facts.acknowledgement ≡ acked
          → IsPayload (if acked then pdu_fixed facts else facts.acknowledgement.last) (if acked then payload_made facts.encryption.end (pdu_fixed facts) else facts.outgoing.payload)
      by true all = made_is facts.encryption.end (pdu_fixed facts)
      by false out = past_keeps past out

-- as it sent that it keeps it
pub payload_out : (setup : Setup) (facts : Facts) (slot : ℕ) → (facts_after setup facts (PacketSent slot)).outgoing.payload ≡ payload_sent facts
payload_out setup facts slot = by (is_acked facts.acknowledgement) refl
  where
    by : (acked : Bool) → is_acked facts.acknowledgement ≡ acked → (facts_after setup facts (PacketSent slot)).outgoing.payload ≡ payload_sent facts
    by true all = first_payload facts slot all ∙ sym (ap (λ b. if b then payload_made facts.encryption.end (pdu_fixed facts) else facts.outgoing.payload) all)
    by false out = payload_kept setup facts (PacketSent slot) out ∙ sym (sent_again facts out)

-- it has at most 255 octets where the body has at most 251
pub payload_short : (facts : Facts) → IsReadable facts → length (payload_sent facts) ≤ 255
payload_short facts is = by is.payload.octets
  where
    by : (payload_sent facts ≡ (pdu_sent facts).body) ⊎ (length (payload_sent facts) ≡ length (pdu_sent facts).body + 4) → length (payload_sent facts) ≤ 255
    by (inl same) = let short = is.short in let equal = ap length same in omega (arith, short, equal)
    by (inr longer) = let short = is.short in omega (arith, short, longer)
