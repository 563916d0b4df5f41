-- While an end sends no new PDU, and the last one is not acknowledged, its payload stays, in all phases of encryption.
use Rattle.std.proofs.Common.{◌≡◌, ℕ, ◌≤◌, Bool, true, false, Option, Some, None, List, [], ◌∷◌, ◌++◌, fold, length, refl, sym, ap, ◌∙◌, arith}
use Rattle.std.proofs.lemmas.List.{length_push}
use Rattle.ble_base.specs.declared.roles.Role.{Role}
use Rattle.data_pdu.specs.Header.{header_in}
use Rattle.journal_controls.specs.link_model.Acknowledgement.{Acknowledgement, Pdu, is_acked, next_sent}
use Rattle.journal_controls.specs.link_model.Controls.{pdu_fixed}
use Rattle.journal_controls.specs.link_model.End.{facts_after}
use Rattle.journal_controls.specs.link_model.Facts.{Facts}
use Rattle.journal_controls.specs.link_model.Packets.{good_pdu, is_forged}
use Rattle.journal_controls.specs.link_model.Receiving.{facts_received}
use Rattle.journal_controls.specs.link_model.Setup.{Setup}
use Rattle.journal_controls.specs.link_model.Step.{Step, PacketReceived, PacketSent}
use Rattle.journal_controls.specs.link_model.Verdicts.{pdu_of}
use Rattle.journal_controls.specs.open_links.OpenLinks.{OpenLink, facts_in}
use Rattle.journal_controls.proofs.FixedEnds.{grown_facts}
use Rattle.journal_controls.proofs.link_model.Acknowledging.{ack_heard, ack_sent, forged_leaves}
use Rattle.journal_controls.proofs.link_model.Agreeing.{others_leave}
use Rattle.journal_controls.proofs.link_model.Repeating.{payload_kept}
use Rattle.journal_acks.proofs.run_laws.Payloads.{heard_out}

-- ---- a step

abbrev sent_count : Facts → ℕ
sent_count facts = length facts.acknowledgement.sent

-- what a step leaves of an end that sends no new PDU in it, and whose last one is not acknowledged after it
record IsSame (before after : Facts) : Type 0 where
  out : is_acked before.acknowledgement ≡ false
  payload : after.outgoing.payload ≡ before.outgoing.payload

-- a new PDU is one more
next_grows : (acked : Bool) (next : Pdu) (ack : Acknowledgement) → length ack.sent ≤ length (next_sent acked next ack).sent
next_grows true next ack = let more = length_push ack.sent next in omega (arith, more)
next_grows false next ack = omega arith

next_out : (acked : Bool) (next : Pdu) (ack : Acknowledgement) → is_acked ack ≡ acked → length (next_sent acked next ack).sent ≡ length ack.sent → is_acked ack ≡ false
next_out true next ack is same = absurd (let more = length_push ack.sent next in omega (arith, more, same))
next_out false next ack is same = is

received_sent : (role : Role) (slot : ℕ) (room : Bool) (pdu : Option (List ℕ)) (facts : Facts)
    → (facts_received role slot room pdu facts).acknowledgement.sent ≡ facts.acknowledgement.sent
received_sent role slot room None facts = refl
received_sent role slot room (Some octets) facts =
    ap (λ (ack : Acknowledgement). ack.sent) (ack_heard role slot room (header_in octets) (pdu_of octets) facts)

module _ (setup : Setup) where
  step_grows : (facts : Facts) (step : Step) → sent_count facts ≤ sent_count (facts_after setup facts step)
  step_grows facts (PacketSent slot) =
      let same = ap (λ (ack : Acknowledgement). length ack.sent) (ack_sent slot facts) in
      let more = next_grows (is_acked facts.acknowledgement) (pdu_fixed facts) facts.acknowledgement in
      omega (arith, same, more)
  step_grows facts (PacketReceived slot octets room) =
      let received = facts_received setup.link.role slot room (good_pdu setup facts octets) facts in
      let forged = ap (λ (ack : Acknowledgement). length ack.sent) (forged_leaves (is_forged setup facts octets) received) in
      let same = ap length (received_sent setup.link.role slot room (good_pdu setup facts octets) facts) in
      omega (arith, forged, same)
  step_grows facts step =
      let same = ap (λ (ack : Acknowledgement). length ack.sent) (others_leave setup facts step refl) in omega (arith, same)

  step_out : (facts : Facts) (step : Step) → sent_count (facts_after setup facts step) ≡ sent_count facts → is_acked (facts_after setup facts step).acknowledgement ≡ false
      → is_acked facts.acknowledgement ≡ false
  step_out facts (PacketSent slot) same out =
      next_out (is_acked facts.acknowledgement) (pdu_fixed facts) facts.acknowledgement refl
      (ap (λ (ack : Acknowledgement). length ack.sent) (sym (ack_sent slot facts)) ∙ same)
  step_out facts (PacketReceived slot octets room) same out =
      let received = facts_received setup.link.role slot room (good_pdu setup facts octets) facts in
      heard_out setup.link.role slot room (good_pdu setup facts octets) facts (ap is_acked (sym (forged_leaves (is_forged setup facts octets) received)) ∙ out)
  step_out facts step same out = ap is_acked (sym (others_leave setup facts step refl)) ∙ out

  -- ---- several steps

  steps_grow : (steps : List Step) (facts : Facts) → sent_count facts ≤ sent_count (fold (facts_after setup) facts steps)
  steps_grow [] facts = omega arith
  steps_grow (step ∷ steps) facts =
      let first = step_grows facts step in
      let rest = steps_grow steps (facts_after setup facts step) in
      omega (arith, first, rest)

  steps_same : (steps : List Step) (facts : Facts) → sent_count (fold (facts_after setup) facts steps) ≤ sent_count facts
      → is_acked (fold (facts_after setup) facts steps).acknowledgement ≡ false → IsSame facts (fold (facts_after setup) facts steps)
  steps_same [] facts few out = record { out = out; payload = refl }
  steps_same (step ∷ steps) facts few out =
      let next = facts_after setup facts step in
      let first = step_grows facts step in
      let rest = steps_grow steps next in
      let later = steps_same steps next (omega (arith, few, first)) out in
      let before = step_out facts step (omega (arith, few, first, rest)) later.out in
      record { out = before; payload = later.payload ∙ payload_kept setup facts step before }

-- ---- a link to which more happened

module _ (base after : OpenLink) (steps : List Step) (setup_is : after.setup ≡ base.setup) (past_is : after.past ≡ base.past ++ steps) where
  same : facts_in after ≡ fold (facts_after base.setup) (facts_in base) steps
  same = grown_facts base after steps setup_is past_is

  pub link_grows : length (facts_in base).acknowledgement.sent ≤ length (facts_in after).acknowledgement.sent
  link_grows =
      let grown = steps_grow base.setup steps (facts_in base) in
      let equal = ap sent_count same in
      omega (arith, grown, equal)

  link_same : length (facts_in after).acknowledgement.sent ≤ length (facts_in base).acknowledgement.sent → is_acked (facts_in after).acknowledgement ≡ false
      → IsSame (facts_in base) (fold (facts_after base.setup) (facts_in base) steps)
  link_same few out =
      let equal = ap sent_count same in
      steps_same base.setup steps (facts_in base) (omega (arith, few, equal)) (ap (λ (f : Facts). is_acked f.acknowledgement) (sym same) ∙ out)

  pub link_out : length (facts_in after).acknowledgement.sent ≤ length (facts_in base).acknowledgement.sent → is_acked (facts_in after).acknowledgement ≡ false
      → is_acked (facts_in base).acknowledgement ≡ false
  link_out few out = (link_same few out).out

  pub link_payload : length (facts_in after).acknowledgement.sent ≤ length (facts_in base).acknowledgement.sent → is_acked (facts_in after).acknowledgement ≡ false
      → (facts_in after).outgoing.payload ≡ (facts_in base).outgoing.payload
  link_payload few out = ap (λ (f : Facts). f.outgoing.payload) same ∙ (link_same few out).payload
