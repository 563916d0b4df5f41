-- Where the control PDU that an end sent last was taken, each control PDU that it sent was taken.
use Rattle.std.proofs.Common.{◌≡◌, ℕ, zero, suc, ◌+◌, ◌-◌, ◌≤◌, not, cond, Bool, true, false, Some, List, [], ◌∷◌, ◌++◌, length, take, take_all, drop, refl, sym, ap, ◌∙◌, arith, length-append, slice_get}
use Rattle.std.proofs.lemmas.Bool.{and_from}
use Rattle.std.proofs.lemmas.List.{take-append-drop}
use Rattle.std.proofs.lemmas.List.Elements.{filter-append}
use Rattle.ack_bit.specs.InStep.{IsInStep}
use Rattle.ack_bit.specs.Nonempty.{IsReliableNonempty, nonempty}
use Rattle.ack_bit.proofs.Directions.{last-push, last_again}
use Rattle.ack_bit.proofs.Nonempties.{reliable_nonempty}
use Rattle.journal_collisions.specs.journal_data.link_model.Acknowledgement.{Acknowledgement, Pdu, end_of}
use Rattle.journal_collisions.specs.journal_data.link_model.Controls.{is_procedure_pdu}
use Rattle.journal_collisions.specs.journal_data.link_model.Data.{is_control, is_empty}
use Rattle.journal_collisions.specs.journal_data.link_model.OneLink.{AreInAgreement}

-- ---- the PDUs that are not empty

-- the first PDUs have no more of them than all
fewer : (count : ℕ) (pdus : List Pdu) → length (nonempty is_empty (take count pdus)) ≤ length (nonempty is_empty pdus)
fewer count pdus =
    let first = nonempty is_empty (take count pdus) in
    let rest = nonempty is_empty (drop count pdus) in
    let whole : nonempty is_empty pdus ≡ first ++ rest =
    ap (nonempty is_empty) (sym (take-append-drop count pdus)) ∙ filter-append (λ pdu. not (is_empty pdu)) (take count pdus) (drop count pdus) in
    let both = ap length whole ∙ length-append first rest in omega (arith, both)

take_fewer : (few many : ℕ) (pdus : List Pdu) → few ≤ many → take few (take many pdus) ≡ take few pdus
take_fewer zero many pdus less = refl
take_fewer (suc few) zero pdus less = absurd (omega arith)
take_fewer (suc few) (suc many) [] less = refl
take_fewer (suc few) (suc many) (pdu ∷ pdus) less = ap (λ rest. pdu ∷ rest) (take_fewer few many pdus (omega arith))

-- an empty PDU at the end is none of them
last_empty : (pdus : List Pdu) (last : Pdu) → slice_get pdus (length pdus - 1) ≡ Some last → is_empty last ≡ true
    → nonempty is_empty pdus ≡ nonempty is_empty (take (length pdus - 1) pdus) ++ []
last_empty pdus last is empty =
    ap (nonempty is_empty) (last_again pdus last is)
    ∙ filter-append (λ pdu. not (is_empty pdu)) (take (length pdus - 1) pdus) (last ∷ [])
    ∙ ap (λ b. nonempty is_empty (take (length pdus - 1) pdus) ++ cond (not b) (last ∷ []) []) empty

-- ---- a control PDU that an end sent

module _ (own far : Acknowledgement) (before : List Pdu) (body : List ℕ) (agreed : AreInAgreement own far)
    (last_taken : is_procedure_pdu own.last ≡ true → length far.accepted ≡ length own.sent) where
  abbrev control : Pdu
  control = record { llid = 3; body = body }

  abbrev step : IsInStep (end_of own) (end_of far)
  step = agreed.from_a

  abbrev some : List Pdu → List Pdu
  some pdus = nonempty is_empty pdus

  reliable : IsReliableNonempty is_empty (end_of own) (end_of far)
  reliable = reliable_nonempty is_empty (end_of own) (end_of far) step

  -- another was sent after it
  earlier_taken : (pdu : Pdu) (after : List Pdu) → some own.sent ≡ before ++ control ∷ pdu ∷ after → length before + 1 ≤ length (some far.accepted)
  earlier_taken pdu after is =
      let count = ap length is ∙ length-append before (control ∷ pdu ∷ after) in
      let ahead = reliable.at_most_one_ahead in omega (arith, count, ahead)

  -- an empty PDU was sent after it
  then_empty : is_empty own.last ≡ true → some own.sent ≡ before ++ control ∷ [] → length before + 1 ≤ length (some far.accepted)
  then_empty empty is =
      let sent = own.sent in
      let front = length sent - 1 in
      let count = ap length is ∙ length-append before (control ∷ []) in
      let kept = ap length (last_empty sent own.last step.last empty) ∙ length-append (some (take front sent)) [] in
      let ahead = step.reliable.at_most_one_ahead in
      let accepted : take front far.accepted ≡ take front sent =
      ap (take front) step.reliable.in_order ∙ take_fewer front (length far.accepted) sent (omega (arith, ahead)) in
      let same = ap (λ pdus. length (some pdus)) accepted in
      let few = fewer front far.accepted in omega (arith, count, kept, same, few)

  -- it is the last one
  is_last : is_empty own.last ≡ false → some own.sent ≡ before ++ control ∷ [] → length before + 1 ≤ length (some far.accepted)
  is_last full is =
      let equal : Some control ≡ Some own.last =
      sym (last-push before control) ∙ ap (λ pdus. slice_get pdus (length pdus - 1)) (sym is) ∙ reliable.last full in
      let same : control ≡ own.last = cc in
      let procedure : is_procedure_pdu own.last ≡ true =
      and_from (is_control own.last) (not (is_empty own.last)) (ap is_control (sym same)) (ap not full) in
      let all = last_taken procedure in
      let accepted : far.accepted ≡ own.sent = step.reliable.in_order ∙ ap (λ n. take n own.sent) all ∙ take_all (length own.sent) own.sent (omega arith) in
      let count = ap (λ pdus. length (some pdus)) accepted ∙ ap length is ∙ length-append before (control ∷ []) in omega (arith, count)

  pub control_taken : (after : List Pdu) → some own.sent ≡ before ++ control ∷ after → length before + 1 ≤ length (some far.accepted)
  control_taken (pdu ∷ after) is = earlier_taken pdu after is
  control_taken [] is = by (is_empty own.last) refl
    where
      by : (empty : Bool) → is_empty own.last ≡ empty → length before + 1 ≤ length (some far.accepted)
      by true empty = then_empty empty is
      by false full = is_last full is
