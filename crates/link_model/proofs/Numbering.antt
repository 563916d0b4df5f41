-- The notes of what an end sent and took have numbers in order.
use Rattle.std.proofs.Common.{◌≡◌, ℕ, ◌+◌, ◌&&◌, Bool, true, false, not, List, [], ◌∷◌, ◌++◌, fold, length, Option, Some, None, refl, ap, sym, ◌∙◌, arith, if◌then◌else◌, subst}
use Rattle.std.specs.List.{filter}
use Rattle.std.proofs.lemmas.List.{append-nil, append_assoc}
use Rattle.std.proofs.lemmas.List.Elements.{filter-append}
use Rattle.ble_base.specs.declared.error_codes.ErrCode.{ErrCode}
use Rattle.ble_base.specs.declared.notes.Note.{Note}
use Rattle.ble_base.specs.declared.procedure_kinds.Kind.{Kind}
use Rattle.ack_bit.specs.Nonempty.{nonempty}
use Rattle.data_pdu.specs.declared.header.DataHeader.{DataHeader}
use Rattle.data_pdu.specs.Header.{header_in}
use Rattle.phased_end.specs.control_end.declared.answers.Entry.{Entry}
use Rattle.phased_end.specs.control_end.declared.answers.Taken.{Taken}
use Rattle.phased_end.specs.control_end.Answers.{entry_of}
use Rattle.phased_end.specs.control_end.Held.{held_of}
use Rattle.link_model.specs.Setup.{Setup}
use Rattle.link_model.specs.declared.events.ConnectionEvent.{ConnectionEvent}
use Rattle.link_model.specs.Acknowledgement.{Acknowledgement, Pdu, is_acked}
use Rattle.link_model.specs.Data.{is_control, is_empty, numbered}
use Rattle.link_model.specs.Numbers.{is_sent_note, is_took_note, numbered_notes, sent_note, took_note}
use Rattle.link_model.specs.Events.{applied_notes}
use Rattle.link_model.specs.Verdicts.{pdu_of}
use Rattle.link_model.specs.Facts.{Facts, first_facts}
use Rattle.link_model.specs.Step.{Step, DataGiven, DataReported, Disconnected, EventEntered, PacketReceived, PacketSent, PduFixed, ProcedureAsked, RequestAnswered, KeyAnswered, WordsGiven}
use Rattle.link_model.specs.Controls.{goes_on, is_procedure_pdu, is_quiet_now, pdu_fixed}
use Rattle.link_model.specs.Entering.{began_notes, done_notes, entry_notes, event_notes, facts_entered}
use Rattle.link_model.specs.Hosts.{is_to_come}
use Rattle.link_model.specs.Packets.{good_pdu, is_forged}
use Rattle.link_model.specs.Sending.{sent_notes, sent_notes_if}
use Rattle.link_model.specs.Receiving.{accepts, acked_kind, acks_control, facts_before_taking, facts_hearing, facts_received, given_if, given_notes, has_acknowledged, notes_hearing, received_notes, refused_notes, took_notes_if, kept_given_if}
use Rattle.link_model.specs.End.{facts_after, facts_of, notes_after, notes_from, notes_of}
use Rattle.link_model.specs.Delivery.{AreNumbered}
use Rattle.link_model.proofs.Acknowledging.{ack_before_taking, ack_heard, ack_sent, asked_leaves, entered_leaves, fixed_leaves, forged_leaves}

-- ---- a list with one PDU more

-- it has the next number
notes-append : (note : ℕ → Pdu → Note) (number : ℕ) (pdus : List Pdu) (pdu : Pdu)
    → numbered_notes note number (pdus ++ pdu ∷ []) ≡ numbered_notes note number pdus ++ note (number + length pdus) pdu ∷ []
notes-append note number [] pdu = let same : number + 0 ≡ number = omega arith in ap (λ n. note n pdu ∷ []) (sym same)
notes-append note number (first ∷ pdus) pdu =
    let same : number + 1 + length pdus ≡ number + length (first ∷ pdus) = omega arith in
    ap (λ rest. note number first ∷ rest)
    (notes-append note (number + 1) pdus pdu ∙ ap (λ n. numbered_notes note (number + 1) pdus ++ note n pdu ∷ []) same)

pub nonempty-push : (pdus : List Pdu) (pdu : Pdu) (empty : Bool) → is_empty pdu ≡ empty
    → nonempty is_empty (pdus ++ pdu ∷ []) ≡ nonempty is_empty pdus ++ (if not empty then pdu ∷ [] else [])
nonempty-push pdus pdu empty is =
    filter-append (λ p. not (is_empty p)) pdus (pdu ∷ [])
    ∙ ap (λ b. nonempty is_empty pdus ++ (if not b then pdu ∷ [] else [])) is

-- a PDU that is new has a note where it is not empty
module _ (note : ℕ → Pdu → Note) where
  pushed : (pdus : List Pdu) (pdu : Pdu) (is_new empty : Bool) → is_empty pdu ≡ empty
      → numbered_notes note 1 (nonempty is_empty (if is_new then pdus ++ pdu ∷ [] else pdus))
      ≡ numbered_notes note 1 (nonempty is_empty pdus) ++ (if is_new && not empty then note (numbered pdus + 1) pdu ∷ [] else [])
  pushed pdus pdu false empty is = sym (append-nil (numbered_notes note 1 (nonempty is_empty pdus)))
  pushed pdus pdu true true is =
      ap (numbered_notes note 1) (nonempty-push pdus pdu true is ∙ append-nil (nonempty is_empty pdus))
      ∙ sym (append-nil (numbered_notes note 1 (nonempty is_empty pdus)))
  pushed pdus pdu true false is =
      let next : 1 + length (nonempty is_empty pdus) ≡ numbered pdus + 1 = omega arith in
      ap (numbered_notes note 1) (nonempty-push pdus pdu false is)
      ∙ notes-append note 1 (nonempty is_empty pdus) pdu
      ∙ ap (λ n. numbered_notes note 1 (nonempty is_empty pdus) ++ note n pdu ∷ []) next

-- ---- notes of other kinds

record AreOthers (notes : List Note) : Type 0 where
  sent : filter is_sent_note notes ≡ []
  took : filter is_took_note notes ≡ []

no_others : AreOthers []
no_others = record { sent = refl; took = refl }

-- what is left of three parts, of which the first and the last have none
between : (test : Note → Bool) (front notes rest : List Note) → filter test front ≡ [] → filter test rest ≡ []
    → filter test (front ++ (notes ++ rest)) ≡ filter test notes
between test front notes rest no_front no_rest =
    filter-append test front (notes ++ rest)
    ∙ ap (λ (ns : List Note). ns ++ filter test (notes ++ rest)) no_front
    ∙ filter-append test notes rest
    ∙ ap (λ (ns : List Note). filter test notes ++ ns) no_rest
    ∙ append-nil (filter test notes)

both_others : (front notes : List Note) → AreOthers front → AreOthers notes → AreOthers (front ++ notes)
both_others front notes are more =
    record {
      sent = filter-append is_sent_note front notes ∙ ap (λ (ns : List Note). ns ++ filter is_sent_note notes) are.sent ∙ more.sent;
      took = filter-append is_took_note front notes ∙ ap (λ (ns : List Note). ns ++ filter is_took_note notes) are.took ∙ more.took;
    }

done_others : (handle : ℕ) (kind : Option Kind) → AreOthers (done_notes handle kind)
done_others handle None = no_others
done_others handle (Some kind) = record { sent = refl; took = refl }

began_others : (handle : ℕ) (kind : Option Kind) → AreOthers (began_notes handle kind)
began_others handle None = no_others
began_others handle (Some kind) = record { sent = refl; took = refl }

refused_others : (handle : ℕ) (refused : Option (Kind × ErrCode)) → AreOthers (refused_notes handle refused)
refused_others handle None = no_others
refused_others handle (Some (kind, code)) = record { sent = refl; took = refl }

applied_others : (handle event : ℕ) (number : Option ℕ) → AreOthers (applied_notes handle event number)
applied_others handle event None = no_others
applied_others handle event (Some number) = record { sent = refl; took = refl }

event_others : (handle : ℕ) (event : ConnectionEvent) (entry : Entry) → AreOthers (event_notes handle event entry)
event_others handle event entry =
    both_others _ _
    (both_others _ _ (both_others _ _ (applied_others handle event.number entry.applied) (record { sent = refl; took = refl }))
    (done_others handle entry.done)) (began_others handle entry.began)

given_others : (handle : ℕ) (given : Taken) → AreOthers (given_notes handle given)
given_others handle given = both_others _ _ (refused_others handle given.refused) (done_others handle given.done)

either_others : (goes : Bool) (notes : List Note) → AreOthers notes → AreOthers (if goes then notes else [])
either_others true notes are = are
either_others false notes are = no_others

sent_as_sent : (is_noted : Bool) (handle number : ℕ) (pdu : Pdu)
    → filter is_sent_note (sent_notes_if is_noted handle number pdu) ≡ sent_notes_if is_noted handle number pdu
sent_as_sent true handle number pdu = refl
sent_as_sent false handle number pdu = refl

no_took_as_sent : (is_noted : Bool) (handle number : ℕ) (pdu : Pdu) → filter is_took_note (sent_notes_if is_noted handle number pdu) ≡ []
no_took_as_sent true handle number pdu = refl
no_took_as_sent false handle number pdu = refl

took_as_taken : (is_noted : Bool) (handle : ℕ) (pdu : Pdu) (facts : Facts)
    → filter is_took_note (took_notes_if is_noted handle pdu facts) ≡ took_notes_if is_noted handle pdu facts
took_as_taken true handle pdu facts = refl
took_as_taken false handle pdu facts = refl

no_sent_as_taken : (is_noted : Bool) (handle : ℕ) (pdu : Pdu) (facts : Facts)
    → filter is_sent_note (took_notes_if is_noted handle pdu facts) ≡ []
no_sent_as_taken true handle pdu facts = refl
no_sent_as_taken false handle pdu facts = refl

-- ---- step by step

-- the notes between two lists of PDUs are those of the ones that came to them
abbrev pub Follows : (Note → Bool) → (ℕ → Pdu → Note) → List Pdu → List Pdu → List Note → Type 0
Follows test note before after notes =
    numbered_notes note 1 (nonempty is_empty after) ≡ numbered_notes note 1 (nonempty is_empty before) ++ filter test notes

no_notes : (test : Note → Bool) (note : ℕ → Pdu → Note) (before after : List Pdu) (notes : List Note) → after ≡ before
    → filter test notes ≡ [] → Follows test note before after notes
no_notes test note before after notes same none =
    ap (λ pdus. numbered_notes note 1 (nonempty is_empty pdus)) same
    ∙ sym (append-nil (numbered_notes note 1 (nonempty is_empty before)))
    ∙ ap (λ ns. numbered_notes note 1 (nonempty is_empty before) ++ ns) (sym none)

-- in a step that leaves what was sent and accepted, nothing of it is noted
pub record IsFollowed (setup : Setup) (before after : Acknowledgement) (notes : List Note) : Type 0 where
  pub sent : Follows is_sent_note (sent_note setup.link.handle) before.sent after.sent notes
  pub took : Follows is_took_note (took_note setup.link.handle) before.accepted after.accepted notes

leaves : (setup : Setup) (before after : Acknowledgement) (notes : List Note) → after ≡ before → AreOthers notes
    → IsFollowed setup before after notes
leaves setup before after notes same are =
    record {
      sent = no_notes is_sent_note (sent_note setup.link.handle) before.sent after.sent notes (ap (λ (a : Acknowledgement). a.sent) same) are.sent;
      took = no_notes is_took_note (took_note setup.link.handle) before.accepted after.accepted notes
          (ap (λ (a : Acknowledgement). a.accepted) same) are.took;
    }

module _ (setup : Setup) where
  abbrev before_sent : Facts → List Note
  before_sent facts = numbered_notes (sent_note setup.link.handle) 1 (nonempty is_empty facts.acknowledgement.sent)

  abbrev before_took : Facts → List Note
  before_took facts = numbered_notes (took_note setup.link.handle) 1 (nonempty is_empty facts.acknowledgement.accepted)

  entered : (slot : ℕ) (facts : Facts)
      → IsFollowed setup facts.acknowledgement (facts_after setup facts (EventEntered slot)).acknowledgement (entry_notes setup slot facts)
  entered slot facts =
      leaves setup facts.acknowledgement _ (entry_notes setup slot facts) (entered_leaves (goes_on facts) setup slot facts)
      (either_others (goes_on facts) _
      (event_others setup.link.handle (facts_entered setup slot facts).event (entry_of slot (is_quiet_now facts) (held_of facts.control))))

  sends : (slot : ℕ) (facts : Facts)
      → IsFollowed setup facts.acknowledgement (facts_after setup facts (PacketSent slot)).acknowledgement (sent_notes setup facts)
  sends slot facts =
      let ack = facts.acknowledgement in
      let next = pdu_fixed facts in
      let noted = is_acked ack && not (is_empty next) in
      record {
        sent = ap (λ (a : Acknowledgement). numbered_notes (sent_note setup.link.handle) 1 (nonempty is_empty a.sent)) (ack_sent slot facts)
            ∙ pushed (sent_note setup.link.handle) ack.sent next (is_acked ack) (is_empty next) refl
            ∙ ap (λ ns. before_sent facts ++ ns) (sym (sent_as_sent noted setup.link.handle (numbered ack.sent) next));
        took = no_notes is_took_note (took_note setup.link.handle) ack.accepted _ (sent_notes setup facts)
            (ap (λ (a : Acknowledgement). a.accepted) (ack_sent slot facts)) (no_took_as_sent noted setup.link.handle (numbered ack.sent) next);
      }

  hears : (slot : ℕ) (room : Bool) (header : DataHeader) (pdu : Pdu) (facts : Facts)
      → IsFollowed setup facts.acknowledgement (facts_hearing setup.link.role slot room header pdu facts).acknowledgement
      (notes_hearing setup slot room header pdu facts)
  hears slot room header pdu facts =
      let ack = facts.acknowledgement in
      let now = facts_before_taking setup.link.role slot header facts in
      let accepted = accepts room header pdu now in
      let noted = accepted && not (is_empty pdu) in
      let front = done_notes setup.link.handle (acked_kind (acks_control (has_acknowledged facts header) facts) facts) in
      let mid = took_notes_if noted setup.link.handle pdu now in
      let given = given_if (accepted && is_procedure_pdu pdu) pdu slot now in
      let front_are = done_others setup.link.handle (acked_kind (acks_control (has_acknowledged facts header) facts) facts) in
      let kept = kept_given_if (accepted && is_procedure_pdu pdu) pdu slot now in
      let rest = given_notes setup.link.handle given ++ given_notes setup.link.handle kept in
      let rest_are = both_others _ _ (given_others setup.link.handle given) (given_others setup.link.handle kept) in
      let heard = ack_heard setup.link.role slot room header pdu facts in
      record {
        sent = no_notes is_sent_note (sent_note setup.link.handle) ack.sent _ (notes_hearing setup slot room header pdu facts)
            (ap (λ (a : Acknowledgement). a.sent) heard)
            (between is_sent_note front mid rest front_are.sent rest_are.sent
            ∙ no_sent_as_taken noted setup.link.handle pdu now);
        took = ap (λ (a : Acknowledgement). numbered_notes (took_note setup.link.handle) 1 (nonempty is_empty a.accepted)) heard
            ∙ pushed (took_note setup.link.handle) ack.accepted pdu accepted (is_empty pdu) refl
            ∙ ap (λ ns. before_took facts ++ ns)
            (sym (between is_took_note front mid rest front_are.took rest_are.took
            ∙ took_as_taken noted setup.link.handle pdu now
            ∙ ap (λ (a : Acknowledgement). if noted then took_note setup.link.handle (numbered a.accepted + 1) pdu ∷ [] else [])
            (ack_before_taking setup.link.role slot header facts)));
      }

  receives : (slot : ℕ) (room : Bool) (pdu : Option (List ℕ)) (facts : Facts)
      → IsFollowed setup facts.acknowledgement (facts_received setup.link.role slot room pdu facts).acknowledgement
      (received_notes setup slot room pdu facts)
  receives slot room None facts = leaves setup facts.acknowledgement facts.acknowledgement [] refl no_others
  receives slot room (Some octets) facts = hears slot room (header_in octets) (pdu_of octets) facts

  pub step_numbered : (facts : Facts) (step : Step)
      → IsFollowed setup facts.acknowledgement (facts_after setup facts step).acknowledgement (notes_after setup facts step)
  step_numbered facts (DataGiven start body) = leaves setup facts.acknowledgement _ [] refl no_others
  step_numbered facts (ProcedureAsked ask) = leaves setup facts.acknowledgement _ [] (asked_leaves (is_to_come ask facts) ask facts) no_others
  step_numbered facts (RequestAnswered answer) = leaves setup facts.acknowledgement _ [] refl no_others
  step_numbered facts (KeyAnswered key slot) = leaves setup facts.acknowledgement _ [] refl no_others
  step_numbered facts (Disconnected reason slot) = leaves setup facts.acknowledgement _ [] refl no_others
  step_numbered facts (EventEntered slot) = entered slot facts
  step_numbered facts PduFixed =
      leaves setup facts.acknowledgement _ [] (fixed_leaves (is_control facts.outgoing.fixed) facts) no_others
  step_numbered facts (PacketSent slot) = sends slot facts
  step_numbered facts (WordsGiven skd_s iv_s) = leaves setup facts.acknowledgement _ [] refl no_others
  step_numbered facts (PacketReceived slot octets room) =
      let pdu = good_pdu setup facts octets in
      let later = facts_received setup.link.role slot room pdu facts in
      subst (λ (a : Acknowledgement). IsFollowed setup facts.acknowledgement a
      (received_notes setup slot room pdu facts))
      (sym (forged_leaves (is_forged setup facts octets) later)) (receives slot room pdu facts)
  step_numbered facts DataReported = leaves setup facts.acknowledgement _ [] refl no_others

  -- ---- all steps

  module _ (test : Note → Bool) (note : ℕ → Pdu → Note) (part : Facts → List Pdu)
      (one : (facts : Facts) (step : Step) → Follows test note (part facts) (part (facts_after setup facts step)) (notes_after setup facts step))
    where
      steps_follow : (facts : Facts) (steps : List Step)
          → Follows test note (part facts) (part (fold (facts_after setup) facts steps)) (notes_from setup facts steps)
      steps_follow facts [] = no_notes test note (part facts) (part facts) [] refl refl
      steps_follow facts (step ∷ steps) =
          let next = facts_after setup facts step in
          let before = numbered_notes note 1 (nonempty is_empty (part facts)) in
          steps_follow next steps
          ∙ ap (λ ns. ns ++ filter test (notes_from setup next steps)) (one facts step)
          ∙ append_assoc before (filter test (notes_after setup facts step)) (filter test (notes_from setup next steps))
          ∙ ap (λ ns. before ++ ns) (sym (filter-append test (notes_after setup facts step) (notes_from setup next steps)))

  pub are_numbered : (past : List Step) → AreNumbered setup past
  unfolding facts_of notes_of
  are_numbered past =
      record {
        sent = sym (steps_follow is_sent_note (sent_note setup.link.handle) (λ (facts : Facts). facts.acknowledgement.sent)
            (λ facts step. (step_numbered facts step).sent) (first_facts setup) past);
        took = sym (steps_follow is_took_note (took_note setup.link.handle) (λ (facts : Facts). facts.acknowledgement.accepted)
            (λ facts step. (step_numbered facts step).took) (first_facts setup) past);
      }
