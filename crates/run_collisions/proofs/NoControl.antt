-- Among the notes of a step in which no new control PDU is sent is none that one is.
use Rattle.std.proofs.Common.{◌≡◌, ℕ, ◌+◌, ◌&&◌, not, Bool, true, false, List, [], ◌∷◌, ◌++◌, Option, Some, None, refl, sym, ◌∙◌, subst, if◌then◌else◌}
use Rattle.std.specs.Prelude.{⊤}
use Rattle.std.specs.List.{All}
use Rattle.std.proofs.lemmas.Bool.{eq-eqb}
use Rattle.std.proofs.lemmas.List.Elements.{All-append, All-cons, All-head, All-nil, All-tail}
use Rattle.ble_base.specs.declared.error_codes.ErrCode.{ErrCode}
use Rattle.ble_base.specs.declared.notes.Note.{Note}
use Rattle.ble_base.specs.declared.notes.Note.TheVariants.{Began, Done, Enter, Refused, Sent, Took}
use Rattle.ble_base.specs.declared.procedure_kinds.Kind.{Kind}
use Rattle.data_pdu.specs.Header.{header_in}
use Rattle.link_pairs.specs.control_end.declared.answers.Entry.{Entry}
use Rattle.link_pairs.specs.control_end.declared.answers.Taken.{Taken}
use Rattle.link_pairs.specs.control_end.Answers.{entry_of}
use Rattle.link_pairs.specs.control_end.Held.{held_of}
use Rattle.link_pairs.specs.link_model.declared.events.ConnectionEvent.{ConnectionEvent}
use Rattle.link_pairs.specs.link_model.Acknowledgement.{Pdu, is_acked}
use Rattle.link_pairs.specs.link_model.Controls.{goes_on, is_procedure_pdu, is_quiet_now, next_control, pdu_of_control}
use Rattle.link_pairs.specs.link_model.Data.{is_control, is_empty, numbered}
use Rattle.link_pairs.specs.link_model.End.{notes_after}
use Rattle.link_pairs.specs.link_model.Entering.{began_notes, done_notes, event_notes, facts_entered}
use Rattle.link_pairs.specs.link_model.Events.{applied_notes}
use Rattle.link_pairs.specs.link_model.Facts.{Facts}
use Rattle.link_pairs.specs.link_model.Packets.{good_pdu}
use Rattle.link_pairs.specs.link_model.Receiving.{accepts, acked_kind, acks_control, facts_before_taking, given_if, given_notes, has_acknowledged, kept_given_if, received_notes, refused_notes, taken_notes, took_notes_if}
use Rattle.link_pairs.specs.link_model.Sending.{sent_notes_if}
use Rattle.link_pairs.specs.link_model.Setup.{Setup}
use Rattle.link_pairs.specs.link_model.Step.{Step, DataGiven, DataReported, Disconnected, EventEntered, KeyAnswered, PacketReceived, PacketSent, PduFixed, ProcedureAsked, RequestAnswered, WordsGiven}
use Rattle.link_pairs.specs.link_model.Verdicts.{pdu_of}
use Rattle.run_collisions.specs.Waiting.{sends_control}

-- a note that a PDU is sent is not of a control PDU
abbrev NoControl : Note → Type 0
NoControl (Sent handle number llid body) = llid ≡ 3 → ⊥
NoControl note = ⊤

done_none : (handle : ℕ) (done : Option Kind) → All NoControl (done_notes handle done)
done_none handle None = All-nil NoControl
done_none handle (Some kind) = All-cons NoControl (Done handle kind) [] tt (All-nil NoControl)

began_none : (handle : ℕ) (began : Option Kind) → All NoControl (began_notes handle began)
began_none handle None = All-nil NoControl
began_none handle (Some kind) = All-cons NoControl (Began handle kind) [] tt (All-nil NoControl)

applied_none : (handle event : ℕ) (applied : Option ℕ) → All NoControl (applied_notes handle event applied)
applied_none handle event None = All-nil NoControl
applied_none handle event (Some number) = All-cons NoControl _ [] tt (All-nil NoControl)

refused_none : (handle : ℕ) (refused : Option (Kind × ErrCode)) → All NoControl (refused_notes handle refused)
refused_none handle None = All-nil NoControl
refused_none handle (Some (kind, code)) = All-cons NoControl (Refused handle kind code) [] tt (All-nil NoControl)

took_none : (noted : Bool) (handle : ℕ) (pdu : Pdu) (facts : Facts) → All NoControl (took_notes_if noted handle pdu facts)
took_none true handle pdu facts =
    All-cons NoControl (Took handle (numbered facts.acknowledgement.accepted + 1) pdu.llid (record { items = pdu.body })) [] tt (All-nil NoControl)
took_none false handle pdu facts = All-nil NoControl

-- ---- by the step

event_none : (handle : ℕ) (event : ConnectionEvent) (entry : Entry) → All NoControl (event_notes handle event entry)
event_none handle event entry =
    let applied = applied_notes handle event.number entry.applied in
    let enter = Enter handle (record { 0 = event.number }) event.channel ∷ [] in
    let done = done_notes handle entry.done in
    let began = began_notes handle entry.began in
    All-append NoControl (applied ++ enter ++ done) began
    (All-append NoControl (applied ++ enter) done
    (All-append NoControl applied enter (applied_none handle event.number entry.applied)
    (All-cons NoControl (Enter handle (record { 0 = event.number }) event.channel) [] tt (All-nil NoControl)))
    (done_none handle entry.done))
    (began_none handle entry.began)

entered_none : (goes : Bool) (notes : List Note) → All NoControl notes → All NoControl (if goes then notes else [])
entered_none true notes none = none
entered_none false notes none = All-nil NoControl

given_none : (handle : ℕ) (given : Taken) → All NoControl (given_notes handle given)
given_none handle given =
    All-append NoControl (refused_notes handle given.refused) (done_notes handle given.done) (refused_none handle given.refused) (done_none handle given.done)

taken_none : (handle : ℕ) (accepted : Bool) (pdu : Pdu) (slot : ℕ) (facts : Facts) → All NoControl (taken_notes handle accepted pdu slot facts)
taken_none handle accepted pdu slot facts =
    let given = given_if (accepted && is_procedure_pdu pdu) pdu slot facts in
    let kept = kept_given_if (accepted && is_procedure_pdu pdu) pdu slot facts in
    All-append NoControl (took_notes_if (accepted && not (is_empty pdu)) handle pdu facts) (given_notes handle given ++ given_notes handle kept)
    (took_none (accepted && not (is_empty pdu)) handle pdu facts)
    (All-append NoControl (given_notes handle given) (given_notes handle kept) (given_none handle given) (given_none handle kept))

received_none : (setup : Setup) (slot : ℕ) (room : Bool) (pdu : Option (List ℕ)) (facts : Facts) → All NoControl (received_notes setup slot room pdu facts)
received_none setup slot room None facts = All-nil NoControl
received_none setup slot room (Some pdu) facts =
    let header = header_in pdu in
    let now = facts_before_taking setup.link.role slot header facts in
    let done = acked_kind (acks_control (has_acknowledged facts header) facts) facts in
    let accepted = accepts room header (pdu_of pdu) now in
    All-append NoControl (done_notes setup.link.handle done) (taken_notes setup.link.handle accepted (pdu_of pdu) slot now) (done_none setup.link.handle done)
    (taken_none setup.link.handle accepted (pdu_of pdu) slot now)

-- what is fixed is no control PDU
fixed_none : (noted : Bool) (handle number : ℕ) (pdu : Pdu) → is_control pdu ≡ false → All NoControl (sent_notes_if noted handle number pdu)
fixed_none true handle number pdu none =
    All-cons NoControl (Sent handle (number + 1) pdu.llid (record { items = pdu.body })) []
    (λ is. let no : false ≡ true = sym none ∙ eq-eqb pdu.llid 3 is in cc) (All-nil NoControl)
fixed_none false handle number pdu none = All-nil NoControl

sent_none : (acked fixes : Bool) (handle number : ℕ) (control pdu : Pdu) → (acked && fixes) ≡ false → is_control pdu ≡ false
    → All NoControl (sent_notes_if (acked && not (is_empty (if fixes then control else pdu))) handle number (if fixes then control else pdu))
sent_none true true handle number control pdu quiet none = absurd (cc)
sent_none true false handle number control pdu quiet none = fixed_none (not (is_empty pdu)) handle number pdu none
sent_none false fixes handle number control pdu quiet none = All-nil NoControl

module _ (setup : Setup) (facts : Facts) (none : is_control facts.outgoing.fixed ≡ false) where
  notes_none : (step : Step) → sends_control facts step ≡ false → All NoControl (notes_after setup facts step)
  notes_none (DataGiven start body) quiet = All-nil NoControl
  notes_none (ProcedureAsked ask) quiet = All-nil NoControl
  notes_none (RequestAnswered answer) quiet = All-nil NoControl
  notes_none (KeyAnswered key slot) quiet = All-nil NoControl
  notes_none (Disconnected reason slot) quiet = All-nil NoControl
  notes_none (EventEntered slot) quiet =
      let event = (facts_entered setup slot facts).event in
      let entry = entry_of slot (is_quiet_now facts) (held_of facts.control) in
      entered_none (goes_on facts) (event_notes setup.link.handle event entry) (event_none setup.link.handle event entry)
  notes_none PduFixed quiet = All-nil NoControl
  notes_none (PacketSent slot) quiet =
      sent_none (is_acked facts.acknowledgement) facts.fixes_control setup.link.handle (numbered facts.acknowledgement.sent)
      (pdu_of_control (next_control facts))
      facts.outgoing.fixed quiet none
  notes_none (WordsGiven skd_s iv_s) quiet = All-nil NoControl
  notes_none (PacketReceived slot octets room) quiet = received_none setup slot room (good_pdu setup facts octets) facts
  notes_none DataReported quiet = All-nil NoControl

  in_middle : (earlier : List Note) (note : Note) (later : List Note) → All NoControl (earlier ++ note ∷ later) → NoControl note
  in_middle [] note later all = All-head NoControl note later all
  in_middle (first ∷ earlier) note later all = in_middle earlier note later (All-tail NoControl first (earlier ++ note ∷ later) all)

  pub none_sent : (step : Step) (earlier later : List Note) (handle number : ℕ) (body : List ℕ) → sends_control facts step ≡ false
      → notes_after setup facts step ≡ earlier ++ Sent handle number 3 (record { items = body }) ∷ later → ⊥
  none_sent step earlier later handle number body quiet is =
      in_middle earlier (Sent handle number 3 (record { items = body })) later (subst (All NoControl) is (notes_none step quiet)) refl
