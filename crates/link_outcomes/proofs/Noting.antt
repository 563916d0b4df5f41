-- Where a peripheral notes that a procedure is done, that procedure runs there, and no answer to it is awaited.
use Rattle.std.proofs.Common.{◌≡◌, ◌≤◌, ℕ, ◌&&◌, ◌||◌, not, Bool, true, false, List, [], ◌∷◌, ◌++◌, Option, Some, None, is_none, is_some, option_map, if◌then◌else◌, refl, sym, ap, subst, ◌∙◌, arith}
use Rattle.ble_base.specs.declared.error_codes.ErrCode.{ErrCode}
use Rattle.ble_base.specs.declared.notes.Note.{Note}
use Rattle.ble_base.specs.declared.notes.Note.TheVariants.{Enter}
use Rattle.ble_base.specs.declared.procedure_kinds.Kind.{Kind}
use Rattle.ble_base.specs.declared.procedure_kinds.Kind.TheVariants.{Request as request_kind}
use Rattle.ble_base.specs.declared.roles.Role.{Role}
use Rattle.ble_base.specs.declared.roles.Role.TheVariants.{Central as central_role, Peripheral as peripheral_role}
use Rattle.data_pdu.specs.Reading.{ctrl_of}
use Rattle.data_pdu.specs.declared.ctrl.CtrlRead.{CtrlRead}
use Rattle.data_pdu.specs.declared.ctrl.CtrlRead.TheVariants.{Known as read_known}
use Rattle.data_pdu.specs.declared.header.DataHeader.{DataHeader}
use Rattle.exclusive_stages.specs.Held.{done_at_peripheral}
use Rattle.exclusive_stages.specs.Kinds.{kind_of}
use Rattle.exclusive_stages.specs.declared.pdus.Exclusive.{Exclusive}
use Rattle.exclusive_stages.specs.declared.pdus.Exclusive.TheVariants.{Map, Phy, Request, Update}
use Rattle.exclusive_stages.specs.declared.stages.PeripheralStage.TheVariants.{RequestGranted}
use Rattle.instants.specs.Track.{next_number}
use Rattle.link_model.specs.Acknowledgement.{Pdu, is_acked}
use Rattle.link_model.specs.Controls.{goes_on, is_procedure_pdu, is_quiet_now, pdu_fixed, read_of}
use Rattle.link_model.specs.Data.{is_control, is_empty, numbered}
use Rattle.link_model.specs.End.{facts_after, notes_after, notes_from, notes_of}
use Rattle.link_model.specs.Entering.{began_notes, done_notes, event_notes, facts_entered}
use Rattle.link_model.specs.Events.{applied_notes}
use Rattle.link_model.specs.Facts.{Facts, first_facts, keyed_of}
use Rattle.link_model.specs.Receiving.{accepts, acked_kind, acknowledged_if, acks_control, answers_with_control, control_taken, facts_before_taking, given_if, given_notes, has_acknowledged, heard_in_slot, kept_give, kept_given_if, notes_hearing, procedures_give, refused_notes, took_notes_if}
use Rattle.link_model.specs.Sending.{control_gone_if, sent_notes_if}
use Rattle.link_model.specs.Setup.{Setup, first_anchor, first_params}
use Rattle.link_model.specs.Step.{Step, DataGiven, DataReported, Disconnected, EventEntered, KeyAnswered, PacketReceived, PacketSent, PduFixed, ProcedureAsked, RequestAnswered, WordsGiven}
use Rattle.link_model.specs.declared.events.ConnectionEvent.{ConnectionEvent}
use Rattle.link_model.specs.control_end.Answers.{entry_of, nothing_taken, step_shown, taken_of}
use Rattle.link_model.specs.control_end.Held.{held_of}
use Rattle.link_model.specs.control_end.declared.answers.Taken.{Taken}
use Rattle.link_model.specs.control_model.Control.{Control, Owes, Takes, after, first_control}
use Rattle.link_model.specs.procedure_stages.Acked.{done_by_ack}
use Rattle.link_model.specs.procedure_stages.Exclusive.{peripheral_stage}
use Rattle.link_model.specs.procedure_stages.Held.{done_held}
use Rattle.link_model.specs.procedure_stages.InProgress.{first_progress}
use Rattle.link_model.specs.procedure_stages.Kinds.{is_kind, kind_at_peripheral, own_kind, role_of}
use Rattle.link_model.specs.procedure_stages.declared.stages.OwnPeripheral.{OwnPeripheral}
use Rattle.link_model.specs.procedure_stages.declared.stages.OwnPeripheral.TheVariants.{Exclusive as exclusive, Exchange as exchange}
use Rattle.link_model.specs.procedure_stages.declared.stages.Progress.{Progress}
use Rattle.link_model.specs.procedure_stages.declared.stages.Progress.TheVariants.{Central as central, Peripheral as peripheral}
use Rattle.link_model.specs.procedure_stages.declared.steps.Step.{Step as TableStep}
use Rattle.link_model.specs.procedure_values.Asks.{is_same_kind}
use Rattle.link_model.specs.procedure_values.Drafts.{is_out}
use Rattle.link_model.specs.procedure_values.declared.drafts.Outgoing.{Outgoing}
use Rattle.link_model.specs.procedures.declared.outcome.Outcome.{Outcome}
use Rattle.link_model.specs.procedures.Going.{entered_step}
use Rattle.link_model.specs.procedures.Table.{TableFacts}
use Rattle.link_model.specs.procedures.Taking.{facts_with, lacks_room, no_room, outcome_of}
use Rattle.link_procedures.proofs.Controls.{owing_keeps, sends_keep}
use Rattle.link_model.proofs.KnownEnds.{IsPast, first_past, knows_before_taking, past_knows, step_past}
use Rattle.link_model.proofs.Receptions.{each_packet}
use Rattle.link_model.proofs.Views.{Knows, Owing, SeenAs, Taking, TakingKept, acked_control, acked_view, taken_view}
use Rattle.link_model.proofs.Views.{Ended, Handed, NoneKept, Over, Owed, Same, TakesKept, Withheld}
use Rattle.link_model.proofs.control_model.Moving.{same_role}
use Rattle.link_procedures.proofs.Noting.{swapped}
use Rattle.link_procedures.proofs.Steps.{acked_goes, own_in, step_goes}
use Rattle.link_outcomes.proofs.Awaiting.{all_right, answers, right_more, runs_in, waits_in}
use Rattle.link_outcomes.proofs.Controls.{Holds}
use Rattle.link_outcomes.proofs.Hearing.{answers_read, before_stands, step_stands}
use Rattle.link_outcomes.proofs.Standing.{StandsIn, is_param, level, same_refused}
use Rattle.link_outcomes.proofs.Taking.{Ends, answers_seen, first_answers, late_at, late_in, none_ends, takes_pdu}

-- ---- one note

-- what a note that a procedure is done needs
abbrev MayEnd : Exclusive → Bool → Bool → Option Kind → Type 0
MayEnd q runs waits done = (kind : Kind) → done ≡ Some kind → is_same_kind (kind_of q) kind ≡ true → (runs ≡ true) × (waits ≡ false)

note_right : (same runs waits : Bool) → (same ≡ true → (runs ≡ true) × (waits ≡ false)) → ((not same || (runs && not waits)) && true) ≡ true
note_right false runs waits may = refl
note_right true runs waits may = λ i. ((may refl).0 i && not ((may refl).1 i)) && true

done_right : (q : Exclusive) (runs waits : Bool) (handle : ℕ) (done : Option Kind) → MayEnd q runs waits done
    → all_right q runs waits (done_notes handle done) ≡ true
done_right q runs waits handle None may = refl
done_right q runs waits handle (Some kind) may = note_right (is_same_kind (kind_of q) kind) runs waits (may kind refl)

began_right : (q : Exclusive) (runs waits : Bool) (handle : ℕ) (began : Option Kind) → all_right q runs waits (began_notes handle began) ≡ true
began_right q runs waits handle None = refl
began_right q runs waits handle (Some kind) = refl

refused_right : (q : Exclusive) (runs waits : Bool) (handle : ℕ) (refused : Option (Kind × ErrCode))
    → all_right q runs waits (refused_notes handle refused) ≡ true
refused_right q runs waits handle None = refl
refused_right q runs waits handle (Some (kind, code)) = refl

took_right : (q : Exclusive) (runs waits noted : Bool) (handle : ℕ) (pdu : Pdu) (facts : Facts)
    → all_right q runs waits (took_notes_if noted handle pdu facts) ≡ true
took_right q runs waits true handle pdu facts = refl
took_right q runs waits false handle pdu facts = refl

sent_right : (q : Exclusive) (runs waits noted : Bool) (handle number : ℕ) (pdu : Pdu) → all_right q runs waits (sent_notes_if noted handle number pdu) ≡ true
sent_right q runs waits true handle number pdu = refl
sent_right q runs waits false handle number pdu = refl

-- ---- an event is entered

event_right : (q : Exclusive) (runs waits : Bool) (handle : ℕ) (event : ConnectionEvent) (applied : Option ℕ) (done began : Option Kind)
    → MayEnd q runs waits done
    → all_right q runs waits
    (applied_notes handle event.number applied ++ Enter handle (record { 0 = event.number }) event.channel ∷ [] ++ done_notes handle done
    ++ began_notes handle began) ≡ true
event_right q runs waits handle event None done began may =
    let enter = Enter handle (record { 0 = event.number }) event.channel ∷ [] in
    right_more q (enter ++ done_notes handle done) (began_notes handle began) runs waits
    (right_more q enter (done_notes handle done) runs waits refl (done_right q runs waits handle done may)) (began_right q _ _ handle began)
event_right q runs waits handle event (Some number) done began may =
    let first = applied_notes handle event.number (Some number) ++ Enter handle (record { 0 = event.number }) event.channel ∷ [] in
    right_more q (first ++ done_notes handle done) (began_notes handle began) runs waits
    (right_more q first (done_notes handle done) runs waits refl (done_right q runs waits handle done may)) (began_right q _ _ handle began)

-- a request that is granted is over
request_is : (X : Exclusive → Type 0) (q : Exclusive) → is_same_kind (kind_of q) request_kind ≡ true → X Request → X q
request_is X Request is x = x
request_is X Update is x = absurd (cc)
request_is X Map is x = absurd (cc)
request_is X Phy is x = absurd (cc)

level_two : (fixes waits : Bool) → 2 ≤ level fixes waits → waits ≡ false
level_two true waits two = absurd (omega (arith, two))
level_two false true two = absurd (omega (arith, two))
level_two false false two = refl

-- what is known of the end before it
record Known (q : Exclusive) (runs waits requests : Bool) (facts : Facts) : Type 0 where
  own : runs ≡ is_kind (own_in facts) (kind_of q)
  stands : StandsIn requests facts
  agree : q ≡ Request → waits ≡ requests

some_same : (kind known : Kind) → Some known ≡ Some kind → known ≡ kind
some_same kind known is = cc

record IsGranted (own : OwnPeripheral) (kind : Kind) : Type 0 where
  is : kind ≡ request_kind
  runs : kind_at_peripheral own ≡ Some request_kind
  late : 2 ≤ late_at own

granted : (own : OwnPeripheral) (kind : Kind) → option_map kind_of (done_at_peripheral (peripheral_stage own)) ≡ Some kind → IsGranted own kind
granted (exclusive RequestGranted) kind is = record { is = sym (some_same kind request_kind is); runs = refl; late = omega arith }
granted (exclusive stage) kind is = absurd (cc)
granted (exchange stage) kind is = absurd (cc)

held_may : (q : Exclusive) (runs waits requests fixes : Bool) (p : Progress) → role_of p ≡ peripheral_role → runs ≡ is_kind (own_kind p) (kind_of q)
    → late_in p ≤ level fixes requests → (q ≡ Request → waits ≡ requests) → MayEnd q runs waits (done_held p)
held_may q runs waits requests fixes (central c) role own low agree kind is same = absurd (cc)
held_may q runs waits requests fixes (peripheral p) role own low agree kind is same =
    let it = granted p.own kind is in
    let late = it.late in
    let asked : is_same_kind (kind_of q) request_kind ≡ true = ap (is_same_kind (kind_of q)) (sym it.is) ∙ same in (
      own ∙ ap (λ (o : Option Kind). is_kind o (kind_of q)) it.runs ∙ swapped request_kind (kind_of q) ∙ asked,
      agree (request_is (λ (x : Exclusive). x ≡ Request) q asked refl) ∙ level_two fixes requests (omega (arith, low, late)),
    )

entry_may : (q : Exclusive) (runs waits : Bool) (f : TableFacts) (applied : Bool) → MayEnd q runs waits (done_held f.progress)
    → MayEnd q runs waits (entered_step f applied).1
entry_may q runs waits f true may kind is same = may kind is same
entry_may q runs waits f false may kind is same = absurd (cc)

entered_right : (q : Exclusive) (runs waits : Bool) (handle slot : ℕ) (quiet : Bool) (event : ConnectionEvent) (c : Control) (goes : Bool) → is_none c.ends ≡ goes
    → MayEnd q runs waits (done_held c.table.progress)
    → all_right q runs waits (if goes then event_notes handle event (entry_of slot quiet (held_of c)) else []) ≡ true
entered_right q runs waits handle slot quiet event c false is may = refl
entered_right q runs waits handle slot quiet event c true is may = by c.ends is
  where
    by : (ends : Option ErrCode) → is_none ends ≡ true
        → all_right q runs waits (event_notes handle event (entry_of slot quiet (held_of (record c { ends = ends })))) ≡ true
    by None is =
        event_right q runs waits handle event (next_number c.track) (entered_step c.table (is_some (next_number c.track))).1 _
        (entry_may q runs waits c.table (is_some (next_number c.track)) may)
    by (Some code) is = absurd (cc)

-- ---- a packet is received: no acknowledgement completes a procedure of a peripheral

acked_none : (p : Progress) (out : Outgoing) → role_of p ≡ peripheral_role → done_by_ack out p ≡ None
acked_none (central c) out role = absurd (cc)
acked_none (peripheral p) out role = refl

by_none : (acks lasts : Bool) (kind : Option Kind) → kind ≡ None → (if acks then (if lasts then kind else None) else None) ≡ None
by_none true true kind is = is
by_none true false kind is = refl
by_none false lasts kind is = refl

kind_none : (acks : Bool) (facts : Facts) → role_of facts.control.table.progress ≡ peripheral_role → acked_kind acks facts ≡ None
kind_none acks facts role =
    by_none acks (is_none facts.control.ends && is_out facts.control.table.out) _ (acked_none facts.control.table.progress facts.control.table.out role)

-- ---- what the PDU gives

abbrev settled_as : Bool → Bool → TableFacts → TableFacts → TableStep → TableFacts × TableStep
settled_as full over f g step = if full then (f, no_room) else (if over then (f, step) else (g, step))

ends_given : (p : Progress) (read : CtrlRead) (x : Outcome) (f g : TableFacts) (goes full over : Bool) → Ends p read x.step.refused x.step.done
    → let t = (if goes then step_shown (settled_as full over f g x.step).1 else nothing_taken) in
    Ends p read t.refused t.done
ends_given p read x f g true true over ends = none_ends p read None
ends_given p read x f g true false true ends = ends
ends_given p read x f g true false false ends = ends
ends_given p read x f g false full over ends = none_ends p read None

taken_ends : (c : Control) (read : CtrlRead) (slot : ℕ) (quiet : Bool) → role_of c.table.progress ≡ peripheral_role
    → let given = taken_of read slot quiet (held_of c) in Ends c.table.progress read given.refused given.done
taken_ends c read slot quiet role =
    let f = c.table in
    let x = outcome_of f quiet read in
    ends_given f.progress read x f (facts_with f slot x) _ (lacks_room f x) (is_some x.step.ends) (takes_pdu f quiet read role).ends

none_taken_ends : (p : Progress) (read : CtrlRead) (given : Taken) → given ≡ nothing_taken → Ends p read given.refused given.done
none_taken_ends p read given none =
    subst (λ (t : Taken). Ends p read t.refused t.done) (sym none) (none_ends p read None)

-- what is seen as an answer was read as one
seen_ends : (p : Progress) (read seen : CtrlRead) (given : Taken) → SeenAs read seen → Ends p seen given.refused given.done
    → Ends p read given.refused given.done
seen_ends p read seen given is_seen ends q kind done same =
    let last = ends q kind done same in
    record { own = last.own; answered = answers_seen q read seen is_seen last.answered; none = last.none }

view_ends : (quiet : Bool) (c : Control) (read : CtrlRead) (slot : ℕ) (taken kept : Taken) (d : Control) → role_of c.table.progress ≡ peripheral_role
    → Taking quiet c read slot taken kept d
    → Ends c.table.progress read taken.refused taken.done
view_ends quiet c read slot taken kept d role (Over over none none_kept is) = none_taken_ends c.table.progress read taken none
view_ends quiet c read slot taken kept d role (Withheld goes loud class none none_kept is) = none_taken_ends c.table.progress read taken none
view_ends quiet c read slot taken kept d role (Ended code goes class none none_kept is) = none_taken_ends c.table.progress read taken none
view_ends quiet c read slot taken kept d role (Handed seen middle goes is_seen class owing given later) =
    subst (λ (t : Taken). Ends c.table.progress read t.refused t.done) (sym given)
    (seen_ends c.table.progress read seen (taken_of seen slot quiet (held_of c)) is_seen (taken_ends c seen slot quiet role))

-- what was kept is the first PDU of a procedure of the peer, and completes none
abbrev EndsNone : Taken → Type 0
EndsNone given = (q : Exclusive) (kind : Kind) → given.done ≡ Some kind → is_same_kind (kind_of q) kind ≡ true → ⊥

nothing_ends : (given : Taken) → given ≡ nothing_taken → EndsNone given
nothing_ends given none = subst EndsNone (sym none) (λ q. λ kind. λ done. λ same. absurd cc)

owing_role : (role : Role) (c d : Control) → Owing c d → role_of c.table.progress ≡ role → role_of d.table.progress ≡ role
owing_role role c d (Same is) at = ap (λ (x : Control). role_of x.table.progress) is ∙ at
owing_role role c d (Owed ctrl may is) at = ap (λ (x : Control). role_of x.table.progress) is ∙ same_role role (Owes ctrl) c at

kept_ends : (slot : ℕ) (kept : Taken) (middle d : Control) → role_of middle.table.progress ≡ peripheral_role → TakingKept slot kept middle d → EndsNone kept
kept_ends slot kept middle d role (NoneKept none is) = nothing_ends kept none
kept_ends slot kept middle d role (TakesKept ctrl class given is) =
    subst EndsNone (sym given)
    (λ q. λ kind. λ done. λ same. first_answers q ctrl class (taken_ends middle (read_known ctrl) slot true role q kind done same).answered)

view_ends_none : (quiet : Bool) (c : Control) (read : CtrlRead) (slot : ℕ) (taken kept : Taken) (d : Control) → role_of c.table.progress ≡ peripheral_role
    → Taking quiet c read slot taken kept d
    → EndsNone kept
view_ends_none quiet c read slot taken kept d role (Over over none none_kept is) = nothing_ends kept none_kept
view_ends_none quiet c read slot taken kept d role (Withheld goes loud class none none_kept is) = nothing_ends kept none_kept
view_ends_none quiet c read slot taken kept d role (Ended code goes class none none_kept is) = nothing_ends kept none_kept
view_ends_none quiet c read slot taken kept d role (Handed seen middle goes is_seen class owing given later) =
    kept_ends slot kept middle d
    (owing_role peripheral_role (after (Takes seen slot quiet) c) middle owing (same_role peripheral_role (Takes seen slot quiet) c role)) later

-- the notes of what is given
given_right : (q : Exclusive) (runs waits : Bool) (handle : ℕ) (given : Taken)
    → ((kind : Kind) → given.done ≡ Some kind → is_same_kind (kind_of q) kind ≡ true → (given.refused ≡ None) × (runs ≡ true) × (waits ≡ false))
    → all_right q runs waits (given_notes handle given) ≡ true
given_right q runs waits handle given may =
    let refused = refused_notes handle given.refused in
    right_more q refused (done_notes handle given.done) runs waits (refused_right q runs waits handle given.refused)
    (done_right q (runs_in q runs refused) (waits_in q waits refused) handle given.done
    (λ kind is same. let it = may kind is same in
    (ap (λ (x : Option (Kind × ErrCode)). runs_in q runs (refused_notes handle x)) it.0 ∙ it.1, same_refused q handle given.refused waits ∙ it.2)))

took_runs : (q : Exclusive) (noted runs : Bool) (handle : ℕ) (pdu : Pdu) (facts : Facts) → runs_in q runs (took_notes_if noted handle pdu facts) ≡ runs
took_runs q true runs handle pdu facts = refl
took_runs q false runs handle pdu facts = refl

-- the note of an answer
took_answer : (q : Exclusive) (waits : Bool) (handle : ℕ) (pdu : Pdu) (facts : Facts) (control answer noted : Bool) → noted ≡ true → is_control pdu ≡ control
    → control ≡ true → answers q (ctrl_of pdu.body) ≡ answer → answer ≡ true → waits_in q waits (took_notes_if noted handle pdu facts) ≡ false
took_answer q waits handle pdu facts control answer true noted is holds read answered =
    (λ i. waits && not ((is ∙ holds) i && (read ∙ answered) i)) ∙ none waits
  where
    none : (b : Bool) → (b && false) ≡ false
    none true = refl
    none false = refl
took_answer q waits handle pdu facts control answer false noted is holds read answered = absurd cc

kept_right : (q : Exclusive) (takes runs waits : Bool) (handle : ℕ) (pdu : Pdu) (slot : ℕ) (facts : Facts)
    → EndsNone (kept_give pdu slot facts) → all_right q runs waits (given_notes handle (kept_given_if takes pdu slot facts)) ≡ true
kept_right q true runs waits handle pdu slot facts none =
    given_right q runs waits handle (kept_give pdu slot facts) (λ kind. λ done. λ same. absurd (none q kind done same))
kept_right q false runs waits handle pdu slot facts none = refl

taking_right : (q : Exclusive) (runs waits : Bool) (handle : ℕ) (pdu : Pdu) (slot : ℕ) (facts : Facts) (accepted empty control : Bool)
    → is_control pdu ≡ control → Knows (keyed_of facts) → role_of facts.control.table.progress ≡ peripheral_role
    → runs ≡ is_kind (own_in facts) (kind_of q)
    → all_right q runs waits
    (took_notes_if (accepted && not empty) handle pdu facts
    ++ (given_notes handle (given_if (accepted && (control && not empty)) pdu slot facts)
    ++ given_notes handle (kept_given_if (accepted && (control && not empty)) pdu slot facts))) ≡ true
taking_right q runs waits handle pdu slot facts accepted empty control is knows role own =
    let took = took_notes_if (accepted && not empty) handle pdu facts in
    let takes = accepted && (control && not empty) in
    let given = given_notes handle (given_if takes pdu slot facts) in
    right_more q took (given ++ given_notes handle (kept_given_if takes pdu slot facts)) runs waits
    (took_right q runs waits (accepted && not empty) handle pdu facts)
    (right_more q given (given_notes handle (kept_given_if takes pdu slot facts)) (runs_in q runs took) (waits_in q waits took)
    (given_right q (runs_in q runs took) (waits_in q waits took) handle (given_if takes pdu slot facts) (by accepted empty control is))
    (kept_right q takes (runs_in q (runs_in q runs took) given) (waits_in q (waits_in q waits took) given) handle pdu slot facts
    (view_ends_none (is_quiet_now facts) facts.control (read_of pdu) slot (procedures_give pdu slot facts) (kept_give pdu slot facts)
    (control_taken pdu slot facts) role view)))
  where
    view : Taking (is_quiet_now facts) facts.control (read_of pdu) slot (procedures_give pdu slot facts) (kept_give pdu slot facts) (control_taken pdu slot facts)
    view = taken_view pdu slot facts knows

    same_own : (kind : Kind) → own_in facts ≡ Some kind → is_same_kind (kind_of q) kind ≡ true → is_kind (own_in facts) (kind_of q) ≡ true
    same_own kind it same = ap (λ (o : Option Kind). is_kind o (kind_of q)) it ∙ swapped kind (kind_of q) ∙ same

    by : (accepted empty control : Bool) → is_control pdu ≡ control
        → let given = given_if (accepted && (control && not empty)) pdu slot facts in
        let took = took_notes_if (accepted && not empty) handle pdu facts in
        (kind : Kind) → given.done ≡ Some kind → is_same_kind (kind_of q) kind ≡ true
        → (given.refused ≡ None) × (runs_in q runs took ≡ true) × (waits_in q waits took ≡ false)
    by false empty control is kind done same = absurd (cc)
    by true true true is kind done same = absurd (cc)
    by true true false is kind done same = absurd (cc)
    by true false false is kind done same = absurd (cc)
    by true false true is kind done same =
        let last =
        view_ends (is_quiet_now facts) facts.control (read_of pdu) slot (procedures_give pdu slot facts) (kept_give pdu slot facts)
        (control_taken pdu slot facts) role view q kind done same in (
          last.none,
          took_runs q true runs handle pdu facts ∙ own ∙ same_own kind last.own same,
          took_answer q waits handle pdu facts true true true refl is refl (answers_read q pdu last.answered) refl,
        )

-- ---- the procedure that runs as the PDU is taken

gone_own : (goes : Bool) (slot : ℕ) (facts : Facts) → own_in (control_gone_if goes slot facts) ≡ own_in facts
gone_own true slot facts = sends_keep slot (is_quiet_now facts) facts.control
gone_own false slot facts = refl

before_own : (q : Exclusive) (role : Role) (slot : ℕ) (header : DataHeader) (facts : Facts) → Knows (keyed_of facts)
    → role_of facts.control.table.progress ≡ peripheral_role
    → is_kind (own_in facts) (kind_of q) ≡ is_kind (own_in (facts_before_taking role slot header facts)) (kind_of q)
before_own q role slot header facts knows is =
    let acks = acks_control (has_acknowledged facts header) facts in
    let own = acknowledged_if (has_acknowledged facts header) (heard_in_slot slot header.md facts) in
    ap (λ (done : Option Kind). runs_in q (is_kind (own_in facts) (kind_of q)) (done_notes 0 done)) (sym (kind_none acks facts is))
    ∙ acked_goes 0 acks facts (kind_of q)
    ∙ ap (λ (o : Option Kind). is_kind o (kind_of q))
    (sym (gone_own (answers_with_control role own) slot own
    ∙ owing_keeps (acked_control acks facts.control) own.control (acked_view acks facts knows)))

heard_right : (q : Exclusive) (runs waits requests : Bool) (setup : Setup) (slot : ℕ) (room : Bool) (header : DataHeader) (pdu : Pdu) (facts : Facts)
    → IsPast setup facts → Known q runs waits requests facts → all_right q runs waits (notes_hearing setup slot room header pdu facts) ≡ true
heard_right q runs waits requests setup slot room header pdu facts p k =
    let handle = setup.link.handle in
    let role = setup.link.role in
    let now = facts_before_taking role slot header facts in
    let accepted = accepts room header pdu now in
    let takes = accepted && is_procedure_pdu pdu in
    let knows = past_knows setup facts p in
    let rest = took_notes_if (accepted && not (is_empty pdu)) handle pdu now
    ++ (given_notes handle (given_if takes pdu slot now) ++ given_notes handle (kept_given_if takes pdu slot now)) in
    ap (λ (done : Option Kind). all_right q runs waits (done_notes handle done ++ rest))
    (kind_none (acks_control (has_acknowledged facts header) facts) facts k.stands.holds.role)
    ∙ taking_right q runs waits handle pdu slot now accepted (is_empty pdu) (is_control pdu) refl (knows_before_taking setup facts p role slot header)
    (before_stands role slot header requests facts knows k.stands).holds.role
    (k.own ∙ before_own q role slot header facts knows k.stands.holds.role)

-- ---- each step

step_right : (q : Exclusive) (runs waits requests : Bool) (setup : Setup) (facts : Facts) (step : Step) → IsPast setup facts → Known q runs waits requests facts
    → all_right q runs waits (notes_after setup facts step) ≡ true
step_right q runs waits requests setup facts (DataGiven start body) p k = refl
step_right q runs waits requests setup facts (ProcedureAsked ask) p k = refl
step_right q runs waits requests setup facts (RequestAnswered answer) p k = refl
step_right q runs waits requests setup facts (Disconnected reason slot) p k = refl
step_right q runs waits requests setup facts (KeyAnswered key slot) p k = refl
step_right q runs waits requests setup facts (EventEntered slot) p k =
    entered_right q runs waits setup.link.handle slot (is_quiet_now facts) (facts_entered setup slot facts).event facts.control (goes_on facts) refl
    (held_may q runs waits requests (is_param facts.outgoing.fixed) facts.control.table.progress k.stands.holds.role k.own k.stands.holds.fits.low k.agree)
step_right q runs waits requests setup facts PduFixed p k = refl
step_right q runs waits requests setup facts (PacketSent slot) p k =
    sent_right q runs waits (is_acked facts.acknowledgement && not (is_empty (pdu_fixed facts))) setup.link.handle (numbered facts.acknowledgement.sent)
    (pdu_fixed facts)
step_right q runs waits requests setup facts (WordsGiven skd_s iv_s) p k = refl
step_right q runs waits requests setup facts (PacketReceived slot octets room) p k =
    each_packet setup slot facts (λ (notes : List Note) (next : Facts). all_right q runs waits notes ≡ true) octets room refl refl
    (λ header pdu. heard_right q runs waits requests setup slot room header pdu facts p k)
step_right q runs waits requests setup facts DataReported p k = refl

step_known : (q : Exclusive) (runs waits requests : Bool) (setup : Setup) (facts : Facts) (step : Step) → IsPast setup facts → Known q runs waits requests facts
    → let notes = notes_after setup facts step in
    Known q (runs_in q runs notes) (waits_in q waits notes) (waits_in Request requests notes) (facts_after setup facts step)
step_known q runs waits requests setup facts step p k =
    let notes = notes_after setup facts step in
    record {
      own = ap (λ (b : Bool). runs_in q b notes) k.own ∙ step_goes setup facts step p (kind_of q);
      stands = step_stands setup facts step requests p k.stands;
      agree = λ is i. waits_in (is i) (k.agree is i) notes;
    }

steps_right : (q : Exclusive) (setup : Setup) (steps : List Step) (facts : Facts) (runs waits requests : Bool) → IsPast setup facts → Known q runs waits requests facts
    → all_right q runs waits (notes_from setup facts steps) ≡ true
steps_right q setup [] facts runs waits requests p k = refl
steps_right q setup (step ∷ steps) facts runs waits requests p k =
    let notes = notes_after setup facts step in
    let next = facts_after setup facts step in
    right_more q notes (notes_from setup next steps) runs waits (step_right q runs waits requests setup facts step p k)
    (steps_right q setup steps next (runs_in q runs notes) (waits_in q waits notes) (waits_in Request requests notes)
    (step_past setup facts step p) (step_known q runs waits requests setup facts step p k))

-- ---- all steps

first_none : (q : Exclusive) (role : Role) → false ≡ is_kind (own_kind (first_progress role)) (kind_of q)
first_none q central_role = refl
first_none q peripheral_role = refl

first_known : (q : Exclusive) (setup : Setup) → setup.link.role ≡ peripheral_role → Known q false false false (first_facts setup)
first_known q setup is =
    record {
      own = first_none q setup.link.role;
      stands = record { holds = by setup.link.role is; left = λ holds. absurd cc };
      agree = λ same. refl;
    }
  where
    by : (role : Role) → role ≡ peripheral_role → Holds 2 (first_control role setup.link.max_rx (first_params setup.link.fields) (first_anchor setup))
    by central_role is = absurd (cc)
    by peripheral_role is = record { role = refl; fits = record { few = omega arith; low = omega arith } }

pub past_right : (q : Exclusive) (setup : Setup) (past : List Step) → setup.link.role ≡ peripheral_role
    → all_right q false false (notes_of setup past) ≡ true
unfolding notes_of
past_right q setup past is = steps_right q setup past (first_facts setup) false false false (first_past setup) (first_known q setup is)
