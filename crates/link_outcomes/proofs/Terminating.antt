-- An end that noted that it took LL_TERMINATE_IND does not last.
use Rattle.std.proofs.Common.{◌≡◌, ℕ, ◌==◌, ◌&&◌, ◌||◌, not, Bool, true, false, List, [], ◌∷◌, ◌++◌, fold, Option, Some, None, is_none, if◌then◌else◌, refl, sym, ap, ◌∙◌}
use Rattle.std.specs.List.{list_any}
use Rattle.std.proofs.lemmas.Bool.{and_parts}
use Rattle.std.proofs.lemmas.List.Folds.{list_any-append}
use Rattle.ble_base.specs.declared.error_codes.ErrCode.{ErrCode}
use Rattle.ble_base.specs.declared.notes.Note.{Note}
use Rattle.ble_base.specs.declared.notes.Note.TheVariants.{Enter, Took}
use Rattle.ble_base.specs.declared.procedure_kinds.Kind.{Kind}
use Rattle.ble_base.specs.declared.roles.Role.{Role}
use Rattle.data_pdu.specs.Reading.{ctrl_of}
use Rattle.data_pdu.specs.declared.ctrl.Ctrl.{Ctrl}
use Rattle.data_pdu.specs.declared.ctrl.Ctrl.TheVariants.{TerminateInd}
use Rattle.data_pdu.specs.declared.ctrl.CtrlRead.{CtrlRead}
use Rattle.data_pdu.specs.declared.ctrl.CtrlRead.TheVariants.{Known}
use Rattle.data_pdu.specs.declared.header.DataHeader.{DataHeader}
use Rattle.link_model.specs.Acknowledgement.{Pdu, is_acked}
use Rattle.link_model.specs.Controls.{goes_on, is_procedure_pdu, is_quiet_now, pdu_fixed, read_of}
use Rattle.link_model.specs.Data.{is_control, is_data, is_empty, numbered}
use Rattle.link_model.specs.End.{facts_after, facts_of, notes_after, notes_from, notes_of}
use Rattle.link_model.specs.Entering.{began_notes, done_notes, event_notes, facts_entered, facts_entered_if}
use Rattle.link_model.specs.Events.{applied_notes}
use Rattle.link_model.specs.Facts.{Facts, first_facts, keyed_of}
use Rattle.link_model.specs.Fixing.{fixed_anew}
use Rattle.link_model.specs.Hosts.{asked_unless, ends_without_key, is_to_come, leaving_from_if}
use Rattle.link_model.specs.Receiving.{accepted_if, accepts, acked_kind, acknowledged_if, acks_control, answers_with_control, code_of, control_taken, data_taken_if, facts_before_taking, facts_hearing, given_if, given_notes, has_acknowledged, heard_in_slot, kept_given_if, leaving_by, notes_hearing, procedures_give, procedures_take_if, refused_notes, took_notes_if}
use Rattle.link_model.specs.Sending.{control_gone_if, sent_notes_if, takes_leave}
use Rattle.link_model.specs.Setup.{Setup}
use Rattle.link_model.specs.Step.{Step, DataGiven, DataReported, Disconnected, EventEntered, KeyAnswered, PacketReceived, PacketSent, PduFixed, ProcedureAsked, RequestAnswered, WordsGiven}
use Rattle.link_model.specs.declared.events.ConnectionEvent.{ConnectionEvent}
use Rattle.link_model.specs.declared.state.Leaving.{Leaving}
use Rattle.link_model.specs.enc_phase.declared.classes.PduClass.{PduClass}
use Rattle.link_model.specs.enc_phase.declared.classes.PduClass.TheVariants.{Request, Terminate}
use Rattle.link_model.specs.phased_control.Taken.{class_of_read}
use Rattle.link_model.specs.phased_end.Taking.{IsNamed}
use Rattle.link_model.specs.control_end.Answers.{entry_of, nothing_taken, step_shown, taken_of}
use Rattle.link_model.specs.control_end.Held.{control_of, held_of}
use Rattle.link_model.specs.control_end.declared.answers.Entry.{Entry}
use Rattle.link_model.specs.control_end.declared.answers.Taken.{Taken}
use Rattle.link_model.specs.control_model.Control.{Control, Owes, Step as ControlStep, Takes, after, indicated_by, moved, taken}
use Rattle.link_model.specs.procedure_stages.declared.stages.Progress.{Progress}
use Rattle.link_model.specs.procedure_stages.declared.stages.Progress.TheVariants.{Central as central, Peripheral as peripheral}
use Rattle.link_model.specs.procedure_stages.declared.steps.Step.{Step as TableStep}
use Rattle.link_model.specs.procedures.Table.{TableFacts}
use Rattle.link_model.specs.procedures.Taking.{facts_with, no_room, settled, taken_by, took_step}
use Rattle.link_model.specs.procedures.Termination.{terminate_taken}
use Rattle.link_model.specs.procedure_values.declared.asks.Ask.{Ask}
use Rattle.link_model.proofs.KnownEnds.{IsPast, first_past, knows_accepted, knows_before_taking, step_past, stays_over}
use Rattle.link_model.proofs.Receptions.{each_packet}
use Rattle.link_model.proofs.Views.{DataTaking, Knows, Owing, SeenAs, Taking, TakingKept, data_view, reading_view, same_seen, taken_view}
use Rattle.link_model.proofs.Views.{Ended, Handed, NoneKept, Over, Owed, Same, TakesKept, Withheld}
use Rattle.link_outcomes.specs.Lasting.{is_lasting}

-- ---- LL_TERMINATE_IND is taken

terminated_by : (p : Progress) (f : TableFacts) (quiet : Bool) (code : ℕ) → taken_by p f quiet (TerminateInd code) ≡ terminate_taken f code
terminated_by (central c) f quiet code = refl
terminated_by (peripheral p) f quiet code = refl

abbrev taken_whole : TableFacts → ℕ → ℕ → TableFacts × TableStep
taken_whole f slot code = (facts_with f slot (terminate_taken f code), (terminate_taken f code).step)

roomy : (f : TableFacts) (slot code : ℕ) (full : Bool) → (if full && false then (f, no_room) else taken_whole f slot code) ≡ taken_whole f slot code
roomy f slot code true = refl
roomy f slot code false = refl

terminates : (f : TableFacts) (slot : ℕ) (quiet : Bool) (code : ℕ)
    → took_step f (Known (TerminateInd code)) slot quiet ≡ taken_whole f slot code
terminates f slot quiet code =
    ap (settled f slot) (terminated_by f.progress f quiet code) ∙ roomy f slot code _

-- whether an end lasts that goes on until it takes a PDU, by what its table makes of that PDU
abbrev lasts_by : Control → Leaving → TableFacts × TableStep → Bool
lasts_by c leaving step =
    is_none (taken step.0 step.1.ends (indicated_by step.1.effect) c).ends
    && is_none
    (leaving_by
    (code_of
    (if is_none (taken step.0 step.1.ends (indicated_by step.1.effect) (control_of (held_of c))).ends then step_shown step.1 else nothing_taken).effect)
    leaving).ended_by_peer

-- whether any end lasts after it took a PDU
abbrev lasts_taking : Control → Leaving → ℕ → Bool → CtrlRead → Bool
lasts_taking c leaving slot quiet read =
    is_none (after (Takes read slot quiet) c).ends
    && is_none (leaving_by (code_of (taken_of read slot quiet (held_of c)).effect) leaving).ended_by_peer

ends_taking : (c : Control) (leaving : Leaving) (slot : ℕ) (quiet : Bool) (code : ℕ)
    → lasts_taking c leaving slot quiet (Known (TerminateInd code)) ≡ false
ends_taking c leaving slot quiet code = by c.ends
  where
    by : (ends : Option ErrCode) → lasts_taking (record c { ends = ends }) leaving slot quiet (Known (TerminateInd code)) ≡ false
    by None = ap (lasts_by (record c { ends = None }) leaving) (terminates c.table slot quiet code)
    by (Some other) = refl

-- ---- an end that does not last stays so

both_stay : (a b c d : Bool) → (a ≡ false → c ≡ false) → (b ≡ false → d ≡ false) → (a && b) ≡ false → (c && d) ≡ false
both_stay true b false d one other is = refl
both_stay true b true d one other is = other is
both_stay false b c d one other is = ap (λ (e : Bool). e && d) (one refl)

ends_stay : (step : ControlStep) (c : Control) → is_none c.ends ≡ false → is_none (after step c).ends ≡ false
ends_stay step c is = ap (λ (b : Bool). is_none (if b then moved step c else c).ends) is ∙ is

-- the end took no LL_TERMINATE_IND
abbrev took_none : Facts → Bool
took_none facts = is_none facts.leaving.ended_by_peer

asked_same : (comes : Bool) (ask : Ask) (facts : Facts) → took_none (asked_unless comes ask facts) ≡ took_none facts
asked_same true ask facts = refl
asked_same false ask facts = refl

entered_same : (goes : Bool) (setup : Setup) (slot : ℕ) (facts : Facts) → took_none (facts_entered_if goes setup slot facts) ≡ took_none facts
entered_same true setup slot facts = refl
entered_same false setup slot facts = refl

key_same : (leaves : Bool) (slot : ℕ) (leaving : Leaving) → is_none (leaving_from_if leaves slot leaving).ended_by_peer ≡ is_none leaving.ended_by_peer
key_same true slot leaving = refl
key_same false slot leaving = refl

fixed_same : (stays : Bool) (facts : Facts) → took_none (if stays then facts else fixed_anew facts) ≡ took_none facts
fixed_same true facts = refl
fixed_same false facts = refl

gone_same : (goes : Bool) (slot : ℕ) (facts : Facts) → took_none (control_gone_if goes slot facts) ≡ took_none facts
gone_same true slot facts = refl
gone_same false slot facts = refl

by_peer : (code : Option ErrCode) (leaving : Leaving) → is_none leaving.ended_by_peer ≡ false
    → is_none (leaving_by code leaving).ended_by_peer ≡ false
by_peer None leaving is = is
by_peer (Some code) leaving is = refl

taken_stays : (takes : Bool) (pdu : Pdu) (slot : ℕ) (facts : Facts) → took_none facts ≡ false
    → took_none (procedures_take_if takes pdu slot facts) ≡ false
taken_stays true pdu slot facts is = by_peer (code_of (procedures_give pdu slot facts).effect) facts.leaving is
taken_stays false pdu slot facts is = is

data_same : (takes : Bool) (facts : Facts) → took_none (data_taken_if takes facts) ≡ took_none facts
data_same true facts = refl
data_same false facts = refl

heard_stays : (role : Role) (slot : ℕ) (room : Bool) (header : DataHeader) (pdu : Pdu) (facts : Facts) → took_none facts ≡ false
    → took_none (facts_hearing role slot room header pdu facts) ≡ false
heard_stays role slot room header pdu facts is =
    let acked = acknowledged_if (has_acknowledged facts header) (heard_in_slot slot header.md facts) in
    let now = facts_before_taking role slot header facts in
    let accepted = accepts room header pdu now in
    let takes = accepted && is_procedure_pdu pdu in
    data_same (accepted && is_data pdu) (procedures_take_if takes pdu slot (accepted_if accepted pdu now))
    ∙ taken_stays takes pdu slot (accepted_if accepted pdu now) (gone_same (answers_with_control role acked) slot acked ∙ is)

peer_stays : (setup : Setup) (facts : Facts) (step : Step) → took_none facts ≡ false → took_none (facts_after setup facts step) ≡ false
peer_stays setup facts (DataGiven start body) is = is
peer_stays setup facts (ProcedureAsked ask) is = asked_same (is_to_come ask facts) ask facts ∙ is
peer_stays setup facts (RequestAnswered answer) is = is
peer_stays setup facts (Disconnected reason slot) is = is
peer_stays setup facts (KeyAnswered key slot) is = key_same (ends_without_key key facts) slot facts.leaving ∙ is
peer_stays setup facts (EventEntered slot) is = entered_same (goes_on facts) setup slot facts ∙ is
peer_stays setup facts PduFixed is = fixed_same (is_control facts.outgoing.fixed) facts ∙ is
peer_stays setup facts (PacketSent slot) is = gone_same (takes_leave facts) slot facts ∙ is
peer_stays setup facts (WordsGiven skd_s iv_s) is = is
peer_stays setup facts (PacketReceived slot octets room) is =
    each_packet setup slot facts (λ (notes : List Note) (next : Facts). took_none next ≡ false) octets room is is
    (λ header pdu. heard_stays setup.link.role slot room header pdu facts is)
peer_stays setup facts DataReported is = is

step_stays : (setup : Setup) (facts : Facts) (step : Step) → IsPast setup facts → is_lasting facts ≡ false
    → is_lasting (facts_after setup facts step) ≡ false
step_stays setup facts step p is =
    both_stay (goes_on facts) (took_none facts) (goes_on (facts_after setup facts step)) (took_none (facts_after setup facts step))
    (stays_over setup facts step p) (peer_stays setup facts step) is

steps_stay : (setup : Setup) (steps : List Step) (facts : Facts) → IsPast setup facts → is_lasting facts ≡ false
    → is_lasting (fold (facts_after setup) facts steps) ≡ false
steps_stay setup [] facts p is = is
steps_stay setup (step ∷ steps) facts p is =
    steps_stay setup steps (facts_after setup facts step) (step_past setup facts step p) (step_stays setup facts step p is)

-- ---- the notes that say so

abbrev is_termination_read : CtrlRead → Bool
is_termination_read (Known (TerminateInd code)) = true
is_termination_read read = false

abbrev is_termination : Note → Bool
is_termination (Took handle count llid body) = (llid == 3) && is_termination_read (ctrl_of body.items)
is_termination note = false

record IsRead (read : CtrlRead) : Type 0 where
  code : ℕ
  is : read ≡ Known (TerminateInd code)

read_as : (read : CtrlRead) → is_termination_read read ≡ true → IsRead read
read_as (Known (TerminateInd code)) is = record { code = code; is = refl }
read_as read is = absurd (cc)

done_none : (handle : ℕ) (done : Option Kind) → list_any is_termination (done_notes handle done) ≡ false
done_none handle None = refl
done_none handle (Some kind) = refl

began_none : (handle : ℕ) (began : Option Kind) → list_any is_termination (began_notes handle began) ≡ false
began_none handle None = refl
began_none handle (Some kind) = refl

refused_none : (handle : ℕ) (refused : Option (Kind × ErrCode)) → list_any is_termination (refused_notes handle refused) ≡ false
refused_none handle None = refl
refused_none handle (Some (kind, code)) = refl

applied_none : (handle event : ℕ) (applied : Option ℕ) → list_any is_termination (applied_notes handle event applied) ≡ false
applied_none handle event None = refl
applied_none handle event (Some number) = refl

sent_none : (noted : Bool) (handle number : ℕ) (pdu : Pdu) → list_any is_termination (sent_notes_if noted handle number pdu) ≡ false
sent_none true handle number pdu = refl
sent_none false handle number pdu = refl

joined_none : (notes more : List Note) → list_any is_termination notes ≡ false → list_any is_termination more ≡ false
    → list_any is_termination (notes ++ more) ≡ false
joined_none notes more one other = list_any-append is_termination notes more ∙ (λ i. one i || other i)

given_none : (handle : ℕ) (given : Taken) → list_any is_termination (given_notes handle given) ≡ false
given_none handle given =
    joined_none (refused_notes handle given.refused) (done_notes handle given.done) (refused_none handle given.refused) (done_none handle given.done)

event_none : (handle : ℕ) (event : ConnectionEvent) (entry : Entry) → list_any is_termination (event_notes handle event entry) ≡ false
event_none handle event entry =
    let applied = applied_notes handle event.number entry.applied in
    let enter = Enter handle (record { 0 = event.number }) event.channel ∷ [] in
    let done = done_notes handle entry.done in
    joined_none (applied ++ enter ++ done) (began_notes handle entry.began)
    (joined_none (applied ++ enter) done (joined_none applied enter (applied_none handle event.number entry.applied) refl) (done_none handle entry.done))
    (began_none handle entry.began)

entered_none : (goes : Bool) (handle : ℕ) (event : ConnectionEvent) (entry : Entry)
    → list_any is_termination (if goes then event_notes handle event entry else []) ≡ false
entered_none true handle event entry = event_none handle event entry
entered_none false handle event entry = refl

-- ---- the step with such a note ends the link there

none_said : (X : Type 0) (b : Bool) → b ≡ false → b ≡ true → X
none_said X true none is = absurd cc
none_said X false none is = absurd cc

only_middle : (a b c : Bool) → a ≡ false → c ≡ false → (a || (b || c)) ≡ true → b ≡ true
only_middle true b c one other is = absurd cc
only_middle false true c one other is = refl
only_middle false false c one other is = none_said _ c other is

-- what the note of a PDU says
record SaysTermination (noted : Bool) (pdu : Pdu) : Type 0 where
  is_noted : noted ≡ true
  control : is_control pdu ≡ true
  read : is_termination_read (ctrl_of pdu.body) ≡ true

says : (noted : Bool) (handle : ℕ) (pdu : Pdu) (facts : Facts) → list_any is_termination (took_notes_if noted handle pdu facts) ≡ true
    → SaysTermination noted pdu
says true handle pdu facts is =
    let parts = and_parts (is_control pdu) (is_termination_read (ctrl_of pdu.body)) (alone _ is) in
    record { is_noted = refl; control = parts.0; read = parts.1 }
  where
    alone : (b : Bool) → (b || false) ≡ true → b ≡ true
    alone true is = refl
    alone false is = absurd cc
says false handle pdu facts is = absurd cc

-- LL_TERMINATE_IND is no PDU of the encryption
no_name : (code : ℕ) (ctrl : Ctrl) → Known (TerminateInd code) ≡ Known ctrl → IsNamed ctrl → ⊥
no_name code (TerminateInd other) is named = named
no_name code ctrl is named = absurd cc

seen_ending : (said read : CtrlRead) (code : ℕ) → SeenAs said read → said ≡ Known (TerminateInd code) → read ≡ Known (TerminateInd code)
seen_ending said read code seen is =
    same_seen (λ (other : CtrlRead). other ≡ Known (TerminateInd code)) said read seen (λ ctrl. λ known. no_name code ctrl (sym is ∙ known)) is

owing_stays : (c d : Control) → Owing c d → is_none c.ends ≡ false → is_none d.ends ≡ false
owing_stays c d (Same is) over = ap (λ (x : Control). is_none x.ends) is ∙ over
owing_stays c d (Owed ctrl may is) over = ap (λ (x : Control). is_none x.ends) is ∙ ends_stay (Owes ctrl) c over

kept_stays : (slot : ℕ) (kept : Taken) (c d : Control) → TakingKept slot kept c d → is_none c.ends ≡ false → is_none d.ends ≡ false
kept_stays slot kept c d (NoneKept none is) over = ap (λ (x : Control). is_none x.ends) is ∙ over
kept_stays slot kept c d (TakesKept ctrl class given is) over =
    ap (λ (x : Control). is_none x.ends) is ∙ ends_stay (Takes (Known ctrl) slot true) c over

-- whether an end lasts, by what its procedures gave and what they made of it
abbrev lasts_with : Leaving → Taken → Control → Bool
lasts_with leaving taken d = is_none d.ends && is_none (leaving_by (code_of taken.effect) leaving).ended_by_peer

ended_first : (a b : Bool) → a ≡ false → (a && b) ≡ false
ended_first true b is = absurd cc
ended_first false b is = refl

view_ends : (quiet : Bool) (c : Control) (read : CtrlRead) (slot : ℕ) (taken kept : Taken) (d : Control) (leaving : Leaving) (code : ℕ)
    → read ≡ Known (TerminateInd code) → Taking quiet c read slot taken kept d
    → lasts_with leaving taken d ≡ false
view_ends quiet c read slot taken kept d leaving code is (Over over none none_kept same) =
    ended_first _ _ (ap (λ (x : Control). is_none x.ends) same ∙ over)
view_ends quiet c read slot taken kept d leaving code is (Withheld goes loud class none none_kept same) =
    let no : ◌≡◌ {A = PduClass} Terminate Request = sym (ap class_of_read is) ∙ class in absurd cc
view_ends quiet c read slot taken kept d leaving code is (Ended other goes class none none_kept same) = absurd (class (ap class_of_read is))
view_ends quiet c read slot taken kept d leaving code is (Handed seen middle goes is_seen class owing given later) =
    let here = seen_ending read seen code is_seen is in
    let asked = after (Takes seen slot quiet) c in
    let given_first = taken_of seen slot quiet (held_of c) in
    both_stay (is_none asked.ends) (is_none (leaving_by (code_of given_first.effect) leaving).ended_by_peer) (is_none d.ends)
    (is_none (leaving_by (code_of taken.effect) leaving).ended_by_peer)
    (λ over. kept_stays slot kept middle d later (owing_stays asked middle owing over))
    (λ over. ap (λ (t : Taken). is_none (leaving_by (code_of t.effect) leaving).ended_by_peer) given ∙ over)
    (ap (lasts_taking c leaving slot quiet) here ∙ ends_taking c leaving slot quiet code)

takes_if : (takes : Bool) (pdu : Pdu) (slot : ℕ) (facts : Facts) → takes ≡ true → Knows (keyed_of facts) → IsRead (ctrl_of pdu.body)
    → is_lasting (procedures_take_if takes pdu slot facts) ≡ false
takes_if true pdu slot facts is knows read =
    view_ends (is_quiet_now facts) facts.control (read_of pdu) slot (procedures_give pdu slot facts) _ (control_taken pdu slot facts) facts.leaving
    read.code (seen_ending (ctrl_of pdu.body) (read_of pdu) read.code (reading_view pdu) read.is) (taken_view pdu slot facts knows)
takes_if false pdu slot facts is knows read = absurd cc

data_ended : (c d : Control) → DataTaking c d → is_none c.ends ≡ false → is_none d.ends ≡ false
data_ended c d (Same is) over = ap (λ (x : Control). is_none x.ends) is ∙ over
data_ended c d (Ended code goes is) over = ap (λ (x : Control). is_none x.ends) is

data_over : (takes : Bool) (facts : Facts) → is_lasting facts ≡ false → is_lasting (data_taken_if takes facts) ≡ false
data_over true facts is =
    both_stay (goes_on facts) (took_none facts) (goes_on (data_taken_if true facts)) (took_none facts)
    (data_ended facts.control _ (data_view facts)) (λ over. over) is
data_over false facts is = is

heard_ends : (setup : Setup) (slot : ℕ) (room : Bool) (header : DataHeader) (pdu : Pdu) (facts : Facts) → IsPast setup facts
    → list_any is_termination (notes_hearing setup slot room header pdu facts) ≡ true
    → is_lasting (facts_hearing setup.link.role slot room header pdu facts) ≡ false
heard_ends setup slot room header pdu facts p is =
    let handle = setup.link.handle in
    let now = facts_before_taking setup.link.role slot header facts in
    let accepted = accepts room header pdu now in
    let takes = accepted && is_procedure_pdu pdu in
    let acked = done_notes handle (acked_kind (acks_control (has_acknowledged facts header) facts) facts) in
    let took = took_notes_if (accepted && not (is_empty pdu)) handle pdu now in
    let given = given_notes handle (given_if takes pdu slot now) ++ given_notes handle (kept_given_if takes pdu slot now) in
    let none_given =
    joined_none (given_notes handle (given_if takes pdu slot now)) (given_notes handle (kept_given_if takes pdu slot now))
    (given_none handle (given_if takes pdu slot now)) (given_none handle (kept_given_if takes pdu slot now)) in
    let all = sym (list_any-append is_termination acked (took ++ given)
    ∙ ap (λ (b : Bool). list_any is_termination acked || b) (list_any-append is_termination took given)) ∙ is in
    let noted =
    says (accepted && not (is_empty pdu)) handle pdu now
    (only_middle (list_any is_termination acked) (list_any is_termination took) (list_any is_termination given)
    (done_none handle (acked_kind (acks_control (has_acknowledged facts header) facts) facts)) none_given all) in
    let parts = and_parts accepted (not (is_empty pdu)) noted.is_noted in
    data_over (accepted && is_data pdu) (procedures_take_if takes pdu slot (accepted_if accepted pdu now))
    (takes_if takes pdu slot (accepted_if accepted pdu now) (λ i. parts.0 i && (noted.control i && parts.1 i))
    (knows_accepted accepted pdu now (knows_before_taking setup facts p setup.link.role slot header)) (read_as (ctrl_of pdu.body) noted.read))

step_ends : (setup : Setup) (facts : Facts) (step : Step) → IsPast setup facts → list_any is_termination (notes_after setup facts step) ≡ true
    → is_lasting (facts_after setup facts step) ≡ false
step_ends setup facts (DataGiven start body) p is = absurd cc
step_ends setup facts (ProcedureAsked ask) p is = absurd cc
step_ends setup facts (RequestAnswered answer) p is = absurd cc
step_ends setup facts (Disconnected reason slot) p is = absurd cc
step_ends setup facts (KeyAnswered key slot) p is = absurd cc
step_ends setup facts (EventEntered slot) p is =
    none_said _ _
    (entered_none (goes_on facts) setup.link.handle (facts_entered setup slot facts).event (entry_of slot (is_quiet_now facts) (held_of facts.control))) is
step_ends setup facts PduFixed p is = absurd cc
step_ends setup facts (PacketSent slot) p is =
    none_said _ _
    (sent_none (is_acked facts.acknowledgement && not (is_empty (pdu_fixed facts))) setup.link.handle (numbered facts.acknowledgement.sent)
    (pdu_fixed facts)) is
step_ends setup facts (WordsGiven skd_s iv_s) p is = absurd cc
step_ends setup facts (PacketReceived slot octets room) p is =
    each_packet setup slot facts (λ (notes : List Note) (next : Facts). list_any is_termination notes ≡ true → is_lasting next ≡ false) octets room
    (λ none. absurd cc) (λ none. absurd cc) (λ header pdu. heard_ends setup slot room header pdu facts p) is
step_ends setup facts DataReported p is = absurd cc

-- ---- all steps

here_or_later : (X : Type 0) (notes more : List Note) → list_any is_termination (notes ++ more) ≡ true
    → (list_any is_termination notes ≡ true → X) → (list_any is_termination more ≡ true → X) → X
here_or_later X notes more is here later = by (list_any is_termination notes) refl
  where
    by : (b : Bool) → list_any is_termination notes ≡ b → X
    by true one = here one
    by false none =
        later (sym (list_any-append is_termination notes more ∙ ap (λ (b : Bool). b || list_any is_termination more) none) ∙ is)

steps_end : (setup : Setup) (steps : List Step) (facts : Facts) → IsPast setup facts
    → list_any is_termination (notes_from setup facts steps) ≡ true → is_lasting (fold (facts_after setup) facts steps) ≡ false
steps_end setup [] facts p is = absurd cc
steps_end setup (step ∷ steps) facts p is =
    let next = facts_after setup facts step in
    let later_past = step_past setup facts step p in
    here_or_later _ (notes_after setup facts step) (notes_from setup next steps) is
    (λ here. steps_stay setup steps next later_past (step_ends setup facts step p here)) (λ later. steps_end setup steps next later_past later)

any_more : (a b : Bool) → b ≡ true → (a || b) ≡ true
any_more true b is = refl
any_more false b is = is

stands : (start later : List Note) (handle count code : ℕ) (body : List ℕ) → ctrl_of body ≡ Known (TerminateInd code)
    → list_any is_termination (start ++ Took handle count 3 (record { items = body }) ∷ later) ≡ true
stands start later handle count code body is =
    list_any-append is_termination start (Took handle count 3 (record { items = body }) ∷ later)
    ∙ any_more (list_any is_termination start) _ (ap (λ (read : CtrlRead). is_termination_read read || list_any is_termination later) is)

pub past_over : (setup : Setup) (past : List Step) (start later : List Note) (handle count : ℕ) (body : List ℕ) (code : ℕ)
    → notes_of setup past ≡ start ++ Took handle count 3 (record { items = body }) ∷ later → ctrl_of body ≡ Known (TerminateInd code)
    → is_lasting (facts_of setup past) ≡ false
unfolding facts_of notes_of
past_over setup past start later handle count body code are is =
    steps_end setup past (first_facts setup) (first_past setup) (ap (list_any is_termination) are ∙ stands start later handle count code body is)
