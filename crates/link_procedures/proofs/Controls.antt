-- What each step of the control part of an end makes of the procedure that the end has in progress.
use Rattle.std.proofs.Common.{◌≡◌, ℕ, Bool, true, false, if◌then◌else◌, ◌&&◌, [], ◌∷◌, ◌++◌, Option, Some, None, is_none, is_some, Result, refl, ap, sym, subst, ◌∙◌}
use Rattle.ble_base.specs.declared.error_codes.ErrCode.{ErrCode}
use Rattle.ble_base.specs.declared.procedure_kinds.Kind.{Kind}
use Rattle.ble_base.specs.declared.roles.Role.{Role}
use Rattle.ble_base.specs.declared.roles.Role.TheVariants.{Central, Peripheral}
use Rattle.data_pdu.specs.declared.ctrl.Ctrl.{Ctrl}
use Rattle.data_pdu.specs.declared.ctrl.CtrlRead.{CtrlRead}
use Rattle.data_pdu.specs.declared.ctrl.CtrlRead.TheVariants.{Known}
use Rattle.instants.specs.Track.{event_of, next_number}
use Rattle.instants.specs.declared.indications.Indication.{Indication}
use Rattle.ble_base.specs.declared.counters.EventNo.{EventNo}
use Rattle.ble_base.specs.declared.notes.Note.TheVariants.{Enter}
use Rattle.link_model.specs.Entering.{began_notes, done_notes, event_notes}
use Rattle.link_model.specs.Events.{applied_notes}
use Rattle.link_model.specs.declared.events.ConnectionEvent.{ConnectionEvent}
use Rattle.link_model.specs.control_end.declared.answers.Taken.{Taken}
use Rattle.link_model.specs.procedure_values.Drafts.{is_out}
use Rattle.link_model.specs.Receiving.{given_notes}
use Rattle.link_model.specs.control_end.Answers.{done_by_acknowledgement, entry_of, nothing_taken, step_shown, taken_of}
use Rattle.link_model.specs.control_end.Held.{control_of, held_of}
use Rattle.link_model.specs.control_model.Control.{Control, Answers, Asks, Disconnects, Enters, Owes, SeesAcknowledged, Sends, Takes, after, following, goes_out, indicated_by, is_to_come, table_if, taken, went}
use Rattle.link_model.specs.procedure_values.declared.asks.Ask.{Ask}
use Rattle.link_model.specs.procedure_stages.Closing.{is_open}
use Rattle.link_model.specs.procedure_stages.Kinds.{own_kind, role_of}
use Rattle.link_model.specs.procedure_stages.declared.stages.Progress.{Progress}
use Rattle.link_model.specs.procedure_stages.declared.stages.Progress.TheVariants.{Central as central, Peripheral as peripheral}
use Rattle.link_model.specs.procedures.Beginning.{begin_step}
use Rattle.link_model.specs.procedures.Encryption.{is_rejection, progress_given}
use Rattle.link_model.specs.procedures.Going.{entered_step, host_answer_step, terminate_step}
use Rattle.link_model.specs.procedures.Queue.{next_of}
use Rattle.link_model.specs.procedures.Sending.{acked_step}
use Rattle.link_model.specs.procedures.Table.{TableFacts}
use Rattle.link_model.specs.procedures.Taking.{took_step}
use Rattle.link_model.proofs.control_model.Calls.{any_step, either_way}
use Rattle.link_model.proofs.Views.{DataTaking, Owing, Taking, TakingKept}
use Rattle.link_model.proofs.Views.{Ended, Handed, NoneKept, Over, Owed, Same, TakesKept, Withheld}
use Rattle.link_procedures.proofs.Noting.{GoesBy, applied_silent, both, goes_on}
use Rattle.link_procedures.proofs.Tables.{acked_goes, answered_same, begin_goes, entered_goes, sent_same, took_goes}

-- the procedure that the end has in progress
abbrev pub own_of : Control → Option Kind
own_of c = own_kind c.table.progress

-- ---- steps that note nothing

abbrev Keeps : Control → Control → Type 0
Keeps c d = own_of d ≡ own_of c

pub asks_keep : (ask : Ask) (c : Control) → own_of (after (Asks ask) c) ≡ own_of c
asks_keep ask c = any_step (Keeps c) (Asks ask) c refl refl

pub answers_keep : (answer : Result Ask ErrCode) (c : Control) → own_of (after (Answers answer) c) ≡ own_of c
answers_keep answer c =
    any_step (Keeps c) (Answers answer) c
    (either_way (Keeps c) _ (record c { table = host_answer_step c.table answer }) c (answered_same c.table answer) refl) refl

pub disconnects_keep : (reason : ErrCode) (c : Control) → own_of (after (Disconnects reason) c) ≡ own_of c
disconnects_keep reason c =
    any_step (Keeps c) (Disconnects reason) c
    (either_way (Keeps c) (is_open c.table.closing) (record c { table = terminate_step c.table reason }) c refl refl) refl

following_keeps : (role : Role) (indication : Option Indication) (c : Control) → own_of (following role indication c) ≡ own_of c
following_keeps Central (Some indication) c = refl
following_keeps Central None c = refl
following_keeps Peripheral indication c = refl

pub sends_keep : (slot : ℕ) (quiet : Bool) (c : Control) → own_of (after (Sends slot quiet) c) ≡ own_of c
sends_keep slot quiet c =
    let d = record c { table = (went slot quiet c).0 } in
    any_step (Keeps c) (Sends slot quiet) c
    (either_way (Keeps c) (goes_out quiet c) (following (role_of c.table.progress) (went slot quiet c).1 d) c
    (following_keeps (role_of c.table.progress) (went slot quiet c).1 d
    ∙ sent_same (next_of c.table (event_of c.track) quiet) (event_of c.track) c.track.params.latency c.table.progress) refl)
    refl

given_keeps : (p : Progress) (ctrl : Ctrl) → own_kind (progress_given p ctrl) ≡ own_kind p
given_keeps (central c) ctrl = refl
given_keeps (peripheral p) ctrl = by (is_rejection ctrl)
  where
    by : (b : Bool) → own_kind (if b then peripheral (record p { encrypting = false }) else peripheral p) ≡ own_kind (peripheral p)
    by true = refl
    by false = refl

owes_keep : (ctrl : Ctrl) (c : Control) → own_of (after (Owes ctrl) c) ≡ own_of c
owes_keep ctrl c = any_step (Keeps c) (Owes ctrl) c (given_keeps c.table.progress ctrl) refl

-- a PDU of the encryption may be queued
pub owing_keeps : (c d : Control) → Owing c d → own_of d ≡ own_of c
owing_keeps c d (Same is) = ap own_of is
owing_keeps c d (Owed ctrl may is) = ap own_of is ∙ owes_keep ctrl c

-- data may end the link
pub data_keeps : (c d : Control) → DataTaking c d → own_of d ≡ own_of c
data_keeps c d (Same is) = ap own_of is
data_keeps c d (Ended code goes is) = ap own_of is

-- ---- a control PDU is acknowledged

acked_by : (handle : ℕ) (c : Control) (lasts out : Bool)
    → GoesBy (done_notes handle (if lasts && out then (acked_step c.table).1 else None)) (own_of c)
    (own_of (if lasts then table_if out (acked_step c.table).0 c else c))
acked_by handle c true true = acked_goes handle c.table
acked_by handle c true false = goes_on (own_of c)
acked_by handle c false out = goes_on (own_of c)

pub sees_goes : (handle : ℕ) (c : Control)
    → GoesBy (done_notes handle (done_by_acknowledgement (held_of c))) (own_of c) (own_of (after SeesAcknowledged c))
sees_goes handle c = acked_by handle c (is_none c.ends) (is_out c.table.out)

-- ---- a control PDU of the peer is taken

-- by an end that goes on
abbrev lasting : Control → Control
lasting c = record c { ends = None }

taken_by : (handle : ℕ) (c : Control) (table : TableFacts) (shown : Taken) (ends : Option ErrCode) (indication : Option Indication)
    → (ends ≡ None → GoesBy (given_notes handle shown) (own_of c) (own_kind table.progress))
    → GoesBy (given_notes handle (if is_none (taken table ends indication (control_of (held_of (lasting c)))).ends then shown else nothing_taken)) (own_of c)
    (own_of (taken table ends indication (lasting c)))
taken_by handle c table shown (Some code) indication goes = goes_on (own_of c)
taken_by handle c table shown None None goes = goes refl
taken_by handle c table shown None (Some indication) goes = by (is_to_come c.track indication) refl
  where
    by : (comes : Bool) → is_to_come c.track indication ≡ comes
        → GoesBy
        (given_notes handle (if is_none (taken table None (Some indication) (control_of (held_of (lasting c)))).ends then shown else nothing_taken))
        (own_of c) (own_of (taken table None (Some indication) (lasting c)))
    by true is = rw is (goes refl)
    by false is = rw is (goes_on (own_of c))

pub takes_goes : (handle : ℕ) (read : CtrlRead) (slot : ℕ) (quiet : Bool) (c : Control)
    → GoesBy (given_notes handle (taken_of read slot quiet (held_of c))) (own_of c) (own_of (after (Takes read slot quiet) c))
takes_goes handle read slot quiet c = by c.ends
  where
    by : (ends : Option ErrCode) → GoesBy (given_notes handle (taken_of read slot quiet (held_of (record c { ends = ends })))) (own_of c)
        (own_of (after (Takes read slot quiet) (record c { ends = ends })))
    by None =
        let step = took_step c.table read slot quiet in
        taken_by handle c step.0 (step_shown step.1) step.1.ends (indicated_by step.1.effect) (took_goes handle c.table read slot quiet)
    by (Some code) = goes_on (own_of c)

-- in any phase of encryption: the procedures see it or not, and then the one that was kept
kept_goes : (handle : ℕ) (slot : ℕ) (kept : Taken) (middle d : Control) → TakingKept slot kept middle d
    → GoesBy (given_notes handle kept) (own_of middle) (own_of d)
kept_goes handle slot kept middle d (NoneKept none is) =
    subst (λ (given : Taken). GoesBy (given_notes handle given) (own_of middle) (own_of d)) (sym none)
    (subst (λ (later : Option Kind). GoesBy [] (own_of middle) later) (sym (ap own_of is)) (goes_on (own_of middle)))
kept_goes handle slot kept middle d (TakesKept ctrl class given is) =
    subst (λ (given : Taken). GoesBy (given_notes handle given) (own_of middle) (own_of d)) (sym given)
    (subst (λ (later : Option Kind). GoesBy (given_notes handle (taken_of (Known ctrl) slot true (held_of middle))) (own_of middle) later)
    (sym (ap own_of is)) (takes_goes handle (Known ctrl) slot true middle))

none_goes : (handle : ℕ) (taken kept : Taken) (c d : Control) → taken ≡ nothing_taken → kept ≡ nothing_taken → own_of d ≡ own_of c
    → GoesBy (given_notes handle taken ++ given_notes handle kept) (own_of c) (own_of d)
none_goes handle taken kept c d none none_kept same =
    subst (λ (given : Taken). GoesBy (given_notes handle given ++ given_notes handle kept) (own_of c) (own_of d)) (sym none)
    (subst (λ (given : Taken). GoesBy (given_notes handle given) (own_of c) (own_of d)) (sym none_kept)
    (subst (λ (later : Option Kind). GoesBy [] (own_of c) later) (sym same) (goes_on (own_of c))))

pub taking_goes : (handle : ℕ) (quiet : Bool) (c : Control) (read : CtrlRead) (slot : ℕ) (taken kept : Taken) (d : Control)
    → Taking quiet c read slot taken kept d
    → GoesBy (given_notes handle taken ++ given_notes handle kept) (own_of c) (own_of d)
taking_goes handle quiet c read slot taken kept d (Over over none none_kept is) = none_goes handle taken kept c d none none_kept (ap own_of is)
taking_goes handle quiet c read slot taken kept d (Withheld goes loud class none none_kept is) =
    none_goes handle taken kept c d none none_kept (ap own_of is)
taking_goes handle quiet c read slot taken kept d (Ended code goes class none none_kept is) =
    none_goes handle taken kept c d none none_kept (ap own_of is)
taking_goes handle quiet c read slot taken kept d (Handed seen middle goes is_seen class owing given later) =
    both (given_notes handle taken) (given_notes handle kept) (own_of c) (own_of middle) (own_of d)
    (subst (λ (given : Taken). GoesBy (given_notes handle given) (own_of c) (own_of middle)) (sym given)
    (subst (λ (later : Option Kind). GoesBy (given_notes handle (taken_of seen slot quiet (held_of c))) (own_of c) later)
    (sym (owing_keeps (after (Takes seen slot quiet) c) middle owing)) (takes_goes handle seen slot quiet c)))
    (kept_goes handle slot kept middle d later)

-- ---- an event is entered

entry_goes : (handle : ℕ) (event : ConnectionEvent) (slot : ℕ) (quiet : Bool) (c : Control)
    → GoesBy (event_notes handle event (entry_of slot quiet (held_of (lasting c)))) (own_of c) (own_of (after (Enters slot quiet) (lasting c)))
entry_goes handle event slot quiet c =
    let applied = is_some (next_number c.track) in
    let entered = entered_step c.table applied in
    let begun = begin_step entered.0 slot quiet in
    let number : EventNo = record { 0 = event.number } in
    let first = applied_notes handle event.number (next_number c.track) in
    let enter = Enter handle number event.channel ∷ [] in
    let done = done_notes handle entered.1 in
    let own = own_of c in
    let between = own_kind entered.0.progress in
    let later = own_kind begun.0.progress in
    both (first ++ enter ++ done) (began_notes handle begun.1) own between later
    (both (first ++ enter) done own own between (both first enter own own own (applied_silent handle event.number (next_number c.track) own) (λ kind. refl))
    (entered_goes handle c.table applied))
    (begin_goes handle entered.0 slot quiet)

pub enters_goes : (handle : ℕ) (event : ConnectionEvent) (slot : ℕ) (quiet : Bool) (c : Control) → is_none c.ends ≡ true
    → GoesBy (event_notes handle event (entry_of slot quiet (held_of c))) (own_of c) (own_of (after (Enters slot quiet) c))
enters_goes handle event slot quiet c lasts = by c.ends lasts
  where
    by : (ends : Option ErrCode) → is_none ends ≡ true
        → GoesBy (event_notes handle event (entry_of slot quiet (held_of (record c { ends = ends })))) (own_of c)
        (own_of (after (Enters slot quiet) (record c { ends = ends })))
    by None is = entry_goes handle event slot quiet c
    by (Some code) is = absurd (cc)
