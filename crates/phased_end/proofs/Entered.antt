-- An end that has entered an event stays one.
use Rattle.std.proofs.Common.{◌≡◌, ℕ, ◌≤◌, Bool, true, false, ◌&&◌, Option, Some, None, is_none, sym, subst, arith, if◌then◌else◌}
use Rattle.ble_base.specs.declared.error_codes.ErrCode.{ErrCode}
use Rattle.ble_base.specs.declared.roles.Role.{Role}
use Rattle.ble_base.specs.declared.roles.Role.TheVariants.{Central, Peripheral}
use Rattle.instants.specs.declared.indications.Indication.{Indication}
use Rattle.instants.specs.declared.track.Change.{Change}
use Rattle.instants.specs.Track.{TrackFacts, is_due, track_changed, track_in_next, track_unchanged}
use Rattle.procedures.specs.procedure_values.Drafts.{is_out}
use Rattle.procedures.specs.procedure_stages.Closing.{is_open}
use Rattle.procedures.specs.procedure_stages.InProgress.{is_host_asked}
use Rattle.procedures.specs.procedure_stages.Kinds.{role_of}
use Rattle.procedures.specs.Beginning.{begin_step}
use Rattle.procedures.specs.Going.{is_answer}
use Rattle.procedures.specs.Table.{TableFacts}
use Rattle.procedures.specs.Taking.{took_step}
use Rattle.control_part.specs.control_end.control_model.Control.{Control, Step, Answers, Asks, Disconnects, Enters, Owes, SeesAcknowledged, Sends, Takes, after, following, goes_out, indicated_by, is_to_come, moved, table_if, taken, went}
use Rattle.keyed_control.specs.KeyedSteps.{KeyedStep}
use Rattle.keyed_control.specs.KeyedSteps.{Enters as keyed_enters}
use Rattle.keyed_control.specs.phased_control.Phased.{Phased, ask_begun, is_encrypt, is_quiet_now, request_of, table_entered, with_step}
use Rattle.phased_end.specs.Held.{HeldKeyed, held_after, keyed_of, phased_of}
use Rattle.phased_end.specs.Moves.{lasts}
use Rattle.phased_end.specs.Reached.{IsReached, MayCome}
use Rattle.phased_end.specs.Taking.{hearing_forged}
use Rattle.phased_end.proofs.Lengths.{IsFine}
use Rattle.phased_end.proofs.Sized.{reached_keeps, sized_after, sized_encrypting_if}
use Rattle.phased_end.proofs.Steps.{on_ends, with_ends}

abbrev Entered : Control → Type 0
Entered c = 1 ≤ c.track.entered

choice : (b : Bool) (c d : Control) → Entered c → Entered d → Entered (if b then c else d)
choice true c d one other = one
choice false c d one other = other

by_table : (b : Bool) (g : TableFacts) (c : Control) → Entered c → Entered (table_if b g c)
by_table true g c is = is
by_table false g c is = is

by_following : (role : Role) (indication : Option Indication) (c : Control) → Entered c → Entered (following role indication c)
by_following Central None c is = is
by_following Central (Some indication) c is = is
by_following Peripheral indication c is = is

by_taken : (g : TableFacts) (code : Option ErrCode) (indication : Option Indication) (c : Control) → Entered c → Entered (taken g code indication c)
by_taken g (Some code) indication c is = is
by_taken g None None c is = is
by_taken g None (Some indication) c is = choice (is_to_come c.track indication) _ _ is is

next : (waits : Option Change) (t : TrackFacts) → 1 ≤ (track_in_next waits t).entered
next None t = omega arith
next (Some change) t = by (is_due change t.entered)
  where
    by : (due : Bool) → 1 ≤ (if due then track_changed change t else track_unchanged t).entered
    by true = omega arith
    by false = omega arith

by_moved : (step : Step) (c : Control) → Entered c → Entered (moved step c)
by_moved (Enters slot quiet) c is = next c.track.waits c.track
by_moved (Asks ask) c is = is
by_moved (Answers answer) c is = by_table (is_host_asked c.table.progress && is_answer answer) _ c is
by_moved (Disconnects reason) c is = by_table (is_open c.table.closing) _ c is
by_moved (Sends slot quiet) c is =
    choice (goes_out quiet c) _ _
    (by_following (role_of c.table.progress) (went slot quiet c).1 (record c { table = (went slot quiet c).0 }) is) is
by_moved SeesAcknowledged c is = by_table (is_out c.table.out) _ c is
by_moved (Takes read slot quiet) c is =
    let step = took_step c.table read slot quiet in by_taken step.0 step.1.ends (indicated_by step.1.effect) c is
by_moved (Owes ctrl) c is = is

entered_step : (step : Step) (c : Control) → IsFine step → Entered c → Entered (after step c)
entered_step step c fine is = choice (is_none c.ends) _ _ (by_moved step c is) is

-- ---- the steps of an end with its keys

pub entered_as : (step : KeyedStep) (h new : HeldKeyed) → MayCome step → IsReached h → new ≡ held_after step h
    → 1 ≤ h.control.track.entered → 1 ≤ new.control.track.entered
entered_as step h new may r is entered =
    subst (λ (g : HeldKeyed). 1 ≤ g.control.track.entered) (sym is)
    (sized_after Entered entered_step (λ code c now. now) step (keyed_of h) may (entered, reached_keeps h r)).0

enters_goes : (slot : ℕ) (h : HeldKeyed) → IsReached (with_ends None h) → 1 ≤ (held_after (keyed_enters slot) (with_ends None h)).control.track.entered
enters_goes slot h r =
    let s : Phased = phased_of (with_ends None h) in
    let f = table_entered s in
    let quiet = is_quiet_now s in
    (sized_encrypting_if Entered entered_step (λ code c now. now) (is_encrypt (begin_step f slot quiet).1)
    (request_of (ask_begun f quiet)) (with_step (Enters slot quiet) s)
    (next s.control.track.waits s.control.track, reached_keeps (with_ends None h) r)).0

-- an end that goes on has entered an event then
enters_one : (slot : ℕ) (h : HeldKeyed) → IsReached h → lasts h ≡ true → 1 ≤ (held_after (keyed_enters slot) h).control.track.entered
enters_one slot =
    on_ends (λ h. IsReached h → lasts h ≡ true → 1 ≤ (held_after (keyed_enters slot) h).control.track.entered)
    (λ h. λ r. λ goes. enters_goes slot h r) (λ h. λ code. λ r. λ goes. absurd (cc))

pub enters_as : (slot : ℕ) (h new : HeldKeyed) → IsReached h → new ≡ held_after (keyed_enters slot) h → lasts h ≡ true
    → 1 ≤ new.control.track.entered
enters_as slot h new r is goes = subst (λ (g : HeldKeyed). 1 ≤ g.control.track.entered) (sym is) (enters_one slot h r goes)
