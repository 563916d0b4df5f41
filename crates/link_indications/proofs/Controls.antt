-- What each step of the control part of an end leaves: the indications that it sent, and whether the link goes on.
use Rattle.std.proofs.Common.{◌≡◌, ℕ, ◌<◌, ◌≤◌, nat_lt, Bool, true, false, ◌&&◌, if◌then◌else◌, [], ◌++◌, Option, Some, None, is_none, refl, sym, ap, subst, ◌∙◌, arith}
use Rattle.std.specs.List.{All}
use Rattle.std.proofs.lemmas.List.{append-nil}
use Rattle.std.proofs.lemmas.List.Elements.{All-cons, All-nil}
use Rattle.ble_base.specs.ErrorCodes.{instant_passed}
use Rattle.ble_base.specs.declared.error_codes.ErrCode.{ErrCode}
use Rattle.ble_base.specs.declared.roles.Role.{Role}
use Rattle.ble_base.specs.declared.roles.Role.TheVariants.{Central, Peripheral}
use Rattle.data_pdu.specs.declared.ctrl.CtrlRead.{CtrlRead}
use Rattle.instants.specs.Arrivals.{taking_of}
use Rattle.instants.specs.Track.{event_of, gap_ahead, track_after_take}
use Rattle.instants.specs.declared.indications.Indication.{Indication}
use Rattle.instants.specs.declared.indications.Params.{Params}
use Rattle.two_tracks.specs.TwoEnds.{MayIndicateIf, TwoEnds, after_sending, beginning}
use Rattle.link_model.specs.procedure_stages.Closing.{is_open}
use Rattle.link_model.specs.procedure_stages.InProgress.{is_host_asked}
use Rattle.link_model.specs.procedure_stages.Kinds.{role_of}
use Rattle.link_model.specs.procedure_values.Drafts.{is_out}
use Rattle.link_model.specs.procedures.Going.{is_answer}
use Rattle.link_model.specs.procedures.Table.{TableFacts}
use Rattle.link_model.specs.procedures.Taking.{facts_with, outcome_of, took_step}
use Rattle.link_model.specs.control_model.Control.{Control, Step, Answers, Asks, Disconnects, Enters, Owes, SeesAcknowledged, Sends, Takes, after, after_all, ended, first_control, indicated_by, is_to_come, moved, table_if, taken, went}
use Rattle.link_model.proofs.control_model.Calls.{any_step, took_by}
use Rattle.link_model.proofs.control_model.Central.{may}
use Rattle.link_model.proofs.control_model.Moving.{sends_all}
use Rattle.link_changes.specs.Noted.{indication_read, taking_if}
use Rattle.link_changes.proofs.Knowing.{changes_in}
use Rattle.link_changes.proofs.Reached.{Reached, in_range}
use Rattle.link_changes.proofs.Steps.{none_of}
use Rattle.link_changes.proofs.Taking.{handed}
use Rattle.link_indications.specs.InTime.{IsTakenInTime}

-- an end that goes on after a step went on before it
pub goes_before : (step : Step) (c : Control) → (after step c).ends ≡ None → c.ends ≡ None
goes_before step c goes = by (is_none c.ends) refl goes
  where
    by : (b : Bool) → is_none c.ends ≡ b → (if b then moved step c else c).ends ≡ None → c.ends ≡ None
    by true is goes = none_of c.ends is
    by false is goes = goes

-- ---- the indications that were sent

abbrev pub is_sending : Step → Bool
is_sending (Sends slot quiet) = true
is_sending other = false

same_if : (b : Bool) (g : TableFacts) (c : Control) → (table_if b g c).sent ≡ c.sent
same_if true g c = refl
same_if false g c = refl

same_taken : (c : Control) (g : TableFacts) (some : Option Indication) → (taken g None some c).sent ≡ c.sent
same_taken c g None = refl
same_taken c g (Some indication) = by (is_to_come c.track indication)
  where
    by : (b : Bool) → (if b then record c { table = g; track = track_after_take c.track indication } else ended (record { 0 = instant_passed }) c).sent ≡ c.sent
    by true = refl
    by false = refl

same_moved : (step : Step) (c : Control) → is_sending step ≡ false → (moved step c).sent ≡ c.sent
same_moved (Enters slot quiet) c is = refl
same_moved (Asks ask) c is = refl
same_moved (Answers answer) c is = same_if (is_host_asked c.table.progress && is_answer answer) _ c
same_moved (Disconnects reason) c is = same_if (is_open c.table.closing) _ c
same_moved (Sends slot quiet) c is = absurd (cc)
same_moved SeesAcknowledged c is = same_if (is_out c.table.out) _ c
same_moved (Takes read slot quiet) c is =
    took_by (λ (d : Control). d.sent ≡ c.sent) c (λ code. refl) read slot quiet
    (same_taken c (facts_with c.table slot (outcome_of c.table quiet read)) (indicated_by (outcome_of c.table quiet read).step.effect))
same_moved (Owes ctrl) c is = refl

-- no step but one that sends changes them
pub same_sent : (step : Step) (c : Control) → is_sending step ≡ false → (after step c).sent ≡ c.sent
same_sent step c is = any_step (λ (d : Control). d.sent ≡ c.sent) step c (same_moved step c is) refl

-- what is sent in this event is added
abbrev both_ends : Control → TwoEnds
both_ends c = record (beginning c.track.params 0 0) { central = c.track; sent = c.sent }

with_sending : (c : Control) (some : Option Indication) → (after_sending some (both_ends c)).sent ≡ c.sent ++ changes_in (taking_if (event_of c.track) some)
with_sending c None = sym (append-nil c.sent)
with_sending c (Some indication) = refl

pub sent_more : (c : Control) (slot : ℕ) (quiet : Bool) → role_of c.table.progress ≡ Central → c.ends ≡ None
    → (after (Sends slot quiet) c).sent ≡ c.sent ++ changes_in (taking_if (event_of c.track) (went slot quiet c).1)
sent_more c slot quiet role lasts = sends_all c slot quiet (both_ends c) role lasts refl refl ∙ with_sending c (went slot quiet c).1

-- ---- what is sent and taken is in time

abbrev pub AreInTime : ℕ → Option Indication → Type 0
AreInTime event some = All IsTakenInTime (taking_if event some)

near_in_time : (event : ℕ) (indication : Indication) → gap_ahead event indication < 32767 → AreInTime event (Some indication)
near_in_time event indication near =
    All-cons IsTakenInTime (taking_of event indication) [] (omega (arith, near)) (All-nil IsTakenInTime)

may_in_time : (s : TwoEnds) (some : Option Indication) → MayIndicateIf s some → AreInTime (event_of s.central) some
may_in_time s None may = All-nil IsTakenInTime
may_in_time s (Some indication) may = near_in_time (event_of s.central) indication may.near

-- a central sends an indication with an Instant that is near
pub sent_in_time : (role : Role) (max_rx : ℕ) (first : Params) (slot : ℕ) (c : Control) → Reached role max_rx first slot c → role ≡ Central
    → is_none c.ends ≡ true → first.latency ≤ 499 → (now : ℕ) (quiet : Bool) → AreInTime (event_of c.track) (went now quiet c).1
sent_in_time Peripheral max_rx first slot c r is lasts latency now quiet = absurd (cc)
sent_in_time Central max_rx first slot c r is lasts latency now quiet =
    subst (λ (d : Control). AreInTime (event_of d.track) (went now quiet d).1) (sym (r.is lasts))
    (let d = after_all r.steps (first_control Central max_rx first slot) in
    may_in_time (both_ends d) (went now quiet d).1 (may max_rx first slot r.steps now quiet (both_ends d) latency (in_range r.steps (r.good refl)) refl refl))

-- a peripheral that goes on after a control PDU took an indication in time, or none
taken_to_come : (table : TableFacts) (some : Option Indication) (c : Control) → (taken table None some c).ends ≡ None → AreInTime (event_of c.track) some
taken_to_come table None c goes = All-nil IsTakenInTime
taken_to_come table (Some indication) c goes = by (nat_lt (gap_ahead (event_of c.track) indication) 32767) refl goes
  where
    by : (b : Bool) → nat_lt (gap_ahead (event_of c.track) indication) 32767 ≡ b
        → (if b then record c { table = table; track = track_after_take c.track indication } else ended (record { 0 = instant_passed }) c).ends ≡ None
        → AreInTime (event_of c.track) (Some indication)
    by true is goes = near_in_time (event_of c.track) indication (grind arith)
    by false is goes = absurd (cc)

taken_by_end : (table : TableFacts) (ends : Option ErrCode) (some other : Option Indication) (c : Control) → (ends ≡ None → some ≡ other)
    → (taken table ends some c).ends ≡ None → AreInTime (event_of c.track) other
taken_by_end table (Some code) some other c says goes = absurd (cc)
taken_by_end table None some other c says goes =
    subst (λ (some : Option Indication). AreInTime (event_of c.track) some) (says refl) (taken_to_come table some c goes)

pub taken_in_time : (c : Control) (read : CtrlRead) (slot : ℕ) (quiet : Bool) → role_of c.table.progress ≡ Peripheral
    → (after (Takes read slot quiet) c).ends ≡ None → AreInTime (event_of c.track) (indication_read read)
taken_in_time c read slot quiet role goes = by (is_none c.ends) refl goes
  where
    by : (b : Bool) → is_none c.ends ≡ b → (if b then moved (Takes read slot quiet) c else c).ends ≡ None
        → AreInTime (event_of c.track) (indication_read read)
    by true is goes =
        let step = took_step c.table read slot quiet in
        taken_by_end step.0 step.1.ends (indicated_by step.1.effect) (indication_read read) c (handed c.table read slot quiet role) goes
    by false is goes = let no : ◌≡◌ {A = Bool} true false = ap (λ (ends : Option ErrCode). is_none ends) (sym goes) ∙ is in absurd (cc)
