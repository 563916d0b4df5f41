-- A central with its phase indicates as the control part of one end may.
use Rattle.std.proofs.Common.{◌≡◌, ℕ, ◌≤◌, ◌<◌, Bool, true, false, if◌then◌else◌, List, [], ◌∷◌, ◌++◌, Option, Some, None, Ok, Err, is_none, sym, subst}
use Rattle.std.specs.List.{All}
use Rattle.ble_base.specs.declared.roles.Role.TheVariants.{Central}
use Rattle.data_pdu.specs.declared.ctrl.Ctrl.{Ctrl}
use Rattle.data_pdu.specs.declared.ctrl.CtrlRead.{CtrlRead}
use Rattle.instants.specs.declared.indications.Indication.{Indication}
use Rattle.instants.specs.declared.indications.Params.{Params}
use Rattle.instants.specs.declared.track.Change.{Change}
use Rattle.instants.specs.Parameters.{win_offset_of}
use Rattle.instants.specs.Track.{event_of}
use Rattle.table_laws.specs.procedure_values.declared.drafts.Draft.{Draft}
use Rattle.table_laws.specs.procedure_values.declared.drafts.Outgoing.TheVariants.{Other}
use Rattle.table_laws.specs.procedure_values.Drafts.{waits_for_instant}
use Rattle.table_laws.specs.procedures.Queue.{next_of}
use Rattle.two_tracks.specs.TwoEnds.{MayIndicateIf, TwoEnds}
use Rattle.control_model.specs.Control.{Control, Step, after_all, first_control, went}
use Rattle.control_model.specs.Waits.{AreInRange, last_event_of, last_instant_of}
use Rattle.control_model.proofs.Central.{free as free_of, last as last_of, may as may_of, offset as offset_of, over_before}
use Rattle.phased_control.specs.Ends.{AllAskInRange, AsksInRange}
use Rattle.phased_control.specs.Phased.{Phased, first_phased, is_quiet_now}
use Rattle.phased_control.specs.Taken.{PhasedStep, Response, Answers, Asks, Disconnects, Enters, GivesKey, LacksKey, SeesAcknowledged, Sends, Takes, TakesData, ciphered, does_keep, is_allowed, lacks_room_now, phased_after, phased_after_all, role_now}
use Rattle.phased_control.specs.Steps.{all_control_steps, control_steps, handed_steps, kept_steps, later_steps, owed_steps, read_answer, seen_by_procedures, steps_now, taken_steps}
use Rattle.phased_control.proofs.Moving.{but_end}

joined : (xs ys : List Step) → AreInRange xs → AreInRange ys → AreInRange (xs ++ ys)
joined [] ys one two = two
joined (x ∷ xs) ys one two = (one.0, joined xs ys one.1 two)

owed : (ctrl : Option Ctrl) → AreInRange (owed_steps ctrl)
owed None = tt
owed (Some ctrl) = (tt, tt)

kept : (b : Bool) (slot : ℕ) (ctrl : Option Ctrl) → AreInRange (if b then kept_steps slot ctrl else [])
kept false slot ctrl = tt
kept true slot None = tt
kept true slot (Some ctrl) = (tt, tt)

handed : (slot : ℕ) (response : Response) (read : CtrlRead) (s : Phased) → AreInRange (handed_steps slot response read s)
handed slot response read s = (tt, by (is_none (seen_by_procedures read slot s).control.ends))
  where
    t : Phased
    t = seen_by_procedures read slot s

    by : (b : Bool) → AreInRange (if b then later_steps slot response read t else [])
    by true =
        joined (owed_steps (read_answer (role_now t) response read t.phase)) _ (owed (read_answer (role_now t) response read t.phase))
        (kept (is_quiet_now (ciphered response read t)) slot t.kept)
    by false = tt

taken : (slot : ℕ) (response : Response) (read : CtrlRead) (s : Phased) → AreInRange (taken_steps slot response read s)
taken slot response read s = by (is_allowed read s) (does_keep read s) (lacks_room_now read s)
  where
    by : (a k f : Bool) → AreInRange (if a then (if k then [] else (if f then [] else handed_steps slot response read s)) else [])
    by false k f = tt
    by true true f = tt
    by true false true = tt
    by true false false = handed slot response read s

of_step : (step : PhasedStep) (s : Phased) → AsksInRange step → AreInRange (control_steps step s)
of_step (Enters slot) s is = (tt, owed _)
of_step (Asks ask) s is = (is, tt)
of_step (Answers (Ok ask)) s is = (is, tt)
of_step (Answers (Err code)) s is = (tt, tt)
of_step GivesKey s is = owed _
of_step LacksKey s is = owed _
of_step (Disconnects reason) s is = (tt, tt)
of_step (Sends slot) s is = (tt, tt)
of_step SeesAcknowledged s is = (tt, owed _)
of_step (Takes read slot response) s is = taken slot response read s
of_step TakesData s is = tt

now : (step : PhasedStep) (s : Phased) → AsksInRange step → AreInRange (steps_now step s)
now step s is = by (is_none s.control.ends)
  where
    by : (b : Bool) → AreInRange (if b then control_steps step s else [])
    by true = of_step step s is
    by false = tt

-- what hosts ask of an end with its phase is what they ask of its control part
pub in_range : (steps : List PhasedStep) (s : Phased) → AllAskInRange steps → AreInRange (all_control_steps steps s)
in_range [] s are = tt
in_range (step ∷ steps) s are = joined (steps_now step s) (all_control_steps steps (phased_after step s)) (now step s are.0) (in_range steps (phased_after step s) are.1)

-- ---- the laws

module _ (max_rx : ℕ) (first : Params) (slot : ℕ) (steps : List PhasedStep) where
  abbrev s : Phased
  s = phased_after_all steps (first_phased Central max_rx first slot)

  abbrev cs : List Step
  cs = all_control_steps steps (first_phased Central max_rx first slot)

  -- what holds of the control part whatever its end, holds of that of an end with its phase
  transport : (P : Control → Type 0) → P (record (after_all cs (first_control Central max_rx first slot)) { ends = s.control.ends }) → P s.control
  transport P h = subst P (sym (but_end Central max_rx first slot steps)) h

pub may : (max_rx : ℕ) (first : Params) (slot : ℕ) (steps : List PhasedStep) (now : ℕ) (quiet : Bool) (ends : TwoEnds) → first.latency ≤ 499 → AllAskInRange steps
    → let s = phased_after_all steps (first_phased Central max_rx first slot) in
    ends.central ≡ s.control.track → ends.sent ≡ s.control.sent → MayIndicateIf ends (went now quiet s.control).1
may max_rx first slot steps now quiet ends latency are =
    transport max_rx first slot steps (λ (c : Control). ends.central ≡ c.track → ends.sent ≡ c.sent → MayIndicateIf ends (went now quiet c).1)
    (may_of max_rx first slot (all_control_steps steps (first_phased Central max_rx first slot)) now quiet ends latency (in_range steps (first_phased Central max_rx first slot) are))

pub offset : (max_rx : ℕ) (first : Params) (slot : ℕ) (steps : List PhasedStep) (now : ℕ) (quiet : Bool) (indication : Indication) → first.latency ≤ 499 → AllAskInRange steps
    → let s = phased_after_all steps (first_phased Central max_rx first slot) in
    (went now quiet s.control).1 ≡ Some indication → win_offset_of indication ≡ 0
offset max_rx first slot steps now quiet indication latency are =
    transport max_rx first slot steps (λ (c : Control). (went now quiet c).1 ≡ Some indication → win_offset_of indication ≡ 0)
    (offset_of max_rx first slot (all_control_steps steps (first_phased Central max_rx first slot)) now quiet indication latency (in_range steps (first_phased Central max_rx first slot) are))

pub free : (max_rx : ℕ) (first : Params) (slot : ℕ) (steps : List PhasedStep) (now : ℕ) (quiet : Bool) (indication : Indication) → first.latency ≤ 499 → AllAskInRange steps
    → let s = phased_after_all steps (first_phased Central max_rx first slot) in
    (went now quiet s.control).1 ≡ Some indication → is_none s.control.track.waits ≡ true
free max_rx first slot steps now quiet indication latency are =
    transport max_rx first slot steps (λ (c : Control). (went now quiet c).1 ≡ Some indication → is_none c.track.waits ≡ true)
    (free_of max_rx first slot (all_control_steps steps (first_phased Central max_rx first slot)) now quiet indication latency (in_range steps (first_phased Central max_rx first slot) are))

pub over : (max_rx : ℕ) (first : Params) (slot : ℕ) (steps : List PhasedStep) (quiet : Bool) (draft : Draft) → first.latency ≤ 499 → AllAskInRange steps
    → let s = phased_after_all steps (first_phased Central max_rx first slot) in
    next_of s.control.table (event_of s.control.track) quiet ≡ Other draft → waits_for_instant draft ≡ true
    → All (λ (change : Change). change.at.0 < event_of s.control.track) s.control.sent
over max_rx first slot steps quiet draft latency are =
    transport max_rx first slot steps
    (λ (c : Control). next_of c.table (event_of c.track) quiet ≡ Other draft → waits_for_instant draft ≡ true → All (λ (change : Change). change.at.0 < event_of c.track) c.sent)
    (over_before max_rx first slot (all_control_steps steps (first_phased Central max_rx first slot)) quiet draft latency (in_range steps (first_phased Central max_rx first slot) are))

pub last : (max_rx : ℕ) (first : Params) (slot : ℕ) (steps : List PhasedStep) → first.latency ≤ 499 → AllAskInRange steps
    → let s = phased_after_all steps (first_phased Central max_rx first slot) in
    last_instant_of s.control.table.progress ≡ last_event_of s.control.sent
last max_rx first slot steps latency are =
    transport max_rx first slot steps (λ (c : Control). last_instant_of c.table.progress ≡ last_event_of c.sent)
    (last_of max_rx first slot (all_control_steps steps (first_phased Central max_rx first slot)) latency (in_range steps (first_phased Central max_rx first slot) are))
