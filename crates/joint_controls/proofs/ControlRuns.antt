-- The procedures and parameters of an end that has not ended its link are reached by steps of the control part alone.
use Rattle.std.proofs.Common.{◌≡◌, ℕ, ◌≤◌, Bool, if◌then◌else◌, List, [], ◌∷◌, ◌++◌, Option, Some, None, is_none, Ok, Err, refl, ap, subst, ◌∙◌}
use Rattle.ble_base.specs.declared.error_codes.ErrCode.{ErrCode}
use Rattle.ble_base.specs.declared.roles.Role.TheVariants.{Central, Peripheral}
use Rattle.data_pdu.specs.declared.ctrl.Ctrl.{Ctrl}
use Rattle.data_pdu.specs.declared.ctrl.CtrlRead.{CtrlRead}
use Rattle.data_pdu.specs.declared.ctrl.CtrlRead.TheVariants.{Known}
use Rattle.instants.specs.declared.indications.Params.{Params}
use Rattle.phased_control.specs.control_model.Control.{Answers, Asks, Control, Disconnects, Enters, Owes, SeesAcknowledged, Sends, Step, Takes, after, after_all, ended, first_control, moved}
use Rattle.phased_control.specs.control_model.Waits.{AreInRange, IsInRange}
use Rattle.phased_control.proofs.control_model.Central.{indicates}
use Rattle.phased_control.proofs.control_model.Indicating.{Indicates}
use Rattle.phased_control.proofs.control_model.Waiting.{Awaits, awaits}
use Rattle.phased_control.specs.Phased.{Phased, is_quiet_now}
use Rattle.phased_control.specs.Taken.{PhasedStep, Response, Enters as enters, SeesAcknowledged as sees_acknowledged, Sends as sends, phased_after, phased_moved}
use Rattle.joint_controls.specs.Joint.{AnswersRequest, AsksFor, CentralAcked, CentralEnters, CentralHost, CentralSends, CentralSendsData, CentralTakes, Clear, Control as control_item, Data, Ends, Fixed, HasKey, HasNoKey, HostStep, Item, Joint, JointStep, OnAir, PeripheralAcked, PeripheralEnters, PeripheralFixes, PeripheralFixesData, PeripheralHost, PeripheralSends, PeripheralTakes, Shuts, Taken, Way, act, beginning, central_takes, host_step, may, peripheral_takes, taking}
use Rattle.joint_controls.specs.Joint as joint
use Rattle.joint_controls.specs.Ends.{AreStepsInRange, IsHostInRange, IsStepInRange}
use Rattle.joint_controls.proofs.Keeping.{asking_keeps, choice, data_keeps, encrypting_if_keeps, given_keeps, lacking_keeps, took_keeps}
use Rattle.joint_controls.proofs.Running.{after_one}

range_push : (steps : List Step) (step : Step) → AreInRange steps → IsInRange step → AreInRange (steps ++ step ∷ [])
range_push [] step are is = (is, tt)
range_push (one ∷ steps) step are is = (are.0, range_push steps step are.1 is)

after_push : (steps : List Step) (step : Step) (c : Control) → after_all (steps ++ step ∷ []) c ≡ after step (after_all steps c)
after_push [] step c = refl
after_push (one ∷ steps) step c = after_push steps step (after one c)

-- a control part is reached from the beginning of a link
pub record IsRun (first c : Control) : Type 0 where
  pub steps : List Step
  pub in_range : AreInRange steps
  pub reaches : after_all steps first ≡ c

module _ (first : Control) where
  abbrev pub Lasting : Control → Type 0
  Lasting c = c.ends ≡ None → IsRun first c

  abbrev pub LastingP : Phased → Type 0
  LastingP s = Lasting s.control

  -- what has ended makes no step
  lasted : (step : Step) (c : Control) (ends : Option ErrCode) → c.ends ≡ ends → (if is_none ends then moved step c else c).ends ≡ None → c.ends ≡ None
  lasted step c None was is = was
  lasted step c (Some code) was is = is

  pub steps_on : (step : Step) (c : Control) → IsInRange step → Lasting c → Lasting (after step c)
  steps_on step c range run lasts =
      let before = run (lasted step c c.ends refl lasts) in
      record {
        steps = before.steps ++ step ∷ [];
        in_range = range_push before.steps step before.in_range range;
        reaches = after_push before.steps step first ∙ ap (after step) before.reaches;
      }

  owes_keeps : (ctrl : Ctrl) (c : Control) → Lasting c → Lasting (after (Owes ctrl) c)
  owes_keeps ctrl c = steps_on (Owes ctrl) c tt

  takes_keeps : (read : CtrlRead) (slot : ℕ) (quiet : Bool) (c : Control) → Lasting c → Lasting (after (Takes read slot quiet) c)
  takes_keeps read slot quiet c = steps_on (Takes read slot quiet) c tt

  ended_keeps : (code : ErrCode) (c : Control) → Lasting c → Lasting (ended code c)
  ended_keeps code c run lasts = absurd (cc)

  abbrev Keeps : PhasedStep → Phased → Type 0
  Keeps step s = LastingP s → LastingP (phased_after step s)

  one : (step : PhasedStep) (s : Phased) → (LastingP s → LastingP (phased_moved step s)) → Keeps step s
  one step s next h = choice LastingP (is_none s.control.ends) (phased_moved step s) s (next h) h

  enters_end : (slot : ℕ) (s : Phased) → Keeps (enters slot) s
  enters_end slot s =
      one (enters slot) s
      (λ h. encrypting_if_keeps Lasting owes_keeps _ _ _ (steps_on (Enters slot (is_quiet_now s)) s.control tt h))

  hosted : (step : HostStep) (s : Phased) → IsHostInRange step → LastingP s → LastingP (phased_moved (host_step step) s)
  hosted (AsksFor ask) s range h = steps_on (Asks ask) s.control range h
  hosted (AnswersRequest (Ok ask)) s range h = steps_on (Answers (Ok ask)) s.control range h
  hosted (AnswersRequest (Err code)) s range h = steps_on (Answers (Err code)) s.control tt h
  hosted (Ends reason) s range h = steps_on (Disconnects reason) s.control tt h
  hosted HasKey s range h = given_keeps Lasting owes_keeps s h
  hosted HasNoKey s range h = lacking_keeps Lasting owes_keeps s h

  hosts_end : (step : HostStep) (s : Phased) → IsHostInRange step → Keeps (host_step step) s
  hosts_end step s range = one (host_step step) s (hosted step s range)

  sends_end : (slot : ℕ) (s : Phased) → Keeps (sends slot) s
  sends_end slot s = one (sends slot) s (λ h. steps_on (Sends slot (is_quiet_now s)) s.control tt h)

  acked_end : (s : Phased) → Keeps sees_acknowledged s
  acked_end s =
      one sees_acknowledged s (λ h. asking_keeps Lasting owes_keeps _ _ (steps_on SeesAcknowledged s.control tt h))

  took_item : (item : Item) (slot : ℕ) (response : Response) (s : Phased) → LastingP s → LastingP (phased_moved (taking item slot response) s)
  took_item Data slot response s h = data_keeps Lasting owes_keeps takes_keeps ended_keeps s h
  took_item (control_item outgoing ctrl) slot response s h =
      took_keeps Lasting owes_keeps takes_keeps ended_keeps slot response (Known ctrl) s h

  takes_end : (item : Item) (slot : ℕ) (response : Response) (s : Phased) → Keeps (taking item slot response) s
  takes_end item slot response s = one (taking item slot response) s (took_item item slot response s)

-- ---- both ends

pub record AreRuns (first second : Control) (s : Joint) : Type 0 where
  pub central : LastingP first s.central
  pub peripheral : LastingP second s.peripheral

module _ (first second : Control) where
  up_taken : (way : Way) (slot : ℕ) (s : Joint) → AreRuns first second s → AreRuns first second (central_takes way slot s)
  up_taken Clear slot s r = r
  up_taken (Fixed item sealed) slot s r = r
  up_taken (Taken item) slot s r = r
  up_taken (OnAir item sealed) slot s r =
      record { central = takes_end first item slot _ s.central r.central; peripheral = r.peripheral }

  down_taken : (way : Way) (slot : ℕ) (response : Response) (s : Joint) → AreRuns first second s → AreRuns first second (peripheral_takes way slot response s)
  down_taken Clear slot response s r = r
  down_taken (Fixed item sealed) slot response s r = r
  down_taken (Taken item) slot response s r = r
  down_taken (OnAir item sealed) slot response s r =
      record { central = r.central; peripheral = takes_end second item slot response s.peripheral r.peripheral }

  pub runs_step : (step : JointStep) (s : Joint) → IsStepInRange step → AreRuns first second s → AreRuns first second (act step s)
  runs_step (CentralEnters slot) s range r = record { central = enters_end first slot s.central r.central; peripheral = r.peripheral }
  runs_step (CentralHost step) s range r = record { central = hosts_end first step s.central range r.central; peripheral = r.peripheral }
  runs_step (CentralSends slot) s range r = record { central = sends_end first slot s.central r.central; peripheral = r.peripheral }
  runs_step CentralSendsData s range r = record { central = r.central; peripheral = r.peripheral }
  runs_step CentralAcked s range r = record { central = acked_end first s.central r.central; peripheral = r.peripheral }
  runs_step (CentralTakes slot) s range r = up_taken s.up slot s r
  runs_step (PeripheralEnters slot) s range r = record { central = r.central; peripheral = enters_end second slot s.peripheral r.peripheral }
  runs_step (PeripheralHost step) s range r = record { central = r.central; peripheral = hosts_end second step s.peripheral range r.peripheral }
  runs_step (PeripheralFixes slot) s range r = record { central = r.central; peripheral = sends_end second slot s.peripheral r.peripheral }
  runs_step PeripheralFixesData s range r = record { central = r.central; peripheral = r.peripheral }
  runs_step PeripheralSends s range r = record { central = r.central; peripheral = r.peripheral }
  runs_step PeripheralAcked s range r = record { central = r.central; peripheral = acked_end second s.peripheral r.peripheral }
  runs_step (PeripheralTakes slot response) s range r = down_taken s.down slot response s r
  runs_step Shuts s range r = record { central = r.central; peripheral = r.peripheral }

  all_runs : (steps : List JointStep) (s : Joint) → AreStepsInRange steps → AreRuns first second s → AreRuns first second (joint.after_all steps s)
  all_runs [] s range r = r
  all_runs (step ∷ steps) s range r =
      all_runs steps (joint.after step s) range.1 (after_one (AreRuns first second) step s r (λ comes. runs_step step s range.0 r))

-- what is known of the indications of a central, and of those that a peripheral awaits
pub indicates_from : (central_rx : ℕ) (first : Params) (slot : ℕ) (c : Control) → first.latency ≤ 499 → IsRun (first_control Central central_rx first slot) c → Indicates c
indicates_from central_rx first slot c latency run =
    subst Indicates run.reaches (indicates central_rx first slot run.steps latency run.in_range)

pub awaits_from : (peripheral_rx : ℕ) (first : Params) (slot : ℕ) (c : Control) → IsRun (first_control Peripheral peripheral_rx first slot) c → Awaits c
awaits_from peripheral_rx first slot c run = subst Awaits run.reaches (awaits peripheral_rx first slot run.steps)

pub first_runs : (central_rx peripheral_rx : ℕ) (first : Params) (slot : ℕ)
    → AreRuns (first_control Central central_rx first slot) (first_control Peripheral peripheral_rx first slot) (beginning central_rx peripheral_rx first slot)
first_runs central_rx peripheral_rx first slot =
    record {
      central = λ lasts. record { steps = []; in_range = tt; reaches = refl };
      peripheral = λ lasts. record { steps = []; in_range = tt; reaches = refl };
    }

module _ (central_rx peripheral_rx : ℕ) (first : Params) (slot : ℕ) (steps : List JointStep) (range : AreStepsInRange steps) where
  abbrev now : Joint
  now = joint.after_all steps (beginning central_rx peripheral_rx first slot)

  pub runs : AreRuns (first_control Central central_rx first slot) (first_control Peripheral peripheral_rx first slot) now
  runs =
      all_runs (first_control Central central_rx first slot) (first_control Peripheral peripheral_rx first slot) steps
      (beginning central_rx peripheral_rx first slot) range (first_runs central_rx peripheral_rx first slot)

  -- what is known of the indications of the central, and of those that the peripheral awaits
  pub central_indicates : first.latency ≤ 499 → now.central.control.ends ≡ None → Indicates now.central.control
  central_indicates latency lasts =
      indicates_from central_rx first slot now.central.control latency (runs.central lasts)

  pub peripheral_awaits : now.peripheral.control.ends ≡ None → Awaits now.peripheral.control
  peripheral_awaits lasts =
      awaits_from peripheral_rx first slot now.peripheral.control (runs.peripheral lasts)
