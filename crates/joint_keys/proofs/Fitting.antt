-- Which end the machine's event of a step is of, and which counters it changes.
use Rattle.std.proofs.Common.{◌≡◌, ℕ, Bool, true, false, not, ◌&&◌, Option, Some, None, is_some, refl, ap}
use Rattle.std.proofs.lemmas.Bool.{and_parts}
use Rattle.data_pdu.specs.declared.ctrl.Ctrl.{Ctrl}
use Rattle.phased_control.specs.procedure_values.declared.drafts.Outgoing.{Outgoing}
use Rattle.phased_control.specs.procedure_values.Drafts.{ctrl_of_outgoing}
use Rattle.phased_control.specs.Taken.{Response}
use Rattle.phase_pairs.specs.declared.joint.PhaseEvent.{PhaseEvent}
use Rattle.phase_pairs.specs.declared.joint.PhaseEvent.TheVariants.{CentralCloses, CentralEncrypts, KeyGiven, KeyRefused, PeripheralBegins, PeripheralCloses}
use Rattle.phase_pairs.specs.declared.joint.PhaseWay.{PhaseWay}
use Rattle.phase_pairs.specs.Counted.{is_by_central, is_sending, is_taking}
use Rattle.phase_pairs.specs.JointRun.{is_data}
use Rattle.joint_controls.specs.Joint.{HostStep, Joint, JointStep, Way, AnswersRequest, AsksFor, CentralAcked, CentralEnters, CentralHost, CentralSends, CentralSendsData, CentralTakes, Clear, Control, Data, Ends, Fixed, HasKey, HasNoKey, OnAir, PeripheralAcked, PeripheralEnters, PeripheralFixes, PeripheralFixesData, PeripheralHost, PeripheralSends, PeripheralTakes, Taken, act, central_takes, event_now, is_fixed, is_last, is_running, item_by, item_on_air, latency_now, may_act, next_out, peripheral_takes}
use Rattle.joint_controls.specs.phased_control.Phased.{is_open_now}
use Rattle.joint_phases.specs.Classes.{class_up}
use Rattle.joint_phases.specs.Events.{does_begin, does_encrypt, event_if, event_of_step, item_or_none, taken_down, taken_up}
use Rattle.joint_phases.specs.Parts.{way_up}
use Rattle.joint_phases.proofs.JointPeripheral.{control_up}
use Rattle.joint_keys.proofs.BothGoing.{sends_down, takes_down, takes_up}

-- an event, if it is one, is of this end, and numbers and takes a PDU or not
abbrev pub IsEvent : (by_central : Bool) → Option PhaseEvent → (numbers takes : Bool) → PhaseWay → Type 0
IsEvent by_central None numbers takes up = (numbers ≡ false) × (takes ≡ false)
IsEvent by_central (Some event) numbers takes up =
    (is_by_central event ≡ by_central) × ((is_sending event up ≡ numbers) × (is_taking event ≡ takes))

quiet_if : (by_central b : Bool) (event : PhaseEvent) (up : PhaseWay) → is_by_central event ≡ by_central → is_sending event up ≡ false → is_taking event ≡ false
    → IsEvent by_central (event_if b event) false false up
quiet_if by_central true event up by sends takes = (by, (sends, takes))
quiet_if by_central false event up by sends takes = (refl, refl)

-- ---- of the central

abbrev pub is_of_central : JointStep → Bool
is_of_central (CentralEnters slot) = true
is_of_central (CentralHost step) = true
is_of_central (CentralSends slot) = true
is_of_central CentralSendsData = true
is_of_central CentralAcked = true
is_of_central (CentralTakes slot) = true
is_of_central step = false

module _ (s : Joint) (up : PhaseWay) where
  host_down : (step : HostStep) → IsEvent true (event_of_step (CentralHost step) s) false false up
  host_down (Ends reason) = quiet_if true (is_open_now s.central) CentralCloses up refl refl refl
  host_down (AsksFor ask) = (refl, refl)
  host_down (AnswersRequest answer) = (refl, refl)
  host_down HasKey = (refl, refl)
  host_down HasNoKey = (refl, refl)

  -- an LL_TERMINATE_IND stops the run
  taken_if : (b : Bool) (event : PhaseEvent) (by_central : Bool) (more : Bool) → (not b && more) ≡ true → is_by_central event ≡ by_central → is_sending event up ≡ false
      → is_taking event ≡ true → IsEvent by_central (event_if (not b) event) false true up
  taken_if true event by_central more goes by sends takes = absurd (cc)
  taken_if false event by_central more goes by sends takes = (by, (sends, takes))

  takes_from : (slot : ℕ) (w : Way) → is_some (item_on_air w) ≡ true → is_running (central_takes w slot s) ≡ true → IsEvent true (taken_up (item_on_air w) s) false true up
  takes_from slot (OnAir item sealed) some goes = taken_if (is_last item) _ true _ goes refl refl refl
  takes_from slot Clear some goes = absurd (cc)
  takes_from slot (Fixed item sealed) some goes = absurd (cc)
  takes_from slot (Taken item) some goes = absurd (cc)

  pub of_central : (step : JointStep) → is_of_central step ≡ true → may_act step s ≡ true → is_running (act step s) ≡ true
      → IsEvent true (event_of_step step s) (sends_down step) (takes_up step) up
  of_central (CentralEnters slot) of may goes = quiet_if true (does_encrypt s.central) CentralEncrypts up refl refl refl
  of_central (CentralHost step) of may goes = host_down step
  of_central (CentralSends slot) of may goes = (refl, (refl, refl))
  of_central CentralSendsData of may goes = (refl, (refl, refl))
  of_central CentralAcked of may goes = (refl, (refl, refl))
  of_central (CentralTakes slot) of may goes = takes_from slot s.up (and_parts (is_some (item_on_air s.up)) _ may).0 goes
  of_central step of may goes = absurd (cc)

-- ---- of the peripheral: data has its number in the machine as it is fixed

abbrev pub is_of_peripheral : JointStep → Bool
is_of_peripheral (PeripheralEnters slot) = true
is_of_peripheral (PeripheralHost step) = true
is_of_peripheral (PeripheralFixes slot) = true
is_of_peripheral PeripheralFixesData = true
is_of_peripheral PeripheralSends = true
is_of_peripheral PeripheralAcked = true
is_of_peripheral (PeripheralTakes slot response) = true
is_of_peripheral step = false

abbrev pub is_data_fixed : Way → Bool
is_data_fixed (Fixed Data sealed) = true
is_data_fixed way = false

abbrev pub numbers_up : JointStep → Way → Bool
numbers_up PeripheralFixesData way = true
numbers_up PeripheralSends way = not (is_data_fixed way)
numbers_up step way = false

module _ (s : Joint) where
  abbrev up_now : PhaseWay
  up_now = way_up s.peripheral.knows_version s.up

  host_up : (step : HostStep) → IsEvent false (event_of_step (PeripheralHost step) s) false false up_now
  host_up (Ends reason) = quiet_if false (is_open_now s.peripheral) PeripheralCloses up_now refl refl refl
  host_up HasKey = quiet_if false (s.peripheral.asks_key && is_open_now s.peripheral) KeyGiven up_now refl refl refl
  host_up HasNoKey = quiet_if false (s.peripheral.asks_key && is_open_now s.peripheral) KeyRefused up_now refl refl refl
  host_up (AsksFor ask) = (refl, refl)
  host_up (AnswersRequest answer) = (refl, refl)

  takes_at : (slot : ℕ) (response : Response) (w : Way) → is_some (item_on_air w) ≡ true → is_running (peripheral_takes w slot response s) ≡ true
      → IsEvent false (taken_down (item_on_air w) s) false true up_now
  takes_at slot response (OnAir item sealed) some goes = taken_if s up_now (is_last item) _ false _ goes refl refl refl
  takes_at slot response Clear some goes = absurd (cc)
  takes_at slot response (Fixed item sealed) some goes = absurd (cc)
  takes_at slot response (Taken item) some goes = absurd (cc)

  no_data : (outgoing : Outgoing) (o : Option Ctrl) → is_data (item_or_none (class_up s.peripheral.knows_version) (item_by outgoing o)) ≡ false
  no_data outgoing None = refl
  no_data outgoing (Some ctrl) = control_up s.peripheral.knows_version ctrl

  abbrev sending_now : Way → Bool
  sending_now w = is_sending PhaseEvent.PeripheralSends (way_up s.peripheral.knows_version w)

  sends_now : (w : Way) → is_fixed w ≡ true → sending_now w ≡ not (is_data_fixed w)
  sends_now (Fixed Data sealed) is = refl
  sends_now (Fixed (Control outgoing ctrl) sealed) is = ap (λ (b : Bool). not b) (control_up s.peripheral.knows_version ctrl)
  sends_now Clear is = absurd (cc)
  sends_now (OnAir item sealed) is = absurd (cc)
  sends_now (Taken item) is = absurd (cc)

  pub of_peripheral : (step : JointStep) → is_of_peripheral step ≡ true → may_act step s ≡ true → is_running (act step s) ≡ true
      → IsEvent false (event_of_step step s) (numbers_up step s.up) (takes_down step) up_now
  of_peripheral (PeripheralEnters slot) of may goes = quiet_if false (does_begin s.peripheral) PeripheralBegins up_now refl refl refl
  of_peripheral (PeripheralHost step) of may goes = host_up step
  of_peripheral (PeripheralFixes slot) of may goes =
      (refl, (no_data (next_out s.peripheral) (ctrl_of_outgoing (next_out s.peripheral) (event_now s.peripheral) (latency_now s.peripheral)), refl))
  of_peripheral PeripheralFixesData of may goes = (refl, (refl, refl))
  of_peripheral PeripheralSends of may goes = (refl, (sends_now s.up (and_parts (is_fixed s.up) _ may).0, refl))
  of_peripheral PeripheralAcked of may goes = (refl, (refl, refl))
  of_peripheral (PeripheralTakes slot response) of may goes = takes_at slot response s.down (and_parts (is_some (item_on_air s.down)) _ may).0 goes
  of_peripheral step of may goes = absurd (cc)
