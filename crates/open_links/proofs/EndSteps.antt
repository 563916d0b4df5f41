-- What each step of the control part of an end keeps, a step of the end keeps, in all phases of encryption.
use Rattle.std.proofs.Common.{◌≡◌, ℕ, ◌&&◌, Bool, true, false, if◌then◌else◌, List, [], ◌∷◌, Option, Some, None, is_none, refl, sym, subst}
use Rattle.std.specs.Bool.{⊤}
use Rattle.std.specs.List.{AllByRecursion}
use Rattle.ble_base.specs.ErrorCodes.{mic_failure}
use Rattle.ble_base.specs.declared.error_codes.ErrCode.{ErrCode}
use Rattle.ble_base.specs.declared.notes.Note.{Note}
use Rattle.ble_base.specs.declared.roles.Role.{Role}
use Rattle.data_pdu.specs.declared.ctrl.Ctrl.{Ctrl}
use Rattle.data_pdu.specs.declared.ctrl.CtrlRead.TheVariants.{Known}
use Rattle.data_pdu.specs.declared.header.DataHeader.{DataHeader}
use Rattle.procedures.specs.procedure_values.declared.asks.Ask.{Ask}
use Rattle.link_end.specs.control_model.Control.{Control, Step as ControlStep, Answers, Asks, Disconnects, Enters, Owes, SeesAcknowledged, Sends, Takes, after, after_all, ended}
use Rattle.link_end.specs.phased_end.Taking.{drawn}
use Rattle.link_end.specs.link_model.Acknowledgement.{Pdu}
use Rattle.link_end.specs.link_model.Controls.{goes_on, is_procedure_pdu, is_quiet_now, read_of}
use Rattle.link_end.specs.link_model.Data.{is_control, is_data}
use Rattle.link_end.specs.link_model.End.{facts_after}
use Rattle.link_end.specs.link_model.Entering.{facts_entered_if}
use Rattle.link_end.specs.link_model.Facts.{Facts, keyed_of}
use Rattle.link_end.specs.link_model.Fixing.{fixed_anew}
use Rattle.link_end.specs.link_model.Hosts.{asked_unless, is_to_come, key_step}
use Rattle.link_end.specs.link_model.Receiving.{accepted_if, accepts, acknowledged_if, acks_control, answers_with_control, data_taken_if, facts_before_taking, facts_hearing, has_acknowledged, heard_in_slot, keyed_acked_if, procedures_take_if}
use Rattle.link_end.specs.link_model.Sending.{control_gone_if, takes_leave}
use Rattle.link_end.specs.link_model.Setup.{Setup}
use Rattle.link_end.specs.link_model.Step.{Step, DataGiven, DataReported, Disconnected, EventEntered, KeyAnswered, PacketReceived, PacketSent, PduFixed, ProcedureAsked, RequestAnswered, WordsGiven}
use Rattle.link_end.specs.link_model.keyed_control.Keyed.{Keyed}
use Rattle.link_end.specs.link_model.keyed_control.KeyedSteps.{KeyedStep, Enters as keyed_enters, SeesAcknowledged as keyed_sees_acknowledged, Takes as keyed_takes, TakesData as keyed_takes_data, keyed_after, phased_step}
use Rattle.link_end.specs.link_model.phased_control.Phased.{Phased}
use Rattle.link_end.specs.link_model.phased_control.Steps.{control_steps, end_by_phase, ended_if}
use Rattle.link_end.specs.link_model.phased_control.Taken.{PhasedStep, phased_moved}
use Rattle.link_end.proofs.link_model.Receptions.{each_packet}
use Rattle.link_end.proofs.link_model.phased_end.keyed_control.Phases.{after_one, phased_once}
use Rattle.link_end.proofs.link_model.phased_end.keyed_control.phased_control.Moving.{open_moves}
use Rattle.open_links.proofs.PhasedSteps.{Own, controls_all}

abbrev pub is_entry : ControlStep → Bool
is_entry (Enters slot quiet) = true
is_entry other = false

-- what such steps of the control part keep, and the end of the link; all steps are such but perhaps those that enter an
-- event
module _ (P : Control → Type 0) (X : ControlStep → Type 0) (others : (step : ControlStep) → is_entry step ≡ false → X step)
    (stays : (step : ControlStep) (c : Control) → X step → P c → P (after step c)) (over : (code : ErrCode) (c : Control) → P c → P (ended code c)) where
  owes : (ctrl : Ctrl) → X (Owes ctrl)
  owes ctrl = others (Owes ctrl) refl

  all_stay : (steps : List ControlStep) (c : Control) → AllByRecursion X steps → P c → P (after_all steps c)
  all_stay [] c are h = h
  all_stay (step ∷ steps) c are h = all_stay steps (after step c) are.1 (stays step c are.0 h)

  ends_so : (ends : Option ErrCode) (c : Control) → P c → P (ended_if ends c)
  ends_so None c h = h
  ends_so (Some code) c h = over code c h

  -- ---- a step of procedures, phase and keys

  abbrev OwnIf : Option PhasedStep → Phased → Type 0
  OwnIf None s = ⊤
  OwnIf (Some step) s = Own X owes step s

  moved_keeps : (goes : Bool) (step : PhasedStep) (s : Phased) → Own X owes step s → P s.control → P (if goes then phased_moved step s else s).control
  moved_keeps true step s own h =
      subst P (sym (open_moves step s))
      (ends_so (end_by_phase step s) _ (all_stay (control_steps step s) s.control (controls_all X owes step s own) h))
  moved_keeps false step s own h = h

  once_keeps : (step : Option PhasedStep) (s : Phased) → OwnIf step s → P s.control → P (after_one step s).control
  once_keeps None s own h = h
  once_keeps (Some step) s own h = moved_keeps (is_none s.control.ends) step s own h

  keyed_keeps : (step : KeyedStep) (k : Keyed) → OwnIf (phased_step step) k.phased → P k.phased.control → P (keyed_after step k).phased.control
  keyed_keeps step k own h =
      subst (λ (s : Phased). P s.control) (sym (phased_once step k)) (once_keeps (phased_step step) k.phased own h)

  -- ---- the parts of a step of the end

  asked_keeps : (comes : Bool) (ask : Ask) (facts : Facts) → P facts.control → P (asked_unless comes ask facts).control
  asked_keeps true ask facts h = h
  asked_keeps false ask facts h = stays (Asks ask) facts.control (others (Asks ask) refl) h

  key_keeps : (key : Option (List ℕ)) (facts : Facts) → P facts.control → P (keyed_after (key_step key) (keyed_of facts)).phased.control
  key_keeps None facts h = keyed_keeps (key_step None) (keyed_of facts) tt h
  key_keeps (Some ltk) facts h = keyed_keeps (key_step (Some ltk)) (keyed_of facts) tt h

  entered_keeps : (goes : Bool) (setup : Setup) (slot : ℕ) (facts : Facts) → X (Enters slot (is_quiet_now facts)) → P facts.control
      → P (facts_entered_if goes setup slot facts).control
  entered_keeps true setup slot facts own h = keyed_keeps (keyed_enters slot) (keyed_of facts) own h
  entered_keeps false setup slot facts own h = h

  fixed_keeps : (same : Bool) (facts : Facts) → P facts.control → P (if same then facts else fixed_anew facts).control
  fixed_keeps true facts h = h
  fixed_keeps false facts h = h

  gone_keeps : (goes : Bool) (slot : ℕ) (facts : Facts) → P facts.control → P (control_gone_if goes slot facts).control
  gone_keeps true slot facts h = stays (Sends slot (is_quiet_now facts)) facts.control (others (Sends slot (is_quiet_now facts)) refl) h
  gone_keeps false slot facts h = h

  -- ---- a packet is received

  acked_keeps : (acks : Bool) (facts : Facts) → P facts.control → P (keyed_acked_if acks (keyed_of facts)).phased.control
  acked_keeps true facts h = keyed_keeps keyed_sees_acknowledged (keyed_of facts) (others SeesAcknowledged refl) h
  acked_keeps false facts h = h

  taken_keeps : (takes : Bool) (pdu : Pdu) (slot : ℕ) (facts : Facts) → P facts.control → P (procedures_take_if takes pdu slot facts).control
  taken_keeps true pdu slot facts h =
      keyed_keeps (keyed_takes (read_of pdu) slot (drawn facts.encryption.response)) (keyed_of facts)
      (others (Takes _ slot (is_quiet_now facts)) refl, λ ctrl. λ kept. others (Takes (Known ctrl) slot true) refl) h
  taken_keeps false pdu slot facts h = h

  data_keeps : (takes : Bool) (facts : Facts) → P facts.control → P (data_taken_if takes facts).control
  data_keeps true facts h = keyed_keeps keyed_takes_data (keyed_of facts) tt h
  data_keeps false facts h = h

  heard_keeps : (role : Role) (slot : ℕ) (room : Bool) (header : DataHeader) (pdu : Pdu) (facts : Facts) → P facts.control
      → P (facts_hearing role slot room header pdu facts).control
  heard_keeps role slot room header pdu facts h =
      let acks = has_acknowledged facts header in
      let own = acknowledged_if acks (heard_in_slot slot header.md facts) in
      let now = facts_before_taking role slot header facts in
      let accepted = accepts room header pdu now in
      let seen = procedures_take_if (accepted && is_procedure_pdu pdu) pdu slot (accepted_if accepted pdu now) in
      data_keeps (accepted && is_data pdu) seen
      (taken_keeps (accepted && is_procedure_pdu pdu) pdu slot (accepted_if accepted pdu now)
      (gone_keeps (answers_with_control role own) slot own (acked_keeps (acks_control acks facts) facts h)))

  forged_keeps : (goes : Bool) (c : Control) → P c → P (if goes then ended (record { 0 = mic_failure }) c else c)
  forged_keeps true c h = over (record { 0 = mic_failure }) c h
  forged_keeps false c h = h

  -- ---- every step

  pub step_keeps : (setup : Setup) (facts : Facts) (step : Step) → ((slot : ℕ) → step ≡ EventEntered slot → X (Enters slot (is_quiet_now facts)))
      → P facts.control
      → P (facts_after setup facts step).control
  step_keeps setup facts (DataGiven start body) enters h = h
  step_keeps setup facts (ProcedureAsked ask) enters h = asked_keeps (is_to_come ask facts) ask facts h
  step_keeps setup facts (RequestAnswered answer) enters h = stays (Answers answer) facts.control (others (Answers answer) refl) h
  step_keeps setup facts (KeyAnswered key slot) enters h = key_keeps key facts h
  step_keeps setup facts (Disconnected reason slot) enters h = stays (Disconnects reason) facts.control (others (Disconnects reason) refl) h
  step_keeps setup facts (EventEntered slot) enters h = entered_keeps (goes_on facts) setup slot facts (enters slot refl) h
  step_keeps setup facts PduFixed enters h = fixed_keeps (is_control facts.outgoing.fixed) facts h
  step_keeps setup facts (PacketSent slot) enters h = gone_keeps (takes_leave facts) slot facts h
  step_keeps setup facts (WordsGiven skd_s iv_s) enters h = h
  step_keeps setup facts (PacketReceived slot octets room) enters h =
      each_packet setup slot facts (λ (notes : List Note) (later : Facts). P later.control) octets room h
      (forged_keeps (is_none facts.control.ends) facts.control h) (λ header pdu. heard_keeps setup.link.role slot room header pdu facts h)
  step_keeps setup facts DataReported enters h = h
