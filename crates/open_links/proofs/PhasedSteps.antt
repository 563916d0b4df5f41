-- The steps that an end makes in a step of its link, and those that its control part makes, in all phases of encryption.
use Rattle.std.proofs.Common.{◌≡◌, ℕ, ◌&&◌, not, Bool, true, false, if◌then◌else◌, List, [], ◌∷◌, ◌++◌, drop, Option, Some, None, is_none, refl}
use Rattle.std.specs.Bool.{⊤}
use Rattle.std.specs.List.{AllByRecursion}
use Rattle.ble_base.specs.declared.roles.Role.{Role}
use Rattle.data_pdu.specs.Header.{header_in}
use Rattle.data_pdu.specs.declared.ctrl.Ctrl.{Ctrl}
use Rattle.data_pdu.specs.declared.ctrl.CtrlRead.{CtrlRead}
use Rattle.data_pdu.specs.declared.ctrl.CtrlRead.TheVariants.{Known}
use Rattle.link_end.specs.control_model.Control.{Step as ControlStep, Owes, Answers as control_answers, Asks as control_asks, Disconnects as control_disconnects, Enters as control_enters, SeesAcknowledged as control_sees_acknowledged, Sends as control_sends, Takes as control_takes}
use Rattle.link_end.specs.phased_end.Taking.{drawn}
use Rattle.link_end.specs.link_model.keyed_control.KeyedSteps.{KeyedStep, Asks, Answers, Disconnects, Enters, Opens, Seals, SeesAcknowledged, Sends, Takes, TakesData}
use Rattle.link_end.specs.link_model.phased_control.Phased.{Phased, is_quiet_now}
use Rattle.link_end.specs.link_model.phased_control.Steps.{control_steps, handed_steps, kept_steps, later_steps, owed_steps, read_answer, seen_by_procedures, taken_steps}
use Rattle.link_end.specs.link_model.phased_control.Taken.{PhasedStep, Response, Answers as phased_answers, Asks as phased_asks, Disconnects as phased_disconnects, Enters as phased_enters, GivesKey, LacksKey, SeesAcknowledged as phased_sees_acknowledged, Sends as phased_sends, Takes as phased_takes, TakesData as phased_takes_data, ciphered, does_keep, is_allowed, lacks_room_now, role_now, seen_as}
use Rattle.link_end.specs.link_model.Acknowledgement.{Pdu, is_acked}
use Rattle.link_end.specs.link_model.Controls.{goes_on, is_procedure_pdu, pdu_fixed, read_of}
use Rattle.link_end.specs.link_model.Data.{is_data}
use Rattle.link_end.specs.link_model.Facts.{Facts}
use Rattle.link_end.specs.link_model.Hosts.{is_to_come, key_step}
use Rattle.link_end.specs.link_model.KeyedSteps.{keyed_steps_in, step_if, steps_received}
use Rattle.link_end.specs.link_model.Packets.{good_pdu, whole_pdu}
use Rattle.link_end.specs.link_model.Payload.{first_octet}
use Rattle.link_end.specs.link_model.Receiving.{accepts, acknowledged_if, acks_control, answers_with_control, counts_accepted, facts_before_taking, has_acknowledged, heard_in_slot}
use Rattle.link_end.specs.link_model.Sending.{seals_new, takes_leave}
use Rattle.link_end.specs.link_model.Setup.{Setup}
use Rattle.link_end.specs.link_model.Step.{Step, DataGiven, DataReported, Disconnected, EventEntered, KeyAnswered, PacketReceived, PacketSent, PduFixed, ProcedureAsked, RequestAnswered, WordsGiven}
use Rattle.link_end.specs.link_model.Verdicts.{pdu_of}

-- ---- what holds of each step of the control part holds of those that it makes in a step

module _ (X : ControlStep → Type 0) (owes : (ctrl : Ctrl) → X (Owes ctrl)) where
  -- its own step; what the phase adds is a PDU that is owed, and the PDU that was kept
  abbrev pub Own : PhasedStep → Phased → Type 0
  Own (phased_enters slot) s = X (control_enters slot (is_quiet_now s))
  Own (phased_asks ask) s = X (control_asks ask)
  Own (phased_answers answer) s = X (control_answers answer)
  Own (phased_disconnects reason) s = X (control_disconnects reason)
  Own (phased_sends slot) s = X (control_sends slot (is_quiet_now s))
  Own phased_sees_acknowledged s = X control_sees_acknowledged
  Own (phased_takes read slot response) s =
      X (control_takes (seen_as read s) slot (is_quiet_now s)) × ((ctrl : Ctrl) → s.kept ≡ Some ctrl → X (control_takes (Known ctrl) slot true))
  Own step s = ⊤

  pub both_controls : (steps more : List ControlStep) → AllByRecursion X steps → AllByRecursion X more → AllByRecursion X (steps ++ more)
  both_controls [] more here later = later
  both_controls (step ∷ steps) more here later = (here.0, both_controls steps more here.1 later)

  owed_all : (owed : Option Ctrl) → AllByRecursion X (owed_steps owed)
  owed_all None = tt
  owed_all (Some ctrl) = (owes ctrl, tt)

  kept_all : (b : Bool) (slot : ℕ) (kept : Option Ctrl) → ((ctrl : Ctrl) → kept ≡ Some ctrl → X (control_takes (Known ctrl) slot true))
      → AllByRecursion X (if b then kept_steps slot kept else [])
  kept_all false slot kept is = tt
  kept_all true slot None is = tt
  kept_all true slot (Some ctrl) is = (is ctrl refl, tt)

  handed_all : (slot : ℕ) (response : Response) (read : CtrlRead) (s : Phased) → Own (phased_takes read slot response) s
      → AllByRecursion X (handed_steps slot response read s)
  handed_all slot response read s own = (own.0, by (is_none (seen_by_procedures read slot s).control.ends))
    where
      t : Phased
      t = seen_by_procedures read slot s

      by : (b : Bool) → AllByRecursion X (if b then later_steps slot response read t else [])
      by true =
          both_controls (owed_steps (read_answer (role_now t) response read t.phase)) _ (owed_all (read_answer (role_now t) response read t.phase))
          (kept_all (is_quiet_now (ciphered response read t)) slot t.kept own.1)
      by false = tt

  taken_all : (slot : ℕ) (response : Response) (read : CtrlRead) (s : Phased) → Own (phased_takes read slot response) s
      → AllByRecursion X (taken_steps slot response read s)
  taken_all slot response read s own = by (is_allowed read s) (does_keep read s) (lacks_room_now read s)
    where
      by : (allowed keeps full : Bool)
          → AllByRecursion X (if allowed then (if keeps then [] else (if full then [] else handed_steps slot response read s)) else [])
      by false keeps full = tt
      by true true full = tt
      by true false true = tt
      by true false false = handed_all slot response read s own

  pub controls_all : (step : PhasedStep) (s : Phased) → Own step s → AllByRecursion X (control_steps step s)
  controls_all (phased_enters slot) s own = (own, owed_all _)
  controls_all (phased_asks ask) s own = (own, tt)
  controls_all (phased_answers answer) s own = (own, tt)
  controls_all GivesKey s own = owed_all _
  controls_all LacksKey s own = owed_all _
  controls_all (phased_disconnects reason) s own = (own, tt)
  controls_all (phased_sends slot) s own = (own, tt)
  controls_all phased_sees_acknowledged s own = (own, owed_all _)
  controls_all (phased_takes read slot response) s own = taken_all slot response read s own
  controls_all phased_takes_data s own = tt

-- ---- what holds of the steps that any end makes holds of those that it makes in a step of its link

-- no event is entered, and no control PDU is taken
abbrev pub is_other : KeyedStep → Bool
is_other (Enters slot) = false
is_other (Takes read slot response) = false
is_other step = true

module _ (Y : KeyedStep → Type 0) (others : (step : KeyedStep) → is_other step ≡ true → Y step)
    (takes : (pdu : Pdu) (slot : ℕ) (response : Response) → Y (Takes (read_of pdu) slot response)) where
  pub both_steps : (steps more : List KeyedStep) → AllByRecursion Y steps → AllByRecursion Y more → AllByRecursion Y (steps ++ more)
  both_steps [] more here later = later
  both_steps (step ∷ steps) more here later = (here.0, both_steps steps more here.1 later)

  perhaps : (is_taken : Bool) (step : KeyedStep) → Y step → AllByRecursion Y (step_if is_taken step)
  perhaps true step is = (is, tt)
  perhaps false step is = tt

  all_received : (role : Role) (slot : ℕ) (room : Bool) (air octets : Option (List ℕ)) (facts : Facts)
      → AllByRecursion Y (steps_received role slot room air octets facts)
  all_received role slot room None octets facts = tt
  all_received role slot room (Some air) None facts = tt
  all_received role slot room (Some air) (Some octets) facts =
      let header = header_in octets in
      let pdu = pdu_of octets in
      let own = acknowledged_if (has_acknowledged facts header) (heard_in_slot slot header.md facts) in
      let accepted = accepts room header pdu (facts_before_taking role slot header facts) in
      let sees = step_if (acks_control (has_acknowledged facts header) facts) SeesAcknowledged in
      let sends = step_if (answers_with_control role own) (Sends slot) in
      let opens = step_if (counts_accepted accepted pdu) (Opens (first_octet air) (drop 2 air)) in
      let takes_it = step_if (accepted && is_procedure_pdu pdu) (Takes (read_of pdu) slot (drawn facts.encryption.response)) in
      both_steps sees _ (perhaps (acks_control (has_acknowledged facts header) facts) SeesAcknowledged (others SeesAcknowledged refl))
      (both_steps sends _ (perhaps (answers_with_control role own) (Sends slot) (others (Sends slot) refl))
      (both_steps opens _ (perhaps (counts_accepted accepted pdu) (Opens (first_octet air) (drop 2 air)) (others (Opens (first_octet air) (drop 2 air)) refl))
      (both_steps takes_it _
      (perhaps (accepted && is_procedure_pdu pdu) (Takes (read_of pdu) slot (drawn facts.encryption.response)) (takes pdu slot (drawn facts.encryption.response)))
      (perhaps (accepted && is_data pdu) TakesData (others TakesData refl)))))

  of_key : (key : Option (List ℕ)) → Y (key_step key)
  of_key None = others (key_step None) refl
  of_key (Some ltk) = others (key_step (Some ltk)) refl

  pub steps_all : (setup : Setup) (facts : Facts) (step : Step) → ((slot : ℕ) → step ≡ EventEntered slot → Y (Enters slot))
      → AllByRecursion Y (keyed_steps_in setup facts step)
  steps_all setup facts (DataGiven start body) enters = tt
  steps_all setup facts (ProcedureAsked ask) enters = perhaps (not (is_to_come ask facts)) (Asks ask) (others (Asks ask) refl)
  steps_all setup facts (RequestAnswered answer) enters = (others (Answers answer) refl, tt)
  steps_all setup facts (KeyAnswered key slot) enters = (of_key key, tt)
  steps_all setup facts (Disconnected reason slot) enters = (others (Disconnects reason) refl, tt)
  steps_all setup facts (EventEntered slot) enters = perhaps (goes_on facts) (Enters slot) (enters slot refl)
  steps_all setup facts PduFixed enters = tt
  steps_all setup facts (PacketSent slot) enters =
      let pdu = pdu_fixed facts in
      let counts = seals_new (is_acked facts.acknowledgement) pdu in
      both_steps (step_if (takes_leave facts) (Sends slot)) _ (perhaps (takes_leave facts) (Sends slot) (others (Sends slot) refl))
      (perhaps counts (Seals pdu.llid pdu.body) (others (Seals pdu.llid pdu.body) refl))
  steps_all setup facts (WordsGiven skd_s iv_s) enters = tt
  steps_all setup facts (PacketReceived slot octets room) enters =
      all_received setup.link.role slot room (whole_pdu setup facts octets) (good_pdu setup facts octets) facts
  steps_all setup facts DataReported enters = tt
