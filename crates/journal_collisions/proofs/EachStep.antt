-- What each step of a control part but sending keeps is kept by each step of its central in which that sends no control PDU, in
-- all phases of encryption.
use Rattle.std.proofs.Common.{◌≡◌, ℕ, ◌&&◌, Bool, true, false, List, Option, Some, None, is_none, sym, subst, if◌then◌else◌}
use Rattle.ble_base.specs.ErrorCodes.{mic_failure}
use Rattle.ble_base.specs.declared.roles.Role.{Role}
use Rattle.ble_base.specs.declared.roles.Role.TheVariants.{Central}
use Rattle.data_pdu.specs.declared.ctrl.CtrlRead.{CtrlRead}
use Rattle.data_pdu.specs.declared.header.DataHeader.{DataHeader}
use Rattle.data_pdu.specs.Header.{header_in}
use Rattle.journal_endings.specs.link_runs.link_pairs.control_model.Control.{Control, ended}
use Rattle.journal_endings.specs.link_runs.link_pairs.joint_controls.Joint.{HasKey, HasNoKey}
use Rattle.journal_endings.specs.link_runs.link_pairs.procedure_values.declared.asks.Ask.{Ask}
use Rattle.journal_endings.specs.link_runs.link_pairs.link_model.keyed_control.declared.material.KeyMaterial.{KeyMaterial}
use Rattle.journal_endings.specs.link_runs.link_pairs.link_model.keyed_control.Keyed.{Keyed}
use Rattle.journal_endings.specs.link_runs.link_pairs.link_model.keyed_control.KeyedSteps.{keyed_after, with_phased, Takes as keyed_takes}
use Rattle.journal_endings.specs.link_runs.link_pairs.link_model.phased_control.Phased.{Phased}
use Rattle.journal_endings.specs.link_runs.link_pairs.link_model.phased_control.Taken.{Enters, GivesKey, LacksKey, PhasedStep, Response, SeesAcknowledged, Takes, TakesData, phased_moved}
use Rattle.journal_endings.specs.link_runs.link_pairs.link_model.phased_end.Taking.{drawn}
use Rattle.journal_endings.specs.link_runs.link_pairs.link_model.Acknowledgement.{Pdu}
use Rattle.journal_endings.specs.link_runs.link_pairs.link_model.Controls.{goes_on, is_procedure_pdu, read_of}
use Rattle.journal_endings.specs.link_runs.link_pairs.link_model.Data.{is_control, is_data}
use Rattle.journal_endings.specs.link_runs.link_pairs.link_model.End.{facts_after}
use Rattle.journal_endings.specs.link_runs.link_pairs.link_model.Entering.{facts_entered_if}
use Rattle.journal_endings.specs.link_runs.link_pairs.link_model.Facts.{Facts, keyed_of}
use Rattle.journal_endings.specs.link_runs.link_pairs.link_model.Fixing.{fixed_anew}
use Rattle.journal_endings.specs.link_runs.link_pairs.link_model.Hosts.{asked_unless, is_to_come, key_step}
use Rattle.journal_endings.specs.link_runs.link_pairs.link_model.Packets.{good_pdu, is_forged}
use Rattle.journal_endings.specs.link_runs.link_pairs.link_model.Receiving.{accepted_if, accepts, acks_control, data_taken_if, facts_before_taking, facts_forged_if, facts_hearing, facts_received, has_acknowledged, keyed_acked_if, procedures_take_if}
use Rattle.journal_endings.specs.link_runs.link_pairs.link_model.Sending.{control_gone_if, fixed_sent, takes_leave}
use Rattle.journal_endings.specs.link_runs.link_pairs.link_model.Setup.{Setup}
use Rattle.journal_endings.specs.link_runs.link_pairs.link_model.Step.{Step, DataGiven, DataReported, Disconnected, EventEntered, KeyAnswered, PacketReceived, PacketSent, PduFixed, ProcedureAsked, RequestAnswered, WordsGiven}
use Rattle.journal_endings.specs.link_runs.link_pairs.link_model.Verdicts.{pdu_of}
use Rattle.journal_endings.proofs.link_runs.link_pairs.joint_controls.EachEnd.{Keeps, acks_kept, enters_kept, hosts_kept}
use Rattle.journal_endings.proofs.link_runs.link_pairs.joint_controls.Keeping.{choice, data_keeps, took_keeps}
use Rattle.run_collisions.specs.Waiting.{sends_control}

module _ (P : Control → Type 0) (kept : Keeps P) where
  abbrev HasIt : Facts → Type 0
  HasIt facts = P facts.control

  -- the part with the keys has the same procedures
  as_phased : (goes : Bool) (step : PhasedStep) (material : KeyMaterial) (k : Keyed) → P (if goes then phased_moved step k.phased else k.phased).control
      → P (if goes then with_phased step material k else k).phased.control
  as_phased true step material k h = h
  as_phased false step material k h = h

  key_kept : (key : Option (List ℕ)) (k : Keyed) → P k.phased.control → P (keyed_after (key_step key) k).phased.control
  key_kept None k h = as_phased (is_none k.phased.control.ends) LacksKey _ k (hosts_kept P kept HasNoKey k.phased h)
  key_kept (Some ltk) k h = as_phased (is_none k.phased.control.ends) GivesKey _ k (hosts_kept P kept HasKey k.phased h)

  read_kept : (read : CtrlRead) (slot : ℕ) (response : Response) (k : Keyed) → P k.phased.control → P (keyed_after (keyed_takes read slot response) k).phased.control
  read_kept read slot response k h =
      as_phased (is_none k.phased.control.ends) (Takes read slot response) _ k
      (choice (λ (s : Phased). P s.control) (is_none k.phased.control.ends) (phased_moved (Takes read slot response) k.phased) k.phased
      (took_keeps P kept.owes kept.takes kept.ends slot response read k.phased h) h)

  asked_kept : (comes : Bool) (ask : Ask) (facts : Facts) → HasIt facts → HasIt (asked_unless comes ask facts)
  asked_kept true ask facts h = h
  asked_kept false ask facts h = kept.asks ask facts.control h

  entered_kept : (goes : Bool) (setup : Setup) (slot : ℕ) (facts : Facts) → HasIt facts → HasIt (facts_entered_if goes setup slot facts)
  entered_kept true setup slot facts h =
      as_phased (is_none facts.control.ends) (Enters slot) _ (keyed_of facts) (enters_kept P kept slot (keyed_of facts).phased h)
  entered_kept false setup slot facts h = h

  fixed_kept : (stays : Bool) (facts : Facts) → HasIt facts → HasIt (if stays then facts else fixed_anew facts)
  fixed_kept true facts h = h
  fixed_kept false facts h = h

  sent_kept : (leaves : Bool) (slot : ℕ) (facts : Facts) → leaves ≡ false → HasIt facts → HasIt (fixed_sent slot (control_gone_if leaves slot facts))
  sent_kept true slot facts none h = absurd (cc)
  sent_kept false slot facts none h = h

  acked_kept : (acked : Bool) (k : Keyed) → P k.phased.control → P (keyed_acked_if acked k).phased.control
  acked_kept true k h = as_phased (is_none k.phased.control.ends) SeesAcknowledged _ k (acks_kept P kept k.phased h)
  acked_kept false k h = h

  take_kept : (takes : Bool) (pdu : Pdu) (slot : ℕ) (facts : Facts) → HasIt facts → HasIt (procedures_take_if takes pdu slot facts)
  take_kept true pdu slot facts h = read_kept (read_of pdu) slot (drawn facts.encryption.response) (keyed_of facts) h
  take_kept false pdu slot facts h = h

  data_kept : (takes : Bool) (facts : Facts) → HasIt facts → HasIt (data_taken_if takes facts)
  data_kept true facts h =
      as_phased (is_none facts.control.ends) TakesData _ (keyed_of facts)
      (choice (λ (s : Phased). P s.control) (is_none facts.control.ends) (phased_moved TakesData (keyed_of facts).phased) (keyed_of facts).phased
      (data_keeps P kept.owes kept.takes kept.ends (keyed_of facts).phased h) h)
  data_kept false facts h = h

  forged_kept : (forged : Bool) (facts : Facts) → HasIt facts → HasIt (facts_forged_if forged facts)
  forged_kept true facts h =
      choice P (is_none facts.control.ends) (ended (record { 0 = mic_failure }) facts.control) facts.control (kept.ends (record { 0 = mic_failure }) facts.control h) h
  forged_kept false facts h = h

  hearing_kept : (slot : ℕ) (room : Bool) (header : DataHeader) (pdu : Pdu) (facts : Facts) → HasIt facts → HasIt (facts_hearing Central slot room header pdu facts)
  hearing_kept slot room header pdu facts h =
      let now = facts_before_taking Central slot header facts in
      let accepted = accepts room header pdu now in
      let takes = accepted && is_procedure_pdu pdu in
      data_kept (accepted && is_data pdu) (procedures_take_if takes pdu slot (accepted_if accepted pdu now))
      (take_kept takes pdu slot (accepted_if accepted pdu now) (acked_kept (acks_control (has_acknowledged facts header) facts) (keyed_of facts) h))

  received_kept : (slot : ℕ) (room : Bool) (pdu : Option (List ℕ)) (facts : Facts) → HasIt facts → HasIt (facts_received Central slot room pdu facts)
  received_kept slot room None facts h = h
  received_kept slot room (Some octets) facts h = hearing_kept slot room (header_in octets) (pdu_of octets) facts h

  pub step_kept : (setup : Setup) → setup.link.role ≡ Central → (step : Step) (facts : Facts) → sends_control facts step ≡ false → HasIt facts
      → HasIt (facts_after setup facts step)
  step_kept setup is_central (DataGiven start body) facts none h = h
  step_kept setup is_central (ProcedureAsked ask) facts none h = asked_kept (is_to_come ask facts) ask facts h
  step_kept setup is_central (RequestAnswered answer) facts none h = kept.answers answer facts.control h
  step_kept setup is_central (KeyAnswered key slot) facts none h = key_kept key (keyed_of facts) h
  step_kept setup is_central (Disconnected reason slot) facts none h = kept.disconnects reason facts.control h
  step_kept setup is_central (EventEntered slot) facts none h = entered_kept (goes_on facts) setup slot facts h
  step_kept setup is_central PduFixed facts none h = fixed_kept (is_control facts.outgoing.fixed) facts h
  step_kept setup is_central (PacketSent slot) facts none h = sent_kept (takes_leave facts) slot facts none h
  step_kept setup is_central (WordsGiven skd_s iv_s) facts none h = h
  step_kept setup is_central (PacketReceived slot octets room) facts none h =
      let pdu = good_pdu setup facts octets in
      forged_kept (is_forged setup facts octets) (facts_received setup.link.role slot room pdu facts)
      (subst (λ (role : Role). HasIt (facts_received role slot room pdu facts)) (sym is_central) (received_kept slot room pdu facts h))
  step_kept setup is_central DataReported facts none h = h
