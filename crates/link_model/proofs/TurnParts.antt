-- What most steps leave as it is of the data of an end.
use Rattle.std.proofs.Common.{◌≡◌, ℕ, ◌&&◌, Bool, true, false, List, Option, Some, None, refl, ◌∙◌, if◌then◌else◌}
use Rattle.ble_base.specs.declared.roles.Role.{Role}
use Rattle.data_pdu.specs.declared.header.DataHeader.{DataHeader}
use Rattle.data_pdu.specs.Header.{header_in}
use Rattle.phased_end.specs.control_end.procedure_values.declared.asks.Ask.{Ask}
use Rattle.link_model.specs.Setup.{Setup}
use Rattle.link_model.specs.Acknowledgement.{Pdu}
use Rattle.link_model.specs.Data.{Data, data_acked_if, data_given, data_reported, is_data}
use Rattle.link_model.specs.Verdicts.{pdu_of}
use Rattle.link_model.specs.Facts.{Facts}
use Rattle.link_model.specs.Step.{Step, DataGiven, DataReported, Disconnected, EventEntered, PacketReceived, PacketSent, PduFixed, ProcedureAsked, RequestAnswered, KeyAnswered, WordsGiven, begins_turn}
use Rattle.link_model.specs.Controls.{goes_on, is_procedure_pdu, pdu_fixed}
use Rattle.link_model.specs.Entering.{facts_entered_if}
use Rattle.link_model.specs.Hosts.{asked_unless, is_to_come}
use Rattle.link_model.specs.Packets.{good_pdu, is_forged}
use Rattle.link_model.specs.Sending.{control_gone_if}
use Rattle.link_model.specs.Receiving.{accepted_if, accepts, acknowledged_if, answers_with_control, facts_before_taking, facts_hearing, facts_received, has_acknowledged, heard_in_slot, procedures_take_if}
use Rattle.link_model.specs.End.{facts_after}
use Rattle.link_model.proofs.Choices.{either_data, either_forged}

-- a part of the data that is changed as a turn begins and as a packet is sent alone
pub record IsOfTurn {A : Type 0} (part : Data → A) : Type 0 where
  pub given : (handle : ℕ) (start : Bool) (body : List ℕ) (outgoing : Data)
      → part (data_given handle start body outgoing) ≡ part outgoing
  pub gone : (pdu : Pdu) (outgoing : Data) → part (record outgoing { fixed = pdu }) ≡ part outgoing
  pub acked : (acked : Bool) (outgoing : Data) → part (data_acked_if acked outgoing) ≡ part outgoing
  pub reported : (outgoing : Data) → part (data_reported outgoing) ≡ part outgoing

module _ {A : Type 0} (part : Data → A) (is : IsOfTurn part) where
  asked : (comes : Bool) (ask : Ask) (facts : Facts) → part (asked_unless comes ask facts).outgoing ≡ part facts.outgoing
  asked true ask facts = refl
  asked false ask facts = refl

  entered : (goes : Bool) (setup : Setup) (slot : ℕ) (facts : Facts)
      → part (facts_entered_if goes setup slot facts).outgoing ≡ part facts.outgoing
  entered true setup slot facts = refl
  entered false setup slot facts = refl

  pub gone_leaves : (goes : Bool) (slot : ℕ) (facts : Facts)
      → part (control_gone_if goes slot facts).outgoing ≡ part facts.outgoing
  gone_leaves true slot facts = is.gone (pdu_fixed facts) facts.outgoing
  gone_leaves false slot facts = refl

  taken : (takes : Bool) (pdu : Pdu) (slot : ℕ) (facts : Facts)
      → part (procedures_take_if takes pdu slot facts).outgoing ≡ part facts.outgoing
  taken true pdu slot facts = refl
  taken false pdu slot facts = refl

  heard : (role : Role) (slot : ℕ) (room : Bool) (header : DataHeader) (pdu : Pdu) (facts : Facts)
      → part (facts_hearing role slot room header pdu facts).outgoing ≡ part facts.outgoing
  heard role slot room header pdu facts =
      let acks = has_acknowledged facts header in
      let own = acknowledged_if acks (heard_in_slot slot header.md facts) in
      let now = facts_before_taking role slot header facts in
      let accepted = accepts room header pdu now in
      let seen = procedures_take_if (accepted && is_procedure_pdu pdu) pdu slot (accepted_if accepted pdu now) in
      either_data (λ (f : Facts). part f.outgoing ≡ part seen.outgoing) (accepted && is_data pdu) seen refl refl
      ∙ taken (accepted && is_procedure_pdu pdu) pdu slot (accepted_if accepted pdu now)
      ∙ gone_leaves (answers_with_control role own) slot own
      ∙ is.acked (acks && is_data facts.acknowledgement.last) facts.outgoing

  received : (role : Role) (slot : ℕ) (room : Bool) (pdu : Option (List ℕ)) (facts : Facts)
      → part (facts_received role slot room pdu facts).outgoing ≡ part facts.outgoing
  received role slot room None facts = refl
  received role slot room (Some octets) facts = heard role slot room (header_in octets) (pdu_of octets) facts

  -- a packet is received, good or not
  pub packet_leaves : (setup : Setup) (facts : Facts) (slot : ℕ) (octets : List ℕ) (room : Bool)
      → part (facts_after setup facts (PacketReceived slot octets room)).outgoing ≡ part facts.outgoing
  packet_leaves setup facts slot octets room =
      let later = facts_received setup.link.role slot room (good_pdu setup facts octets) facts in
      either_forged (λ (f : Facts). part f.outgoing ≡ part later.outgoing)
      (is_forged setup facts octets) later refl refl
      ∙ received setup.link.role slot room (good_pdu setup facts octets) facts

  -- any step, where the start of a turn and a packet that is sent leave it too
  pub step_leaves : (setup : Setup) (facts : Facts) (step : Step)
      → (begins_turn step ≡ true → part (facts_after setup facts PduFixed).outgoing ≡ part facts.outgoing)
      → ((slot : ℕ) → part (facts_after setup facts (PacketSent slot)).outgoing ≡ part facts.outgoing)
      → part (facts_after setup facts step).outgoing ≡ part facts.outgoing
  step_leaves setup facts (DataGiven start body) fixed sent = is.given setup.link.handle start body facts.outgoing
  step_leaves setup facts (ProcedureAsked ask) fixed sent = asked (is_to_come ask facts) ask facts
  step_leaves setup facts (RequestAnswered answer) fixed sent = refl
  step_leaves setup facts (KeyAnswered key slot) fixed sent = refl
  step_leaves setup facts (Disconnected reason slot) fixed sent = refl
  step_leaves setup facts (EventEntered slot) fixed sent = entered (goes_on facts) setup slot facts
  step_leaves setup facts PduFixed fixed sent = fixed refl
  step_leaves setup facts (PacketSent slot) fixed sent = sent slot
  step_leaves setup facts (WordsGiven skd_s iv_s) fixed sent = refl
  step_leaves setup facts (PacketReceived slot octets room) fixed sent = packet_leaves setup facts slot octets room
  step_leaves setup facts DataReported fixed sent = is.reported facts.outgoing
