-- What every past keeps of the PDUs of an end and of its data: what each move of them keeps.
use Rattle.std.proofs.Common.{◌≡◌, ℕ, ◌&&◌, not, Bool, true, false, List, [], ◌∷◌, fold, Option, Some, None, is_some, refl, subst, sym, if◌then◌else◌}
use Rattle.std.proofs.lemmas.Bool.{and_parts}
use Rattle.ble_base.specs.declared.roles.Role.{Role}
use Rattle.ble_base.specs.declared.roles.Role.TheVariants.{Central, Peripheral}
use Rattle.ack_bit.specs.AckBits.{acknowledges}
use Rattle.data_pdu.specs.declared.ctrl.Ctrl.{Ctrl}
use Rattle.data_pdu.specs.declared.header.DataHeader.{DataHeader}
use Rattle.data_pdu.specs.Header.{header_in}
use Rattle.phased_end.specs.control_end.procedure_values.declared.asks.Ask.{Ask}
use Rattle.phased_end.specs.control_end.procedure_stages.Queue.{waiting_in}
use Rattle.link_model.specs.Setup.{Setup}
use Rattle.link_model.specs.Acknowledgement.{Acknowledgement, Pdu, after_sending, bits_of, first_acknowledgement, is_acked, with_accepted, with_acked}
use Rattle.link_model.specs.Data.{Data, data_acked_if, data_given, data_reported, first_data, is_control, is_data}
use Rattle.link_model.specs.Verdicts.{pdu_of}
use Rattle.link_model.specs.Facts.{Facts, first_facts}
use Rattle.link_model.specs.Step.{Step, DataGiven, DataReported, Disconnected, EventEntered, PacketReceived, PacketSent, PduFixed, ProcedureAsked, RequestAnswered, KeyAnswered, WordsGiven}
use Rattle.link_model.specs.Controls.{goes_on, is_procedure_pdu, next_control, pdu_of_control, is_quiet_now}
use Rattle.link_model.specs.Entering.{facts_entered_if}
use Rattle.link_model.specs.Fixing.{data_cut, data_fixed_by, data_goes, fixed_anew, is_more_again}
use Rattle.link_model.specs.Hosts.{asked_unless, is_to_come}
use Rattle.link_model.specs.Packets.{good_pdu, is_forged}
use Rattle.link_model.specs.Sending.{control_gone_if, data_sent_as, facts_sent, takes_leave}
use Rattle.link_model.specs.Receiving.{accepted_if, accepts, acknowledged_if, answers_with_control, facts_hearing, facts_received, has_acknowledged, heard_in_slot, procedures_take_if}
use Rattle.link_model.specs.End.{facts_after, facts_of}
use Rattle.link_model.specs.Payload.{payload_made}
use Rattle.link_model.proofs.Choices.{either_data, either_forged}

-- a statement of what an end sent and accepted, and of its data, that each move keeps
pub record EachMoveKeeps (P : Acknowledgement → Data → Type 0) : Type 0 where
  pub first : P first_acknowledgement first_data
  -- the host gives a packet, and is reported those that are complete
  pub given : (handle : ℕ) (start : Bool) (body : List ℕ) (ack : Acknowledgement) (outgoing : Data) → P ack outgoing
      → P ack (data_given handle start body outgoing)
  pub reported : (ack : Acknowledgement) (outgoing : Data) → P ack outgoing → P ack (data_reported outgoing)
  -- a PDU is fixed
  pub fixed : (control : Bool) (waiting limit : ℕ) (quiet goes again : Bool) (ack : Acknowledgement) (outgoing : Data)
      → P ack outgoing
      → P ack
      (record (data_fixed_by control waiting quiet goes (record outgoing { limit = limit })) { more_again = again })
  -- a control PDU leaves the queue, where the last PDU is acknowledged
  pub gone : (control : Option Ctrl) (ack : Acknowledgement) (outgoing : Data) → is_acked ack ≡ true → P ack outgoing
      → P ack (record outgoing { fixed = pdu_of_control control })
  -- a packet is sent
  pub sent : (payload : List ℕ) (ack : Acknowledgement) (outgoing : Data) → P ack outgoing
      → P (after_sending outgoing.fixed ack) (data_sent_as payload (is_acked ack) outgoing)
  -- a packet is received: the last PDU is acknowledged, and the new one is accepted
  pub acked : (acked : Bool) (ack : Acknowledgement) (outgoing : Data) → (acked ≡ true → is_acked ack ≡ false) → P ack outgoing
      → P (with_acked acked ack) (data_acked_if (acked && is_data ack.last) outgoing)
  pub accepted : (accepted : Bool) (pdu : Pdu) (ack : Acknowledgement) (outgoing : Data) → P ack outgoing
      → P (with_accepted accepted pdu ack) outgoing

pub was_out : (all says : Bool) → (not all && says) ≡ true → all ≡ false
was_out true says is = absurd cc
was_out false says is = refl

module _ (P : Acknowledgement → Data → Type 0) (moves : EachMoveKeeps P) where
  abbrev pub Holds : Facts → Type 0
  Holds facts = P facts.acknowledgement facts.outgoing

  asked : (comes : Bool) (ask : Ask) (facts : Facts) → Holds facts → Holds (asked_unless comes ask facts)
  asked true ask facts h = h
  asked false ask facts h = h

  entered : (goes : Bool) (setup : Setup) (slot : ℕ) (facts : Facts) → Holds facts → Holds (facts_entered_if goes setup slot facts)
  entered true setup slot facts h = h
  entered false setup slot facts h = h

  fixed : (stays : Bool) (facts : Facts) → Holds facts → Holds (if stays then facts else fixed_anew facts)
  fixed true facts h = h
  fixed false facts h =
      moves.fixed (is_some (next_control facts)) (waiting_in facts.control.table.queue) (data_cut facts).limit
      (is_quiet_now facts) (data_goes facts) (is_more_again facts) facts.acknowledgement facts.outgoing h

  gone : (goes : Bool) (slot : ℕ) (facts : Facts) → (goes ≡ true → takes_leave facts ≡ true) → Holds facts
      → Holds (control_gone_if goes slot facts)
  gone false slot facts leaves h = h
  gone true slot facts leaves h =
      let parts = and_parts (is_acked facts.acknowledgement) facts.fixes_control (leaves refl) in
      subst (λ (fixes : Bool). P facts.acknowledgement
      (record facts.outgoing { fixed = (if fixes then pdu_of_control (next_control facts) else facts.outgoing.fixed) }))
      (sym parts.1) (moves.gone (next_control facts) facts.acknowledgement facts.outgoing parts.0 h)

  sent : (slot : ℕ) (facts : Facts) → Holds facts → Holds (facts_sent slot facts)
  sent slot facts h =
      let now = control_gone_if (takes_leave facts) slot facts in
      moves.sent (payload_made now.encryption.end now.outgoing.fixed) now.acknowledgement now.outgoing
      (gone (takes_leave facts) slot facts (λ is. is) h)

  answers : (role : Role) (facts : Facts) → answers_with_control role facts ≡ true → takes_leave facts ≡ true
  answers Central facts is = absurd cc
  answers Peripheral facts is = is

  taken : (takes : Bool) (pdu : Pdu) (slot : ℕ) (facts : Facts) → Holds facts → Holds (procedures_take_if takes pdu slot facts)
  taken true pdu slot facts h = h
  taken false pdu slot facts h = h

  heard : (role : Role) (slot : ℕ) (room : Bool) (header : DataHeader) (pdu : Pdu) (facts : Facts) → Holds facts
      → Holds (facts_hearing role slot room header pdu facts)
  heard role slot room header pdu facts h =
      let acks = has_acknowledged facts header in
      let own = acknowledged_if acks (heard_in_slot slot header.md facts) in
      let now = control_gone_if (answers_with_control role own) slot own in
      let accepted = accepts room header pdu now in
      let seen = procedures_take_if (accepted && is_procedure_pdu pdu) pdu slot (accepted_if accepted pdu now) in
      let holds =
      taken (accepted && is_procedure_pdu pdu) pdu slot (accepted_if accepted pdu now)
      (moves.accepted accepted pdu now.acknowledgement now.outgoing
      (gone (answers_with_control role own) slot own (answers role own)
      (moves.acked acks facts.acknowledgement facts.outgoing
      (was_out (is_acked facts.acknowledgement) (acknowledges (bits_of facts.acknowledgement) header)) h))) in
      either_data Holds (accepted && is_data pdu) seen holds holds

  received : (role : Role) (slot : ℕ) (room : Bool) (pdu : Option (List ℕ)) (facts : Facts) → Holds facts
      → Holds (facts_received role slot room pdu facts)
  received role slot room None facts h = h
  received role slot room (Some octets) facts h = heard role slot room (header_in octets) (pdu_of octets) facts h

  pub step_keeps : (setup : Setup) (facts : Facts) (step : Step) → Holds facts → Holds (facts_after setup facts step)
  step_keeps setup facts (DataGiven start body) h = moves.given setup.link.handle start body facts.acknowledgement facts.outgoing h
  step_keeps setup facts (ProcedureAsked ask) h = asked (is_to_come ask facts) ask facts h
  step_keeps setup facts (RequestAnswered answer) h = h
  step_keeps setup facts (KeyAnswered key slot) h = h
  step_keeps setup facts (Disconnected reason slot) h = h
  step_keeps setup facts (EventEntered slot) h = entered (goes_on facts) setup slot facts h
  step_keeps setup facts PduFixed h = fixed (is_control facts.outgoing.fixed) facts h
  step_keeps setup facts (PacketSent slot) h = sent slot facts h
  step_keeps setup facts (WordsGiven skd_s iv_s) h = h
  step_keeps setup facts (PacketReceived slot octets room) h =
      let pdu = good_pdu setup facts octets in
      let holds = received setup.link.role slot room pdu facts h in
      either_forged Holds (is_forged setup facts octets)
      (facts_received setup.link.role slot room pdu facts) holds holds
  step_keeps setup facts DataReported h = moves.reported facts.acknowledgement facts.outgoing h

  steps_keep : (setup : Setup) (facts : Facts) (steps : List Step) → Holds facts → Holds (fold (facts_after setup) facts steps)
  steps_keep setup facts [] h = h
  steps_keep setup facts (step ∷ steps) h = steps_keep setup (facts_after setup facts step) steps (step_keeps setup facts step h)

  pub past_keeps : (setup : Setup) (past : List Step) → Holds (facts_of setup past)
  unfolding facts_of
  past_keeps setup past = steps_keep setup (first_facts setup) past moves.first
