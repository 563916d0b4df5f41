-- What an end does with its data in each step, but those in which its host gives it a packet, or is told of complete ones.
use Rattle.std.proofs.Common.{ℕ, Bool, true, false, Option, Some, None, List, sym, subst}
use Rattle.std.specs.Prelude.{◌&&◌, is_some, ⊤, if◌then◌else◌}
use Rattle.ble_base.specs.declared.roles.Role.{Role}
use Rattle.data_pdu.specs.Header.{header_in}
use Rattle.journal_acks.specs.procedure_stages.Queue.{waiting_in}
use Rattle.journal_acks.specs.link_model.Acknowledgement.{Pdu, is_acked}
use Rattle.journal_acks.specs.link_model.Data.{Data, data_acked_if, is_control, is_data}
use Rattle.journal_acks.specs.link_model.Verdicts.{pdu_of}
use Rattle.journal_acks.specs.link_model.Setup.{Setup}
use Rattle.journal_acks.specs.link_model.Controls.{is_procedure_pdu, is_quiet_now, next_control}
use Rattle.journal_acks.specs.link_model.End.{facts_after}
use Rattle.journal_acks.specs.link_model.Facts.{Facts}
use Rattle.journal_acks.specs.link_model.Fixing.{data_cut, data_fixed_by, data_goes, fixed_anew, is_more_again}
use Rattle.journal_acks.specs.link_model.Packets.{good_pdu, is_forged}
use Rattle.journal_acks.specs.link_model.Payload.{payload_made}
use Rattle.journal_acks.specs.link_model.Receiving.{accepted_if, accepts, acknowledged_if, answers_with_control, data_taken_if, facts_before_taking, facts_forged_if, facts_received, has_acknowledged, heard_in_slot, procedures_take_if}
use Rattle.journal_acks.specs.link_model.Sending.{control_gone_if, data_sent_as, facts_sent, takes_leave}
use Rattle.journal_acks.specs.link_model.Step.{Step, DataGiven, DataReported, Disconnected, EventEntered, KeyAnswered, PacketReceived, PacketSent, PduFixed, ProcedureAsked, RequestAnswered, WordsGiven}
use Rattle.journal_acks.proofs.link_model.Pasts.{grows}
use Rattle.journal_acks.specs.open_links.OpenLinks.{OpenLink, facts_in, link_after}
use Rattle.journal_acks.proofs.controller_model.Asked.{IsAskedStep}
use Rattle.journal_acks.proofs.open_links.Unmoved.{LeavesData, asked_leaves, entered_leaves}

-- such a step, also one in which it receives nothing
abbrev pub IsOwnStep : Step → Type 0
IsOwnStep (DataGiven start body) = ⊥
IsOwnStep DataReported = ⊥
IsOwnStep step = ⊤

abbrev pub IsDeafStep : Step → Type 0
IsDeafStep (PacketReceived slot octets room) = ⊥
IsDeafStep step = IsOwnStep step

-- a step as a host asks for is one
pub asked_own : (step : Step) → IsAskedStep step → IsOwnStep step
asked_own (ProcedureAsked ask) asks = tt
asked_own (RequestAnswered answer) asks = tt
asked_own (KeyAnswered key slot) asks = tt
asked_own (Disconnected reason slot) asks = tt
asked_own step asks = absurd asks

-- a fact of data that is kept as a PDU is fixed, and as it is sent
pub record IsKeptBySending (P : Data → Type 0) : Type 0 where
  pub fixed : (limit : ℕ) (pdu : Pdu) (more again : Bool) (outgoing : Data) → P outgoing
      → P (record outgoing { limit = limit; fixed = pdu; more = more; more_again = again })
  pub sent : (payload : List ℕ) (is_new : Bool) (outgoing : Data) → P outgoing → P (data_sent_as payload is_new outgoing)

-- and as it is acknowledged
pub record IsKeptByEnd (P : Data → Type 0) : Type 0 where
  pub sending : IsKeptBySending P
  pub acked : (acked : Bool) (outgoing : Data) → P outgoing → P (data_acked_if acked outgoing)

module _ (P : Data → Type 0) (kept : IsKeptBySending P) where
  abbrev Holds : Facts → Type 0
  Holds facts = P facts.outgoing

  fixed_by : (control : Bool) (waiting : ℕ) (quiet goes again : Bool) (limit : ℕ) (outgoing : Data) → P outgoing
      → P (record (data_fixed_by control waiting quiet goes (record outgoing { limit = limit })) { more_again = again })
  fixed_by true waiting quiet goes again limit outgoing holds = kept.fixed limit _ _ again outgoing holds
  fixed_by false waiting quiet true again limit outgoing holds = kept.fixed limit _ _ again outgoing holds
  fixed_by false waiting quiet false again limit outgoing holds = kept.fixed limit _ _ again outgoing holds

  fixed : (stays : Bool) (facts : Facts) → Holds facts → Holds (if stays then facts else fixed_anew facts)
  fixed true facts holds = holds
  fixed false facts holds =
      fixed_by (is_some (next_control facts)) (waiting_in facts.control.table.queue) (is_quiet_now facts) (data_goes facts) (is_more_again facts)
      (data_cut facts).limit facts.outgoing holds

  gone : (goes : Bool) (slot : ℕ) (facts : Facts) → Holds facts → Holds (control_gone_if goes slot facts)
  gone true slot facts holds = kept.fixed facts.outgoing.limit _ facts.outgoing.more facts.outgoing.more_again facts.outgoing holds
  gone false slot facts holds = holds

  sent : (slot : ℕ) (facts : Facts) → Holds facts → Holds (facts_sent slot facts)
  sent slot facts holds =
      let now = control_gone_if (takes_leave facts) slot facts in
      kept.sent (payload_made now.encryption.end now.outgoing.fixed) (is_acked now.acknowledgement) now.outgoing (gone (takes_leave facts) slot facts holds)

  left : (setup : Setup) (facts : Facts) (step : Step) → LeavesData step → Holds facts → Holds (facts_after setup facts step)
  left setup facts step leaves holds = subst P (sym (leaves.outgoing setup facts)) holds

  deaf_keeps : (setup : Setup) (facts : Facts) (step : Step) → IsDeafStep step → Holds facts → Holds (facts_after setup facts step)
  deaf_keeps setup facts (DataGiven start body) deaf holds = absurd deaf
  deaf_keeps setup facts (ProcedureAsked ask) deaf holds = left setup facts (ProcedureAsked ask) (asked_leaves ask) holds
  deaf_keeps setup facts (RequestAnswered answer) deaf holds = holds
  deaf_keeps setup facts (KeyAnswered key slot) deaf holds = holds
  deaf_keeps setup facts (Disconnected reason slot) deaf holds = holds
  deaf_keeps setup facts (EventEntered slot) deaf holds = left setup facts (EventEntered slot) (entered_leaves slot) holds
  deaf_keeps setup facts PduFixed deaf holds = fixed (is_control facts.outgoing.fixed) facts holds
  deaf_keeps setup facts (PacketSent slot) deaf holds = sent slot facts holds
  deaf_keeps setup facts (WordsGiven skd_s iv_s) deaf holds = holds
  deaf_keeps setup facts (PacketReceived slot octets room) deaf holds = absurd deaf
  deaf_keeps setup facts DataReported deaf holds = absurd deaf

  pub deaf_link_keeps : (step : Step) (link : OpenLink) → IsDeafStep step → P (facts_in link).outgoing → P (facts_in (link_after step link)).outgoing
  deaf_link_keeps step link deaf holds =
      subst (λ (facts : Facts). P facts.outgoing) (sym (grows link.setup link.past step)) (deaf_keeps link.setup (facts_in link) step deaf holds)

module _ (P : Data → Type 0) (kept : IsKeptByEnd P) where
  abbrev HoldsIn : Facts → Type 0
  HoldsIn facts = P facts.outgoing

  taken : (takes : Bool) (pdu : Pdu) (slot : ℕ) (facts : Facts) → HoldsIn facts → HoldsIn (procedures_take_if takes pdu slot facts)
  taken true pdu slot facts holds = holds
  taken false pdu slot facts holds = holds

  taken_data : (takes : Bool) (facts : Facts) → HoldsIn facts → HoldsIn (data_taken_if takes facts)
  taken_data true facts holds = holds
  taken_data false facts holds = holds

  forged : (is_forged : Bool) (facts : Facts) → HoldsIn facts → HoldsIn (facts_forged_if is_forged facts)
  forged true facts holds = holds
  forged false facts holds = holds

  received : (role : Role) (slot : ℕ) (room : Bool) (found : Option (List ℕ)) (facts : Facts) → HoldsIn facts
      → HoldsIn (facts_received role slot room found facts)
  received role slot room None facts holds = holds
  received role slot room (Some octets) facts holds =
      let header = header_in octets in
      let pdu = pdu_of octets in
      let acked = has_acknowledged facts header in
      let seen = acknowledged_if acked (heard_in_slot slot header.md facts) in
      let now = facts_before_taking role slot header facts in
      let accepted = accepts room header pdu now in
      let takes = accepted && is_procedure_pdu pdu in
      taken_data (accepted && is_data pdu) (procedures_take_if takes pdu slot (accepted_if accepted pdu now))
      (taken takes pdu slot (accepted_if accepted pdu now)
      (gone P kept.sending (answers_with_control role seen) slot seen (kept.acked (acked && is_data facts.acknowledgement.last) facts.outgoing holds)))

  pub end_keeps : (setup : Setup) (facts : Facts) (step : Step) → IsOwnStep step → P facts.outgoing → P (facts_after setup facts step).outgoing
  end_keeps setup facts (PacketReceived slot octets room) own holds =
      let role = setup.link.role in
      let pdu = good_pdu setup facts octets in
      forged (is_forged setup facts octets) (facts_received role slot room pdu facts) (received role slot room pdu facts holds)
  end_keeps setup facts (DataGiven start body) own holds = absurd own
  end_keeps setup facts step own holds = deaf_keeps P kept.sending setup facts step own holds

  pub link_keeps : (step : Step) (link : OpenLink) → IsOwnStep step → P (facts_in link).outgoing → P (facts_in (link_after step link)).outgoing
  link_keeps step link own holds =
      subst (λ (facts : Facts). P facts.outgoing) (sym (grows link.setup link.past step)) (end_keeps link.setup (facts_in link) step own holds)
