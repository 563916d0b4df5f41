-- A rejection that waits at a central goes before all other control PDUs.
use Rattle.std.proofs.Common.{◌≡◌, ℕ, ◌+◌, ◌&&◌, not, Bool, true, false, List, [], ◌∷◌, Option, Some, None, is_none, refl, ap, sym, ◌∙◌, subst, if◌then◌else◌}
use Rattle.std.proofs.lemmas.Bool.{and_parts}
use Rattle.ble_base.specs.ErrorCodes.{mic_failure}
use Rattle.ble_base.specs.declared.error_codes.ErrCode.{ErrCode}
use Rattle.ble_base.specs.declared.notes.Note.TheVariants.{Sent}
use Rattle.ble_base.specs.declared.roles.Role.{Role}
use Rattle.ble_base.specs.declared.roles.Role.TheVariants.{Central}
use Rattle.data_pdu.specs.declared.ctrl.Ctrl.{Ctrl}
use Rattle.data_pdu.specs.declared.ctrl.Ctrl.TheVariants.{RejectExtInd}
use Rattle.data_pdu.specs.declared.ctrl.CtrlRead.{CtrlRead}
use Rattle.data_pdu.specs.declared.header.DataHeader.{DataHeader}
use Rattle.data_pdu.specs.Header.{header_in}
use Rattle.data_pdu.specs.Layouts.{written}
use Rattle.wire_fields.specs.Field.{little_endian}
use Rattle.instants.specs.Track.{event_of}
use Rattle.joint_collisions.proofs.RejectedNext.{HeadIs, head_kept}
use Rattle.joint_laws.specs.joint_controls.Joint.{HasKey, HasNoKey}
use Rattle.joint_laws.proofs.joint_controls.EachEnd.{Keeps, acks_kept, enters_kept, hosts_kept}
use Rattle.joint_laws.proofs.joint_controls.Keeping.{choice as either_way, data_keeps, took_keeps}
use Rattle.link_pairs.specs.control_model.Control.{Control, ended}
use Rattle.link_pairs.specs.procedures.Queue.{next_other}
use Rattle.link_pairs.specs.procedures.Table.{TableFacts}
use Rattle.link_pairs.specs.procedure_stages.declared.stages.Progress.{Progress}
use Rattle.link_pairs.specs.procedure_stages.Closing.{is_disconnecting}
use Rattle.link_pairs.specs.procedure_stages.Queue.{QueueFacts, is_past_instant, next_after_rejections, next_by, next_disconnect, next_draft}
use Rattle.link_pairs.specs.procedure_values.declared.asks.Ask.{Ask}
use Rattle.link_pairs.specs.procedure_values.declared.drafts.Draft.{Draft}
use Rattle.link_pairs.specs.procedure_values.declared.drafts.Outgoing.TheVariants.{Nothing, Other, Rejection}
use Rattle.link_pairs.specs.procedure_values.declared.drafts.Rejection.{Rejection as TheRejection}
use Rattle.link_pairs.specs.procedure_values.Drafts.{ctrl_of_outgoing, waits_for_instant}
use Rattle.link_pairs.specs.link_model.keyed_control.declared.material.KeyMaterial.{KeyMaterial}
use Rattle.link_pairs.specs.link_model.keyed_control.Keyed.{Keyed}
use Rattle.link_pairs.specs.link_model.keyed_control.KeyedSteps.{keyed_after, with_phased, Takes as KeyedTakes}
use Rattle.link_pairs.specs.link_model.phased_control.Phased.{Phased}
use Rattle.link_pairs.specs.link_model.phased_control.Taken.{Enters, GivesKey, LacksKey, PhasedStep, Response, SeesAcknowledged, Takes, TakesData, phased_moved}
use Rattle.link_pairs.specs.link_model.phased_end.Taking.{drawn}
use Rattle.link_pairs.specs.link_model.Acknowledgement.{Pdu, is_acked}
use Rattle.link_pairs.specs.link_model.Controls.{goes_on, is_procedure_pdu, is_quiet_now, next_control, pdu_fixed, pdu_of_control, read_of}
use Rattle.link_pairs.specs.link_model.Data.{is_control, is_data, is_empty, numbered}
use Rattle.link_pairs.specs.link_model.End.{facts_after}
use Rattle.link_pairs.specs.link_model.Entering.{facts_entered_if}
use Rattle.link_pairs.specs.link_model.Facts.{Facts, keyed_of}
use Rattle.link_pairs.specs.link_model.Fixing.{fixed_anew}
use Rattle.link_pairs.specs.link_model.Hosts.{asked_unless, is_to_come, key_step}
use Rattle.link_pairs.specs.link_model.Packets.{good_pdu, is_forged}
use Rattle.link_pairs.specs.link_model.Receiving.{accepted_if, accepts, acks_control, data_taken_if, facts_before_taking, facts_forged_if, facts_hearing, facts_received, has_acknowledged, heard_in_slot, keyed_acked_if, procedures_take_if}
use Rattle.link_pairs.specs.link_model.Sending.{control_gone_if, fixed_sent, sent_notes, sent_notes_if, takes_leave}
use Rattle.link_pairs.specs.link_model.Setup.{Setup}
use Rattle.link_pairs.specs.link_model.Step.{Step, DataGiven, DataReported, Disconnected, EventEntered, KeyAnswered, PacketReceived, PacketSent, PduFixed, ProcedureAsked, RequestAnswered, WordsGiven}
use Rattle.link_pairs.specs.link_model.Verdicts.{pdu_of}
use Rattle.run_collisions.specs.Prevailing.{next_outgoing}
use Rattle.run_collisions.specs.Waiting.{facts_from, sends_control, sends_no_control}

-- ---- what goes next is a rejection where that is the first of them

module _ (x : TheRejection) where
  no_disconnect : (code : Option ErrCode) → next_disconnect code ≡ Rejection x → ⊥
  no_disconnect None is = absurd (cc)
  no_disconnect (Some code) is = absurd (cc)

  no_draft_if : (waits : Bool) (draft : Draft) → (if waits then Nothing else Other draft) ≡ Rejection x → ⊥
  no_draft_if true draft is = absurd (cc)
  no_draft_if false draft is = absurd (cc)

  no_draft : (progress : Progress) (event : ℕ) (drafts : List Draft) → next_draft progress event drafts ≡ Rejection x → ⊥
  no_draft progress event [] is = absurd (cc)
  no_draft progress event (draft ∷ drafts) is = no_draft_if (waits_for_instant draft && not (is_past_instant progress event)) draft is

  none_after : (ends : Bool) (progress : Progress) (event : ℕ) (queue : QueueFacts) → next_after_rejections ends progress event queue ≡ Rejection x → ⊥
  none_after true progress event queue is = no_disconnect queue.disconnect is
  none_after false progress event queue is = no_draft progress event queue.drafts is

  head_by : (f : TableFacts) (event : ℕ) (quiet : Bool) (rejections : List TheRejection) → f.queue.rejections ≡ rejections
      → next_by rejections (next_other f event quiet) ≡ Rejection x → HeadIs x f.queue
  head_by f event quiet [] same is = absurd (none_after (is_disconnecting f.closing && quiet) f.progress event f.queue is)
  head_by f event quiet (first ∷ more) same is = (more, same ∙ ap (λ (r : TheRejection). r ∷ more) (by first is))
    where
      by : (r : TheRejection) → Rejection r ≡ Rejection x → r ≡ x
      by r is = cc

  abbrev HasHead : Facts → Type 0
  HasHead facts = HeadIs x facts.control.table.queue

  head_of : (facts : Facts) → next_outgoing facts ≡ Rejection x → HasHead facts
  head_of facts is = head_by facts.control.table (event_of facts.control.track) (is_quiet_now facts) facts.control.table.queue.rejections refl is

  goes_next : (facts : Facts) → HasHead facts → next_outgoing facts ≡ Rejection x
  goes_next facts (more, is) =
      ap (λ (xs : List TheRejection). next_by xs (next_other facts.control.table (event_of facts.control.track) (is_quiet_now facts))) is

  -- ---- it stays the first in each step in which no control PDU is sent

  abbrev P : Control → Type 0
  P c = HeadIs x c.table.queue

  abbrev kept : Keeps P
  kept = head_kept x

  -- the part with the keys has the same procedures
  as_phased : (goes : Bool) (step : PhasedStep) (material : KeyMaterial) (k : Keyed) → P (if goes then phased_moved step k.phased else k.phased).control
      → P (if goes then with_phased step material k else k).phased.control
  as_phased true step material k h = h
  as_phased false step material k h = h

  key_head : (key : Option (List ℕ)) (k : Keyed) → P k.phased.control → P (keyed_after (key_step key) k).phased.control
  key_head None k h = as_phased (is_none k.phased.control.ends) LacksKey _ k (hosts_kept P kept HasNoKey k.phased h)
  key_head (Some ltk) k h = as_phased (is_none k.phased.control.ends) GivesKey _ k (hosts_kept P kept HasKey k.phased h)

  read_head : (read : CtrlRead) (slot : ℕ) (response : Response) (k : Keyed) → P k.phased.control → P (keyed_after (KeyedTakes read slot response) k).phased.control
  read_head read slot response k h =
      as_phased (is_none k.phased.control.ends) (Takes read slot response) _ k
      (either_way (λ (s : Phased). P s.control) (is_none k.phased.control.ends) (phased_moved (Takes read slot response) k.phased) k.phased
      (took_keeps P kept.owes kept.takes kept.ends slot response read k.phased h) h)

  asked_head : (comes : Bool) (ask : Ask) (facts : Facts) → HasHead facts → HasHead (asked_unless comes ask facts)
  asked_head true ask facts h = h
  asked_head false ask facts h = (head_kept x).asks ask facts.control h

  entered_head : (goes : Bool) (setup : Setup) (slot : ℕ) (facts : Facts) → HasHead facts → HasHead (facts_entered_if goes setup slot facts)
  entered_head true setup slot facts h =
      as_phased (is_none facts.control.ends) (Enters slot) _ (keyed_of facts) (enters_kept P kept slot (keyed_of facts).phased h)
  entered_head false setup slot facts h = h

  fixed_head : (stays : Bool) (facts : Facts) → HasHead facts → HasHead (if stays then facts else fixed_anew facts)
  fixed_head true facts h = h
  fixed_head false facts h = h

  sent_head : (leaves : Bool) (slot : ℕ) (facts : Facts) → not leaves ≡ true → HasHead facts → HasHead (fixed_sent slot (control_gone_if leaves slot facts))
  sent_head true slot facts none h = absurd (cc)
  sent_head false slot facts none h = h

  acked_head : (acked : Bool) (k : Keyed) → P k.phased.control → P (keyed_acked_if acked k).phased.control
  acked_head true k h = as_phased (is_none k.phased.control.ends) SeesAcknowledged _ k (acks_kept P kept k.phased h)
  acked_head false k h = h

  take_head : (takes : Bool) (pdu : Pdu) (slot : ℕ) (facts : Facts) → HasHead facts → HasHead (procedures_take_if takes pdu slot facts)
  take_head true pdu slot facts h = read_head (read_of pdu) slot (drawn facts.encryption.response) (keyed_of facts) h
  take_head false pdu slot facts h = h

  data_head : (takes : Bool) (facts : Facts) → HasHead facts → HasHead (data_taken_if takes facts)
  data_head true facts h =
      as_phased (is_none facts.control.ends) TakesData _ (keyed_of facts)
      (either_way (λ (s : Phased). P s.control) (is_none facts.control.ends) (phased_moved TakesData (keyed_of facts).phased) (keyed_of facts).phased
      (data_keeps P kept.owes kept.takes kept.ends (keyed_of facts).phased h) h)
  data_head false facts h = h

  forged_head : (forged : Bool) (facts : Facts) → HasHead facts → HasHead (facts_forged_if forged facts)
  forged_head true facts h = either_way P (is_none facts.control.ends) (ended (record { 0 = mic_failure }) facts.control) facts.control (kept.ends (record { 0 = mic_failure }) facts.control h) h
  forged_head false facts h = h

  hearing_head : (slot : ℕ) (room : Bool) (header : DataHeader) (pdu : Pdu) (facts : Facts) → HasHead facts
      → HasHead (facts_hearing Central slot room header pdu facts)
  hearing_head slot room header pdu facts h =
      let now = facts_before_taking Central slot header facts in
      let accepted = accepts room header pdu now in
      data_head (accepted && is_data pdu) (procedures_take_if (accepted && is_procedure_pdu pdu) pdu slot (accepted_if accepted pdu now))
      (take_head (accepted && is_procedure_pdu pdu) pdu slot (accepted_if accepted pdu now)
      (acked_head (acks_control (has_acknowledged (heard_in_slot slot header.md facts) header) (heard_in_slot slot header.md facts)) (keyed_of facts) h))

  received_head : (slot : ℕ) (room : Bool) (pdu : Option (List ℕ)) (facts : Facts) → HasHead facts → HasHead (facts_received Central slot room pdu facts)
  received_head slot room None facts h = h
  received_head slot room (Some octets) facts h = hearing_head slot room (header_in octets) (pdu_of octets) facts h

  module _ (setup : Setup) (is_central : setup.link.role ≡ Central) where
    step_head : (step : Step) (facts : Facts) → not (sends_control facts step) ≡ true → HasHead facts → HasHead (facts_after setup facts step)
    step_head (DataGiven start body) facts none h = h
    step_head (ProcedureAsked ask) facts none h = asked_head (is_to_come ask facts) ask facts h
    step_head (RequestAnswered answer) facts none h = (head_kept x).answers answer facts.control h
    step_head (KeyAnswered key slot) facts none h = key_head key (keyed_of facts) h
    step_head (Disconnected reason slot) facts none h = (head_kept x).disconnects reason facts.control h
    step_head (EventEntered slot) facts none h = entered_head (goes_on facts) setup slot facts h
    step_head PduFixed facts none h = fixed_head (is_control facts.outgoing.fixed) facts h
    step_head (PacketSent slot) facts none h = sent_head (takes_leave facts) slot facts none h
    step_head (WordsGiven skd_s iv_s) facts none h = h
    step_head (PacketReceived slot octets room) facts none h =
        let pdu = good_pdu setup facts octets in
        forged_head (is_forged setup facts octets) (facts_received setup.link.role slot room pdu facts)
        (subst (λ (role : Role). HasHead (facts_received role slot room pdu facts)) (sym is_central) (received_head slot room pdu facts h))
    step_head DataReported facts none h = h

    steps_head : (steps : List Step) (facts : Facts) → sends_no_control setup facts steps ≡ true → HasHead facts → HasHead (facts_from setup facts steps)
    steps_head [] facts none h = h
    steps_head (step ∷ steps) facts none h =
        let both = and_parts (not (sends_control facts step)) (sends_no_control setup (facts_after setup facts step) steps) none in
        steps_head steps (facts_after setup facts step) both.1 (step_head step facts both.0 h)

    pub waits : (facts : Facts) (steps : List Step) → next_outgoing facts ≡ Rejection x → sends_no_control setup facts steps ≡ true
        → next_outgoing (facts_from setup facts steps) ≡ Rejection x
    waits facts steps is none = goes_next (facts_from setup facts steps) (steps_head steps facts none (head_of facts is))

  -- ---- the control PDU that is sent then

  abbrev rejected : Ctrl
  rejected = RejectExtInd x.opcode x.code.0

  next_is : (facts : Facts) → next_outgoing facts ≡ Rejection x → goes_on facts ≡ true → next_control facts ≡ Some rejected
  next_is facts is goes =
      (λ i. if goes i then ctrl_of_outgoing (is i) (event_of facts.control.track) facts.control.track.params.latency else None)

  fixed_is : (facts : Facts) → next_outgoing facts ≡ Rejection x → goes_on facts ≡ true → facts.fixes_control ≡ true
      → pdu_fixed facts ≡ pdu_of_control (Some rejected)
  fixed_is facts is goes fixes = λ i. if fixes i then pdu_of_control (next_is facts is goes i) else facts.outgoing.fixed

  -- it has an octet at least
  not_empty : not (is_empty (pdu_of_control (Some rejected))) ≡ true
  unfolding little_endian
  not_empty = refl

  pub goes_out : (setup : Setup) (facts : Facts) → next_outgoing facts ≡ Rejection x → goes_on facts ≡ true → takes_leave facts ≡ true
      → sent_notes setup facts
      ≡ Sent setup.link.handle (numbered facts.acknowledgement.sent + 1) 3 (record { items = written rejected }) ∷ []
  goes_out setup facts is goes leaves =
      let both = and_parts (is_acked facts.acknowledgement) facts.fixes_control leaves in
      let fixed = fixed_is facts is goes both.1 in
      (λ i. sent_notes_if (both.0 i && not (is_empty (fixed i))) setup.link.handle (numbered facts.acknowledgement.sent) (fixed i))
      ∙ ap (λ (b : Bool). sent_notes_if b setup.link.handle (numbered facts.acknowledgement.sent) (pdu_of_control (Some rejected))) not_empty
