-- An end that receives a packet, and sends one, is still in its event; and an end that ended the link by it does not answer.
use Rattle.std.proofs.Common.{◌≡◌, ℕ, ◌&&◌, ◌||◌, not, Bool, true, false, List, Option, Some, None, is_none, is_some, refl, sym, ap, subst, ◌∙◌, if◌then◌else◌}
use Rattle.ble_base.specs.ErrorCodes.{instant_passed, mic_failure}
use Rattle.ble_base.specs.declared.error_codes.ErrCode.{ErrCode}
use Rattle.ble_base.specs.declared.roles.Role.{Role}
use Rattle.ble_base.specs.declared.roles.Role.TheVariants.{Central, Peripheral}
use Rattle.data_pdu.specs.declared.ctrl.Ctrl.{Ctrl}
use Rattle.data_pdu.specs.declared.ctrl.CtrlRead.{CtrlRead}
use Rattle.data_pdu.specs.declared.header.DataHeader.{DataHeader}
use Rattle.instants.specs.declared.indications.Indication.{Indication}
use Rattle.instants.specs.Track.{track_after_take}
use Rattle.link_pairs.specs.procedures.Table.{TableFacts}
use Rattle.link_pairs.specs.procedures.Taking.{facts_with, outcome_of}
use Rattle.link_pairs.specs.control_model.Control.{Control, Owes, Takes, after, ended, indicated_by, is_to_come, taken}
use Rattle.link_pairs.proofs.control_model.Calls.{any_step, took_by}
use Rattle.link_pairs.specs.link_model.Acknowledgement.{Pdu}
use Rattle.link_pairs.specs.link_model.Setup.{Setup}
use Rattle.link_pairs.specs.link_model.Controls.{is_procedure_pdu, is_quiet_now, read_of}
use Rattle.link_pairs.specs.link_model.Facts.{Facts, keyed_of}
use Rattle.link_pairs.specs.link_model.Packets.{good_pdu, is_forged}
use Rattle.link_pairs.specs.link_model.Receiving.{accepted_if, accepts, acknowledged_if, acks_control, answers_with_control, data_taken_if, ended_by_forgery, facts_before_taking, facts_forged_if, facts_hearing, facts_received, has_acknowledged, has_ended, heard_in_slot, procedures_take_if, replies_by, replies_of}
use Rattle.link_pairs.specs.link_model.Sending.{control_gone_if, takes_leave}
use Rattle.link_pairs.specs.link_model.Data.{is_data}
use Rattle.link_pairs.specs.link_model.phased_control.Phased.{Phased}
use Rattle.link_pairs.specs.link_model.phased_control.Taken.{PhasedStep, SeesAcknowledged as phased_acknowledged, Takes as phased_takes, TakesData, phased_after, phased_moved}
use Rattle.link_pairs.specs.link_model.phased_end.Taking.{drawn}
use Rattle.link_pairs.proofs.link_model.KeyedSteps.{forged_none}
use Rattle.link_pairs.proofs.link_model.Receptions.{each_packet}
use Rattle.link_pairs.proofs.joint_controls.Keeping.{asking_keeps, choice, data_keeps, took_keeps}
use Rattle.link_pairs.specs.Ends.{phased_of}
use Rattle.link_pairs.specs.Hearing.{answered, received}
use Rattle.link_pairs.specs.Turns.{sent_if}
use Rattle.link_pairs.proofs.ControlKept.{acked_kept, sent_kept}
use Rattle.link_pairs.proofs.Items.{never}
use Rattle.link_pairs.proofs.PhasedEnds.{acked_if, acked_phased, data_phased, takes_phased}

-- ---- the events that it entered

abbrev IsInEvent : Facts → Facts → Type 0
IsInEvent before now = now.control.track.entered ≡ before.control.track.entered

taken_in_event : (c : Control) (g : TableFacts) (indication : Option Indication) → (taken g None indication c).track.entered ≡ c.track.entered
taken_in_event c g None = refl
taken_in_event c g (Some indication) = by (is_to_come c.track indication)
  where
    by : (b : Bool)
        → (if b then record c { table = g; track = track_after_take c.track indication } else ended (record { 0 = instant_passed }) c).track.entered
        ≡ c.track.entered
    by true = refl
    by false = refl

takes_in_event : (c : Control) (read : CtrlRead) (slot : ℕ) (quiet : Bool) → (after (Takes read slot quiet) c).track.entered ≡ c.track.entered
takes_in_event c read slot quiet =
    any_step (λ (d : Control). d.track.entered ≡ c.track.entered) (Takes read slot quiet) c
    (took_by (λ (d : Control). d.track.entered ≡ c.track.entered) c (λ code. refl) read slot quiet
    (taken_in_event c (facts_with c.table slot (outcome_of c.table quiet read)) (indicated_by (outcome_of c.table quiet read).step.effect)))
    refl

-- so each PDU of the peer, and each PDU of the encryption, leaves it in its event
module _ (entered : ℕ) where
  abbrev At : Control → Type 0
  At c = c.track.entered ≡ entered

  owes_at : (ctrl : Ctrl) (c : Control) → At c → At (after (Owes ctrl) c)
  owes_at ctrl c at = any_step At (Owes ctrl) c at at

  takes_at : (read : CtrlRead) (slot : ℕ) (quiet : Bool) (c : Control) → At c → At (after (Takes read slot quiet) c)
  takes_at read slot quiet c at = takes_in_event c read slot quiet ∙ at

  ends_at : (code : ErrCode) (c : Control) → At c → At (ended code c)
  ends_at code c at = at

  abbrev PhasedAt : Phased → Type 0
  PhasedAt s = At s.control

  one_at : (step : PhasedStep) (s : Phased) → PhasedAt (phased_moved step s) → PhasedAt s → PhasedAt (phased_after step s)
  one_at step s next at = choice PhasedAt (is_none s.control.ends) (phased_moved step s) s next at

  acked_at : (acks : Bool) (s : Phased) → PhasedAt s → PhasedAt (acked_if acks s)
  acked_at true s at = one_at phased_acknowledged s (asking_keeps At owes_at _ _ ((acked_kept s.control).entered ∙ at)) at
  acked_at false s at = at

  procedures_at : (takes : Bool) (pdu : Pdu) (slot : ℕ) (facts : Facts) → At facts.control → At (procedures_take_if takes pdu slot facts).control
  procedures_at true pdu slot facts at =
      let response = drawn facts.encryption.response in
      subst PhasedAt (sym (takes_phased pdu slot facts))
      (one_at (phased_takes (read_of pdu) slot response) (phased_of facts)
      (took_keeps At owes_at takes_at ends_at slot response (read_of pdu) (phased_of facts) at) at)
  procedures_at false pdu slot facts at = at

  data_at : (takes : Bool) (facts : Facts) → At facts.control → At (data_taken_if takes facts).control
  data_at true facts at =
      subst PhasedAt (sym (data_phased facts))
      (one_at TakesData (phased_of facts) (data_keeps At owes_at takes_at ends_at (phased_of facts) at) at)
  data_at false facts at = at

gone_in_event : (goes : Bool) (slot : ℕ) (facts : Facts) → IsInEvent facts (control_gone_if goes slot facts)
gone_in_event true slot facts = (sent_kept facts.control slot (is_quiet_now facts)).entered
gone_in_event false slot facts = refl

hearing_in_event : (role : Role) (slot : ℕ) (room : Bool) (header : DataHeader) (pdu : Pdu) (facts : Facts)
    → IsInEvent facts (facts_hearing role slot room header pdu facts)
hearing_in_event role slot room header pdu facts =
    let entered = facts.control.track.entered in
    let heard = heard_in_slot slot header.md facts in
    let acks = has_acknowledged facts header in
    let acked = acknowledged_if acks heard in
    let now = facts_before_taking role slot header facts in
    let accepted = accepts room header pdu now in
    let given = accepted_if accepted pdu now in
    let seen : IsInEvent facts acked =
    subst (PhasedAt entered) (sym (acked_phased (acks_control acks heard) (keyed_of heard))) (acked_at entered (acks_control acks heard) (phased_of heard) refl) in
    data_at entered (accepted && is_data pdu) (procedures_take_if (accepted && is_procedure_pdu pdu) pdu slot given)
    (procedures_at entered (accepted && is_procedure_pdu pdu) pdu slot given
    (gone_in_event (answers_with_control role acked) slot acked ∙ seen))

forged_in_event : (c : Control) → (ended_by_forgery c).track.entered ≡ c.track.entered
forged_in_event c = choice (At c.track.entered) (is_none c.ends) (ended (record { 0 = mic_failure }) c) c refl refl

sent_in_event : (sends : Bool) (setup : Setup) (slot : ℕ) (facts : Facts) → IsInEvent facts (sent_if sends setup slot facts)
sent_in_event true setup slot facts = gone_in_event (takes_leave facts) slot facts
sent_in_event false setup slot facts = refl

pub answered_in_event : (setup : Setup) (slot : ℕ) (octets : List ℕ) (room : Bool) (facts : Facts)
    → (answered setup slot octets room facts).control.track.entered ≡ facts.control.track.entered
answered_in_event setup slot octets room facts =
    sent_in_event (replies_of setup facts slot octets room) setup slot (received setup slot octets room facts)
    ∙ each_packet setup slot facts (λ notes now. IsInEvent facts now) octets room refl (forged_in_event facts.control)
    (λ header pdu. hearing_in_event setup.link.role slot room header pdu facts)

-- ---- no answer

no_reply_by : (role : Role) (pdu : Option (List ℕ)) → replies_by role true pdu ≡ false
no_reply_by Central pdu = refl
no_reply_by Peripheral pdu = never (is_some pdu)

pub none_replies : (role : Role) (ended : Bool) → replies_by role ended None ≡ false
none_replies Central ended = refl
none_replies Peripheral ended = refl

pub ended_no_reply : (setup : Setup) (slot : ℕ) (octets : List ℕ) (room : Bool) (facts : Facts) (code : ErrCode)
    → (received setup slot octets room facts).control.ends ≡ Some code → replies_of setup facts slot octets room ≡ false
unfolding replies_of
ended_no_reply setup slot octets room facts code is = by (is_forged setup facts octets) refl
  where
    by : (forged : Bool) → is_forged setup facts octets ≡ forged
        → replies_by setup.link.role (has_ended (facts_received setup.link.role slot room (good_pdu setup facts octets) facts)) (good_pdu setup facts octets) ≡ false
    by true forged =
        ap (λ (pdu : Option (List ℕ)). replies_by setup.link.role (has_ended (facts_received setup.link.role slot room pdu facts)) pdu)
        (forged_none setup facts octets forged)
        ∙ none_replies setup.link.role _
    by false forged =
        let read = good_pdu setup facts octets in
        let now = facts_received setup.link.role slot room read facts in
        let ends = ap (λ (b : Bool). (facts_forged_if b now).control.ends) (sym forged) ∙ is in
        ap (λ (o : Option ErrCode). replies_by setup.link.role (not (is_none o) || now.leaving.acknowledged) read) ends
        ∙ no_reply_by setup.link.role read
