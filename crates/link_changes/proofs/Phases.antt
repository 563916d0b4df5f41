-- What is kept by the control part of an end in each of its steps, in all phases of encryption.
use Rattle.std.proofs.Common.{◌≡◌, ℕ, Bool, true, false, ◌&&◌, if◌then◌else◌, Option, Some, None, refl, sym, ap, subst}
use Rattle.ble_base.specs.ErrorCodes.{memory_capacity_exceeded, mic_failure, pin_or_key_missing}
use Rattle.ble_base.specs.declared.error_codes.ErrCode.{ErrCode}
use Rattle.ble_base.specs.declared.roles.Role.{Role}
use Rattle.ble_base.specs.declared.roles.Role.TheVariants.{Central, Peripheral}
use Rattle.data_pdu.specs.declared.ctrl.Ctrl.{Ctrl}
use Rattle.data_pdu.specs.declared.ctrl.Ctrl.TheVariants.{ChannelMapInd, ConnectionUpdateInd, EncReq, PauseEncReq, PauseEncRsp, RejectExtInd, StartEncReq, StartEncRsp, TerminateInd}
use Rattle.data_pdu.specs.declared.ctrl.CtrlRead.{CtrlRead}
use Rattle.data_pdu.specs.declared.ctrl.CtrlRead.TheVariants.{Bare, Known, Unknown}
use Rattle.link_model.specs.enc_phase.declared.classes.PduClass.{PduClass}
use Rattle.link_model.specs.enc_phase.declared.classes.PduClass.TheVariants.{Data, Request}
use Rattle.link_model.specs.enc_phase.declared.facts.PhaseFacts.{PhaseFacts}
use Rattle.link_model.specs.enc_phase.declared.facts.PhaseFacts.TheVariants.{Clear}
use Rattle.link_model.specs.enc_phase.declared.facts.Transition.TheVariants.{Ask as ask_transition, Confirm, Pause, Refuse, Unlock}
use Rattle.link_model.specs.enc_phase.Phases.{is_asked, may_follow}
use Rattle.link_model.specs.enc_phase.Taking.{allows, is_unknown}
use Rattle.link_model.specs.procedure_stages.Opcodes.{enc_req_opcode}
use Rattle.link_model.specs.procedures.Beginning.{begin_step}
use Rattle.link_model.specs.control_model.Control.{Control, Enters as control_enters, Owes, SeesAcknowledged as control_sees_acknowledged, Takes as control_takes, after, after_all, ended}
use Rattle.link_model.specs.phased_control.Phased.{Phased, ask_begun, asks_again, is_encrypt, is_open_now, is_quiet_now, table_entered}
use Rattle.link_model.specs.phased_control.Steps.{ctrl_if, first_owed_if, owed_acknowledged, owed_entering, owed_steps, owed_without_key, read_answer, seen_by_procedures}
use Rattle.link_model.specs.phased_control.Taken.{Response, Enters, GivesKey, LacksKey, SeesAcknowledged, TakesData, answered_kept, ciphered, class_of_read, ended_with, keeps_class, phased_moved, role_now, seen_as, seen_if, took}
use Rattle.link_model.proofs.phased_end.keyed_control.phased_control.Answering.{answers}
use Rattle.link_model.proofs.phased_end.keyed_control.phased_control.Moving.{open_moves, same_kept}
use Rattle.link_model.proofs.phased_end.keyed_control.phased_control.Taking.{handed_ways, took_ways}
use Rattle.link_model.proofs.phased_end.keyed_control.phased_control.Unknown.{MayBeUnknown, unknown_is}
use Rattle.link_changes.specs.Noted.{indication_read}
use Rattle.link_changes.proofs.Readable.{IsOwed}
use Rattle.link_changes.proofs.Requests.{AreOwed, asked_owed}

-- ---- what is owed is a PDU of an encryption

owed_if : (b : Bool) (ctrl : Ctrl) → IsOwed ctrl → AreOwed (ctrl_if b ctrl)
owed_if true ctrl is = is
owed_if false ctrl is = tt

entering_owed : (b : Bool) (phase : PhaseFacts) (asked : Option Ctrl) → AreOwed asked → AreOwed (first_owed_if b phase asked)
entering_owed true Clear asked are = are
entering_owed true phase asked are = tt
entering_owed false phase asked are = tt

acknowledged_owed : (b : Bool) (request : Option Ctrl) → AreOwed request → AreOwed (if b then request else None)
acknowledged_owed true request are = are
acknowledged_owed false request are = tt

lacking_owed : (b : Bool) → IsOwed (if b then RejectExtInd enc_req_opcode pin_or_key_missing else TerminateInd pin_or_key_missing)
lacking_owed true = tt
lacking_owed false = tt

answer_owed : (role : Role) (response : Response) (read : CtrlRead) (phase : PhaseFacts) → AreOwed (read_answer role response read phase)
answer_owed Central response (Known StartEncReq) phase = owed_if (is_asked phase) StartEncRsp tt
answer_owed Central response (Known PauseEncRsp) phase = owed_if (may_follow Unlock phase) PauseEncRsp tt
answer_owed Central response (Known ctrl) phase = tt
answer_owed Peripheral response (Known (EncReq rand ediv skd_m iv_m)) phase = owed_if (may_follow ask_transition phase) _ tt
answer_owed Peripheral response (Known PauseEncReq) phase = owed_if (may_follow Pause phase) PauseEncRsp tt
answer_owed Peripheral response (Known StartEncRsp) phase = owed_if (may_follow Confirm phase) StartEncRsp tt
answer_owed Peripheral response (Known ctrl) phase = tt
answer_owed role response (Unknown opcode) phase = tt
answer_owed role response Bare phase = tt

-- ---- a PDU without a meaning in a phase is no indication

no_meaning : (ctrl : Ctrl) → MayBeUnknown ctrl → indication_read (Known ctrl) ≡ None
no_meaning (ConnectionUpdateInd win_size win_offset interval latency timeout instant) may = absurd may
no_meaning (ChannelMapInd map instant) may = absurd may
no_meaning ctrl may = refl

pub seen_says : (read : CtrlRead) (s : Phased) → indication_read (seen_as read s) ≡ indication_read read
seen_says (Known ctrl) s = by (is_unknown s.phase (role_now s) (class_of_read (Known ctrl))) refl
  where
    by : (b : Bool) → is_unknown s.phase (role_now s) (class_of_read (Known ctrl)) ≡ b → indication_read (seen_if b (Known ctrl)) ≡ indication_read (Known ctrl)
    by true is = sym (no_meaning ctrl (unknown_is s.phase (role_now s) (Known ctrl) is))
    by false is = refl
seen_says (Unknown opcode) s = by (is_unknown s.phase (role_now s) (class_of_read (Unknown opcode)))
  where
    by : (b : Bool) → indication_read (seen_if b (Unknown opcode)) ≡ None
    by true = refl
    by false = refl
seen_says Bare s = by (is_unknown s.phase (role_now s) (class_of_read Bare))
  where
    by : (b : Bool) → indication_read (seen_if b Bare) ≡ None
    by true = refl
    by false = refl

keeps_at : (pdu : PduClass) (role : Role) (quiet : Bool) → keeps_class pdu role quiet ≡ true → role ≡ Central
keeps_at Request Central quiet is = refl
keeps_at Request Peripheral quiet is = absurd (cc)
keeps_at pdu role quiet is = absurd (cc)

-- ---- what holds of the control part after its own step, and that a PDU of an encryption leaves, holds then

module _ (P : Control → Type 0) (owes : (ctrl : Ctrl) (c : Control) → IsOwed ctrl → P c → P (after (Owes ctrl) c)) where
  owed_then : (some : Option Ctrl) (c : Control) → AreOwed some → P c → P (after_all (owed_steps some) c)
  owed_then None c are h = h
  owed_then (Some ctrl) c are h = owes ctrl c are h

  pub entered_by : (slot : ℕ) (s : Phased) → P (after (control_enters slot (is_quiet_now s)) s.control) → P (phased_moved (Enters slot) s).control
  entered_by slot s h =
      subst P (sym (open_moves (Enters slot) s))
      (owed_then (owed_entering slot s) (after (control_enters slot (is_quiet_now s)) s.control)
      (entering_owed (is_encrypt (begin_step (table_entered s) slot (is_quiet_now s)).1) s.phase _ (asked_owed (ask_begun (table_entered s) (is_quiet_now s)))) h)

  pub acknowledged_by : (s : Phased) → AreOwed s.request → P (after control_sees_acknowledged s.control) → P (phased_moved SeesAcknowledged s).control
  acknowledged_by s are h =
      subst P (sym (open_moves SeesAcknowledged s))
      (owed_then (owed_acknowledged s) (after control_sees_acknowledged s.control) (acknowledged_owed (asks_again s) s.request are) h)

  pub given_by : (s : Phased) → P s.control → P (phased_moved GivesKey s).control
  given_by s h =
      subst P (sym (open_moves GivesKey s))
      (owed_then (ctrl_if (s.asks_key && is_open_now s) StartEncReq) s.control (owed_if (s.asks_key && is_open_now s) StartEncReq tt) h)

  pub lacking_by : (s : Phased) → P s.control → P (phased_moved LacksKey s).control
  lacking_by s h =
      subst P (sym (open_moves LacksKey s))
      (owed_then (ctrl_if (s.asks_key && is_open_now s) (owed_without_key s.phase)) s.control
      (owed_if (s.asks_key && is_open_now s) (owed_without_key s.phase) (lacking_owed (may_follow Refuse s.phase))) h)

  -- a PDU of the peer ends the link by the phase, or is kept by a central, or is seen by the procedures, and then perhaps
  -- the one that was kept
  module _ (slot : ℕ) (response : Response) (read : CtrlRead) (s : Phased) (over : (code : ErrCode) → P (ended code s.control)) (keeps : role_now s ≡ Central → P s.control)
      (sees : P (after (control_takes (seen_as read s) slot (is_quiet_now s)) s.control))
      (answers_kept : (ctrl : Ctrl) (c : Control) → s.kept ≡ Some ctrl → P c → P (after (control_takes (Known ctrl) slot true) c)) where
    abbrev seen : Phased
    seen = seen_by_procedures read slot s

    abbrev answered : Phased
    answered = ciphered response read seen

    answered_then : P answered.control
    answered_then =
        subst P (sym (ap (λ (t : Phased). t.control) (answers seen response read)))
        (owed_then (read_answer (role_now seen) response read seen.phase) seen.control (answer_owed (role_now seen) response read seen.phase) sees)

    kept_then : (kept : Option Ctrl) → s.kept ≡ kept → P (answered_kept slot kept answered).control
    kept_then None is = answered_then
    kept_then (Some ctrl) is = answers_kept ctrl answered.control is answered_then

    pub takes_by : P (took slot response read s).control
    takes_by =
        took_ways (λ (t : Phased). P t.control) slot response read s (λ may. over (record { 0 = mic_failure }))
        (λ may. λ keeps_it. keeps (keeps_at (class_of_read read) (role_now s) (is_quiet_now s) keeps_it))
        (λ may. λ keeps_it. λ full. over (record { 0 = memory_capacity_exceeded }))
        (λ may. λ keeps_it. λ full. handed_ways (λ (t : Phased). P t.control) slot response read s (λ code. λ ends. sees) (λ lasts. λ loud. answered_then)
        (λ lasts. λ quiet. kept_then answered.kept (sym (same_kept response read seen))))

-- data ends the link by the phase, or leaves it
pub data_by : (P : Control → Type 0) (s : Phased) → ((code : ErrCode) → P (ended code s.control)) → P s.control → P (phased_moved TakesData s).control
data_by P s over h = by (allows s.phase (role_now s) Data)
  where
    by : (b : Bool) → P (if b then s else ended_with mic_failure s).control
    by true = h
    by false = over (record { 0 = mic_failure })
