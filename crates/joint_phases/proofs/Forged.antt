-- No step of a joint run that may come ends the link by a message integrity failure.
use Rattle.std.proofs.Common.{◌≡◌, ℕ, Bool, true, false, ◌&&◌, Option, Some, None, is_none, refl, if◌then◌else◌}
use Rattle.ble_base.specs.ErrorCodes.{memory_capacity_exceeded, mic_failure, pin_or_key_missing}
use Rattle.ble_base.specs.declared.roles.Role.{Role}
use Rattle.ble_base.specs.declared.roles.Role.TheVariants.{Central as central_role, Peripheral as peripheral_role}
use Rattle.data_pdu.specs.declared.ctrl.Ctrl.{Ctrl}
use Rattle.data_pdu.specs.declared.ctrl.Ctrl.TheVariants.{EncReq, PauseEncReq, PauseEncRsp, RejectExtInd, StartEncReq, StartEncRsp, TerminateInd}
use Rattle.data_pdu.specs.declared.ctrl.CtrlRead.{CtrlRead}
use Rattle.data_pdu.specs.declared.ctrl.CtrlRead.TheVariants.{Known}
use Rattle.phase_pairs.specs.enc_phase.declared.classes.PduClass.{PduClass}
use Rattle.phase_pairs.specs.enc_phase.declared.classes.PduClass.TheVariants.{Data as data_class, Refusal}
use Rattle.phase_pairs.specs.enc_phase.declared.facts.PhaseFacts.{PhaseFacts}
use Rattle.phase_pairs.specs.enc_phase.declared.facts.PhaseFacts.TheVariants.{Clear as clear_phase, Secure}
use Rattle.phase_pairs.specs.enc_phase.declared.facts.Transition.{Transition}
use Rattle.phase_pairs.specs.enc_phase.declared.facts.Transition.TheVariants.{Ask as AskTransition, Confirm, Pause, Refuse as RefuseTransition, Unlock}
use Rattle.phase_pairs.specs.enc_phase.Phases.{is_asked, may_follow, phase_after, phase_starting}
use Rattle.joint_controls.specs.procedure_stages.Opcodes.{enc_req_opcode}
use Rattle.joint_controls.specs.table_laws.Encrypting.{has_encryption}
use Rattle.phase_pairs.specs.enc_phase.Taking.{allows, ctrl_class}
use Rattle.instants.specs.declared.indications.Indication.{Indication}
use Rattle.joint_controls.specs.procedure_stages.Kinds.{role_of}
use Rattle.joint_controls.specs.control_model.Control.{Control, Step, Answers as control_answers, Asks as control_asks, Disconnects as control_disconnects, Enters as control_enters, Owes, SeesAcknowledged as control_acked, Sends as control_sends, Takes as control_takes, after, following, goes_out, moved, table_if}
use Rattle.joint_controls.specs.control_model.Control as control
use Rattle.joint_controls.specs.phased_control.Phased.{Phased, asking_if, asks_again, encrypting, encrypting_if, is_open_now, is_quiet_now, key_given, key_lacking, refused_if, with_owed, with_owed_if, with_step}
use Rattle.joint_controls.specs.phased_control.Taken.{PhasedStep, Response, Answers, Asks, Disconnects, Enters, GivesKey, LacksKey, SeesAcknowledged, Sends, Takes, TakesData, answered_if_quiet, answered_kept, ciphered, ciphered_at, ciphered_at_central, ciphered_at_peripheral, does_keep, ended_with, goes_on, handed_on, is_allowed, keeping, knowing, lacks_room_now, moved_if, moved_to, phased_after, phased_moved, refused_by, response_ctrl, role_now, seen_as, took, took_allowed, took_data, with_phase_taking}
use Rattle.joint_phases.specs.Agreement.{is_integrity_failure}
use Rattle.joint_phases.proofs.Codes.{took_spares}

-- ---- the control part

abbrev SparesEnd : Control → Type 0
SparesEnd c = is_integrity_failure c.ends ≡ false

end_if : (b : Bool) (c d : Control) → SparesEnd c → SparesEnd d → SparesEnd (if b then c else d)
end_if true c d hc hd = hc
end_if false c d hc hd = hd

followed : (role : Role) (indication : Option Indication) (c : Control) → SparesEnd c → SparesEnd (following role indication c)
followed central_role (Some indication) c h = h
followed central_role None c h = h
followed peripheral_role indication c h = h

moved_spares : (step : Step) (c : Control) → SparesEnd c → SparesEnd (moved step c)
moved_spares (control_enters slot quiet) c h = h
moved_spares (control_asks ask) c h = h
moved_spares (control_answers answer) c h = end_if _ (record c { table = _ }) c h h
moved_spares (control_disconnects reason) c h = end_if _ (record c { table = _ }) c h h
moved_spares (control_sends slot quiet) c h =
    end_if (goes_out quiet c) (following (role_of c.table.progress) (control.went slot quiet c).1 (record c { table = (control.went slot quiet c).0 })) c
    (followed (role_of c.table.progress) (control.went slot quiet c).1 (record c { table = (control.went slot quiet c).0 }) h) h
moved_spares control_acked c h = end_if _ (record c { table = _ }) c h h
moved_spares (control_takes read slot quiet) c h = took_spares c read slot quiet h
moved_spares (Owes ctrl) c h = h

after_spares : (step : Step) (c : Control) → SparesEnd c → SparesEnd (after step c)
after_spares step c h = end_if (is_none c.ends) (moved step c) c (moved_spares step c h) h

-- ---- one end

abbrev pub Lasts : Phased → Type 0
Lasts t = is_integrity_failure t.control.ends ≡ false

lasts_if : (b : Bool) (t u : Phased) → Lasts t → Lasts u → Lasts (if b then t else u)
lasts_if true t u ht hu = ht
lasts_if false t u ht hu = hu

step_lasts : (step : Step) (t : Phased) → Lasts t → Lasts (with_step step t)
step_lasts step t h = after_spares step t.control h

owed_lasts : (ctrl : Option Ctrl) (t : Phased) → Lasts t → Lasts (with_owed_if ctrl t)
owed_lasts None t h = h
owed_lasts (Some ctrl) t h = step_lasts (Owes ctrl) t h

encrypting_lasts : (phase : PhaseFacts) (t : Phased) → Lasts t → Lasts (encrypting phase t)
encrypting_lasts clear_phase t h = owed_lasts t.request (record t { phase = phase_after AskTransition t.phase }) h
encrypting_lasts Secure t h = after_spares (Owes PauseEncReq) t.control h
encrypting_lasts phase t h = after_spares (Owes PauseEncReq) t.control h

begins_lasts : (b : Bool) (request : Option Ctrl) (t : Phased) → Lasts t → Lasts (encrypting_if b request t)
begins_lasts true request t h = encrypting_lasts t.phase (record t { request = request }) h
begins_lasts false request t h = h

asking_lasts : (b : Bool) (t : Phased) → Lasts t → Lasts (asking_if b t)
asking_lasts true t h = owed_lasts t.request (record t { phase = phase_after AskTransition t.phase }) h
asking_lasts false t h = h

refused_lasts : (b : Bool) (t : Phased) → Lasts t → Lasts (refused_if b t)
refused_lasts true t h = after_spares (Owes (RejectExtInd enc_req_opcode pin_or_key_missing)) t.control h
refused_lasts false t h = after_spares (Owes (TerminateInd pin_or_key_missing)) t.control h

kept_lasts : (slot : ℕ) (kept : Option Ctrl) (t : Phased) → Lasts t → Lasts (answered_kept slot kept t)
kept_lasts slot None t h = h
kept_lasts slot (Some ctrl) t h = after_spares (control_takes (Known ctrl) slot true) t.control h

moved_lasts : (transition : Transition) (owed : Option Ctrl) (t : Phased) → Lasts t → Lasts (moved_if transition owed t)
moved_lasts transition None t h = lasts_if (may_follow transition t.phase) (moved_to transition None t) t h h
moved_lasts transition (Some ctrl) t h = lasts_if (may_follow transition t.phase) (moved_to transition (Some ctrl) t) t (after_spares (Owes ctrl) t.control h) h

refusal_lasts : (k : PduClass) (t : Phased) → Lasts t → Lasts (refused_by k t)
refusal_lasts Refusal t h =
    lasts_if (has_encryption t.control.table.progress) t (record t { phase = phase_after RefuseTransition t.phase }) h h
refusal_lasts k t h = h

central_lasts : (ctrl : Ctrl) (t : Phased) → Lasts t → Lasts (ciphered_at_central ctrl t)
central_lasts StartEncReq t h = lasts_if (is_asked t.phase) (with_owed StartEncRsp (record t { phase = phase_starting t.phase })) t (after_spares (Owes StartEncRsp) t.control h) h
central_lasts StartEncRsp t h = moved_lasts Confirm None t h
central_lasts PauseEncRsp t h = moved_lasts Unlock (Some PauseEncRsp) t h
central_lasts ctrl t h = refusal_lasts (ctrl_class ctrl) t h

peripheral_lasts : (response : Response) (ctrl : Ctrl) (t : Phased) → Lasts t → Lasts (ciphered_at_peripheral response ctrl t)
peripheral_lasts response (EncReq rand ediv skd_m iv_m) t h =
    lasts_if (may_follow AskTransition t.phase) (moved_to AskTransition (Some (response_ctrl response)) (record t { asks_key = is_open_now t })) t (after_spares (Owes (response_ctrl response)) t.control h) h
peripheral_lasts response PauseEncReq t h = moved_lasts Pause (Some PauseEncRsp) t h
peripheral_lasts response StartEncRsp t h = moved_lasts Confirm (Some StartEncRsp) t h
peripheral_lasts response PauseEncRsp t h = moved_lasts Unlock None t h
peripheral_lasts response ctrl t h = h

role_lasts : (role : Role) (response : Response) (ctrl : Ctrl) (t : Phased) → Lasts t → Lasts (ciphered_at role response ctrl t)
role_lasts central_role response ctrl t h = central_lasts ctrl t h
role_lasts peripheral_role response ctrl t h = peripheral_lasts response ctrl t h

module _ (t : Phased) (ctrl : Ctrl) (response : Response) (slot : ℕ) (h : Lasts t) where
  abbrev read : CtrlRead
  read = Known ctrl

  goes_lasts : (u : Phased) → Lasts u → Lasts (goes_on slot response read u)
  goes_lasts u l =
      let v : Phased = ciphered response read u in
      let lasts : Lasts v = role_lasts (role_now u) response ctrl u l in
      lasts_if (is_none u.control.ends) (answered_if_quiet slot v) u (lasts_if (is_quiet_now v) (answered_kept slot v.kept v) v (kept_lasts slot v.kept v lasts) lasts) l

  handed_lasts : Lasts (handed_on slot response read t)
  handed_lasts =
      goes_lasts (with_phase_taking read (with_step (control_takes (seen_as read t) slot (is_quiet_now t)) (knowing read t)))
      (after_spares (control_takes (seen_as read t) slot (is_quiet_now t)) t.control h)

  allowed_lasts : Lasts (took_allowed slot response read t)
  allowed_lasts =
      lasts_if (does_keep read t) (keeping read t) (if lacks_room_now read t then ended_with memory_capacity_exceeded t else handed_on slot response read t) h
      (lasts_if (lacks_room_now read t) (ended_with memory_capacity_exceeded t) (handed_on slot response read t) refl handed_lasts)

  took_lasts : (b : Bool) → is_allowed read t ≡ b → b ≡ true → Lasts (if b then took_allowed slot response read t else ended_with mic_failure t)
  took_lasts true at allowed = allowed_lasts
  took_lasts false at allowed = absurd (cc)

  -- a control PDU that the phase allows
  pub takes_lasts : is_allowed read t ≡ true → Lasts (phased_after (Takes read slot response) t)
  takes_lasts allowed = lasts_if (is_none t.control.ends) (took slot response read t) t (took_lasts (is_allowed read t) refl allowed) h

-- data that the phase allows
data_by : (b : Bool) (t : Phased) → b ≡ true → Lasts t → Lasts (if b then t else ended_with mic_failure t)
data_by true t allowed h = h
data_by false t allowed h = absurd (cc)

pub data_lasts : (t : Phased) → allows t.phase (role_now t) data_class ≡ true → Lasts t → Lasts (phased_after TakesData t)
data_lasts t allowed h = lasts_if (is_none t.control.ends) (took_data t) t (data_by (allows t.phase (role_now t) data_class) t allowed h) h

-- ---- a step by which none is taken

abbrev pub takes_none : PhasedStep → Bool
takes_none (Takes pdu slot response) = false
takes_none TakesData = false
takes_none step = true

step_moved : (step : PhasedStep) (t : Phased) → takes_none step ≡ true → Lasts t → Lasts (phased_moved step t)
step_moved (Enters slot) t is h =
    begins_lasts _ _ (with_step (control_enters slot (is_quiet_now t)) t) (after_spares (control_enters slot (is_quiet_now t)) t.control h)
step_moved (Asks ask) t is h = after_spares (control_asks ask) t.control h
step_moved (Answers answer) t is h = after_spares (control_answers answer) t.control h
step_moved GivesKey t is h =
    lasts_if (t.asks_key && is_open_now t) (key_given t) t (after_spares (Owes StartEncReq) t.control h) h
step_moved LacksKey t is h = lasts_if (t.asks_key && is_open_now t) (key_lacking t) t (refused_lasts (may_follow RefuseTransition t.phase) t h) h
step_moved (Disconnects reason) t is h = after_spares (control_disconnects reason) t.control h
step_moved (Sends slot) t is h = after_spares (control_sends slot (is_quiet_now t)) t.control h
step_moved SeesAcknowledged t is h = asking_lasts (asks_again t) (with_step control_acked t) (after_spares control_acked t.control h)
step_moved (Takes pdu slot response) t is h = absurd (cc)
step_moved TakesData t is h = absurd (cc)

pub none_lasts : (step : PhasedStep) (t : Phased) → takes_none step ≡ true → Lasts t → Lasts (phased_after step t)
none_lasts step t is h = lasts_if (is_none t.control.ends) (phased_moved step t) t (step_moved step t is h) h
