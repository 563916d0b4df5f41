-- Whether an end knows the version of the other: only a PDU that it takes changes that.
use Rattle.std.proofs.Common.{◌≡◌, ℕ, Bool, true, false, Option, Some, None, is_none, refl, if◌then◌else◌}
use Rattle.std.proofs.lemmas.Bool.{or_left}
use Rattle.ble_base.specs.declared.roles.Role.{Role}
use Rattle.ble_base.specs.declared.roles.Role.TheVariants.{Central, Peripheral}
use Rattle.data_pdu.specs.declared.ctrl.Ctrl.{Ctrl}
use Rattle.data_pdu.specs.declared.ctrl.Ctrl.TheVariants.{EncReq, PauseEncReq, PauseEncRsp, StartEncReq, StartEncRsp}
use Rattle.data_pdu.specs.declared.ctrl.CtrlRead.{CtrlRead}
use Rattle.data_pdu.specs.declared.ctrl.CtrlRead.TheVariants.{Known}
use Rattle.phase_pairs.specs.enc_phase.declared.classes.PduClass.{PduClass}
use Rattle.phase_pairs.specs.enc_phase.declared.classes.PduClass.TheVariants.{Refusal}
use Rattle.phase_pairs.specs.enc_phase.declared.facts.PhaseFacts.{PhaseFacts}
use Rattle.phase_pairs.specs.enc_phase.declared.facts.PhaseFacts.TheVariants.{Clear, Secure}
use Rattle.phase_pairs.specs.enc_phase.declared.facts.Transition.{Transition}
use Rattle.phase_pairs.specs.enc_phase.declared.facts.Transition.TheVariants.{Confirm, Pause, Unlock}
use Rattle.phase_pairs.specs.enc_phase.Taking.{ctrl_class}
use Rattle.ble_base.specs.ErrorCodes.{memory_capacity_exceeded, mic_failure}
use Rattle.joint_controls.specs.control_model.Control.{Takes as control_takes}
use Rattle.joint_controls.specs.phased_control.Phased.{Phased, is_quiet_now, with_step, asking_if, encrypting, encrypting_if, refused_if, with_owed_if}
use Rattle.joint_controls.specs.phased_control.Taken.{PhasedStep, Response, Answers, Asks, Disconnects, Enters, GivesKey, LacksKey, SeesAcknowledged, Sends, Takes, TakesData, answered_if_quiet, answered_kept, ciphered, ciphered_at, ciphered_at_central, ciphered_at_peripheral, does_keep, ended_with, goes_on, handed_on, is_allowed, keeping, knowing, lacks_room_now, moved_if, phased_after, phased_moved, refused_by, seen_as, took, took_allowed, with_phase_taking}

-- ---- the steps by which none is taken

abbrev Same : Phased → Phased → Type 0
Same t u = t.knows_version ≡ u.knows_version

same_if : (b : Bool) (t u x : Phased) → Same t x → Same u x → Same (if b then t else u) x
same_if true t u x ht hu = ht
same_if false t u x ht hu = hu

owed_same : (ctrl : Option Ctrl) (s : Phased) → Same (with_owed_if ctrl s) s
owed_same None s = refl
owed_same (Some ctrl) s = refl

encrypting_same : (phase : PhaseFacts) (s : Phased) → Same (encrypting phase s) s
encrypting_same Clear s = owed_same s.request _
encrypting_same Secure s = refl
encrypting_same phase s = refl

begins_same : (b : Bool) (request : Option Ctrl) (s : Phased) → Same (encrypting_if b request s) s
begins_same true request s = encrypting_same s.phase _
begins_same false request s = refl

asking_same : (b : Bool) (s : Phased) → Same (asking_if b s) s
asking_same true s = owed_same s.request _
asking_same false s = refl

refused_same : (b : Bool) (s : Phased) → Same (refused_if b s) s
refused_same true s = refl
refused_same false s = refl

abbrev pub takes_none : PhasedStep → Bool
takes_none (Takes read slot response) = false
takes_none step = true

moved_same : (step : PhasedStep) (s : Phased) → takes_none step ≡ true → Same (phased_moved step s) s
moved_same (Enters slot) s is = begins_same _ _ _
moved_same (Asks ask) s is = refl
moved_same (Answers answer) s is = refl
moved_same GivesKey s is = same_if _ _ s s refl refl
moved_same LacksKey s is = same_if _ _ s s (refused_same _ s) refl
moved_same (Disconnects reason) s is = refl
moved_same (Sends slot) s is = refl
moved_same SeesAcknowledged s is = asking_same _ _
moved_same TakesData s is = same_if _ s _ s refl refl
moved_same (Takes read slot response) s is = absurd (cc)

pub knows_stays : (step : PhasedStep) (s : Phased) → takes_none step ≡ true → (phased_after step s).knows_version ≡ s.knows_version
knows_stays step s is = same_if (is_none s.control.ends) (phased_moved step s) s s (moved_same step s is) refl

-- ---- a PDU is taken: what is known stays known

abbrev Knows : Phased → Type 0
Knows t = t.knows_version ≡ true

knows_if : (b : Bool) (t u : Phased) → Knows t → Knows u → Knows (if b then t else u)
knows_if true t u ht hu = ht
knows_if false t u ht hu = hu

kept_knows : (slot : ℕ) (kept : Option Ctrl) (t : Phased) → Knows t → Knows (answered_kept slot kept t)
kept_knows slot None t h = h
kept_knows slot (Some ctrl) t h = or_left _ _ h

moved_knows : (transition : Transition) (owed : Option Ctrl) (t : Phased) → Knows t → Knows (moved_if transition owed t)
moved_knows transition None t h = knows_if _ _ _ h h
moved_knows transition (Some ctrl) t h = knows_if _ _ _ h h

refused_knows : (k : PduClass) (t : Phased) → Knows t → Knows (refused_by k t)
refused_knows Refusal t h = knows_if _ _ _ h h
refused_knows k t h = h

central_knows : (ctrl : Ctrl) (t : Phased) → Knows t → Knows (ciphered_at_central ctrl t)
central_knows StartEncReq t h = knows_if _ _ _ h h
central_knows StartEncRsp t h = moved_knows Confirm None t h
central_knows PauseEncRsp t h = moved_knows Unlock (Some PauseEncRsp) t h
central_knows ctrl t h = refused_knows (ctrl_class ctrl) t h

peripheral_knows : (response : Response) (ctrl : Ctrl) (t : Phased) → Knows t → Knows (ciphered_at_peripheral response ctrl t)
peripheral_knows response (EncReq rand ediv skd_m iv_m) t h = knows_if _ _ _ h h
peripheral_knows response PauseEncReq t h = moved_knows Pause (Some PauseEncRsp) t h
peripheral_knows response StartEncRsp t h = moved_knows Confirm (Some StartEncRsp) t h
peripheral_knows response PauseEncRsp t h = moved_knows Unlock None t h
peripheral_knows response ctrl t h = h

role_knows : (role : Role) (response : Response) (ctrl : Ctrl) (t : Phased) → Knows t → Knows (ciphered_at role response ctrl t)
role_knows Central response ctrl t h = central_knows ctrl t h
role_knows Peripheral response ctrl t h = peripheral_knows response ctrl t h

goes_knows : (slot : ℕ) (response : Response) (ctrl : Ctrl) (t : Phased) → Knows t → Knows (goes_on slot response (Known ctrl) t)
goes_knows slot response ctrl t h =
    let u : Phased = ciphered response (Known ctrl) t in
    let known : Knows u = role_knows _ response ctrl t h in
    knows_if (is_none t.control.ends) (answered_if_quiet slot u) t (knows_if _ (answered_kept slot u.kept u) u (kept_knows slot u.kept u known) known) h

module _ (s : Phased) (ctrl : Ctrl) (response : Response) (slot : ℕ) (h : s.knows_version ≡ true) where
  abbrev read : CtrlRead
  read = Known ctrl

  handed_knows : Knows (handed_on slot response read s)
  handed_knows =
      goes_knows slot response ctrl (with_phase_taking read (with_step (control_takes (seen_as read s) slot (is_quiet_now s)) (knowing read s))) (or_left _ _ h)

  allowed_knows : Knows (took_allowed slot response read s)
  allowed_knows =
      knows_if (does_keep read s) (keeping read s) (if lacks_room_now read s then ended_with memory_capacity_exceeded s else handed_on slot response read s) h
      (knows_if (lacks_room_now read s) (ended_with memory_capacity_exceeded s) (handed_on slot response read s) h handed_knows)

  took_knows : Knows (took slot response read s)
  took_knows = knows_if (is_allowed read s) (took_allowed slot response read s) (ended_with mic_failure s) allowed_knows h

  pub knows_grows : (phased_after (Takes read slot response) s).knows_version ≡ true
  knows_grows = knows_if (is_none s.control.ends) (took slot response read s) s took_knows h
