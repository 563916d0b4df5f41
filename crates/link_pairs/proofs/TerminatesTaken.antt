-- An end that takes LL_TERMINATE_IND stays in its phase and in its session, whatever the phase: it queues nothing, and takes no PDU
-- that it keeps.
use Rattle.std.proofs.Common.{◌≡◌, ℕ, nat_le, ◌&&◌, Bool, true, false, Option, None, is_none, refl, sym, ap, ◌∙◌, subst, if◌then◌else◌}
use Rattle.ble_base.specs.ErrorCodes.{memory_capacity_exceeded, mic_failure}
use Rattle.ble_base.specs.declared.error_codes.ErrCode.{ErrCode}
use Rattle.ble_base.specs.declared.roles.Role.{Role}
use Rattle.ble_base.specs.declared.roles.Role.TheVariants.{Central, Peripheral}
use Rattle.data_pdu.specs.declared.ctrl.Ctrl.{Ctrl}
use Rattle.data_pdu.specs.declared.ctrl.Ctrl.TheVariants.{StartEncReq, TerminateInd}
use Rattle.data_pdu.specs.declared.ctrl.CtrlRead.{CtrlRead}
use Rattle.data_pdu.specs.declared.ctrl.CtrlRead.TheVariants.{Known}
use Rattle.control_octets.specs.procedure_stages.Closing.{is_open}
use Rattle.control_octets.specs.procedure_stages.Queue.{waiting_in}
use Rattle.control_octets.specs.control_model.Control.{Takes as control_takes}
use Rattle.joint_laws.specs.joint_controls.Joint.{is_terminate}
use Rattle.joint_laws.specs.joint_controls.phased_control.Phased.{Phased, is_quiet_now, with_step}
use Rattle.joint_laws.specs.joint_controls.phased_control.Taken.{Response, Takes, answered_if_quiet, answered_kept, ciphered, ciphered_at, ended_with, goes_on, handed_on, knowing, phased_after, role_now, seen_if, took, with_phase_taking}
use Rattle.joint_keys.specs.KeyedJoint.{Keys}
use Rattle.joint_keys.proofs.Terminating.{terminate_keeps}
use Rattle.link_model.specs.keyed_control.Keyed.{Keyed}
use Rattle.link_model.specs.keyed_control.KeyedSteps.{Takes as keyed_takes, keyed_after}
use Rattle.link_model.proofs.Views.{allows_end as is_allowed_always}
use Rattle.link_pairs.proofs.TakingTerminate.{HasTaken, has_taken}
use Rattle.link_pairs.proofs.TerminatesNoted.{is_known, never_both, none_answers}

-- ---- its control part and its phase

module _ (code slot : ℕ) (response : Response) (x : Phased) (lasts : x.control.ends ≡ None) (kept : is_quiet_now x ≡ true → x.kept ≡ None) where
  abbrev read : CtrlRead
  read = Known (TerminateInd code)

  -- the procedures see it, and nothing more
  abbrev seen_by : CtrlRead → Phased
  seen_by r = with_phase_taking read (with_step (control_takes r slot (is_quiet_now x)) (knowing read x))

  abbrev pub seen : Phased
  seen = seen_by read

  seen_lasts : seen.control.ends ≡ None
  seen_lasts = (has_taken (TerminateInd code) slot (is_quiet_now x) x.control lasts refl).ends

  ciphers_none : (role : Role) (s : Phased) → ciphered_at role response (TerminateInd code) s ≡ s
  ciphers_none Central s = refl
  ciphers_none Peripheral s = refl

  answers_kept : (quiet : Bool) → is_quiet_now x ≡ quiet → (if quiet then answered_kept slot x.kept seen else seen) ≡ seen
  answers_kept true is = ap (λ (o : Option Ctrl). answered_kept slot o seen) (kept is)
  answers_kept false is = refl

  goes_then : goes_on slot response read seen ≡ seen
  goes_then =
      ap (λ (ends : Option ErrCode). if is_none ends then answered_if_quiet slot (ciphered response read seen) else seen) seen_lasts
      ∙ ap (answered_if_quiet slot) (ciphers_none (role_now seen) seen) ∙ answers_kept (is_quiet_now x) refl

  lacks_none : (is_open x.control.table.closing && (nat_le 16 (waiting_in x.control.table.queue) && false)) ≡ false
  lacks_none = never_both (is_open x.control.table.closing) (nat_le 16 (waiting_in x.control.table.queue))

  took_seen : took slot response read x ≡ seen
  took_seen =
      (λ i. if is_allowed_always x.phase (role_now x) i
      then (if is_open x.control.table.closing && (nat_le 16 (waiting_in x.control.table.queue) && none_answers code (role_now x) x.phase i)
      then ended_with memory_capacity_exceeded x
      else handed_on slot response read x)
      else ended_with mic_failure x)
      ∙ ap (λ (b : Bool). if b then ended_with memory_capacity_exceeded x else handed_on slot response read x) lacks_none
      ∙ ap (λ (unknown : Bool). goes_on slot response read (seen_by (seen_if unknown read))) (is_known x.phase (role_now x))
      ∙ goes_then

  took_code : phased_after (Takes read slot response) x ≡ seen
  took_code = ap (λ (ends : Option ErrCode). if is_none ends then took slot response read x else x) lasts ∙ took_seen

pub record HasTakenSo (x y : Phased) : Type 0 where
  pub control : HasTaken x.control y.control
  pub phase : y.phase ≡ x.phase

pub takes_so : (ctrl : Ctrl) → is_terminate ctrl ≡ true → (slot : ℕ) (response : Response) (x : Phased) → x.control.ends ≡ None
    → (is_quiet_now x ≡ true → x.kept ≡ None) → HasTakenSo x (phased_after (Takes (Known ctrl) slot response) x)
takes_so (TerminateInd code) is slot response x lasts kept =
    let so = sym (took_code code slot response x lasts kept) in
    record {
      control = subst (λ (y : Phased). HasTaken x.control y.control) so (has_taken (TerminateInd code) slot (is_quiet_now x) x.control lasts refl);
      phase = subst (λ (y : Phased). y.phase ≡ x.phase) so refl;
    }
takes_so StartEncReq is slot response x lasts kept = absurd (cc)
takes_so ctrl is slot response x lasts kept = absurd (cc)

-- ---- its session

pub same_end : (ctrl : Ctrl) → is_terminate ctrl ≡ true → (slot : ℕ) (response : Response) (k : Keyed) → (keyed_after (keyed_takes (Known ctrl) slot response) k).end ≡ k.end
same_end (TerminateInd code) is slot response k =
    ap (λ (keys : Keys). keys.end) (terminate_keeps code slot response k.phased (record { material = k.material; end = k.end; made = k.end }))
same_end StartEncReq is slot response k = absurd (cc)
same_end ctrl is slot response k = absurd (cc)
