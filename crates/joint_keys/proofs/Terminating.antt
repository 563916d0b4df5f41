-- An LL_TERMINATE_IND that is taken leaves the keys of an end as they are, but that it is opened.
use Rattle.std.proofs.Common.{◌≡◌, ℕ, Bool, true, false, if◌then◌else◌, is_none, refl}
use Rattle.ble_base.specs.declared.roles.Role.{Role}
use Rattle.ble_base.specs.declared.roles.Role.TheVariants.{Central, Peripheral}
use Rattle.data_pdu.specs.declared.ctrl.CtrlRead.{CtrlRead}
use Rattle.data_pdu.specs.declared.ctrl.CtrlRead.TheVariants.{Known}
use Rattle.data_pdu.specs.declared.ctrl.Ctrl.TheVariants.{TerminateInd}
use Rattle.enc_phase.specs.declared.classes.PduClass.TheVariants.{Terminate}
use Rattle.enc_phase.specs.declared.facts.PhaseFacts.{PhaseFacts}
use Rattle.phased_control.specs.enc_phase.Sealing.{EncEnd}
use Rattle.phased_control.specs.PhaseChanges.{Change, Stays, Took, answer_change, taken_change}
use Rattle.phased_control.specs.Phased.{Phased}
use Rattle.phased_control.specs.Steps.{seen_by_procedures}
use Rattle.phased_control.specs.Taken.{Response, does_keep, is_allowed, lacks_room_now, role_now}
use Rattle.phased_control.specs.table_laws.Encrypting.{has_encryption}
use Rattle.keyed_control.specs.declared.material.KeyMaterial.{KeyMaterial}
use Rattle.keyed_control.specs.Keyed.{Keyed}
use Rattle.keyed_control.specs.KeyedSteps.{Takes, end_changed, keyed_moved, with_read}
use Rattle.joint_keys.specs.KeyedJoint.{Keys, keyed_with, keys_after}

module _ (code slot : ℕ) (response : Response) (s : Phased) (keys : Keys) where
  abbrev read : CtrlRead
  read = Known (TerminateInd code)

  same_read : (role : Role) (change : Change) (phase : PhaseFacts) (m : KeyMaterial) → with_read role read response change phase m ≡ m
  same_read Central change phase m = refl
  same_read Peripheral change phase m = refl

  abbrev IsSame : Change → Type 0
  IsSame change = (m : KeyMaterial) (e : EncEnd) → end_changed change m e ≡ e

  same_answer : (role : Role) (encrypts : Bool) (phase : PhaseFacts) → IsSame (answer_change role Terminate encrypts phase)
  same_answer Central encrypts phase m e = refl
  same_answer Peripheral encrypts phase m e = refl

  by_ifs : (a k l e : Bool)
      → IsSame
      (if a then (if k then Took Terminate else (if l then Stays else (if e then answer_change (role_now s) Terminate (has_encryption (seen_by_procedures read slot s).control.table.progress) s.phase else Took Terminate)))
      else Stays)
  by_ifs false k l e m end = refl
  by_ifs true true l e m end = refl
  by_ifs true false true e m end = refl
  by_ifs true false false false m end = refl
  by_ifs true false false true m end = same_answer (role_now s) (has_encryption (seen_by_procedures read slot s).control.table.progress) s.phase m end

  same_end : IsSame (taken_change read slot s)
  same_end = by_ifs (is_allowed read s) (does_keep read s) (lacks_room_now read s) (is_none (seen_by_procedures read slot s).control.ends)

  -- as the link goes on, and once it ended
  pub terminate_keeps : keys_after (Takes read slot response) s keys ≡ keys
  terminate_keeps = by (is_none s.control.ends)
    where
      k : Keyed
      k = keyed_with s keys

      by : (b : Bool)
          → record keys { material = (if b then keyed_moved (Takes read slot response) k else k).material; end = (if b then keyed_moved (Takes read slot response) k else k).end }
          ≡ keys
      by true =
          (λ i. record keys {
            material = same_read (role_now s) (taken_change read slot s) s.phase keys.material i;
            end = same_end (with_read (role_now s) read response (taken_change read slot s) s.phase keys.material) keys.end i;
          })
      by false = refl
