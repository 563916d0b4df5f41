-- The ways in which a PDU is taken.
use Rattle.std.proofs.Common.{◌≡◌, ℕ, Bool, true, false, if◌then◌else◌, Option, Some, None, is_none, refl}
use Rattle.ble_base.specs.ErrorCodes.{memory_capacity_exceeded, mic_failure}
use Rattle.ble_base.specs.declared.error_codes.ErrCode.{ErrCode}
use Rattle.data_pdu.specs.declared.ctrl.CtrlRead.{CtrlRead}
use Rattle.phased_control.specs.Phased.{Phased, is_quiet_now}
use Rattle.phased_control.specs.Taken.{Response, answered_kept, ciphered, does_keep, ended_with, handed_on, is_allowed, keeping, lacks_room_now, took}
use Rattle.phased_control.specs.Steps.{seen_by_procedures}

module _ (P : Phased → Type 0) (slot : ℕ) (response : Response) (read : CtrlRead) where
  -- the phase forbids it, or keeps it, or there is no room for its answer, or the procedures see it
  pub took_ways : (s : Phased) → (is_allowed read s ≡ false → P (ended_with mic_failure s))
      → (is_allowed read s ≡ true → does_keep read s ≡ true → P (keeping read s))
      → (is_allowed read s ≡ true → does_keep read s ≡ false → lacks_room_now read s ≡ true → P (ended_with memory_capacity_exceeded s))
      → (is_allowed read s ≡ true → does_keep read s ≡ false → lacks_room_now read s ≡ false → P (handed_on slot response read s))
      → P (took slot response read s)
  took_ways s forbidden kept full goes = by (is_allowed read s) (does_keep read s) (lacks_room_now read s) refl refl refl
    where
      by : (a k f : Bool) → is_allowed read s ≡ a → does_keep read s ≡ k → lacks_room_now read s ≡ f
          → P (if a then (if k then keeping read s else (if f then ended_with memory_capacity_exceeded s else handed_on slot response read s)) else ended_with mic_failure s)
      by false k f is1 is2 is3 = forbidden is1
      by true true f is1 is2 is3 = kept is1 is2
      by true false true is1 is2 is3 = full is1 is2 is3
      by true false false is1 is2 is3 = goes is1 is2 is3

  -- the link ended as the procedures saw it, or the PDU is answered, in a phase that is Clear or Secure then, or not
  pub handed_ways : (s : Phased) → ((code : ErrCode) → (seen_by_procedures read slot s).control.ends ≡ Some code → P (seen_by_procedures read slot s))
      → ((seen_by_procedures read slot s).control.ends ≡ None → is_quiet_now (ciphered response read (seen_by_procedures read slot s)) ≡ false → P (ciphered response read (seen_by_procedures read slot s)))
      → ((seen_by_procedures read slot s).control.ends ≡ None → is_quiet_now (ciphered response read (seen_by_procedures read slot s)) ≡ true
      → P (answered_kept slot (ciphered response read (seen_by_procedures read slot s)).kept (ciphered response read (seen_by_procedures read slot s))))
      → P (handed_on slot response read s)
  handed_ways s over loud quiet = by (seen_by_procedures read slot s).control.ends (is_quiet_now (ciphered response read (seen_by_procedures read slot s))) refl refl
    where
      by : (ends : Option ErrCode) (b : Bool) → (seen_by_procedures read slot s).control.ends ≡ ends → is_quiet_now (ciphered response read (seen_by_procedures read slot s)) ≡ b
          → P (if is_none ends then (if b then answered_kept slot (ciphered response read (seen_by_procedures read slot s)).kept (ciphered response read (seen_by_procedures read slot s))
          else ciphered response read (seen_by_procedures read slot s)) else seen_by_procedures read slot s)
      by (Some code) b is1 is2 = over code is1
      by None false is1 is2 = loud is1 is2
      by None true is1 is2 = quiet is1 is2
