-- In which two ways an end takes a PDU after which the link has not ended: it is kept, or the procedures see it.
use Rattle.std.proofs.Common.{◌≡◌, ℕ, Bool, true, false, if◌then◌else◌, Option, Some, None, is_none, refl}
use Rattle.ble_base.specs.ErrorCodes.{memory_capacity_exceeded, mic_failure}
use Rattle.data_pdu.specs.declared.ctrl.CtrlRead.{CtrlRead}
use Rattle.joint_controls.specs.control_model.Control.{Takes as control_takes}
use Rattle.joint_controls.specs.phased_control.Phased.{Phased, is_quiet_now, with_step}
use Rattle.joint_controls.specs.phased_control.Taken.{Response, answered_if_quiet, ciphered, does_keep, ended_with, handed_on, is_allowed, keeping, knowing, lacks_room_now, seen_as, took, took_allowed, with_phase_taking}

-- after the procedures have seen it
abbrev pub handed : ℕ → CtrlRead → Phased → Phased
handed slot read s = with_phase_taking read (with_step (control_takes (seen_as read s) slot (is_quiet_now s)) (knowing read s))

pub data TookAs (slot : ℕ) (response : Response) (read : CtrlRead) (s t : Phased) : Type 0 where
  keeps : does_keep read s ≡ true → is_allowed read s ≡ true → t ≡ keeping read s → TookAs slot response read s t
  hands : does_keep read s ≡ false → (handed slot read s).control.ends ≡ None
      → t ≡ answered_if_quiet slot (ciphered response read (handed slot read s)) → TookAs slot response read s t

is_none_is : {X : Type 0} (o : Option X) → is_none o ≡ true → o ≡ None
is_none_is None is = refl
is_none_is (Some x) is = absurd (cc)

not_none : {X : Type 0} (o : Option X) → is_none o ≡ false → o ≡ None → ⊥
not_none None a b = cc
not_none (Some x) a b = cc

module _ (slot : ℕ) (response : Response) (read : CtrlRead) (s : Phased) where
  abbrev h : Phased
  h = handed slot read s

  handed_as : (b : Bool) → is_none h.control.ends ≡ b → does_keep read s ≡ false
      → (if b then answered_if_quiet slot (ciphered response read h) else h).control.ends ≡ None
      → TookAs slot response read s (if b then answered_if_quiet slot (ciphered response read h) else h)
  handed_as true is kept lasts = hands kept (is_none_is h.control.ends is) refl
  handed_as false is kept lasts = absurd (not_none h.control.ends is lasts)

  room_as : (b : Bool) → does_keep read s ≡ false
      → (if b then ended_with memory_capacity_exceeded s else handed_on slot response read s).control.ends ≡ None
      → TookAs slot response read s (if b then ended_with memory_capacity_exceeded s else handed_on slot response read s)
  room_as true kept lasts = absurd (cc)
  room_as false kept lasts = handed_as (is_none h.control.ends) refl kept lasts

  allowed_as : (b : Bool) → does_keep read s ≡ b → is_allowed read s ≡ true
      → (if b then keeping read s else (if lacks_room_now read s then ended_with memory_capacity_exceeded s else handed_on slot response read s)).control.ends ≡ None
      → TookAs slot response read s (if b then keeping read s else (if lacks_room_now read s then ended_with memory_capacity_exceeded s else handed_on slot response read s))
  allowed_as true kept allowed lasts = keeps kept allowed refl
  allowed_as false kept allowed lasts = room_as (lacks_room_now read s) kept lasts

  either_as : (b : Bool) → is_allowed read s ≡ b → (if b then took_allowed slot response read s else ended_with mic_failure s).control.ends ≡ None
      → TookAs slot response read s (if b then took_allowed slot response read s else ended_with mic_failure s)
  either_as true allowed lasts = allowed_as (does_keep read s) refl allowed lasts
  either_as false allowed lasts = absurd (cc)

  pub took_as : (took slot response read s).control.ends ≡ None → TookAs slot response read s (took slot response read s)
  took_as lasts = either_as (is_allowed read s) refl lasts
