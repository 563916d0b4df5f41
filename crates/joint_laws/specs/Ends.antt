-- With which codes a step of a joint run may end the link at an end (Core 5.2, volume 6 part B, section 5.5.1).
use Rattle.std.specs.Prelude.{◌≡◌, ◌⊎◌, true, Option, Some, None}
use Rattle.ble_base.specs.ErrorCodes.{instant_passed}
use Rattle.ble_base.specs.declared.error_codes.ErrCode.{ErrCode}
use Rattle.joint_parameters.specs.joint_controls.Joint.{Joint, is_late}

-- at a peripheral that has passed the Instant of the indication that it takes, by no code but that for this
abbrev pub EndsLateAlone : Joint → Option ErrCode → Type 0
EndsLateAlone s ends = (ends ≡ None) ⊎ ((ends ≡ Some (record { 0 = instant_passed })) × (is_late s ≡ true))
