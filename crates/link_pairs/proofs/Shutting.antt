-- A forged packet ends the link at an end.
use Rattle.std.proofs.Common.{◌≡◌, Bool, true, Option, Some, None, is_none, refl, ap, if◌then◌else◌}
use Rattle.ble_base.specs.ErrorCodes.{mic_failure}
use Rattle.ble_base.specs.declared.error_codes.ErrCode.{ErrCode}
use Rattle.control_octets.specs.control_model.Control.{Control, ended}
use Rattle.joint_laws.specs.joint_controls.Joint.{Shuts, act, is_running}
use Rattle.joint_laws.specs.joint_controls.Joint.{after as joint_after}
use Rattle.joint_laws.specs.joint_parameters.Turns.{Link}
use Rattle.joint_laws.proofs.joint_parameters.Pairing.{may_now}
use Rattle.link_model.specs.Receiving.{ended_by_forgery}

-- the end is shut in the run
pub shut_joint : (l : Link) → is_running l.joint ≡ true → (joint_after Shuts l.joint).stopped ≡ true
shut_joint l running = ap (λ (b : Bool). (if b then act Shuts l.joint else l.joint).stopped) (may_now Shuts l.joint running refl)

-- with this code
pub forged_code : (c : Control) → c.ends ≡ None → (ended_by_forgery c).ends ≡ Some (record { 0 = mic_failure })
forged_code c lasts = ap (λ (o : Option ErrCode). (if is_none o then ended (record { 0 = mic_failure }) c else c).ends) lasts
