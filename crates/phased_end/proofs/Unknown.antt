-- Which PDUs have no meaning at an end.
use Rattle.std.proofs.Common.{◌≡◌, true}
use Rattle.ble_base.specs.declared.roles.Role.{Role}
use Rattle.data_pdu.specs.declared.ctrl.Ctrl.{Ctrl}
use Rattle.data_pdu.specs.declared.ctrl.Ctrl.TheVariants.{EncReq, EncRsp, PauseEncReq, StartEncReq}
use Rattle.data_pdu.specs.declared.ctrl.CtrlRead.TheVariants.{Known}
use Rattle.enc_phase.specs.declared.facts.PhaseFacts.{PhaseFacts}
use Rattle.enc_phase.specs.Taking.{ctrl_class, is_unknown}
use Rattle.keyed_control.proofs.phased_control.Unknown.{MayBeUnknown, unknown_is}
use Rattle.phased_end.specs.Taking.{IsNamed}

named_so : (ctrl : Ctrl) → MayBeUnknown ctrl → IsNamed ctrl
named_so (EncReq rand ediv skd_m iv_m) is = tt
named_so (EncRsp skd_s iv_s) is = tt
named_so StartEncReq is = tt
named_so PauseEncReq is = tt
named_so ctrl is = absurd is

pub named : (phase : PhaseFacts) (role : Role) (ctrl : Ctrl) → is_unknown phase role (ctrl_class ctrl) ≡ true → IsNamed ctrl
named phase role ctrl is = named_so ctrl (unknown_is phase role (Known ctrl) is)
