-- Which PDUs have no meaning at an end in a phase: four of the encryption.
use Rattle.std.proofs.Common.{◌≡◌, ◌==◌, Bool, true, false, if◌then◌else◌}
use Rattle.std.specs.Prelude.{⊤}
use Rattle.ble_base.specs.declared.roles.Role.{Role}
use Rattle.ble_base.specs.declared.roles.Role.TheVariants.{Central, Peripheral}
use Rattle.data_pdu.specs.declared.ctrl.Ctrl.{Ctrl}
use Rattle.data_pdu.specs.declared.ctrl.Ctrl.TheVariants.{EncReq, EncRsp, PauseEncReq, RejectExtInd, StartEncReq}
use Rattle.data_pdu.specs.declared.ctrl.CtrlRead.{CtrlRead}
use Rattle.data_pdu.specs.declared.ctrl.CtrlRead.TheVariants.{Bare, Known, Unknown}
use Rattle.data_pdu.specs.Reading.{IfKnown}
use Rattle.enc_phase.specs.declared.classes.PduClass.{PduClass}
use Rattle.enc_phase.specs.declared.classes.PduClass.TheVariants.{EncReq as enc_req, EncRsp as enc_rsp, Other, PauseEncReq as pause_enc_req, Refusal, StartEncReq as start_enc_req}
use Rattle.enc_phase.specs.declared.facts.PhaseFacts.{PhaseFacts}
use Rattle.enc_phase.specs.declared.facts.PhaseFacts.TheVariants.{Clear, Secure}
use Rattle.enc_phase.specs.Taking.{ctrl_class, is_unknown}
use Rattle.phased_control.specs.Taken.{class_of_read}

abbrev pub MayBeUnknown : Ctrl → Type 0
MayBeUnknown (EncReq rand ediv skd_m iv_m) = ⊤
MayBeUnknown (EncRsp skd_s iv_s) = ⊤
MayBeUnknown StartEncReq = ⊤
MayBeUnknown PauseEncReq = ⊤
MayBeUnknown ctrl = ⊥

-- the same by the class of a PDU
abbrev IsClass : PduClass → Type 0
IsClass enc_req = ⊤
IsClass enc_rsp = ⊤
IsClass start_enc_req = ⊤
IsClass pause_enc_req = ⊤
IsClass pdu = ⊥

class_is : (phase : PhaseFacts) (role : Role) (pdu : PduClass) → is_unknown phase role pdu ≡ true → IsClass pdu
class_is phase role enc_req is = tt
class_is phase role enc_rsp is = tt
class_is phase role start_enc_req is = tt
class_is phase role pause_enc_req is = tt
class_is Clear Central pdu is = absurd (cc)
class_is Clear Peripheral pdu is = absurd (cc)
class_is Secure Central pdu is = absurd (cc)
class_is Secure Peripheral pdu is = absurd (cc)
class_is phase role pdu is = absurd (cc)

ctrl_is : (ctrl : Ctrl) → IsClass (ctrl_class ctrl) → MayBeUnknown ctrl
ctrl_is (EncReq rand ediv skd_m iv_m) is = tt
ctrl_is (EncRsp skd_s iv_s) is = tt
ctrl_is StartEncReq is = tt
ctrl_is PauseEncReq is = tt
ctrl_is (RejectExtInd opcode code) is = by (opcode == 3) is
  where
    by : (b : Bool) → IsClass (if b then Refusal else Other) → ⊥
    by true is = is
    by false is = is
ctrl_is ctrl is = absurd is

pub unknown_is : (phase : PhaseFacts) (role : Role) (read : CtrlRead) → is_unknown phase role (class_of_read read) ≡ true → IfKnown read MayBeUnknown
unknown_is phase role (Known ctrl) is = ctrl_is ctrl (class_is phase role (ctrl_class ctrl) is)
unknown_is phase role (Unknown opcode) is = tt
unknown_is phase role Bare is = tt
