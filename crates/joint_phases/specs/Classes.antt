-- The classes of PDUs in a joint run: which end answers a PDU, and whether it is of the encryption (Core 5.2, volume 6
-- part B, section 5.1).
use Rattle.std.specs.Prelude.{Bool, true, false, ◌||◌, List, [], ◌∷◌}
use Rattle.data_pdu.specs.declared.ctrl.Ctrl.{Ctrl}
use Rattle.data_pdu.specs.declared.ctrl.Ctrl.TheVariants.{ConnectionParamRsp, FeatureReq, RejectExtInd, VersionInd}
use Rattle.phase_pairs.specs.enc_phase.declared.classes.PduClass.{PduClass}
use Rattle.phase_pairs.specs.enc_phase.declared.classes.PduClass.TheVariants.{Data as data_class, Other, Request}
use Rattle.phase_pairs.specs.enc_phase.Taking.{ctrl_class}
use Rattle.joint_controls.specs.procedure_values.declared.drafts.Draft.{Draft}
use Rattle.joint_controls.specs.procedure_values.Drafts.{ctrl_of_draft}
use Rattle.phase_pairs.specs.JointRun.{is_request}
use Rattle.joint_controls.specs.Joint.{Item, Control, Data}

-- an LL_VERSION_IND is one that the other end answers, unless its sender knows the other's version: then the two have
-- crossed, or it is the answer
abbrev pub version_class : Bool → PduClass
version_class true = Other
version_class false = Request

-- a PDU of the central: a Request is one that the peripheral answers
abbrev pub class_down : Bool → Ctrl → PduClass
class_down knows (VersionInd version company sub) = version_class knows
class_down knows (FeatureReq features) = Request
class_down knows (ConnectionParamRsp min max latency timeout periodicity reference offsets) = Request
class_down knows (RejectExtInd opcode code) = Other
class_down knows ctrl = ctrl_class ctrl

-- a PDU of the peripheral: a Request is the first of a procedure of its own
abbrev pub class_up : Bool → Ctrl → PduClass
class_up knows (VersionInd version company sub) = version_class knows
class_up knows ctrl = ctrl_class ctrl

-- the same of a PDU that waits; nothing of what is fixed as it is first sent matters
abbrev pub draft_down : Bool → Draft → PduClass
draft_down knows draft = class_down knows (ctrl_of_draft draft 0 0)

abbrev pub draft_up : Bool → Draft → PduClass
draft_up knows draft = class_up knows (ctrl_of_draft draft 0 0)

-- whether an LL_VERSION_IND waits
abbrev pub is_version_ctrl : Ctrl → Bool
is_version_ctrl (VersionInd version company sub) = true
is_version_ctrl ctrl = false

abbrev pub has_version : List Draft → Bool
has_version [] = false
has_version (draft ∷ drafts) = is_version_ctrl (ctrl_of_draft draft 0 0) || has_version drafts

-- whether the first PDU of a procedure waits
abbrev pub has_request : (Draft → PduClass) → List Draft → Bool
has_request class_of [] = false
has_request class_of (draft ∷ drafts) = is_request (class_of draft) || has_request class_of drafts

-- and of what is on its way
abbrev pub item_class : (Ctrl → PduClass) → Item → PduClass
item_class class_of Data = data_class
item_class class_of (Control outgoing ctrl) = class_of ctrl

abbrev pub is_version : Item → Bool
is_version Data = false
is_version (Control outgoing ctrl) = is_version_ctrl ctrl
