-- The PDUs that are on their way, by their classes, and as the version of an end becomes known.
use Rattle.std.proofs.Common.{◌≡◌, ◌==◌, Bool, true, false, not, refl, ap, sym, if◌then◌else◌}
use Rattle.ble_base.specs.declared.roles.Role.TheVariants.{Central as central_role, Peripheral as peripheral_role}
use Rattle.data_pdu.specs.declared.ctrl.Ctrl.{Ctrl}
use Rattle.data_pdu.specs.declared.ctrl.Ctrl.TheVariants.{ConnectionParamRsp, EncReq, EncRsp, FeatureReq, PauseEncReq, PauseEncRsp, RejectExtInd, RejectInd, StartEncReq, StartEncRsp, TerminateInd, VersionInd}
use Rattle.phase_pairs.specs.enc_phase.declared.classes.PduClass.{PduClass}
use Rattle.phase_pairs.specs.enc_phase.declared.classes.PduClass.TheVariants.{Other, Refusal, Request}
use Rattle.phase_pairs.specs.enc_phase.declared.facts.PhaseFacts.{PhaseFacts}
use Rattle.phase_pairs.specs.enc_phase.declared.facts.PhaseFacts.TheVariants.{Asked, Clear as clear_phase, Secure}
use Rattle.phase_pairs.specs.enc_phase.Phases.{is_quiet}
use Rattle.phase_pairs.specs.enc_phase.Taking.{allows, ctrl_class}
use Rattle.phase_pairs.specs.declared.joint.PhaseWay.TheVariants.{Fixed as way_fixed, OnAir as way_on_air, Taken as way_taken}
use Rattle.phase_pairs.specs.Agreement.{has_meaning, is_encryption}
use Rattle.phase_pairs.specs.JointRun.{is_coming, is_on_air, is_pause_rsp, is_request, is_way_fixed, is_way_taken, way_kept}
use Rattle.phase_pairs.specs.Peripheral.{is_terminate as is_terminate_class}
use Rattle.joint_controls.specs.Joint.{Item, Way, Clear, Control, Data, Fixed, OnAir, Taken, is_item, is_taken, is_terminate, item_on_air}
use Rattle.joint_phases.specs.Classes.{class_down, class_up, is_version, is_version_ctrl, item_class, version_class}
use Rattle.joint_phases.specs.Facts.{is_version_coming}
use Rattle.joint_phases.specs.Parts.{way_down, way_up}
use Rattle.joint_phases.proofs.CentralQueue.{is_of_others}
use Rattle.joint_phases.proofs.Plain.{is_session}

-- ---- classes

version_others : (knows : Bool) → is_of_others (version_class knows) ≡ true
version_others true = refl
version_others false = refl

version_plain : (knows : Bool) → (is_encryption (version_class knows) ≡ false) × (is_terminate_class (version_class knows) ≡ false)
version_plain true = (refl, refl)
version_plain false = (refl, refl)

pub version_up : (knows : Bool) (ctrl : Ctrl) → is_version_ctrl ctrl ≡ true → class_up knows ctrl ≡ version_class knows
version_up knows (VersionInd version company sub) is = refl
version_up knows ctrl is = absurd (cc)

pub version_down : (knows : Bool) (ctrl : Ctrl) → is_version_ctrl ctrl ≡ true → class_down knows ctrl ≡ version_class knows
version_down knows (VersionInd version company sub) is = refl
version_down knows ctrl is = absurd (cc)

pub plain_up : (knows : Bool) (ctrl : Ctrl) → is_version_ctrl ctrl ≡ false → class_up knows ctrl ≡ ctrl_class ctrl
plain_up knows (VersionInd version company sub) is = absurd (cc)
plain_up knows ctrl is = refl

-- what is no PDU of the encryption, and does not end the link, is a Request or another
reject_others : (b : Bool) → is_encryption (if b then Refusal else Other) ≡ false → is_of_others (if b then Refusal else Other) ≡ true
reject_others true h = absurd (cc)
reject_others false h = refl

pub others_up : (knows : Bool) (ctrl : Ctrl) → is_terminate ctrl ≡ false → is_encryption (class_up knows ctrl) ≡ false → is_of_others (class_up knows ctrl) ≡ true
others_up knows (VersionInd version company sub) apart plain = version_others knows
others_up knows (RejectExtInd opcode code) apart plain = reject_others (opcode == 3) plain
others_up knows (TerminateInd code) apart plain = absurd (cc)
others_up knows (EncReq rand ediv skd_m iv_m) apart plain = absurd (cc)
others_up knows (EncRsp skd_s iv_s) apart plain = absurd (cc)
others_up knows StartEncReq apart plain = absurd (cc)
others_up knows StartEncRsp apart plain = absurd (cc)
others_up knows PauseEncReq apart plain = absurd (cc)
others_up knows PauseEncRsp apart plain = absurd (cc)
others_up knows (RejectInd code) apart plain = absurd (cc)
others_up knows ctrl apart plain = refl

reject_ends : (b : Bool) → is_terminate_class (if b then Refusal else Other) ≡ false
reject_ends true = refl
reject_ends false = refl

pub ends_up : (knows : Bool) (ctrl : Ctrl) → is_terminate ctrl ≡ false → is_terminate_class (class_up knows ctrl) ≡ false
ends_up knows (VersionInd version company sub) apart = (version_plain knows).1
ends_up knows (RejectExtInd opcode code) apart = reject_ends (opcode == 3)
ends_up knows (TerminateInd code) apart = absurd (cc)
ends_up knows ctrl apart = refl

pub ends_down : (knows : Bool) (ctrl : Ctrl) → is_terminate ctrl ≡ false → is_terminate_class (class_down knows ctrl) ≡ false
ends_down knows (VersionInd version company sub) apart = (version_plain knows).1
ends_down knows (TerminateInd code) apart = absurd (cc)
ends_down knows ctrl apart = refl

pub encryption_up : (knows : Bool) (ctrl : Ctrl) → is_encryption (class_up knows ctrl) ≡ is_encryption (ctrl_class ctrl)
encryption_up knows (VersionInd version company sub) = (version_plain knows).0
encryption_up knows ctrl = refl

-- of the central
reject_session : (b : Bool) → is_session (if b then Refusal else Other) ≡ false
reject_session true = refl
reject_session false = refl

pub others_down : (knows : Bool) (ctrl : Ctrl) → is_terminate ctrl ≡ false → is_encryption (class_down knows ctrl) ≡ false
    → (is_of_others (class_down knows ctrl) ≡ true) × (is_session (ctrl_class ctrl) ≡ false)
others_down knows (VersionInd version company sub) apart plain = (version_others knows, refl)
others_down knows (RejectExtInd opcode code) apart plain = (refl, reject_session (opcode == 3))
others_down knows (TerminateInd code) apart plain = absurd (cc)
others_down knows (EncReq rand ediv skd_m iv_m) apart plain = absurd (cc)
others_down knows (EncRsp skd_s iv_s) apart plain = absurd (cc)
others_down knows StartEncReq apart plain = absurd (cc)
others_down knows StartEncRsp apart plain = absurd (cc)
others_down knows PauseEncReq apart plain = absurd (cc)
others_down knows PauseEncRsp apart plain = absurd (cc)
others_down knows (RejectInd code) apart plain = absurd (cc)
others_down knows ctrl apart plain = (refl, refl)

pub encryption_down : (knows : Bool) (ctrl : Ctrl) → is_encryption (class_down knows ctrl) ≡ true
    → (class_down knows ctrl ≡ ctrl_class ctrl) × (is_version_ctrl ctrl ≡ false)
encryption_down true (VersionInd version company sub) enc = absurd (cc)
encryption_down false (VersionInd version company sub) enc = absurd (cc)
encryption_down knows (RejectExtInd opcode code) enc = absurd (cc)
encryption_down knows (FeatureReq features) enc = absurd (cc)
encryption_down knows (ConnectionParamRsp min max latency timeout periodicity reference offsets) enc = absurd (cc)
encryption_down knows ctrl enc = (refl, refl)

-- ---- by phase

not_is : (b : Bool) → not b ≡ true → b ≡ false
not_is true h = absurd (cc)
not_is false h = refl

pub plain_in_quiet : (phase : PhaseFacts) (k : PduClass) → is_quiet phase ≡ true → has_meaning central_role phase k ≡ true → is_encryption k ≡ false
plain_in_quiet clear_phase k quiet means = not_is (is_encryption k) means
plain_in_quiet Secure k quiet means = not_is (is_encryption k) means
plain_in_quiet phase k quiet means = absurd (cc)

-- outside Clear and Secure no other PDU is allowed
other_in_quiet : (phase : PhaseFacts) → is_quiet phase ≡ false → allows phase central_role Other ≡ true → ⊥
other_in_quiet clear_phase unquiet may = absurd (cc)
other_in_quiet Secure unquiet may = absurd (cc)
other_in_quiet (Asked after_pause rsp kept) unquiet may = absurd (cc)
other_in_quiet phase unquiet may = absurd (cc)

pub class_unquiet : (knows : Bool) (ctrl : Ctrl) (phase : PhaseFacts) → is_quiet phase ≡ false → allows phase central_role (class_up knows ctrl) ≡ true
    → class_up knows ctrl ≡ ctrl_class ctrl
class_unquiet true (VersionInd version company sub) phase unquiet may = absurd (other_in_quiet phase unquiet may)
class_unquiet false (VersionInd version company sub) phase unquiet may = refl
class_unquiet knows ctrl phase unquiet may = refl

pub down_in_quiet : (k : PduClass) (phase : PhaseFacts) → is_of_others k ≡ true → allows phase peripheral_role k ≡ true → is_quiet phase ≡ true
down_in_quiet k clear_phase is may = refl
down_in_quiet k Secure is may = refl
down_in_quiet Other (Asked after_pause rsp kept) is may = absurd (cc)
down_in_quiet Other phase is may = absurd (cc)
down_in_quiet Request (Asked after_pause rsp kept) is may = absurd (cc)
down_in_quiet Request phase is may = absurd (cc)
down_in_quiet k phase is may = absurd (cc)

-- ---- ways

pub taken_same : (knows : Bool) (w : Way) → (is_way_taken (way_down knows w) ≡ is_taken w) × (is_way_taken (way_up knows w) ≡ is_taken w)
taken_same knows Clear = (refl, refl)
taken_same knows (Fixed item sealed) = (refl, refl)
taken_same knows (OnAir item sealed) = (refl, refl)
taken_same knows (Taken item) = (refl, refl)

-- a first LL_VERSION_IND on the air
pub request_down : (w : Way) → is_item is_version (item_on_air w) ≡ true → is_on_air is_request (way_down false w) ≡ true
request_down (OnAir (Control outgoing ctrl) sealed) h = ap is_request (version_down false ctrl h)
request_down (OnAir Data sealed) h = absurd (cc)
request_down Clear h = absurd (cc)
request_down (Fixed item sealed) h = absurd (cc)
request_down (Taken item) h = absurd (cc)

pub request_up : (w : Way) → is_version_coming w ≡ true → is_coming is_request (way_up false w) ≡ true
request_up (OnAir (Control outgoing ctrl) sealed) h = ap is_request (version_up false ctrl h)
request_up (Fixed (Control outgoing ctrl) sealed) h = ap is_request (version_up false ctrl h)
request_up (OnAir Data sealed) h = absurd (cc)
request_up (Fixed Data sealed) h = absurd (cc)
request_up Clear h = absurd (cc)
request_up (Taken item) h = absurd (cc)

class_same_down : (knows now : Bool) (ctrl : Ctrl) → is_version_ctrl ctrl ≡ false → class_down now ctrl ≡ class_down knows ctrl
class_same_down knows now (VersionInd version company sub) h = absurd (cc)
class_same_down knows now ctrl h = refl

class_same_up : (knows now : Bool) (ctrl : Ctrl) → is_version_ctrl ctrl ≡ false → class_up now ctrl ≡ class_up knows ctrl
class_same_up knows now (VersionInd version company sub) h = absurd (cc)
class_same_up knows now ctrl h = refl

pause_version : (knows now : Bool) → is_pause_rsp (version_class now) ≡ is_pause_rsp (version_class knows)
pause_version true true = refl
pause_version true false = refl
pause_version false true = refl
pause_version false false = refl

pause_same : (knows now : Bool) (item : Item) → is_pause_rsp (item_class (class_down now) item) ≡ is_pause_rsp (item_class (class_down knows) item)
pause_same knows now Data = refl
pause_same knows now (Control outgoing (VersionInd version company sub)) = pause_version knows now
pause_same knows now (Control outgoing ctrl) = refl

-- with no LL_VERSION_IND on the air it does not matter what is known
pub unversioned_down : (knows now : Bool) (w : Way) → is_way_fixed (way_down knows w) ≡ false → is_item is_version (item_on_air w) ≡ false → way_down now w ≡ way_down knows w
unversioned_down knows now Clear fixed none = refl
unversioned_down knows now (Fixed item sealed) fixed none = absurd (cc)
unversioned_down knows now (OnAir Data sealed) fixed none = refl
unversioned_down knows now (OnAir (Control outgoing ctrl) sealed) fixed none = ap (λ k. way_on_air k sealed) (class_same_down knows now ctrl none)
unversioned_down knows now (Taken item) fixed none = ap way_taken (pause_same knows now item)

pub unversioned_up : (knows now : Bool) (w : Way) → is_version_coming w ≡ false → way_up now w ≡ way_up knows w
unversioned_up knows now Clear none = refl
unversioned_up knows now (Fixed Data sealed) none = refl
unversioned_up knows now (OnAir Data sealed) none = refl
unversioned_up knows now (Fixed (Control outgoing ctrl) sealed) none = ap (λ k. way_fixed k sealed) (class_same_up knows now ctrl none)
unversioned_up knows now (OnAir (Control outgoing ctrl) sealed) none = ap (λ k. way_on_air k sealed) (class_same_up knows now ctrl none)
unversioned_up knows now (Taken item) none = refl

-- one that is on its way is no first PDU any more
pub kept_down : (w : Way) → is_item is_version (item_on_air w) ≡ true → way_kept Other (way_down false w) ≡ way_down true w
kept_down (OnAir (Control outgoing ctrl) sealed) h = ap (λ k. way_on_air k sealed) (sym (version_down true ctrl h))
kept_down (OnAir Data sealed) h = absurd (cc)
kept_down Clear h = absurd (cc)
kept_down (Fixed item sealed) h = absurd (cc)
kept_down (Taken item) h = absurd (cc)

pub kept_up : (w : Way) → is_version_coming w ≡ true → way_kept Other (way_up false w) ≡ way_up true w
kept_up (OnAir (Control outgoing ctrl) sealed) h = ap (λ k. way_on_air k sealed) (sym (version_up true ctrl h))
kept_up (Fixed (Control outgoing ctrl) sealed) h = ap (λ k. way_fixed k sealed) (sym (version_up true ctrl h))
kept_up (OnAir Data sealed) h = absurd (cc)
kept_up (Fixed Data sealed) h = absurd (cc)
kept_up Clear h = absurd (cc)
kept_up (Taken item) h = absurd (cc)
