-- What a phase makes of a PDU that is not of the encryption.
use Rattle.std.proofs.Common.{◌≡◌, ◌==◌, Bool, true, false, ◌&&◌, refl, if◌then◌else◌}
use Rattle.ble_base.specs.declared.roles.Role.{Role}
use Rattle.ble_base.specs.declared.roles.Role.TheVariants.{Central, Peripheral}
use Rattle.data_pdu.specs.declared.ctrl.Ctrl.{Ctrl}
use Rattle.data_pdu.specs.declared.ctrl.Ctrl.TheVariants.{EncReq as enc_req, PauseEncReq as pause_enc_req, PauseEncRsp as pause_enc_rsp, RejectExtInd, RejectInd, StartEncReq as start_enc_req, StartEncRsp as start_enc_rsp}
use Rattle.phase_pairs.specs.enc_phase.declared.classes.PduClass.{PduClass}
use Rattle.phase_pairs.specs.enc_phase.declared.classes.PduClass.TheVariants.{EncReq, EncRsp, Other, PauseEncReq, PauseEncRsp, Refusal, Request, StartEncReq, StartEncRsp}
use Rattle.phase_pairs.specs.enc_phase.declared.facts.PhaseFacts.{PhaseFacts}
use Rattle.phase_pairs.specs.enc_phase.declared.facts.PhaseFacts.TheVariants.{Clear, Secure}
use Rattle.phase_pairs.specs.enc_phase.Phases.{is_quiet}
use Rattle.phase_pairs.specs.enc_phase.Taking.{allows, ctrl_class, is_unknown, phase_taking}
use Rattle.phase_pairs.specs.Agreement.{is_encryption}
use Rattle.joint_controls.specs.phased_control.Phased.{Phased}
use Rattle.joint_controls.specs.phased_control.Taken.{Response, ciphered_at_central, ciphered_at_peripheral, is_answered_at, keeps_class, refused_by}

pub allows_quiet : (phase : PhaseFacts) (role : Role) (k : PduClass) → is_quiet phase ≡ true → allows phase role k ≡ true
allows_quiet Clear role k quiet = refl
allows_quiet Secure role k quiet = refl
allows_quiet phase role k quiet = absurd (cc)

pub keeps_quiet : (k : PduClass) (role : Role) (quiet : Bool) → quiet ≡ true → keeps_class k role quiet ≡ false
keeps_quiet Request Central true is = refl
keeps_quiet Request Central false is = absurd (cc)
keeps_quiet Request Peripheral quiet is = refl
keeps_quiet k role quiet is = refl

pub never_keeps : (k : PduClass) (quiet : Bool) → keeps_class k Peripheral quiet ≡ false
never_keeps Request quiet = refl
never_keeps k quiet = refl

pub room_now : (a b answered : Bool) → answered ≡ false → (a && (b && answered)) ≡ false
room_now true true false is = refl
room_now true false answered is = refl
room_now false b answered is = refl
room_now true true true is = absurd (cc)

pub unanswered : (role : Role) (ctrl : Ctrl) (phase : PhaseFacts) → is_encryption (ctrl_class ctrl) ≡ false → is_answered_at role ctrl phase ≡ false
unanswered Central start_enc_req phase plain = absurd (cc)
unanswered Central pause_enc_rsp phase plain = absurd (cc)
unanswered Central ctrl phase plain = refl
unanswered Peripheral (enc_req rand ediv skd_m iv_m) phase plain = absurd (cc)
unanswered Peripheral pause_enc_req phase plain = absurd (cc)
unanswered Peripheral start_enc_rsp phase plain = absurd (cc)
unanswered Peripheral ctrl phase plain = refl

pub never_unknown : (phase : PhaseFacts) (role : Role) (k : PduClass) → is_encryption k ≡ false → is_unknown phase role k ≡ false
never_unknown Clear Central EncReq plain = absurd (cc)
never_unknown Clear Central PauseEncReq plain = absurd (cc)
never_unknown Clear Central k plain = refl
never_unknown Clear Peripheral PauseEncReq plain = absurd (cc)
never_unknown Clear Peripheral EncRsp plain = absurd (cc)
never_unknown Clear Peripheral StartEncReq plain = absurd (cc)
never_unknown Clear Peripheral k plain = refl
never_unknown Secure Central EncReq plain = absurd (cc)
never_unknown Secure Central PauseEncReq plain = absurd (cc)
never_unknown Secure Central k plain = refl
never_unknown Secure Peripheral EncReq plain = absurd (cc)
never_unknown Secure Peripheral EncRsp plain = absurd (cc)
never_unknown Secure Peripheral StartEncReq plain = absurd (cc)
never_unknown Secure Peripheral k plain = refl
never_unknown phase role k plain = refl

pub taking_quiet : (k : PduClass) (phase : PhaseFacts) → is_quiet phase ≡ true → phase_taking k phase ≡ phase
taking_quiet EncRsp Clear quiet = refl
taking_quiet EncRsp Secure quiet = refl
taking_quiet EncRsp phase quiet = absurd (cc)
taking_quiet Request Clear quiet = refl
taking_quiet Request Secure quiet = refl
taking_quiet Request phase quiet = absurd (cc)
taking_quiet k phase quiet = refl

refuses_not : (b : Bool) (t : Phased) → is_encryption (if b then Refusal else Other) ≡ false → refused_by (if b then Refusal else Other) t ≡ t
refuses_not true t plain = absurd (cc)
refuses_not false t plain = refl

pub plain_at_central : (ctrl : Ctrl) (t : Phased) → is_encryption (ctrl_class ctrl) ≡ false → ciphered_at_central ctrl t ≡ t
plain_at_central start_enc_req t plain = absurd (cc)
plain_at_central start_enc_rsp t plain = absurd (cc)
plain_at_central pause_enc_rsp t plain = absurd (cc)
plain_at_central (RejectInd code) t plain = absurd (cc)
plain_at_central (RejectExtInd opcode code) t plain = refuses_not (opcode == 3) t plain
plain_at_central ctrl t plain = refl

-- a PDU of a session, from its start to its pause
abbrev pub is_session : PduClass → Bool
is_session EncReq = true
is_session EncRsp = true
is_session StartEncReq = true
is_session StartEncRsp = true
is_session PauseEncReq = true
is_session PauseEncRsp = true
is_session k = false

pub known_at_peripheral : (phase : PhaseFacts) (k : PduClass) → is_session k ≡ false → is_unknown phase Peripheral k ≡ false
known_at_peripheral Clear PauseEncReq plain = absurd (cc)
known_at_peripheral Clear EncRsp plain = absurd (cc)
known_at_peripheral Clear StartEncReq plain = absurd (cc)
known_at_peripheral Clear k plain = refl
known_at_peripheral Secure EncReq plain = absurd (cc)
known_at_peripheral Secure EncRsp plain = absurd (cc)
known_at_peripheral Secure StartEncReq plain = absurd (cc)
known_at_peripheral Secure k plain = refl
known_at_peripheral phase k plain = refl

pub plain_at_peripheral : (response : Response) (ctrl : Ctrl) (t : Phased) → is_session (ctrl_class ctrl) ≡ false → ciphered_at_peripheral response ctrl t ≡ t
plain_at_peripheral response (enc_req rand ediv skd_m iv_m) t plain = absurd (cc)
plain_at_peripheral response pause_enc_req t plain = absurd (cc)
plain_at_peripheral response start_enc_rsp t plain = absurd (cc)
plain_at_peripheral response pause_enc_rsp t plain = absurd (cc)
plain_at_peripheral response ctrl t plain = refl
