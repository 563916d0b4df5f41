-- With its phase an end that encrypts nothing takes a PDU as its control part takes it.
use Rattle.std.proofs.Common.{◌≡◌, ◌==◌, ℕ, nat_le, ◌&&◌, ◌||◌, Bool, true, false, Option, None, is_none, if◌then◌else◌, refl, ap, ◌∙◌}
use Rattle.ble_base.specs.ErrorCodes.{memory_capacity_exceeded}
use Rattle.ble_base.specs.declared.error_codes.ErrCode.{ErrCode}
use Rattle.ble_base.specs.declared.roles.Role.{Role}
use Rattle.ble_base.specs.declared.roles.Role.TheVariants.{Central, Peripheral}
use Rattle.data_pdu.specs.declared.ctrl.Ctrl.{Ctrl}
use Rattle.data_pdu.specs.declared.ctrl.Ctrl.TheVariants.{EncReq, EncRsp, PauseEncReq, PauseEncRsp, RejectExtInd, StartEncReq, StartEncRsp}
use Rattle.data_pdu.specs.declared.ctrl.CtrlRead.{CtrlRead}
use Rattle.data_pdu.specs.declared.ctrl.CtrlRead.TheVariants.{Bare, Known, Unknown}
use Rattle.data_pdu.specs.Reading.{opcode_of}
use Rattle.phased_control.specs.enc_phase.declared.classes.PduClass.{PduClass}
use Rattle.phased_control.specs.enc_phase.declared.classes.PduClass.TheVariants.{EncRsp as enc_rsp, Other, Refusal, Request}
use Rattle.phased_control.specs.enc_phase.declared.facts.PhaseFacts.{PhaseFacts}
use Rattle.phased_control.specs.enc_phase.declared.facts.PhaseFacts.TheVariants.{Clear}
use Rattle.phased_control.specs.enc_phase.Taking.{ctrl_class, is_unknown, phase_taking}
use Rattle.phased_control.specs.procedure_stages.Foreign.{is_foreign}
use Rattle.phased_control.specs.procedure_stages.Kinds.{role_of}
use Rattle.phased_control.specs.procedure_stages.Queue.{waiting_in}
use Rattle.phased_control.specs.procedures.declared.outcome.Outcome.{Outcome}
use Rattle.phased_control.specs.procedures.Taking.{settled, taken_by_role}
use Rattle.phased_control.specs.procedures.Outcomes.{unknown}
use Rattle.phased_control.specs.table_laws.Encrypting.{has_encryption}
use Rattle.phased_control.specs.control_model.Control.{Control, after, indicated_by, moved, taken}
use Rattle.phased_control.specs.control_model.Control.{Takes as control_takes}
use Rattle.phased_control.specs.Phased.{Phased, is_open_now}
use Rattle.phased_control.specs.Taken.{Response, Takes, answered_if_quiet, ciphered, ciphered_at, class_of_read, does_keep, ended_with, goes_on, handed_on, is_answered_at, is_version, keeping, keeps_class, lacks_room_now, phased_after, refused_by, role_now, seen_as, seen_if, took, is_answered}
use Rattle.phased_control.specs.control_model.Supported.{read_supported}
use Rattle.unencrypted_ends.specs.Unencrypted.{is_enc_req, plain_phased}

-- ---- in phase Clear nothing is kept, and no PDU of the encryption but LL_ENC_REQ is answered

pub none_kept : (pdu : PduClass) (role : Role) → keeps_class pdu role true ≡ false
none_kept Request Central = refl
none_kept Request Peripheral = refl
none_kept pdu role = refl

pub none_answered : (role : Role) (ctrl : Ctrl) → is_enc_req (Known ctrl) ≡ false → is_answered_at role ctrl Clear ≡ false
none_answered Central StartEncReq is = refl
none_answered Central PauseEncRsp is = refl
none_answered Peripheral (EncReq rand ediv skd_m iv_m) is = absurd (cc)
none_answered Peripheral PauseEncReq is = refl
none_answered Peripheral StartEncRsp is = refl
none_answered role ctrl is = refl

left_taking : (pdu : PduClass) → phase_taking pdu Clear ≡ Clear
left_taking enc_rsp = refl
left_taking pdu = refl

module _ (c : Control) (knows : Bool) where
  abbrev s : Phased
  s = plain_phased c knows

  none_read : (read : CtrlRead) → is_enc_req read ≡ false → is_answered read s ≡ false
  none_read (Known ctrl) is = none_answered (role_now s) ctrl is
  none_read (Unknown opcode) is = refl
  none_read Bare is = refl

  has_room : (read : CtrlRead) → is_enc_req read ≡ false → lacks_room_now read s ≡ false
  has_room read is = by (is_open_now s) (nat_le 16 (waiting_in c.table.queue)) (is_answered read s) (none_read read is)
    where
      by : (lasts full answered : Bool) → answered ≡ false → (lasts && (full && answered)) ≡ false
      by true true answered is = is
      by true false answered is = refl
      by false full answered is = refl

  -- ---- no PDU of the encryption is owed, and no session begins

  left_by_refusal : (pdu : PduClass) → refused_by pdu s ≡ s
  left_by_refusal Refusal = by (has_encryption c.table.progress)
    where
      by : (b : Bool) → (if b then s else s) ≡ s
      by true = refl
      by false = refl
  left_by_refusal pdu = refl

  left_at : (role : Role) (response : Response) (ctrl : Ctrl) → is_enc_req (Known ctrl) ≡ false → ciphered_at role response ctrl s ≡ s
  left_at Central response StartEncReq is = refl
  left_at Central response StartEncRsp is = refl
  left_at Central response PauseEncRsp is = refl
  left_at Central response ctrl is = left_by_refusal (ctrl_class ctrl)
  left_at Peripheral response (EncReq rand ediv skd_m iv_m) is = absurd (cc)
  left_at Peripheral response PauseEncReq is = refl
  left_at Peripheral response StartEncRsp is = refl
  left_at Peripheral response PauseEncRsp is = refl
  left_at Peripheral response ctrl is = refl

  left_by : (response : Response) (read : CtrlRead) → is_enc_req read ≡ false → ciphered response read s ≡ s
  left_by response (Known ctrl) is = left_at (role_now s) response ctrl is
  left_by response (Unknown opcode) is = refl
  left_by response Bare is = refl

  -- so nothing comes after the procedures have seen it
  left_then : (slot : ℕ) (response : Response) (read : CtrlRead) → is_enc_req read ≡ false → goes_on slot response read s ≡ s
  left_then slot response read is = by (is_none c.ends) (ciphered response read s) (left_by response read is)
    where
      by : (b : Bool) (t : Phased) → t ≡ s → (if b then answered_if_quiet slot t else s) ≡ s
      by true t same = ap (answered_if_quiet slot) same
      by false t same = refl

-- ---- what the procedures see

-- a PDU that has no meaning at the end counts as one that is not supported
foreign_unknown : (c : Control) (ctrl : Ctrl) (slot : ℕ) → is_foreign (role_of c.table.progress) ctrl ≡ true
    → after (control_takes (Unknown (opcode_of ctrl)) slot true) c ≡ after (control_takes (Known ctrl) slot true) c
foreign_unknown c ctrl slot is = ap after_outcome (by (is_foreign (role_of c.table.progress) ctrl) is)
  where
    after_outcome : Outcome → Control
    after_outcome o =
        let step = settled c.table slot o in
        if is_none c.ends then taken step.0 step.1.ends (indicated_by step.1.effect) c else c

    by : (b : Bool) → b ≡ true → unknown c.table (opcode_of ctrl) ≡ (if b then unknown c.table (opcode_of ctrl) else taken_by_role c.table.progress c.table true ctrl)
    by true is = refl
    by false is = absurd (cc)

module _ (c : Control) (slot : ℕ) where
  abbrev after_taking : CtrlRead → Control
  after_taking read = after (control_takes read slot true) c

  pub seen_rejecting : (role : Role) (opcode code : ℕ) → is_unknown Clear role (ctrl_class (RejectExtInd opcode code)) ≡ false
  seen_rejecting Central opcode code = by (opcode == 3)
    where
      by : (b : Bool) → is_unknown Clear Central (if b then Refusal else Other) ≡ false
      by true = refl
      by false = refl
  seen_rejecting Peripheral opcode code = by (opcode == 3)
    where
      by : (b : Bool) → is_unknown Clear Peripheral (if b then Refusal else Other) ≡ false
      by true = refl
      by false = refl

  seen_ctrl : (role : Role) (ctrl : Ctrl) → role_of c.table.progress ≡ role → is_enc_req (Known ctrl) ≡ false
      → after_taking (seen_if (is_unknown Clear role (ctrl_class ctrl)) (Known ctrl)) ≡ after_taking (read_supported (Known ctrl))
  seen_ctrl role (RejectExtInd opcode code) at is = rw (seen_rejecting role opcode code) refl
  seen_ctrl Central ctrl at is = refl
  seen_ctrl Peripheral (EncReq rand ediv skd_m iv_m) at is = absurd (cc)
  seen_ctrl Peripheral (EncRsp skd_s iv_s) at is = foreign_unknown c (EncRsp skd_s iv_s) slot (rw at refl)
  seen_ctrl Peripheral StartEncReq at is = foreign_unknown c StartEncReq slot (rw at refl)
  seen_ctrl Peripheral ctrl at is = refl

  seen_unknown : (b : Bool) (opcode : ℕ) → seen_if b (Unknown opcode) ≡ Unknown opcode
  seen_unknown true opcode = refl
  seen_unknown false opcode = refl

  seen_bare : (b : Bool) → seen_if b Bare ≡ Bare
  seen_bare true = refl
  seen_bare false = refl

  seen_supported : (knows : Bool) (read : CtrlRead) → is_enc_req read ≡ false → after_taking (seen_as read (plain_phased c knows)) ≡ after_taking (read_supported read)
  seen_supported knows (Known ctrl) is = seen_ctrl (role_of c.table.progress) ctrl refl is
  seen_supported knows (Unknown opcode) is = ap after_taking (seen_unknown _ opcode)
  seen_supported knows Bare is = ap after_taking (seen_bare _)

-- ---- a PDU is taken

module _ (c : Control) (knows : Bool) (read : CtrlRead) (slot : ℕ) (response : Response) (is : is_enc_req read ≡ false) where
  abbrev next : Phased
  next = plain_phased (after (control_takes (read_supported read) slot true) c) (knows || is_version read)

  handed : handed_on slot response read (plain_phased c knows) ≡ next
  handed =
      ap (λ (phase : PhaseFacts). goes_on slot response read (record seen { phase = phase })) (left_taking (class_of_read read))
      ∙ left_then (after (control_takes (seen_as read (plain_phased c knows)) slot true) c) (knows || is_version read) slot response read is
      ∙ ap (λ (d : Control). plain_phased d (knows || is_version read)) (seen_supported c slot knows read is)
    where
      seen : Phased
      seen = plain_phased (after (control_takes (seen_as read (plain_phased c knows)) slot true) c) (knows || is_version read)

  took_next : took slot response read (plain_phased c knows) ≡ next
  took_next =
      by (does_keep read (plain_phased c knows)) (lacks_room_now read (plain_phased c knows)) (none_kept (class_of_read read) (role_of c.table.progress)) (has_room c knows read is)
    where
      by : (keeps full : Bool) → keeps ≡ false → full ≡ false
          → (if keeps then keeping read (plain_phased c knows) else (if full then ended_with memory_capacity_exceeded (plain_phased c knows) else handed_on slot response read (plain_phased c knows))) ≡ next
      by true full none room = absurd (cc)
      by false true none room = absurd (cc)
      by false false none room = handed

  pub takes_goes : c.ends ≡ None → phased_after (Takes read slot response) (plain_phased c knows) ≡ next
  takes_goes lasts = by (is_none c.ends) (ap (λ (ends : Option ErrCode). is_none ends) lasts)
    where
      by : (b : Bool) → b ≡ true → (if b then took slot response read (plain_phased c knows) else plain_phased c knows) ≡ next
      by true lasting = took_next
      by false lasting = absurd (cc)

  pub takes_control_goes : (phased_after (Takes read slot response) (plain_phased c knows)).control ≡ after (control_takes (read_supported read) slot true) c
  takes_control_goes = by (is_none c.ends) refl
    where
      by : (b : Bool) → is_none c.ends ≡ b
          → (if b then took slot response read (plain_phased c knows) else plain_phased c knows).control ≡ (if b then moved (control_takes (read_supported read) slot true) c else c)
      by true lasting = ap (λ (t : Phased). t.control) took_next ∙ rw lasting refl
      by false lasting = refl
