-- What every step but sending and an acknowledgement keeps of an end: a property of its control part is kept by each of its
-- phased steps where it is kept by the steps of the control part.
use Rattle.std.proofs.Common.{ℕ, Bool, true, false, if◌then◌else◌, Option, Some, None}
use Rattle.ble_base.specs.declared.error_codes.ErrCode.{ErrCode}
use Rattle.ble_base.specs.declared.roles.Role.{Role}
use Rattle.ble_base.specs.declared.roles.Role.TheVariants.{Central, Peripheral}
use Rattle.data_pdu.specs.declared.ctrl.Ctrl.{Ctrl}
use Rattle.data_pdu.specs.declared.ctrl.Ctrl.TheVariants.{EncReq, PauseEncReq, PauseEncRsp, StartEncReq, StartEncRsp}
use Rattle.data_pdu.specs.declared.ctrl.CtrlRead.{CtrlRead}
use Rattle.data_pdu.specs.declared.ctrl.CtrlRead.TheVariants.{Bare, Known, Unknown}
use Rattle.phased_control.specs.enc_phase.declared.classes.PduClass.{PduClass}
use Rattle.phased_control.specs.enc_phase.declared.classes.PduClass.TheVariants.{Refusal}
use Rattle.phased_control.specs.enc_phase.declared.facts.PhaseFacts.{PhaseFacts}
use Rattle.phased_control.specs.enc_phase.declared.facts.PhaseFacts.TheVariants.{Clear}
use Rattle.phased_control.specs.enc_phase.declared.facts.Transition.{Transition}
use Rattle.phased_control.specs.enc_phase.declared.facts.Transition.TheVariants.{Ask as AskTransition, Confirm, Pause, Unlock}
use Rattle.phased_control.specs.enc_phase.Taking.{ctrl_class}
use Rattle.phased_control.specs.control_model.Control.{Control, Owes, Takes, after, ended}
use Rattle.phased_control.specs.Phased.{Phased, asking_if, encrypting, encrypting_if, if_key_asked, is_open_now, key_given, key_lacking, refused_if, with_owed, with_owed_if}
use Rattle.phased_control.specs.Taken.{Response, answered_if_quiet, answered_kept, asked, ciphered, ciphered_at, ciphered_at_central, ciphered_at_peripheral, goes_on, moved_if, moved_to, refused_by, response_ctrl, started, took, took_allowed, took_data}

pub choice : {A : Type 0} (P : A → Type 0) (b : Bool) (x y : A) → P x → P y → P (if b then x else y)
choice P true x y hx hy = hx
choice P false x y hx hy = hy

-- ---- the PDUs of the encryption: a property of an end that a queued PDU keeps, and that says nothing of its phase

module _ (Q : Phased → Type 0)
    (owes : (ctrl : Ctrl) (s : Phased) → Q s → Q (with_owed ctrl s))
    (phases : (phase : PhaseFacts) (s : Phased) → Q s → Q (record s { phase = phase }))
    (keys : (asks : Bool) (s : Phased) → Q s → Q (record s { asks_key = asks }))
    (requests : (request : Option Ctrl) (s : Phased) → Q s → Q (record s { request = request })) where
  owed_keeps_end : (ctrl : Option Ctrl) (s : Phased) → Q s → Q (with_owed_if ctrl s)
  owed_keeps_end None s h = h
  owed_keeps_end (Some ctrl) s h = owes ctrl s h

  -- what begins, what is asked again, and what the host of a peripheral answers
  encrypting_keeps : (phase : PhaseFacts) (s : Phased) → Q s → Q (encrypting phase s)
  encrypting_keeps Clear s h = owed_keeps_end s.request _ (phases _ s h)
  encrypting_keeps phase s h = owes PauseEncReq _ (phases _ s h)

  pub encrypting_if_keeps_end : (b : Bool) (request : Option Ctrl) (s : Phased) → Q s → Q (encrypting_if b request s)
  encrypting_if_keeps_end true request s h = encrypting_keeps s.phase _ (requests request s h)
  encrypting_if_keeps_end false request s h = h

  pub asking_keeps_end : (b : Bool) (s : Phased) → Q s → Q (asking_if b s)
  asking_keeps_end true s h = owed_keeps_end s.request _ (phases _ s h)
  asking_keeps_end false s h = h

  refused_keeps : (b : Bool) (s : Phased) → Q s → Q (refused_if b s)
  refused_keeps true s h = owes _ _ (keys false _ (phases _ s h))
  refused_keeps false s h = owes _ _ (keys false s h)

  pub given_keeps_end : (s : Phased) → Q s → Q (if_key_asked (key_given s) s)
  given_keeps_end s h = choice Q _ (key_given s) s (owes StartEncReq _ (keys false _ (phases _ s h))) h

  pub lacking_keeps_end : (s : Phased) → Q s → Q (if_key_asked (key_lacking s) s)
  lacking_keeps_end s h = choice Q _ (key_lacking s) s (refused_keeps _ s h) h

  -- a PDU of the peer
  moved_keeps : (transition : Transition) (owed : Option Ctrl) (s : Phased) → Q s → Q (moved_to transition owed s)
  moved_keeps transition None s h = phases _ s h
  moved_keeps transition (Some ctrl) s h = owes ctrl _ (phases _ s h)

  moved_if_keeps : (transition : Transition) (owed : Option Ctrl) (s : Phased) → Q s → Q (moved_if transition owed s)
  moved_if_keeps transition owed s h = choice Q _ (moved_to transition owed s) s (moved_keeps transition owed s h) h

  started_keeps : (s : Phased) → Q s → Q (started s)
  started_keeps s h = choice Q _ _ s (owes StartEncRsp _ (phases _ s h)) h

  asked_keeps : (response : Response) (s : Phased) → Q s → Q (asked response s)
  asked_keeps response s h =
      choice Q _ (moved_to AskTransition (Some (response_ctrl response)) (record s { asks_key = is_open_now s })) s
      (moved_keeps AskTransition (Some (response_ctrl response)) _ (keys _ s h)) h

  refused_by_keeps : (pdu : PduClass) (s : Phased) → Q s → Q (refused_by pdu s)
  refused_by_keeps Refusal s h = choice Q _ s _ h (phases _ s h)
  refused_by_keeps pdu s h = h

  at_central_keeps : (ctrl : Ctrl) (s : Phased) → Q s → Q (ciphered_at_central ctrl s)
  at_central_keeps StartEncReq s h = started_keeps s h
  at_central_keeps StartEncRsp s h = moved_if_keeps Confirm None s h
  at_central_keeps PauseEncRsp s h = moved_if_keeps Unlock (Some PauseEncRsp) s h
  at_central_keeps ctrl s h = refused_by_keeps (ctrl_class ctrl) s h

  at_peripheral_keeps : (response : Response) (ctrl : Ctrl) (s : Phased) → Q s → Q (ciphered_at_peripheral response ctrl s)
  at_peripheral_keeps response (EncReq rand ediv skd_m iv_m) s h = asked_keeps response s h
  at_peripheral_keeps response PauseEncReq s h = moved_if_keeps Pause (Some PauseEncRsp) s h
  at_peripheral_keeps response StartEncRsp s h = moved_if_keeps Confirm (Some StartEncRsp) s h
  at_peripheral_keeps response PauseEncRsp s h = moved_if_keeps Unlock None s h
  at_peripheral_keeps response ctrl s h = h

  ciphered_at_keeps : (role : Role) (response : Response) (ctrl : Ctrl) (s : Phased) → Q s → Q (ciphered_at role response ctrl s)
  ciphered_at_keeps Central response ctrl s h = at_central_keeps ctrl s h
  ciphered_at_keeps Peripheral response ctrl s h = at_peripheral_keeps response ctrl s h

  pub ciphered_keeps_end : (response : Response) (read : CtrlRead) (s : Phased) → Q s → Q (ciphered response read s)
  ciphered_keeps_end response (Known ctrl) s h = ciphered_at_keeps _ response ctrl s h
  ciphered_keeps_end response (Unknown opcode) s h = h
  ciphered_keeps_end response Bare s h = h

-- the same of its control part alone
module _ (P : Control → Type 0) (owes : (ctrl : Ctrl) (c : Control) → P c → P (after (Owes ctrl) c)) where
  abbrev Q : Phased → Type 0
  Q s = P s.control

  pub owed_keeps : (ctrl : Option Ctrl) (s : Phased) → Q s → Q (with_owed_if ctrl s)
  owed_keeps = owed_keeps_end Q (λ ctrl s. owes ctrl s.control) (λ phase s h. h) (λ asks s h. h) (λ request s h. h)

  pub encrypting_if_keeps : (b : Bool) (request : Option Ctrl) (s : Phased) → Q s → Q (encrypting_if b request s)
  encrypting_if_keeps = encrypting_if_keeps_end Q (λ ctrl s. owes ctrl s.control) (λ phase s h. h) (λ asks s h. h) (λ request s h. h)

  pub asking_keeps : (b : Bool) (s : Phased) → Q s → Q (asking_if b s)
  asking_keeps = asking_keeps_end Q (λ ctrl s. owes ctrl s.control) (λ phase s h. h) (λ asks s h. h) (λ request s h. h)

  pub given_keeps : (s : Phased) → Q s → Q (if_key_asked (key_given s) s)
  given_keeps = given_keeps_end Q (λ ctrl s. owes ctrl s.control) (λ phase s h. h) (λ asks s h. h) (λ request s h. h)

  pub lacking_keeps : (s : Phased) → Q s → Q (if_key_asked (key_lacking s) s)
  lacking_keeps = lacking_keeps_end Q (λ ctrl s. owes ctrl s.control) (λ phase s h. h) (λ asks s h. h) (λ request s h. h)

  pub ciphered_keeps : (response : Response) (read : CtrlRead) (s : Phased) → Q s → Q (ciphered response read s)
  ciphered_keeps = ciphered_keeps_end Q (λ ctrl s. owes ctrl s.control) (λ phase s h. h) (λ asks s h. h) (λ request s h. h)

-- ---- a PDU of the peer, whole

module _ (P : Control → Type 0)
    (owes : (ctrl : Ctrl) (c : Control) → P c → P (after (Owes ctrl) c))
    (takes : (read : CtrlRead) (slot : ℕ) (quiet : Bool) (c : Control) → P c → P (after (Takes read slot quiet) c))
    (ends : (code : ErrCode) (c : Control) → P c → P (ended code c)) where
  abbrev R : Phased → Type 0
  R s = P s.control

  answered_keeps : (slot : ℕ) (kept : Option Ctrl) (s : Phased) → R s → R (answered_kept slot kept s)
  answered_keeps slot None s h = h
  answered_keeps slot (Some ctrl) s h = takes (Known ctrl) slot true s.control h

  answered_if_keeps : (slot : ℕ) (s : Phased) → R s → R (answered_if_quiet slot s)
  answered_if_keeps slot s h = choice R _ (answered_kept slot s.kept s) s (answered_keeps slot s.kept s h) h

  goes_keeps : (slot : ℕ) (response : Response) (read : CtrlRead) (s : Phased) → R s → R (goes_on slot response read s)
  goes_keeps slot response read s h =
      choice R _ (answered_if_quiet slot (ciphered response read s)) s
      (answered_if_keeps slot (ciphered response read s) (ciphered_keeps P owes response read s h)) h

  allowed_keeps : (slot : ℕ) (response : Response) (read : CtrlRead) (s : Phased) → R s → R (took_allowed slot response read s)
  allowed_keeps slot response read s h =
      choice R _ _ _ h (choice R _ _ _ (ends _ s.control h) (goes_keeps slot response read _ (takes _ slot _ s.control h)))

  pub took_keeps : (slot : ℕ) (response : Response) (read : CtrlRead) (s : Phased) → R s → R (took slot response read s)
  took_keeps slot response read s h =
      choice R _ (took_allowed slot response read s) _ (allowed_keeps slot response read s h) (ends _ s.control h)

  pub data_keeps : (s : Phased) → R s → R (took_data s)
  data_keeps s h = choice R _ s _ h (ends _ s.control h)
