-- What the answer to a PDU makes of an end, part by part.
use Rattle.std.proofs.Common.{◌≡◌, Bool, true, false, if◌then◌else◌, Option, Some, None, refl, ap, sym}
use Rattle.ble_base.specs.declared.roles.Role.{Role}
use Rattle.ble_base.specs.declared.roles.Role.TheVariants.{Central, Peripheral}
use Rattle.data_pdu.specs.declared.ctrl.Ctrl.{Ctrl}
use Rattle.data_pdu.specs.declared.ctrl.Ctrl.TheVariants.{EncReq, PauseEncReq, PauseEncRsp, StartEncReq, StartEncRsp}
use Rattle.data_pdu.specs.declared.ctrl.CtrlRead.{CtrlRead}
use Rattle.data_pdu.specs.declared.ctrl.CtrlRead.TheVariants.{Known, Unknown, Bare}
use Rattle.enc_phase.specs.declared.classes.PduClass.{PduClass}
use Rattle.enc_phase.specs.declared.classes.PduClass.TheVariants.{Refusal}
use Rattle.enc_phase.specs.declared.facts.PhaseFacts.{PhaseFacts}
use Rattle.enc_phase.specs.declared.facts.PhaseFacts.TheVariants.{Clear, Asked, HalfKeyed, Secure, Pausing, HalfClear}
use Rattle.enc_phase.specs.declared.facts.Transition.{Transition}
use Rattle.enc_phase.specs.declared.facts.Transition.TheVariants.{Ask as AskTransition, Confirm, Pause, Refuse, Unlock}
use Rattle.enc_phase.specs.Phases.{is_asked, may_follow, phase_after, phase_starting}
use Rattle.enc_phase.specs.Taking.{ctrl_class}
use Rattle.table_laws.specs.Encrypting.{has_encryption}
use Rattle.control_model.specs.Control.{after_all}
use Rattle.phased_control.specs.Phased.{Phased, is_open_now}
use Rattle.phased_control.specs.Taken.{Response, asked, ciphered, ciphered_at, ciphered_at_central, ciphered_at_peripheral, moved_if, refused_by, response_ctrl, role_now, started}
use Rattle.phased_control.specs.Steps.{ctrl_if, ctrl_answer, central_answer, peripheral_answer, read_answer, owed_steps}
use Rattle.phased_control.proofs.AnswerParts.{key_answering, ctrl_key, phase_answering, ctrl_phase, central_phase, peripheral_phase, refused_phase}

-- an end with this PDU owed, this phase and this key asked for
abbrev pub with_answer : Option Ctrl → PhaseFacts → Bool → Phased → Phased
with_answer owed phase key s = record s { control = after_all (owed_steps owed) s.control; phase = phase; asks_key = key }

-- ---- a transition that cannot be made leaves the phase

pub data IsPlain : Transition → Type 0 where
  plain_ask : IsPlain AskTransition
  plain_confirm : IsPlain Confirm
  plain_pause : IsPlain Pause
  plain_unlock : IsPlain Unlock

pub phase_stays : (t : Transition) (phase : PhaseFacts) → IsPlain t → may_follow t phase ≡ false → phase_after t phase ≡ phase
phase_stays AskTransition Clear plain h = absurd (cc)
phase_stays AskTransition (HalfClear kept) plain h = absurd (cc)
phase_stays AskTransition other plain h = refl
phase_stays Confirm HalfKeyed plain h = absurd (cc)
phase_stays Confirm other plain h = refl
phase_stays Pause Secure plain h = absurd (cc)
phase_stays Pause other plain h = refl
phase_stays Unlock (Pausing kept) plain h = absurd (cc)
phase_stays Unlock other plain h = refl
phase_stays Refuse phase plain h = elim plain [ ]

pub start_stays : (phase : PhaseFacts) → is_asked phase ≡ false → phase_starting phase ≡ phase
start_stays (Asked after_pause enc_rsp kept) h = absurd (cc)
start_stays other h = refl

module _ (s : Phased) where
  -- the same phase
  same_phase : (phase : PhaseFacts) → phase ≡ s.phase → s ≡ with_answer None phase s.asks_key s
  same_phase phase is = ap (λ (p : PhaseFacts). record s { phase = p }) (sym is)

  moves_with : (t : Transition) (ctrl : Ctrl) → IsPlain t
      → moved_if t (Some ctrl) s ≡ with_answer (ctrl_if (may_follow t s.phase) ctrl) (phase_after t s.phase) s.asks_key s
  moves_with t ctrl plain = by (may_follow t s.phase) refl
    where
      by : (b : Bool) → may_follow t s.phase ≡ b
          → (if b then with_answer (Some ctrl) (phase_after t s.phase) s.asks_key s else s) ≡ with_answer (ctrl_if b ctrl) (phase_after t s.phase) s.asks_key s
      by true is = refl
      by false is = same_phase _ (phase_stays t s.phase plain is)

  moves_alone : (t : Transition) → IsPlain t → moved_if t None s ≡ with_answer None (phase_after t s.phase) s.asks_key s
  moves_alone t plain = by (may_follow t s.phase) refl
    where
      by : (b : Bool) → may_follow t s.phase ≡ b
          → (if b then with_answer None (phase_after t s.phase) s.asks_key s else s) ≡ with_answer None (phase_after t s.phase) s.asks_key s
      by true is = refl
      by false is = same_phase _ (phase_stays t s.phase plain is)

  starts : started s ≡ with_answer (ctrl_if (is_asked s.phase) StartEncRsp) (phase_starting s.phase) s.asks_key s
  starts = by (is_asked s.phase) refl
    where
      by : (b : Bool) → is_asked s.phase ≡ b
          → (if b then with_answer (Some StartEncRsp) (phase_starting s.phase) s.asks_key s else s)
          ≡ with_answer (ctrl_if b StartEncRsp) (phase_starting s.phase) s.asks_key s
      by true is = refl
      by false is = same_phase _ (start_stays s.phase is)

  asks : (response : Response)
      → asked response s
      ≡ with_answer (ctrl_if (may_follow AskTransition s.phase) (response_ctrl response)) (phase_after AskTransition s.phase) (if may_follow AskTransition s.phase then is_open_now s else s.asks_key) s
  asks response = by (may_follow AskTransition s.phase) refl
    where
      by : (b : Bool) → may_follow AskTransition s.phase ≡ b
          → (if b then with_answer (Some (response_ctrl response)) (phase_after AskTransition s.phase) (is_open_now s) s else s)
          ≡ with_answer (ctrl_if b (response_ctrl response)) (phase_after AskTransition s.phase) (if b then is_open_now s else s.asks_key) s
      by true is = refl
      by false is = same_phase _ (phase_stays AskTransition s.phase plain_ask is)

  refuses : (pdu : PduClass) → refused_by pdu s ≡ with_answer None (refused_phase pdu (has_encryption s.control.table.progress) s.phase) s.asks_key s
  refuses Refusal = by (has_encryption s.control.table.progress)
    where
      by : (b : Bool) → (if b then s else record s { phase = phase_after Refuse s.phase }) ≡ with_answer None (if b then s.phase else phase_after Refuse s.phase) s.asks_key s
      by true = refl
      by false = refl
  refuses pdu = refl

  central_answers : (ctrl : Ctrl)
      → ciphered_at_central ctrl s
      ≡ with_answer (central_answer ctrl s.phase) (central_phase ctrl (has_encryption s.control.table.progress) s.phase) s.asks_key s
  central_answers StartEncReq = starts
  central_answers StartEncRsp = moves_alone Confirm plain_confirm
  central_answers PauseEncRsp = moves_with Unlock PauseEncRsp plain_unlock
  central_answers other = refuses (ctrl_class other)

  peripheral_answers : (response : Response) (ctrl : Ctrl)
      → ciphered_at_peripheral response ctrl s
      ≡ with_answer (peripheral_answer response ctrl s.phase) (peripheral_phase ctrl s.phase) (ctrl_key Peripheral ctrl s.phase (is_open_now s) s.asks_key) s
  peripheral_answers response (EncReq rand ediv skd_m iv_m) = asks response
  peripheral_answers response PauseEncReq = moves_with Pause PauseEncRsp plain_pause
  peripheral_answers response StartEncRsp = moves_with Confirm StartEncRsp plain_confirm
  peripheral_answers response PauseEncRsp = moves_alone Unlock plain_unlock
  peripheral_answers response other = refl

  role_answers : (role : Role) (response : Response) (ctrl : Ctrl)
      → ciphered_at role response ctrl s
      ≡ with_answer (ctrl_answer role response ctrl s.phase) (ctrl_phase role ctrl (has_encryption s.control.table.progress) s.phase) (ctrl_key role ctrl s.phase (is_open_now s) s.asks_key) s
  role_answers Central response ctrl = central_answers ctrl
  role_answers Peripheral response ctrl = peripheral_answers response ctrl

  -- the answer to what was read
  pub answers : (response : Response) (read : CtrlRead)
      → ciphered response read s
      ≡ with_answer (read_answer (role_now s) response read s.phase) (phase_answering (role_now s) read (has_encryption s.control.table.progress) s.phase)
      (key_answering (role_now s) read s.phase (is_open_now s) s.asks_key) s
  answers response (Known ctrl) = role_answers (role_now s) response ctrl
  answers response (Unknown opcode) = refl
  answers response Bare = refl
