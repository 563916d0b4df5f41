-- What each step of an end queues of the encryption, where the requests and the answers are as they are to be.
use Rattle.std.specs.Prelude.{⊤}
use Rattle.std.proofs.Common.{◌≡◌, ℕ, Bool, true, false, ◌&&◌, if◌then◌else◌, [], ◌∷◌, Option, Some, None, is_none, refl}
use Rattle.ble_base.specs.declared.roles.Role.{Role}
use Rattle.ble_base.specs.declared.roles.Role.TheVariants.{Central, Peripheral}
use Rattle.data_pdu.specs.declared.ctrl.Ctrl.{Ctrl}
use Rattle.data_pdu.specs.declared.ctrl.Ctrl.TheVariants.{EncReq, PauseEncReq, PauseEncRsp, StartEncReq, StartEncRsp}
use Rattle.data_pdu.specs.declared.ctrl.CtrlRead.{CtrlRead}
use Rattle.data_pdu.specs.declared.ctrl.CtrlRead.TheVariants.{Bare, Known, Unknown}
use Rattle.enc_phase.specs.declared.facts.PhaseFacts.{PhaseFacts}
use Rattle.enc_phase.specs.declared.facts.PhaseFacts.TheVariants.{Clear}
use Rattle.enc_phase.specs.declared.facts.Transition.TheVariants.{Ask, Confirm, Pause, Refuse, Unlock}
use Rattle.enc_phase.specs.Phases.{is_asked, may_follow}
use Rattle.enc_phase.specs.Taking.{ctrl_class, phase_taking}
use Rattle.phased_control.specs.PhaseChanges.{Change, Moves, Stays, Took, answer_change, taken_change}
use Rattle.phased_control.specs.Phased.{Phased, ask_begun, asks_again, is_encrypt, is_open_now, is_quiet_now, request_of, table_entered}
use Rattle.phased_control.specs.Steps.{control_steps, ctrl_if, first_owed, first_owed_if, kept_steps, later_steps, owed_steps, owed_without_key, read_answer, seen_by_procedures, taken_steps}
use Rattle.phased_control.specs.Taken.{Response, Enters, SeesAcknowledged, ciphered, class_of_read, does_keep, is_allowed, lacks_room_now, response_ctrl, role_now, seen_as}
use Rattle.phased_control.specs.procedures.Beginning.{begin_step}
use Rattle.phased_control.specs.control_model.Control.{Takes as control_takes}
use Rattle.phased_control.specs.table_laws.Encrypting.{has_encryption}
use Rattle.phased_control.proofs.control_model.Moving.{same_role}
use Rattle.keyed_control.specs.declared.material.KeyMaterial.{KeyMaterial}
use Rattle.keyed_control.specs.KeyedSteps.{with_read}
use Rattle.joint_controls.specs.Joint.{AnswersRequest, AsksFor, Ends, HasKey, HasNoKey, HostStep, host_step}
use Rattle.joint_keys.proofs.Materials.{IsReqOf, IsRspOf}
use Rattle.joint_keys.proofs.Queues.{AreOwedFine, IsPlain, owed_joined}

abbrev pub IsOptionFine : (Ctrl → Type 0) → Option Ctrl → Type 0
IsOptionFine F None = ⊤
IsOptionFine F (Some ctrl) = F ctrl

-- a fact that holds of each PDU of the encryption without values
pub record Lets (F : Ctrl → Type 0) : Type 0 where
  pub plain : IsPlain F
  pub start_req : F StartEncReq
  pub pause_req : F PauseEncReq

module _ (F : Ctrl → Type 0) (lets : Lets F) where
  one_owed : (o : Option Ctrl) → IsOptionFine F o → AreOwedFine F (owed_steps o)
  one_owed None fine = tt
  one_owed (Some ctrl) fine = (fine, tt)

  first_fine : (p : PhaseFacts) (request : Option Ctrl) → IsOptionFine F request → IsOptionFine F (first_owed p request)
  first_fine Clear request fine = fine
  first_fine p request fine = lets.pause_req

  pub enters_owed : (slot : ℕ) (s : Phased)
      → (is_encrypt (begin_step (table_entered s) slot (is_quiet_now s)).1 ≡ true → IsOptionFine F (request_of (ask_begun (table_entered s) (is_quiet_now s))))
      → AreOwedFine F (control_steps (Enters slot) s)
  enters_owed slot s fine = (tt, by (is_encrypt (begin_step (table_entered s) slot (is_quiet_now s)).1) refl)
    where
      by : (b : Bool) → is_encrypt (begin_step (table_entered s) slot (is_quiet_now s)).1 ≡ b
          → AreOwedFine F (owed_steps (first_owed_if b s.phase (request_of (ask_begun (table_entered s) (is_quiet_now s)))))
      by true is = one_owed _ (first_fine s.phase (request_of (ask_begun (table_entered s) (is_quiet_now s))) (fine is))
      by false is = tt

  pub acked_owed : (s : Phased) → (asks_again s ≡ true → IsOptionFine F s.request) → AreOwedFine F (control_steps SeesAcknowledged s)
  acked_owed s fine = (tt, by (asks_again s) refl)
    where
      by : (b : Bool) → asks_again s ≡ b → AreOwedFine F (owed_steps (if b then s.request else None))
      by true is = one_owed s.request (fine is)
      by false is = tt

  lacking_fine : (b : Bool) (one other : Ctrl) → F one → F other → F (if b then one else other)
  lacking_fine true one other f g = f
  lacking_fine false one other f g = g

  given : (b : Bool) (ctrl : Ctrl) → F ctrl → AreOwedFine F (owed_steps (ctrl_if b ctrl))
  given true ctrl fine = (fine, tt)
  given false ctrl fine = tt

  pub host_owed : (step : HostStep) (s : Phased) → AreOwedFine F (control_steps (host_step step) s)
  host_owed (AsksFor ask) s = (tt, tt)
  host_owed (AnswersRequest answer) s = (tt, tt)
  host_owed (Ends reason) s = (tt, tt)
  host_owed HasKey s = given (s.asks_key && is_open_now s) StartEncReq lets.start_req
  host_owed HasNoKey s =
      given (s.asks_key && is_open_now s) (owed_without_key s.phase) (lacking_fine (may_follow Refuse s.phase) _ _ (lets.plain _ refl) (lets.plain _ refl))

-- ---- a PDU of the other end is taken: the fact may depend on the change that this is

module _ (G : Change → Ctrl → Type 0) (read : CtrlRead) (slot : ℕ) (response : Response) (s : Phased) where
  abbrev pub t : Phased
  t = seen_by_procedures read slot s

  abbrev pub answer : Change
  answer = answer_change (role_now s) (class_of_read read) (has_encryption t.control.table.progress) s.phase

  kept_fine : (F : Ctrl → Type 0) (b : Bool) (kept : Option Ctrl) → AreOwedFine F (if b then kept_steps slot kept else [])
  kept_fine F true None = tt
  kept_fine F true (Some ctrl) = (tt, tt)
  kept_fine F false kept = tt

  alone : (F : Ctrl → Type 0) (o : Option Ctrl) → IsOptionFine F o → AreOwedFine F (owed_steps o)
  alone F None fine = tt
  alone F (Some ctrl) fine = (fine, tt)

  later_fine : IsOptionFine (G answer) (read_answer (role_now t) response read t.phase) → AreOwedFine (G answer) (later_steps slot response read t)
  later_fine fine =
      owed_joined (G answer) (owed_steps (read_answer (role_now t) response read t.phase)) (if is_quiet_now (ciphered response read t) then kept_steps slot t.kept else [])
      (alone (G answer) (read_answer (role_now t) response read t.phase) fine) (kept_fine (G answer) (is_quiet_now (ciphered response read t)) t.kept)

  by_ifs : IsOptionFine (G answer) (read_answer (role_now t) response read t.phase) → (a k l e : Bool)
      → AreOwedFine
      (G (if a then (if k then Took (class_of_read read) else (if l then Stays else (if e then answer else Took (class_of_read read)))) else Stays))
      (if a then (if k then [] else (if l then [] else control_takes (seen_as read s) slot (is_quiet_now s) ∷ (if e then later_steps slot response read t else []))) else [])
  by_ifs fine false k l e = tt
  by_ifs fine true true l e = tt
  by_ifs fine true false true e = tt
  by_ifs fine true false false true = (tt, later_fine fine)
  by_ifs fine true false false false = (tt, tt)

  pub taken_owed : IsOptionFine (G answer) (read_answer (role_now t) response read t.phase) → AreOwedFine (G (taken_change read slot s)) (taken_steps slot response read s)
  taken_owed fine = by_ifs fine (is_allowed read s) (does_keep read s) (lacks_room_now read s) (is_none t.control.ends)

  pub same_role_seen : role_now t ≡ role_now s
  same_role_seen = same_role (role_now s) (control_takes (seen_as read s) slot (is_quiet_now s)) s.control refl

-- ---- at a central no answer is an LL_ENC_REQ

module _ (m : KeyMaterial) where
  pub lets_req : Lets (IsReqOf m)
  lets_req = record { plain = plain; start_req = tt; pause_req = tt }
    where
      plain : IsPlain (IsReqOf m)
      plain (EncReq rand ediv skd_m iv_m) none = absurd (cc)
      plain ctrl none = tt

  if_fine : (b : Bool) (ctrl : Ctrl) → IsReqOf m ctrl → IsOptionFine (IsReqOf m) (ctrl_if b ctrl)
  if_fine true ctrl fine = fine
  if_fine false ctrl fine = tt

  pub answer_no_req : (role : Role) (response : Response) (read : CtrlRead) (p : PhaseFacts) → IsOptionFine (IsReqOf m) (read_answer role response read p)
  answer_no_req Central response (Known StartEncReq) p = if_fine (is_asked p) StartEncRsp tt
  answer_no_req Central response (Known PauseEncRsp) p = if_fine (may_follow Unlock p) PauseEncRsp tt
  answer_no_req Central response (Known ctrl) p = tt
  answer_no_req Peripheral response (Known (EncReq rand ediv skd_m iv_m)) p = if_fine (may_follow Ask p) (response_ctrl response) tt
  answer_no_req Peripheral response (Known PauseEncReq) p = if_fine (may_follow Pause p) PauseEncRsp tt
  answer_no_req Peripheral response (Known StartEncRsp) p = if_fine (may_follow Confirm p) StartEncRsp tt
  answer_no_req Peripheral response (Known ctrl) p = tt
  answer_no_req role response (Unknown opcode) p = tt
  answer_no_req role response Bare p = tt

-- ---- at a peripheral an LL_ENC_RSP has the halves of the material after it

pub lets_rsp : (n : KeyMaterial) → Lets (IsRspOf n)
lets_rsp n = record { plain = plain; start_req = tt; pause_req = tt }
  where
    plain : IsPlain (IsRspOf n)
    plain (Ctrl.EncRsp skd_s iv_s) none = absurd (cc)
    plain ctrl none = tt

module _ (response : Response) (n : KeyMaterial) (encrypts : Bool) (p : PhaseFacts) where
  abbrev AnswerFine : Ctrl → Type 0
  AnswerFine ctrl =
      IsOptionFine (IsRspOf (with_read Peripheral (Known ctrl) response (answer_change Peripheral (ctrl_class ctrl) encrypts p) p n))
      (read_answer Peripheral response (Known ctrl) (phase_taking (ctrl_class ctrl) p))

  other_fine : (k : KeyMaterial) (b : Bool) (ctrl : Ctrl) → IsRspOf k ctrl → IsOptionFine (IsRspOf k) (ctrl_if b ctrl)
  other_fine k true ctrl fine = fine
  other_fine k false ctrl fine = tt

  pub answer_rsp : (ctrl : Ctrl) → AnswerFine ctrl
  answer_rsp (EncReq rand ediv skd_m iv_m) = by (may_follow Ask p)
    where
      by : (b : Bool)
          → IsOptionFine (IsRspOf (with_read Peripheral (Known (EncReq rand ediv skd_m iv_m)) response (if b then Moves Ask else Stays) p n)) (ctrl_if b (response_ctrl response))
      by true = (refl, refl)
      by false = tt
  answer_rsp PauseEncReq = other_fine n (may_follow Pause p) PauseEncRsp tt
  answer_rsp StartEncRsp = other_fine n (may_follow Confirm p) StartEncRsp tt
  answer_rsp ctrl = tt
