-- Of a central, at any time: no PDU of the encryption that waits or is asked for is an indication.
use Rattle.std.proofs.Common.{◌≡◌, ℕ, Bool, true, false, ◌&&◌, if◌then◌else◌, List, [], ◌∷◌, ◌++◌, Option, Some, None, is_none, refl, sym, ap, subst}
use Rattle.std.specs.Prelude.{⊤}
use Rattle.std.proofs.lemmas.List.Elements.{All-nil}
use Rattle.ble_base.specs.declared.error_codes.ErrCode.{ErrCode}
use Rattle.ble_base.specs.declared.roles.Role.{Role}
use Rattle.ble_base.specs.declared.roles.Role.TheVariants.{Central, Peripheral}
use Rattle.data_pdu.specs.declared.ctrl.Ctrl.{Ctrl}
use Rattle.data_pdu.specs.declared.ctrl.Ctrl.TheVariants.{StartEncReq, PauseEncRsp}
use Rattle.data_pdu.specs.declared.ctrl.CtrlRead.{CtrlRead}
use Rattle.data_pdu.specs.declared.ctrl.CtrlRead.TheVariants.{Known, Unknown, Bare}
use Rattle.joint_controls.specs.enc_phase.declared.facts.PhaseFacts.{PhaseFacts}
use Rattle.joint_controls.specs.enc_phase.declared.facts.PhaseFacts.TheVariants.{Clear}
use Rattle.joint_controls.specs.enc_phase.declared.facts.Transition.TheVariants.{Refuse, Unlock}
use Rattle.joint_controls.specs.enc_phase.Phases.{is_asked, may_follow}
use Rattle.instants.specs.declared.indications.Params.{Params}
use Rattle.joint_controls.specs.procedure_values.declared.asks.Ask.{Ask}
use Rattle.joint_controls.specs.procedure_values.declared.asks.Ask.TheVariants.{Encrypt}
use Rattle.joint_controls.specs.procedure_stages.Kinds.{role_of}
use Rattle.joint_controls.specs.procedures.Beginning.{begin_step}
use Rattle.joint_controls.specs.control_model.Control.{Control, Step, after, after_all}
use Rattle.joint_controls.specs.phased_control.Phased.{Phased, ask_begun, asking_if, asks_again, encrypting, encrypting_if, first_phased, is_encrypt, is_open_now, is_quiet_now, key_given, key_lacking, refused_if, request_of, table_entered, with_owed_if}
use Rattle.joint_controls.specs.phased_control.Taken.{PhasedStep, Response, Answers, Asks, Disconnects, Enters, GivesKey, LacksKey, SeesAcknowledged, Sends, Takes, TakesData, answered_kept, ciphered, does_keep, is_allowed, lacks_room_now, phased_after, phased_after_all, phased_moved, role_now, seen_as, took}
use Rattle.joint_controls.specs.phased_control.Steps.{control_steps, ctrl_if, end_by_phase, ended_if, first_owed, first_owed_if, kept_steps, later_steps, central_answer, read_answer, owed_steps, seen_by_procedures}
use Rattle.joint_controls.proofs.phased_control.Answering.{answers}
use Rattle.joint_controls.proofs.phased_control.Moving.{moves_by_steps}
use Rattle.joint_controls.proofs.control_model.Moving.{same_role}
use Rattle.joint_controls.proofs.phased_control.Taking.{handed_ways, took_ways}
use Rattle.joint_controls.specs.control_model.Control.{Takes as control_takes}
use Rattle.joint_controls.proofs.Keeping.{choice}
use Rattle.joint_parameters.specs.Indications.{indication_in}
use Rattle.joint_parameters.proofs.Drafts.{ArePlainSteps, HasPlain, steps_plain}

abbrev pub IsPlainCtrl : Option Ctrl → Type 0
IsPlainCtrl None = ⊤
IsPlainCtrl (Some ctrl) = is_none (indication_in ctrl) ≡ true

pub record IsPlainEnd (s : Phased) : Type 0 where
  pub role : role_now s ≡ Central
  pub drafts : HasPlain s.control
  pub request : IsPlainCtrl s.request

-- ---- what the layer above queues

plain_owed : (owed : Option Ctrl) → IsPlainCtrl owed → ArePlainSteps (owed_steps owed)
plain_owed None is = tt
plain_owed (Some ctrl) is = (is, tt)

plain_both : (xs ys : List Step) → ArePlainSteps xs → ArePlainSteps ys → ArePlainSteps (xs ++ ys)
plain_both [] ys of_x of_y = of_y
plain_both (x ∷ xs) ys of_x of_y = (of_x.0, plain_both xs ys of_x.1 of_y)

plain_if : (b : Bool) (ctrl : Ctrl) → IsPlainCtrl (Some ctrl) → IsPlainCtrl (ctrl_if b ctrl)
plain_if true ctrl is = is
plain_if false ctrl is = tt

request_plain : (ask : Option Ask) → IsPlainCtrl (request_of ask)
request_plain None = tt
request_plain (Some (Encrypt rand ediv ltk skd_m iv_m)) = refl
request_plain (Some other) = tt

first_plain : (phase : PhaseFacts) (request : Option Ctrl) → IsPlainCtrl request → IsPlainCtrl (first_owed phase request)
first_plain Clear request is = is
first_plain other request is = refl

first_plain_if : (b : Bool) (phase : PhaseFacts) (request : Option Ctrl) → IsPlainCtrl request → IsPlainCtrl (first_owed_if b phase request)
first_plain_if true phase request is = first_plain phase request is
first_plain_if false phase request is = tt

either_plain : (b : Bool) (x y : Option Ctrl) → IsPlainCtrl x → IsPlainCtrl y → IsPlainCtrl (if b then x else y)
either_plain true x y of_x of_y = of_x
either_plain false x y of_x of_y = of_y

key_plain : (b : Bool) (x y : Ctrl) → IsPlainCtrl (Some x) → IsPlainCtrl (Some y) → IsPlainCtrl (Some (if b then x else y))
key_plain true x y of_x of_y = of_x
key_plain false x y of_x of_y = of_y

central_plain : (ctrl : Ctrl) (phase : PhaseFacts) → IsPlainCtrl (central_answer ctrl phase)
central_plain StartEncReq phase = plain_if (is_asked phase) _ refl
central_plain PauseEncRsp phase = plain_if (may_follow Unlock phase) _ refl
central_plain other phase = tt

answer_plain : (role : Role) (response : Response) (read : CtrlRead) (phase : PhaseFacts) → role ≡ Central → IsPlainCtrl (read_answer role response read phase)
answer_plain Central response (Known ctrl) phase is = central_plain ctrl phase
answer_plain Central response (Unknown opcode) phase is = tt
answer_plain Central response Bare phase is = tt
answer_plain Peripheral response read phase is = absurd (cc)

kept_plain : (slot : ℕ) (kept : Option Ctrl) → ArePlainSteps (kept_steps slot kept)
kept_plain slot None = tt
kept_plain slot (Some ctrl) = (tt, tt)

steps_if : (b : Bool) (xs : List Step) → ArePlainSteps xs → ArePlainSteps (if b then xs else [])
steps_if true xs are = are
steps_if false xs are = tt

later_plain : (slot : ℕ) (response : Response) (read : CtrlRead) (s : Phased) → role_now s ≡ Central → ArePlainSteps (later_steps slot response read s)
later_plain slot response read s role =
    plain_both (owed_steps (read_answer (role_now s) response read s.phase)) _
    (plain_owed (read_answer (role_now s) response read s.phase) (answer_plain (role_now s) response read s.phase role))
    (steps_if (is_quiet_now (ciphered response read s)) _ (kept_plain slot s.kept))

taken_plain : (slot : ℕ) (response : Response) (read : CtrlRead) (s : Phased) → role_now s ≡ Central → ArePlainSteps (control_steps (Takes read slot response) s)
taken_plain slot response read s role = by (is_allowed read s) (does_keep read s) (lacks_room_now read s)
  where
    role_seen : role_now (seen_by_procedures read slot s) ≡ Central
    role_seen = same_role Central (control_takes (seen_as read s) slot (is_quiet_now s)) s.control role

    by : (allowed keeps full : Bool)
        → ArePlainSteps (if allowed then (if keeps then [] else (if full then [] else control_takes (seen_as read s) slot (is_quiet_now s)
        ∷ (if is_none (seen_by_procedures read slot s).control.ends then later_steps slot response read (seen_by_procedures read slot s) else []))) else [])
    by false keeps full = tt
    by true true full = tt
    by true false true = tt
    by true false false =
        (tt, steps_if (is_none (seen_by_procedures read slot s).control.ends) _ (later_plain slot response read (seen_by_procedures read slot s) role_seen))

control_plain : (step : PhasedStep) (s : Phased) → IsPlainEnd s → ArePlainSteps (control_steps step s)
control_plain (Enters slot) s p =
    (tt, plain_owed _ (first_plain_if (is_encrypt (begin_step (table_entered s) slot (is_quiet_now s)).1) s.phase _ (request_plain (ask_begun (table_entered s) (is_quiet_now s)))))
control_plain (Asks ask) s p = (tt, tt)
control_plain (Answers answer) s p = (tt, tt)
control_plain GivesKey s p = plain_owed _ (plain_if (s.asks_key && is_open_now s) _ refl)
control_plain LacksKey s p = plain_owed _ (plain_if (s.asks_key && is_open_now s) _ (key_plain (may_follow Refuse s.phase) _ _ refl refl))
control_plain (Disconnects reason) s p = (tt, tt)
control_plain (Sends slot) s p = (tt, tt)
control_plain SeesAcknowledged s p = (tt, plain_owed _ (either_plain (asks_again s) s.request None p.request tt))
control_plain (Takes read slot response) s p = taken_plain slot response read s p.role
control_plain TakesData s p = tt

-- ---- the request of an encryption

abbrev AsksPlain : Phased → Type 0
AsksPlain s = IsPlainCtrl s.request

owed_request : (owed : Option Ctrl) (s : Phased) → AsksPlain s → AsksPlain (with_owed_if owed s)
owed_request None s is = is
owed_request (Some ctrl) s is = is

encrypting_request : (phase : PhaseFacts) (s : Phased) → AsksPlain s → AsksPlain (encrypting phase s)
encrypting_request Clear s is = owed_request s.request _ is
encrypting_request other s is = is

entered_request : (b : Bool) (request : Option Ctrl) (s : Phased) → IsPlainCtrl request → AsksPlain s → AsksPlain (encrypting_if b request s)
entered_request true request s of_request is = encrypting_request s.phase _ of_request
entered_request false request s of_request is = is

asking_request : (b : Bool) (s : Phased) → AsksPlain s → AsksPlain (asking_if b s)
asking_request true s is = owed_request s.request _ is
asking_request false s is = is

refused_request : (b : Bool) (s : Phased) → AsksPlain s → AsksPlain (refused_if b s)
refused_request true s is = is
refused_request false s is = is

answered_request : (slot : ℕ) (kept : Option Ctrl) (s : Phased) → AsksPlain s → AsksPlain (answered_kept slot kept s)
answered_request slot None s is = is
answered_request slot (Some ctrl) s is = is

taken_request : (slot : ℕ) (response : Response) (read : CtrlRead) (s : Phased) → AsksPlain s → AsksPlain (took slot response read s)
taken_request slot response read s is =
    took_ways AsksPlain slot response read s (λ h. is) (λ h k. is) (λ h k l. is)
    (λ h k l. handed_ways AsksPlain slot response read s (λ code over. is) (λ lasts loud. answered) (λ lasts quiet. answered_request slot _ _ answered))
  where
    answered : AsksPlain (ciphered response read (seen_by_procedures read slot s))
    answered = subst IsPlainCtrl (sym (ap (λ (t : Phased). t.request) (answers (seen_by_procedures read slot s) response read))) is

moved_request : (step : PhasedStep) (s : Phased) → AsksPlain s → AsksPlain (phased_moved step s)
moved_request (Enters slot) s is =
    entered_request (is_encrypt (begin_step (table_entered s) slot (is_quiet_now s)).1) _ _ (request_plain (ask_begun (table_entered s) (is_quiet_now s))) is
moved_request (Asks ask) s is = is
moved_request (Answers answer) s is = is
moved_request GivesKey s is = choice AsksPlain (s.asks_key && is_open_now s) (key_given s) s is is
moved_request LacksKey s is =
    choice AsksPlain (s.asks_key && is_open_now s) (key_lacking s) s (refused_request (may_follow Refuse s.phase) s is) is
moved_request (Disconnects reason) s is = is
moved_request (Sends slot) s is = is
moved_request SeesAcknowledged s is = asking_request (asks_again s) _ is
moved_request (Takes read slot response) s is = taken_request slot response read s is
moved_request TakesData s is = choice AsksPlain _ s _ is is

-- ---- every step

role_steps : (steps : List Step) (c : Control) → role_of c.table.progress ≡ Central → role_of (after_all steps c).table.progress ≡ Central
role_steps [] c is = is
role_steps (step ∷ steps) c is = role_steps steps (after step c) (same_role Central step c is)

abbrev HasBoth : Control → Type 0
HasBoth c = (role_of c.table.progress ≡ Central) × HasPlain c

ended_both : (e : Option ErrCode) (c : Control) → HasBoth c → HasBoth (ended_if e c)
ended_both None c h = h
ended_both (Some code) c h = h

lasting : (ends : Option ErrCode) (step : PhasedStep) (s : Phased) → s.control.ends ≡ ends → IsPlainEnd s → IsPlainEnd (phased_after step s)
lasting (Some code) step s is p =
    subst (λ (e : Option ErrCode). IsPlainEnd (if is_none e then phased_moved step s else s)) (sym is) p
lasting None step s is p =
    let now = subst HasBoth (sym (moves_by_steps step s is))
    (ended_both (end_by_phase step s) (after_all (control_steps step s) s.control)
    (role_steps (control_steps step s) s.control p.role, steps_plain (control_steps step s) s.control (control_plain step s p) p.drafts)) in
    record { role = now.0; drafts = now.1; request = choice AsksPlain (is_none s.control.ends) (phased_moved step s) s (moved_request step s p.request) p.request }

pub plain_step : (step : PhasedStep) (s : Phased) → IsPlainEnd s → IsPlainEnd (phased_after step s)
plain_step step s p = lasting s.control.ends step s refl p

pub plain_all : (steps : List PhasedStep) (s : Phased) → IsPlainEnd s → IsPlainEnd (phased_after_all steps s)
plain_all [] s p = p
plain_all (step ∷ steps) s p = plain_all steps (phased_after step s) (plain_step step s p)

pub plain_now : (max_rx : ℕ) (first : Params) (slot : ℕ) (steps : List PhasedStep) → IsPlainEnd (phased_after_all steps (first_phased Central max_rx first slot))
plain_now max_rx first slot steps =
    plain_all steps (first_phased Central max_rx first slot) (record { role = refl; drafts = All-nil _; request = tt })
