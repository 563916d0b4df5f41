-- The control part of an end moves by steps of procedures and parameters, and ends by its phase else.
use Rattle.std.proofs.Common.{◌≡◌, ℕ, Bool, true, false, ◌&&◌, if◌then◌else◌, List, [], ◌∷◌, ◌++◌, Option, Some, None, is_none, refl, sym, ap, subst, ◌∙◌, append-nil}
use Rattle.ble_base.specs.ErrorCodes.{memory_capacity_exceeded, mic_failure, pin_or_key_missing}
use Rattle.ble_base.specs.declared.error_codes.ErrCode.{ErrCode}
use Rattle.ble_base.specs.declared.roles.Role.{Role}
use Rattle.ble_base.specs.declared.roles.Role.TheVariants.{Peripheral}
use Rattle.instants.specs.declared.indications.Indication.{Indication}
use Rattle.instants.specs.declared.indications.Params.{Params}
use Rattle.table_laws.specs.procedure_stages.Kinds.{role_of}
use Rattle.data_pdu.specs.declared.ctrl.Ctrl.{Ctrl}
use Rattle.data_pdu.specs.declared.ctrl.Ctrl.TheVariants.{RejectExtInd, StartEncReq, TerminateInd}
use Rattle.data_pdu.specs.declared.ctrl.CtrlRead.{CtrlRead}
use Rattle.enc_phase.specs.declared.classes.PduClass.TheVariants.{Data}
use Rattle.enc_phase.specs.declared.facts.PhaseFacts.{PhaseFacts}
use Rattle.enc_phase.specs.declared.facts.PhaseFacts.TheVariants.{Clear}
use Rattle.enc_phase.specs.declared.facts.Transition.TheVariants.{Refuse}
use Rattle.enc_phase.specs.Phases.{may_follow}
use Rattle.enc_phase.specs.Taking.{allows}
use Rattle.table_laws.specs.procedure_stages.Opcodes.{enc_req_opcode}
use Rattle.table_laws.specs.procedures.Beginning.{begin_step}
use Rattle.table_laws.specs.procedures.Taking.{took_step}
use Rattle.control_model.specs.Control.{Control, Step, after, after_all, ended, first_control, indicated_by}
use Rattle.control_model.specs.Control.{Enters as control_enters, SeesAcknowledged as control_sees_acknowledged}
use Rattle.control_model.specs.Waits.{kind_awaited, kind_waiting}
use Rattle.control_model.proofs.Moving.{role_after}
use Rattle.control_model.proofs.Waiting.{free, same_kind}
use Rattle.phased_control.specs.Phased.{Phased, first_phased, ask_begun, asking_if, asks_again, encrypting, encrypting_if, is_encrypt, is_open_now, is_quiet_now, key_given, key_lacking, refused_if, request_of, table_entered, with_step}
use Rattle.phased_control.specs.Taken.{PhasedStep, Response, Answers, Asks, Disconnects, Enters, GivesKey, LacksKey, SeesAcknowledged, Sends, Takes, TakesData, answered_if_quiet, answered_kept, ciphered, does_keep, ended_with, goes_on, handed_on, is_allowed, keeping, lacks_room_now, phased_after, phased_after_all, phased_moved, role_now, took, took_data}
use Rattle.phased_control.specs.Steps.{all_control_steps, code_if, control_steps, ctrl_if, end_by_phase, ended_if, first_owed, first_owed_if, handed_steps, kept_steps, later_steps, read_answer, owed_steps, owed_without_key, seen_by_procedures, steps_now}
use Rattle.phased_control.proofs.Answering.{answers}

pub steps_joined : (xs ys : List Step) (c : Control) → after_all (xs ++ ys) c ≡ after_all ys (after_all xs c)
steps_joined [] ys c = refl
steps_joined (x ∷ xs) ys c = steps_joined xs ys (after x c)

-- ---- an encryption begins

encrypts : (phase : PhaseFacts) (request : Option Ctrl) (s : Phased)
    → (encrypting phase (record s { request = request })).control ≡ after_all (owed_steps (first_owed phase request)) s.control
encrypts Clear None s = refl
encrypts Clear (Some ctrl) s = refl
encrypts other request s = refl

pub enters_with : (b : Bool) (request : Option Ctrl) (s : Phased)
    → (encrypting_if b request s).control ≡ after_all (owed_steps (first_owed_if b s.phase request)) s.control
enters_with true request s = encrypts s.phase request s
enters_with false request s = refl

pub asks_with : (b : Bool) (request : Option Ctrl) (s : Phased) → s.request ≡ request
    → (asking_if b s).control ≡ after_all (owed_steps (if b then request else None)) s.control
asks_with false request s is = refl
asks_with true request s is = rw is (by request)
  where
    by : (r : Option Ctrl) → (asking_if true (record s { request = r })).control ≡ after_all (owed_steps r) s.control
    by None = refl
    by (Some ctrl) = refl

-- ---- the host of a peripheral has a key, or none

gives : (b : Bool) (ctrl : Ctrl) (s t : Phased) → t.control ≡ after_all (owed_steps (Some ctrl)) s.control
    → (if b then t else s).control ≡ after_all (owed_steps (ctrl_if b ctrl)) s.control
gives true ctrl s t is = is
gives false ctrl s t is = refl

lacks : (s : Phased) → (key_lacking s).control ≡ after_all (owed_steps (Some (owed_without_key s.phase))) s.control
lacks s = by (may_follow Refuse s.phase)
  where
    by : (b : Bool) → (refused_if b s).control
        ≡ after_all (owed_steps (Some (if b then RejectExtInd enc_req_opcode pin_or_key_missing else TerminateInd pin_or_key_missing))) s.control
    by true = refl
    by false = refl

-- ---- a PDU is taken

-- what was kept is taken in phase Clear or Secure
kept_moves : (slot : ℕ) (b : Bool) (kept : Option Ctrl) (s : Phased)
    → (if b then answered_kept slot kept s else s).control ≡ after_all (if b then kept_steps slot kept else []) s.control
kept_moves slot false kept s = refl
kept_moves slot true None s = refl
kept_moves slot true (Some ctrl) s = refl

pub same_kept : (response : Response) (read : CtrlRead) (s : Phased) → (ciphered response read s).kept ≡ s.kept
same_kept response read s = ap (λ (t : Phased). t.kept) (answers s response read)

later_moves : (slot : ℕ) (response : Response) (read : CtrlRead) (s : Phased)
    → (answered_if_quiet slot (ciphered response read s)).control ≡ after_all (later_steps slot response read s) s.control
later_moves slot response read s =
    let t = ciphered response read s in
    let owed = owed_steps (read_answer (role_now s) response read s.phase) in
    let one : (answered_if_quiet slot t).control ≡ after_all (if is_quiet_now t then kept_steps slot s.kept else []) t.control =
    subst (λ (k : Option Ctrl). (if is_quiet_now t then answered_kept slot t.kept t else t).control ≡ after_all (if is_quiet_now t then kept_steps slot k else []) t.control)
    (same_kept response read s) (kept_moves slot (is_quiet_now t) t.kept t) in
    one ∙ ap (after_all (if is_quiet_now t then kept_steps slot s.kept else [])) (ap (λ (u : Phased). u.control) (answers s response read))
    ∙ sym (steps_joined owed (if is_quiet_now t then kept_steps slot s.kept else []) s.control)

goes_moves : (slot : ℕ) (response : Response) (read : CtrlRead) (s : Phased)
    → (goes_on slot response read s).control ≡ after_all (if is_none s.control.ends then later_steps slot response read s else []) s.control
goes_moves slot response read s = by (is_none s.control.ends)
  where
    by : (b : Bool) → (if b then answered_if_quiet slot (ciphered response read s) else s).control ≡ after_all (if b then later_steps slot response read s else []) s.control
    by true = later_moves slot response read s
    by false = refl

handed_moves : (slot : ℕ) (response : Response) (read : CtrlRead) (s : Phased)
    → (handed_on slot response read s).control ≡ after_all (handed_steps slot response read s) s.control
handed_moves slot response read s = goes_moves slot response read (seen_by_procedures read slot s)

took_moves : (slot : ℕ) (response : Response) (read : CtrlRead) (s : Phased)
    → (took slot response read s).control
    ≡ ended_if (end_by_phase (Takes read slot response) s) (after_all (control_steps (Takes read slot response) s) s.control)
took_moves slot response read s = by (is_allowed read s) (does_keep read s) (lacks_room_now read s)
  where
    by : (allowed keeps full : Bool)
        → (if allowed then (if keeps then keeping read s else (if full then ended_with memory_capacity_exceeded s else handed_on slot response read s)) else ended_with mic_failure s).control
        ≡ ended_if (if allowed then (if keeps then None else code_if full memory_capacity_exceeded) else Some (record { 0 = mic_failure }))
        (after_all (if allowed then (if keeps then [] else (if full then [] else handed_steps slot response read s)) else []) s.control)
    by false keeps full = refl
    by true true full = refl
    by true false true = refl
    by true false false = handed_moves slot response read s

data_moves : (s : Phased) → (took_data s).control ≡ ended_if (end_by_phase TakesData s) s.control
data_moves s = by (allows s.phase (role_now s) Data)
  where
    by : (b : Bool) → (if b then s else ended_with mic_failure s).control ≡ ended_if (if b then None else Some (record { 0 = mic_failure })) s.control
    by true = refl
    by false = refl

-- ---- every step

pub open_moves : (step : PhasedStep) (s : Phased)
    → (phased_moved step s).control ≡ ended_if (end_by_phase step s) (after_all (control_steps step s) s.control)
open_moves (Enters slot) s =
    enters_with (is_encrypt (begin_step (table_entered s) slot (is_quiet_now s)).1) (request_of (ask_begun (table_entered s) (is_quiet_now s)))
    (with_step (control_enters slot (is_quiet_now s)) s)
open_moves (Asks ask) s = refl
open_moves (Answers answer) s = refl
open_moves GivesKey s = gives (s.asks_key && is_open_now s) StartEncReq s (key_given s) refl
open_moves LacksKey s = gives (s.asks_key && is_open_now s) (owed_without_key s.phase) s (key_lacking s) (lacks s)
open_moves (Disconnects reason) s = refl
open_moves (Sends slot) s = refl
open_moves SeesAcknowledged s = asks_with (asks_again s) s.request (with_step control_sees_acknowledged s) refl
open_moves (Takes read slot response) s = took_moves slot response read s
open_moves TakesData s = data_moves s

-- a step of a link that has not ended
pub open_phased : (P : Phased → Type 0) (step : PhasedStep) (s : Phased) → s.control.ends ≡ None → P (phased_moved step s) → P (phased_after step s)
open_phased P step s lasts h =
    subst (λ (b : Bool). P (if b then phased_moved step s else s)) (sym (ap (λ (ends : Option ErrCode). is_none ends) lasts)) h

pub moves_by_steps : (step : PhasedStep) (s : Phased) → s.control.ends ≡ None
    → (phased_after step s).control ≡ ended_if (end_by_phase step s) (after_all (control_steps step s) s.control)
moves_by_steps step s lasts =
    open_phased (λ (t : Phased). t.control ≡ ended_if (end_by_phase step s) (after_all (control_steps step s) s.control)) step s lasts (open_moves step s)

-- ---- all steps

-- no step of a link that ended
none_now : (step : PhasedStep) (s : Phased) (code : ErrCode) → s.control.ends ≡ Some code → steps_now step s ≡ []
none_now step s code is = subst (λ (ends : Option ErrCode). (if is_none ends then control_steps step s else []) ≡ []) (sym is) refl

pub same_after : (step : PhasedStep) (s : Phased) (code : ErrCode) → s.control.ends ≡ Some code → phased_after step s ≡ s
same_after step s code is = subst (λ (ends : Option ErrCode). (if is_none ends then phased_moved step s else s) ≡ s) (sym is) refl

none_after_end : (steps : List PhasedStep) (s : Phased) (code : ErrCode) → s.control.ends ≡ Some code → all_control_steps steps s ≡ []
none_after_end [] s code is = refl
none_after_end (step ∷ steps) s code is =
    ap (λ (xs : List Step). xs ++ all_control_steps steps (phased_after step s)) (none_now step s code is)
    ∙ none_after_end steps (phased_after step s) code (subst (λ (t : Phased). t.control.ends ≡ Some code) (sym (same_after step s code is)) is)

pub same_after_all : (steps : List PhasedStep) (s : Phased) (code : ErrCode) → s.control.ends ≡ Some code → phased_after_all steps s ≡ s
same_after_all [] s code is = refl
same_after_all (step ∷ steps) s code is = subst (λ (t : Phased). phased_after_all steps t ≡ s) (sym (same_after step s code is)) (same_after_all steps s code is)

-- the control part but for its end
abbrev pub with_end : Option ErrCode → Control → Control
with_end ends c = record c { ends = ends }

-- an end comes from one to another by these steps, but for its end
pub record Comes (s : Phased) (steps : List Step) (t : Phased) : Type 0 where
  pub but_end : t.control ≡ with_end t.control.ends (after_all steps s.control)
  pub whole : t.control.ends ≡ None → t.control ≡ after_all steps s.control

stays : (s t : Phased) (steps : List Step) → steps ≡ [] → t ≡ s → Comes s steps t
stays s t steps none is = rw (none, is) (record { but_end = refl; whole = λ lasts. refl })

joined : (s t u : Phased) (xs ys : List Step) → t.control ≡ after_all xs s.control → Comes t ys u → Comes s (xs ++ ys) u
joined s t u xs ys is comes =
    let all : after_all ys t.control ≡ after_all (xs ++ ys) s.control = ap (after_all ys) is ∙ sym (steps_joined xs ys s.control) in
    record {
      but_end = comes.but_end ∙ ap (with_end u.control.ends) all;
      whole = λ lasts. comes.whole lasts ∙ all;
    }

ended_there : (s t : Phased) (xs : List Step) (code : ErrCode) → t.control ≡ ended code (after_all xs s.control) → Comes s xs t
ended_there s t xs code is =
    record {
      but_end = is ∙ ap (λ (ends : Option ErrCode). with_end ends (after_all xs s.control)) (sym (ap (λ (c : Control). c.ends) is));
      whole = λ lasts. absurd (none_is_some (sym lasts ∙ ap (λ (c : Control). c.ends) is));
    }
  where
    none_is_some : ◌≡◌ {A = Option ErrCode} None (Some code) → ⊥
    none_is_some h = absurd (cc)

one_more : (e : Option ErrCode) (step : PhasedStep) (steps : List PhasedStep) (s : Phased) → (phased_after step s).control ≡ ended_if e (after_all (control_steps step s) s.control)
    → Comes (phased_after step s) (all_control_steps steps (phased_after step s)) (phased_after_all steps (phased_after step s))
    → Comes s (control_steps step s ++ all_control_steps steps (phased_after step s)) (phased_after_all steps (phased_after step s))
one_more None step steps s is comes =
    joined s (phased_after step s) (phased_after_all steps (phased_after step s)) (control_steps step s) (all_control_steps steps (phased_after step s)) is comes
one_more (Some code) step steps s is comes =
    let t = phased_after step s in
    let over : t.control.ends ≡ Some code = ap (λ (c : Control). c.ends) is in
    let none : control_steps step s ++ all_control_steps steps t ≡ control_steps step s =
    ap (λ (ys : List Step). control_steps step s ++ ys) (none_after_end steps t code over) ∙ append-nil (control_steps step s) in
    subst (λ (xs : List Step). Comes s xs (phased_after_all steps t)) (sym none)
    (subst (λ (u : Phased). Comes s (control_steps step s) u) (sym (same_after_all steps t code over)) (ended_there s t (control_steps step s) code is))

pub comes_by_steps : (steps : List PhasedStep) (s : Phased) → Comes s (all_control_steps steps s) (phased_after_all steps s)
comes_by_steps [] s = record { but_end = refl; whole = λ lasts. refl }
comes_by_steps (step ∷ steps) s = by s.control.ends refl (comes_by_steps steps (phased_after step s))
  where
    by : (ends : Option ErrCode) → s.control.ends ≡ ends → Comes (phased_after step s) (all_control_steps steps (phased_after step s)) (phased_after_all steps (phased_after step s))
        → Comes s (all_control_steps (step ∷ steps) s) (phased_after_all (step ∷ steps) s)
    by (Some code) is comes =
        stays s (phased_after_all (step ∷ steps) s) (all_control_steps (step ∷ steps) s) (none_after_end (step ∷ steps) s code is) (same_after_all (step ∷ steps) s code is)
    by None is comes =
        subst (λ (b : Bool). Comes s ((if b then control_steps step s else []) ++ all_control_steps steps (phased_after step s)) (phased_after_all (step ∷ steps) s))
        (sym (ap (λ (ends : Option ErrCode). is_none ends) is))
        (one_more (end_by_phase step s) step steps s (moves_by_steps step s is) comes)

pub but_end : (role : Role) (max_rx : ℕ) (first : Params) (slot : ℕ) (steps : List PhasedStep)
    → let s = phased_after_all steps (first_phased role max_rx first slot) in
    s.control ≡ record (after_all (all_control_steps steps (first_phased role max_rx first slot)) (first_control role max_rx first slot)) { ends = s.control.ends }
but_end role max_rx first slot steps = (comes_by_steps steps (first_phased role max_rx first slot)).but_end

pub whole : (role : Role) (max_rx : ℕ) (first : Params) (slot : ℕ) (steps : List PhasedStep)
    → let s = phased_after_all steps (first_phased role max_rx first slot) in
    s.control.ends ≡ None → s.control ≡ after_all (all_control_steps steps (first_phased role max_rx first slot)) (first_control role max_rx first slot)
whole role max_rx first slot steps = (comes_by_steps steps (first_phased role max_rx first slot)).whole

-- ---- what holds of the control part then

pub keeps_role : (role : Role) (max_rx : ℕ) (first : Params) (slot : ℕ) (steps : List PhasedStep)
    → role_now (phased_after_all steps (first_phased role max_rx first slot)) ≡ role
keeps_role role max_rx first slot steps =
    ap (λ (c : Control). role_of c.table.progress) (but_end role max_rx first slot steps)
    ∙ role_after role max_rx first slot (all_control_steps steps (first_phased role max_rx first slot))

pub waits_in_both : (max_rx : ℕ) (first : Params) (slot : ℕ) (steps : List PhasedStep)
    → let s = phased_after_all steps (first_phased Peripheral max_rx first slot) in
    kind_awaited s.control.table.progress ≡ kind_waiting s.control.track.waits
waits_in_both max_rx first slot steps =
    let cs = all_control_steps steps (first_phased Peripheral max_rx first slot) in
    subst (λ (c : Control). kind_awaited c.table.progress ≡ kind_waiting c.track.waits) (sym (but_end Peripheral max_rx first slot steps))
    (same_kind max_rx first slot cs)

pub free_where_handed : (max_rx : ℕ) (first : Params) (slot : ℕ) (steps : List PhasedStep) (read : CtrlRead) (now : ℕ) (quiet : Bool) (indication : Indication)
    → let s = phased_after_all steps (first_phased Peripheral max_rx first slot) in
    indicated_by (took_step s.control.table read now quiet).1.effect ≡ Some indication → is_none s.control.track.waits ≡ true
free_where_handed max_rx first slot steps read now quiet indication =
    subst (λ (c : Control). indicated_by (took_step c.table read now quiet).1.effect ≡ Some indication → is_none c.track.waits ≡ true) (sym (but_end Peripheral max_rx first slot steps))
    (free max_rx first slot (all_control_steps steps (first_phased Peripheral max_rx first slot)) read now quiet indication)
