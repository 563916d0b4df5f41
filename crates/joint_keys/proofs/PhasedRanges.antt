-- Each step of an end with its phase keeps the values that its control PDUs carry in their ranges, host keys included.
use Rattle.std.specs.Prelude.{IfSome, ⊤}
use Rattle.std.proofs.Common.{ℕ, Bool, true, false, ◌&&◌, List, [], ◌∷◌, ◌++◌, Option, Some, None, Ok, Err, is_none, is_some, refl, ap, sym, subst, arith, if◌then◌else◌}
use Rattle.ble_base.specs.declared.error_codes.ErrCode.{ErrCode}
use Rattle.ble_base.specs.declared.roles.Role.{Role}
use Rattle.ble_base.specs.declared.roles.Role.TheVariants.{Central, Peripheral}
use Rattle.data_pdu.specs.declared.ctrl.Ctrl.{Ctrl}
use Rattle.data_pdu.specs.declared.ctrl.Ctrl.TheVariants.{EncReq, PauseEncReq, PauseEncRsp, RejectExtInd, StartEncReq, StartEncRsp, TerminateInd}
use Rattle.data_pdu.specs.declared.ctrl.CtrlRead.{CtrlRead}
use Rattle.data_pdu.specs.declared.ctrl.CtrlRead.TheVariants.{Bare, Known, Unknown}
use Rattle.data_pdu.specs.Layouts.{IsCtrl}
use Rattle.instants.specs.declared.indications.Params.{Params}
use Rattle.instants.specs.Track.{next_number}
use Rattle.control_octets.specs.Fitting.{AskFits, FitsOctets, ParamsFit, ReadFits, StepFits}
use Rattle.control_octets.proofs.Outcomes.{opcode_small}
use Rattle.control_octets.proofs.Pdus.{enc_req_fits}
use Rattle.control_octets.proofs.Steps.{asked_fits, begins_fitting, holds, stays_fitting}
use Rattle.enc_phase.specs.declared.facts.PhaseFacts.{PhaseFacts}
use Rattle.enc_phase.specs.declared.facts.PhaseFacts.TheVariants.{Clear}
use Rattle.enc_phase.specs.declared.facts.Transition.TheVariants.{Ask as AskTransition, Confirm, Pause, Refuse, Unlock}
use Rattle.enc_phase.specs.Phases.{is_asked, may_follow}
use Rattle.enc_phase.specs.Taking.{allows}
use Rattle.enc_phase.specs.declared.classes.PduClass.TheVariants.{Data}
use Rattle.phased_control.specs.control_model.Control.{Control, Step, Answers as control_answers, Asks as control_asks, Disconnects as control_disconnects, Enters as control_enters, Sends as control_sends, Owes, SeesAcknowledged as control_sees_acknowledged, after, after_all}
use Rattle.phased_control.specs.procedure_values.declared.asks.Ask.{Ask}
use Rattle.phased_control.specs.procedure_values.declared.asks.Ask.TheVariants.{Encrypt}
use Rattle.phased_control.specs.procedure_values.Values.{IsPayloadMax}
use Rattle.phased_control.specs.procedures.Beginning.{begin_step, place_to_begin}
use Rattle.phased_control.specs.Phased.{Phased, ask_begun, asking_if, asks_again, encrypting, encrypting_if, first_phased, is_encrypt, is_open_now, is_quiet_now, key_given, key_lacking, refused_if, request_of, table_entered, with_owed_if, with_step}
use Rattle.phased_control.specs.Steps.{central_answer, control_steps, ctrl_if, end_by_phase, ended_if, first_owed, first_owed_if, handed_steps, kept_steps, later_steps, owed_entering, owed_steps, owed_without_key, peripheral_answer, read_answer, seen_by_procedures}
use Rattle.phased_control.specs.Taken.{PhasedStep, Response, Answers, Asks, Disconnects, Enters, GivesKey, LacksKey, SeesAcknowledged, Sends, Takes, TakesData, answered_if_quiet, answered_kept, ciphered, ctrl_in, does_keep, ended_with, handed_on, is_allowed, keeping, lacks_room_now, phased_after, phased_moved, response_ctrl, role_now, seen_if}
use Rattle.phased_control.proofs.Answering.{answers}
use Rattle.phased_control.proofs.Moving.{open_moves, same_kept}
use Rattle.joint_keys.specs.PhasedRanges.{PhasedFits, PhasedStepFits}

some_if : (F : Ctrl → Type 0) (b : Bool) (owed : Option Ctrl) → IfSome owed F → IfSome (if b then owed else None) F
some_if F true owed is = is
some_if F false owed is = tt

-- ---- LL_ENC_REQ of an encryption that begins

-- as the host asked for it
pub begun_fits : (s : Phased) → FitsOctets s.control → IfSome (ask_begun (table_entered s) (is_quiet_now s)) AskFits
begun_fits s fits =
    asked_fits (table_entered s).wanted (place_to_begin (table_entered s) (is_quiet_now s)) _ refl
    (holds s.control.table (is_some (next_number s.control.track)) fits.table).wanted

-- of each fact of LL_ENC_REQ that fits
pub request_is : (F : Ctrl → Type 0) → ((rand ediv skd_m iv_m : ℕ) → IsCtrl (EncReq rand ediv skd_m iv_m) → F (EncReq rand ediv skd_m iv_m))
    → (s : Phased) → FitsOctets s.control → IfSome (request_of (ask_begun (table_entered s) (is_quiet_now s))) F
request_is F every s fits = by (ask_begun (table_entered s) (is_quiet_now s)) (begun_fits s fits)
  where
    by : (asked : Option Ask) → IfSome asked AskFits → IfSome (request_of asked) F
    by None is = tt
    by (Some (Encrypt rand ediv ltk skd_m iv_m)) is = every rand ediv skd_m iv_m (enc_req_fits rand ediv skd_m iv_m is)
    by (Some other) is = tt

-- ---- what an end holds of its encryption: a fact of each PDU

pub record Holds (F : Ctrl → Type 0) (s : Phased) : Type 0 where
  pub request : IfSome s.request F
  pub kept : IfSome s.kept F

abbrev pub StepHolds : (Ctrl → Type 0) → PhasedStep → Type 0
StepHolds F (Takes (Known ctrl) slot response) = F ctrl
StepHolds F step = ⊤

module _ (F : Ctrl → Type 0) where
  -- the same request and the same PDU that is kept
  stepped : (step : Step) (s : Phased) → Holds F s → Holds F (with_step step s)
  stepped step s h = record { request = h.request; kept = h.kept }

  owed_holds : (owed : Option Ctrl) (s : Phased) → Holds F s → Holds F (with_owed_if owed s)
  owed_holds None s h = h
  owed_holds (Some ctrl) s h = stepped (Owes ctrl) s h

  in_phase : (p : PhaseFacts) (key : Bool) (s : Phased) → Holds F s → Holds F (record s { phase = p; asks_key = key })
  in_phase p key s h = record { request = h.request; kept = h.kept }

  ended_holds : (code : ℕ) (s : Phased) → Holds F s → Holds F (ended_with code s)
  ended_holds code s h = record { request = h.request; kept = h.kept }

  either : (b : Bool) (s t : Phased) → Holds F s → Holds F t → Holds F (if b then s else t)
  either true s t one other = one
  either false s t one other = other

  asking : (b : Bool) (s : Phased) → Holds F s → Holds F (asking_if b s)
  asking true s h = owed_holds s.request _ (in_phase _ s.asks_key s h)
  asking false s h = h

  entering : (b : Bool) (request : Option Ctrl) (s : Phased) → IfSome request F → Holds F s → Holds F (encrypting_if b request s)
  entering false request s is h = h
  entering true request s is h = by s.phase
    where
      t : Phased
      t = record s { request = request }

      with_request : Holds F t
      with_request = record { request = is; kept = h.kept }

      by : (p : PhaseFacts) → Holds F (encrypting p t)
      by Clear = owed_holds request _ (in_phase _ s.asks_key t with_request)
      by p = stepped (Owes PauseEncReq) _ (in_phase _ s.asks_key t with_request)

  refused : (b : Bool) (s : Phased) → Holds F s → Holds F (refused_if b s)
  refused true s h = stepped (Owes _) _ (in_phase _ false s h)
  refused false s h = stepped (Owes _) _ (in_phase _ false s h)

  -- a control PDU is taken
  answered : (slot : ℕ) (kept : Option Ctrl) (s : Phased) → Holds F s → Holds F (answered_kept slot kept s)
  answered slot None s h = h
  answered slot (Some ctrl) s h = record { request = h.request; kept = tt }

  if_quiet : (b : Bool) (slot : ℕ) (s : Phased) → Holds F s → Holds F (if b then answered_kept slot s.kept s else s)
  if_quiet true slot s h = answered slot s.kept s h
  if_quiet false slot s h = h

  module _ (read : CtrlRead) (slot : ℕ) (response : Response) where
    ciphered_holds : (s : Phased) → Holds F s → Holds F (ciphered response read s)
    ciphered_holds s h =
        record {
          request = subst (λ (o : Option Ctrl). IfSome o F) (sym (ap (λ (t : Phased). t.request) (answers s response read))) h.request;
          kept = subst (λ (o : Option Ctrl). IfSome o F) (sym (same_kept response read s)) h.kept;
        }

    goes_holds : (b : Bool) (s : Phased) → Holds F s → Holds F (if b then answered_if_quiet slot (ciphered response read s) else s)
    goes_holds true s h = if_quiet (is_quiet_now (ciphered response read s)) slot (ciphered response read s) (ciphered_holds s h)
    goes_holds false s h = h

    took_holds : (allowed keeps full : Bool) (code other : ℕ) (s : Phased) → IfSome (ctrl_in read) F → Holds F s
        → Holds F (if allowed then (if keeps then keeping read s else (if full then ended_with code s else handed_on slot response read s)) else ended_with other s)
    took_holds true true full code other s is h = record { request = h.request; kept = is }
    took_holds true false true code other s is h = ended_holds code s h
    took_holds true false false code other s is h =
        let t = seen_by_procedures read slot s in goes_holds (is_none t.control.ends) t (record { request = h.request; kept = h.kept })
    took_holds false keeps full code other s is h = ended_holds other s h

  took_read : (read : CtrlRead) (slot : ℕ) (response : Response) → StepHolds F (Takes read slot response) → IfSome (ctrl_in read) F
  took_read (Known ctrl) slot response is = is
  took_read (Unknown opcode) slot response is = tt
  took_read Bare slot response is = tt

  module _ (every : (rand ediv skd_m iv_m : ℕ) → IsCtrl (EncReq rand ediv skd_m iv_m) → F (EncReq rand ediv skd_m iv_m)) where
    holds_moved : (step : PhasedStep) (s : Phased) → FitsOctets s.control → StepHolds F step → Holds F s → Holds F (phased_moved step s)
    holds_moved (Enters slot) s fits is h =
        entering (is_encrypt (begin_step (table_entered s) slot (is_quiet_now s)).1) (request_of (ask_begun (table_entered s) (is_quiet_now s))) _
        (request_is F every s fits) (stepped (control_enters slot (is_quiet_now s)) s h)
    holds_moved (Asks ask) s fits is h = stepped (control_asks ask) s h
    holds_moved (Answers answer) s fits is h = stepped (control_answers answer) s h
    holds_moved GivesKey s fits is h =
        either (s.asks_key && is_open_now s) (key_given s) s (stepped (Owes StartEncReq) _ (in_phase _ false s h)) h
    holds_moved LacksKey s fits is h = either (s.asks_key && is_open_now s) (key_lacking s) s (refused (may_follow Refuse s.phase) s h) h
    holds_moved (Disconnects reason) s fits is h = stepped (control_disconnects reason) s h
    holds_moved (Sends slot) s fits is h = stepped (control_sends slot (is_quiet_now s)) s h
    holds_moved SeesAcknowledged s fits is h = asking (asks_again s) _ (stepped control_sees_acknowledged s h)
    holds_moved (Takes read slot response) s fits is h =
        took_holds read slot response (is_allowed read s) (does_keep read s) (lacks_room_now read s) _ _ s (took_read read slot response is) h
    holds_moved TakesData s fits is h = either (allows s.phase (role_now s) Data) s _ h (ended_holds _ s h)

    pub holds_after : (step : PhasedStep) (s : Phased) → FitsOctets s.control → StepHolds F step → Holds F s → Holds F (phased_after step s)
    holds_after step s fits is h = either (is_none s.control.ends) (phased_moved step s) s (holds_moved step s fits is h) h

-- ---- the steps of procedures and parameters

abbrev AllStepsFit : List Step → Type 0
AllStepsFit [] = ⊤
AllStepsFit (step ∷ steps) = StepFits step × AllStepsFit steps

all_fit : (steps : List Step) (c : Control) → AllStepsFit steps → FitsOctets c → FitsOctets (after_all steps c)
all_fit [] c are fits = fits
all_fit (step ∷ steps) c are fits = all_fit steps (after step c) are.1 (stays_fitting c step fits are.0)

joined : (xs ys : List Step) → AllStepsFit xs → AllStepsFit ys → AllStepsFit (xs ++ ys)
joined [] ys first later = later
joined (x ∷ xs) ys first later = (first.0, joined xs ys first.1 later)

or_none : (b : Bool) (xs : List Step) → AllStepsFit xs → AllStepsFit (if b then xs else [])
or_none true xs are = are
or_none false xs are = tt

owed_fit : (owed : Option Ctrl) → IfSome owed IsCtrl → AllStepsFit (owed_steps owed)
owed_fit None is = tt
owed_fit (Some ctrl) is = (is, tt)

if_fits : (b : Bool) (ctrl : Ctrl) → IsCtrl ctrl → IfSome (ctrl_if b ctrl) IsCtrl
if_fits true ctrl is = is
if_fits false ctrl is = tt

start_req : IsCtrl StartEncReq
start_req = record { fits = grind arith; six_offsets = tt; range = tt }

start_rsp : IsCtrl StartEncRsp
start_rsp = record { fits = grind arith; six_offsets = tt; range = tt }

pause_req : IsCtrl PauseEncReq
pause_req = record { fits = grind arith; six_offsets = tt; range = tt }

pause_rsp : IsCtrl PauseEncRsp
pause_rsp = record { fits = grind arith; six_offsets = tt; range = tt }

without_key : (b : Bool) → IsCtrl (if b then RejectExtInd 3 6 else TerminateInd 6)
without_key true = record { fits = grind arith; six_offsets = tt; range = tt }
without_key false = record { fits = grind arith; six_offsets = tt; range = tt }

first_fits : (p : PhaseFacts) (request : Option Ctrl) → IfSome request IsCtrl → IfSome (first_owed p request) IsCtrl
first_fits Clear request is = is
first_fits p request is = pause_req

first_fits_if : (b : Bool) (p : PhaseFacts) (request : Option Ctrl) → IfSome request IsCtrl → IfSome (first_owed_if b p request) IsCtrl
first_fits_if true p request is = first_fits p request is
first_fits_if false p request is = tt

central_fits : (ctrl : Ctrl) (p : PhaseFacts) → IfSome (central_answer ctrl p) IsCtrl
central_fits StartEncReq p = if_fits (is_asked p) StartEncRsp start_rsp
central_fits PauseEncRsp p = if_fits (may_follow Unlock p) PauseEncRsp pause_rsp
central_fits ctrl p = tt

peripheral_fits : (response : Response) → IsCtrl (response_ctrl response) → (ctrl : Ctrl) (p : PhaseFacts) → IfSome (peripheral_answer response ctrl p) IsCtrl
peripheral_fits response drawn (EncReq rand ediv skd_m iv_m) p = if_fits (may_follow AskTransition p) (response_ctrl response) drawn
peripheral_fits response drawn PauseEncReq p = if_fits (may_follow Pause p) PauseEncRsp pause_rsp
peripheral_fits response drawn StartEncRsp p = if_fits (may_follow Confirm p) StartEncRsp start_rsp
peripheral_fits response drawn ctrl p = tt

answer_fits : (role : Role) (response : Response) → IsCtrl (response_ctrl response) → (read : CtrlRead) (p : PhaseFacts) → IfSome (read_answer role response read p) IsCtrl
answer_fits Central response drawn (Known ctrl) p = central_fits ctrl p
answer_fits Peripheral response drawn (Known ctrl) p = peripheral_fits response drawn ctrl p
answer_fits role response drawn (Unknown opcode) p = tt
answer_fits role response drawn Bare p = tt

module _ (read : CtrlRead) (slot : ℕ) (response : Response) (fine : ReadFits read) (drawn : IsCtrl (response_ctrl response)) (s : Phased) (kept : IfSome s.kept IsCtrl) where
  seen_fits : (read : CtrlRead) (unknown : Bool) → ReadFits read → ReadFits (seen_if unknown read)
  seen_fits (Known ctrl) true is = opcode_small ctrl
  seen_fits (Known ctrl) false is = is
  seen_fits (Unknown opcode) true is = is
  seen_fits (Unknown opcode) false is = is
  seen_fits Bare true is = is
  seen_fits Bare false is = is

  kept_fit : (o : Option Ctrl) → IfSome o IsCtrl → AllStepsFit (kept_steps slot o)
  kept_fit None is = tt
  kept_fit (Some ctrl) is = (is, tt)

  later_fit : (t : Phased) → IfSome t.kept IsCtrl → AllStepsFit (later_steps slot response read t)
  later_fit t is =
      joined (owed_steps (read_answer (role_now t) response read t.phase)) _ (owed_fit _ (answer_fits (role_now t) response drawn read t.phase))
      (or_none (is_quiet_now (ciphered response read t)) (kept_steps slot t.kept) (kept_fit t.kept is))

  handed_fit : AllStepsFit (handed_steps slot response read s)
  handed_fit =
      let t = seen_by_procedures read slot s in (
        seen_fits read _ fine,
        or_none (is_none t.control.ends) (later_steps slot response read t) (later_fit t kept),
      )

  taken_fit : (allowed keeps full : Bool)
      → AllStepsFit (if allowed then (if keeps then [] else (if full then [] else handed_steps slot response read s)) else [])
  taken_fit true true full = tt
  taken_fit true false true = tt
  taken_fit true false false = handed_fit
  taken_fit false keeps full = tt

steps_fit : (step : PhasedStep) (s : Phased) → PhasedStepFits step → PhasedFits s → AllStepsFit (control_steps step s)
steps_fit (Enters slot) s is fits = (
  tt,
  owed_fit (owed_entering slot s)
      (first_fits_if (is_encrypt (begin_step (table_entered s) slot (is_quiet_now s)).1) s.phase _ (request_is IsCtrl (λ rand ediv skd_m iv_m ctrl. ctrl) s fits.control)),
)
steps_fit (Asks ask) s is fits = (is, tt)
steps_fit (Answers (Ok ask)) s is fits = (is, tt)
steps_fit (Answers (Err code)) s is fits = (is, tt)
steps_fit GivesKey s is fits = owed_fit _ (if_fits (s.asks_key && is_open_now s) StartEncReq start_req)
steps_fit LacksKey s is fits = owed_fit _ (if_fits (s.asks_key && is_open_now s) (owed_without_key s.phase) (without_key (may_follow Refuse s.phase)))
steps_fit (Disconnects reason) s is fits = (is, tt)
steps_fit (Sends slot) s is fits = (tt, tt)
steps_fit SeesAcknowledged s is fits = (tt, owed_fit _ (some_if IsCtrl (asks_again s) s.request fits.request))
steps_fit (Takes read slot response) s is fits =
    taken_fit read slot response is.0 is.1 s fits.kept (is_allowed read s) (does_keep read s) (lacks_room_now read s)
steps_fit TakesData s is fits = tt

over_fits : (end : Option ErrCode) (c : Control) → FitsOctets c → FitsOctets (ended_if end c)
over_fits None c fits = fits
over_fits (Some code) c fits = record { table = fits.table; track = fits.track }

control_moved : (step : PhasedStep) (s : Phased) → PhasedStepFits step → PhasedFits s → FitsOctets (phased_moved step s).control
control_moved step s is fits =
    subst FitsOctets (sym (open_moves step s))
    (over_fits (end_by_phase step s) _ (all_fit (control_steps step s) s.control (steps_fit step s is fits) fits.control))

control_after : (step : PhasedStep) (s : Phased) → PhasedStepFits step → PhasedFits s → FitsOctets (phased_after step s).control
control_after step s is fits = by (is_none s.control.ends)
  where
    by : (b : Bool) → FitsOctets (if b then phased_moved step s else s).control
    by true = control_moved step s is fits
    by false = fits.control

-- ---- the whole

step_holds : (step : PhasedStep) → PhasedStepFits step → StepHolds IsCtrl step
step_holds (Takes (Known ctrl) slot response) is = is.0
step_holds (Takes (Unknown opcode) slot response) is = tt
step_holds (Takes Bare slot response) is = tt
step_holds step is = tt

pub phased_stays_fitting : (step : PhasedStep) (s : Phased) → PhasedFits s → PhasedStepFits step → PhasedFits (phased_after step s)
phased_stays_fitting step s fits is =
    let h =
    holds_after IsCtrl (λ rand ediv skd_m iv_m ctrl. ctrl) step s fits.control (step_holds step is) (record { request = fits.request; kept = fits.kept }) in
    record { control = control_after step s is fits; request = h.request; kept = h.kept }

pub phased_begins_fitting : (role : Role) (max_rx : ℕ) (first : Params) (slot : ℕ) → IsPayloadMax max_rx → ParamsFit first → PhasedFits (first_phased role max_rx first slot)
phased_begins_fitting role max_rx first slot rx params =
    record { control = begins_fitting role max_rx first slot rx params; request = tt; kept = tt }
