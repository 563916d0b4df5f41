-- Each PDU of the encryption that an end owes has such a reason where it ends the link, so each step of an end with its phase
-- and its keys keeps what waits.
use Rattle.std.proofs.Common.{◌≡◌, ℕ, ◌&&◌, Bool, true, false, List, [], ◌∷◌, ◌++◌, Option, Some, None, is_none, refl, sym, subst, if◌then◌else◌}
use Rattle.std.specs.Prelude.{IfSome, ⊤}
use Rattle.std.specs.List.{AllByRecursion}
use Rattle.ble_base.specs.ErrorCodes.{pin_or_key_missing}
use Rattle.ble_base.specs.declared.error_codes.ErrCode.{ErrCode}
use Rattle.ble_base.specs.declared.roles.Role.{Role}
use Rattle.ble_base.specs.declared.roles.Role.TheVariants.{Central, Peripheral}
use Rattle.data_pdu.specs.declared.ctrl.Ctrl.{Ctrl}
use Rattle.data_pdu.specs.declared.ctrl.Ctrl.TheVariants.{EncReq, PauseEncReq, PauseEncRsp, RejectExtInd, StartEncReq, StartEncRsp, TerminateInd}
use Rattle.data_pdu.specs.declared.ctrl.CtrlRead.{CtrlRead}
use Rattle.data_pdu.specs.declared.ctrl.CtrlRead.TheVariants.{Known}
use Rattle.link_runs.specs.link_pairs.control_model.Control.{Control, Step as ControlStep, Takes as control_takes, after_all}
use Rattle.link_runs.specs.link_pairs.link_model.enc_phase.declared.facts.PhaseFacts.{PhaseFacts}
use Rattle.link_runs.specs.link_pairs.link_model.enc_phase.declared.facts.PhaseFacts.TheVariants.{Clear}
use Rattle.link_runs.specs.link_pairs.link_model.enc_phase.declared.facts.Transition.TheVariants.{Ask as AskTransition, Confirm, Pause, Refuse, Unlock}
use Rattle.link_runs.specs.link_pairs.link_model.enc_phase.Phases.{is_asked, may_follow}
use Rattle.link_runs.specs.link_pairs.link_model.phased_control.Ends.{IsRequest}
use Rattle.link_runs.specs.link_pairs.link_model.phased_control.Phased.{Phased, ask_begun, asks_again, is_encrypt, is_open_now, is_quiet_now, request_of, table_entered}
use Rattle.link_runs.specs.link_pairs.link_model.phased_control.Steps.{control_steps, ctrl_answer, ctrl_if, end_by_phase, ended_if, first_owed_if, kept_steps, later_steps, owed_acknowledged, owed_entering, owed_steps, owed_without_key, read_answer, seen_by_procedures, taken_steps}
use Rattle.link_runs.specs.link_pairs.link_model.phased_control.Taken.{PhasedStep, Answers, Asks, Disconnects, Enters, GivesKey, LacksKey, Response, SeesAcknowledged, Sends, Takes, TakesData, ciphered, does_keep, is_allowed, lacks_room_now, phased_moved, response_ctrl, role_now, seen_as}
use Rattle.link_runs.specs.link_pairs.link_model.keyed_control.Keyed.{Keyed}
use Rattle.link_runs.specs.link_pairs.link_model.keyed_control.KeyedSteps.{KeyedStep, keyed_after, phased_step}
use Rattle.link_runs.specs.link_pairs.procedure_values.declared.asks.Ask.{Ask}
use Rattle.link_runs.specs.link_pairs.procedure_values.declared.asks.Ask.TheVariants.{Encrypt}
use Rattle.link_runs.specs.link_pairs.procedures.Beginning.{begin_step}
use Rattle.link_runs.proofs.link_pairs.link_model.phased_end.keyed_control.Phases.{after_one, phased_once}
use Rattle.link_runs.proofs.link_pairs.link_model.phased_end.keyed_control.phased_control.Moving.{open_moves}
use Rattle.journal_endings.proofs.HostReasons.{EndsWithReason, HoldsReasons, IsReason, SaysReason, steps_hold}

-- ---- what is owed

says_if : (b : Bool) (ctrl : Ctrl) → SaysReason ctrl → IfSome (ctrl_if b ctrl) SaysReason
says_if true ctrl says = says
says_if false ctrl says = tt

request_says : (asked : Option Ask) → IfSome (request_of asked) SaysReason
request_says None = tt
request_says (Some (Encrypt rand ediv ltk skd_m iv_m)) = tt
request_says (Some other) = tt

entering_says : (begins : Bool) (phase : PhaseFacts) (asked : Option Ask) → IfSome (first_owed_if begins phase (request_of asked)) SaysReason
entering_says false phase asked = tt
entering_says true Clear asked = request_says asked
entering_says true phase asked = tt

again_says : (asks : Bool) (request : Option Ctrl) → (asks ≡ true → IsRequest request) → IfSome (if asks then request else None) SaysReason
again_says true (Some (EncReq rand ediv skd_m iv_m)) is = tt
again_says true (Some other) is = absurd (is refl)
again_says true None is = tt
again_says false request is = tt

-- a start is refused, or the link ends
without_key_says : (phase : PhaseFacts) → SaysReason (owed_without_key phase)
without_key_says phase = by (may_follow Refuse phase)
  where
    by : (refuses : Bool) → SaysReason (if refuses then RejectExtInd 3 pin_or_key_missing else TerminateInd pin_or_key_missing)
    by true = tt
    by false = refl

answer_says : (role : Role) (response : Response) (ctrl : Ctrl) (phase : PhaseFacts) → IfSome (ctrl_answer role response ctrl phase) SaysReason
answer_says Central response StartEncReq phase = says_if (is_asked phase) StartEncRsp tt
answer_says Central response PauseEncRsp phase = says_if (may_follow Unlock phase) PauseEncRsp tt
answer_says Central response ctrl phase = tt
answer_says Peripheral response (EncReq rand ediv skd_m iv_m) phase = says_if (may_follow AskTransition phase) (response_ctrl response) tt
answer_says Peripheral response PauseEncReq phase = says_if (may_follow Pause phase) PauseEncRsp tt
answer_says Peripheral response StartEncRsp phase = says_if (may_follow Confirm phase) StartEncRsp tt
answer_says Peripheral response ctrl phase = tt

read_says : (role : Role) (response : Response) (read : CtrlRead) (phase : PhaseFacts) → IfSome (read_answer role response read phase) SaysReason
read_says role response (Known ctrl) phase = answer_says role response ctrl phase
read_says role response read phase = tt

-- ---- the steps of the control part

both : (steps more : List ControlStep) → AllByRecursion EndsWithReason steps → AllByRecursion EndsWithReason more → AllByRecursion EndsWithReason (steps ++ more)
both [] more here later = later
both (step ∷ steps) more here later = (here.0, both steps more here.1 later)

owed_ends : (owed : Option Ctrl) → IfSome owed SaysReason → AllByRecursion EndsWithReason (owed_steps owed)
owed_ends None says = tt
owed_ends (Some ctrl) says = (says, tt)

kept_ends : (quiet : Bool) (slot : ℕ) (kept : Option Ctrl) → AllByRecursion EndsWithReason (if quiet then kept_steps slot kept else [])
kept_ends false slot kept = tt
kept_ends true slot None = tt
kept_ends true slot (Some ctrl) = (tt, tt)

module _ (slot : ℕ) (response : Response) (read : CtrlRead) where
  later_end : (s : Phased) → AllByRecursion EndsWithReason (later_steps slot response read s)
  later_end s =
      let owed = read_answer (role_now s) response read s.phase in
      let quiet = is_quiet_now (ciphered response read s) in
      both (owed_steps owed) (if quiet then kept_steps slot s.kept else []) (owed_ends owed (read_says (role_now s) response read s.phase))
      (kept_ends quiet slot s.kept)

  taken_end : (s : Phased) → AllByRecursion EndsWithReason (taken_steps slot response read s)
  taken_end s = by (is_allowed read s) (does_keep read s) (lacks_room_now read s) (is_none (seen_by_procedures read slot s).control.ends)
    where
      by : (allowed keeps full lasts : Bool)
          → AllByRecursion EndsWithReason
          (if allowed
          then (if keeps then [] else (if full then []
          else control_takes (seen_as read s) slot (is_quiet_now s) ∷ (if lasts then later_steps slot response read (seen_by_procedures read slot s) else [])))
          else [])
      by false keeps full lasts = tt
      by true true full lasts = tt
      by true false true lasts = tt
      by true false false true = (tt, later_end (seen_by_procedures read slot s))
      by true false false false = (tt, tt)

-- the host ends the link with such a reason, and what a central asks for again ends none
abbrev pub SaysStep : PhasedStep → Phased → Type 0
SaysStep (Disconnects reason) s = IsReason reason
SaysStep SeesAcknowledged s = IfSome (owed_acknowledged s) SaysReason
SaysStep step s = ⊤

pub again_step : (s : Phased) → (asks_again s ≡ true → IsRequest s.request) → SaysStep SeesAcknowledged s
again_step s is = again_says (asks_again s) s.request is

steps_end : (step : PhasedStep) (s : Phased) → SaysStep step s → AllByRecursion EndsWithReason (control_steps step s)
steps_end (Enters slot) s says = (
  tt,
  owed_ends (owed_entering slot s)
      (entering_says (is_encrypt (begin_step (table_entered s) slot (is_quiet_now s)).1) s.phase (ask_begun (table_entered s) (is_quiet_now s))),
)
steps_end (Asks ask) s says = (tt, tt)
steps_end (Answers answer) s says = (tt, tt)
steps_end GivesKey s says =
    let asks = s.asks_key && is_open_now s in owed_ends (ctrl_if asks StartEncReq) (says_if asks StartEncReq tt)
steps_end LacksKey s says =
    let asks = s.asks_key && is_open_now s in
    owed_ends (ctrl_if asks (owed_without_key s.phase)) (says_if asks (owed_without_key s.phase) (without_key_says s.phase))
steps_end (Disconnects reason) s says = (says, tt)
steps_end (Sends slot) s says = (tt, tt)
steps_end SeesAcknowledged s says = (tt, owed_ends (owed_acknowledged s) says)
steps_end (Takes read slot response) s says = taken_end slot response read s
steps_end TakesData s says = tt

-- ---- the steps of an end

ended_holds : (ends : Option ErrCode) (c : Control) → HoldsReasons c → HoldsReasons (ended_if ends c)
ended_holds None c has = has
ended_holds (Some code) c has = has

phased_holds : (step : PhasedStep) (s : Phased) → SaysStep step s → HoldsReasons s.control → HoldsReasons (phased_moved step s).control
phased_holds step s says has =
    subst HoldsReasons (sym (open_moves step s))
    (ended_holds (end_by_phase step s) (after_all (control_steps step s) s.control)
    (steps_hold (control_steps step s) s.control (steps_end step s says) has))

one_holds : (step : Option PhasedStep) (s : Phased) → (is_none s.control.ends ≡ true → IfSome step (λ one. SaysStep one s)) → HoldsReasons s.control
    → HoldsReasons (after_one step s).control
one_holds None s says has = has
one_holds (Some step) s says has = by (is_none s.control.ends) refl
  where
    by : (goes : Bool) → is_none s.control.ends ≡ goes → HoldsReasons (if goes then phased_moved step s else s).control
    by true is = phased_holds step s (says is) has
    by false is = has

pub keyed_holds : (step : KeyedStep) (k : Keyed) → (is_none k.phased.control.ends ≡ true → IfSome (phased_step step) (λ one. SaysStep one k.phased))
    → HoldsReasons k.phased.control → HoldsReasons (keyed_after step k).phased.control
keyed_holds step k says has =
    subst (λ (s : Phased). HoldsReasons s.control) (sym (phased_once step k)) (one_holds (phased_step step) k.phased says has)
