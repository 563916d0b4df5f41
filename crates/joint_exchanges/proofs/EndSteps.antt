-- What each step of one end that takes no PDU does to its exchanges.
use Rattle.std.proofs.Common.{◌≡◌, ℕ, Bool, true, false, not, ◌&&◌, if◌then◌else◌, Option, Some, None, is_none, is_some, Result, refl, ap, ◌∙◌}
use Rattle.std.specs.Bool.{⊤}
use Rattle.ble_base.specs.ErrorCodes.{pin_or_key_missing}
use Rattle.ble_base.specs.declared.error_codes.ErrCode.{ErrCode}
use Rattle.ble_base.specs.declared.roles.Role.{Role}
use Rattle.ble_base.specs.declared.roles.Role.TheVariants.{Central, Peripheral}
use Rattle.data_pdu.specs.declared.ctrl.Ctrl.{Ctrl}
use Rattle.data_pdu.specs.declared.ctrl.Ctrl.TheVariants.{EncReq, PauseEncReq, RejectExtInd, StartEncReq, TerminateInd}
use Rattle.joint_controls.specs.enc_phase.declared.facts.PhaseFacts.{PhaseFacts}
use Rattle.joint_controls.specs.enc_phase.declared.facts.PhaseFacts.TheVariants.{Clear}
use Rattle.joint_controls.specs.enc_phase.declared.facts.Transition.TheVariants.{Ask as AskTransition, Pause, Refuse}
use Rattle.joint_controls.specs.enc_phase.Phases.{may_follow, phase_after, phase_starting}
use Rattle.instants.specs.Track.{next_number}
use Rattle.exchange_steps.specs.procedure_values.declared.asks.Ask.{Ask}
use Rattle.exchange_steps.specs.procedure_values.declared.asks.Ask.TheVariants.{Encrypt as ask_encrypt}
use Rattle.exchange_steps.specs.procedure_values.Drafts.{is_out}
use Rattle.exchange_steps.specs.procedure_stages.InProgress.{is_host_asked}
use Rattle.exchange_steps.specs.procedure_stages.Opcodes.{enc_req_opcode}
use Rattle.exchange_steps.specs.procedures.Calls.{asks, begins_one, disconnects, enters, host_answers, is_acked, is_given}
use Rattle.exchange_steps.specs.procedures.Going.{host_answer_step, is_answer, terminate_step}
use Rattle.exchange_steps.specs.procedures.Sending.{acked_step}
use Rattle.exchange_steps.specs.Ends.{ExchangeEnds, ends_of}
use Rattle.exchange_steps.specs.Steps.{EndStep, after_steps, step_of_ask, step_of_given, terminates}
use Rattle.exchange_steps.proofs.Calls.{each_call}
use Rattle.joint_controls.specs.control_model.Control.{Control, Step, Answers as control_answers, Asks as control_asks, Disconnects as control_disconnects, Enters as control_enters, Owes, SeesAcknowledged as control_acked, after, moved, table_if}
use Rattle.joint_controls.specs.phased_control.Phased.{Phased, acknowledged, ask_begun, asking_if, asks_again, encrypting, encrypting_if, entered, if_key_asked, is_open_now, is_quiet_now, key_given, key_lacking, refused_if, request_of, table_entered, with_owed, with_owed_if, with_step}
use Rattle.joint_controls.specs.phased_control.Taken.{PhasedStep, phased_after, phased_moved}
use Rattle.joint_exchanges.specs.JointMoves.{begun_as_entered, terminates_if}
use Rattle.joint_exchanges.specs.Parts.{exchanges_at}
use Rattle.joint_exchanges.specs.SentByRole.{IsRequestBy}

-- the exchanges of an end make at most one step, and what it knows and keeps stays
pub record MakesOf (step : Option EndStep) (e : ExchangeEnds) (knew : Bool) (keeps : Option Ctrl) (t : Phased) : Type 0 where
  pub ends : exchanges_at t ≡ after_steps step e
  pub knows : t.knows_version ≡ knew
  pub kept : t.kept ≡ keeps

abbrev pub Makes : Option EndStep → Phased → Phased → Type 0
Makes step s t = MakesOf step (exchanges_at s) s.knows_version s.kept t

pub makes_none : (s : Phased) → Makes None s s
makes_none s = record { ends = refl; knows = refl; kept = refl }

-- two steps, of which the second is none
pub then_none : (step : Option EndStep) (s t u : Phased) → Makes step s t → Makes None t u → Makes step s u
then_none step s t u first second =
    record { ends = second.ends ∙ first.ends; knows = second.knows ∙ first.knows; kept = second.kept ∙ first.kept }

-- ---- a link that has not ended

pub after_is : (step : Step) (c : Control) → c.ends ≡ None → after step c ≡ moved step c
after_is step c lasts = ap (λ (ends : Option ErrCode). if is_none ends then moved step c else c) lasts

pub phased_is : (step : PhasedStep) (s : Phased) → s.control.ends ≡ None → phased_after step s ≡ phased_moved step s
phased_is step s lasts = ap (λ (ends : Option ErrCode). if is_none ends then phased_moved step s else s) lasts

-- a step of procedures and parameters, by what it does to the table
stepped : (step : Step) (s : Phased) (steps : Option EndStep) → s.control.ends ≡ None
    → ends_of (moved step s.control).table ≡ after_steps steps (exchanges_at s) → Makes steps s (with_step step s)
stepped step s steps lasts is =
    record { ends = ap (λ (c : Control). ends_of c.table) (after_is step s.control lasts) ∙ is; knows = refl; kept = refl }

-- ---- a PDU of the encryption is queued

pub owed_same : (ctrl : Ctrl) (s : Phased) → step_of_given ctrl ≡ None → exchanges_at (with_owed ctrl s) ≡ exchanges_at s
owed_same ctrl s none = by (is_none s.control.ends)
  where
    by : (b : Bool) → ends_of (if b then moved (Owes ctrl) s.control else s.control).table ≡ ends_of s.control.table
    by true = each_call s.control.table (is_given ctrl) ∙ ap (λ x. after_steps x (ends_of s.control.table)) none
    by false = refl

pub owed_none : (ctrl : Ctrl) (s : Phased) → step_of_given ctrl ≡ None → Makes None s (with_owed ctrl s)
owed_none ctrl s none = record { ends = owed_same ctrl s none; knows = refl; kept = refl }

-- the PDU with which an encryption starts
abbrev pub IsRequest : Option Ctrl → Type 0
IsRequest None = ⊤
IsRequest (Some (EncReq rand ediv skd_m iv_m)) = ⊤
IsRequest (Some ctrl) = ⊥

pub is_request : (role : Role) (request : Option Ctrl) → IsRequestBy role request → IsRequest request
is_request role None is = tt
is_request Central (Some (EncReq rand ediv skd_m iv_m)) is = tt
is_request Central (Some ctrl) is = absurd is
is_request Peripheral (Some ctrl) is = absurd is

pub requested_none : (request : Option Ctrl) (s : Phased) → IsRequest request → Makes None s (with_owed_if request s)
requested_none None s is = makes_none s
requested_none (Some (EncReq rand ediv skd_m iv_m)) s is = owed_none (EncReq rand ediv skd_m iv_m) s refl
requested_none (Some ctrl) s is = absurd is

-- ---- an event is entered

pub is_request_of : (ask : Option Ask) → IsRequest (request_of ask)
is_request_of (Some (ask_encrypt rand ediv ltk skd_m iv_m)) = tt
is_request_of None = tt
is_request_of (Some ask) = tt

encrypting_none : (phase : PhaseFacts) (s : Phased) → IsRequest s.request → Makes None s (encrypting phase s)
encrypting_none Clear s is = requested_none s.request (record s { phase = phase_after AskTransition s.phase }) is
encrypting_none phase s is = owed_none PauseEncReq (record s { phase = phase_after Pause s.phase }) refl

encrypting_if_none : (b : Bool) (request : Option Ctrl) (s : Phased) → IsRequest request → Makes None s (encrypting_if b request s)
encrypting_if_none true request s is = encrypting_none s.phase (record s { request = request }) is
encrypting_if_none false request s is = makes_none s

pub enters_makes : (slot : ℕ) (s : Phased) → s.control.ends ≡ None → Makes (begun_as_entered slot s) s (entered slot s)
enters_makes slot s lasts =
    then_none (begun_as_entered slot s) s stepped_on (entered slot s)
    (stepped (control_enters slot (is_quiet_now s)) s (begun_as_entered slot s) lasts
    (each_call (table_entered s) (begins_one slot (is_quiet_now s))
    ∙ ap (λ e. after_steps (begun_as_entered slot s) e) (each_call s.control.table (enters (is_some (next_number s.control.track))))))
    (encrypting_if_none _ _ stepped_on (is_request_of (ask_begun (table_entered s) (is_quiet_now s))))
  where
    stepped_on : Phased
    stepped_on = with_step (control_enters slot (is_quiet_now s)) s

-- ---- the hosts

pub asks_makes : (ask : Ask) (s : Phased) → s.control.ends ≡ None → Makes (step_of_ask ask) s (with_step (control_asks ask) s)
asks_makes ask s lasts = stepped (control_asks ask) s (step_of_ask ask) lasts (each_call s.control.table (asks ask))

pub answers_make : (answer : Result Ask ErrCode) (s : Phased) → s.control.ends ≡ None → Makes None s (with_step (control_answers answer) s)
answers_make answer s lasts = stepped (control_answers answer) s None lasts (by (is_host_asked s.control.table.progress && is_answer answer))
  where
    by : (b : Bool) → ends_of (table_if b (host_answer_step s.control.table answer) s.control).table ≡ ends_of s.control.table
    by true = each_call s.control.table (host_answers answer)
    by false = refl

pub disconnects_make : (reason : ErrCode) (s : Phased) → s.control.ends ≡ None → Makes (terminates_if (is_open_now s)) s (with_step (control_disconnects reason) s)
disconnects_make reason s lasts = stepped (control_disconnects reason) s (terminates_if (is_open_now s)) lasts (by (is_open_now s))
  where
    by : (b : Bool) → ends_of (table_if b (terminate_step s.control.table reason) s.control).table ≡ after_steps (terminates_if b) (ends_of s.control.table)
    by true = each_call s.control.table (disconnects reason)
    by false = refl

pub key_makes : (s : Phased) → Makes None s (if_key_asked (key_given s) s)
key_makes s = by (s.asks_key && is_open_now s)
  where
    by : (b : Bool) → Makes None s (if b then key_given s else s)
    by true = owed_none StartEncReq (record s { asks_key = false; phase = phase_starting s.phase }) refl
    by false = makes_none s

pub no_key_makes : (s : Phased) → s.control.ends ≡ None
    → Makes (terminates_if (s.asks_key && is_open_now s && not (may_follow Refuse s.phase))) s (if_key_asked (key_lacking s) s)
no_key_makes s lasts = by (s.asks_key && is_open_now s) (may_follow Refuse s.phase)
  where
    by : (asked refuses : Bool) → Makes (terminates_if (asked && not refuses)) s (if asked then refused_if refuses s else s)
    by true true =
        owed_none (RejectExtInd enc_req_opcode pin_or_key_missing) (record s { asks_key = false; phase = phase_after Refuse s.phase }) refl
    by true false =
        stepped (Owes (TerminateInd pin_or_key_missing)) (record s { asks_key = false }) (Some terminates) lasts
        (each_call s.control.table (is_given (TerminateInd pin_or_key_missing)))
    by false refuses = makes_none s

-- ---- a PDU is acknowledged

pub acked_makes : (s : Phased) → s.control.ends ≡ None → IsRequest s.request → Makes None s (acknowledged s)
acked_makes s lasts request =
    then_none None s stepped_on (acknowledged s)
    (stepped control_acked s None lasts (by (is_out s.control.table.out))) (asking (asks_again s) request)
  where
    stepped_on : Phased
    stepped_on = with_step control_acked s

    by : (b : Bool) → ends_of (table_if b (acked_step s.control.table).0 s.control).table ≡ ends_of s.control.table
    by true = each_call s.control.table is_acked
    by false = refl

    asking : (b : Bool) → IsRequest stepped_on.request → Makes None stepped_on (asking_if b stepped_on)
    asking true is = requested_none stepped_on.request (record stepped_on { phase = phase_after AskTransition stepped_on.phase }) is
    asking false is = makes_none stepped_on
