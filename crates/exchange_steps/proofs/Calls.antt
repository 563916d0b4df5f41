-- Each call on a table is at most one step of the exchanges.
use Rattle.std.proofs.Common.{◌≡◌, ℕ, Bool, true, false, Option, Some, None, is_some, if◌then◌else◌, refl, ap, ◌∙◌}
use Rattle.data_pdu.specs.declared.ctrl.Ctrl.{Ctrl}
use Rattle.data_pdu.specs.declared.ctrl.Ctrl.TheVariants.{RejectExtInd, RejectInd, TerminateInd, UnknownRsp}
use Rattle.data_pdu.specs.declared.ctrl.CtrlRead.{CtrlRead}
use Rattle.data_pdu.specs.declared.ctrl.CtrlRead.TheVariants.{Known, Unknown, Bare}
use Rattle.procedure_values.specs.declared.asks.Ask.{Ask}
use Rattle.procedure_values.specs.declared.asks.Ask.TheVariants.{Length as ask_length}
use Rattle.procedure_values.specs.declared.drafts.Draft.{Draft}
use Rattle.procedure_values.specs.declared.drafts.Draft.TheVariants.{FeatureReq, FeatureRsp, LengthReq, LengthRsp, PeripheralFeatureReq, VersionInd}
use Rattle.procedure_values.specs.Drafts.{ctrl_of_draft}
use Rattle.procedure_stages.specs.declared.stages.Progress.{Progress}
use Rattle.procedure_stages.specs.declared.stages.Progress.TheVariants.{Central as central, Peripheral as peripheral}
use Rattle.procedure_stages.specs.declared.steps.Step.{Step}
use Rattle.procedures.specs.Calls.{Call, after_call, asks, begins_one as begins_call, disconnects, enters, host_answers, is_acked, is_given, sends, takes}
use Rattle.procedures.specs.Table.{TableFacts}
use Rattle.procedures.specs.Taking.{took_step}
use Rattle.exchange_pairs.specs.Exchange.{Answer, ExchangePdu, Idle, Question, Unsent, is_sent}
use Rattle.exchange_pairs.specs.Lengths
use Rattle.exchange_pairs.specs.Lengths.{LengthEnd, LengthPdu}
use Rattle.exchange_steps.specs.Ends.{ExchangeEnds, ends_of}
use Rattle.exchange_steps.specs.Steps.{EndStep, MayCome, after_step, after_steps, begins_lengths, comes_to, refusal_if, step_of_ask, step_of_call, step_of_ctrl, step_of_draft, step_of_given, step_of_read, takes_lengths, taking_of, unless_ended}
use Rattle.exchange_steps.proofs.Beginning.{begins_one, may_begin_one}
use Rattle.exchange_steps.proofs.Going.{acked_one, answers_one, asks_one, disconnects_one, enters_one, owes_one}
use Rattle.exchange_steps.proofs.Sending.{may_send_one, sends_one}
use Rattle.exchange_steps.proofs.Took.{took}

pub each_call : (f : TableFacts) (call : Call) → ends_of (after_call f call) ≡ after_steps (step_of_call f call) (ends_of f)
each_call f (asks ask) = asks_one f ask
each_call f (begins_call slot quiet) = begins_one f slot quiet
each_call f (takes read slot quiet) = took f slot read quiet
each_call f (sends event skips quiet slot) = sends_one f event skips slot quiet
each_call f is_acked = acked_one f
each_call f (enters applied) = enters_one f applied
each_call f (host_answers answer) = answers_one f answer
each_call f (disconnects reason) = disconnects_one f reason
each_call f (is_given ctrl) = owes_one f ctrl

-- ---- the step may come

refusal_comes : (b : Bool) (e : ExchangeEnds) → MayCome (refusal_if b) e
refusal_comes true e = tt
refusal_comes false e = tt

ctrl_comes : (p : Progress) (ctrl : Ctrl) (e : ExchangeEnds) → MayCome (step_of_ctrl p ctrl) e
ctrl_comes p (UnknownRsp opcode) e = refusal_comes _ e
ctrl_comes p (RejectInd code) e = refusal_comes _ e
ctrl_comes p (RejectExtInd opcode code) e = refusal_comes _ e
ctrl_comes (central c) ctrl e = tt
ctrl_comes (peripheral p) ctrl e = tt

read_comes : (p : Progress) (read : CtrlRead) (e : ExchangeEnds) → MayCome (step_of_read p read) e
read_comes p (Known ctrl) e = ctrl_comes p ctrl e
read_comes p (Unknown opcode) e = tt
read_comes p Bare e = tt

taken_comes : (step : Step) (steps : Option EndStep) (e : ExchangeEnds) → MayCome steps e → MayCome (unless_ended step steps) e
taken_comes step steps e comes = by (is_some step.ends)
  where
    by : (b : Bool) → MayCome (if b then None else steps) e
    by true = tt
    by false = comes

ask_comes : (ask : Ask) (e : ExchangeEnds) → MayCome (step_of_ask ask) e
ask_comes (ask_length tx) e = tt
ask_comes ask e = tt

given_comes : (ctrl : Ctrl) (e : ExchangeEnds) → MayCome (step_of_given ctrl) e
given_comes (TerminateInd code) e = tt
given_comes ctrl e = tt

pub each_comes : (f : TableFacts) (call : Call) → MayCome (step_of_call f call) (ends_of f)
each_comes f (asks ask) = ask_comes ask (ends_of f)
each_comes f (begins_call slot quiet) = may_begin_one f slot quiet
each_comes f (takes read slot quiet) =
    taken_comes (took_step f read slot quiet).1 (step_of_read f.progress read) (ends_of f) (read_comes f.progress read (ends_of f))
each_comes f (sends event skips quiet slot) = may_send_one f event quiet
each_comes f is_acked = tt
each_comes f (enters applied) = tt
each_comes f (host_answers answer) = tt
each_comes f (disconnects reason) = tt
each_comes f (is_given ctrl) = given_comes ctrl (ends_of f)

-- ---- no step changes what this end receives

queued_stays : (pdu : ExchangePdu) (e : LengthEnd) (closed : Bool) → e.closed ≡ closed → (Lengths.queued pdu e).lengths.own_rx ≡ e.lengths.own_rx
queued_stays pdu e true is = rw is refl
queued_stays pdu e false is = rw is refl

taken_stays : (pdu : LengthPdu) (x : ExchangePdu) (e : LengthEnd) → (Lengths.taken_as x pdu e).lengths.own_rx ≡ e.lengths.own_rx
taken_stays pdu Question e = queued_stays Answer (Lengths.with_limits pdu e) e.closed refl
taken_stays pdu Answer e = by (is_sent e.own)
  where
    by : (b : Bool) → (if b then Lengths.with_limits pdu (record e { own = Idle }) else e).lengths.own_rx ≡ e.lengths.own_rx
    by true = refl
    by false = refl

step_stays : (step : EndStep) (e : ExchangeEnds) → (after_step step e).lengths.lengths.own_rx ≡ e.lengths.lengths.own_rx
step_stays begins_lengths e = queued_stays Question (record e.lengths { own = Unsent }) e.lengths.closed refl
step_stays (takes_lengths pdu) e = taken_stays pdu pdu.pdu e.lengths
step_stays step e = refl

steps_stay : (steps : Option EndStep) (e : ExchangeEnds) → (after_steps steps e).lengths.lengths.own_rx ≡ e.lengths.lengths.own_rx
steps_stay None e = refl
steps_stay (Some step) e = step_stays step e

pub receives_same : (f : TableFacts) (call : Call) → (after_call f call).lengths.own_rx ≡ f.lengths.own_rx
receives_same f call = ap (λ (e : ExchangeEnds). e.lengths.lengths.own_rx) (each_call f call) ∙ steps_stay (step_of_call f call) (ends_of f)

-- ---- what is sent is taken

abbrev taking : Option EndStep → Option EndStep
taking None = None
taking (Some step) = Some (taking_of step)

pub sent_taken : (p : Progress) (d : Draft) (event skips : ℕ) (step : EndStep) → comes_to p d ≡ true → step_of_draft d ≡ Some step
    → step_of_ctrl p (ctrl_of_draft d event skips) ≡ Some (taking_of step)
sent_taken (central c) FeatureReq event skips step to is = absurd (cc)
sent_taken (peripheral p) FeatureReq event skips step to is = ap taking is
sent_taken (central c) PeripheralFeatureReq event skips step to is = ap taking is
sent_taken (peripheral p) PeripheralFeatureReq event skips step to is = absurd (cc)
sent_taken (central c) FeatureRsp event skips step to is = ap taking is
sent_taken (peripheral p) FeatureRsp event skips step to is = ap taking is
sent_taken (central c) VersionInd event skips step to is = ap taking is
sent_taken (peripheral p) VersionInd event skips step to is = ap taking is
sent_taken (central c) (LengthReq rx tx) event skips step to is = ap taking is
sent_taken (peripheral p) (LengthReq rx tx) event skips step to is = ap taking is
sent_taken (central c) (LengthRsp rx tx) event skips step to is = ap taking is
sent_taken (peripheral p) (LengthRsp rx tx) event skips step to is = ap taking is
sent_taken q d event skips step to is = absurd (cc)
