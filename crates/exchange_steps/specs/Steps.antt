-- The steps of the machines of exchanges at one end, and which step each call on a table of procedures is.
use Rattle.std.specs.Prelude.{◌≡◌, ⊤, ℕ, ◌==◌, Bool, true, false, Option, Some, None, is_some, ◌||◌, if◌then◌else◌}
use Rattle.ble_base.specs.declared.procedure_kinds.Kind.{Kind}
use Rattle.ble_base.specs.declared.procedure_kinds.Kind.TheVariants.{Features, Version, Length}
use Rattle.data_pdu.specs.declared.ctrl.Ctrl.{Ctrl}
use Rattle.data_pdu.specs.declared.ctrl.Ctrl.TheVariants.{FeatureReq, FeatureRsp, LengthReq, LengthRsp, PeripheralFeatureReq, RejectExtInd, RejectInd, TerminateInd, UnknownRsp, VersionInd}
use Rattle.data_pdu.specs.declared.ctrl.CtrlRead.{CtrlRead}
use Rattle.data_pdu.specs.declared.ctrl.CtrlRead.TheVariants.{Known, Unknown, Bare}
use Rattle.procedure_values.specs.declared.asks.Ask.{Ask}
use Rattle.procedure_values.specs.declared.asks.Ask.TheVariants.{Length as ask_length, Version as ask_version}
use Rattle.procedure_values.specs.declared.drafts.Draft.{Draft}
use Rattle.procedure_values.specs.declared.drafts.Draft.TheVariants.{FeatureReq as feature_req, FeatureRsp as feature_rsp, LengthReq as length_req, LengthRsp as length_rsp, PeripheralFeatureReq as peripheral_feature_req, VersionInd as version_ind}
use Rattle.procedure_values.specs.declared.drafts.Outgoing.{Outgoing}
use Rattle.procedure_values.specs.declared.drafts.Outgoing.TheVariants.{Other}
use Rattle.procedure_stages.specs.declared.stages.Progress.{Progress}
use Rattle.procedure_stages.specs.declared.stages.Progress.TheVariants.{Central, Peripheral}
use Rattle.procedure_stages.specs.declared.steps.Step.{Step}
use Rattle.procedure_stages.specs.Opcodes.{first_opcode, is_opcode, later_opcode}
use Rattle.procedures.specs.Beginning.{begin_step}
use Rattle.procedures.specs.Calls.{Call, asks, begins_one, disconnects, enters, host_answers, is_acked, is_given, sends, takes}
use Rattle.procedures.specs.Queue.{next_of}
use Rattle.procedures.specs.Table.{TableFacts}
use Rattle.procedures.specs.Taking.{took_step}
use Rattle.exchange_pairs.specs.Exchange
use Rattle.exchange_pairs.specs.Exchange.{Answer, ExchangePdu, Question}
use Rattle.exchange_pairs.specs.Lengths
use Rattle.exchange_pairs.specs.Lengths.{LengthPdu}
use Rattle.exchange_pairs.specs.Version as VersionSteps
use Rattle.exchange_steps.specs.Ends.{ExchangeEnds}

pub data EndStep : Type 0 where
  -- the host asks for the peer's version; it limits what is transmitted
  wants_version : EndStep
  limits : ℕ → EndStep
  -- an exchange begins
  begins_features : EndStep
  begins_lengths : EndStep
  begins_version : EndStep
  -- a PDU is sent
  sends_features : ExchangePdu → EndStep
  sends_lengths : LengthPdu → EndStep
  sends_version : EndStep
  -- one of the peer is taken
  takes_features : ExchangePdu → EndStep
  takes_lengths : LengthPdu → EndStep
  takes_version : EndStep
  -- the own procedure is refused
  is_refused : EndStep
  -- LL_TERMINATE_IND is queued or taken
  terminates : EndStep

-- ---- what a step does: one of an exchange leaves the other two

abbrev pub after_step : EndStep → ExchangeEnds → ExchangeEnds
after_step wants_version e = record e { versions = VersionSteps.asked e.versions }
after_step (limits tx) e = record e { lengths = Lengths.limited tx e.lengths }
after_step begins_features e = record e { features = Exchange.begun e.features }
after_step begins_lengths e = record e { lengths = Lengths.begun e.lengths }
after_step begins_version e = record e { versions = VersionSteps.begun e.versions }
after_step (sends_features pdu) e = record e { features = Exchange.sent pdu e.features }
after_step (sends_lengths pdu) e = record e { lengths = Lengths.sent pdu e.lengths }
after_step sends_version e = record e { versions = VersionSteps.sent e.versions }
after_step (takes_features pdu) e = record e { features = Exchange.taken pdu e.features }
after_step (takes_lengths pdu) e = record e { lengths = Lengths.taken pdu e.lengths }
after_step takes_version e = record e { versions = VersionSteps.taken e.versions }
after_step is_refused e =
    record {
      features = Exchange.answered e.features;
      lengths = Lengths.refused e.lengths;
      versions = VersionSteps.refused e.versions;
    }
after_step terminates e =
    record {
      features = Exchange.terminated e.features;
      lengths = Lengths.terminated e.lengths;
      versions = VersionSteps.terminated e.versions;
    }

-- at most one step
abbrev pub after_steps : Option EndStep → ExchangeEnds → ExchangeEnds
after_steps None e = e
after_steps (Some step) e = after_step step e

-- a step may come at this end: an exchange begins where the machine lets it, and what is sent is the first that waits
abbrev pub MayCome : Option EndStep → ExchangeEnds → Type 0
MayCome (Some begins_features) e = Exchange.may_begin e.features ≡ true
MayCome (Some begins_lengths) e = Lengths.may_begin e.lengths ≡ true
MayCome (Some begins_version) e = VersionSteps.may_begin e.versions ≡ true
MayCome (Some (sends_features pdu)) e = Exchange.first_of e.features.queue ≡ Some pdu
MayCome (Some (sends_lengths pdu)) e = Lengths.first_of e.lengths.queue ≡ Some pdu
MayCome (Some sends_version) e = (e.versions.waiting == 0) ≡ false
MayCome step e = ⊤

-- ---- the step that a PDU is which is taken

abbrev pub refusal_if : Bool → Option EndStep
refusal_if refuses = (if refuses then Some is_refused else None)

-- LL_FEATURE_REQ is known at a peripheral, LL_PERIPHERAL_FEATURE_REQ at a central
abbrev pub question_at : Progress → Ctrl → Option EndStep
question_at (Central c) (PeripheralFeatureReq features) = Some (takes_features Question)
question_at (Peripheral p) (FeatureReq features) = Some (takes_features Question)
question_at progress ctrl = None

abbrev pub step_of_ctrl : Progress → Ctrl → Option EndStep
step_of_ctrl progress (FeatureRsp features) = Some (takes_features Answer)
step_of_ctrl progress (LengthReq rx rx_time tx tx_time) =
    Some (takes_lengths (record { pdu = Question; rx = rx; tx = tx }))
step_of_ctrl progress (LengthRsp rx rx_time tx tx_time) =
    Some (takes_lengths (record { pdu = Answer; rx = rx; tx = tx }))
step_of_ctrl progress (VersionInd version company sub) = Some takes_version
step_of_ctrl progress (UnknownRsp opcode) = refusal_if (is_opcode (first_opcode progress) opcode)
step_of_ctrl progress (RejectInd code) = refusal_if (is_some (first_opcode progress))
step_of_ctrl progress (RejectExtInd opcode code) =
    refusal_if (is_opcode (first_opcode progress) opcode || is_opcode (later_opcode progress) opcode)
step_of_ctrl progress (TerminateInd code) = Some terminates
step_of_ctrl progress ctrl = question_at progress ctrl

abbrev pub step_of_read : Progress → CtrlRead → Option EndStep
step_of_read progress (Known ctrl) = step_of_ctrl progress ctrl
step_of_read progress (Unknown opcode) = None
step_of_read progress Bare = None

-- a PDU that ends the link at once does nothing else
abbrev pub unless_ended : Step → Option EndStep → Option EndStep
unless_ended step steps = (if is_some step.ends then None else steps)

-- ---- the steps that other calls are

abbrev pub step_of_ask : Ask → Option EndStep
step_of_ask (ask_length tx) = Some (limits tx)
step_of_ask ask_version = Some wants_version
step_of_ask ask = None

-- the procedure that begins
abbrev pub step_of_begun : Option Kind → Option EndStep
step_of_begun (Some Features) = Some begins_features
step_of_begun (Some Length) = Some begins_lengths
step_of_begun (Some Version) = Some begins_version
step_of_begun kind = None

abbrev pub step_of_draft : Draft → Option EndStep
step_of_draft feature_req = Some (sends_features Question)
step_of_draft peripheral_feature_req = Some (sends_features Question)
step_of_draft feature_rsp = Some (sends_features Answer)
step_of_draft (length_req rx tx) = Some (sends_lengths (record { pdu = Question; rx = rx; tx = tx }))
step_of_draft (length_rsp rx tx) = Some (sends_lengths (record { pdu = Answer; rx = rx; tx = tx }))
step_of_draft version_ind = Some sends_version
step_of_draft draft = None

-- what is sent
abbrev pub step_of_sent : Outgoing → Option EndStep
step_of_sent (Other draft) = step_of_draft draft
step_of_sent outgoing = None

-- the layer above queues a PDU of the encryption, or LL_TERMINATE_IND
abbrev pub step_of_given : Ctrl → Option EndStep
step_of_given (TerminateInd code) = Some terminates
step_of_given ctrl = None

-- ---- the step that a call is; none is one of the answers of a host, of an event that is entered, or of an
-- acknowledgement

abbrev pub step_of_call : TableFacts → Call → Option EndStep
step_of_call f (asks ask) = step_of_ask ask
step_of_call f (begins_one slot quiet) = step_of_begun (begin_step f slot quiet).1
step_of_call f (takes read slot quiet) = unless_ended (took_step f read slot quiet).1 (step_of_read f.progress read)
step_of_call f (sends event skips quiet slot) = step_of_sent (next_of f event quiet)
step_of_call f is_acked = None
step_of_call f (enters applied) = None
step_of_call f (host_answers answer) = None
step_of_call f (disconnects reason) = Some terminates
step_of_call f (is_given ctrl) = step_of_given ctrl

-- ---- what is sent is taken

-- the step at the other end by which a PDU is taken that this step sends
abbrev pub taking_of : EndStep → EndStep
taking_of (sends_features pdu) = takes_features pdu
taking_of (sends_lengths pdu) = takes_lengths pdu
taking_of sends_version = takes_version
taking_of step = step

-- a draft that comes to an end: only a central sends LL_FEATURE_REQ, only a peripheral LL_PERIPHERAL_FEATURE_REQ
abbrev pub comes_to : Progress → Draft → Bool
comes_to (Central c) feature_req = false
comes_to (Peripheral p) peripheral_feature_req = false
comes_to progress draft = true
