-- A central's table of procedures as joint runs see it, and the step of that table which each call is.
use Rattle.std.specs.Prelude.{ℕ, ◌+◌, Bool, true, false, not, ◌&&◌, ◌||◌, List, Option, Some, None, Result, Ok, Err, is_some, is_none, if◌then◌else◌}
use Rattle.ble_base.specs.declared.counters.EventNo.{EventNo}
use Rattle.ble_base.specs.declared.error_codes.ErrCode.{ErrCode}
use Rattle.data_pdu.specs.declared.ctrl.Ctrl.{Ctrl}
use Rattle.data_pdu.specs.declared.ctrl.Ctrl.TheVariants.{TerminateInd, UnknownRsp, RejectInd, ConnectionParamReq, RejectExtInd, PhyReq as phy_req, PhyRsp as phy_rsp}
use Rattle.data_pdu.specs.declared.ctrl.CtrlRead.{CtrlRead}
use Rattle.data_pdu.specs.declared.ctrl.CtrlRead.TheVariants.{Known, Unknown, Bare}
use Rattle.procedure_values.specs.declared.asks.Ask.{Ask}
use Rattle.procedure_values.specs.declared.asks.Ask.TheVariants.{Update as ask_update}
use Rattle.ble_base.specs.declared.procedure_kinds.Kind.{Kind}
use Rattle.ble_base.specs.declared.procedure_kinds.Kind.TheVariants.{Update as update, Map as map, Phy as phy}
use Rattle.procedure_values.specs.declared.drafts.Draft.{Draft}
use Rattle.procedure_values.specs.declared.drafts.Rejection.{Rejection}
use Rattle.procedure_stages.specs.declared.stages.Progress.{Progress}
use Rattle.procedure_stages.specs.declared.stages.Progress.TheVariants.{Central as central, Peripheral as peripheral}
use Rattle.procedures.specs.Table.{TableFacts}
use Rattle.procedure_stages.specs.Exclusive.{central_stage}
use Rattle.procedure_stages.specs.Closing.{is_open}
use Rattle.procedure_stages.specs.Opcodes.{first_opcode, later_opcode, is_opcode}
use Rattle.procedure_values.specs.Values.{are_valid}
use Rattle.exclusive_stages.specs.declared.pdus.Exclusive.{Exclusive}
use Rattle.exclusive_stages.specs.declared.pdus.Exclusive.TheVariants.{Update, Map, Phy}
use Rattle.exclusive_stages.specs.declared.pdus.Reason.{Reason}
use Rattle.exclusive_stages.specs.declared.pdus.Pdu.{Pdu}
use Rattle.exclusive_stages.specs.declared.pdus.Pdu.TheVariants.{PhyReq, PhyRsp, ParamReq, Refusal}
use Rattle.exclusive_stages.specs.declared.stages.CentralStage.{CentralStage}
use Rattle.exclusive_stages.specs.Kinds.{central_kind, kind_sent_by_central}
use Rattle.exclusive_stages.specs.Pdus.{is_held_back, is_timed}
use Rattle.collisions.specs.declared.central.Central.{Central}
use Rattle.collisions.specs.declared.joint.End.{End}
use Rattle.collisions.specs.declared.joint.End.TheVariants.{Open}
use Rattle.collisions.specs.JointRun.{is_empty, is_pdu}
use Rattle.collisions.specs.CentralTable
use Rattle.collision_steps.specs.Parts.{drafts_part, reason_part, rejections_part}

-- ---- the table

-- what is left of a table, by its parts; that of a peripheral is empty here. An own procedure that excludes no other
-- counts as none
abbrev pub view : Progress → Bool → List Rejection → List Draft → Central
view (central c) is_open rejections drafts =
    record {
      own = central_stage c.own;
      peer = c.peer;
      rejections = record { items = rejections_part rejections };
      queue = record { items = drafts_part drafts };
      closed = not is_open;
    }
view (peripheral p) is_open rejections drafts = CentralTable.first_table

abbrev pub central_of : TableFacts → Central
central_of f = view f.progress (is_open f.closing) f.queue.rejections f.queue.drafts

-- ---- the steps

pub data CentralStep : Type 0 where
  begins : Exclusive → CentralStep
  takes : Bool → Pdu → CentralStep
  grants : CentralStep
  refuses : Reason → CentralStep
  sends : Pdu → CentralStep
  sees_acknowledged : Pdu → CentralStep
  enters : Bool → CentralStep
  terminates : CentralStep

abbrev pub after_step : CentralStep → Central → Central
after_step (begins kind) t = CentralTable.begun kind t
after_step (takes judged pdu) t = (CentralTable.taken judged pdu t).0
after_step grants t = CentralTable.granted t
after_step (refuses reason) t = CentralTable.refused reason t
after_step (sends pdu) t = CentralTable.sent pdu t
after_step (sees_acknowledged pdu) t = CentralTable.acked pdu t
after_step (enters at) t = CentralTable.entered at t
after_step terminates t = CentralTable.terminated t

-- at most one step
abbrev pub after_steps : Option CentralStep → Central → Central
after_steps None t = t
after_steps (Some step) t = after_step step t

-- ---- the step that a PDU is which is taken: none where it is of no concern to the procedures that exclude each other.
-- LL_TERMINATE_IND is apart, since a joint run stops at it

abbrev pub refusal_if : Bool → Option CentralStep
refusal_if b = (if b then Some (takes false Refusal) else None)

abbrev pub step_of_ctrl : Progress → Ctrl → Option CentralStep
step_of_ctrl progress (ConnectionParamReq min max latency timeout periodicity reference offsets) =
    Some (takes (not (are_valid min max latency timeout)) ParamReq)
step_of_ctrl progress (phy_req tx rx) = Some (takes false PhyReq)
step_of_ctrl progress (phy_rsp tx rx) = Some (takes false PhyRsp)
step_of_ctrl progress (UnknownRsp opcode) = refusal_if (is_opcode (first_opcode progress) opcode)
step_of_ctrl progress (RejectInd code) = refusal_if (is_some (first_opcode progress))
step_of_ctrl progress (RejectExtInd opcode code) =
    refusal_if (is_opcode (first_opcode progress) opcode || is_opcode (later_opcode progress) opcode)
step_of_ctrl progress ctrl = None

abbrev pub step_of_read : Progress → CtrlRead → Option CentralStep
step_of_read progress (Known ctrl) = step_of_ctrl progress ctrl
step_of_read progress (Unknown opcode) = None
step_of_read progress Bare = None

-- ---- what the call answers

-- the table after the PDU, and whether and why the link ends
abbrev pub answer_to : Option CentralStep → Central → Central × End
answer_to (Some (takes judged pdu)) t = CentralTable.taken judged pdu t
answer_to step t = (after_steps step t, Open)

-- the own procedure that a PDU refuses: that whose first PDU was sent
abbrev pub refused_kind : Option CentralStep → CentralStage → Option Exclusive
refused_kind (Some (takes judged Refusal)) own = kind_sent_by_central own
refused_kind step own = None

-- the host is to be asked: a request that collides with nothing and whose parameters are right
abbrev pub asks_host_by : Option CentralStep → CentralStage → Bool
asks_host_by (Some (takes judged ParamReq)) own = is_none (central_kind own) && not judged
asks_host_by step own = false

-- ---- the step that another call is

-- a procedure begins, if it is one of these
abbrev pub step_of_begun : Option Kind → Option CentralStep
step_of_begun (Some update) = Some (begins Update)
step_of_begun (Some map) = Some (begins Map)
step_of_begun (Some phy) = Some (begins Phy)
step_of_begun kind = None

-- the rule of joint runs about what begins
abbrev pub may_begin_by : Option CentralStep → Central → Bool
may_begin_by (Some (begins kind)) t = CentralTable.may_begin kind t
may_begin_by step t = true

-- a control PDU is sent
abbrev pub sending_of : Option Pdu → Option CentralStep
sending_of None = None
sending_of (Some pdu) = Some (sends pdu)

-- the last one is acknowledged
abbrev pub ack_of : Option Pdu → Option CentralStep
ack_of None = None
ack_of (Some pdu) = Some (sees_acknowledged pdu)

-- the host answers a request of the peripheral
abbrev pub step_of_answer : Result Ask ErrCode → Option CentralStep
step_of_answer (Ok (ask_update interval latency timeout)) = Some grants
step_of_answer (Ok ask) = None
step_of_answer (Err code) = Some (refuses (reason_part code))

-- the layer above queues a PDU of the encryption, or LL_TERMINATE_IND
abbrev pub step_of_given : Ctrl → Option CentralStep
step_of_given (TerminateInd code) = Some terminates
step_of_given ctrl = None

-- ---- what is sent next

-- the event after the Instant of the last indication that was sent, as joint runs count it: 0 where there is none
abbrev pub passed_from_of : Option EventNo → ℕ
passed_from_of None = 0
passed_from_of (Some instant) = instant.0 + 1

abbrev pub passed_from : Progress → ℕ
passed_from (central c) = passed_from_of c.last_instant
passed_from (peripheral p) = 0

-- an indication has an Instant six events and the latency ahead of that in which it is sent
abbrev pub passed_from_after : Option Pdu → ℕ → ℕ → ℕ → ℕ
passed_from_after pdu event skips before = (if is_pdu is_timed pdu then event + skips + 7 else before)

-- a PDU may go, as in a joint run: once a Disconnect goes first only a rejection; an indication, or LL_PHY_REQ, only
-- after the Instant of the last indication
abbrev pub may_go : Bool → Bool → Central → Pdu → Bool
may_go ends after t pdu = not (is_empty t.rejections.items && ends) && (not (is_held_back pdu) || after)
