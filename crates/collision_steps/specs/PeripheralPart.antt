-- A peripheral's table of procedures as joint runs see it, and the step of that table which each call is.
use Rattle.std.specs.Prelude.{ℕ, ◌==◌, Bool, true, false, not, List, Option, Some, None, is_some, if◌then◌else◌}
use Rattle.ble_base.specs.declared.error_codes.ErrCode.{ErrCode}
use Rattle.data_pdu.specs.declared.ctrl.Ctrl.{Ctrl}
use Rattle.data_pdu.specs.declared.ctrl.Ctrl.TheVariants.{ConnectionUpdateInd, ChannelMapInd, TerminateInd, UnknownRsp, RejectInd, RejectExtInd, PhyReq as phy_req, PhyUpdateInd as phy_ind}
use Rattle.data_pdu.specs.declared.ctrl.CtrlRead.{CtrlRead}
use Rattle.data_pdu.specs.declared.ctrl.CtrlRead.TheVariants.{Known, Unknown, Bare}
use Rattle.ble_base.specs.declared.procedure_kinds.Kind.{Kind}
use Rattle.ble_base.specs.declared.procedure_kinds.Kind.TheVariants.{Request as request, Phy as phy}
use Rattle.procedure_values.specs.declared.drafts.Draft.{Draft}
use Rattle.procedure_stages.specs.declared.stages.Ahead.{Ahead}
use Rattle.procedure_stages.specs.declared.stages.Ahead.TheVariants.{Nothing as nothing_ahead, Update as update_ahead, Map as map_ahead}
use Rattle.procedure_stages.specs.declared.stages.Progress.{Progress}
use Rattle.procedure_stages.specs.declared.stages.Progress.TheVariants.{Central as central, Peripheral as peripheral}
use Rattle.procedures.specs.Table.{TableFacts}
use Rattle.procedure_stages.specs.Exclusive.{peripheral_stage}
use Rattle.procedure_stages.specs.Closing.{is_open}
use Rattle.procedure_stages.specs.Opcodes.{first_opcode, is_opcode}
use Rattle.exclusive_stages.specs.declared.pdus.Exclusive.{Exclusive}
use Rattle.exclusive_stages.specs.declared.pdus.Exclusive.TheVariants.{Update, Request, Map, Phy}
use Rattle.exclusive_stages.specs.declared.pdus.Pdu.{Pdu}
use Rattle.exclusive_stages.specs.declared.pdus.Pdu.TheVariants.{UpdateInd, MapInd, PhyReq, PhyInd, RejectParam, RejectPhy, Refusal}
use Rattle.exclusive_stages.specs.declared.stages.PeripheralStage.{PeripheralStage}
use Rattle.exclusive_stages.specs.Kinds.{kind_sent_by_peripheral, peripheral_kind}
use Rattle.exclusive_stages.specs.Pdus.{is_kind}
use Rattle.collisions.specs.declared.peripheral.Peripheral.{Peripheral}
use Rattle.collisions.specs.declared.joint.End.{End}
use Rattle.collisions.specs.declared.joint.End.TheVariants.{Open}
use Rattle.collision_steps.specs.Answers.{kind_over}
use Rattle.collisions.specs.PeripheralTable
use Rattle.collision_steps.specs.Parts.{drafts_part, param_request_opcode, phy_request_opcode, reason_part}

-- ---- the table

abbrev pub ahead_part : Ahead → Option Exclusive
ahead_part nothing_ahead = None
ahead_part update_ahead = Some Update
ahead_part map_ahead = Some Map

-- what is left of a table, by its parts; that of a central is empty here. A peripheral rejects nothing
abbrev pub view : Progress → Bool → List Draft → Peripheral
view (peripheral p) is_open drafts =
    record {
      own = peripheral_stage p.own;
      peer = p.peer;
      ahead = ahead_part p.ahead;
      queue = record { items = drafts_part drafts };
      closed = not is_open;
    }
view (central c) is_open drafts = PeripheralTable.first_table

abbrev pub peripheral_of : TableFacts → Peripheral
peripheral_of f = view f.progress (is_open f.closing) f.queue.drafts

-- ---- the steps

pub data PeripheralStep : Type 0 where
  begins : Exclusive → PeripheralStep
  takes : Pdu → PeripheralStep
  sends : Pdu → PeripheralStep
  sees_acknowledged : Pdu → PeripheralStep
  enters : Bool → PeripheralStep
  terminates : PeripheralStep

-- the table does not know whether an instant has passed: the layer above does, and the link ends then
abbrev pub after_step : PeripheralStep → Peripheral → Peripheral
after_step (begins kind) t = PeripheralTable.begun kind t
after_step (takes pdu) t = (PeripheralTable.taken false pdu t).0
after_step (sends pdu) t = PeripheralTable.sent pdu t
after_step (sees_acknowledged pdu) t = PeripheralTable.acked pdu t
after_step (enters holds) t = PeripheralTable.entered holds t
after_step terminates t = PeripheralTable.terminated t

-- at most one step
abbrev pub after_steps : Option PeripheralStep → Peripheral → Peripheral
after_steps None t = t
after_steps (Some step) t = after_step step t

-- ---- the step that a PDU is which is taken: none where it is of no concern to the procedures that exclude each other.
-- LL_TERMINATE_IND is apart, since a joint run stops at it

abbrev pub refusal_if : Bool → Option PeripheralStep
refusal_if b = (if b then Some (takes Refusal) else None)

-- LL_REJECT_EXT_IND
abbrev pub step_of_rejection : Progress → ℕ → ErrCode → Option PeripheralStep
step_of_rejection progress opcode code =
    (if param_request_opcode == opcode then Some (takes (RejectParam (reason_part code)))
    else (if phy_request_opcode == opcode then Some (takes (RejectPhy (reason_part code)))
    else refusal_if (is_opcode (first_opcode progress) opcode)))

-- LL_CONNECTION_UPDATE_IND does the same whether it grants a request or not
abbrev pub step_of_ctrl : Progress → Ctrl → Option PeripheralStep
step_of_ctrl progress (ConnectionUpdateInd win_size win_offset interval latency timeout instant) =
    Some (takes UpdateInd)
step_of_ctrl progress (ChannelMapInd map instant) = Some (takes MapInd)
step_of_ctrl progress (phy_req tx rx) = Some (takes PhyReq)
step_of_ctrl progress (phy_ind to_peripheral to_central instant) = Some (takes PhyInd)
step_of_ctrl progress (UnknownRsp opcode) = refusal_if (is_opcode (first_opcode progress) opcode)
step_of_ctrl progress (RejectInd code) = refusal_if (is_some (first_opcode progress))
step_of_ctrl progress (RejectExtInd opcode code) = step_of_rejection progress opcode (record { 0 = code })
step_of_ctrl progress ctrl = None

abbrev pub step_of_read : Progress → CtrlRead → Option PeripheralStep
step_of_read progress (Known ctrl) = step_of_ctrl progress ctrl
step_of_read progress (Unknown opcode) = None
step_of_read progress Bare = None

-- ---- what the call answers

-- the table after the PDU, and whether and why the link ends
abbrev pub answer_to : Option PeripheralStep → Peripheral → Peripheral × End
answer_to (Some (takes pdu)) t = PeripheralTable.taken false pdu t
answer_to step t = (after_steps step t, Open)

-- the own procedure that a PDU refuses: that whose first PDU was sent, if a rejection names it
abbrev pub refused_by : Pdu → PeripheralStage → Option Exclusive
refused_by (RejectParam reason) own = (if is_kind (kind_sent_by_peripheral own) Request then Some Request else None)
refused_by (RejectPhy reason) own = (if is_kind (kind_sent_by_peripheral own) Phy then Some Phy else None)
refused_by Refusal own = kind_sent_by_peripheral own
refused_by pdu own = None

abbrev pub refused_kind : Option PeripheralStep → PeripheralStage → Option Exclusive
refused_kind (Some (takes pdu)) own = refused_by pdu own
refused_kind step own = None

-- the own procedure that a PDU completes: that which LL_PHY_UPDATE_IND ends
abbrev pub done_by : Option PeripheralStep → Peripheral → Option Kind
done_by (Some (takes PhyInd)) t =
    kind_over (peripheral_kind t.own) (peripheral_kind (PeripheralTable.taken false PhyInd t).0.own)
done_by step t = None

-- ---- the step that another call is

-- a procedure begins, if it is one of these
abbrev pub step_of_begun : Option Kind → Option PeripheralStep
step_of_begun (Some request) = Some (begins Request)
step_of_begun (Some phy) = Some (begins Phy)
step_of_begun kind = None

-- the rule of joint runs about what begins
abbrev pub may_begin_by : Option PeripheralStep → Peripheral → Bool
may_begin_by (Some (begins kind)) t = PeripheralTable.may_begin kind t
may_begin_by step t = true

-- a control PDU is sent
abbrev pub sending_of : Option Pdu → Option PeripheralStep
sending_of None = None
sending_of (Some pdu) = Some (sends pdu)

-- the last one is acknowledged
abbrev pub ack_of : Option Pdu → Option PeripheralStep
ack_of None = None
ack_of (Some pdu) = Some (sees_acknowledged pdu)

-- the layer above queues a PDU of the encryption, or LL_TERMINATE_IND
abbrev pub step_of_given : Ctrl → Option PeripheralStep
step_of_given (TerminateInd code) = Some terminates
step_of_given ctrl = None
