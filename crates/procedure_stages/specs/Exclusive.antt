-- What of an end's procedures, and of its PDUs, is of those that exclude each other (Core 5.2, volume 6 part B, section
-- 5.3).
use Rattle.std.specs.Prelude.{Option, Some, None}
use Rattle.procedure_values.specs.declared.drafts.Draft.{Draft}
use Rattle.procedure_values.specs.declared.drafts.Draft.TheVariants.{Update, Grant, Map, Request, PhyReq as phy_req, PhyRsp as phy_rsp, PhyInd as phy_ind}
use Rattle.procedure_values.specs.declared.drafts.Outgoing.{Outgoing}
use Rattle.procedure_values.specs.declared.drafts.Outgoing.TheVariants.{Other}
use Rattle.exclusive_stages.specs.declared.pdus.Pdu.{Pdu}
use Rattle.exclusive_stages.specs.declared.pdus.Pdu.TheVariants.{UpdateInd, GrantInd, MapInd, PhyReq, PhyRsp, PhyInd, ParamReq}
use Rattle.exclusive_stages.specs.declared.stages.CentralStage.{CentralStage}
use Rattle.exclusive_stages.specs.declared.stages.CentralStage.TheVariants.{Idle}
use Rattle.exclusive_stages.specs.declared.stages.PeripheralStage.{PeripheralStage}
use Rattle.exclusive_stages.specs.declared.stages.PeripheralStage.TheVariants.{Idle as idle}
use Rattle.procedure_stages.specs.declared.stages.OwnCentral.{OwnCentral}
use Rattle.procedure_stages.specs.declared.stages.OwnCentral.TheVariants.{Exclusive as exclusive}
use Rattle.procedure_stages.specs.declared.stages.OwnPeripheral.{OwnPeripheral}
use Rattle.procedure_stages.specs.declared.stages.OwnPeripheral.TheVariants.{Exclusive as exclusive_p}

-- a PDU that waits, without its values
abbrev pub pdu_of_draft : Draft → Option Pdu
pdu_of_draft (Update params) = Some UpdateInd
pdu_of_draft (Grant params) = Some GrantInd
pdu_of_draft (Map map) = Some MapInd
pdu_of_draft (Request min max latency timeout) = Some ParamReq
pdu_of_draft phy_req = Some PhyReq
pdu_of_draft phy_rsp = Some PhyRsp
pdu_of_draft phy_ind = Some PhyInd
pdu_of_draft draft = None

-- one that is sent, but for rejections
abbrev pub pdu_of_outgoing : Outgoing → Option Pdu
pdu_of_outgoing (Other draft) = pdu_of_draft draft
pdu_of_outgoing other = None

-- the own procedure: one that excludes no other counts as none
abbrev pub central_stage : OwnCentral → CentralStage
central_stage (exclusive stage) = stage
central_stage other = Idle

abbrev pub peripheral_stage : OwnPeripheral → PeripheralStage
peripheral_stage (exclusive_p stage) = stage
peripheral_stage other = idle

-- a step of the own procedure, if it is one of these
abbrev pub on_central_stage : (CentralStage → CentralStage) → OwnCentral → OwnCentral
on_central_stage step (exclusive stage) = exclusive (step stage)
on_central_stage step other = other

abbrev pub on_peripheral_stage : (PeripheralStage → PeripheralStage) → OwnPeripheral → OwnPeripheral
on_peripheral_stage step (exclusive_p stage) = exclusive_p (step stage)
on_peripheral_stage step other = other
