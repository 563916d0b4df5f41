-- PHY update, which changes nothing (Core 5.2, volume 6 part B, section 5.1.10; that no PHY changes is our choice).
use Rattle.std.specs.Prelude.{true, if◌then◌else◌}
use Rattle.ble_base.specs.declared.procedure_kinds.Kind.TheVariants.{Phy}
use Rattle.procedure_stages.specs.procedure_values.declared.drafts.Draft.TheVariants.{PhyInd, PhyRsp}
use Rattle.procedure_stages.specs.declared.stages.Central.{Central}
use Rattle.exclusive_stages.specs.declared.stages.PeerAtCentral.TheVariants.{PhyIndUnsent}
use Rattle.procedure_stages.specs.declared.stages.Progress.TheVariants.{Central as central, Peripheral as peripheral}
use Rattle.procedure_stages.specs.declared.stages.OwnCentral.TheVariants.{Exclusive as exclusive}
use Rattle.exclusive_stages.specs.declared.stages.CentralStage.TheVariants.{PhyAnswered}
use Rattle.exclusive_stages.specs.declared.stages.PeerAtPeripheral.TheVariants.{PhyRspUnsent, Absent as absent}
use Rattle.procedure_stages.specs.declared.stages.Peripheral.{Peripheral}
use Rattle.procedure_stages.specs.declared.stages.OwnPeripheral.TheVariants.{Exclusive as exclusive_p}
use Rattle.exclusive_stages.specs.declared.stages.PeripheralStage.TheVariants.{Idle as idle}
use Rattle.procedure_stages.specs.Opcodes.{phy_req_opcode}
use Rattle.exclusive_stages.specs.Awaited.{awaits_phy_rsp, has_phy_of_central, awaits_phy_ind}
use Rattle.procedures.specs.declared.outcome.Outcome.{Outcome}
use Rattle.procedures.specs.Table.{TableFacts}
use Rattle.procedures.specs.Outcomes.{moved_and_answered, unchanged, moved, with_done}
use Rattle.procedures.specs.Request.{against_central, after_grant}
use Rattle.procedure_stages.specs.Exclusive.{central_stage, peripheral_stage}

-- ---- at the central

-- LL_PHY_REQ is taken at a central, which answers by LL_PHY_UPDATE_IND
abbrev pub phy_req_at_central : TableFacts → Central → Outcome
phy_req_at_central f c =
    against_central f c Phy phy_req_opcode (moved_and_answered f (central (record c { peer = PhyIndUnsent })) PhyInd)

-- LL_PHY_RSP answers the request of the central, which sends LL_PHY_UPDATE_IND
abbrev pub phy_answered : TableFacts → Central → Outcome
phy_answered f c =
    record (moved_and_answered f (central (record c { own = exclusive PhyAnswered })) PhyInd) { restarts = true }

-- LL_PHY_RSP is taken at a central
abbrev pub phy_rsp_taken : TableFacts → Central → Outcome
phy_rsp_taken f c = (if awaits_phy_rsp (central_stage c.own) then phy_answered f c else unchanged f)

-- ---- at the peripheral

-- LL_PHY_REQ is taken at a peripheral, which answers by LL_PHY_RSP
abbrev pub phy_req_at_peripheral : TableFacts → Peripheral → Outcome
phy_req_at_peripheral f p =
    after_grant f p Phy (moved_and_answered f (peripheral (record p { peer = PhyRspUnsent })) PhyRsp)

-- LL_PHY_UPDATE_IND is taken at a peripheral: it completes the central's procedure, if there is one, else its own
abbrev pub phy_ind_taken : TableFacts → Peripheral → Outcome
phy_ind_taken f p =
    (if has_phy_of_central p.peer then moved f (peripheral (record p { peer = absent }))
    else (if awaits_phy_ind (peripheral_stage p.own) then with_done Phy (moved f (peripheral (record p { own = exclusive_p idle })))
    else unchanged f))
