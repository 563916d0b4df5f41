-- The procedures that exclude each other, at one end (Core 5.2, volume 6 part B, section 5.3).
use Rattle.std.specs.Prelude.{◌≡◌, ℕ, Bool, true, false, List, [], ◌∷◌, ⊤}
use Rattle.data_pdu.specs.declared.ctrl.Ctrl.{Ctrl}
use Rattle.data_pdu.specs.declared.ctrl.Ctrl.TheVariants.{EncReq, PauseEncReq, UnknownRsp, RejectInd, RejectExtInd, ConnectionParamReq, PhyReq as phy_req}
use Rattle.data_pdu.specs.declared.ctrl.CtrlRead.TheVariants.{Known}
use Rattle.procedures.specs.procedure_values.declared.drafts.Draft.{Draft}
use Rattle.procedures.specs.procedure_values.declared.drafts.Draft.TheVariants.{Update, Grant, Map, PhyReq, PhyInd}
use Rattle.procedures.specs.procedure_stages.declared.stages.Ahead.{Ahead}
use Rattle.procedures.specs.procedure_stages.declared.stages.Ahead.TheVariants.{Nothing}
use Rattle.procedures.specs.procedure_stages.declared.stages.Central.{Central}
use Rattle.exclusive_stages.specs.declared.stages.PeerAtCentral.TheVariants.{Absent}
use Rattle.procedures.specs.procedure_stages.declared.stages.Peripheral.{Peripheral}
use Rattle.procedures.specs.procedure_stages.declared.stages.Progress.{Progress}
use Rattle.procedures.specs.procedure_stages.declared.stages.Progress.TheVariants.{Central as central, Peripheral as peripheral}
use Rattle.procedures.specs.Table.{TableFacts}
use Rattle.procedures.specs.procedure_stages.Awaited.{is_own_encryption}
use Rattle.exclusive_stages.specs.Awaited.{has_phy_of_central, peer_answered}
use Rattle.procedures.specs.Calls.{Call, takes, after_call}
use Rattle.table_laws.specs.Waiting.{number_of}
use Rattle.procedures.specs.procedure_stages.Exclusive.{central_stage}

-- ---- the PDUs of a central in these procedures

abbrev pub is_of_exclusive : Draft → Bool
is_of_exclusive (Update params) = true
is_of_exclusive (Grant params) = true
is_of_exclusive (Map map) = true
is_of_exclusive PhyReq = true
is_of_exclusive PhyInd = true
is_of_exclusive other = false

abbrev pub exclusive_waiting : TableFacts → ℕ
exclusive_waiting f = number_of is_of_exclusive f.queue.drafts

-- an indication waits for its event at a peripheral
abbrev pub has_indication : Ahead → Bool
has_indication Nothing = false
has_indication other = true

abbrev pub is_indication_ahead : Progress → Bool
is_indication_ahead (central c) = false
is_indication_ahead (peripheral p) = has_indication p.ahead

-- ---- a peer that keeps the rules, as one end sees it

-- a peripheral begins one such procedure at a time; what it begins during the central's encryption is kept for later
pub record PeerMayBegin (c : Central) : Type 0 where
  pub one : c.peer ≡ Absent
  pub quiet : is_own_encryption c.own ≡ false

-- it refuses no procedure of which it has sent a PDU
abbrev pub PeerMayRefuse : Central → Type 0
PeerMayRefuse c = peer_answered (central_stage c.own) ≡ false

abbrev pub MayComeToCentral : Central → Ctrl → Type 0
MayComeToCentral c (ConnectionParamReq min max latency timeout periodicity reference offsets) = PeerMayBegin c
MayComeToCentral c (phy_req tx rx) = PeerMayBegin c
MayComeToCentral c (UnknownRsp opcode) = PeerMayRefuse c
MayComeToCentral c (RejectInd code) = PeerMayRefuse c
MayComeToCentral c (RejectExtInd opcode code) = PeerMayRefuse c
MayComeToCentral c other = ⊤

-- a central runs no PHY update and encryption at once
abbrev pub MayComeToPeripheral : Peripheral → Ctrl → Type 0
MayComeToPeripheral p (phy_req tx rx) = p.encrypting ≡ false
MayComeToPeripheral p (EncReq rand ediv skd_m iv_m) = has_phy_of_central p.peer ≡ false
MayComeToPeripheral p PauseEncReq = has_phy_of_central p.peer ≡ false
MayComeToPeripheral p other = ⊤

abbrev pub MayComeTo : Progress → Ctrl → Type 0
MayComeTo (central c) ctrl = MayComeToCentral c ctrl
MayComeTo (peripheral p) ctrl = MayComeToPeripheral p ctrl

abbrev pub KeepsRules : TableFacts → Call → Type 0
KeepsRules f (takes (Known ctrl) slot quiet) = MayComeTo f.progress ctrl
KeepsRules f other = ⊤

abbrev pub AllKeepRules : TableFacts → List Call → Type 0
AllKeepRules f [] = ⊤
AllKeepRules f (call ∷ calls) = KeepsRules f call × AllKeepRules (after_call f call) calls
