-- The stages of procedures that exclude each other after a PDU was first sent (Core 5.2, volume 6 part B, sections
-- 5.1.1, 5.1.2, 5.1.7 and 5.1.10).
use Rattle.std.specs.Prelude.{Option, Some, None}
use Rattle.exclusive_stages.specs.declared.pdus.Pdu.{Pdu}
use Rattle.exclusive_stages.specs.declared.pdus.Pdu.TheVariants.{UpdateInd, GrantInd, MapInd, PhyReq, PhyRsp, PhyInd, ParamReq}
use Rattle.exclusive_stages.specs.declared.stages.CentralStage.{CentralStage}
use Rattle.exclusive_stages.specs.declared.stages.CentralStage.TheVariants.{UpdateUnsent, UpdateSent, MapUnsent, MapSent, PhyUnsent, PhySent, PhyAnswered, PhyIndicated}
use Rattle.exclusive_stages.specs.declared.stages.PeerAtCentral.{PeerAtCentral}
use Rattle.exclusive_stages.specs.declared.stages.PeerAtCentral.TheVariants.{GrantUnsent, GrantSent, PhyIndUnsent, PhyIndSent}
use Rattle.exclusive_stages.specs.declared.stages.PeripheralStage.{PeripheralStage}
use Rattle.exclusive_stages.specs.declared.stages.PeripheralStage.TheVariants.{RequestUnsent, RequestSent, PhyUnsent as phy_unsent, PhySent as phy_sent}
use Rattle.exclusive_stages.specs.declared.stages.PeerAtPeripheral.{PeerAtPeripheral}
use Rattle.exclusive_stages.specs.declared.stages.PeerAtPeripheral.TheVariants.{PhyRspUnsent, PhyRspSent}

-- ---- a PDU of the own procedure: the stage after it, if it is one

abbrev pub own_sent_by_central : Pdu → CentralStage → Option CentralStage
own_sent_by_central UpdateInd UpdateUnsent = Some UpdateSent
own_sent_by_central MapInd MapUnsent = Some MapSent
own_sent_by_central PhyReq PhyUnsent = Some PhySent
own_sent_by_central PhyInd PhyAnswered = Some PhyIndicated
own_sent_by_central pdu own = None

abbrev pub own_sent_by_peripheral : Pdu → PeripheralStage → Option PeripheralStage
own_sent_by_peripheral ParamReq RequestUnsent = Some RequestSent
own_sent_by_peripheral PhyReq phy_unsent = Some phy_sent
own_sent_by_peripheral pdu own = None

-- ---- a PDU that answers the peer

abbrev pub peer_sent_by_central : Pdu → PeerAtCentral → PeerAtCentral
peer_sent_by_central GrantInd GrantUnsent = GrantSent
peer_sent_by_central PhyInd PhyIndUnsent = PhyIndSent
peer_sent_by_central pdu peer = peer

abbrev pub peer_sent_by_peripheral : Pdu → PeerAtPeripheral → PeerAtPeripheral
peer_sent_by_peripheral PhyRsp PhyRspUnsent = PhyRspSent
peer_sent_by_peripheral pdu peer = peer
