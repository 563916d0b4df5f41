-- Which PDUs of the peer a procedure that excludes others awaits, and of which the peer has sent one (Core 5.2, volume 6
-- part B, sections 5.1 and 5.3).
use Rattle.std.specs.Prelude.{Bool, true, false}
use Rattle.exclusive_stages.specs.declared.stages.CentralStage.{CentralStage}
use Rattle.exclusive_stages.specs.declared.stages.CentralStage.TheVariants.{PhySent, PhyAnswered, PhyIndicated}
use Rattle.exclusive_stages.specs.declared.stages.PeripheralStage.{PeripheralStage}
use Rattle.exclusive_stages.specs.declared.stages.PeripheralStage.TheVariants.{PhySent as phy_sent, RequestAcknowledged, RequestGranted}
use Rattle.exclusive_stages.specs.declared.stages.PeerAtPeripheral.{PeerAtPeripheral}
use Rattle.exclusive_stages.specs.declared.stages.PeerAtPeripheral.TheVariants.{PhyRspUnsent, PhyRspSent}

abbrev pub awaits_phy_rsp : CentralStage → Bool
awaits_phy_rsp PhySent = true
awaits_phy_rsp other = false

-- whether the central's PHY update is in progress at the peripheral
abbrev pub has_phy_of_central : PeerAtPeripheral → Bool
has_phy_of_central PhyRspUnsent = true
has_phy_of_central PhyRspSent = true
has_phy_of_central other = false

abbrev pub awaits_phy_ind : PeripheralStage → Bool
awaits_phy_ind phy_sent = true
awaits_phy_ind other = false

-- LL_CONNECTION_UPDATE_IND answers the request of the peripheral exactly where that was acknowledged (section 5.1.7;
-- the acknowledgement comes with the packet of the answer at the latest, by our choice)
abbrev pub reads_as_answer : PeripheralStage → Bool
reads_as_answer RequestAcknowledged = true
reads_as_answer RequestGranted = true
reads_as_answer other = false

-- the peer has sent a PDU of the central's own procedure already
abbrev pub peer_answered : CentralStage → Bool
peer_answered PhyAnswered = true
peer_answered PhyIndicated = true
peer_answered other = false

-- the central has sent a PDU of the peripheral's own procedure already
abbrev pub central_answered : PeripheralStage → Bool
central_answered RequestGranted = true
central_answered other = false
