-- The stages of procedures that exclude each other after a PDU was acknowledged (Core 5.2, volume 6 part B, sections
-- 5.1.7 and 5.1.10).
use Rattle.std.specs.Prelude.{Option, Some, None}
use Rattle.exclusive_stages.specs.declared.pdus.Exclusive.{Exclusive}
use Rattle.exclusive_stages.specs.declared.pdus.Exclusive.TheVariants.{Phy}
use Rattle.exclusive_stages.specs.declared.pdus.Pdu.{Pdu}
use Rattle.exclusive_stages.specs.declared.pdus.Pdu.TheVariants.{PhyInd, ParamReq}
use Rattle.exclusive_stages.specs.declared.stages.CentralStage.{CentralStage}
use Rattle.exclusive_stages.specs.declared.stages.CentralStage.TheVariants.{Idle, PhyIndicated}
use Rattle.exclusive_stages.specs.declared.stages.PeerAtCentral.{PeerAtCentral}
use Rattle.exclusive_stages.specs.declared.stages.PeerAtCentral.TheVariants.{Absent, PhyIndSent}
use Rattle.exclusive_stages.specs.declared.stages.PeripheralStage.{PeripheralStage}
use Rattle.exclusive_stages.specs.declared.stages.PeripheralStage.TheVariants.{RequestSent, RequestAcknowledged}

-- LL_PHY_UPDATE_IND changes no PHY and so has no Instant (our choice): its acknowledgement completes the central's own
-- procedure, or the peripheral's
abbrev pub own_acked_at_central : Pdu → CentralStage → CentralStage
own_acked_at_central PhyInd PhyIndicated = Idle
own_acked_at_central pdu own = own

abbrev pub done_by_ack_at_central : Pdu → CentralStage → Option Exclusive
done_by_ack_at_central PhyInd PhyIndicated = Some Phy
done_by_ack_at_central pdu own = None

abbrev pub peer_acked_at_central : Pdu → PeerAtCentral → PeerAtCentral
peer_acked_at_central PhyInd PhyIndSent = Absent
peer_acked_at_central pdu peer = peer

-- LL_CONNECTION_PARAM_REQ is acknowledged
abbrev pub own_acked_at_peripheral : Pdu → PeripheralStage → PeripheralStage
own_acked_at_peripheral ParamReq RequestSent = RequestAcknowledged
own_acked_at_peripheral pdu own = own
