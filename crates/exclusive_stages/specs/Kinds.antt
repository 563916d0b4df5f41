-- The kind of each stage of the procedures that exclude each other (Core 5.2, volume 6 part B, sections 5.1 and 5.3).
use Rattle.std.specs.Prelude.{Bool, true, false, Option, Some, None}
use Rattle.ble_base.specs.declared.procedure_kinds.Kind.{Kind}
use Rattle.ble_base.specs.declared.procedure_kinds.Kind.TheVariants.{Update as update, Request as request, Map as map, Phy as phy}
use Rattle.exclusive_stages.specs.declared.pdus.Exclusive.{Exclusive}
use Rattle.exclusive_stages.specs.declared.pdus.Exclusive.TheVariants.{Update, Request, Map, Phy}
use Rattle.exclusive_stages.specs.declared.stages.CentralStage.{CentralStage}
use Rattle.exclusive_stages.specs.declared.stages.CentralStage.TheVariants.{Idle, UpdateUnsent, UpdateSent, MapUnsent, MapSent, PhySent, PhyAnswered, PhyIndicated}
use Rattle.exclusive_stages.specs.declared.stages.PeerAtCentral.{PeerAtCentral}
use Rattle.exclusive_stages.specs.declared.stages.PeerAtCentral.TheVariants.{Absent, HostAsked}
use Rattle.exclusive_stages.specs.declared.stages.PeripheralStage.{PeripheralStage}
use Rattle.exclusive_stages.specs.declared.stages.PeripheralStage.TheVariants.{Idle as idle, RequestSent, RequestAcknowledged, RequestGranted, PhyUnsent as phy_unsent, PhySent as phy_sent}
use Rattle.exclusive_stages.specs.declared.stages.PeerAtPeripheral.{PeerAtPeripheral}
use Rattle.exclusive_stages.specs.declared.stages.PeerAtPeripheral.TheVariants.{Absent as absent}

-- the same kind among all kinds of control procedures
abbrev pub kind_of : Exclusive → Kind
kind_of Update = update
kind_of Request = request
kind_of Map = map
kind_of Phy = phy

-- ---- the procedure that an end began

abbrev pub central_kind : CentralStage → Option Exclusive
central_kind Idle = None
central_kind UpdateUnsent = Some Update
central_kind UpdateSent = Some Update
central_kind MapUnsent = Some Map
central_kind MapSent = Some Map
central_kind other = Some Phy

abbrev pub peripheral_kind : PeripheralStage → Option Exclusive
peripheral_kind idle = None
peripheral_kind phy_unsent = Some Phy
peripheral_kind phy_sent = Some Phy
peripheral_kind other = Some Request

abbrev pub is_idle_at_central : CentralStage → Bool
is_idle_at_central Idle = true
is_idle_at_central other = false

abbrev pub is_idle_at_peripheral : PeripheralStage → Bool
is_idle_at_peripheral idle = true
is_idle_at_peripheral other = false

-- the procedure whose first PDU was sent, which the peer may refuse (sections 2.4.2.8, 2.4.2.14 and 2.4.2.18)
abbrev pub kind_sent_by_central : CentralStage → Option Exclusive
kind_sent_by_central UpdateSent = Some Update
kind_sent_by_central MapSent = Some Map
kind_sent_by_central PhySent = Some Phy
kind_sent_by_central PhyAnswered = Some Phy
kind_sent_by_central PhyIndicated = Some Phy
kind_sent_by_central other = None

abbrev pub kind_sent_by_peripheral : PeripheralStage → Option Exclusive
kind_sent_by_peripheral RequestSent = Some Request
kind_sent_by_peripheral RequestAcknowledged = Some Request
kind_sent_by_peripheral RequestGranted = Some Request
kind_sent_by_peripheral phy_sent = Some Phy
kind_sent_by_peripheral other = None

-- ---- the procedure of the peer

abbrev pub has_peer_at_central : PeerAtCentral → Bool
has_peer_at_central Absent = false
has_peer_at_central other = true

abbrev pub has_peer_at_peripheral : PeerAtPeripheral → Bool
has_peer_at_peripheral absent = false
has_peer_at_peripheral other = true

-- a request of the peripheral waits for the answer of the central's host
abbrev pub is_host_asked_at_central : PeerAtCentral → Bool
is_host_asked_at_central HostAsked = true
is_host_asked_at_central other = false
