-- The stages of procedures that exclude each other after an event was entered from which an indication holds (Core 5.2,
-- volume 6 part B, sections 5.1.1, 5.1.2 and 5.1.7).
use Rattle.std.specs.Prelude.{Option, Some, None}
use Rattle.exclusive_stages.specs.declared.pdus.Exclusive.{Exclusive}
use Rattle.exclusive_stages.specs.declared.pdus.Exclusive.TheVariants.{Update, Request, Map}
use Rattle.exclusive_stages.specs.declared.stages.CentralStage.{CentralStage}
use Rattle.exclusive_stages.specs.declared.stages.CentralStage.TheVariants.{Idle, UpdateSent, MapSent}
use Rattle.exclusive_stages.specs.declared.stages.PeerAtCentral.{PeerAtCentral}
use Rattle.exclusive_stages.specs.declared.stages.PeerAtCentral.TheVariants.{Absent, GrantSent}
use Rattle.exclusive_stages.specs.declared.stages.PeripheralStage.{PeripheralStage}
use Rattle.exclusive_stages.specs.declared.stages.PeripheralStage.TheVariants.{Idle as idle, RequestGranted}
use Rattle.exclusive_stages.specs.declared.stages.PeerAtPeripheral.{PeerAtPeripheral}
use Rattle.exclusive_stages.specs.declared.stages.PeerAtPeripheral.TheVariants.{Absent as absent, UpdateTaken, MapTaken}

-- at the central that completes its own update or map, or the request of the peripheral
abbrev pub own_held_at_central : CentralStage → CentralStage
own_held_at_central UpdateSent = Idle
own_held_at_central MapSent = Idle
own_held_at_central other = other

abbrev pub done_at_central : CentralStage → Option Exclusive
done_at_central UpdateSent = Some Update
done_at_central MapSent = Some Map
done_at_central other = None

abbrev pub peer_held_at_central : PeerAtCentral → PeerAtCentral
peer_held_at_central GrantSent = Absent
peer_held_at_central other = other

-- at the peripheral its own request, or the update or map of the central
abbrev pub own_held_at_peripheral : PeripheralStage → PeripheralStage
own_held_at_peripheral RequestGranted = idle
own_held_at_peripheral other = other

abbrev pub done_at_peripheral : PeripheralStage → Option Exclusive
done_at_peripheral RequestGranted = Some Request
done_at_peripheral other = None

abbrev pub peer_held_at_peripheral : PeerAtPeripheral → PeerAtPeripheral
peer_held_at_peripheral UpdateTaken = absent
peer_held_at_peripheral MapTaken = absent
peer_held_at_peripheral other = other
