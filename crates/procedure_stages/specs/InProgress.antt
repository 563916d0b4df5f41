-- What is in progress at an end (Core 5.2, volume 6 part B, section 5.1).
use Rattle.std.specs.Prelude.{false, None, Bool, ◌||◌, is_some}
use Rattle.ble_base.specs.declared.roles.Role.{Role}
use Rattle.ble_base.specs.declared.roles.Role.TheVariants.{Central, Peripheral}
use Rattle.procedure_stages.specs.declared.stages.Ahead.TheVariants.{Nothing as nothing_ahead}
use Rattle.procedure_stages.specs.declared.stages.Progress.{Progress}
use Rattle.procedure_stages.specs.declared.stages.Progress.TheVariants.{Central as central, Peripheral as peripheral}
use Rattle.procedure_stages.specs.declared.stages.OwnCentral.TheVariants.{Exclusive as exclusive}
use Rattle.procedure_stages.specs.declared.stages.OwnPeripheral.TheVariants.{Exclusive as exclusive_p}
use Rattle.exclusive_stages.specs.declared.stages.CentralStage.TheVariants.{Idle}
use Rattle.exclusive_stages.specs.declared.stages.PeripheralStage.TheVariants.{Idle as idle}
use Rattle.exclusive_stages.specs.declared.stages.PeerAtCentral.{PeerAtCentral}
use Rattle.exclusive_stages.specs.declared.stages.PeerAtCentral.TheVariants.{Absent}
use Rattle.exclusive_stages.specs.declared.stages.PeerAtPeripheral.TheVariants.{Absent as absent}
use Rattle.exclusive_stages.specs.Kinds.{has_peer_at_central, has_peer_at_peripheral, is_host_asked_at_central}
use Rattle.procedure_stages.specs.Kinds.{own_kind}

-- nothing is in progress
abbrev pub first_progress : Role → Progress
first_progress Central = central (record { own = exclusive Idle; peer = Absent; last_instant = None })
first_progress Peripheral = peripheral (record { own = exclusive_p idle; peer = absent; ahead = nothing_ahead; encrypting = false })

-- a procedure of the peer that excludes others is in progress here
abbrev pub has_peer : Progress → Bool
has_peer (central c) = has_peer_at_central c.peer
has_peer (peripheral p) = has_peer_at_peripheral p.peer

-- an encryption of the peer is in progress here
abbrev pub is_encrypting : Progress → Bool
is_encrypting (central c) = false
is_encrypting (peripheral p) = p.encrypting

-- a procedure that either end began is in progress here
abbrev pub is_busy : Progress → Bool
is_busy progress = is_some (own_kind progress) || has_peer progress || is_encrypting progress

-- a request of the peripheral waits for the host's answer
abbrev pub is_host_asked : Progress → Bool
is_host_asked (central c) = is_host_asked_at_central c.peer
is_host_asked (peripheral p) = false

-- the same with another stage of the peripheral's procedure, at a central
abbrev pub peer_becomes : PeerAtCentral → Progress → Progress
peer_becomes peer (central c) = central (record c { peer = peer })
peer_becomes peer (peripheral p) = peripheral p
