-- Worked steps of one end.
use Rattle.std.specs.Prelude.{ℕ, zero, suc, true, List, [], ◌∷◌}
use Rattle.ble_base.specs.declared.channel_map.ChannelMap.{ChannelMap}
use Rattle.ble_base.specs.declared.roles.Role.TheVariants.{Central, Peripheral}
use Rattle.data_pdu.specs.declared.ctrl.Ctrl.TheVariants.{ConnectionUpdateInd, ChannelMapInd}
use Rattle.data_pdu.specs.declared.ctrl.CtrlRead.TheVariants.{Known}
use Rattle.instants.specs.declared.indications.Params.{Params}
use Rattle.procedures.specs.procedure_values.declared.asks.Ask.TheVariants.{Update as ask_update, Map as ask_map}
use Rattle.control_model.specs.Control.{Control, Step, Enters, Asks, Sends, Takes, after_all, first_control}

-- an interval of 6 slots, no latency, a timeout of 1 s
abbrev pub six_slots : ChannelMap → Params
six_slots map = record { interval = 6; latency = 0; timeout = 100; map = map }

-- this many events are entered, in phase Clear
abbrev pub entries : ℕ → List Step
entries zero = []
entries (suc n) = Enters 0 true ∷ entries n

abbrev pub central_after : ChannelMap → List Step → Control
central_after map steps = after_all steps (first_control Central 27 (six_slots map) 3)

abbrev pub peripheral_after : ChannelMap → List Step → Control
peripheral_after map steps = after_all steps (first_control Peripheral 27 (six_slots map) 3)

-- the host asks a central for an interval of 8 slots, and a new map; in event 0 the update is sent, and this many events
-- are entered after it
abbrev pub update_sent : ChannelMap → ℕ → List Step
update_sent map n =
    Asks (ask_update 8 0 100) ∷ Asks (ask_map map) ∷ Enters 0 true ∷ Sends 0 true ∷ entries n

-- LL_CONNECTION_UPDATE_IND with this Instant, and LL_CHANNEL_MAP_IND, are taken
abbrev pub takes_update : ℕ → Step
takes_update instant = Takes (Known (ConnectionUpdateInd 1 0 8 0 100 instant)) 0 true

abbrev pub takes_map : ChannelMap → ℕ → Step
takes_map map instant = Takes (Known (ChannelMapInd map instant)) 0 true
