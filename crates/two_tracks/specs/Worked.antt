-- Worked runs of two ends, and states that no run comes to. The interval is 6 slots, event 0 is in slot 3, and in it the
-- central sends an update to an interval of 8 slots whose Instant is event 6, in slot 39.
use Rattle.std.specs.Prelude.{ℕ, true, List, [], ◌∷◌, ◌++◌, Some, replicate}
use Rattle.ble_base.specs.declared.channel_map.ChannelMap.{ChannelMap}
use Rattle.instants.specs.declared.indications.Params.{Params}
use Rattle.instants.specs.declared.indications.Indication.{Indication}
use Rattle.instants.specs.declared.indications.Indication.TheVariants.{Update}
use Rattle.two_tracks.specs.TwoEnds.{TwoEnds, Step, TurnBegins, CentralSends, PeripheralHears, CentralHears, beginning}
use Rattle.two_tracks.specs.Reached.{after_all}

abbrev pub six_slots : ChannelMap → Params
six_slots map = record { interval = 6; latency = 0; timeout = 100; map = map }

abbrev pub update_to_eight : ℕ → Indication
update_to_eight win_offset = Update win_offset 8 0 100 6

abbrev pub link : ChannelMap → TwoEnds
link map = beginning (six_slots map) 3 0

-- a packet and its reply, both good
abbrev pub exchange : List Step
exchange = PeripheralHears true ∷ CentralHears ∷ []

-- event 0, with an exchange, after which the central sends the update
abbrev pub update_is_sent : ℕ → List Step
update_is_sent win_offset =
    replicate 4 TurnBegins ++ exchange ++ CentralSends (Some (update_to_eight win_offset)) ∷ []

-- and nothing is heard for this many turns
abbrev pub silence_after_update : ℕ → ℕ → List Step
silence_after_update win_offset turns = update_is_sent win_offset ++ replicate turns TurnBegins

-- it is heard in event 6, the event of its Instant
abbrev pub heard_in_the_instant : ℕ → List Step
heard_in_the_instant win_offset = silence_after_update win_offset 36 ++ exchange

abbrev pub state_after : ChannelMap → List Step → TwoEnds
state_after map steps = after_all steps (link map)
