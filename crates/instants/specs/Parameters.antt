-- The parameters and the anchor of each connection event, from the indications that change them (Core 5.2,
-- volume 6 part B, sections 5.1.1, 5.1.2 and 5.5).
use Rattle.std.specs.Prelude.{ℕ, zero, suc, ◌+◌, ◌==◌, nat_le, List, filter, sum_by}
use Rattle.std.specs.List.{fold}
use Rattle.instants.specs.declared.indications.Params.{Params}
use Rattle.instants.specs.declared.indications.Indication.{Indication}
use Rattle.instants.specs.declared.indications.Indication.TheVariants.{Update, Map}
use Rattle.instants.specs.declared.track.Change.{Change}

-- the Instant of an indication
abbrev pub instant_of : Indication → ℕ
instant_of (Update win_offset interval latency timeout instant) = instant
instant_of (Map map instant) = instant

-- the slots by which the event of its Instant comes later
abbrev pub win_offset_of : Indication → ℕ
win_offset_of (Update win_offset interval latency timeout instant) = win_offset
win_offset_of (Map map instant) = 0

-- the parameters after an indication
abbrev pub params_after : Params → Indication → Params
params_after params (Update win_offset interval latency timeout instant) =
    record { interval = interval; latency = latency; timeout = timeout; map = params.map }
params_after params (Map map instant) = record params { map = map }

-- the parameters in an event: the first ones, changed in order by the indications whose event has come
abbrev pub params_in : Params → List Change → ℕ → Params
params_in first changes event =
    fold (λ params change. params_after params change.indication) first
    (filter (λ change. nat_le change.at.0 event) changes)

-- the slots by which an event comes later, by the indications of this event
abbrev pub event_offset : List Change → ℕ → ℕ
event_offset changes event =
    sum_by (λ change. win_offset_of change.indication) (filter (λ change. change.at.0 == event) changes)

-- the slot of the anchor of an event: event 0 has the first anchor; each next one comes after the interval of the event
-- before it and its own offset
abbrev pub anchor_in : ℕ → Params → List Change → ℕ → ℕ
anchor_in slot first changes zero = slot
anchor_in slot first changes (suc event) =
    anchor_in slot first changes event + (params_in first changes event).interval + event_offset changes (suc event)
