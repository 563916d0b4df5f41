-- Which turn both controllers may begin (our choice).
use Rattle.std.specs.Prelude.{◌≡◌, ℕ}
use Rattle.controller.specs.Order.{MayBegin}
use Rattle.pair_world.specs.Stations.{StationState}

-- both may begin the turn in this slot
abbrev pub MayBothBegin : ℕ → StationState → StationState → Type 0
MayBothBegin slot a b = MayBegin slot a.held × MayBegin slot b.held

-- both began this number of turns, the last one in the slot before
abbrev pub HaveBothBegun : ℕ → StationState → StationState → Type 0
HaveBothBegun slots a b = (a.held.turn.begun ≡ slots) × (b.held.turn.begun ≡ slots)
