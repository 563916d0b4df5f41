-- The times between the turns of a controller (our choice).
use Rattle.std.specs.Prelude.{Bool, true, false, List, fold}
use Rattle.controller_model.specs.Step.{Step, HostOctet, TurnEnds}

-- an octet of the host may come at any time
abbrev pub between_after : Bool → Step → Bool
between_after between (HostOctet octet) = between
between_after between TurnEnds = true
between_after between step = false

-- no turn began that has not ended
abbrev pub is_between_turns : List Step → Bool
is_between_turns past = fold between_after true past
