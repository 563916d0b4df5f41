-- Runs of one link, turn by turn, and what its hosts may do in them (our choice).
use Rattle.std.specs.Prelude.{ℕ, ◌+◌, List, [], ◌∷◌, Option, Some, None, length, ⊤}
use Rattle.link_pairs.specs.link_model.Setup.{Setup}
use Rattle.link_pairs.specs.link_model.Facts.{Facts, first_facts}
use Rattle.link_pairs.specs.link_model.End.{facts_after}
use Rattle.link_pairs.specs.link_model.Step.{Step}
use Rattle.link_pairs.specs.Hosts.{MayHost}
use Rattle.link_runs.specs.Turn.{Ends, Given, IsUnmixed, end_at_start, ends_after_turn}

-- ---- what the hosts may do

-- each step of a host may come where it comes
abbrev pub MayHostAll : Setup → List Step → Facts → Type 0
MayHostAll setup [] facts = ⊤
MayHostAll setup (step ∷ steps) facts = MayHost step facts × MayHostAll setup steps (facts_after setup facts step)

-- of the host of an end that is shut nothing is asked
abbrev pub MayHostEnd : Setup → List Step → Option Facts → Type 0
MayHostEnd setup steps None = ⊤
MayHostEnd setup steps (Some facts) = MayHostAll setup steps facts

-- both hosts in one turn
abbrev pub MayHostTurn : Setup → Setup → Given → Ends → Type 0
MayHostTurn central peripheral given ends =
    MayHostEnd central given.central_host ends.central × MayHostEnd peripheral given.peripheral_host ends.peripheral

-- ---- turns one after another

-- from these ends on, with the first turn in this slot
abbrev pub ends_from : Setup → Setup → ℕ → Ends → List Given → Ends
ends_from central peripheral slot ends [] = ends
ends_from central peripheral slot ends (given ∷ turns) =
    ends_from central peripheral (slot + 1) (ends_after_turn central peripheral slot given ends) turns

-- both hosts in each of these turns
abbrev pub MayAllHostFrom : Setup → Setup → ℕ → Ends → List Given → Type 0
MayAllHostFrom central peripheral slot ends [] = ⊤
MayAllHostFrom central peripheral slot ends (given ∷ turns) =
    MayHostTurn central peripheral given ends
    × MayAllHostFrom central peripheral (slot + 1) (ends_after_turn central peripheral slot given ends) turns

-- ---- no packet is mixed (part E, section 2): a link is followed up to the first one that is

abbrev pub IsUnmixedAt : Setup → Setup → ℕ → Given → Option Facts → Option Facts → Type 0
IsUnmixedAt central peripheral slot given (Some c) (Some p) = IsUnmixed central peripheral slot given c p
IsUnmixedAt central peripheral slot given o q = ⊤

-- in one turn
abbrev pub IsUnmixedTurn : Setup → Setup → ℕ → Given → Ends → Type 0
IsUnmixedTurn central peripheral slot given ends =
    IsUnmixedAt central peripheral slot given (end_at_start central slot given.central_host ends.central)
    (end_at_start peripheral slot given.peripheral_host ends.peripheral)

-- in each of these turns
abbrev pub AreUnmixedFrom : Setup → Setup → ℕ → Ends → List Given → Type 0
AreUnmixedFrom central peripheral slot ends [] = ⊤
AreUnmixedFrom central peripheral slot ends (given ∷ turns) =
    IsUnmixedTurn central peripheral slot given ends
    × AreUnmixedFrom central peripheral (slot + 1) (ends_after_turn central peripheral slot given ends) turns

-- ---- from the beginning of the link

-- both ends as they begin
abbrev pub first_ends : Setup → Setup → Ends
first_ends central peripheral =
    record { central = Some (first_facts central); peripheral = Some (first_facts peripheral) }

-- the first turn is in the slot after the CONNECT_IND
abbrev pub ends_of : Setup → Setup → List Given → Ends
ends_of central peripheral turns =
    ends_from central peripheral (central.opened + 1) (first_ends central peripheral) turns

-- the slot of the next turn
abbrev pub slot_after : Setup → List Given → ℕ
slot_after central turns = central.opened + 1 + length turns

-- both hosts in each turn
abbrev pub MayAllHost : Setup → Setup → List Given → Type 0
MayAllHost central peripheral turns =
    MayAllHostFrom central peripheral (central.opened + 1) (first_ends central peripheral) turns

-- no packet is mixed in any turn
abbrev pub AreUnmixed : Setup → Setup → List Given → Type 0
AreUnmixed central peripheral turns =
    AreUnmixedFrom central peripheral (central.opened + 1) (first_ends central peripheral) turns
