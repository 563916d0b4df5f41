-- What a plan knows, and in which slots the radio is held (our choice).
use Rattle.std.specs.Prelude.{ℕ, ◌+◌, ◌<◌, ◌≤◌, ◌&&◌, nat_le, nat_lt, Bool, false, List, Option, Some, None, if◌then◌else◌}
use Rattle.slot_plan.specs.declared.activities.Activity.{Activity}
use Rattle.slot_plan.specs.declared.plan.Hold.{Hold}
use Rattle.slot_plan.specs.declared.wants.Want.{Want}
use Rattle.slot_plan.specs.Winner.{first_activity}

-- what wants the radio, in the order of the calls, and for which slots it is held, if it is
pub record PlanFacts : Type 0 where
  pub wants : List Want
  pub hold : Option Hold

-- the radio is held in a slot: it is one of those that the hold names
abbrev pub IsHeld : Option Hold → ℕ → Type 0
IsHeld None slot = ⊥
IsHeld (Some hold) slot = (hold.from.0 ≤ slot) × (slot < hold.from.0 + hold.slots)

-- the same as a test that computes
abbrev pub is_held_in : Option Hold → ℕ → Bool
is_held_in None slot = false
is_held_in (Some hold) slot = nat_le hold.from.0 slot && nat_lt slot (hold.from.0 + hold.slots)

-- the activity that has the radio in a slot: the first of those that want it, and none where it is held
abbrev pub winner_of : PlanFacts → ℕ → Option Activity
winner_of plan slot = if is_held_in plan.hold slot then None else first_activity plan.wants
