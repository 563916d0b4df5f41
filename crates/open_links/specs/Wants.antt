-- What a link adds to the plan of a slot (Core 5.2, volume 6 part B, section 4.5.1).
use Rattle.std.specs.Prelude.{ℕ, Bool, true, false, List, [], ◌∷◌}
use Rattle.slot_plan.specs.declared.Activity.TheVariants.{Link}
use Rattle.slot_plan.specs.declared.Want.{Want}

-- the link under this handle wants the radio, or does not; the slot is that in which it had the radio last
abbrev pub want_if : Bool → ℕ → ℕ → List Want
want_if false handle last_served = []
want_if true handle last_served =
    (record { activity = Link handle; last_served = record { 0 = last_served } }) ∷ []
