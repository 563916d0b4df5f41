-- The two sides of a run.
use Rattle.ble_base.specs.declared.roles.Side.{Side}
use Rattle.ble_base.specs.declared.roles.Side.TheVariants.{A, B}

-- the other one of the two controllers of a run (our choice)
abbrev pub other_side : Side → Side
other_side A = B
other_side B = A
