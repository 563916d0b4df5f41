-- Whether two sides are the same.
use Rattle.std.specs.Prelude.{Bool, true, false}
use Rattle.ble_base.specs.declared.roles.Side.{Side}
use Rattle.ble_base.specs.declared.roles.Side.TheVariants.{A, B}

abbrev pub same_side : Side → Side → Bool
same_side A A = true
same_side B B = true
same_side A B = false
same_side B A = false
