-- How a call of the program ends (our choice).
use Rattle.std.specs.Prelude.{ℕ, List}
use Rattle.program.specs.Ending.{IsEnding as IsEndingWith}
use Rattle.program.specs.World.{World}
use Rattle.ble_tool.specs.Lawful.{lawful}

-- the ending of a call with these words, which saw this of the world, wrote this to the error stream, and gave this
-- status; the journals are lawful
abbrev pub IsEnding : List (List ℕ) → World → (List ℕ → Type 0) → ℕ → Type 0
IsEnding words world says status = IsEndingWith lawful words world says status
