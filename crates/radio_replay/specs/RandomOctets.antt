-- The octets that a number gives, by a linear congruential generator (our choice).
use Rattle.std.specs.Prelude.{ℕ, zero, suc, ◌+◌, ◌*◌, ◌/◌, ◌%◌, ◌^◌, List, [], ◌∷◌, ◌++◌}

-- the state after one more draw
abbrev pub next_state : ℕ → ℕ
next_state state = (1664525 * state + 1013904223) % 2 ^ 32

-- the octet of a draw is the high octet of the state after it
abbrev pub octet_of : ℕ → ℕ
octet_of state = state / 2 ^ 24

-- the state after this number of draws
unfoldable pub state_after : ℕ → ℕ → ℕ
state_after state zero = state
state_after state (suc draws) = next_state (state_after state draws)

-- the octets of these draws, in order
unfoldable pub octets_from : ℕ → ℕ → List ℕ
octets_from state zero = []
octets_from state (suc draws) = octets_from state draws ++ octet_of (state_after state (suc draws)) ∷ []
