-- Counts of faults: a count never falls, and stays at 2^64 - 1 once it is there (our choice).
use Rattle.std.specs.Prelude.{ℕ, ◌+◌, ◌-◌, ◌^◌, ◌≤◌, min}

-- the count after one more fault
abbrev pub one_more : ℕ → ℕ
one_more count = min (count + 1) (2 ^ 64 - 1)

-- the count has risen, or is at its end
abbrev pub HasRisen : ℕ → ℕ → Type 0
HasRisen before now = one_more before ≤ now
