-- Calls that are counted, and which of them are to fail (our choice).
use Rattle.std.specs.Prelude.{ℕ, ◌<◌, ◌==◌, Bool, List, All}
use Rattle.std.specs.List.{list_any}
use Rattle.outside.specs.Count.{one_more}

-- how many calls were made, and the numbers, counted from 1, of those that are to fail
pub record Calls : Type 0 where
  pub made : ℕ
  pub failing : List ℕ

-- the number of the next call
abbrev pub next_call : Calls → ℕ
next_call calls = one_more calls.made

-- whether the next call is to fail
abbrev pub next_fails : Calls → Bool
next_fails calls = list_any (λ call. call == next_call calls) calls.failing

-- the calls once the next one was made
abbrev pub after_call : Calls → Calls
after_call calls = record calls { made = next_call calls }

-- no call from the next one on is to fail
abbrev pub NoneFails : Calls → Type 0
NoneFails calls = All (λ call. call < next_call calls) calls.failing
