-- A call that is not among those that are to fail does not fail, nor does one after it.
use Rattle.std.proofs.Common.{◌≡◌, ℕ, ◌<◌, false, eqb, get_or, arith}
use Rattle.std.proofs.lemmas.List.Folds.{list_any_none}
use Rattle.outside.specs.Calls.{Calls, next_call, next_fails, after_call, NoneFails}

-- a number below another one is not equal to it
below_is_other : (a b : ℕ) → a < b → eqb a b ≡ false
below_is_other a b lt = grind arith

pub none_fails_next : (calls : Calls) → NoneFails calls → next_fails calls ≡ false
none_fails_next calls none =
    list_any_none (λ call. eqb call (next_call calls)) calls.failing
    (λ k d lt. below_is_other (get_or calls.failing k d) (next_call calls) (none k d lt))

pub none_fails_later : (calls : Calls) → NoneFails calls → NoneFails (after_call calls)
none_fails_later calls none =
    λ k d lt. let h : get_or calls.failing k d < next_call calls = none k d lt in omega arith
