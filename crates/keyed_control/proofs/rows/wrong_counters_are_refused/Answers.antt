-- The proof of the rows `wrong_counters_are_refused`: 0 is not 1.
use Rattle.std.proofs.Common.{◌≡◌, ℕ}
use Rattle.keyed_control.proofs.rows.wrong_counters_are_refused.Goals as goal

zero_one : ◌≡◌ {A = ℕ} 0 1 → ⊥
zero_one same = absurd (cc)

pub returns-clause-sent : goal.returns-clause-sent
returns-clause-sent c map same = zero_one same

pub returns-clause-opened : goal.returns-clause-opened
returns-clause-opened c map same = zero_one same
