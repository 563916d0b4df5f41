-- Answers of `access::deciding_place`.
use Rattle.std.proofs.Common.{◌≡◌, ℕ, ◌/◌, ◌%◌, ◌^◌, ◌<◌, false, Option, Some, None, ap, ◌∙◌, subst}
use Rattle.std.specs.Prelude.{IfSome}
use Rattle.std.specs.Option.{unwrap_or}
use Rattle.scan_init.specs.Access.{bit_count, is_valid_access, transitions_of}
use Rattle.scan_init.proofs.Stepping.{decided_high, decided_run, decided_whole}
use Rattle.scan_init.proofs.access.deciding_place.Goals as goal

pub returns-then-bit_count-lt-LEAST_HIGH_TRANSITIONS-clause-decides :
    goal.returns-then-bit_count-lt-LEAST_HIGH_TRANSITIONS-clause-decides
returns-then-bit_count-lt-LEAST_HIGH_TRANSITIONS-clause-decides c = λ invalid other same.
    let count = c.bit_count.ensures ∙ ap (λ t. bit_count (t / 2 ^ 26)) c.transitions.ensures in
    let few = subst (λ n. n < 2) count c.if-bit_count-lt-LEAST_HIGH_TRANSITIONS.true in
    decided_high c.args.access other few same

decided_by : (access other : ℕ) (place : Option ℕ)
    → IfSome place (λ p. (p < 26) × (transitions_of access / 2 ^ p % 2 ^ 6 ≡ 0)) → is_valid_access access ≡ false
    → other / 2 ^ unwrap_or place 0 ≡ access / 2 ^ unwrap_or place 0 → is_valid_access other ≡ false
decided_by access other None run invalid same = decided_whole access other invalid same
decided_by access other (Some place) run invalid same = decided_run access other place run.0 run.1 same

pub returns-clause-decides : goal.returns-clause-decides
returns-clause-decides c = λ invalid other same.
    decided_by c.args.access other c.run_place.result c.run_place.ensures invalid
    (subst (λ place. other / 2 ^ place ≡ c.args.access / 2 ^ place) c.unwrap_or.ensures same)
