-- Answers of `access::step_over`.
use Rattle.std.proofs.Common.{◌≡◌, ℕ, ◌+◌, ◌-◌, ◌*◌, ◌%◌, ◌^◌, ◌<◌, subst, arith}
use Rattle.std.proofs.lemmas.Nat.{one_shl, pow_pos}
use Rattle.scan_init.proofs.Stepping.{next_within, same_quotient}
use Rattle.scan_init.proofs.access.step_over.Goals as goal

pub returns-clause-within : goal.returns-clause-within
returns-clause-within c =
    let place : ℕ = c.deciding_place.result in
    let size : 1 * 2 ^ place % 2 ^ 64 ≡ 2 ^ place = one_shl place 64 (omega (arith, c.deciding_place.ensures.place)) in
    rw (size, c.from.ensures)
    (next_within c.args.access place (32 - place) (omega (arith, c.deciding_place.ensures.place)) (omega arith))

pub returns-clause-none : goal.returns-clause-none
returns-clause-none c = λ invalid other from below.
    let place : ℕ = c.deciding_place.result in
    let access : ℕ = c.args.access in
    let size : 1 * 2 ^ place % 2 ^ 64 ≡ 2 ^ place = one_shl place 64 (omega (arith, c.deciding_place.ensures.place)) in
    c.deciding_place.ensures.decides invalid other
    (same_quotient (2 ^ place) access other (pow_pos place) from
    (subst (λ n. other < access + (n - access % n)) size
    (subst (λ m. other < access + (1 * 2 ^ place % 2 ^ 64 - m % (1 * 2 ^ place % 2 ^ 64))) c.from.ensures below)))
