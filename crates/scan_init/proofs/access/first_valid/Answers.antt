-- Answers of `access::first_valid`.
use Rattle.std.proofs.Common.{ℕ, ◌+◌, Some, true, sym, ap, ◌∙◌, arith}
use Rattle.scan_init.specs.Access.{access_at, is_valid_access}
use Rattle.scan_init.proofs.Searches.{search_end, search_over, search_step}
use Rattle.scan_init.proofs.access.first_valid.Goals as goal

pub returns-then-is_valid_access : goal.returns-then-is_valid_access
returns-then-is_valid_access c =
    let valid = ap is_valid_access (sym c.access_at-access.ensures) ∙ sym c.if-is_valid_access.ensures in
    ap (λ (access : ℕ). Some (access, c.loop-travel.travel + 1)) c.access_at-access.ensures
    ∙ sym (search_step c.args.cursor c.loop-travel.travel true (omega arith) valid)
    ∙ c.loop-travel.invariant

pub loop-travel-preserved : goal.loop-travel-preserved
loop-travel-preserved c =
    let not_valid = sym c.if-is_valid_access.ensures in
    sym (search_over c.args.cursor c.loop-travel.travel c.step_over-travel.result
    (λ t from below. c.step_over-travel.ensures.none not_valid (access_at c.args.cursor t)
    (omega (arith, c.access_at-access.ensures, c.step_over-travel.ensures.within))
    (omega (arith, c.access_at-access.ensures, c.step_over-travel.ensures.within))))
    ∙ c.loop-travel.invariant

pub returns : goal.returns
returns c = sym (search_end c.args.cursor c.loop-travel.travel (omega arith)) ∙ c.loop-travel.invariant
