-- The proof of `CellPool::put`.
use Rattle.std.proofs.Common.{◌≡◌, length, arith, ap, ◌∙◌}
use Rattle.std.proofs.lemmas.List.{get_or_past}
use Rattle.cell_pool.specs.declared.cell.Cell.TheVariants.{Free}
use Rattle.cell_pool.specs.Cells.{value_of}
use Rattle.cell_pool.proofs.Numbers.{get-values_of, values_of-fill, values_of-push}
use Rattle.cell_pool.proofs.Soundness.{last_is_free, IsSound-fill, IsSound-push}
use Rattle.cell_pool.proofs.pool.CellPool.put.Goals as goal

pub invariant_of-self : goal.invariant_of-self
invariant_of-self g c =
    rw (c.fill.ensures, c.in-Some.ensures.capacity) (IsSound-fill _ _ _ c.self.inside.cells.items _ _ _ c.args.value c.in-Some.ensures.items c.self.invariant)

pub invariant_of-self-then-len : goal.invariant_of-self-then-len
invariant_of-self-then-len g c =
    rw (c.push_reserved.ensures.items, c.push_reserved.ensures.capacity, c.in_default.ensures.capacity)
    (IsSound-push _ _ _ c.self.inside.cells.items c.self.inside.free.items _ c.args.value (omega arith) (omega (arith, c.in_default.ensures.cases.0)) (omega (arith, c.in_default.ensures.cases.1)) c.self.invariant)

pub returns-in-Some-clause-was_free : goal.returns-in-Some-clause-was_free
returns-in-Some-clause-was_free g c =
    let free = last_is_free _ _ _ _ c.in-Some.ensures.items c.self.invariant.listed in
    rw (← c.self.view_is) (get-values_of c.self.inside.cells.items _ ∙ ap value_of free.1)

pub returns-in-Some-clause-held : goal.returns-in-Some-clause-held
returns-in-Some-clause-held g c =
    let free = last_is_free _ _ _ _ c.in-Some.ensures.items c.self.invariant.listed in
    rw (← c.self.view_is, c.fill.ensures) (values_of-fill c.self.inside.cells.items _ c.args.value free.0)

pub returns-then-len-clause-was_free : goal.returns-then-len-clause-was_free
returns-then-len-clause-was_free g c =
    rw (← c.self.view_is) (get-values_of c.self.inside.cells.items _ ∙ ap value_of (get_or_past c.self.inside.cells.items _ Free (omega arith)))

pub returns-then-len-clause-held : goal.returns-then-len-clause-held
returns-then-len-clause-held g c =
    let at_end : c.len-then-len.result ≡ length c.self.inside.cells.items = omega arith in
    rw (← c.self.view_is, at_end, c.push_reserved.ensures.items) (values_of-push c.self.inside.cells.items c.args.value)
