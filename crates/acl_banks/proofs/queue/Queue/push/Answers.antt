-- The proof of `Queue::push`.
use Rattle.std.proofs.Common.{length, refl, ap, arith}
use Rattle.acl_banks.proofs.InCells.{length-values_in, values_in-push, IsSound-push}
use Rattle.acl_banks.proofs.queue.Queue.push.Goals as goal

pub invariant_of-self : goal.invariant_of-self
invariant_of-self g c =
    rw (c.in-Ok.ensures.held, c.push_reserved.ensures.items, c.push_reserved.ensures.capacity)
    (IsSound-push g.row.N _ c.self.inside.cells c.self.inside.order.items c.self.invariant c.in-Ok.cell c.args.value c.in-Ok.ensures.was_free (omega (arith, length-values_in c.self.inside.cells c.self.inside.order.items c.self.invariant.held, ap length c.self.view_is)))

pub unreachable-requires : goal.unreachable-requires
unreachable-requires g c =
    let full = c.in-Err.ensures.full.0 refl in
    omega (arith, full, c.self.invariant.total, length-values_in c.self.inside.cells c.self.inside.order.items c.self.invariant.held, ap length c.self.view_is)

pub returns : goal.returns
returns g c =
    rw (← c.self.view_is, c.in-Ok.ensures.held, c.push_reserved.ensures.items)
    (values_in-push c.self.inside.cells c.in-Ok.cell c.args.value c.self.inside.order.items c.in-Ok.ensures.was_free c.self.invariant.held)
