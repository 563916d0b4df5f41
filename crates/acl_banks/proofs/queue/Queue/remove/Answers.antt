-- The proof of `Queue::remove`.
use Rattle.std.proofs.Common.{length, sym, ap, arith}
use Rattle.acl_banks.proofs.InCells.{length-values_in, some_at, read_at, values_in-remove, IsSound-remove}
use Rattle.acl_banks.proofs.queue.Queue.remove.Goals as goal

pub remove-cell-requires : goal.remove-cell-requires
remove-cell-requires g c = omega (arith, length-values_in c.self.inside.cells c.self.inside.order.items c.self.invariant.held, ap length c.self.view_is)

pub take-requires : goal.take-requires
take-requires g c =
    (omega arith, some_at c.self.inside.cells c.self.inside.order.items c.args.place c.remove-cell.result c.self.invariant.held (omega (arith, length-values_in c.self.inside.cells c.self.inside.order.items c.self.invariant.held, ap length c.self.view_is)) c.remove-cell.ensures.value)

pub invariant_of-self : goal.invariant_of-self
invariant_of-self g c =
    rw (c.take.ensures.rest, c.remove-cell.ensures.items, c.remove-cell.ensures.capacity)
    (IsSound-remove g.row.N _ c.self.inside.cells c.self.inside.order.items c.self.invariant c.args.place c.remove-cell.result (omega (arith, length-values_in c.self.inside.cells c.self.inside.order.items c.self.invariant.held, ap length c.self.view_is)) c.remove-cell.ensures.value)

pub returns-clause-value : goal.returns-clause-value
returns-clause-value g c =
    rw (← c.self.view_is)
    (read_at c.self.inside.cells c.self.inside.order.items c.args.place c.remove-cell.result c.take.result c.self.invariant.held (omega (arith, length-values_in c.self.inside.cells c.self.inside.order.items c.self.invariant.held, ap length c.self.view_is)) c.remove-cell.ensures.value c.take.ensures.value)

pub returns-clause-rest : goal.returns-clause-rest
returns-clause-rest g c =
    rw (← c.self.view_is, c.take.ensures.rest, c.remove-cell.ensures.items)
    (values_in-remove c.self.inside.cells c.self.inside.order.items c.args.place c.remove-cell.result c.self.invariant.held c.self.invariant.apart (omega (arith, length-values_in c.self.inside.cells c.self.inside.order.items c.self.invariant.held, ap length c.self.view_is)) (sym c.remove-cell.ensures.value))
