-- The proof of `Queue::get_mut`.
use Rattle.std.proofs.Common.{length, refl, sym, ap, arith}
use Rattle.acl_banks.proofs.InCells.{length-values_in, some_at, read_at, values_in-write, IsSound-write}
use Rattle.acl_banks.proofs.queue.Queue.get_mut.Goals as goal

pub index-cell-requires : goal.index-cell-requires
index-cell-requires g c = omega (arith, length-values_in c.self.inside.cells c.self.inside.order.items c.self.invariant.held, ap length c.self.view_is)

pub get_mut-requires : goal.get_mut-requires
get_mut-requires g c =
    (omega arith, some_at c.self.inside.cells c.self.inside.order.items c.args.place c.index-cell.result.now c.self.invariant.held (omega (arith, length-values_in c.self.inside.cells c.self.inside.order.items c.self.invariant.held, ap length c.self.view_is)) c.index-cell.ensures)

pub invariant_of-self-lent : goal.invariant_of-self-lent
invariant_of-self-lent g c w =
    IsSound-write g.row.N _ c.self.inside.cells c.self.inside.order.items c.self.invariant c.args.place c.index-cell.result.now w (omega (arith, length-values_in c.self.inside.cells c.self.inside.order.items c.self.invariant.held, ap length c.self.view_is)) c.index-cell.ensures

pub returns : goal.returns
returns g c = (
  (refl, λ w. rw (← c.self.view_is) (values_in-write c.self.inside.cells c.self.inside.order.items c.args.place c.index-cell.result.now w c.self.invariant.held c.self.invariant.apart (omega (arith, length-values_in c.self.inside.cells c.self.inside.order.items c.self.invariant.held, ap length c.self.view_is)) (sym c.index-cell.ensures))),
  record {
    lends = tt;
    value = rw (← c.self.view_is) (read_at c.self.inside.cells c.self.inside.order.items c.args.place c.index-cell.result.now c.get_mut.result.now c.self.invariant.held (omega (arith, length-values_in c.self.inside.cells c.self.inside.order.items c.self.invariant.held, ap length c.self.view_is)) c.index-cell.ensures c.get_mut.ensures.value);
  },
)
