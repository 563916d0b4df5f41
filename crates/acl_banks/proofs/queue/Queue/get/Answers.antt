-- The proof of `Queue::get`.
use Rattle.std.proofs.Common.{length, ap, arith}
use Rattle.acl_banks.proofs.InCells.{length-values_in, some_at, read_at}
use Rattle.acl_banks.proofs.queue.Queue.get.Goals as goal

pub index-requires : goal.index-requires
index-requires g c = omega (arith, length-values_in c.self.inside.cells c.self.inside.order.items c.self.invariant.held, ap length c.self.view_is)

pub get-requires : goal.get-requires
get-requires g c =
    (omega arith, some_at c.self.inside.cells c.self.inside.order.items c.args.place c.index.result.now c.self.invariant.held (omega (arith, length-values_in c.self.inside.cells c.self.inside.order.items c.self.invariant.held, ap length c.self.view_is)) c.index.ensures)

pub returns : goal.returns
returns g c =
    rw (← c.self.view_is)
    (read_at c.self.inside.cells c.self.inside.order.items c.args.place c.index.result.now c.get.result.now c.self.invariant.held (omega (arith, length-values_in c.self.inside.cells c.self.inside.order.items c.self.invariant.held, ap length c.self.view_is)) c.index.ensures c.get.ensures)
