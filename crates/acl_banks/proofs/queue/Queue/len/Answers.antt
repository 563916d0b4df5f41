-- The proof of `Queue::len`.
use Rattle.std.proofs.Common.{length, ap, arith}
use Rattle.acl_banks.proofs.InCells.{length-values_in}
use Rattle.acl_banks.proofs.queue.Queue.len.Goals as goal

pub returns-clause-count : goal.returns-clause-count
returns-clause-count g c = omega (arith, length-values_in c.self.inside.cells c.self.inside.order.items c.self.invariant.held, ap length c.self.view_is)
