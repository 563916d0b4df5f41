-- The loop invariants of `Queue::drop_link`.
use Rattle.std.proofs.Common.{◌==◌}
use Rattle.acl_banks.proofs.Sweep.{IsSwept}
use Rattle.acl_banks.proofs.queue.Queue.drop_link.Given as goal

abbrev pub invariant-loop-place : goal.invariant-loop-place
invariant-loop-place g l = IsSwept (λ value. g.V.HasHandle.handle_of value == l.handle) l.fn.self l.self l.place
