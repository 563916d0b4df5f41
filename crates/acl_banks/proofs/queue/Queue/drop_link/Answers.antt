-- The proof of `Queue::drop_link`.
use Rattle.std.proofs.Common.{◌==◌, arith}
use Rattle.acl_banks.proofs.Sweep.{swept_from_end, swept_whole, swept_within, swept_more}
use Rattle.acl_banks.proofs.queue.Queue.drop_link.Goals as goal

pub loop-place-init : goal.loop-place-init
loop-place-init g c = swept_from_end _ c.args.self.now c.len-place.result c.len-place.ensures.count

pub remove_if_of-requires : goal.remove_if_of-requires
remove_if_of-requires g c =
    (omega arith, swept_within _ _ _ _ c.loop-place-test.true c.loop-place.invariant)

pub loop-place-preserved : goal.loop-place-preserved
loop-place-preserved g c =
    swept_more (λ value. g.V.HasHandle.handle_of value == c.args.handle) _ _ _ _ c.loop-place-test.true c.loop-place.invariant c.remove_if_of.ensures

pub returns : goal.returns
returns g c =
    swept_whole (λ value. g.V.HasHandle.handle_of value == c.args.handle) _ _ _ (omega arith) c.loop-place.invariant
