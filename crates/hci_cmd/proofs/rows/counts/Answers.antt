-- The proof of `counts`.
use Rattle.std.proofs.Common.{arith}
use Rattle.hci_cmd.proofs.Counts.{Taken-more, Taken-all, Taken-none}
use Rattle.hci_cmd.proofs.rows.counts.Goals as goal

pub loop-i-init : goal.loop-i-init
loop-i-init c = rw c.new-counts.ensures (Taken-none c.args.handles c.args.fields c.requires.len)

pub loop-i-preserved : goal.loop-i-preserved
loop-i-preserved c =
    rw c.push.ensures.items
    (Taken-more _ c.loop-i.counts.items c.loop-i.fields c.u16.new.self c.u16-in-loop-i.new.self c.args.handles c.loop-i.i c.u16.result c.u16-in-loop-i.result
    c.loop-i.invariant c.loop-i-test.true c.u16.ensures.value c.u16.ensures.new c.u16-in-loop-i.ensures.value c.u16-in-loop-i.ensures.new
    c.u16.ensures.rest c.u16-in-loop-i.ensures.rest)

pub returns : goal.returns
returns c = Taken-all _ c.loop-i.counts.items c.loop-i.fields c.args.handles c.loop-i.i c.loop-i.invariant (omega arith)
