-- Proof of `recorder::Recorder::put_entry`.
use Rattle.ble_base.specs.declared.roles.Side.TheVariants.{A, B}
use Rattle.capture.specs.Hosts.{fed_by}
use Rattle.capture.proofs.Known.{entry_packets, knows_more}
use Rattle.capture.proofs.recorder.Recorder.put_entry.Goals as goal

pub returns-clause-packets : goal.returns-clause-packets
returns-clause-packets c = λ past knows.
    entry_packets past c.args.entry.now c.args.self.now.clock c.pass.new.self c.microseconds-before.result
    c.microseconds-now.result c.fed_in.result.now c.fed_in-2.result.now c.args.out.now.items c.put_fed.new.out.items
    c.put_fed-2.new.out.items c.put_own.new.out.items knows.clock c.microseconds-before.ensures c.pass.ensures
    c.microseconds-now.ensures c.fed_in.ensures c.fed_in-2.ensures
    (c.in_ok-put_fed.ensures.packets (fed_by A past) knows.a) (c.in_ok-put_fed-2.ensures.packets (fed_by B past) knows.b)
    (c.in_ok-put_own.ensures past knows.centrals)

pub returns-clause-knows : goal.returns-clause-knows
returns-clause-knows c = λ past knows.
    knows_more c.args.self.now _ past c.args.entry.now knows c.pass.ensures
    (rw c.fed_in.ensures at (c.in_ok-put_fed.ensures.knows (fed_by A past) knows.a))
    (rw c.fed_in-2.ensures at (c.in_ok-put_fed-2.ensures.knows (fed_by B past) knows.b))
    (c.in_ok-note.ensures past knows.centrals)
