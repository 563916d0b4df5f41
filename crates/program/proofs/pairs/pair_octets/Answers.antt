-- Proof of `pairs::pair_octets`.
use Rattle.program.specs.World.{writes_of}
use Rattle.program.proofs.Endings.{octets_done, octets_not_done}
use Rattle.program.proofs.pairs.pair_octets.Goals as goal

pub returns-clause-ok : goal.returns-clause-ok
returns-clause-ok g c =
    octets_done (writes_of g.O.Sink.written g.O.Sink.is_reliable g.O.Sink.faults c.args.out.now c.write_end.new.out)
    c.args.a.now c.args.b.now c.args.schedule.now c.in_ok-schedule.schedule c.in_ok-journal.journal c.in_ok-journal.fault
    c.write_end.result c.in_ok-schedule.ensures.ok c.in_ok-journal.ensures.ok c.run_streams.ensures.six c.write_end.ensures

pub returns-clause-err : goal.returns-clause-err
returns-clause-err g c =
    octets_not_done (writes_of g.O.Sink.written g.O.Sink.is_reliable g.O.Sink.faults c.args.out.now c.write_end.new.out)
    c.args.a.now c.args.b.now c.args.schedule.now c.in_ok-schedule.schedule c.in_ok-journal.journal c.in_ok-journal.fault
    c.write_end.result c.in_ok-schedule.ensures.ok c.in_ok-journal.ensures.ok c.run_streams.ensures.six c.write_end.ensures
