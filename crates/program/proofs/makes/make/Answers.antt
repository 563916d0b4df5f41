-- Proof of `makes::make`.
use Rattle.std.proofs.Common.{refl, ◌∙◌}
use Rattle.program.specs.World.{writes_of}
use Rattle.program.proofs.Endings.{handed_on}
use Rattle.program.proofs.Loads.{made, not_made, nothing_made}
use Rattle.program.proofs.makes.make.Goals as goal

pub returns-in_err-schedule-clause-err : goal.returns-in_err-schedule-clause-err
returns-in_err-schedule-clause-err g c =
    handed_on c.from_residual.result _ c.in_err-schedule.field-0.0 c.from_residual.ensures.1
    (nothing_made (writes_of g.O.Sink.written g.O.Sink.is_reliable g.O.Sink.faults c.args.out.now c.args.out.now) c.args.number _
    c.in_err-schedule.ensures.err refl)

pub returns-clause-ok : goal.returns-clause-ok
returns-clause-ok g c =
    made (writes_of g.O.Sink.written g.O.Sink.is_reliable g.O.Sink.faults c.args.out.now c.write_octets.new.out) c.args.number
    c.in_ok-schedule.schedule c.in_ok-schedule.journal _ c.write_octets.result c.in_ok-schedule.ensures.ok
    (c.as_slice.ensures.value ∙ c.in-Ok.ensures) c.write_octets.ensures.ok

pub returns-clause-err : goal.returns-clause-err
returns-clause-err g c =
    not_made (writes_of g.O.Sink.written g.O.Sink.is_reliable g.O.Sink.faults c.args.out.now c.write_octets.new.out) c.args.number
    c.in_ok-schedule.schedule c.in_ok-schedule.journal _ c.write_octets.result c.in_ok-schedule.ensures.ok
    (c.as_slice.ensures.value ∙ c.in-Ok.ensures) c.write_octets.ensures.err
