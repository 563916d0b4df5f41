-- Proof of `makes::run_load`.
use Rattle.std.proofs.Common.{◌∙◌}
use Rattle.program.proofs.Endings.{handed_on}
use Rattle.program.proofs.Loads.{load_run, never_faulty, only_memory}
use Rattle.program.specs.Commands.{schedule_place}
use Rattle.program.proofs.makes.run_load.Goals as goal

pub returns-in_err-schedule-clause-err : goal.returns-in_err-schedule-clause-err
returns-in_err-schedule-clause-err c =
    handed_on c.from_residual.result _ c.in_err-schedule.field-0.0 c.from_residual.ensures.1
    (only_memory schedule_place _ c.args.number _ (c.as_slice.ensures ∙ c.in-Ok.ensures.schedule)
    (c.a_load_has_a_schedule.ensures.read c.args.number) c.in_err-schedule.ensures.err)

pub returns-in-None-clause-ok : goal.returns-in-None-clause-ok
returns-in-None-clause-ok c =
    load_run c.args.number c.in_ok-schedule.schedule c.in_ok-journal.journal _ _ _ c.in_ok-journal.fault
    (c.as_slice-2.ensures ∙ c.in-Ok.ensures.a) (c.as_slice-3.ensures ∙ c.in-Ok.ensures.b) (c.as_slice.ensures ∙ c.in-Ok.ensures.schedule)
    c.in_ok-schedule.ensures.ok c.in-None.is c.in_ok-journal.ensures.ok c.run_streams.ensures.six

pub returns-clause-err : goal.returns-clause-err
returns-clause-err c =
    never_faulty c.args.number _ _ c.in_ok-schedule.schedule c.in_ok-journal.journal _ c.in_ok-journal.fault c.in-Some.fault
    c.unseen_damage_stops_a_run.ensures c.in-Some.is (c.as_slice.ensures ∙ c.in-Ok.ensures.schedule) c.in_ok-schedule.ensures.ok
    (c.a_load_has_a_schedule.ensures.read c.args.number) (c.a_load_has_a_schedule.ensures.unchanged c.args.number)
    c.in_ok-journal.ensures.ok
