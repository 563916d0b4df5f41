-- Proof of `phases::run_phases`.
use Rattle.std.proofs.Common.{ap, ◌∙◌}
use Rattle.std.specs.Prelude.{slice_get}
use Rattle.pair_world.proofs.Outcomes.{handed_on, if_err_more, on_ok_more}
use Rattle.pair_world.proofs.ThreePhases.{at_slot, first_phase_stops, from_none, phases_done, second_phase_stops, stops_at_slot, third_phase_stops, up_to}
use Rattle.pair_world.proofs.phases.run_phases.Goals as goal

pub returns-clause-ok : goal.returns-clause-ok
returns-clause-ok c =
    let turn = c.args.turn.now in
    let turn_1 = c.run_phase.new.turn in
    let turn_2 = c.run_phase-2.new.turn in
    on_ok_more c.run_phase-3.result _ _ (λ last given plan history there phase.
    let run = phases_done given plan.fates history _ _ _ _ (from_none given turn.number c.args.pair.now.a c.args.pair.now.b c.args.log.now c.args.wanted.now.a c.args.wanted.now.b turn.packets history c.requires.none phase)
    (λ before phase. c.in_ok-run_phase.ensures.ok given plan before there phase)
    (λ before. at_slot given plan.fates turn_1.number turn.number c.run_phase.new.pair.a c.run_phase.new.pair.b c.run_phase-2.new.pair.a c.run_phase-2.new.pair.b c.run_phase.new.log c.run_phase-2.new.log c.run_phase.new.next.a c.run_phase.new.next.b c.run_phase-2.new.next.a c.run_phase-2.new.next.b
    c.run_phase.new.turn.packets c.run_phase-2.new.turn.packets before c.in_ok-run_phase.ensures.same_turn.1 (c.in_ok-run_phase-2.ensures.ok given plan before (ap (λ schedule. slice_get schedule.now.turns turn_1.number) c.in_ok-run_phase.ensures.same_turn.0 ∙ ap (slice_get turn.schedule.now.turns) c.in_ok-run_phase.ensures.same_turn.1 ∙ there)))
    (λ before. at_slot given plan.fates turn_2.number turn.number c.run_phase-2.new.pair.a c.run_phase-2.new.pair.b c.run_phase-3.new.pair.a c.run_phase-3.new.pair.b c.run_phase-2.new.log c.run_phase-3.new.log c.run_phase-2.new.next.a c.run_phase-2.new.next.b c.run_phase-3.new.next.a c.run_phase-3.new.next.b
    c.run_phase-2.new.turn.packets c.run_phase-3.new.turn.packets before (c.in_ok-run_phase-2.ensures.same_turn.1 ∙ c.in_ok-run_phase.ensures.same_turn.1) (last given plan before (ap (λ schedule. slice_get schedule.now.turns turn_2.number) (c.in_ok-run_phase-2.ensures.same_turn.0 ∙ c.in_ok-run_phase.ensures.same_turn.0) ∙ ap (slice_get turn.schedule.now.turns) (c.in_ok-run_phase-2.ensures.same_turn.1 ∙ c.in_ok-run_phase.ensures.same_turn.1) ∙ there))) in
    record {
      after = run.after;
      goes_on = run.goes_on;
      holds = up_to given turn.number c.run_phase-3.new.pair.a c.run_phase-3.new.pair.b c.run_phase-3.new.log c.run_phase-3.new.next.a c.run_phase-3.new.next.b c.run_phase-3.new.turn.packets run.after run.holds;
    })
    c.run_phase-3.ensures.ok

pub returns-in_err-run_phase-clause-err : goal.returns-in_err-run_phase-clause-err
returns-in_err-run_phase-clause-err c =
    let turn = c.args.turn.now in
    handed_on c.from_residual.result _ c.in_err-run_phase.field-0.0 c.from_residual.ensures.1 (λ given plan history there phase.
    first_phase_stops given plan.fates history turn.number c.run_phase.new.log.entries c.in_err-run_phase.field-0.0
    (c.in_err-run_phase.ensures.err given plan history there
    (from_none given turn.number c.args.pair.now.a c.args.pair.now.b c.args.log.now c.args.wanted.now.a c.args.wanted.now.b turn.packets history c.requires.none phase)))

pub returns-in_err-run_phase-2-clause-err : goal.returns-in_err-run_phase-2-clause-err
returns-in_err-run_phase-2-clause-err c =
    let turn = c.args.turn.now in
    let turn_1 = c.run_phase.new.turn in
    handed_on c.from_residual-in_err-run_phase-2.result _ c.in_err-run_phase-2.field-0.0 c.from_residual-in_err-run_phase-2.ensures.1
    (λ given plan history there phase.
    second_phase_stops given plan.fates history turn.number c.run_phase-2.new.log.entries c.in_err-run_phase-2.field-0.0 _
    (c.in_ok-run_phase.ensures.ok given plan history there
    (from_none given turn.number c.args.pair.now.a c.args.pair.now.b c.args.log.now c.args.wanted.now.a c.args.wanted.now.b turn.packets history c.requires.none phase))
    (λ before. stops_at_slot given plan.fates turn_1.number turn.number c.run_phase.new.pair.a c.run_phase.new.pair.b c.run_phase.new.log c.run_phase.new.next.a c.run_phase.new.next.b c.run_phase.new.turn.packets
    c.run_phase-2.new.log.entries c.in_err-run_phase-2.field-0.0 before c.in_ok-run_phase.ensures.same_turn.1
    (c.in_err-run_phase-2.ensures.err given plan before (ap (λ schedule. slice_get schedule.now.turns turn_1.number) c.in_ok-run_phase.ensures.same_turn.0 ∙ ap (slice_get turn.schedule.now.turns) c.in_ok-run_phase.ensures.same_turn.1 ∙ there))))

pub returns-clause-err : goal.returns-clause-err
returns-clause-err c =
    let turn = c.args.turn.now in
    let turn_1 = c.run_phase.new.turn in
    let turn_2 = c.run_phase-2.new.turn in
    if_err_more c.run_phase-3.result _ _ (λ stop last given plan history there phase.
    third_phase_stops given plan.fates history turn.number c.run_phase-3.new.log.entries stop _ _
    (c.in_ok-run_phase.ensures.ok given plan history there
    (from_none given turn.number c.args.pair.now.a c.args.pair.now.b c.args.log.now c.args.wanted.now.a c.args.wanted.now.b turn.packets history c.requires.none phase))
    (λ before. at_slot given plan.fates turn_1.number turn.number c.run_phase.new.pair.a c.run_phase.new.pair.b c.run_phase-2.new.pair.a c.run_phase-2.new.pair.b c.run_phase.new.log c.run_phase-2.new.log c.run_phase.new.next.a c.run_phase.new.next.b c.run_phase-2.new.next.a c.run_phase-2.new.next.b
    c.run_phase.new.turn.packets c.run_phase-2.new.turn.packets before c.in_ok-run_phase.ensures.same_turn.1 (c.in_ok-run_phase-2.ensures.ok given plan before (ap (λ schedule. slice_get schedule.now.turns turn_1.number) c.in_ok-run_phase.ensures.same_turn.0 ∙ ap (slice_get turn.schedule.now.turns) c.in_ok-run_phase.ensures.same_turn.1 ∙ there)))
    (λ before. stops_at_slot given plan.fates turn_2.number turn.number c.run_phase-2.new.pair.a c.run_phase-2.new.pair.b c.run_phase-2.new.log c.run_phase-2.new.next.a c.run_phase-2.new.next.b c.run_phase-2.new.turn.packets
    c.run_phase-3.new.log.entries stop before (c.in_ok-run_phase-2.ensures.same_turn.1 ∙ c.in_ok-run_phase.ensures.same_turn.1)
    (last given plan before (ap (λ schedule. slice_get schedule.now.turns turn_2.number) (c.in_ok-run_phase-2.ensures.same_turn.0 ∙ c.in_ok-run_phase.ensures.same_turn.0) ∙ ap (slice_get turn.schedule.now.turns) (c.in_ok-run_phase-2.ensures.same_turn.1 ∙ c.in_ok-run_phase.ensures.same_turn.1) ∙ there))))
    c.run_phase-3.ensures.err
