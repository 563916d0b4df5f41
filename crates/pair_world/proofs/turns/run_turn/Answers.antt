-- Proof of `turns::run_turn`.
use Rattle.run_model.specs.Pair.{plan_of}
use Rattle.run_model.specs.Run.{after_opening}
use Rattle.pair_world.proofs.Outcomes.{handed_on}
use Rattle.pair_world.proofs.WholeTurns.{turn_done, turn_stops}
use Rattle.pair_world.proofs.turns.run_turn.Goals as goal

pub returns-clause-ok : goal.returns-clause-ok
returns-clause-ok c = λ given plan history there up.
    turn_done given c.args.number plan history _ _
    (c.in_ok-run_phases.ensures.ok given plan (after_opening given c.args.number (plan_of plan) history) there
    (c.in_ok-open_turn.ensures.ok given plan history there up))
    (λ after at. c.in_ok-end_both.ensures.ok given _ after at)

pub returns-in_err-run_phases-clause-err : goal.returns-in_err-run_phases-clause-err
returns-in_err-run_phases-clause-err c =
    handed_on c.from_residual-in_err-run_phases.result _ c.in_err-run_phases.field-0.0 c.from_residual-in_err-run_phases.ensures.1
    (λ given plan history there up.
    turn_stops given c.args.number plan history c.run_phases.new.log.entries c.in_err-run_phases.field-0.0
    (c.in_err-run_phases.ensures.err given plan (after_opening given c.args.number (plan_of plan) history) there
    (c.in_ok-open_turn.ensures.ok given plan history there up)))
