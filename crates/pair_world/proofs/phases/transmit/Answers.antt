-- Proof of `phases::transmit`.
use Rattle.std.proofs.Common.{ap, ◌∙◌}
use Rattle.std.specs.Prelude.{slice_get}
use Rattle.radio_replay.specs.Script.{fate_of}
use Rattle.pair_world.proofs.Outcomes.{handed_on}
use Rattle.pair_world.proofs.Transmitting.{both_flown, first_stops, second_stops}
use Rattle.pair_world.proofs.phases.transmit.Goals as goal

pub returns-clause-ok : goal.returns-clause-ok
returns-clause-ok c = λ given plan history there phase.
    let turn = c.args.turn.now in
    let wanted = c.args.wanted.now in
    let first = c.in_ok-b.ensures.ok given plan history there phase.air in
    let still = ap (λ schedule. slice_get schedule.now.turns c.fly-2.new.turn.number) (c.in_ok-a.ensures.same_turn.0 ∙ c.in_ok-b.ensures.same_turn.0)
    ∙ ap (slice_get turn.schedule.now.turns) (c.in_ok-a.ensures.same_turn.1 ∙ c.in_ok-b.ensures.same_turn.1) ∙ there in
    both_flown given plan.fates turn.number c.fly.new.turn.number history c.args.pair.now.a c.args.pair.now.b c.fly.new.sender c.fly.new.listener
    c.fly-2.new.listener c.fly-2.new.sender c.args.log.now c.fly.new.log c.fly-2.new.log wanted.a wanted.b
    c.hand_on.new.wanted c.hand_on-2.new.wanted turn.packets c.fly.new.turn.packets c.fly-2.new.turn.packets
    (fate_of plan turn.packets) (fate_of plan c.fly.new.turn.packets) c.in_ok-b.b c.in_ok-a.a phase first c.in_ok-b.ensures.same_turn.1
    (λ after air. c.in_ok-a.ensures.ok given plan after
    (ap (λ schedule. slice_get schedule.now.turns c.fly.new.turn.number) c.in_ok-b.ensures.same_turn.0
    ∙ ap (slice_get turn.schedule.now.turns) c.in_ok-b.ensures.same_turn.1 ∙ there) air)
    (c.hand_on.ensures plan still) (c.hand_on-2.ensures plan still)

pub returns-in_err-b-clause-err : goal.returns-in_err-b-clause-err
returns-in_err-b-clause-err c =
    handed_on c.from_residual.result _ c.in_err-b.field-0.0 c.from_residual.ensures.1 (λ given plan history there phase.
    first_stops given plan.fates c.args.turn.now.number history c.args.pair.now.a c.args.pair.now.b c.args.log.now c.args.wanted.now.a c.args.wanted.now.b
    c.args.turn.now.packets c.fly.new.log.entries c.in_err-b.field-0.0 phase (λ air. c.in_err-b.ensures.err given plan history there air))

pub returns-in_err-a-clause-err : goal.returns-in_err-a-clause-err
returns-in_err-a-clause-err c =
    let turn = c.args.turn.now in
    let wanted = c.args.wanted.now in
    handed_on c.from_residual-in_err-a.result _ c.in_err-a.field-0.0 c.from_residual-in_err-a.ensures.1 (λ given plan history there phase.
    second_stops given plan.fates turn.number c.fly.new.turn.number history c.args.pair.now.a c.args.pair.now.b c.fly.new.sender c.fly.new.listener
    c.args.log.now c.fly.new.log wanted.a wanted.b turn.packets c.fly.new.turn.packets _ c.in_ok-b.b c.fly-2.new.log.entries c.in_err-a.field-0.0 phase
    (c.in_ok-b.ensures.ok given plan history there phase.air) c.in_ok-b.ensures.same_turn.1
    (λ after air. c.in_err-a.ensures.err given plan after
    (ap (λ schedule. slice_get schedule.now.turns c.fly.new.turn.number) c.in_ok-b.ensures.same_turn.0
    ∙ ap (slice_get turn.schedule.now.turns) c.in_ok-b.ensures.same_turn.1 ∙ there) air))
