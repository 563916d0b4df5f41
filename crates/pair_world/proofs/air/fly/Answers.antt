-- Proof of `air::fly`.
use Rattle.ble_base.specs.Side.{other_side}
use Rattle.radio_replay.specs.Script.{fate_of}
use Rattle.run_model.specs.History.{past_of}
use Rattle.run_model.specs.Run.{setup_at}
use Rattle.pair_world.specs.Stations.{number_of}
use Rattle.pair_world.proofs.Flying.{flies, flies_not, flight_stops}
use Rattle.pair_world.proofs.Outcomes.{if_err_two, if_ok_two}
use Rattle.pair_world.proofs.air.fly.Goals as goal

pub returns-in-Some-clause-ok : goal.returns-in-Some-clause-ok
returns-in-Some-clause-ok c =
    let side = c.args.side in
    let other = number_of (other_side side) in
    let wants = c.in-Some.ensures.some in
    if_ok_two c.send.result _ _ _ (λ verdict sent count given plan history there air.
    flies given plan.fates c.args.turn.now.number history side c.args.sender.now c.args.listener.now c.send.new.sender c.send.new.listener
    c.args.log.now c.send.new.log c.args.wanted.now c.args.listens.now c.in-Some.channel c.in-Some.octets.now
    c.args.turn.now.packets c.send.new.turn.packets verdict air wants
    (sent plan (setup_at given other) (past_of other history) there air.keeps_listener.knows air.wants_listener)
    count)
    c.send.ensures.ok c.send.ensures.count

pub returns-in-Some-clause-err : goal.returns-in-Some-clause-err
returns-in-Some-clause-err c =
    let side = c.args.side in
    let other = number_of (other_side side) in
    let wants = c.in-Some.ensures.some in
    if_err_two c.send.result _ _ _ (λ stop unseen same given plan history there air.
    flight_stops given plan.fates c.args.turn.now.number history side c.args.sender.now c.args.listener.now c.args.log.now
    c.args.wanted.now c.args.listens.now c.in-Some.channel c.in-Some.octets.now c.args.turn.now.packets c.send.new.log.entries stop air wants
    (unseen plan (setup_at given other) (past_of other history) there air.keeps_listener.knows air.wants_listener) same)
    c.send.ensures.err c.send.ensures.same

pub returns-in-None-clause-ok : goal.returns-in-None-clause-ok
returns-in-None-clause-ok c = λ given plan history there air.
    flies_not given plan.fates c.args.turn.now.number history c.args.side c.args.sender.now c.args.listener.now c.args.log.now
    c.args.wanted.now c.args.listens.now c.args.turn.now.packets (fate_of plan c.args.turn.now.packets) air c.in-None.ensures.none
