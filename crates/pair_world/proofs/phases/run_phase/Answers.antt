-- Proof of `phases::run_phase`.
use Rattle.run_model.specs.History.{is_handed}
use Rattle.pair_world.specs.Wishes.{heard_of}
use Rattle.pair_world.proofs.BothCalled.{both_listened}
use Rattle.pair_world.proofs.Outcomes.{handed_on}
use Rattle.pair_world.proofs.ThreePhases.{phase_done, phase_stops}
use Rattle.pair_world.proofs.phases.run_phase.Goals as goal

pub returns-clause-ok : goal.returns-clause-ok
returns-clause-ok c = λ given plan history there phase.
    let received = c.in_ok-received.received in
    let wanted = c.transmit.new.wanted in
    phase_done given plan.fates history _ _ (c.in_ok-received.ensures.ok given plan history there phase) (λ after heard.
    both_listened c.notes_name_links_of_the_controller.ensures.step given c.args.turn.now.number after
    c.transmit.new.pair.a c.listen.new.self c.write_notes.new.self c.transmit.new.pair.b c.listen-2.new.self c.write_notes-2.new.self
    c.transmit.new.log c.write_notes.new.log c.write_notes-2.new.log c.listen.new.out.items c.listen-2.new.out.items c.listen.new.wanted c.listen-2.new.wanted
    c.transmit.new.turn.packets (heard_of (is_handed received.a) wanted.b) (heard_of (is_handed received.b) wanted.a) heard
    (record {
      took = rw c.heard.ensures at c.listen.ensures.took;
      log_is = c.in_ok-write_notes.ensures.log;
      written_is = c.in_ok-write_notes.ensures.links;
    })
    (record {
      took = rw c.heard-2.ensures at c.listen-2.ensures.took;
      log_is = c.in_ok-write_notes-2.ensures.log;
      written_is = c.in_ok-write_notes-2.ensures.links;
    })
    (rw c.heard.ensures at c.listen.ensures.wants) (rw c.heard-2.ensures at c.listen-2.ensures.wants))

pub returns-in_err-received-clause-err : goal.returns-in_err-received-clause-err
returns-in_err-received-clause-err c =
    handed_on c.from_residual.result _ c.in_err-received.field-0.0 c.from_residual.ensures.1 (λ given plan history there phase.
    phase_stops given plan.fates history c.args.turn.now.number c.transmit.new.log.entries c.in_err-received.field-0.0
    (c.in_err-received.ensures.err given plan history there phase))
