-- Proof of `turns::end_both`.
use Rattle.pair_world.proofs.Outcomes.{on_ok_two}
use Rattle.pair_world.proofs.WholeTurns.{both_ended}
use Rattle.pair_world.proofs.turns.end_both.Goals as goal

pub returns-clause-ok : goal.returns-clause-ok
returns-clause-ok c =
    on_ok_two c.write_notes-2.result _ _ _ (λ log_is written_is given turns history up.
    both_ended c.notes_name_links_of_the_controller.ensures.step given turns history
    c.args.pair.now.a c.end.new.self c.write_notes.new.self c.args.pair.now.b c.end-2.new.self c.write_notes-2.new.self
    c.args.log.now c.write_notes.new.log c.write_notes-2.new.log c.end.new.out.items c.end-2.new.out.items up
    (record { took = c.end.ensures.took; log_is = c.in_ok-write_notes.ensures.log; written_is = c.in_ok-write_notes.ensures.links })
    (record { took = c.end-2.ensures.took; log_is = log_is; written_is = written_is }))
    c.write_notes-2.ensures.log c.write_notes-2.ensures.links
