-- Proof of `turns::begin_both`.
use Rattle.pair_world.proofs.Outcomes.{on_ok_two}
use Rattle.pair_world.proofs.WholeTurns.{both_begun, there_is}
use Rattle.pair_world.proofs.turns.begin_both.Goals as goal

pub returns-clause-ok : goal.returns-clause-ok
returns-clause-ok c =
    on_ok_two c.write_notes-2.result _ _ _ (λ log_is written_is given plan history there fed.
    both_begun c.notes_name_links_of_the_controller.ensures.step given c.args.number c.from.result plan c.a_on.result c.b_on.result history
    c.args.pair.now.a c.begin.new.self c.write_notes.new.self c.args.pair.now.b c.begin-2.new.self c.write_notes-2.new.self
    c.args.log.now c.write_notes.new.log c.write_notes-2.new.log c.begin.new.out.items c.begin-2.new.out.items c.begin.new.wanted c.begin-2.new.wanted fed
    c.from.ensures (there_is _ plan _ there c.a_on.ensures) (there_is _ plan _ there c.b_on.ensures)
    (record { took = c.begin.ensures.took; log_is = c.in_ok-write_notes.ensures.log; written_is = c.in_ok-write_notes.ensures.links })
    (record { took = c.begin-2.ensures.took; log_is = log_is; written_is = written_is })
    c.begin.ensures.wants c.begin-2.ensures.wants)
    c.write_notes-2.ensures.log c.write_notes-2.ensures.links
