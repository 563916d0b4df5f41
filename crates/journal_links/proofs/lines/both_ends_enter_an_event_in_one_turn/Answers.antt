-- Proof of `lines::both_ends_enter_an_event_in_one_turn`.
use Rattle.std.proofs.Common.{◌∷◌}
use Rattle.journal.specs.declared.entries.Entry.TheVariants.{Enter}
use Rattle.run_laws.specs.run_model.Journal.{journal_of}
use Rattle.run_laws.specs.run_model.Pair.{given_of}
use Rattle.run_laws.specs.run_model.Run.{history_of, run_of}
use Rattle.journal_links.proofs.EnterLines.{enter_in_time, in_one_turn}
use Rattle.journal_links.proofs.lines.both_ends_enter_an_event_in_one_turn.Goals as goal

pub returns-clause-turn : goal.returns-clause-turn
returns-clause-turn c = λ a b script front rest later last side other number event channel too six six_too is is_too agree.
    let in_time = enter_in_time c.a_pdu_is_understood.ensures.says c.connections_are_taken.ensures.taken a b script six six_too in
    (in_one_turn side other number event channel too (journal_of (history_of (run_of (given_of a b script)))) front later
    (Enter side number event channel ∷ rest) (Enter other number event too ∷ last) is is_too
    (in_time front rest side number event channel is) (in_time later last other number event too is_too) agree).0

pub returns-clause-channel : goal.returns-clause-channel
returns-clause-channel c = λ a b script front rest later last side other number event channel too six six_too is is_too agree.
    let in_time = enter_in_time c.a_pdu_is_understood.ensures.says c.connections_are_taken.ensures.taken a b script six six_too in
    (in_one_turn side other number event channel too (journal_of (history_of (run_of (given_of a b script)))) front later
    (Enter side number event channel ∷ rest) (Enter other number event too ∷ last) is is_too
    (in_time front rest side number event channel is) (in_time later last other number event too is_too) agree).1
