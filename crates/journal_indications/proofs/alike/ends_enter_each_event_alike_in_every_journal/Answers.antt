-- Proof of `alike::ends_enter_each_event_alike_in_every_journal`.
use Rattle.journal_agreement.specs.journal_data.run_model.Journal.{journal_of}
use Rattle.journal_agreement.specs.journal_data.run_model.Pair.{given_of}
use Rattle.journal_agreement.specs.journal_data.run_model.Run.{history_of, run_of}
use Rattle.journal_agreement.proofs.journal_data.journal_links.EnterLines.{enter_in_time}
use Rattle.journal_indications.proofs.alike.ends_enter_each_event_alike_in_every_journal.Goals as goal

pub returns : goal.returns
returns c = λ a b script mixed six six_too follows.
    c.ends_that_follow_the_central_enter_alike.ensures mixed (journal_of (history_of (run_of (given_of a b script))))
    (enter_in_time c.a_pdu_is_understood.ensures.says c.connections_are_taken.ensures.taken a b script six six_too)
    (c.ends_follow_their_central_in_every_journal.ensures.pair a b script mixed six six_too follows)
