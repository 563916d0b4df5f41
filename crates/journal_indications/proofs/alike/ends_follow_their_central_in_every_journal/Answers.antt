-- Proof of `alike::ends_follow_their_central_in_every_journal`.
use Rattle.journal_agreement.specs.journal_data.run_model.Journal.{journal_of}
use Rattle.journal_agreement.specs.journal_data.run_model.Pair.{given_of}
use Rattle.journal_agreement.specs.journal_data.run_model.Run.{history_of, run_of}
use Rattle.journal_indications.proofs.alike.ends_follow_their_central_in_every_journal.Goals as goal

pub returns : goal.returns
returns c =
    let follow = c.ends_that_take_in_order_follow_the_central.ensures in
    let read = c.peripherals_read_what_the_central_sent_last.ensures in
    let in_time = c.indications_that_are_followed_came_in_time.ensures in record {
      two_stations = λ given mixed are six follows few eight.
          follow mixed (journal_of (history_of (run_of given))) follows.front
          (λ front rest is side link. c.data_of_two_stations_arrives_in_order.ensures given mixed front rest side link are six few eight follows is)
          (read.two_stations given mixed are six follows) (in_time.two_stations given are six);
      pair = λ a b script mixed six six_too follows.
          follow mixed (journal_of (history_of (run_of (given_of a b script)))) follows.front
          (c.data_arrives_in_order_in_every_journal.ensures a b script mixed six six_too follows)
          (read.pair a b script mixed six six_too follows) (in_time.pair a b script six six_too);
    }
