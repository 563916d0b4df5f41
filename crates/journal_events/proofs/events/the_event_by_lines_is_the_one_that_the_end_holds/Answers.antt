-- Proof of `events::the_event_by_lines_is_the_one_that_the_end_holds`.
use Rattle.journal_sending.proofs.journal_leaving.run_model.Stations.{contains_in}
use Rattle.journal_events.proofs.RunEvents.{event_at_end, event_before_call, event_before_turn}
use Rattle.journal_events.proofs.events.the_event_by_lines_is_the_one_that_the_end_holds.Goals as goal

pub returns : goal.returns
returns c =
    let whole = c.packet_tells_its_pdu.ensures.heard in
    let understood = c.a_pdu_is_understood.ensures.says in
    let taken = c.connections_are_taken.ensures.taken in
    let nth = c.searches_give_each_valid_address.ensures.valid in
    let apart = c.searches_give_each_valid_address.ensures.distinct in record {
      before_a_call = λ words given before rest step station handle link are six gives contains at is_open.
          event_before_call words whole understood taken nth apart given are six gives before rest station step at (contains_in given.stations station contains) handle link is_open;
      before_a_turn = λ words given before rest slot radios station handle link are six gives contains at is_open.
          event_before_turn words whole understood taken nth apart given are six gives before rest slot radios at station (contains_in given.stations station contains) handle link is_open;
      at_the_end = λ words given history station handle link are six gives contains goes is_open.
          event_at_end words whole understood taken nth apart given are six gives history goes station (contains_in given.stations station contains) handle link is_open;
    }
