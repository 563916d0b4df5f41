-- Proof of `runs::no_open_end_is_leaving_between_turns`.
use Rattle.journal_controls.proofs.run_model.Stations.{contains_in}
use Rattle.journal_leaving.proofs.RunLeavings.{none_leaves_at_end, none_leaves_before_turn}
use Rattle.journal_leaving.proofs.runs.no_open_end_is_leaving_between_turns.Goals as goal

pub returns : goal.returns
returns c =
    let whole = c.packet_tells_its_pdu.ensures.heard in
    let understood = c.a_pdu_is_understood.ensures.says in
    let taken = c.connections_are_taken.ensures.taken in
    let nth = c.searches_give_each_valid_address.ensures.valid in
    let apart = c.searches_give_each_valid_address.ensures.distinct in record {
      before_a_turn = λ words given before rest slot radios station handle link are six gives contains at is_open.
          none_leaves_before_turn words whole understood taken nth apart given are six gives before rest slot radios at station (contains_in given.stations station contains) handle link is_open;
      at_the_end = λ words given history station handle link are six gives contains goes is_open.
          none_leaves_at_end words whole understood taken nth apart given are six gives history goes station (contains_in given.stations station contains) handle link is_open;
    }
