-- Proof of `ends::what_is_seen_of_an_end_is_its_past`.
use Rattle.journal_acks.proofs.run_model.Stations.{contains_in}
use Rattle.journal_ends.proofs.RunSeen.{seen_at_end, seen_before_call, seen_before_packet, seen_before_turn}
use Rattle.journal_ends.proofs.ends.what_is_seen_of_an_end_is_its_past.Goals as goal

pub returns : goal.returns
returns c =
    let understood = c.a_pdu_is_understood.ensures.says in
    let taken = c.connections_are_taken.ensures.taken in
    let nth = c.searches_give_each_valid_address.ensures.valid in
    let apart = c.searches_give_each_valid_address.ensures.distinct in record {
      before_a_call = λ words given before rest step station handle link are six gives contains at is_open.
          seen_before_call words understood taken nth apart given are six gives before rest station step at (contains_in given.stations station contains) handle link is_open;
      before_a_packet = λ words given before rest sender channel octets hearings station handle link are six gives contains at is_open.
          seen_before_packet words understood taken nth apart given are six gives before rest sender channel octets hearings at station (contains_in given.stations station contains) handle link is_open;
      before_a_turn = λ words given before rest slot radios station handle link are six gives contains at is_open.
          seen_before_turn words understood taken nth apart given are six gives before rest slot radios at station (contains_in given.stations station contains) handle link is_open;
      at_the_end = λ words given station handle link are six gives contains is_open.
          seen_at_end words understood taken nth apart given are six gives station (contains_in given.stations station contains) handle link is_open;
    }
