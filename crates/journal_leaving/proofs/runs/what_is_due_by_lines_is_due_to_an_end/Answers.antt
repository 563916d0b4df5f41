-- Proof of `runs::what_is_due_by_lines_is_due_to_an_end`.
use Rattle.journal_controls.proofs.run_model.Stations.{contains_in}
use Rattle.journal_leaving.proofs.RunLeavings.{due_before_call, ending_before_call}
use Rattle.journal_leaving.proofs.runs.what_is_due_by_lines_is_due_to_an_end.Goals as goal

pub returns : goal.returns
returns c =
    let whole = c.packet_tells_its_pdu.ensures.heard in
    let understood = c.a_pdu_is_understood.ensures.says in
    let taken = c.connections_are_taken.ensures.taken in
    let nth = c.searches_give_each_valid_address.ensures.valid in
    let apart = c.searches_give_each_valid_address.ensures.distinct in record {
      begins = λ words given before rest slot on station handle link are six gives contains at is_open.
          due_before_call words whole understood taken nth apart given are six gives before rest station slot on at (contains_in given.stations station contains) handle link is_open;
      ends = λ words given before rest station handle link are six gives contains at is_open.
          ending_before_call words whole understood taken nth apart given are six gives before rest station at (contains_in given.stations station contains) handle link is_open;
    }
