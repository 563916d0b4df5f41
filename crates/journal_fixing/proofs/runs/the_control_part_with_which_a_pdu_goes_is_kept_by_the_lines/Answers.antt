-- Proof of `runs::the_control_part_with_which_a_pdu_goes_is_kept_by_the_lines`.
use Rattle.journal_controls.proofs.run_model.Stations.{contains_in}
use Rattle.journal_fixing.proofs.RunGoing.{going_in_call, silent_in_call}
use Rattle.journal_fixing.proofs.runs.the_control_part_with_which_a_pdu_goes_is_kept_by_the_lines.Goals as goal

pub returns : goal.returns
returns c =
    let whole = c.packet_tells_its_pdu.ensures.heard in
    let understood = c.a_pdu_is_understood.ensures.says in
    let taken = c.connections_are_taken.ensures.taken in
    let nth = c.searches_give_each_valid_address.ensures.valid in
    let apart = c.searches_give_each_valid_address.ensures.distinct in record {
      heard = λ words given before rest octets pdu notes station handle link are six gives contains at is_open on good.
          going_in_call words whole understood taken nth apart given are six gives before rest octets pdu notes station handle link (contains_in given.stations station contains) at is_open on good;
      begins = λ words given before rest slot on notes station number side are six gives at.
          silent_in_call words whole understood taken nth apart given are six gives before rest slot on notes station side number at;
    }
