-- Proof of `stays::links_end_in_time_by_the_lines`.
use Rattle.journal_leaving.proofs.EndInTime.{end_in_time, stay_open_at_end}
use Rattle.journal_leaving.proofs.stays.links_end_in_time_by_the_lines.Goals as goal

pub returns : goal.returns
returns c =
    let whole = c.packet_tells_its_pdu.ensures.heard in
    let understood = c.a_pdu_is_understood.ensures.says in
    let taken = c.connections_are_taken.ensures.taken in
    let nth = c.searches_give_each_valid_address.ensures.valid in
    let apart = c.searches_give_each_valid_address.ensures.distinct in record {
      in_time = λ words given are six gives. end_in_time words whole understood taken nth apart given are six gives;
      at_the_end = λ words given history are six gives goes. stay_open_at_end words whole understood taken nth apart given are six gives history goes;
    }
