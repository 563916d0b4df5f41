-- Proof of `told_more::each_packet_tells_what_waits_by_the_lines`.
use Rattle.journal_controls.proofs.run_model.Stations.{contains_in}
use Rattle.journal_fixing.proofs.ToldMore.{again_tells, new_tells}
use Rattle.journal_fixing.proofs.told_more.each_packet_tells_what_waits_by_the_lines.Goals as goal

pub returns : goal.returns
returns c =
    let whole = c.packet_tells_its_pdu.ensures.heard in
    let understood = c.a_pdu_is_understood.ensures.says in
    let taken = c.connections_are_taken.ensures.taken in
    let nth = c.searches_give_each_valid_address.ensures.valid in
    let apart = c.searches_give_each_valid_address.ensures.distinct in record {
      new = λ words given before rest station channel octets hearings sent fixing are six gives contains at fixes acked.
          new_tells words whole understood taken nth apart given are six gives before rest station channel octets hearings (contains_in given.stations station contains) at sent fixing fixes acked;
      again = λ words given before rest station channel octets hearings sent fixing are six gives contains at fixes unacked.
          again_tells words whole understood taken nth apart given are six gives before rest station channel octets hearings (contains_in given.stations station contains) at sent fixing fixes unacked;
    }
