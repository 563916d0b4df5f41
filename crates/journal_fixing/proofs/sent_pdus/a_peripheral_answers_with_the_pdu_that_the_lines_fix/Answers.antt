-- Proof of `sent_pdus::a_peripheral_answers_with_the_pdu_that_the_lines_fix`.
use Rattle.journal_controls.proofs.run_model.Stations.{contains_in}
use Rattle.journal_fixing.proofs.SentPdus.{answer_again_by_lines, answer_by_lines, answer_more_by_lines}
use Rattle.journal_fixing.proofs.sent_pdus.a_peripheral_answers_with_the_pdu_that_the_lines_fix.Goals as goal

pub returns : goal.returns
returns c =
    let whole = c.packet_tells_its_pdu.ensures.heard in
    let understood = c.a_pdu_is_understood.ensures.says in
    let taken = c.connections_are_taken.ensures.taken in
    let nth = c.searches_give_each_valid_address.ensures.valid in
    let apart = c.searches_give_each_valid_address.ensures.distinct in record {
      pdu = λ words given before rest octets pdu notes station handle link fixing going slot room are six gives contains at is_open on role good fixes goes acked.
          answer_by_lines words whole understood taken nth apart given are six gives before rest octets pdu notes station handle link (contains_in given.stations station contains) at is_open on role good
          fixing fixes slot room going goes acked;
      more = λ words given before rest octets pdu notes station handle link fixing slot room are six gives contains at is_open on role good fixes acked.
          answer_more_by_lines words whole understood taken nth apart given are six gives before rest octets pdu notes station handle link (contains_in given.stations station contains) at is_open on role good
          fixing fixes slot room acked;
      again = λ words given before rest octets pdu notes station handle link fixing slot room are six gives contains at is_open on role good fixes unacked.
          answer_again_by_lines words whole understood taken nth apart given are six gives before rest octets pdu notes station handle link (contains_in given.stations station contains) at is_open on role good
          fixing fixes slot room unacked;
    }
