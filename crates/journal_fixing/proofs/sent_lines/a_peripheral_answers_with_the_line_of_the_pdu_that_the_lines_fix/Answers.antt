-- Proof of `sent_lines::a_peripheral_answers_with_the_line_of_the_pdu_that_the_lines_fix`.
use Rattle.journal_controls.proofs.run_model.Stations.{contains_in}
use Rattle.journal_fixing.proofs.AnsweredLines.{fixing_in_answer, pdu_in_answer}
use Rattle.journal_fixing.proofs.sent_lines.a_peripheral_answers_with_the_line_of_the_pdu_that_the_lines_fix.Goals as goal

pub returns : goal.returns
returns c =
    let whole = c.packet_tells_its_pdu.ensures.heard in
    let understood = c.a_pdu_is_understood.ensures.says in
    let taken = c.connections_are_taken.ensures.taken in
    let nth = c.searches_give_each_valid_address.ensures.valid in
    let apart = c.searches_give_each_valid_address.ensures.distinct in record {
      fixing = λ words given before rest octets station handle count llid body earlier later link are six gives contains at notes is_open.
          fixing_in_answer words whole understood taken nth apart given are six gives before rest octets station handle count llid body earlier later link (contains_in given.stations station contains) at notes is_open;
      pdu = λ words given before rest octets station handle count llid body earlier later link fixing going are six gives contains at notes is_open fixes goes.
          pdu_in_answer words whole understood taken nth apart given are six gives before rest octets station handle count llid body earlier later link (contains_in given.stations station contains) at notes is_open
          fixing going fixes goes;
    }
