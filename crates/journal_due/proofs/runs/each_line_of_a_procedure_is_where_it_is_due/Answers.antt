-- Proof of `runs::each_line_of_a_procedure_is_where_it_is_due`.
use Rattle.journal_due.proofs.ControlsKnown.{controls_known}
use Rattle.journal_due.proofs.RunDue.{indications_due, none_at_end, none_before_turns, none_left_out, procedures_due}
use Rattle.journal_due.proofs.runs.each_line_of_a_procedure_is_where_it_is_due.Goals as goal

pub returns : goal.returns
returns c =
    let whole = c.packet_tells_its_pdu.ensures.heard in
    let understood = c.a_pdu_is_understood.ensures.says in
    let taken = c.connections_are_taken.ensures.taken in
    let nth = c.searches_give_each_valid_address.ensures.valid in
    let apart = c.searches_give_each_valid_address.ensures.distinct in record {
      procedures = λ words given are six gives. procedures_due words whole understood taken nth apart given are six gives (controls_known words whole understood taken nth apart given are six gives);
      indications = λ words given are six gives. indications_due words whole understood taken nth apart given are six gives (controls_known words whole understood taken nth apart given are six gives);
      none_left_out = λ words given are six gives. none_left_out words whole understood taken nth apart given are six gives (controls_known words whole understood taken nth apart given are six gives);
      before_a_turn = λ words given before rest slot radios are six gives at.
          none_before_turns words whole understood taken nth apart given are six gives (controls_known words whole understood taken nth apart given are six gives) before rest slot radios at;
      at_the_end = λ words given are six gives. none_at_end words whole understood taken nth apart given are six gives (controls_known words whole understood taken nth apart given are six gives);
    }
