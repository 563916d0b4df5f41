-- Proof of `ends::a_sending_moves_the_control_part_by_its_lines`.
use Rattle.journal_controls.proofs.EndSteps.{central_sends, peripheral_sends}
use Rattle.journal_controls.proofs.ends.a_sending_moves_the_control_part_by_its_lines.Goals as goal

pub returns : goal.returns
returns c = record {
  central = λ side number slot response setup past central. central_sends side number response slot setup past central;
  peripheral = λ side number slot slot_heard response octets pdu room setup facts role good.
      peripheral_sends side number response slot slot_heard octets pdu room setup facts role good;
}
