-- Proof of `ends::a_good_packet_moves_the_control_part_by_its_lines`.
use Rattle.journal_controls.proofs.EndSteps.{packet_moves}
use Rattle.journal_controls.proofs.ends.a_good_packet_moves_the_control_part_by_its_lines.Goals as goal

pub returns : goal.returns
returns c = λ side number slot octets pdu room setup facts before after last. packet_moves side number slot room setup facts before after last octets pdu
