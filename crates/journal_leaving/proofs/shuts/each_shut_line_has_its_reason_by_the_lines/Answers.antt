-- Proof of `shuts::each_shut_line_has_its_reason_by_the_lines`.
use Rattle.journal_leaving.proofs.ShutLines.{line_shut_as}
use Rattle.journal_leaving.proofs.shuts.each_shut_line_has_its_reason_by_the_lines.Goals as goal

pub returns : goal.returns
returns c = λ words given are six gives front rest side number reason is.
    line_shut_as words c.packet_tells_its_pdu.ensures.heard c.a_pdu_is_understood.ensures.says c.connections_are_taken.ensures.taken c.searches_give_each_valid_address.ensures.valid
    c.searches_give_each_valid_address.ensures.distinct given are six gives front rest side number reason is
