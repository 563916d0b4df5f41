-- Proof of `lines::each_opened_line_names_its_link`.
use Rattle.journal_links.proofs.OpenedLines.{opened_in_time}
use Rattle.journal_links.proofs.lines.each_opened_line_names_its_link.Goals as goal

pub returns : goal.returns
returns c = λ a b script front rest side number handle role six six_too is.
    opened_in_time c.a_pdu_is_understood.ensures.says c.connections_are_taken.ensures.taken a b script six six_too front rest side number handle role is
