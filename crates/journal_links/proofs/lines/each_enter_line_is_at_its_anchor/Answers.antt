-- Proof of `lines::each_enter_line_is_at_its_anchor`.
use Rattle.journal_links.proofs.EnterLines.{enter_in_time}
use Rattle.journal_links.proofs.lines.each_enter_line_is_at_its_anchor.Goals as goal

pub returns : goal.returns
returns c = λ a b script front rest side number event channel six six_too is.
    enter_in_time c.a_pdu_is_understood.ensures.says c.connections_are_taken.ensures.taken a b script six six_too front rest side number event channel is
