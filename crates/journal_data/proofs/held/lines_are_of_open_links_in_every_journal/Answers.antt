-- Proof of `held::lines_are_of_open_links_in_every_journal`.
use Rattle.journal_data.proofs.HeldInRuns.{lines_held}
use Rattle.journal_data.proofs.held.lines_are_of_open_links_in_every_journal.Goals as goal

pub returns : goal.returns
returns c =
    lines_held c.packet_tells_its_pdu.ensures.heard c.a_pdu_is_understood.ensures.says c.connections_are_taken.ensures.taken c.searches_give_each_valid_address.ensures.valid
    c.searches_give_each_valid_address.ensures.distinct
