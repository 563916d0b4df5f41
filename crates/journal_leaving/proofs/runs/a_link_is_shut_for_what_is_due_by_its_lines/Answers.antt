-- Proof of `runs::a_link_is_shut_for_what_is_due_by_its_lines`.
use Rattle.journal_controls.proofs.run_model.Stations.{contains_in}
use Rattle.journal_leaving.proofs.ShutCalls.{shut_in_call}
use Rattle.journal_leaving.proofs.runs.a_link_is_shut_for_what_is_due_by_its_lines.Goals as goal

pub returns : goal.returns
returns c =
    let whole = c.packet_tells_its_pdu.ensures.heard in
    let understood = c.a_pdu_is_understood.ensures.says in
    let taken = c.connections_are_taken.ensures.taken in
    let nth = c.searches_give_each_valid_address.ensures.valid in
    let apart = c.searches_give_each_valid_address.ensures.distinct in λ words given before rest step station handle reason are six gives contains at noted.
    shut_in_call words whole understood taken nth apart given are six gives before rest station (contains_in given.stations station contains) handle reason step at noted
