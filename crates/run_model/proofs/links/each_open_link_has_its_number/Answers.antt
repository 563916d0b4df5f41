-- Proof of `links::each_open_link_has_its_number`.
use Rattle.run_model.proofs.Numbers.{numbered_at, numbered_last}
use Rattle.run_model.proofs.links.each_open_link_has_its_number.Goals as goal

pub returns-clause-place : goal.returns-clause-place
returns-clause-place c = numbered_at c.a_pdu_is_understood.ensures.says c.connections_are_taken.ensures.taken

pub returns-clause-last : goal.returns-clause-last
returns-clause-last c = numbered_last c.a_pdu_is_understood.ensures.says c.connections_are_taken.ensures.taken
