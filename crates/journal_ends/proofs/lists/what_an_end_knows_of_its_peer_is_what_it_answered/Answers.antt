-- Proof of `lists::what_an_end_knows_of_its_peer_is_what_it_answered`.
use Rattle.journal_ends.proofs.PeersKnown.{end_knows}
use Rattle.journal_ends.proofs.lists.what_an_end_knows_of_its_peer_is_what_it_answered.Goals as goal

pub returns : goal.returns
returns c = end_knows
