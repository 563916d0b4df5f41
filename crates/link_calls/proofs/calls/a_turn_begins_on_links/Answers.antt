-- Proof of `calls::a_turn_begins_on_links`.
use Rattle.link_calls.proofs.LinkCalls.{turn_begun_under}
use Rattle.link_calls.proofs.calls.a_turn_begins_on_links.Goals as goal

pub returns : goal.returns
returns c = turn_begun_under
