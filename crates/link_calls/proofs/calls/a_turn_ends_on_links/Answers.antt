-- Proof of `calls::a_turn_ends_on_links`.
use Rattle.link_calls.proofs.UnderHandles.{ended_place, ended_under, reported_ends}
use Rattle.link_calls.proofs.calls.a_turn_ends_on_links.Goals as goal

pub returns-clause-open : goal.returns-clause-open
returns-clause-open c = ended_under

pub returns-clause-place : goal.returns-clause-place
returns-clause-place c = ended_place

pub returns-clause-reported : goal.returns-clause-reported
returns-clause-reported c = reported_ends
