-- Proof of `known::a_view_knows_each_open_end`.
use Rattle.known_ends.proofs.EndsKnown.{end_known, ends_known}
use Rattle.known_ends.proofs.known.a_view_knows_each_open_end.Goals as goal

pub returns-clause-each : goal.returns-clause-each
returns-clause-each c = end_known

pub returns-clause-all : goal.returns-clause-all
returns-clause-all c = ends_known
