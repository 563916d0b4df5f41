-- The proof of the law `outside_clear_and_secure_only_encryption_runs`.
use Rattle.table_laws.proofs.Quiet.{begins_none_after, first_after, own_after, peer_after}
use Rattle.table_laws.proofs.laws.outside_clear_and_secure_only_encryption_runs.Goals as goal

pub returns-clause-own : goal.returns-clause-own
returns-clause-own c = own_after

pub returns-clause-peer : goal.returns-clause-peer
returns-clause-peer c = peer_after

pub returns-clause-first : goal.returns-clause-first
returns-clause-first c = first_after

pub returns-clause-begins : goal.returns-clause-begins
returns-clause-begins c = begins_none_after
