-- The proof of the law `a_peer_that_begins_anew_leaves_a_pdu`.
use Rattle.table_laws.proofs.WorkedCalls.{breaks_rules, no_own, no_peer, one_is_left}
use Rattle.table_laws.proofs.rows.a_peer_that_begins_anew_leaves_a_pdu.Goals as goal

pub returns-clause-left : goal.returns-clause-left
returns-clause-left c = one_is_left

pub returns-clause-no_own : goal.returns-clause-no_own
returns-clause-no_own c = no_own

pub returns-clause-no_peer : goal.returns-clause-no_peer
returns-clause-no_peer c = no_peer

pub returns-clause-breaks_rules : goal.returns-clause-breaks_rules
returns-clause-breaks_rules c = breaks_rules
