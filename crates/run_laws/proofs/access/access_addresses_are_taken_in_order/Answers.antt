-- Proof of `access::access_addresses_are_taken_in_order`.
use Rattle.run_laws.proofs.DistinctAccess.{sent_distinct, sent_in_order}
use Rattle.run_laws.proofs.access.access_addresses_are_taken_in_order.Goals as goal

pub returns-clause-in_order : goal.returns-clause-in_order
returns-clause-in_order c = sent_in_order c.a_pdu_is_understood.ensures.says

pub returns-clause-distinct : goal.returns-clause-distinct
returns-clause-distinct c = sent_distinct c.a_pdu_is_understood.ensures.says c.searches_give_each_valid_address.ensures.distinct
