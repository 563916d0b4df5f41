-- The proof of the law `a_disconnect_is_sent_after_rejections`.
use Rattle.table_laws.proofs.LastPdus.{alone, nothing_after, order}
use Rattle.table_laws.proofs.laws.a_disconnect_is_sent_after_rejections.Goals as goal

pub returns-clause-order : goal.returns-clause-order
returns-clause-order c = order

pub returns-clause-alone : goal.returns-clause-alone
returns-clause-alone c = alone

pub returns-clause-nothing_after : goal.returns-clause-nothing_after
returns-clause-nothing_after c = nothing_after
