-- Proof of `laws::entries_are_in_order`.
use Rattle.run_model.proofs.Fates.{pair_fed_first}
use Rattle.run_model.proofs.Ordered.{pair_in_order}
use Rattle.run_model.proofs.laws.entries_are_in_order.Goals as goal

pub returns-clause-order : goal.returns-clause-order
returns-clause-order c = pair_in_order

pub returns-clause-feeds_first : goal.returns-clause-feeds_first
returns-clause-feeds_first c = pair_fed_first
