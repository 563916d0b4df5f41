-- Proof of `delivery::data_is_handed_up_in_order`.
use Rattle.controller_model.proofs.DataBooks.{all_is_handed, data_is_handed}
use Rattle.controller_model.proofs.delivery.data_is_handed_up_in_order.Goals as goal

pub returns-clause-at_any_time : goal.returns-clause-at_any_time
returns-clause-at_any_time c = data_is_handed

pub returns-clause-between_turns : goal.returns-clause-between_turns
returns-clause-between_turns c = all_is_handed
