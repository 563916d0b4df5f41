-- Proof of `delivery::the_host_receives_what_it_can_take`.
use Rattle.controller_model.proofs.Handing.{all_or_full, handed_first, no_more}
use Rattle.controller_model.proofs.HostWindow.{never_more}
use Rattle.controller_model.proofs.delivery.the_host_receives_what_it_can_take.Goals as goal

pub returns-clause-in_order : goal.returns-clause-in_order
returns-clause-in_order c = λ facts. handed_first facts.view facts.received

pub returns-clause-all_or_full : goal.returns-clause-all_or_full
returns-clause-all_or_full c = λ facts most. all_or_full facts.view facts.received most

pub returns-clause-no_more : goal.returns-clause-no_more
returns-clause-no_more c = λ facts on most. no_more facts.view facts.received on most

pub returns-clause-at_any_time : goal.returns-clause-at_any_time
returns-clause-at_any_time c = never_more
