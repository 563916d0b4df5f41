-- Proof of `laws::a_controller_opens_links_as_it_may`.
use Rattle.controller_model.proofs.AccessAddresses.{initiators_have_addresses, knows_address}
use Rattle.controller_model.proofs.Answering.{link_is_made}
use Rattle.controller_model.proofs.FreeHandles.{initiators_have_handles}
use Rattle.controller_model.proofs.Handles.{new_handle}
use Rattle.controller_model.proofs.Requests.{asks_in_range}
use Rattle.controller_model.proofs.laws.a_controller_opens_links_as_it_may.Goals as goal

pub returns-clause-new : goal.returns-clause-new
returns-clause-new c = new_handle

pub returns-clause-in_range : goal.returns-clause-in_range
returns-clause-in_range c = asks_in_range

pub returns-clause-handle : goal.returns-clause-handle
returns-clause-handle c = initiators_have_handles

pub returns-clause-known : goal.returns-clause-known
returns-clause-known c = knows_address

pub returns-clause-address : goal.returns-clause-address
returns-clause-address c = initiators_have_addresses

pub returns-clause-answers : goal.returns-clause-answers
returns-clause-answers c = link_is_made
