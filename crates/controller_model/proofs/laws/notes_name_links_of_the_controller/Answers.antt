-- Proof of `laws::notes_name_links_of_the_controller`.
use Rattle.controller_model.proofs.NotedLinks.{past_names_links, step_names_links}
use Rattle.controller_model.proofs.laws.notes_name_links_of_the_controller.Goals as goal

pub returns-clause-step : goal.returns-clause-step
returns-clause-step c = step_names_links

pub returns-clause-all : goal.returns-clause-all
returns-clause-all c = past_names_links
