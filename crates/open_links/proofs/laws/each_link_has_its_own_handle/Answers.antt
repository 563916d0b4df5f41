-- Answers of `laws::each_link_has_its_own_handle`.
use Rattle.open_links.specs.OpenLinks.{link_after_in_event}
use Rattle.open_links.specs.Turns.{link_entered}
use Rattle.open_links.proofs.Ends.{stay_with_handles}
use Rattle.open_links.proofs.Handles.{changed_have}
use Rattle.open_links.proofs.Steps.{mapped_handles, reported_handles}
use Rattle.open_links.proofs.Unmoved.{entered_setup, in_event_setup}
use Rattle.open_links.proofs.laws.each_link_has_its_own_handle.Goals as goal

pub returns-clause-changing : goal.returns-clause-changing
returns-clause-changing c = changed_have

pub returns-clause-exchanging : goal.returns-clause-exchanging
returns-clause-exchanging c = λ handle step links have. changed_have handle (link_after_in_event step) links (in_event_setup step) have

pub returns-clause-entering : goal.returns-clause-entering
returns-clause-entering c = λ slot handle links have. changed_have handle (link_entered slot) links (entered_setup slot) have

pub returns-clause-ending : goal.returns-clause-ending
returns-clause-ending c = λ reason links have. stay_with_handles reason 0 links have

pub returns-clause-asking : goal.returns-clause-asking
returns-clause-asking c = λ map links have. mapped_handles map 0 links have

pub returns-clause-reporting : goal.returns-clause-reporting
returns-clause-reporting c = λ links have. reported_handles 0 links have
