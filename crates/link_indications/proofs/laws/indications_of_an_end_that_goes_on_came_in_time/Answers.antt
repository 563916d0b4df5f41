-- Proof of `laws::indications_of_an_end_that_goes_on_came_in_time`.
use Rattle.link_indications.proofs.Steps.{came_in_time}
use Rattle.link_indications.proofs.laws.indications_of_an_end_that_goes_on_came_in_time.Goals as goal

pub returns : goal.returns
returns c = came_in_time
