-- Proof of `laws::an_end_that_took_a_termination_is_over`.
use Rattle.link_outcomes.proofs.Terminating.{past_over}
use Rattle.link_outcomes.proofs.laws.an_end_that_took_a_termination_is_over.Goals as goal

pub returns : goal.returns
returns c = past_over
