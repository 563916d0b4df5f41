-- Proof of `laws::a_central_keeps_the_indications_that_it_sent`.
use Rattle.link_indications.proofs.Steps.{central_sent}
use Rattle.link_indications.proofs.laws.a_central_keeps_the_indications_that_it_sent.Goals as goal

pub returns : goal.returns
returns c = central_sent
