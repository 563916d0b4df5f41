-- Proof of `steps::what_hosts_ask_may_come`.
use Rattle.known_ends.proofs.StepsMay.{step_may_come}
use Rattle.known_ends.proofs.steps.what_hosts_ask_may_come.Goals as goal

pub returns : goal.returns
returns c = step_may_come
