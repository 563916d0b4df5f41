-- Proof of `views::all_steps_of_a_command_may_come`.
use Rattle.host_asks.proofs.StepsListed.{all_may_come}
use Rattle.host_asks.proofs.views.all_steps_of_a_command_may_come.Goals as goal

pub returns : goal.returns
returns c = all_may_come
