-- Proof of `laws::unseen_damage_stops_a_run`.
use Rattle.run_model.proofs.Unseen.{run_unseen}
use Rattle.run_model.proofs.laws.unseen_damage_stops_a_run.Goals as goal

pub returns : goal.returns
returns c = run_unseen
