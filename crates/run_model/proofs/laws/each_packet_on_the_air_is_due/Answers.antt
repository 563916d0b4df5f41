-- Proof of `laws::each_packet_on_the_air_is_due`.
use Rattle.run_model.proofs.EntryEvents.{is_aired}
use Rattle.run_model.proofs.Fates.{pair_fate}
use Rattle.run_model.proofs.laws.each_packet_on_the_air_is_due.Goals as goal

pub returns-clause-due : goal.returns-clause-due
returns-clause-due c = is_aired

pub returns-clause-fate : goal.returns-clause-fate
returns-clause-fate c = pair_fate
