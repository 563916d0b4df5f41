-- Proof of `skipping::a_peripheral_skips_events_up_to_the_latency_in_force`.
use Rattle.journal_rules.proofs.LinesSkip.{all_skip}
use Rattle.journal_rules.proofs.skipping.a_peripheral_skips_events_up_to_the_latency_in_force.Goals as goal

pub returns : goal.returns
returns c = λ words journal have. all_skip words journal have
