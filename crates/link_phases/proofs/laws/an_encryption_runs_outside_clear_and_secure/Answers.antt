-- Proof of `laws::an_encryption_runs_outside_clear_and_secure`.
use Rattle.link_phases.proofs.Phases.{encrypts_at_central, encrypts_at_peripheral, keeps_none}
use Rattle.link_phases.proofs.laws.an_encryption_runs_outside_clear_and_secure.Goals as goal

pub returns-clause-central : goal.returns-clause-central
returns-clause-central c = encrypts_at_central

pub returns-clause-peripheral : goal.returns-clause-peripheral
returns-clause-peripheral c = encrypts_at_peripheral

pub returns-clause-keeps_none : goal.returns-clause-keeps_none
returns-clause-keeps_none c = keeps_none
