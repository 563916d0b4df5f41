-- Proof of `laws::an_end_runs_what_it_noted`.
use Rattle.link_procedures.proofs.Seen.{seen_at_central, seen_at_peripheral}
use Rattle.link_procedures.proofs.Steps.{past_goes}
use Rattle.link_procedures.proofs.laws.an_end_runs_what_it_noted.Goals as goal

pub returns-clause-any : goal.returns-clause-any
returns-clause-any c = past_goes

pub returns-clause-central : goal.returns-clause-central
returns-clause-central c = seen_at_central

pub returns-clause-peripheral : goal.returns-clause-peripheral
returns-clause-peripheral c = seen_at_peripheral
