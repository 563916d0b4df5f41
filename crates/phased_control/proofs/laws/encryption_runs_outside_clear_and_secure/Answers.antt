-- The proof of the law `encryption_runs_outside_clear_and_secure`.
use Rattle.phased_control.proofs.Agreeing.{agrees_now}
use Rattle.phased_control.proofs.laws.encryption_runs_outside_clear_and_secure.Goals as goal

pub returns : goal.returns
returns c = agrees_now
