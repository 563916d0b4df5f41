-- The proof of the law `a_rejection_that_waits_goes_next`.
use Rattle.run_collisions.proofs.NoControl.{none_sent}
use Rattle.run_collisions.proofs.Waiting.{goes_out, waits}
use Rattle.run_collisions.proofs.links.a_rejection_that_waits_goes_next.Goals as goal

pub returns-clause-stays : goal.returns-clause-stays
returns-clause-stays g = λ central facts steps rejection is_central. waits rejection central is_central facts steps

pub returns-clause-goes : goal.returns-clause-goes
returns-clause-goes g = λ central facts slot rejection. goes_out rejection central facts

pub returns-clause-none : goal.returns-clause-none
returns-clause-none g =
    λ central facts step earlier later number body quiet fixed. none_sent central facts fixed step earlier later central.link.handle number body quiet
