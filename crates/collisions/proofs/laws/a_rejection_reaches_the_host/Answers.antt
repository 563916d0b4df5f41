-- The proof of the law `a_rejection_reaches_the_host`.
use Rattle.collisions.proofs.Collided.{phy_refused, request_refused}
use Rattle.collisions.proofs.laws.a_rejection_reaches_the_host.Goals as goal

pub returns-clause-request : goal.returns-clause-request
returns-clause-request c = λ events reason comes is. (request_refused events reason comes is).0

pub returns-clause-request_over : goal.returns-clause-request_over
returns-clause-request_over c = λ events reason comes is. (request_refused events reason comes is).1

pub returns-clause-phy : goal.returns-clause-phy
returns-clause-phy c = λ events reason comes is. (phy_refused events reason comes is).0

pub returns-clause-phy_over : goal.returns-clause-phy_over
returns-clause-phy_over c = λ events reason comes is. (phy_refused events reason comes is).1
