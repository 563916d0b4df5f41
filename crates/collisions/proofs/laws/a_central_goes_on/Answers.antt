-- The proof of the law `a_central_goes_on`.
use Rattle.collisions.proofs.Collided.{left}
use Rattle.collisions.proofs.laws.a_central_goes_on.Goals as goal

pub returns-clause-own : goal.returns-clause-own
returns-clause-own c = λ p q judged pdu events is. (left p q judged pdu events is).own

pub returns-clause-peer : goal.returns-clause-peer
returns-clause-peer c = λ p q judged pdu events is. (left p q judged pdu events is).peer

pub returns-clause-end : goal.returns-clause-end
returns-clause-end c = λ p q judged pdu events is. (left p q judged pdu events is).ended
