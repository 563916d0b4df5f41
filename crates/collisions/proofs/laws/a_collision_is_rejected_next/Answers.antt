-- The proof of the law `a_collision_is_rejected_next`.
use Rattle.collisions.proofs.Collided.{rejected_next}
use Rattle.collisions.proofs.laws.a_collision_is_rejected_next.Goals as goal

pub returns : goal.returns
returns c = λ p q judged pdu events later next is. rejected_next p q judged pdu events is later next
