-- The proof of the law `a_collision_of_a_joint_run_is_rejected_next`.
use Rattle.joint_collisions.proofs.CollisionLaws.{no_peer_then, own_stays, rejected_later, terminates_next}
use Rattle.joint_collisions.proofs.laws.a_collision_of_a_joint_run_is_rejected_next.Goals as goal

pub returns-clause-own : goal.returns-clause-own
returns-clause-own g = λ s p q outgoing ctrl c state runs. own_stays s p q outgoing ctrl c state runs

pub returns-clause-peer : goal.returns-clause-peer
returns-clause-peer g = λ s p q outgoing ctrl c state runs. no_peer_then s p q outgoing ctrl c state runs

pub returns-clause-rejected : goal.returns-clause-rejected
returns-clause-rejected g =
    λ s p q outgoing ctrl c later state runs facts opened silent. rejected_later s p q outgoing ctrl c state runs facts opened later silent

pub returns-clause-closing : goal.returns-clause-closing
returns-clause-closing g =
    λ s p q outgoing ctrl c state runs facts closing. terminates_next s p q outgoing ctrl c state runs facts closing
