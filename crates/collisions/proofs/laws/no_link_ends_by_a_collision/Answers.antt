-- The proof of the law `no_link_ends_by_a_collision`.
use Rattle.collisions.proofs.Collisions.{never_ends}
use Rattle.collisions.proofs.laws.no_link_ends_by_a_collision.Goals as goal

pub returns : goal.returns
returns c = never_ends
