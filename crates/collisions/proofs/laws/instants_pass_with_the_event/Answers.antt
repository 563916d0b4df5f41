-- The proof of the law `instants_pass_with_the_event`.
use Rattle.collisions.proofs.Gaps.{reads_passed}
use Rattle.collisions.proofs.laws.instants_pass_with_the_event.Goals as goal

pub returns : goal.returns
returns c = reads_passed
