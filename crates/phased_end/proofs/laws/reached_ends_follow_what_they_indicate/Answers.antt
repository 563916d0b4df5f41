-- The proof of the law `reached_ends_follow_what_they_indicate`.
use Rattle.phased_end.proofs.Reached.{reached_follows}
use Rattle.phased_end.proofs.laws.reached_ends_follow_what_they_indicate.Goals as goal

pub returns : goal.returns
returns c h now quiet r = reached_follows h r now quiet
