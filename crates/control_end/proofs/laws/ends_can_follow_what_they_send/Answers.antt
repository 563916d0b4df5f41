-- The proof of the law `ends_can_follow_what_they_send`.
use Rattle.control_end.proofs.Sendable.{can_follow}
use Rattle.control_end.proofs.laws.ends_can_follow_what_they_send.Goals as goal

pub returns : goal.returns
returns c = can_follow
