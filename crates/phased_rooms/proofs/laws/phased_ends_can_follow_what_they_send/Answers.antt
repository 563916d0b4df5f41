-- The proof of the law `phased_ends_can_follow_what_they_send`.
use Rattle.phased_rooms.proofs.Following.{follows_now}
use Rattle.phased_rooms.proofs.laws.phased_ends_can_follow_what_they_send.Goals as goal

pub returns : goal.returns
returns c = record { follows = follows_now }
