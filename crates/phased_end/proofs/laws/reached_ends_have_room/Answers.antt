-- The proof of the law `reached_ends_have_room`.
use Rattle.phased_end.proofs.Reached.{reached_room}
use Rattle.phased_end.proofs.laws.reached_ends_have_room.Goals as goal

pub returns : goal.returns
returns c = reached_room
