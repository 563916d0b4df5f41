-- The proof of the law `reached_ends_have_room`.
use Rattle.control_end.proofs.Reaching.{begins_reached, goes_on_reached, reached_follows, reached_room}
use Rattle.control_end.proofs.laws.reached_ends_have_room.Goals as goal

pub returns-clause-begins : goal.returns-clause-begins
returns-clause-begins c = begins_reached

pub returns-clause-goes_on : goal.returns-clause-goes_on
returns-clause-goes_on c = goes_on_reached

pub returns-clause-room : goal.returns-clause-room
returns-clause-room c = reached_room

pub returns-clause-follows : goal.returns-clause-follows
returns-clause-follows c = reached_follows
