-- The proof of the law `a_table_without_room_is_unchanged`.
use Rattle.collision_steps.proofs.CentralTaking.{no_room_left}
use Rattle.collision_steps.proofs.laws.a_table_without_room_is_unchanged.Goals as goal

pub returns : goal.returns
returns c = λ f read slot quiet lacks. no_room_left f read slot quiet lacks
