-- The proof of the law `accepted_connection_can_be_made`.
use Rattle.host_view.proofs.TakenCommands.{connection_is_only, connection_has_room, connection_has_address}
use Rattle.host_view.proofs.laws.accepted_connection_can_be_made.Goals as goal

pub returns-clause-initiating : goal.returns-clause-initiating
returns-clause-initiating c = connection_is_only

pub returns-clause-room : goal.returns-clause-room
returns-clause-room c = connection_has_room

pub returns-clause-address : goal.returns-clause-address
returns-clause-address c = connection_has_address
