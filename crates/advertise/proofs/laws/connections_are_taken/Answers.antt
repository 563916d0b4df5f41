-- The proof of the law `connections_are_taken`.
use Rattle.advertise.proofs.Takings.{taken_connection}
use Rattle.advertise.proofs.laws.connections_are_taken.Goals as goal

pub returns-clause-taken : goal.returns-clause-taken
returns-clause-taken c = taken_connection
