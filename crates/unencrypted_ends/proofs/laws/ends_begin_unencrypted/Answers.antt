-- The proof of the law `ends_begin_unencrypted`.
use Rattle.unencrypted_ends.proofs.Going.{begins_plain}
use Rattle.unencrypted_ends.proofs.Staying.{begins_none}
use Rattle.unencrypted_ends.proofs.laws.ends_begin_unencrypted.Goals as goal

pub returns-clause-control : goal.returns-clause-control
returns-clause-control c = begins_none

pub returns-clause-phased : goal.returns-clause-phased
returns-clause-phased c = begins_plain
