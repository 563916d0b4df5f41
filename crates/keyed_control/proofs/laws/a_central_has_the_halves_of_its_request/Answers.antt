-- The proof of the law `a_central_has_the_halves_of_its_request`.
use Rattle.keyed_control.proofs.Halves.{halves_now}
use Rattle.keyed_control.proofs.laws.a_central_has_the_halves_of_its_request.Goals as goal

pub returns : goal.returns
returns c = halves_now
