-- The proof of the law `a_central_has_the_request_of_its_encryption`.
use Rattle.phased_control.proofs.Requests.{none_at_peripheral, request_now}
use Rattle.phased_control.proofs.laws.a_central_has_the_request_of_its_encryption.Goals as goal

pub returns-clause-central : goal.returns-clause-central
returns-clause-central c = request_now

pub returns-clause-peripheral : goal.returns-clause-peripheral
returns-clause-peripheral c = none_at_peripheral
