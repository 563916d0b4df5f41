-- The proof of the law `values_stay_in_their_ranges`.
use Rattle.control_octets.proofs.Steps.{begins_fitting, in_range, stays_fitting}
use Rattle.control_octets.proofs.laws.values_stay_in_their_ranges.Goals as goal

pub returns-clause-begins : goal.returns-clause-begins
returns-clause-begins c = begins_fitting

pub returns-clause-stays : goal.returns-clause-stays
returns-clause-stays c = stays_fitting

pub returns-clause-parameters : goal.returns-clause-parameters
returns-clause-parameters c = in_range
