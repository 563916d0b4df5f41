-- The proof of the law `entered_ends_stay_entered`.
use Rattle.phased_end.proofs.Entered.{entered_as, enters_as}
use Rattle.phased_end.proofs.laws.entered_ends_stay_entered.Goals as goal

pub returns-clause-step : goal.returns-clause-step
returns-clause-step c = entered_as

pub returns-clause-enters : goal.returns-clause-enters
returns-clause-enters c = enters_as
