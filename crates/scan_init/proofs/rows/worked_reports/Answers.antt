-- The worked examples of `rows::worked_reports`.
use Rattle.std.proofs.Common.{refl}
use Rattle.scan_init.proofs.rows.worked_reports.Goals as goal

pub returns-clause-passive : goal.returns-clause-passive
returns-clause-passive c = refl

pub returns-clause-active : goal.returns-clause-active
returns-clause-active c = refl

pub returns-clause-to_one : goal.returns-clause-to_one
returns-clause-to_one c = refl

pub returns-clause-filtered : goal.returns-clause-filtered
returns-clause-filtered c = refl

pub returns-clause-duplicate : goal.returns-clause-duplicate
returns-clause-duplicate c = refl

pub returns-clause-long_ago : goal.returns-clause-long_ago
returns-clause-long_ago c = refl

pub returns-clause-made : goal.returns-clause-made
returns-clause-made c = refl
