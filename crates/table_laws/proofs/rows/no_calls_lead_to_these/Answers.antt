-- The proof of the law `no_calls_lead_to_these`.
use Rattle.table_laws.proofs.WorkedCalls.{crowded, left_over, two_versions}
use Rattle.table_laws.proofs.rows.no_calls_lead_to_these.Goals as goal

pub returns-clause-crowded : goal.returns-clause-crowded
returns-clause-crowded c = crowded

pub returns-clause-two_versions : goal.returns-clause-two_versions
returns-clause-two_versions c = two_versions

pub returns-clause-left_over : goal.returns-clause-left_over
returns-clause-left_over c = left_over
