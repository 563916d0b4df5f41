-- Proof of `rows::an_answer_at_once_is_taken`.
use Rattle.host_asks.proofs.StepsListed.{features_differ, version_differs}
use Rattle.host_asks.proofs.rows.an_answer_at_once_is_taken.Goals as goal

pub returns-clause-version : goal.returns-clause-version
returns-clause-version c = λ handle. version_differs

pub returns-clause-features : goal.returns-clause-features
returns-clause-features c = λ handle. features_differ
