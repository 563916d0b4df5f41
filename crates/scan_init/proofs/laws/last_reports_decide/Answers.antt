-- The proof of the law `last_reports_decide`.
use Rattle.scan_init.proofs.Recent.{last_reports_suffice}
use Rattle.scan_init.proofs.laws.last_reports_decide.Goals as goal

pub returns-clause-recent : goal.returns-clause-recent
returns-clause-recent c = last_reports_suffice
