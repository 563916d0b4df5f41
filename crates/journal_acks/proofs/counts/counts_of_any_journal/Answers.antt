-- Proof of `counts::counts_of_any_journal`.
use Rattle.journal_acks.proofs.Bounds.{journal_bounded}
use Rattle.journal_acks.proofs.counts.counts_of_any_journal.Goals as goal

pub returns-clause-acknowledged : goal.returns-clause-acknowledged
returns-clause-acknowledged c = λ number journal side. (journal_bounded number journal side).acknowledged

pub returns-clause-accepted : goal.returns-clause-accepted
returns-clause-accepted c = λ number journal side. (journal_bounded number journal side).accepted

pub returns-clause-sent : goal.returns-clause-sent
returns-clause-sent c = λ number journal side. (journal_bounded number journal side).sent
