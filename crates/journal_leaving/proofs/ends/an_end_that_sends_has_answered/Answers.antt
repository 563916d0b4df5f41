-- Proof of `ends::an_end_that_sends_has_answered`.
use Rattle.journal_leaving.proofs.EndLeaving.{sent_leaving}
use Rattle.journal_leaving.proofs.ends.an_end_that_sends_has_answered.Goals as goal

pub returns : goal.returns
returns c = sent_leaving
