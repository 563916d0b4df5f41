-- Proof of `lines::an_end_that_never_seals_sends_bodies`.
use Rattle.journal_sealing.proofs.SealedLines.{carries_body}
use Rattle.journal_sealing.proofs.lines.an_end_that_never_seals_sends_bodies.Goals as goal

pub returns : goal.returns
returns c = λ words number journal side. carries_body words number side journal
