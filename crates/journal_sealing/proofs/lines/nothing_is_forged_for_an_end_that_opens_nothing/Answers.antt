-- Proof of `lines::nothing_is_forged_for_an_end_that_opens_nothing`.
use Rattle.journal_sealing.proofs.Forged.{none_forged}
use Rattle.journal_sealing.proofs.lines.nothing_is_forged_for_an_end_that_opens_nothing.Goals as goal

pub returns : goal.returns
returns c = none_forged
