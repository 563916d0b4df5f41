-- Proof of `ends::lines_tell_how_an_end_that_hears_leaves`.
use Rattle.journal_leaving.proofs.EndLeaving.{hearing_told}
use Rattle.journal_leaving.proofs.ends.lines_tell_how_an_end_that_hears_leaves.Goals as goal

pub returns : goal.returns
returns c = hearing_told
