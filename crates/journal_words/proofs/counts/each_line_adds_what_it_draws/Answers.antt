-- Proof of `counts::each_line_adds_what_it_draws`.
use Rattle.std.proofs.Common.{refl}
use Rattle.journal_words.specs.Drawn.{drawn_counts}
use Rattle.journal_words.proofs.DrawnLines.{counts_more}
use Rattle.journal_words.proofs.counts.each_line_adds_what_it_draws.Goals as goal

pub returns-clause-begins : goal.returns-clause-begins
unfolding drawn_counts
returns-clause-begins c = λ words side. refl

pub returns-clause-adds : goal.returns-clause-adds
returns-clause-adds c = counts_more
