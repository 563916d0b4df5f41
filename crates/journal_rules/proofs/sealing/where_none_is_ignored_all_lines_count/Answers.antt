-- Proof of `sealing::where_none_is_ignored_all_lines_count`.
use Rattle.journal_rules.proofs.LinesSeal.{every_line_counts}
use Rattle.journal_rules.proofs.sealing.where_none_is_ignored_all_lines_count.Goals as goal

pub returns : goal.returns
returns c = λ words role side number journal none. every_line_counts words role side number journal none
