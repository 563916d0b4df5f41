-- The proof of the law `windows_recur_on_three_channels`.
use Rattle.scan_init.proofs.Recurring.{window_recurs}
use Rattle.scan_init.proofs.laws.windows_recur_on_three_channels.Goals as goal

pub returns : goal.returns
returns c = window_recurs
