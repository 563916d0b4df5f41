-- Proof of `credits::each_late_credit_comes_as_its_turn_ends`.
use Rattle.journal_data.proofs.journal_links.OfTwo.{are_distinct}
use Rattle.journal_hosts.proofs.CreditsInRuns.{come_last}
use Rattle.journal_hosts.proofs.credits.each_late_credit_comes_as_its_turn_ends.Goals as goal

pub returns : goal.returns
returns c = λ given stations. come_last given stations (are_distinct given stations)
