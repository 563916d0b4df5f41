-- Proof of `credits::each_late_end_is_reported_at_once`.
use Rattle.journal_data.proofs.journal_links.OfTwo.{are_distinct}
use Rattle.journal_hosts.proofs.EndsFollowed.{ends_are_reported}
use Rattle.journal_hosts.proofs.credits.each_late_end_is_reported_at_once.Goals as goal

pub returns : goal.returns
returns c = λ given stations. ends_are_reported given stations (are_distinct given stations)
