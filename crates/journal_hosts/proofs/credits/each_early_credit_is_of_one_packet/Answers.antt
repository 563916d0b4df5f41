-- Proof of `credits::each_early_credit_is_of_one_packet`.
use Rattle.journal_data.proofs.journal_links.OfTwo.{are_distinct}
use Rattle.journal_hosts.proofs.CreditsInRuns.{are_of_one, come_at_once}
use Rattle.journal_hosts.proofs.credits.each_early_credit_is_of_one_packet.Goals as goal

pub returns-clause-one : goal.returns-clause-one
returns-clause-one c = λ given stations. are_of_one given stations (are_distinct given stations)

pub returns-clause-at_once : goal.returns-clause-at_once
returns-clause-at_once c = λ given stations. come_at_once given stations (are_distinct given stations)
