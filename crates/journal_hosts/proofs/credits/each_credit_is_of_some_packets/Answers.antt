-- Proof of `credits::each_credit_is_of_some_packets`.
use Rattle.journal_data.proofs.journal_links.OfTwo.{are_distinct}
use Rattle.journal_hosts.proofs.CreditsInRuns.{are_of_some}
use Rattle.journal_hosts.proofs.credits.each_credit_is_of_some_packets.Goals as goal

pub returns : goal.returns
returns c = λ given stations few. are_of_some given stations (are_distinct given stations) (record { buffers = few })
