-- Proof of `credits::credits_of_a_turn_are_in_the_order_of_handles`.
use Rattle.journal_data.proofs.journal_links.OfTwo.{are_distinct}
use Rattle.journal_hosts.proofs.CreditsInRuns.{ascends}
use Rattle.journal_hosts.proofs.credits.credits_of_a_turn_are_in_the_order_of_handles.Goals as goal

pub returns : goal.returns
returns c = λ given stations few. ascends given stations (are_distinct given stations) (record { links = few })
