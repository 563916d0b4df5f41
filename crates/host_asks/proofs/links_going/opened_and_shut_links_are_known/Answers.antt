-- Proof of `links_going::opened_and_shut_links_are_known`.
use Rattle.host_asks.proofs.OpenLinksGoing.{links_opened, links_shut}
use Rattle.host_asks.proofs.links_going.opened_and_shut_links_are_known.Goals as goal

pub returns-clause-opened : goal.returns-clause-opened
returns-clause-opened c = links_opened

pub returns-clause-shut : goal.returns-clause-shut
returns-clause-shut c = links_shut
