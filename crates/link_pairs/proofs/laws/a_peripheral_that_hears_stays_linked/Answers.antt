-- The proof of the law `a_peripheral_that_hears_stays_linked`.
use Rattle.link_pairs.proofs.PeripheralHeard.{hears_linked}
use Rattle.link_pairs.proofs.laws.a_peripheral_that_hears_stays_linked.Goals as goal

pub returns : goal.returns
returns c = hears_linked c.packet_tells_its_pdu.ensures.heard
