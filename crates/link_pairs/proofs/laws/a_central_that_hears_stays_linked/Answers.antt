-- The proof of the law `a_central_that_hears_stays_linked`.
use Rattle.link_pairs.proofs.CentralHears.{hears}
use Rattle.link_pairs.proofs.laws.a_central_that_hears_stays_linked.Goals as goal

pub returns : goal.returns
returns c = hears c.packet_tells_its_pdu.ensures.heard
