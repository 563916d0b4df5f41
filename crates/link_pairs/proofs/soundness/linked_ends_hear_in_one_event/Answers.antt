-- The proof of the law `linked_ends_hear_in_one_event`.
use Rattle.link_pairs.proofs.SharedEvents.{central_hears, peripheral_hears}
use Rattle.link_pairs.proofs.soundness.linked_ends_hear_in_one_event.Goals as goal

pub returns-clause-peripheral : goal.returns-clause-peripheral
returns-clause-peripheral g = peripheral_hears g.packet_tells_its_pdu.ensures.heard

pub returns-clause-central : goal.returns-clause-central
returns-clause-central g = central_hears
