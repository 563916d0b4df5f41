-- The proof of the law `only_a_late_peripheral_ends_a_link`.
use Rattle.link_pairs.proofs.Ending.{central_lasts, peripheral_lasts}
use Rattle.link_pairs.proofs.EndingNothing.{begun_ends_nothing, host_ends_nothing, prepared_ends_nothing}
use Rattle.link_pairs.proofs.soundness.only_a_late_peripheral_ends_a_link.Goals as goal

pub returns-clause-hosts : goal.returns-clause-hosts
returns-clause-hosts g = host_ends_nothing

pub returns-clause-central_turn : goal.returns-clause-central_turn
returns-clause-central_turn g = begun_ends_nothing

pub returns-clause-peripheral_turn : goal.returns-clause-peripheral_turn
returns-clause-peripheral_turn g = prepared_ends_nothing

pub returns-clause-central : goal.returns-clause-central
returns-clause-central g = central_lasts g.packet_tells_its_pdu.ensures.heard

pub returns-clause-peripheral : goal.returns-clause-peripheral
returns-clause-peripheral g = peripheral_lasts g.packet_tells_its_pdu.ensures.heard
