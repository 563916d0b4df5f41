-- Proof of `agreement::ends_that_hear_each_other_agree`.
use Rattle.run_model.proofs.link_model.Taking.{past_delivered}
use Rattle.run_model.specs.open_links.OpenLinks.{facts_in}
use Rattle.run_model.proofs.Stations.{contains_in}
use Rattle.run_laws.proofs.Agreed.{ack_of, exchange}
use Rattle.run_laws.proofs.TwoEnds.{stays_in_agreement, stays_in_shape}
use Rattle.run_laws.proofs.agreement.ends_that_hear_each_other_agree.Goals as goal

pub returns-clause-shapes : goal.returns-clause-shapes
returns-clause-shapes c = λ given before rest central peripheral distinct six is is_too at ends hear is_open is_open_too.
    stays_in_shape c.packet_tells_its_pdu.ensures.heard given before rest central peripheral distinct six (contains_in given.stations central.station is)
    (contains_in given.stations peripheral.station is_too) at ends hear tt is_open is_open_too

pub returns-clause-agreement : goal.returns-clause-agreement
returns-clause-agreement c = λ given before rest central peripheral distinct six is is_too at ends hear reads is_open is_open_too.
    stays_in_agreement c.packet_tells_its_pdu.ensures.heard given before rest central peripheral distinct six (contains_in given.stations central.station is)
    (contains_in given.stations peripheral.station is_too) at ends hear reads is_open is_open_too

pub returns-clause-delivery : goal.returns-clause-delivery
returns-clause-delivery c = λ given before rest central peripheral distinct six is is_too at ends hear reads is_open is_open_too.
    let agreed = stays_in_agreement c.packet_tells_its_pdu.ensures.heard given before rest central peripheral distinct six (contains_in given.stations central.station is)
    (contains_in given.stations peripheral.station is_too) at ends hear reads is_open is_open_too in (
      past_delivered central.link.setup central.link.past (facts_in peripheral.link) agreed,
      past_delivered peripheral.link.setup peripheral.link.past (facts_in central.link) (exchange (ack_of central.link) (ack_of peripheral.link) agreed),
    )
