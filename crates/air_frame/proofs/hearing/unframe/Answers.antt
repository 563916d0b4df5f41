-- The proof of `unframe`.
use Rattle.air_frame.proofs.Bodies.{whole_is}
use Rattle.air_frame.proofs.Decided.{answer_is}
use Rattle.air_frame.proofs.hearing.unframe.Goals as goal

pub returns-clause-whole : goal.returns-clause-whole
returns-clause-whole c =
    whole_is c.args.channel c.args.access c.args.init c.args.octets.now c.addressed.result c.whitening_is_linear.ensures.twice c.addressed.ensures

pub returns-clause-heard : goal.returns-clause-heard
returns-clause-heard c =
    answer_is c.args.channel c.args.access c.args.init c.args.octets.now c.addressed.result c.packet_tells_its_pdu.ensures.found c.addressed.ensures
