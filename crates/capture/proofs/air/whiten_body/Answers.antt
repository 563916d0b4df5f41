-- Proof of `air::whiten_body`.
use Rattle.capture.proofs.Short.{short_body}
use Rattle.capture.proofs.air.whiten_body.Goals as goal

pub returns-else-octets-gt-ACCESS_OCTETS : goal.returns-else-octets-gt-ACCESS_OCTETS
returns-else-octets-gt-ACCESS_OCTETS c = short_body c.args.channel c.args.octets.now c.if-octets-gt-ACCESS_OCTETS.false
