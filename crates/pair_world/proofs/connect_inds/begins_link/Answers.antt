-- Proof of `connect_inds::begins_link`.
use Rattle.std.proofs.Common.{sym, ◌∙◌}
use Rattle.pair_world.proofs.ConnectInds.{begins_here, begins_none, begins_nowhere}
use Rattle.pair_world.proofs.connect_inds.begins_link.Goals as goal

pub returns-then-not-is_advertising : goal.returns-then-not-is_advertising
returns-then-not-is_advertising c = begins_nowhere c.args.channel c.args.octets.now (sym c.is_advertising.ensures ∙ c.if-not-is_advertising.true)

pub returns-then-octets-ne-CONNECT_IND_OCTETS : goal.returns-then-octets-ne-CONNECT_IND_OCTETS
returns-then-octets-ne-CONNECT_IND_OCTETS c =
    begins_none c.packet_tells_its_pdu.ensures.length c.args.channel c.args.octets.now c.if-octets-ne-CONNECT_IND_OCTETS.true

pub returns : goal.returns
returns c =
    c.has_connect_ind.ensures ∙ begins_here c.args.channel c.args.octets.now (sym c.is_advertising.ensures ∙ c.if-not-is_advertising.false)
