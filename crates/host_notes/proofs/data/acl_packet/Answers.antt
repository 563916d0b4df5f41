-- Proof of `data::acl_packet`.
use Rattle.std.proofs.Common.{arith}
use Rattle.host_notes.proofs.Words.{wrapped}
use Rattle.host_notes.proofs.data.acl_packet.Goals as goal

pub returns : goal.returns
returns c = grind (arith, wrapped, c.put_octets.ensures.items, c.put_u16-2.ensures.items, c.put_u16.ensures.items, c.push.ensures.items)
