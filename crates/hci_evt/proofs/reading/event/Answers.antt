-- The proof of `event`.
use Rattle.std.proofs.Common.{arith}
use Rattle.hci_evt.proofs.Packet.{first_and_rest, le_some}
use Rattle.hci_evt.proofs.reading.event.Goals as goal

pub returns-in-62-len1-up-clause-spells : goal.returns-in-62-len1-up-clause-spells
returns-in-62-len1-up-clause-spells c =
    le_some c.le_event.result c.args.code _ c.new.result c.args.parameters.now (omega (arith, c.type_inv.parameters 0)) c.in-62-len1-up.is-0
    (first_and_rest c.args.parameters.now c.new.result c.in-62-len1-up.len_at_least c.new.ensures) c.le_event.ensures.spells
