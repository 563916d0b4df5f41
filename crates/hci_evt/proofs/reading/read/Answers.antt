-- The proof of `read`.
use Rattle.std.proofs.Common.{◌∙◌}
use Rattle.hci_evt.proofs.Packet.{only_is, none_is}
use Rattle.hci_evt.proofs.reading.read.Goals as goal

pub returns-clause-none : goal.returns-clause-none
returns-clause-none c = none_is c.args.octets.now c.packet.result c.packet.ensures.value

pub returns-clause-only : goal.returns-clause-only
returns-clause-only c = λ event is whole. c.packet.ensures.value ∙ only_is c.args.octets.now event is whole
