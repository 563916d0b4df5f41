-- The proof of `packet`.
use Rattle.std.proofs.Common.{◌∙◌, sym, arith}
use Rattle.hci_evt.proofs.Packet.{not_packet, packet_is, some_is_event}
use Rattle.hci_evt.proofs.reading.packet.Goals as goal

pub returns-in_err-code-clause-value : goal.returns-in_err-code-clause-value
returns-in_err-code-clause-value c =
    c.from_residual.ensures ∙ sym (not_packet c.args.octets.now (λ i. omega (arith, c.type_inv.octets i)) c.in_err-code.ensures.none)

pub returns-clause-value : goal.returns-clause-value
returns-clause-value c = c.event.ensures.value ∙ sym (packet_is c.args.octets.now c.in_ok-code.code c.in_ok-code.parameters.now c.in_ok-code.ensures.found)

pub returns-clause-found : goal.returns-clause-found
returns-clause-found c =
    some_is_event c.args.octets.now c.event.result c.in_ok-code.code c.in_ok-code.parameters.now (λ i. omega (arith, c.type_inv.octets i)) c.in_ok-code.ensures.found c.event.ensures.spells
