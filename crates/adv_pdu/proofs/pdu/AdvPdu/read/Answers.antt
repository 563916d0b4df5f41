-- The proof of `AdvPdu::read`.
use Rattle.std.proofs.Common.{Some, ap, ◌∙◌}
use Rattle.adv_pdu.proofs.Octets.{packet_of_pdu, read_is_pdu, read_is_only}
use Rattle.adv_pdu.proofs.Places.{read_is_reading}
use Rattle.adv_pdu.proofs.Values.{none_is_read, value_is}
use Rattle.adv_pdu.proofs.pdu.AdvPdu.read.Goals as goal

pub returns-in_err-kind-clause-only : goal.returns-in_err-kind-clause-only
returns-in_err-kind-clause-only c = λ pdu good whole.
    let packet = packet_of_pdu c.args.octets.now pdu good whole in
    absurd (c.in_err-kind.ensures.none packet.0 packet.1 packet.2)

pub returns-clause-found : goal.returns-clause-found
returns-clause-found c =
    read_is_pdu c.args.octets.now c.pdu.result c.in_ok-kind.first c.in_ok-kind.payload.now c.in_ok-kind.ensures.found
    (rw (c.read.ensures.kind, c.in_ok-kind.ensures.kind, c.read.ensures.ch_sel, c.read.ensures.tx_add, c.read.ensures.rx_add, c.new.ensures) at c.pdu.ensures)

pub returns-clause-parts : goal.returns-clause-parts
returns-clause-parts c =
    read_is_reading c.args.octets.now c.pdu.result c.in_ok-kind.first c.in_ok-kind.payload.now c.in_ok-kind.ensures.found
    (rw (c.read.ensures.kind, c.in_ok-kind.ensures.kind, c.read.ensures.ch_sel, c.read.ensures.tx_add, c.read.ensures.rx_add, c.new.ensures) at c.pdu.ensures)

pub returns-clause-only : goal.returns-clause-only
returns-clause-only c = λ pdu good whole.
    ap (λ p. Some p)
    (read_is_only c.args.octets.now c.pdu.result pdu c.in_ok-kind.first c.in_ok-kind.payload.now c.in_ok-kind.ensures.found
    (rw (c.read.ensures.kind, c.in_ok-kind.ensures.kind, c.read.ensures.ch_sel, c.read.ensures.tx_add, c.read.ensures.rx_add, c.new.ensures) at c.pdu.ensures) good whole)

pub returns-in_err-kind-clause-value : goal.returns-in_err-kind-clause-value
returns-in_err-kind-clause-value c =
    c.from_residual.ensures ∙ none_is_read c.args.octets.now (λ packet. c.in_err-kind.ensures.none packet.0 packet.1 packet.2)

pub returns-clause-value : goal.returns-clause-value
returns-clause-value c =
    value_is c.args.octets.now c.pdu.result c.pdu.ensures.is_pdu (c.in_ok-kind.first, c.in_ok-kind.payload.now, c.in_ok-kind.ensures.found)
    (returns-clause-parts c)
