-- The proof of `packet_tells_its_pdu`.
use Rattle.std.proofs.Common.{refl, sym, arith}
use Rattle.air_frame.specs.Packet.{on_air, with_crc}
use Rattle.air_frame.proofs.Bodies.{found_again, length-with_crc, same_pdu}
use Rattle.air_frame.proofs.Decided.{is_whole}
use Rattle.air_frame.proofs.laws.packet_tells_its_pdu.Goals as goal

pub returns-clause-length : goal.returns-clause-length
returns-clause-length c = λ channel access init pdu.
    omega (arith, c.whitening_is_linear.ensures.length channel (with_crc init pdu), length-with_crc init pdu)

pub returns-clause-only : goal.returns-clause-only
returns-clause-only c = λ channel access init pdu other. same_pdu channel access init pdu other c.whitening_is_linear.ensures.twice

pub returns-clause-found : goal.returns-clause-found
returns-clause-found c = λ channel access init pdu.
    found_again channel access init pdu c.whitening_is_linear.ensures.twice (returns-clause-length c channel access init pdu)

pub returns-clause-heard : goal.returns-clause-heard
returns-clause-heard c = λ channel access init pdu form.
    sym (is_whole channel access init (on_air channel access init pdu) pdu (returns-clause-found c) form refl)
