-- Proof of `histories::a_packet_keeps_the_control_part_that_fixed_a_pdu`.
use Rattle.journal_fixing.proofs.FixingEvents.{packet_fixed, packet_fixing, packet_heard, packet_unheard}
use Rattle.journal_fixing.proofs.histories.a_packet_keeps_the_control_part_that_fixed_a_pdu.Goals as goal

pub returns : goal.returns
returns c = record {
  fixed = λ words side number station channel octets hearing history. packet_fixed words side number history station channel octets hearing;
  fixing = λ words side number station channel octets hearing history. packet_fixing words side number history station channel octets hearing;
  unheard = λ words side number station channel octets hearing history none. packet_unheard words side number history station channel octets hearing none;
  heard = λ words side number station channel slot octets heard hearing history control none is was.
      packet_heard words side number history station channel octets hearing slot heard control none is was;
}
