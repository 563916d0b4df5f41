-- Proof of `runs::each_packet_has_the_payload_of_the_lines`.
use Rattle.journal_sealing.proofs.KeptSealing.{payload_at_stop, payload_of_aired}
use Rattle.journal_sealing.proofs.runs.each_packet_has_the_payload_of_the_lines.Goals as goal

pub returns : goal.returns
returns c = record {
  lines = λ words given stations six gives front rest side channel octets fate verdict at off.
      payload_of_aired words c.packet_tells_its_pdu.ensures.heard c.a_pdu_is_understood.ensures.says c.connections_are_taken.ensures.taken
      c.searches_give_each_valid_address.ensures.valid c.searches_give_each_valid_address.ensures.distinct given stations six gives front side channel octets fate verdict
      (c.each_packet_on_the_air_is_due.ensures.due given front rest side channel octets fate verdict at) off;
  stopped = λ words given history stop stations six gives.
      payload_at_stop words c.packet_tells_its_pdu.ensures.heard c.a_pdu_is_understood.ensures.says c.connections_are_taken.ensures.taken
      c.searches_give_each_valid_address.ensures.valid c.searches_give_each_valid_address.ensures.distinct given stations six gives history stop;
}
