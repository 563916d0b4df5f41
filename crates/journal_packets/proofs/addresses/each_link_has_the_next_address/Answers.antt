-- Proof of `addresses::each_link_has_the_next_address`.
use Rattle.journal_packets.proofs.NextAddresses.{addresses_next}
use Rattle.journal_packets.proofs.addresses.each_link_has_the_next_address.Goals as goal

pub returns : goal.returns
returns c = addresses_next c.a_pdu_is_understood.ensures.says c.connections_are_taken.ensures.taken
