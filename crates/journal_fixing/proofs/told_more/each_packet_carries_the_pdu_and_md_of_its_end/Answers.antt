-- Proof of `told_more::each_packet_carries_the_pdu_and_md_of_its_end`.
use Rattle.journal_fixing.proofs.EndPackets.{of_end}
use Rattle.journal_fixing.proofs.told_more.each_packet_carries_the_pdu_and_md_of_its_end.Goals as goal

pub returns : goal.returns
returns c =
    let whole = c.packet_tells_its_pdu.ensures.heard in
    let understood = c.a_pdu_is_understood.ensures.says in
    let taken = c.connections_are_taken.ensures.taken in
    let nth = c.searches_give_each_valid_address.ensures.valid in
    let apart = c.searches_give_each_valid_address.ensures.distinct in
    λ given before rest station channel octets hearings are six at off.
    of_end whole understood taken nth apart given are six before rest station channel octets hearings at off
