-- Proof of `senders::each_packet_is_of_its_senders_link`.
use Rattle.std.proofs.Common.{refl}
use Rattle.journal_links.specs.run_model.Pair.{given_of}
use Rattle.journal_links.proofs.run_model.LinkEnds.{pair_addresses}
use Rattle.journal_packets.proofs.SoFar.{of_senders_link}
use Rattle.journal_packets.proofs.senders.each_packet_is_of_its_senders_link.Goals as goal

pub returns : goal.returns
returns c = λ a b script before rest station channel octets hearings six six_too.
    of_senders_link c.a_pdu_is_understood.ensures.says c.connections_are_taken.ensures.taken c.searches_give_each_valid_address.ensures.valid
    c.searches_give_each_valid_address.ensures.distinct (given_of a b script) refl (pair_addresses a b script six six_too) before rest station channel octets hearings
