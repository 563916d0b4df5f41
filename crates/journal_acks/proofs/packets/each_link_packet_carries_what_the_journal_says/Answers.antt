-- Proof of `packets::each_link_packet_carries_what_the_journal_says`.
use Rattle.std.proofs.Common.{refl}
use Rattle.link_calls.specs.run_model.Pair.{given_of}
use Rattle.link_calls.proofs.run_model.LinkEnds.{pair_addresses}
use Rattle.journal_acks.proofs.packets.each_link_packet_carries_what_the_journal_says.Goals as goal

pub returns : goal.returns
returns c = λ a b script front rest side channel octets fate verdict six six_too at.
    c.links_of_two_stations_keep_to_the_journal.ensures.packets (given_of a b script) front rest side channel octets fate verdict refl (pair_addresses a b script six six_too) at
