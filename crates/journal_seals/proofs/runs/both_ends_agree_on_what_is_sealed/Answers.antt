-- Proof of `runs::both_ends_agree_on_what_is_sealed`.
use Rattle.journal_forgeries.proofs.journal_controls.journal_links.OfTwo.{are_distinct}
use Rattle.journal_forgeries.proofs.run_pairs.LinkSteps.{asks_come}
use Rattle.journal_seals.proofs.SealedPackets.{sealed_as_opened}
use Rattle.journal_seals.proofs.runs.both_ends_agree_on_what_is_sealed.Goals as goal

pub returns : goal.returns
returns c = λ words given stations six gives.
    let distinct = are_distinct given stations in
    sealed_as_opened words c.packet_tells_its_pdu.ensures.heard c.a_sealed_packet_is_opened.ensures.opened c.packet_tells_its_pdu.ensures.length
    c.a_pdu_is_understood.ensures.says c.connections_are_taken.ensures.taken c.searches_give_each_valid_address.ensures.distinct given stations six
    (asks_come c.what_hosts_ask_may_come.ensures given)
    (λ front rest side channel octets fate verdict. c.links_of_two_stations_keep_to_the_journal.ensures.hearings given front rest side channel octets fate verdict stations six)
    (c.each_packet_has_the_payload_of_the_lines.ensures.lines words given stations six gives)
    (λ before rest station channel octets hearings. c.links_of_two_stations_keep_to_the_journal.ensures.payloads given before rest station channel octets hearings stations six)
    (λ before rest sender channel octets hearings station handle link is_in at is_open.
    c.the_keys_by_lines_are_those_that_the_end_holds.ensures.before_a_packet words given before rest sender channel octets hearings station handle link stations six gives is_in at
    is_open)
    (λ before rest at central peripheral in_central in_peripheral ends.
    c.both_ends_hear_each_other_in_turns.ensures.hear given 0 1 before rest central peripheral stations distinct six in_central in_peripheral at ends)
    (λ before rest number at unmixed central peripheral ends in_central in_peripheral number_is.
    c.ends_hear_no_mixed_packet_while_their_journal_is_not_mixed.ensures words given before rest central peripheral ends number stations six gives at in_central in_peripheral
    number_is unmixed)
