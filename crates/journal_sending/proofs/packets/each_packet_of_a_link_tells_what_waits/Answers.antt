-- Proof of `packets::each_packet_of_a_link_tells_what_waits`.
use Rattle.journal_sending.proofs.WhatWaits.{waits_at_stop, waits_of_lines}
use Rattle.journal_sending.proofs.packets.each_packet_of_a_link_tells_what_waits.Goals as goal

pub returns-clause-aired : goal.returns-clause-aired
returns-clause-aired c = λ words given are six gives few eight.
    waits_of_lines words c.packet_tells_its_pdu.ensures.heard c.a_pdu_is_understood.ensures.says c.connections_are_taken.ensures.taken c.searches_give_each_valid_address.ensures.valid
    c.searches_give_each_valid_address.ensures.distinct given are (record { links = few }) six gives eight (c.each_packet_on_the_air_is_due.ensures.due given)

pub returns-clause-stopped : goal.returns-clause-stopped
returns-clause-stopped c = λ words given history stop are six gives few eight stops off.
    waits_at_stop words c.packet_tells_its_pdu.ensures.heard c.a_pdu_is_understood.ensures.says c.connections_are_taken.ensures.taken c.searches_give_each_valid_address.ensures.valid
    c.searches_give_each_valid_address.ensures.distinct given are (record { links = few }) six gives eight history stop stops off
