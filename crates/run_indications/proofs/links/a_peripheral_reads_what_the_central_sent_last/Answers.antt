-- The proof of the law `a_peripheral_reads_what_the_central_sent_last`.
use Rattle.run_indications.proofs.LastSent.{last_read}
use Rattle.run_indications.proofs.links.a_peripheral_reads_what_the_central_sent_last.Goals as goal

pub returns : goal.returns
returns c = λ central peripheral slot c_facts p_facts channel octets room before later handle number llid body indication ends begun c_lasts p_lasts
    packet same supervised noted says in_time unmixed.
    last_read c.packet_tells_its_pdu.ensures.heard central peripheral slot c_facts p_facts channel octets room ends begun c_lasts p_lasts packet same
    supervised before later handle number llid body indication noted says in_time c.a_sealed_packet_is_opened.ensures.opened unmixed
