-- Proof of `laws::a_packet_is_understood`.
use Rattle.link_model.proofs.Llids.{past_llid}
use Rattle.link_model.proofs.Received.{body_heard, facts_heard, header_read, heard_good, judged_good, not_forged, notes_heard}
use Rattle.link_model.proofs.laws.a_packet_is_understood.Goals as goal

pub returns-clause-good : goal.returns-clause-good
returns-clause-good c = judged_good c.packet_tells_its_pdu.ensures.heard

pub returns-clause-pdu : goal.returns-clause-pdu
returns-clause-pdu c = heard_good c.packet_tells_its_pdu.ensures.heard

pub returns-clause-forged : goal.returns-clause-forged
returns-clause-forged c = not_forged c.packet_tells_its_pdu.ensures.heard

pub returns-clause-header : goal.returns-clause-header
returns-clause-header c = header_read

pub returns-clause-body : goal.returns-clause-body
returns-clause-body c = body_heard

pub returns-clause-facts : goal.returns-clause-facts
returns-clause-facts c = λ from to sender listener slot room is.
    facts_heard c.packet_tells_its_pdu.ensures.heard from to sender listener is slot room

pub returns-clause-notes : goal.returns-clause-notes
returns-clause-notes c = λ from to sender listener slot room is.
    notes_heard c.packet_tells_its_pdu.ensures.heard from to sender listener is slot room

pub returns-clause-llid : goal.returns-clause-llid
returns-clause-llid c = past_llid
