-- What an end has sent has one PDU more than are acknowledged.
use Rattle.std.proofs.Common.{◌≡◌, ◌+◌, ◌≤◌, Bool, true, false, length, refl, arith}
use Rattle.std.proofs.lemmas.Bool.{eqb-true, eqb-false}
use Rattle.std.proofs.lemmas.List.{length_push}
use Rattle.journal_packets.specs.link_model.Acknowledgement.{Acknowledgement, Pdu, is_acked, next_sent}
use Rattle.journal_packets.specs.link_model.Controls.{pdu_fixed}
use Rattle.journal_packets.proofs.link_model.Agreeing.{ack_ahead as sent_ack}
use Rattle.journal_packets.proofs.link_model.Counts.{past_counts}
use Rattle.journal_packets.specs.open_links.OpenLinks.{OpenLink, facts_in}
use Rattle.journal_packets.proofs.run_laws.Agreed.{ack_of}

-- ---- what was sent

one_out : (acked : Bool) (next : Pdu) (ack : Acknowledgement) → is_acked ack ≡ acked → ack.acked ≤ length ack.sent → length ack.sent ≤ ack.acked + 1
    → ack.acked + 1 ≡ length (next_sent acked next ack).sent
one_out true next ack is low high =
    let all = eqb-true ack.acked (length ack.sent) is in
    let more = length_push ack.sent next in
    omega (arith, all, more)
one_out false next ack is low high =
    let some = eqb-false ack.acked (length ack.sent) is in
    omega (arith, some, low, high)

pub sent_out : (link : OpenLink) → (ack_of link).acked + 1 ≡ length (sent_ack (facts_in link)).sent
sent_out link =
    let counts = past_counts link.setup link.past in
    one_out (is_acked (ack_of link)) (pdu_fixed (facts_in link)) (ack_of link) refl counts.sent_only counts.one_at_a_time
