-- What is due to a side of which an end hears a packet: the line of the procedure that the packet completes.
use Rattle.std.proofs.Common.{◌≡◌, ℕ, ◌&&◌, not, true, false, Option, Some, None, List, length, sym, ap, ◌∙◌, arith}
use Rattle.std.proofs.lemmas.Bool.{eqb-false}
use Rattle.ack_bit.specs.AckBits.{acknowledges}
use Rattle.ble_base.specs.declared.verdicts.Verdict.TheVariants.{Forged}
use Rattle.data_pdu.specs.Header.{header_in}
use Rattle.journal_controls.specs.LineSteps.{is_more_acked}
use Rattle.journal_controls.specs.LinesDue.{due_hearing}
use Rattle.journal_controls.specs.journal_acks.Carried.{SentLine, pdu_carried}
use Rattle.journal_controls.specs.journal_acks.Counted.{IsCounted}
use Rattle.journal_controls.specs.journal_acks.Exchange.{Exchanged}
use Rattle.journal_controls.specs.journal_acks.link_calls.Uses.{listens_under}
use Rattle.journal_controls.specs.journal_ends.Asked.{Words}
use Rattle.journal_controls.specs.link_model.Acknowledgement.{Acknowledgement, bits_of, is_acked}
use Rattle.journal_controls.specs.link_model.Data.{is_control}
use Rattle.journal_controls.specs.link_model.Facts.{Facts as EndFacts}
use Rattle.journal_controls.specs.link_model.Packets.{good_pdu, is_forged, verdict_of}
use Rattle.journal_controls.specs.link_model.Receiving.{acks_control, facts_received, has_acknowledged}
use Rattle.journal_controls.specs.link_model.Step.{PacketReceived}
use Rattle.journal_controls.specs.link_model.Verdicts.{pdu_of}
use Rattle.journal_controls.specs.run_model.History.{Event}
use Rattle.journal_controls.specs.run_model.Journal.{journal_of, side_of}
use Rattle.journal_controls.specs.run_model.Run.{Given, facts_at}
use Rattle.journal_controls.specs.open_links.OpenLinks.{OpenLink, facts_in, link_at}
use Rattle.journal_controls.proofs.EndSteps.{acks_by, left_of, not_true}
use Rattle.journal_controls.proofs.journal_acks.Counting.{ack_taking}
use Rattle.journal_controls.proofs.journal_acks.Exchanging.{number_at}
use Rattle.journal_controls.proofs.journal_acks.KeptLines.{IsLined}
use Rattle.journal_controls.proofs.journal_acks.run_laws.Agreed.{ack_of, step_facts}
use Rattle.journal_controls.proofs.link_model.Acknowledging.{ack_heard, forged_leaves}
use Rattle.journal_controls.proofs.link_model.Counts.{past_counts}
use Rattle.journal_due.specs.EachLine.{IsDueOn}
use Rattle.journal_due.specs.ProcedureLines.{RestsAt}

-- ---- what is due to a station

-- nothing, and no link takes a packet; or what the packet brings that one link takes; or nothing, and one link judges the
-- packet forged
pub data IsDueAhead (words : Words) (given : Given) (station : ℕ) (history : List Event) (received : Option (List ℕ)) : Type 0 where
  Nothing : RestsAt words (side_of station) (journal_of history)
      → ((handle : ℕ) (link : OpenLink) → listens_under handle (facts_at given station history).turn.doing ≡ true → link_at handle (facts_at given station history).links ≡ Some link
      → received ≡ None)
      → IsDueAhead words given station history received
  Taking : (handle : ℕ) (link : OpenLink) (octets pdu : List ℕ) → listens_under handle (facts_at given station history).turn.doing ≡ true
      → link_at handle (facts_at given station history).links ≡ Some link → received ≡ Some octets → good_pdu link.setup (facts_in link) octets ≡ Some pdu
      → IsDueOn words (side_of station) (number_at station handle history)
      (due_hearing (side_of station) (number_at station handle history) (acks_control (has_acknowledged (facts_in link) (header_in pdu)) (facts_in link)) (facts_in link).control)
      (journal_of history)
      → IsDueAhead words given station history received
  Forging : (handle : ℕ) (link : OpenLink) (octets : List ℕ) → listens_under handle (facts_at given station history).turn.doing ≡ true
      → link_at handle (facts_at given station history).links ≡ Some link → received ≡ Some octets → verdict_of link.setup (facts_in link) octets ≡ Forged
      → RestsAt words (side_of station) (journal_of history)
      → IsDueAhead words given station history received

pub ahead_rests : (words : Words) (given : Given) (station : ℕ) (history : List Event) (received : Option (List ℕ)) → received ≡ None → IsDueAhead words given station history received
    → RestsAt words (side_of station) (journal_of history)
ahead_rests words given station history received none (Nothing rests deaf) = rests
ahead_rests words given station history received none (Taking handle link octets pdu listens at some good on) =
    absurd (let h : Some octets ≡ None = sym some ∙ none in absurd cc)
ahead_rests words given station history received none (Forging handle link octets listens at some forged rests) = rests

pub rests_ahead : (words : Words) (given : Given) (station : ℕ) (history : List Event) (received : Option (List ℕ)) → received ≡ None → RestsAt words (side_of station) (journal_of history)
    → IsDueAhead words given station history received
rests_ahead words given station history received none rests = Nothing rests (λ handle link listens at. none)

-- ---- it acknowledges a control PDU where the counts say so

pub acks_told : (link : OpenLink) (slot : ℕ) (octets pdu : List ℕ) (before after : Exchanged) (line : Option SentLine) → good_pdu link.setup (facts_in link) octets ≡ Some pdu
    → IsCounted before (ack_of link) → IsCounted after (ack_taking true (Some octets) slot link) → IsLined line (ack_of link)
    → (is_more_acked before after && is_control (pdu_carried line before.acked)) ≡ acks_control (has_acknowledged (facts_in link) (header_in pdu)) (facts_in link)
acks_told link slot octets pdu before after line good counts counts_too lined =
    let facts = facts_in link in
    let ack = facts.acknowledgement in
    let header = header_in pdu in
    let acks = has_acknowledged facts header in
    let role = link.setup.link.role in
    let own = past_counts link.setup link.past in
    let heard = ap (λ (f : EndFacts). f.acknowledgement.acked) (step_facts link (PacketReceived slot octets false))
    ∙ ap (λ (a : Acknowledgement). a.acked) (forged_leaves (is_forged link.setup facts octets) (facts_received role slot false (good_pdu link.setup facts octets) facts))
    ∙ ap (λ one. (facts_received role slot false one facts).acknowledgement.acked) good
    ∙ ap (λ (a : Acknowledgement). a.acked) (ack_heard role slot false header (pdu_of pdu) facts) in
    acks_by acks before.acked after.acked ack.acked (pdu_carried line before.acked) ack.last counts.acked (counts_too.acked ∙ heard) (λ is.
    let out = not_true (is_acked ack) (left_of (not (is_acked ack)) (acknowledges (bits_of ack) header) is) in
    let differs = eqb-false ack.acked (length ack.sent) out in
    let low = own.sent_only in
    let high = own.one_at_a_time in
    let acked = counts.acked in
    sym (lined.last before.acked (omega (arith, differs, low, high, acked))))
