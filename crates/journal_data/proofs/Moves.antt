-- What each call in a turn does to the link of its station.
use Rattle.std.proofs.Common.{◌≡◌, ℕ, ◌≤◌, ◌==◌, ◌⊎◌, inl, inr, Bool, true, false, Some, List, [], ◌∷◌, ◌++◌, length, take, refl, sym, ap, subst, ◌∙◌, if◌then◌else◌}
use Rattle.std.proofs.lemmas.List.{take-append-le}
use Rattle.ble_base.specs.declared.verdicts.Verdict.{Verdict}
use Rattle.ble_base.specs.declared.verdicts.Verdict.TheVariants.{Broken, Forged, Good, Missed}
use Rattle.journal_acks.specs.link_model.Acknowledgement.{Acknowledgement, Pdu}
use Rattle.journal_acks.proofs.link_model.Counts.{past_counted}
use Rattle.journal_acks.specs.open_links.OpenLinks.{OpenLink, facts_in, link_at}
use Rattle.journal_acks.specs.controller_model.Facts.{Facts, Setup}
use Rattle.journal_acks.specs.controller_model.Heard.{has_room}
use Rattle.journal_acks.specs.controller_model.Packets.{verdict_of}
use Rattle.journal_acks.specs.controller_model.Side.{facts_after}
use Rattle.journal_acks.specs.controller_model.Step.{TurnBegins}
use Rattle.journal_acks.specs.run_model.History.{Event, packet_received}
use Rattle.journal_acks.specs.run_model.Run.{Given, after_call, facts_at, setup_at, step_of}
use Rattle.journal_acks.proofs.run_laws.Agreed.{ack_of, ack_sent, first_ack}
use Rattle.journal_acks.proofs.run_laws.TurnSteps.{IsListening}
use Rattle.journal_acks.proofs.HandedOn.{forged_ack, judged_link}
use Rattle.journal_acks.proofs.KeptCounts.{own_at}
use Rattle.journal_acks.specs.link_calls.Phases.{HasPassed, IsNew, Stays, Takes, link_receiving}
use Rattle.journal_acks.proofs.link_calls.LinkCalls.{base_ack, begins_under, passes_under, receiving_ack}
use Rattle.journal_acks.specs.link_calls.Uses.{listens_under, sends_under}
use Rattle.journal_acks.specs.link_calls.Turns.{sent_if}
use Rattle.journal_data.proofs.OneCall.{HasMoved, Kept, New, Took}
use Rattle.journal_acks.specs.link_model.Controls.{pdu_fixed}

-- sending takes nothing, and acknowledges nothing
record IsSentOn (before after : Acknowledgement) : Type 0 where
  accepted : after.accepted ≡ before.accepted
  acked : take after.acked after.sent ≡ take before.acked before.sent

sent_more : (all : Bool) (ack : Acknowledgement) (next : Pdu) → ack.acked ≤ length ack.sent
    → take ack.acked (if all then ack.sent ++ next ∷ [] else ack.sent) ≡ take ack.acked ack.sent
sent_more true ack next few = take-append-le ack.acked ack.sent (next ∷ []) few
sent_more false ack next few = refl

sent_on : (sends : Bool) (slot : ℕ) (base : OpenLink) → IsSentOn (ack_of base) (ack_of (sent_if sends slot base))
sent_on false slot base = record { accepted = refl; acked = refl }
sent_on true slot base =
    let ack = ack_of base in
    subst (IsSentOn ack) (sym (ack_sent slot base)) (record {
      accepted = refl;
      acked = sent_more (ack.acked == length ack.sent) ack (pdu_fixed (facts_in base)) (past_counted base.setup base.past).0;
    })

-- ---- as a turn begins

pub begin_moves : (given : Given) (station slot : ℕ) (on : Bool) (history : List Event) (handle : ℕ) (link : OpenLink)
    → link_at handle (facts_at given station (after_call given station (TurnBegins slot on) history)).links ≡ Some link → HasMoved given station history handle link
begin_moves given station slot on history handle link at =
    let setup = setup_at given station in
    let facts = facts_at given station history in
    let next = facts_after setup facts (TurnBegins slot on) in
    let begun = begins_under setup facts slot on handle link (own_at given station (TurnBegins slot on) history handle link at) in
    let sent = sent_on (sends_under handle next.turn.doing) slot begun.base in
    let base = base_ack facts slot on handle next.turn.doing link begun in
    Kept begun.link begun.was
    (ap (λ (l : OpenLink). (ack_of l).accepted) begun.is ∙ sent.accepted ∙ ap (λ (a : Acknowledgement). a.accepted) base)
    (ap (λ (l : OpenLink). take (ack_of l).acked (ack_of l).sent) begun.is ∙ sent.acked ∙ ap (λ (a : Acknowledgement). take a.acked a.sent) base)

-- ---- in a phase

-- what a forged packet is for an end
may_be_forged : (verdict : Verdict) → (verdict ≡ Forged) ⊎ (verdict ≡ Forged → ⊥)
may_be_forged Forged = inl refl
may_be_forged Good = inr (λ is. absurd cc)
may_be_forged Missed = inr (λ is. absurd cc)
may_be_forged Broken = inr (λ is. absurd cc)

module _ (given : Given) (station : ℕ) (history : List Event) (handle : ℕ) (link : OpenLink) where
  abbrev facts : Facts
  facts = facts_at given station history

  abbrev setup : Setup
  setup = setup_at given station

  module _ (base : OpenLink) (octets : List ℕ) (room sends : Bool) (was : link_at handle facts.links ≡ Some base)
      (some : packet_received station history ≡ Some octets) (on : listens_under handle facts.turn.doing ≡ true)
      (same : link ≡ sent_if sends facts.turn.slot (link_receiving setup handle room octets facts base)) where
    -- a forged packet takes and acknowledges nothing
    forged_moves : verdict_of facts octets ≡ Forged → HasMoved given station history handle link
    forged_moves forged =
        let sent = sent_on sends facts.turn.slot (link_receiving setup handle room octets facts base) in
        let ack : ack_of (link_receiving setup handle room octets facts base) ≡ ack_of base =
        receiving_ack setup handle room octets facts base
        ∙ forged_ack facts.turn.slot octets base (sym (judged_link facts handle base octets on was) ∙ forged) room in
        Kept base was
        (ap (λ (l : OpenLink). (ack_of l).accepted) same ∙ sent.accepted ∙ ap (λ (a : Acknowledgement). a.accepted) ack)
        (ap (λ (l : OpenLink). take (ack_of l).acked (ack_of l).sent) same ∙ sent.acked ∙ ap (λ (a : Acknowledgement). take a.acked a.sent) ack)

    taken_moves : (verdict_of facts octets ≡ Forged) ⊎ (verdict_of facts octets ≡ Forged → ⊥) → HasMoved given station history handle link
    taken_moves (inl forged) = forged_moves forged
    taken_moves (inr unforged) =
        Took base was (record { octets = octets; received = some; link = base; is_open = was; listens = on; unforged = unforged })

  passed_moves : (room : Bool) (next : Facts) → HasPassed setup facts room (packet_received station history) handle next.turn.doing link
      → HasMoved given station history handle link
  passed_moves room next (IsNew end made opened off) = New (ap ack_of made ∙ first_ack end)
  passed_moves room next (Stays was none nothing listened) = Kept link was refl refl
  passed_moves room next (Takes base octets was some on same) =
      taken_moves base octets room (sends_under handle next.turn.doing) was some on same (may_be_forged (verdict_of facts octets))

pub phase_moves : (given : Given) (station : ℕ) (history : List Event) (handle : ℕ) (link : OpenLink)
    → IsListening (facts_at given station history) (facts_at given station history).turn.doing
    → link_at handle (facts_at given station (after_call given station (step_of (packet_received station history)) history)).links ≡ Some link
    → HasMoved given station history handle link
phase_moves given station history handle link listens at =
    let setup = setup_at given station in
    let facts = facts_at given station history in
    let received = packet_received station history in
    let next = facts_after setup facts (step_of received) in
    passed_moves given station history handle link (has_room setup facts) next
    (passes_under setup facts received handle link listens (own_at given station (step_of received) history handle link at))
