-- A new PDU is sealed with the keys that the lines give, in all phases of encryption.
use Rattle.std.proofs.Common.{◌≡◌, ℕ, ◌+◌, ◌-◌, Bool, true, false, Some, List, refl, sym, ap, ◌∙◌, arith, if◌then◌else◌}
use Rattle.journal_controls.specs.LineSteps.{keyed_on}
use Rattle.journal_controls.specs.journal_acks.Carried.{carried_of}
use Rattle.journal_controls.specs.journal_acks.Held.{HasPayloadOfEnd}
use Rattle.journal_controls.specs.journal_ends.Asked.{Words}
use Rattle.journal_controls.specs.link_model.Controls.{pdu_fixed}
use Rattle.journal_controls.specs.link_model.Data.{is_empty}
use Rattle.journal_controls.specs.link_model.Facts.{Facts, keyed_of}
use Rattle.journal_controls.specs.link_model.Payload.{payload_made}
use Rattle.journal_controls.specs.link_model.Step.{PacketSent}
use Rattle.journal_controls.specs.link_model.enc_phase.Phases.{seals}
use Rattle.journal_controls.specs.link_model.enc_phase.Sealing.{EncEnd, after_sending}
use Rattle.journal_controls.specs.open_links.OpenLinks.{OpenLink, facts_in, link_after, link_at}
use Rattle.journal_controls.specs.run_model.History.{Event}
use Rattle.journal_controls.specs.run_model.Journal.{journal_of, side_of}
use Rattle.journal_controls.specs.run_model.Links.{links_of}
use Rattle.journal_controls.specs.run_model.Run.{Given, facts_at}
use Rattle.journal_controls.proofs.link_model.Opening.{takes_counter}
use Rattle.journal_acks.proofs.run_laws.Agreed.{step_facts}
use Rattle.journal_sealing.specs.NewPdus.{IsMadeByLines, end_before}

-- the counter that it took
taken_back : (sealed : Bool) (count : ℕ) → (if sealed then (if sealed then count + 1 else count) - 1 else (if sealed then count + 1 else count)) ≡ count
taken_back true count = omega arith
taken_back false count = refl

pub before_after : (e : EncEnd) → end_before (after_sending e) ≡ e
before_after e = ap (λ (count : ℕ). record e { sent = count }) (taken_back (seals e.role e.phase) e.sent)

-- what its lines say of an open end, before a packet
abbrev AreKeyed : Words → Given → List Event → ℕ → Type 0
AreKeyed words given history station =
    (handle : ℕ) (link : OpenLink) → link_at handle (facts_at given station history).links ≡ Some link
    → keyed_on words (side_of station) ((links_of history).link_of station handle) (journal_of history) ≡ Some (keyed_of (facts_in link))

pub made_by_lines : (words : Words) (given : Given) (history : List Event) (station channel : ℕ) (octets : List ℕ) → AreKeyed words given history station
    → HasPayloadOfEnd given history station channel octets → IsMadeByLines words given history station channel octets
made_by_lines words given history station channel octets keyed by_end =
    let from = by_end.sent in
    let facts = facts_in from.link in
    let sender = link_after (PacketSent from.slot) from.link in
    let side = side_of station in
    let pdu = carried_of by_end.packet.number (journal_of history) side in
    record {
      by_end = by_end;
      end = keyed_of (facts_in sender);
      is_end = ap (λ n. keyed_on words side n (journal_of history)) by_end.number_is ∙ keyed from.handle sender from.is_open;
      made = λ all some.
          let fixed : pdu ≡ pdu_fixed facts = by_end.pdu_is ∙ ap (λ b. if b then pdu_fixed facts else facts.acknowledgement.last) all in
          let counter : (facts_in sender).encryption.end ≡ after_sending facts.encryption.end =
          ap (λ (f : Facts). f.encryption.end) (step_facts from.link (PacketSent from.slot)) ∙ takes_counter facts from.slot all (ap is_empty (sym fixed) ∙ some) in
          let end : end_before (facts_in sender).encryption.end ≡ facts.encryption.end = ap end_before counter ∙ before_after facts.encryption.end in
          by_end.payload_is ∙ ap (λ b. if b then payload_made facts.encryption.end (pdu_fixed facts) else facts.outgoing.payload) all
          ∙ (λ i. payload_made (sym end i) (sym fixed i));
    }
