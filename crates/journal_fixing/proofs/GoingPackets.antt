-- A packet on the air keeps the end that hears it with which its answer goes, as the packet has acknowledged the last
-- control PDU of that end.
use Rattle.std.proofs.Common.{◌≡◌, ℕ, Bool, true, false, Option, Some, None, is_none, List, [], ◌∷◌, ◌++◌, length, refl, sym, ap, ◌∙◌, if◌then◌else◌}
use Rattle.std.proofs.lemmas.List.{append_cancel_left}
use Rattle.air_frame.specs.declared.Heard.{Heard}
use Rattle.air_frame.specs.declared.Heard.TheVariants.{NotOurs, Broken as Faulty, Whole}
use Rattle.ble_base.specs.declared.roles.Role.TheVariants.{Peripheral}
use Rattle.ble_base.specs.declared.roles.Side.{Side}
use Rattle.ble_base.specs.declared.verdicts.Verdict.TheVariants.{Broken, Forged, Good}
use Rattle.journal_controls.specs.controller_model.declared.doing.Turn.{Turn}
use Rattle.data_pdu.specs.Header.{header_in}
use Rattle.journal_controls.specs.KeyedLines.{has_next}
use Rattle.journal_controls.specs.journal_acks.Carried.{pdu_carried}
use Rattle.journal_controls.specs.journal_acks.link_calls.Uses.{listens_under}
use Rattle.journal_controls.specs.journal_ends.Asked.{Words}
use Rattle.journal_controls.specs.journal_ends.Seen.{heard_as, heard_in_line}
use Rattle.journal_controls.specs.journal_ends.open_links.OpenLinks.{OpenLink, facts_in}
use Rattle.journal_controls.specs.link_model.Facts.{Facts as EndFacts, keyed_of}
use Rattle.journal_controls.specs.link_model.Packets.{good_pdu, heard_of, is_forged_pdu, pdu_read_in, verdict_of, whole_pdu}
use Rattle.journal_controls.specs.link_model.Payload.{opens_now}
use Rattle.journal_controls.specs.link_model.Receiving.{keyed_acked_if}
use Rattle.journal_controls.specs.link_model.Setup.{Setup}
use Rattle.journal_controls.specs.link_model.Step.{PacketReceived}
use Rattle.journal_controls.specs.link_model.Verdicts.{has_room_for, pdu_by, verdict_by, whole_in}
use Rattle.journal_controls.specs.run_model.History.{Event, Hearing, is_good}
use Rattle.journal_controls.specs.run_model.Journal.{journal_of}
use Rattle.journal_controls.proofs.ControlPackets.{taking_counts}
use Rattle.journal_controls.proofs.Counted.{told_by}
use Rattle.journal_controls.proofs.GoodPackets.{good_verdict}
use Rattle.journal_controls.proofs.EventMoves.{air_line, aired, keyed_at}
use Rattle.journal_controls.proofs.journal_acks.Counting.{IsEndCounted, plain}
use Rattle.journal_controls.proofs.journal_acks.Exchanging.{exchange_at}
use Rattle.journal_controls.proofs.journal_acks.KeptLines.{IsLined}
use Rattle.journal_controls.proofs.journal_acks.SentLines.{sent_line_at}
use Rattle.journal_controls.proofs.journal_acks.Standing.{listener_sends}
use Rattle.journal_controls.proofs.journal_ends.SeenCalls.{seen_in_link, to_hear}
use Rattle.journal_controls.proofs.journal_ends.SeenEvents.{heard_at_air, packet_seen, seen_at}
use Rattle.journal_controls.proofs.journal_ends.run_laws.Agreed.{ack_of, step_facts}
use Rattle.journal_fixing.specs.OnLines.{has_heard}
use Rattle.journal_fixing.proofs.AnsweredPdus.{acks_told}
use Rattle.journal_fixing.proofs.FixingEvents.{packet_deaf, packet_heard, packet_hears}
use Rattle.journal_fixing.proofs.GoingLinks.{IsGoing, awaits_under, control_acking, listens_awaits}

-- ---- a packet with a PDU is good

good_fits : (room : Bool) (facts : EndFacts) (octets pdu : List ℕ) → pdu_read_in facts (pdu_by room octets) ≡ Some pdu
    → is_good (if room then (if is_forged_pdu facts octets then Forged else Good) else Broken) ≡ true
good_fits true facts octets pdu is = ap (λ (found : Option (List ℕ)). is_good (if is_none found then Forged else Good)) is
good_fits false facts octets pdu is = absurd (let h : None ≡ Some pdu = is in absurd cc)

good_heard : (max : ℕ) (opens : Bool) (facts : EndFacts) (heard : Heard) (pdu : List ℕ) → pdu_read_in facts (whole_in max opens heard) ≡ Some pdu
    → is_good (verdict_by max opens (is_forged_pdu facts) heard) ≡ true
good_heard max opens facts NotOurs pdu is = absurd (let h : None ≡ Some pdu = is in absurd cc)
good_heard max opens facts Faulty pdu is = absurd (let h : None ≡ Some pdu = is in absurd cc)
good_heard max opens facts (Whole got) pdu is = good_fits (has_room_for max opens got.items) facts got.items pdu is

good_packet : (setup : Setup) (facts : EndFacts) (octets pdu : List ℕ) → good_pdu setup facts octets ≡ Some pdu → is_good (verdict_of setup facts octets) ≡ true
unfolding good_pdu verdict_of whole_pdu
good_packet setup facts octets pdu is =
    good_heard setup.link.max_rx (opens_now facts.encryption.end) facts (heard_of setup facts octets) pdu is

-- ---- what is kept of an end

abbrev pub IsUnheardAt : Words → Option (List ℕ) → ℕ → Turn → ℕ → Side → List Event → Type 0
IsUnheardAt words received handle turn number side history =
    awaits_under handle turn.doing ≡ true → (listens_under handle turn.doing ≡ true → received ≡ None) → has_heard words side number (journal_of history) ≡ false

abbrev pub IsGoingAt : Words → Option (List ℕ) → ℕ → Turn → OpenLink → ℕ → Side → List Event → Type 0
IsGoingAt words received handle turn link number side history =
    (octets pdu : List ℕ) → listens_under handle turn.doing ≡ true → received ≡ Some octets → good_pdu link.setup (facts_in link) octets ≡ Some pdu
    → IsGoing words number side history (control_acking (facts_in link) pdu)

-- ---- one end

module _ (words : Words) (number : ℕ) (side : Side) (history : List Event) (station channel : ℕ) (octets : List ℕ) (hearing : Hearing)
    (received received_too : Option (List ℕ)) (handle : ℕ) (turn : Turn) (link : OpenLink) (unsent unsent_too : Bool)
    (silent : listens_under handle turn.doing ≡ true → received ≡ None) (was : keyed_at words number side history ≡ Some (keyed_of (facts_in link)))
    (seen : seen_at words number side history ≡ seen_in_link number side link)
    (seen_too : seen_at words number side (aired words number side history station channel octets hearing) ≡ seen_in_link number side link ++ to_hear (listens_under handle turn.doing) received_too turn.slot link)
    (counted : IsEndCounted unsent received handle turn link (exchange_at number history side))
    (counted_too : IsEndCounted unsent_too received_too handle turn link (exchange_at number (aired words number side history station channel octets hearing) side))
    (lined : IsLined (sent_line_at number history side) (ack_of link))
    (fixes : listens_under handle turn.doing ≡ true → link.setup.link.role ≡ Peripheral → (facts_in link).fixes_control ≡ has_next (keyed_of (facts_in link)))
    (unheard : awaits_under handle turn.doing ≡ true → has_heard words side number (journal_of history) ≡ false) where
  abbrev after : List Event
  after = aired words number side history station channel octets hearing

  abbrev listens : Bool
  listens = listens_under handle turn.doing

  -- the line is heard as the end hears the packet
  heard_is : heard_in_line side number (journal_of history) (air_line station channel octets hearing) ≡ to_hear listens received_too turn.slot link
  heard_is =
      append_cancel_left (seen_in_link number side link) (heard_at_air number side history station channel octets hearing)
      (to_hear listens received_too turn.slot link)
      (ap (λ xs. xs ++ heard_at_air number side history station channel octets hearing) (sym seen)
      ∙ sym (packet_seen words number side station channel octets history (hearing ∷ []) hearing refl) ∙ seen_too)

  pub packet_awaited : IsUnheardAt words received_too handle turn number side after
  packet_awaited awaits none =
      packet_deaf words side number history station channel octets hearing (heard_is ∙ deaf listens refl received_too refl none) (unheard awaits)
    where
      deaf : (on : Bool) → listens_under handle turn.doing ≡ on → (may : Option (List ℕ)) → received_too ≡ may → (listens_under handle turn.doing ≡ true → received_too ≡ None)
          → to_hear on may turn.slot link ≡ []
      deaf false off may is none = refl
      deaf true on None is none = refl
      deaf true on (Some got) is none = absurd (let h : Some got ≡ None = sym is ∙ none on in absurd cc)

  pub packet_goes : IsGoingAt words received_too handle turn link number side after
  packet_goes got pdu on some good =
      let setup = link.setup in
      let facts = facts_in link in
      let before = exchange_at number history side in
      let then_on = exchange_at number after side in
      let line = sent_line_at number history side in
      let counts = plain unsent received handle turn link before (listener_sends handle turn.doing on) silent counted in
      let counts_too = taking_counts unsent_too received_too got handle turn link then_on on some counted_too in
      let now = step_facts link (PacketReceived turn.slot got false) in
      let told = told_by setup link.past turn.slot got pdu false before then_on line good counts.acked
      (counts_too.acked ∙ ap (λ (f : EndFacts). f.acknowledgement.acked) now) (counts_too.sent ∙ ap (λ (f : EndFacts). length f.acknowledgement.sent) now)
      lined.last (fixes on) in
      let hears = heard_is ∙ (λ i. to_hear (on i) (some i) turn.slot link) ∙ ap (λ v. heard_as v turn.slot got) (good_verdict (verdict_of setup facts got) (good_packet setup facts got pdu good)) in record {
        heard = packet_hears words side number history station channel octets hearing turn.slot got hears;
        going = packet_heard words side number history station channel octets hearing turn.slot got (keyed_of facts) (unheard (listens_awaits handle turn.doing on)) hears was
            ∙ ap (λ b. Some (keyed_acked_if b (keyed_of facts)))
            (acks_told setup.link.role facts (header_in pdu) before then_on (pdu_carried line before.acked) told);
      }
