-- A packet on the air moves the end that sends it and the end that hears it, by what the lines say of these.
use Rattle.std.proofs.Common.{◌≡◌, ℕ, ◌&&◌, Bool, true, false, Option, Some, None, List, [], ◌∷◌, ◌++◌, length, refl, sym, ap, ◌∙◌}
use Rattle.std.proofs.lemmas.List.{append_cancel_left}
use Rattle.ble_base.specs.declared.roles.Role.TheVariants.{Peripheral}
use Rattle.ble_base.specs.declared.roles.Side.{Side}
use Rattle.ble_base.specs.declared.verdicts.Verdict.{Verdict}
use Rattle.ble_base.specs.declared.verdicts.Verdict.TheVariants.{Broken, Forged, Good, Missed}
use Rattle.journal_controls.specs.controller_model.declared.doing.Turn.{Turn}
use Rattle.journal_controls.specs.KeyedLines.{has_next}
use Rattle.journal_controls.specs.journal_acks.Carried.{pdu_carried}
use Rattle.journal_controls.specs.journal_acks.link_calls.Uses.{listens_under, sends_under}
use Rattle.journal_controls.specs.journal_ends.Asked.{Words}
use Rattle.journal_controls.specs.journal_ends.Seen.{heard_as, heard_in_line}
use Rattle.journal_controls.specs.link_model.Facts.{Facts as EndFacts, keyed_of}
use Rattle.journal_controls.specs.link_model.Packets.{good_pdu, verdict_of}
use Rattle.journal_controls.specs.link_model.Sending.{leaving_sent}
use Rattle.journal_controls.specs.link_model.Step.{PacketReceived}
use Rattle.journal_controls.specs.open_links.OpenLinks.{OpenLink, facts_in}
use Rattle.journal_controls.specs.run_model.History.{Event, Hearing, is_good, is_handed}
use Rattle.journal_controls.specs.run_model.Journal.{journal_of}
use Rattle.journal_controls.proofs.ControlPackets.{taking_counts}
use Rattle.journal_controls.proofs.Counted.{told_by}
use Rattle.journal_controls.proofs.EventMoves.{air_line, aired}
use Rattle.journal_controls.proofs.GoodPackets.{good_has}
use Rattle.journal_controls.proofs.link_model.KeyedSteps.{forged_none}
use Rattle.journal_controls.proofs.journal_acks.AirCounts.{listener_off}
use Rattle.journal_controls.proofs.journal_acks.Counting.{IsEndCounted, plain}
use Rattle.journal_controls.proofs.journal_acks.Exchanging.{exchange_at}
use Rattle.journal_controls.proofs.journal_acks.HandedOn.{forged_is}
use Rattle.journal_controls.proofs.journal_acks.KeptLines.{IsLined}
use Rattle.journal_controls.proofs.journal_acks.SentLines.{sent_line_at}
use Rattle.journal_controls.proofs.journal_acks.Standing.{listener_sends}
use Rattle.journal_controls.proofs.journal_ends.SeenCalls.{seen_in_link, to_hear}
use Rattle.journal_controls.proofs.journal_ends.SeenEvents.{heard_at_air, packet_seen, seen_at}
use Rattle.journal_controls.proofs.journal_ends.run_laws.Agreed.{ack_of, step_facts}
use Rattle.journal_leaving.specs.Hearing.{leaving_hearing}
use Rattle.journal_leaving.specs.Leaving.{is_own_packet, leaving_sent_if}
use Rattle.journal_leaving.proofs.EndLeaving.{hearing_told}
use Rattle.journal_leaving.proofs.EventMoves.{forged_still, heard_moves, other_still, own_moves}
use Rattle.journal_leaving.proofs.LeavingEnds.{IsLeftAt, and_none, left_taking, whole}

-- ---- one end

module _ (words : Words) (number : ℕ) (side : Side) (history : List Event) (station channel : ℕ) (octets : List ℕ) (hearing : Hearing)
    (received received_too : Option (List ℕ)) (handle : ℕ) (turn : Turn) (link : OpenLink) (unsent unsent_too : Bool)
    (silent : listens_under handle turn.doing ≡ true → received ≡ None) (was : IsLeftAt words unsent received handle turn link number side history) where
  abbrev after : List Event
  after = aired words number side history station channel octets hearing

  -- its own packet
  pub own_left : is_own_packet side number (journal_of history) (air_line station channel octets hearing) ≡ true → unsent ≡ true → unsent_too ≡ false
      → sends_under handle turn.doing ≡ true → IsLeftAt words unsent_too received_too handle turn link number side after
  own_left own before now sends =
      let deaf = listener_off handle turn sends (listens_under handle turn.doing) refl in record {
        leaving = leaving_sent was.leaving;
        on = own_moves words number side history station channel octets hearing was.leaving own was.on;
        is = ap (λ b. leaving_sent_if (b && sends_under handle turn.doing) (leaving_sent was.leaving)) now
            ∙ (λ i. leaving_sent_if (sym before i && sym sends i) was.leaving) ∙ was.is
            ∙ (λ i. left_taking (deaf i) received turn.slot link) ∙ (λ i. left_taking (sym deaf i) received_too turn.slot link);
      }

  module _ (apart : is_own_packet side number (journal_of history) (air_line station channel octets hearing) ≡ false)
      (handed_too : (got : List ℕ) → listens_under handle turn.doing ≡ true → received_too ≡ Some got → is_handed (verdict_of link.setup (facts_in link) got) ≡ true)
      (sent : (unsent_too && sends_under handle turn.doing) ≡ (unsent && sends_under handle turn.doing))
      (seen : seen_at words number side history ≡ seen_in_link number side link)
      (seen_too : seen_at words number side (aired words number side history station channel octets hearing) ≡ seen_in_link number side link ++ to_hear (listens_under handle turn.doing) received_too turn.slot link)
      (counted : IsEndCounted unsent received handle turn link (exchange_at number history side))
      (counted_too : IsEndCounted unsent_too received_too handle turn link (exchange_at number (aired words number side history station channel octets hearing) side))
      (lined : IsLined (sent_line_at number history side) (ack_of link))
      (fixes : listens_under handle turn.doing ≡ true → link.setup.link.role ≡ Peripheral → (facts_in link).fixes_control ≡ has_next (keyed_of (facts_in link))) where
    abbrev listens : Bool
    listens = listens_under handle turn.doing

    -- the line is heard as the end hears the packet
    heard_is : heard_in_line side number (journal_of history) (air_line station channel octets hearing) ≡ to_hear listens received_too turn.slot link
    heard_is =
        append_cancel_left (seen_in_link number side link) (heard_at_air number side history station channel octets hearing)
        (to_hear listens received_too turn.slot link)
        (ap (λ xs. xs ++ heard_at_air number side history station channel octets hearing) (sym seen)
        ∙ sym (packet_seen words number side station channel octets history (hearing ∷ []) hearing refl) ∙ seen_too)

    -- an end that hears nothing new
    unheard : to_hear listens received_too turn.slot link ≡ [] → left_taking listens received_too turn.slot link ≡ (facts_in link).leaving
        → left_taking listens received turn.slot link ≡ (facts_in link).leaving → IsLeftAt words unsent_too received_too handle turn link number side after
    unheard none now before = record {
      leaving = was.leaving;
      on = other_still words number side history station channel octets hearing (heard_is ∙ none) apart ∙ was.on;
      is = ap (λ b. leaving_sent_if b was.leaving) sent ∙ was.is ∙ before ∙ sym now;
    }

    module _ (on : listens ≡ true) (got : List ℕ) (some : received_too ≡ Some got) where
      none_sent : (unsent && sends_under handle turn.doing) ≡ false
      none_sent = ap (λ b. unsent && b) (listener_sends handle turn.doing on) ∙ and_none unsent

      hears : to_hear listens received_too turn.slot link ≡ heard_as (verdict_of link.setup (facts_in link) got) turn.slot got
      hears = λ i. to_hear (on i) (some i) turn.slot link

      taking_is : left_taking listens received_too turn.slot link ≡ leaving_hearing link.setup.link.role turn.slot (good_pdu link.setup (facts_in link) got) (facts_in link)
      taking_is = λ i. left_taking (on i) (some i) turn.slot link

      good_then : (pdu : List ℕ) → verdict_of link.setup (facts_in link) got ≡ Good → good_pdu link.setup (facts_in link) got ≡ Some pdu
          → IsLeftAt words unsent_too received_too handle turn link number side after
      good_then pdu is good =
          let setup = link.setup in
          let facts = facts_in link in
          let before = exchange_at number history side in
          let later = exchange_at number after side in
          let line = sent_line_at number history side in
          let counts = plain unsent received handle turn link before (listener_sends handle turn.doing on) silent counted in
          let counts_too = taking_counts unsent_too received_too got handle turn link later on some counted_too in
          let now = step_facts link (PacketReceived turn.slot got false) in
          let told = told_by setup link.past turn.slot got pdu false before later line good counts.acked
          (counts_too.acked ∙ ap (λ (f : EndFacts). f.acknowledgement.acked) now) (counts_too.sent ∙ ap (λ (f : EndFacts). length f.acknowledgement.sent) now)
          lined.last (fixes on) in record {
            leaving = leaving_hearing setup.link.role turn.slot (Some pdu) facts;
            on = heard_moves words number side history station channel octets hearing turn.slot got facts.leaving (heard_is ∙ hears ∙ ap (λ v. heard_as v turn.slot got) is)
                (whole words unsent received handle turn link number side history none_sent silent was)
                ∙ ap Some (hearing_told turn.slot setup facts before later (pdu_carried line before.acked) pdu told);
            is = ap (λ b. leaving_sent_if b (leaving_hearing setup.link.role turn.slot (Some pdu) facts)) (sent ∙ none_sent)
                ∙ ap (λ may. leaving_hearing setup.link.role turn.slot may facts) (sym good) ∙ sym taking_is;
          }

      forged_then : verdict_of link.setup (facts_in link) got ≡ Forged → IsLeftAt words unsent_too received_too handle turn link number side after
      forged_then is =
          let facts = facts_in link in
          let none = forged_none link.setup facts got (forged_is link.setup facts got is) in record {
            leaving = facts.leaving;
            on = forged_still words number side history station channel octets hearing facts.leaving (heard_is ∙ hears ∙ ap (λ v. heard_as v turn.slot got) is)
                (whole words unsent received handle turn link number side history none_sent silent was);
            is = ap (λ b. leaving_sent_if b facts.leaving) (sent ∙ none_sent)
                ∙ ap (λ may. leaving_hearing link.setup.link.role turn.slot may facts) (sym none) ∙ sym taking_is;
          }

      taken_as : (verdict : Verdict) → verdict_of link.setup (facts_in link) got ≡ verdict → is_handed verdict ≡ true
          → IsLeftAt words unsent_too received_too handle turn link number side after
      taken_as Good is handed =
          let has = good_has link.setup (facts_in link) got (ap is_good is) in
          good_then has.pdu is has.is
      taken_as Forged is handed = forged_then is
      taken_as Missed is handed = absurd cc
      taken_as Broken is handed = absurd cc

      taken_then : IsLeftAt words unsent_too received_too handle turn link number side after
      taken_then = taken_as (verdict_of link.setup (facts_in link) got) refl (handed_too got on some)

    pub other_left : IsLeftAt words unsent_too received_too handle turn link number side after
    other_left = by listens refl received_too refl
      where
        by : (on : Bool) → listens_under handle turn.doing ≡ on → (may : Option (List ℕ)) → received_too ≡ may → IsLeftAt words unsent_too received_too handle turn link number side after
        by false off may is =
            unheard (ap (λ b. to_hear b received_too turn.slot link) off) (ap (λ b. left_taking b received_too turn.slot link) off) (ap (λ b. left_taking b received turn.slot link) off)
        by true on None none =
            unheard (λ i. to_hear (on i) (none i) turn.slot link) (λ i. left_taking (on i) (none i) turn.slot link) (λ i. left_taking (on i) (silent on i) turn.slot link)
        by true on (Some got) some = taken_then on got some
