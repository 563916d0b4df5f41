-- A packet on the air moves the event of the end that sends it and of the end that hears it.
use Rattle.std.proofs.Common.{◌≡◌, ℕ, ◌&&◌, Bool, true, false, Option, Some, None, List, [], ◌∷◌, ◌++◌, refl, sym, ap, ◌∙◌}
use Rattle.std.proofs.lemmas.List.{append_cancel_left}
use Rattle.ble_base.specs.declared.roles.Side.{Side}
use Rattle.ble_base.specs.declared.verdicts.Verdict.{Verdict}
use Rattle.data_pdu.specs.Header.{header_in}
use Rattle.ble_base.specs.declared.verdicts.Verdict.TheVariants.{Broken, Forged, Good, Missed}
use Rattle.journal_sending.specs.journal_leaving.controller_model.declared.doing.Turn.{Turn}
use Rattle.journal_sending.specs.journal_leaving.journal_acks.link_calls.Uses.{listens_under, sends_under}
use Rattle.journal_sending.specs.journal_leaving.journal_ends.Asked.{Words}
use Rattle.journal_sending.specs.journal_leaving.journal_ends.Seen.{heard_as, heard_in_line}
use Rattle.journal_sending.specs.journal_leaving.link_model.Facts.{keyed_of}
use Rattle.journal_sending.specs.journal_leaving.link_model.Packets.{good_pdu, verdict_of, more_sent}
use Rattle.journal_sending.specs.journal_leaving.journal_data.open_links.OpenLinks.{OpenLink, facts_in, link_after}
use Rattle.journal_sending.specs.journal_leaving.run_model.History.{Event, Hearing, is_good, is_handed}
use Rattle.journal_sending.specs.journal_leaving.run_model.Journal.{journal_of}
use Rattle.journal_sending.proofs.journal_leaving.journal_controls.EventMoves.{air_line, aired, keyed_at, turn_at}
use Rattle.journal_sending.proofs.journal_leaving.journal_controls.GoodPackets.{good_has}
use Rattle.journal_sending.proofs.journal_leaving.link_model.KeyedSteps.{forged_none}
use Rattle.journal_sending.proofs.journal_leaving.journal_acks.AirCounts.{listener_off}
use Rattle.journal_sending.proofs.journal_leaving.journal_acks.HandedOn.{forged_is}
use Rattle.journal_sending.proofs.journal_leaving.journal_acks.Standing.{listener_sends}
use Rattle.journal_sending.proofs.journal_leaving.journal_ends.SeenCalls.{seen_in_link, to_hear}
use Rattle.journal_sending.proofs.journal_leaving.journal_ends.SeenEvents.{heard_at_air, packet_seen, seen_at}
use Rattle.journal_sending.proofs.journal_leaving.journal_ends.run_laws.Agreed.{step_facts}
use Rattle.journal_sending.specs.journal_leaving.Leaving.{is_own_packet}
use Rattle.journal_sending.specs.journal_leaving.link_model.Step.{PacketSent}
use Rattle.journal_sending.specs.journal_leaving.journal_acks.link_calls.Turns.{sent_if}
use Rattle.journal_slots.specs.SecondSlot.{has_more}
use Rattle.journal_events.specs.EventLines.{event_hearing, event_sending}
use Rattle.journal_events.specs.Told.{event_lines, event_reached, event_taking}
use Rattle.journal_events.proofs.EndEvents.{sent_event}
use Rattle.journal_events.proofs.EventMoves.{event_at, forged_still, heard_moves, other_still, own_moves}
use Rattle.journal_events.proofs.EventEnds.{IsEventAt, and_none, whole}

-- ---- one end

module _ (words : Words) (number : ℕ) (side : Side) (history : List Event) (station channel : ℕ) (octets : List ℕ) (hearing : Hearing)
    (received received_too : Option (List ℕ)) (handle : ℕ) (turn : Turn) (link : OpenLink) (unsent unsent_too : Bool)
    (silent : listens_under handle turn.doing ≡ true → received ≡ None) (was : IsEventAt words unsent received handle turn link number side history) where
  abbrev after : List Event
  after = aired words number side history station channel octets hearing

  -- its own packet
  pub own_event : is_own_packet side number (journal_of history) (air_line station channel octets hearing) ≡ true → unsent ≡ true → unsent_too ≡ false
      → sends_under handle turn.doing ≡ true → turn_at history ≡ turn.slot → has_more channel octets ≡ more_sent (facts_in was.base)
      → IsEventAt words unsent_too received_too handle turn link number side after
  own_event own before now sends slot says =
      let deaf = listener_off handle turn sends (listens_under handle turn.doing) refl in
      let is : link ≡ link_after (PacketSent turn.slot) was.base =
      was.is ∙ (λ i. sent_if (before i && sends i) turn.slot was.base) in record {
        base = link;
        is = ap (λ b. sent_if (b && sends_under handle turn.doing) turn.slot link) (sym now);
        on = own_moves words number side history station channel octets hearing own
            ∙ (λ i. event_sending (slot i) (says i) ((was.on ∙ (λ j. event_taking (deaf j) received turn.slot was.base)) i))
            ∙ sym (sent_event turn.slot (facts_in was.base))
            ∙ sym (ap event_lines (ap (λ (l : OpenLink). facts_in l) is ∙ step_facts was.base (PacketSent turn.slot)))
            ∙ (λ i. event_taking (sym deaf i) received_too turn.slot link);
      }

  module _ (apart : is_own_packet side number (journal_of history) (air_line station channel octets hearing) ≡ false)
      (handed_too : (got : List ℕ) → listens_under handle turn.doing ≡ true → received_too ≡ Some got → is_handed (verdict_of link.setup (facts_in link) got) ≡ true)
      (says : (got pdu : List ℕ) → listens_under handle turn.doing ≡ true → received_too ≡ Some got → good_pdu link.setup (facts_in link) got ≡ Some pdu
      → (header_in pdu).md ≡ has_more channel octets)
      (sent : (unsent_too && sends_under handle turn.doing) ≡ (unsent && sends_under handle turn.doing))
      (seen : seen_at words number side history ≡ seen_in_link number side link)
      (seen_too : seen_at words number side (aired words number side history station channel octets hearing) ≡ seen_in_link number side link ++ to_hear (listens_under handle turn.doing) received_too turn.slot link)
      (keyed : keyed_at words number side history ≡ Some (keyed_of (facts_in link))) where
    abbrev listens : Bool
    listens = listens_under handle turn.doing

    -- the line is heard as the end hears the packet
    heard_is : heard_in_line side number (journal_of history) (air_line station channel octets hearing) ≡ to_hear listens received_too turn.slot link
    heard_is =
        append_cancel_left (seen_in_link number side link) (heard_at_air number side history station channel octets hearing)
        (to_hear listens received_too turn.slot link)
        (ap (λ xs. xs ++ heard_at_air number side history station channel octets hearing) (sym seen)
        ∙ sym (packet_seen words number side station channel octets history (hearing ∷ []) hearing refl) ∙ seen_too)

    -- it is the same link, which sends as it did
    same_base : link ≡ sent_if (unsent_too && sends_under handle turn.doing) turn.slot was.base
    same_base = was.is ∙ ap (λ b. sent_if b turn.slot was.base) (sym sent)

    -- an end that hears nothing new
    unheard : to_hear listens received_too turn.slot link ≡ [] → event_taking listens received_too turn.slot was.base ≡ event_lines (facts_in was.base)
        → event_taking listens received turn.slot was.base ≡ event_lines (facts_in was.base) → IsEventAt words unsent_too received_too handle turn link number side after
    unheard none now before = record {
      base = was.base;
      is = same_base;
      on = other_still words number side history station channel octets hearing (heard_is ∙ none) apart ∙ was.on ∙ before ∙ sym now;
    }

    module _ (on : listens ≡ true) (got : List ℕ) (some : received_too ≡ Some got) where
      none_sent : (unsent && sends_under handle turn.doing) ≡ false
      none_sent = ap (λ b. unsent && b) (listener_sends handle turn.doing on) ∙ and_none unsent

      hears : to_hear listens received_too turn.slot link ≡ heard_as (verdict_of link.setup (facts_in link) got) turn.slot got
      hears = λ i. to_hear (on i) (some i) turn.slot link

      here : event_at words number side history ≡ event_lines (facts_in link)
      here = whole words unsent received handle turn link number side history none_sent silent was

      taking_is : event_taking listens received_too turn.slot link ≡ event_reached turn.slot (good_pdu link.setup (facts_in link) got) (facts_in link)
      taking_is = λ i. event_taking (on i) (some i) turn.slot link

      at_link : event_at words number side after ≡ event_reached turn.slot (good_pdu link.setup (facts_in link) got) (facts_in link)
          → IsEventAt words unsent_too received_too handle turn link number side after
      at_link is = record {
        base = link;
        is = sym (ap (λ b. sent_if b turn.slot link) (sent ∙ none_sent));
        on = is ∙ sym taking_is;
      }

      good_then : (pdu : List ℕ) → verdict_of link.setup (facts_in link) got ≡ Good → good_pdu link.setup (facts_in link) got ≡ Some pdu
          → IsEventAt words unsent_too received_too handle turn link number side after
      good_then pdu is good =
          at_link (heard_moves words number side history station channel octets hearing (keyed_of (facts_in link)) keyed turn.slot got (heard_is ∙ hears ∙ ap (λ v. heard_as v turn.slot got) is)
          ∙ (λ i. event_hearing turn.slot (sym (says got pdu on some good) i) (here i))
          ∙ ap (λ may. event_reached turn.slot may (facts_in link)) (sym good))

      forged_then : verdict_of link.setup (facts_in link) got ≡ Forged → IsEventAt words unsent_too received_too handle turn link number side after
      forged_then is =
          let facts = facts_in link in
          let none = forged_none link.setup facts got (forged_is link.setup facts got is) in
          at_link (forged_still words number side history station channel octets hearing (keyed_of facts) keyed (heard_is ∙ hears ∙ ap (λ v. heard_as v turn.slot got) is)
          ∙ here ∙ ap (λ may. event_reached turn.slot may facts) (sym none))

      taken_as : (verdict : Verdict) → verdict_of link.setup (facts_in link) got ≡ verdict → is_handed verdict ≡ true
          → IsEventAt words unsent_too received_too handle turn link number side after
      taken_as Good is handed =
          let has = good_has link.setup (facts_in link) got (ap is_good is) in
          good_then has.pdu is has.is
      taken_as Forged is handed = forged_then is
      taken_as Missed is handed = absurd cc
      taken_as Broken is handed = absurd cc

      taken_then : IsEventAt words unsent_too received_too handle turn link number side after
      taken_then = taken_as (verdict_of link.setup (facts_in link) got) refl (handed_too got on some)

    pub other_event : IsEventAt words unsent_too received_too handle turn link number side after
    other_event = by listens refl received_too refl
      where
        by : (on : Bool) → listens_under handle turn.doing ≡ on → (may : Option (List ℕ)) → received_too ≡ may → IsEventAt words unsent_too received_too handle turn link number side after
        by false off may is =
            unheard (ap (λ b. to_hear b received_too turn.slot link) off) (ap (λ b. event_taking b received_too turn.slot was.base) off) (ap (λ b. event_taking b received turn.slot was.base) off)
        by true on None none =
            unheard (λ i. to_hear (on i) (none i) turn.slot link) (λ i. event_taking (on i) (none i) turn.slot was.base) (λ i. event_taking (on i) (silent on i) turn.slot was.base)
        by true on (Some got) some = taken_then on got some
