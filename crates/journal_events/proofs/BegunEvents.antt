-- Once a station has begun its turn, each of its links that stay open is, by the journal, in the event that it entered
-- last.
use Rattle.std.proofs.Common.{◌≡◌, ℕ, Bool, true, false, Option, Some, None, List, ◌∷◌, ◌++◌, sym, ap, ◌∙◌}
use Rattle.std.proofs.lemmas.Option.{same_Some}
use Rattle.ble_base.specs.declared.roles.Side.{Side}
use Rattle.journal_sending.specs.journal_leaving.controller_model.Facts.{Facts}
use Rattle.journal_sending.specs.journal_leaving.controller_model.Links.{facts_ending}
use Rattle.journal_sending.specs.journal_leaving.controller_model.Side.{facts_after}
use Rattle.journal_sending.specs.journal_leaving.controller_model.Step.{TurnBegins}
use Rattle.journal_sending.specs.journal_leaving.controller_model.declared.doing.Turn.{Turn}
use Rattle.journal_sending.specs.journal_leaving.journal_acks.link_calls.Turns.{sent_if}
use Rattle.journal_sending.specs.journal_leaving.journal_acks.link_calls.Uses.{listens_under, sends_under}
use Rattle.journal_sending.specs.journal_leaving.journal_data.open_links.OpenLinks.{OpenLink, facts_in, link_at}
use Rattle.journal_sending.specs.journal_leaving.journal_data.open_links.Turns.{link_entered}
use Rattle.journal_sending.specs.journal_leaving.journal_ends.Asked.{Words}
use Rattle.journal_sending.specs.journal_leaving.journal_ends.GivenWords.{GivesWords}
use Rattle.journal_sending.specs.journal_leaving.run_model.History.{Event, Called, packet_received}
use Rattle.journal_sending.specs.journal_leaving.run_model.Journal.{side_of}
use Rattle.journal_sending.specs.journal_leaving.run_model.LinkEnds.{HaveAddresses}
use Rattle.journal_sending.specs.journal_leaving.run_model.Run.{Given, after_call, facts_at, history_of, run_of, setup_at}
use Rattle.journal_sending.proofs.journal_leaving.journal_acks.Exchanging.{number_at}
use Rattle.journal_sending.proofs.journal_leaving.journal_acks.TwoStations.{IsOfTwo}
use Rattle.journal_sending.proofs.journal_leaving.journal_acks.link_calls.LinkCalls.{begins_under, turn_begun_under}
use Rattle.journal_sending.proofs.journal_leaving.journal_acks.link_calls.UnderHandles.{same_base}
use Rattle.journal_sending.proofs.journal_leaving.journal_ends.run_laws.DistinctAccess.{AreApart}
use Rattle.journal_sending.proofs.journal_leaving.journal_ends.run_laws.Hearings.{own_facts}
use Rattle.journal_sending.proofs.journal_leaving.journal_packets.AccessOrder.{AreNth}
use Rattle.journal_sending.proofs.journal_leaving.link_model.Hearing.{IsHeardWhole}
use Rattle.journal_sending.proofs.journal_leaving.run_model.LinkEnds.{AreTaken, IsUnderstood}
use Rattle.journal_sending.proofs.journal_leaving.run_model.Stations.{is_in}
use Rattle.journal_events.specs.Told.{event_lines}
use Rattle.journal_events.proofs.BegunLinks.{begun_open, has_stayed}
use Rattle.journal_events.proofs.BegunPlaces.{HasBegunAt, begun_at}
use Rattle.journal_events.proofs.EventEnds.{IsEventAt, takes_none}
use Rattle.journal_events.proofs.EventMoves.{event_at}
use Rattle.journal_events.proofs.KeptEvents.{AreEventsAt, events_first, events_kept}
use Rattle.journal_events.proofs.LinkEvents.{begun_event}

-- what becomes of a link that stays open as a turn begins
pub record IsBegunAs (words : Words) (given : Given) (station slot handle : ℕ) (after : List Event)
    (link : OpenLink) : Type 0 where
  pub now : OpenLink
  pub is_open : link_at handle (facts_at given station after).links ≡ Some now
  pub setup_is : now.setup ≡ link.setup
  pub event : event_at words (number_at station handle after) (side_of station) after
      ≡ event_lines (facts_in (link_entered slot link))

-- one link is what sent its packet, or sent none
sent_same : (sends sends_too : Bool) (slot now : ℕ) (one other link : OpenLink) → sends_too ≡ sends
    → link ≡ sent_if sends_too slot one → link ≡ sent_if sends now other → one ≡ other
sent_same sends sends_too slot now one other link alike is is_too =
    by sends (ap (λ b. sent_if b slot one) (sym alike) ∙ sym is ∙ is_too)
  where
    by : (sent : Bool) → sent_if sent slot one ≡ sent_if sent now other → one ≡ other
    by true same = same_base slot now one other same
    by false same = same

-- an end that has no packet to take
untaken : (words : Words) (unsent : Bool) (received : Option (List ℕ)) (handle : ℕ) (turn : Turn) (link : OpenLink)
    (number : ℕ) (side : Side) (history : List Event) → received ≡ None
    → (is : IsEventAt words unsent received handle turn link number side history)
    → event_at words number side history ≡ event_lines (facts_in is.base)
untaken words unsent received handle turn link number side history none is =
    is.on ∙ takes_none (listens_under handle turn.doing) received turn.slot is.base (λ listens. none)

module _ (words : Words) (heard_whole : IsHeardWhole) (understood : IsUnderstood) (taken : AreTaken) (nth : AreNth)
    (apart : AreApart) (given : Given) (are_two : IsOfTwo given) (six : HaveAddresses given)
    (gives : GivesWords given words) where
  pub events_begun : (station slot : ℕ) (on : Bool) (base rest : List Event)
      → history_of (run_of given) ≡ base ++ Called station (TurnBegins slot on) ∷ rest
      → HasBegunAt given (AreEventsAt words given) station slot on base
  events_begun =
      begun_at given (AreEventsAt words given)
      (events_kept words heard_whole understood taken nth apart given are_two six gives) (events_first words given)

  pub event_begun : (station slot : ℕ) (on : Bool) (base rest : List Event) → is_in station given.stations ≡ true
      → history_of (run_of given) ≡ base ++ Called station (TurnBegins slot on) ∷ rest
      → (handle : ℕ) (link : OpenLink)
      → link_at handle (facts_ending slot (facts_at given station base)).links ≡ Some link
      → IsBegunAs words given station slot handle (after_call given station (TurnBegins slot on) base) link
  event_begun station slot on base rest in_it at handle link is_open =
      let step = TurnBegins slot on in
      let setup = setup_at given station in
      let facts = facts_at given station base in
      let next = facts_after setup facts step in
      let after = after_call given station step base in
      let place = (events_begun station slot on base rest at).is in
      let own = own_facts given station step base in
      let stayed = has_stayed facts slot handle link is_open in
      let found = begun_open setup facts slot on handle link is_open in
      let here = ap (λ (f : Facts). link_at handle f.links) own ∙ found.was in
      let turned = turn_begun_under setup facts slot on handle found.link found.was in
      let begun = begins_under setup facts slot on handle found.link found.was in
      let event = place.events station handle found.link in_it here in
      let turn : Turn = (facts_at given station after).turn in
      let base_is : event.base ≡ begun.base =
      sent_same (sends_under handle next.turn.doing) (sends_under handle turn.doing) turn.slot slot event.base
      begun.base found.link
      (ap (λ (f : Facts). sends_under handle f.turn.doing) own) event.is begun.is in record {
        now = found.link;
        is_open = here;
        setup_is = turned.setup_is
            ∙ ap (λ (l : OpenLink). l.setup) (same_Some turned.link link (sym turned.was ∙ stayed.was));
        event = untaken words true (packet_received station after) handle turn found.link
            (number_at station handle after) (side_of station) after
            (place.controls.seen.holds.hearing.hears station in_it) event
            ∙ ap (λ (l : OpenLink). event_lines (facts_in l)) base_is
            ∙ begun_event facts slot on handle next.turn.doing found.link begun
            ∙ ap (λ (l : OpenLink). event_lines (facts_in (link_entered slot l)))
            (same_Some begun.link link (sym begun.was ∙ stayed.was));
      }
