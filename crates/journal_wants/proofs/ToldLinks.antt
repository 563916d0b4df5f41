-- Once a station has begun its turn, the lines tell of each of its open links that has entered an event what it is.
use Rattle.std.proofs.Common.{◌≡◌, ℕ, Bool, true, Option, Some, None, List, ◌∷◌, ◌++◌, cond, sym, ap, ◌∙◌}
use Rattle.std.specs.Prelude.{is_some}
use Rattle.journal_events.specs.journal_sending.controller_model.Links.{facts_ending}
use Rattle.journal_events.specs.journal_sending.controller_model.Step.{TurnBegins}
use Rattle.journal_events.specs.journal_sending.journal_controls.journal_ends.Asked.{Words}
use Rattle.journal_events.specs.journal_sending.journal_controls.journal_ends.GivenWords.{GivesWords}
use Rattle.journal_events.specs.journal_sending.journal_data.Held.{links_open}
use Rattle.journal_events.specs.journal_sending.journal_data.HostLines.{link_under}
use Rattle.journal_events.specs.journal_sending.journal_data.open_links.OpenLinks.{OpenLink, has_entered, link_at}
use Rattle.journal_events.specs.journal_sending.journal_data.open_links.Turns.{link_entered}
use Rattle.journal_events.specs.journal_sending.journal_links.Changes.{role_by}
use Rattle.journal_events.specs.journal_sending.run_model.History.{Event, Called}
use Rattle.journal_events.specs.journal_sending.run_model.Journal.{journal_of, side_of}
use Rattle.journal_events.specs.journal_sending.run_model.LinkEnds.{HaveAddresses}
use Rattle.journal_events.specs.journal_sending.run_model.Run.{Given, after_call, facts_at, history_of, run_of, setup_at}
use Rattle.journal_events.proofs.journal_sending.journal_acks.Exchanging.{number_at}
use Rattle.journal_events.proofs.journal_sending.journal_acks.Known.{known_of}
use Rattle.journal_events.proofs.journal_sending.journal_acks.TwoStations.{IsOfTwo}
use Rattle.journal_events.proofs.journal_sending.journal_data.EachLine.{lines_at, numbers_at}
use Rattle.journal_events.proofs.journal_sending.journal_data.FewLinks.{HaveFewLinks}
use Rattle.journal_events.proofs.journal_sending.journal_data.HeldLinks.{under_is}
use Rattle.journal_events.proofs.journal_sending.journal_data.KeptData.{IsDataAt, data_kept}
use Rattle.journal_events.proofs.journal_sending.journal_data.Law.{first_data}
use Rattle.journal_events.proofs.journal_sending.journal_data.NumberedEnds.{IsNumberedEnd, numbered_end}
use Rattle.journal_events.proofs.journal_sending.journal_data.Openness.{is_open}
use Rattle.journal_events.proofs.journal_sending.journal_data.StationLines.{IsStationBooked}
use Rattle.journal_events.proofs.journal_sending.journal_data.open_links.Unmoved.{entered_setup}
use Rattle.journal_events.proofs.journal_sending.journal_data.run_laws.DistinctAccess.{AreApart}
use Rattle.journal_events.proofs.journal_sending.journal_leaving.link_model.Hearing.{IsHeardWhole}
use Rattle.journal_events.proofs.journal_sending.journal_links.ChangesAt.{role_is}
use Rattle.journal_events.proofs.journal_sending.journal_links.OfTwo.{are_distinct, of_two_stations}
use Rattle.journal_events.proofs.journal_sending.journal_packets.AccessOrder.{AreNth}
use Rattle.journal_events.proofs.journal_sending.journal_packets.SoFar.{IsBelongingSoFar}
use Rattle.journal_events.proofs.journal_sending.run_model.LinkEnds.{AreTaken, IsUnderstood}
use Rattle.journal_events.proofs.journal_sending.run_model.Stations.{is_in}
use Rattle.journal_events.specs.EventLines.{goes_on, slots_held}
use Rattle.journal_events.proofs.BegunEvents.{event_begun}
use Rattle.journal_events.proofs.BegunPlaces.{HasBegunAt, begun_at}
use Rattle.journal_wants.proofs.LinkedStation.{IsToldOf}

-- an open link is under its handle, by its number
pub link_is_under : (given : Given) (history : List Event) (station handle : ℕ) (link : OpenLink)
    → IsStationBooked given station history
    → link_at handle (facts_at given station history).links ≡ Some link
    → link_under handle (links_open (side_of station) (journal_of history)) ≡ Some (number_at station handle history)
link_is_under given history station handle link booked at =
    under_is (setup_at given station).links (lines_at station history).links (numbers_at station history)
    (is_open (facts_at given station history).links)
    booked.links handle
    ∙ ap (λ (place : Option OpenLink). cond (is_some place) (Some (number_at station handle history)) None) at

module _ (words : Words) (heard_whole : IsHeardWhole) (understood : IsUnderstood) (taken : AreTaken) (nth : AreNth)
    (apart : AreApart) (given : Given) (are_two : IsOfTwo given)
    (few_links : HaveFewLinks given) (six : HaveAddresses given) (gives : GivesWords given words)
    (eight : (station : ℕ) → (setup_at given station).host_buffers ≡ 8) where
  pub data_begun : (station slot : ℕ) (on : Bool) (base rest : List Event)
      → history_of (run_of given) ≡ base ++ Called station (TurnBegins slot on) ∷ rest
      → HasBegunAt given (IsDataAt given (IsBelongingSoFar given)) station slot on base
  data_begun =
      begun_at given (IsDataAt given (IsBelongingSoFar given))
      (data_kept heard_whole given (IsBelongingSoFar given) (known_of understood taken nth apart given are_two six)
      are_two few_links six (are_distinct given are_two) eight)
      (first_data given)

  pub told_entered : (station slot : ℕ) (on : Bool) (base rest : List Event) → is_in station given.stations ≡ true
      → history_of (run_of given) ≡ base ++ Called station (TurnBegins slot on) ∷ rest
      → (handle : ℕ) (link : OpenLink)
      → link_at handle (facts_ending slot (facts_at given station base)).links ≡ Some link
      → has_entered (link_entered slot link) ≡ true
      → IsToldOf words (side_of station) (journal_of (after_call given station (TurnBegins slot on) base))
      handle (link_entered slot link)
  told_entered station slot on base rest in_it at handle link is_open entered =
      let side = side_of station in
      let after = after_call given station (TurnBegins slot on) base in
      let place = (data_begun station slot on base rest at).is in
      let known = place.counted.known in
      let begun = event_begun words heard_whole understood taken nth apart given are_two six gives
      station slot on base rest in_it at handle link is_open in
      let number = number_at station handle after in
      let end : IsNumberedEnd after number station begun.now.setup =
      numbered_end after number station begun.now.setup known.asked.sent (of_two_stations given are_two station in_it)
      (known.numbered.numbered station handle begun.now begun.is_open) in record {
        number = number;
        under = link_is_under given after station handle begun.now (place.are.well station in_it).booked begun.is_open;
        begun = end.link;
        is_begun = end.is_link;
        role = ap (λ central. role_by central side) end.central_is ∙ role_is begun.now.setup.link.role side
            ∙ ap (λ setup. setup.link.role) (begun.setup_is ∙ sym (entered_setup slot link));
        held = ap slots_held begun.event;
        continues = ap goes_on begun.event;
        entered = entered;
      }
