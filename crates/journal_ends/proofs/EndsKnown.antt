-- What is known of the open ends of links at each place of a run of two stations.
use Rattle.std.proofs.Common.{◌≡◌, ℕ, ◌==◌, true, false, Some, List, ◌∷◌, ◌++◌, take}
use Rattle.std.proofs.lemmas.Bool.{eqb-true, eqb-false, false_from_ne_true}
use Rattle.air_frame.specs.Packet.{access_octets}
use Rattle.journal_acks.specs.controller_model.Since.{notes_opened_on}
use Rattle.journal_acks.specs.journal_links.Begun.{links_begun}
use Rattle.journal_acks.specs.journal_links.LinkLines.{AreLinesOf}
use Rattle.journal_acks.specs.journal_links.Opened.{central_side}
use Rattle.journal_acks.specs.journal_packets.Belonging.{first_number}
use Rattle.journal_acks.specs.open_links.OpenLinks.{OpenLink, link_at}
use Rattle.journal_acks.specs.run_model.Feeding.{AreDistinct, HasNoted, is_note}
use Rattle.journal_acks.specs.run_model.History.{Event}
use Rattle.journal_acks.specs.run_model.Journal.{journal_of, side_of}
use Rattle.journal_acks.specs.run_model.LinkEnds.{HaveAddresses}
use Rattle.journal_acks.specs.run_model.Numbers.{AreNumbered}
use Rattle.journal_acks.specs.run_model.Run.{Given, facts_at, history_of, run_of}
use Rattle.journal_acks.proofs.journal_links.LineNotes.{lines_of_end}
use Rattle.journal_acks.proofs.journal_links.OfTwo.{are_distinct, of_two_stations, two_apart}
use Rattle.journal_acks.proofs.journal_packets.AccessOrder.{AreNth}
use Rattle.journal_acks.proofs.journal_packets.SoFar.{IsBelongingSoFar, belonging_kept}
use Rattle.journal_acks.proofs.run_laws.DistinctAccess.{AreApart}
use Rattle.journal_acks.proofs.run_laws.OpenedOnce.{opened_once}
use Rattle.journal_acks.proofs.run_model.Fronts.{front_at}
use Rattle.journal_acks.proofs.run_model.LinkEnds.{AreTaken, IsUnderstood}
use Rattle.journal_acks.proofs.run_model.Notes.{NotedBefore, run_noted}
use Rattle.journal_acks.proofs.run_model.Numbers.{numbered_at}
use Rattle.journal_acks.proofs.run_model.Places.{each_at}
use Rattle.journal_acks.proofs.run_model.Stations.{is_in}
use Rattle.journal_acks.proofs.run_model.Walk.{IsKept, Place}
use Rattle.journal_acks.proofs.Counting.{IsBegun, one_begun}
use Rattle.journal_acks.proofs.Exchanging.{number_at}
use Rattle.journal_acks.proofs.Known.{begun_as, fits_first}
use Rattle.journal_acks.proofs.TwoStations.{IsOfTwo}

-- the lines of each open end are its notes
abbrev pub AreLined : Given → List Event → Type 0
AreLined given history = (station handle : ℕ) (link : OpenLink) → is_in station given.stations ≡ true → link_at handle (facts_at given station history).links ≡ Some link
    → AreLinesOf (journal_of history) station (number_at station handle history) (notes_opened_on link.setup link.past)

module _ (understood : IsUnderstood) (taken : AreTaken) (given : Given) (are_two : IsOfTwo given) (six : HaveAddresses given) where
  distinct : AreDistinct given.stations
  distinct = are_distinct given are_two

  pub known_kept : IsKept given (IsBelongingSoFar given)
  known_kept = belonging_kept understood taken given are_two six

  lined_by : (history rest : List Event) → history_of (run_of given) ≡ history ++ rest → AreNumbered given history → ((station : ℕ) → HasNoted given station history) → AreLined given history
  lined_by history rest is numbered noted = λ station handle link in_it is_open.
      lines_of_end understood taken given distinct six station (two_apart given are_two station in_it) history rest handle link is numbered (noted station) is_open

  pub lined_at : (place : Place) (history : List Event) → IsBelongingSoFar given place history → AreLined given history
  lined_at place history known =
      let front = front_at given place history known.front in lined_by history front.rest front.at known.numbered.numbered known.noted.noted

  -- before any event that is no note
  pub lined_before : (history rest : List Event) (event : Event) → history_of (run_of given) ≡ history ++ event ∷ rest → is_note event ≡ false → AreLined given history
  lined_before history rest event is outside =
      lined_by history (event ∷ rest) is (numbered_at understood taken given history rest event distinct six is outside)
      (each_at (NotedBefore given) (history_of (run_of given)) history rest event (run_noted given).each is outside)

module _ (given : Given) (are_two : IsOfTwo given) (place : Place) (history : List Event) (known : IsBelongingSoFar given place history) where
  -- an open end is one of the link of the journal with its number
  pub begun_at : (station handle : ℕ) (link : OpenLink) → link_at handle (facts_at given station history).links ≡ Some link
      → IsBegun history (number_at station handle history) station link.setup
  begun_at station handle link is_open =
      begun_as history (number_at station handle history) station link.setup known.asked.sent (known.numbered.numbered station handle link is_open)

  -- the first link of its central that begins with its access address is its own
  pub fits_at : AreNth → AreApart → (station handle : ℕ) (link : OpenLink) (octets : List ℕ) → is_in station given.stations ≡ true
      → link_at handle (facts_at given station history).links ≡ Some link → take 4 octets ≡ access_octets link.setup.link.fields.access
      → first_number (central_side link.setup.link.role (side_of station)) octets 1 (links_begun (journal_of history)) ≡ Some (number_at station handle history)
  fits_at nth apart station handle link octets in_it is_open begins =
      fits_first history (number_at station handle history) station link.setup known.asked.sent (known.numbered.numbered station handle link is_open)
      nth apart given known.asked.counted.each octets
      (of_two_stations given are_two station in_it) begins

  -- the open links of a station have numbers of their own
  pub own_numbers : (station one other : ℕ) (a b : OpenLink) → is_in station given.stations ≡ true → link_at one (facts_at given station history).links ≡ Some a
      → link_at other (facts_at given station history).links ≡ Some b → (one == other) ≡ false → (number_at station one history == number_at station other history) ≡ false
  own_numbers station one other a b in_it is is_too differs =
      false_from_ne_true (number_at station one history == number_at station other history) (λ same.
      let front = front_at given place history known.front in
      let both = one_begun history (number_at station one history) (number_at station other history) station station a b
      (eqb-true (number_at station one history) (number_at station other history) same) (begun_at station one a is) (begun_at station other b is_too) in
      eqb-false one other differs (opened_once given history front.rest station one other a b (are_distinct given are_two) in_it front.at is is_too both.opened))
