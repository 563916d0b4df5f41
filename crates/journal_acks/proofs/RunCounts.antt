-- Each end of a link counts as the journal says, before each turn of a run and at its end.
use Rattle.std.proofs.Common.{◌≡◌, ℕ, true, Some, None, Bool, List, [], ◌∷◌, ◌++◌, replicate, ap}
use Rattle.journal_packets.proofs.link_model.Hearing.{IsHeardWhole}
use Rattle.journal_packets.specs.open_links.OpenLinks.{OpenLink, link_at}
use Rattle.journal_packets.specs.controller_model.Side.{facts_of}
use Rattle.link_calls.specs.run_model.Feeding.{AreDistinct}
use Rattle.link_calls.specs.run_model.History.{Event, TurnBegan, packet_received}
use Rattle.link_calls.specs.run_model.Journal.{side_of}
use Rattle.link_calls.specs.run_model.LinkEnds.{HaveAddresses}
use Rattle.link_calls.specs.run_model.Run.{Given, GoesOn, facts_at, history_of, run_of, setup_at}
use Rattle.link_calls.proofs.run_model.LinkEnds.{AreTaken, IsUnderstood}
use Rattle.link_calls.proofs.run_model.Stations.{is_in}
use Rattle.link_calls.proofs.run_model.Walk.{Place, NoTurn, IsKept}
use Rattle.journal_packets.proofs.run_laws.Agreed.{ack_of}
use Rattle.journal_packets.proofs.run_laws.ByCalls.{all_facts, first_hears}
use Rattle.journal_packets.proofs.run_laws.DistinctAccess.{AreApart}
use Rattle.journal_packets.proofs.run_laws.InAgreement.{AreStations, first_station}
use Rattle.journal_packets.proofs.run_laws.OpenSteps.{none_open, open_has}
use Rattle.journal_packets.proofs.run_laws.TurnPlaces.{stands_first}
use Rattle.journal_packets.proofs.AccessOrder.{AreNth}
use Rattle.journal_packets.proofs.SoFar.{IsBelongingSoFar, belonging_first}
use Rattle.journal_acks.specs.Counted.{IsCounted}
use Rattle.journal_acks.proofs.Counting.{AreCountedSo, plain}
use Rattle.journal_acks.proofs.Exchanging.{exchange_at, number_at}
use Rattle.journal_acks.proofs.FirstCounts.{none_first}
use Rattle.journal_acks.proofs.KeptCounts.{AreCountedAt, counts_kept}
use Rattle.journal_acks.proofs.Known.{known_of}
use Rattle.link_calls.specs.Uses.{sends_under}
use Rattle.journal_acks.proofs.Seen.{IsSeen, seen_last, seen_turn}
use Rattle.journal_acks.proofs.Standing.{phased_at}
use Rattle.journal_acks.proofs.TwoStations.{IsOfTwo}

-- each open end counts as the journal says
abbrev pub AreCounted : Given → List Event → Type 0
AreCounted given history = (station handle : ℕ) (link : OpenLink) → is_in station given.stations ≡ true → link_at handle (facts_at given station history).links ≡ Some link
    → IsCounted (exchange_at (number_at station handle history) history (side_of station)) (ack_of link)

-- as a run begins no link is open
first_stations : (given : Given) → AreStations given (all_facts given [])
unfolding facts_of
first_stations given = record { each = λ station in_it. first_station (setup_at given station) }

none_counted : (given : Given) → AreCountedSo given [] (λ station. true) (λ station. packet_received station [])
unfolding facts_of
none_counted given = λ station handle link in_it at.
    absurd (open_has (λ one. ⊥) 0 handle (replicate (setup_at given station).links None) link (none_open (λ one. ⊥) (setup_at given station).links) at)

pub counts_first : (given : Given) → AreCountedAt given (IsBelongingSoFar given) NoTurn []
counts_first given = record {
  known = belonging_first given;
  holds = record {
    hearing = record { stand = stands_first given; hears = λ station in_it. first_hears given station };
    so_far = record { each = tt; last = first_stations given };
  };
  first = none_first;
  silent = tt;
  to_take = tt;
  counted = none_counted given;
}

-- between two turns nothing is to be sent or taken
pub between_turns : (given : Given) (Q : Place → List Event → Type 0) (history : List Event) → AreCountedAt given Q NoTurn history → AreCounted given history
between_turns given Q history is = λ station handle link in_it at.
    let turn = (facts_at given station history).turn in
    let rests = (phased_at given NoTurn history is.holds.hearing.stand station in_it).phase in
    plain true (packet_received station history) handle turn link (exchange_at (number_at station handle history) history (side_of station)) (ap (sends_under handle) rests)
    (λ listens. is.holds.hearing.hears station in_it) (is.counted station handle link in_it at)

module _ (whole : IsHeardWhole) (understood : IsUnderstood) (taken : AreTaken) (nth : AreNth) (apart : AreApart) (given : Given) (are_two : IsOfTwo given)
    (six : HaveAddresses given) (distinct : AreDistinct given.stations) where
  pub run_counts_kept : IsKept given (AreCountedAt given (IsBelongingSoFar given))
  run_counts_kept = counts_kept whole given (IsBelongingSoFar given) (known_of understood taken nth apart given are_two six) are_two six distinct

  sees : IsSeen given (AreCountedAt given (IsBelongingSoFar given)) (AreCounted given) (λ history station channel octets. Unit {0})
  sees = record {
    turn = between_turns given (IsBelongingSoFar given);
    packet = λ phases done left station channel octets history are wanted is. tt;
  }

  pub counted_before : (before rest : List Event) (slot : ℕ) (radios : List Bool) → history_of (run_of given) ≡ before ++ TurnBegan slot radios ∷ rest → AreCounted given before
  counted_before before rest slot radios at =
      seen_turn given (AreCountedAt given (IsBelongingSoFar given)) run_counts_kept (AreCounted given) (λ history station channel octets. Unit {0}) sees (counts_first given) before rest slot radios at

  pub counted_last : (history : List Event) → run_of given ≡ GoesOn history → AreCounted given history
  counted_last history goes =
      seen_last given (AreCountedAt given (IsBelongingSoFar given)) run_counts_kept (AreCounted given) (λ history station channel octets. Unit {0}) sees (counts_first given) history goes
