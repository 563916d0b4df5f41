-- What is known of the lines of all sides at the places of a run: before each packet, also the one at which damage ends the
-- run, before each turn, and at its end.
use Rattle.std.proofs.Common.{◌≡◌, ℕ, Bool, List, ◌∷◌, ◌++◌}
use Rattle.journal_sending.specs.controller_model.Facts.{Sends}
use Rattle.journal_sending.specs.run_model.History.{Event, Hearing, Transmitted, TurnBegan}
use Rattle.journal_sending.specs.run_model.LinkEnds.{HaveAddresses}
use Rattle.journal_sending.specs.run_model.Run.{Given, GoesOn, Stop, Stops, history_of, run_of, setup_at, use_at}
use Rattle.journal_sending.proofs.journal_acks.Counting.{AreKnown}
use Rattle.journal_sending.proofs.journal_acks.Known.{known_of}
use Rattle.journal_sending.proofs.journal_acks.Seen.{IsSeen, seen_last, seen_packet, seen_stop, seen_turn}
use Rattle.journal_sending.proofs.journal_acks.TwoStations.{IsOfTwo}
use Rattle.journal_sending.proofs.journal_data.FewLinks.{HaveFewLinks}
use Rattle.journal_sending.proofs.journal_data.KeptData.{IsDataAt, data_kept}
use Rattle.journal_sending.proofs.journal_data.Law.{first_data}
use Rattle.journal_sending.proofs.journal_data.run_laws.DistinctAccess.{AreApart}
use Rattle.journal_sending.proofs.journal_links.OfTwo.{are_distinct}
use Rattle.journal_sending.proofs.journal_packets.AccessOrder.{AreNth}
use Rattle.journal_sending.proofs.journal_packets.SoFar.{IsBelongingSoFar}
use Rattle.journal_sending.proofs.journal_leaving.link_model.Hearing.{IsHeardWhole}
use Rattle.journal_sending.proofs.run_model.LinkEnds.{AreTaken, IsUnderstood}
use Rattle.journal_sending.proofs.run_model.Walk.{AtPackets, IsKept, NoTurn, Place}

-- a place at which a station is to send this packet
pub record IsToSend (given : Given) (history : List Event) (station channel : ℕ) (octets : List ℕ) : Type 0 where
  pub phases : ℕ
  pub done : List ℕ
  pub left : List ℕ
  pub stations_are : given.stations ≡ done ++ station ∷ left
  pub is_wanted : use_at given station history ≡ Sends channel octets
  pub lines : IsDataAt given (IsBelongingSoFar given) (AtPackets phases done (station ∷ left)) history

-- a place between two turns
abbrev pub IsBetween : Given → List Event → Type 0
IsBetween given history = IsDataAt given (IsBelongingSoFar given) NoTurn history

module _ (whole : IsHeardWhole) (understood : IsUnderstood) (taken : AreTaken) (nth : AreNth) (apart : AreApart) (given : Given) (are_two : IsOfTwo given) (few_links : HaveFewLinks given)
    (six : HaveAddresses given) (eight : (station : ℕ) → (setup_at given station).host_buffers ≡ 8) where
  abbrev Q : Place → List Event → Type 0
  Q = IsBelongingSoFar given

  known : AreKnown given Q
  known = known_of understood taken nth apart given are_two six

  keeps : IsKept given (IsDataAt given Q)
  keeps = data_kept whole given Q known are_two few_links six (are_distinct given are_two) eight

  sees : IsSeen given (IsDataAt given Q) (IsBetween given) (IsToSend given)
  sees = record {
    turn = λ history is. is;
    packet = λ phases done left station channel octets history are wanted is.
        record { phases = phases; done = done; left = left; stations_are = are; is_wanted = wanted; lines = is };
  }

  pub place_of_packet : (before rest : List Event) (station channel : ℕ) (octets : List ℕ) (hearings : List Hearing)
      → history_of (run_of given) ≡ before ++ Transmitted station channel octets hearings ∷ rest → IsToSend given before station channel octets
  place_of_packet before rest station channel octets hearings at =
      seen_packet given (IsDataAt given Q) keeps (IsBetween given) (IsToSend given) sees (first_data given) before rest station channel octets hearings at

  pub place_of_turn : (before rest : List Event) (slot : ℕ) (radios : List Bool) → history_of (run_of given) ≡ before ++ TurnBegan slot radios ∷ rest
      → IsBetween given before
  place_of_turn before rest slot radios at =
      seen_turn given (IsDataAt given Q) keeps (IsBetween given) (IsToSend given) sees (first_data given) before rest slot radios at

  pub place_of_end : (history : List Event) → run_of given ≡ GoesOn history → IsBetween given history
  place_of_end history goes = seen_last given (IsDataAt given Q) keeps (IsBetween given) (IsToSend given) sees (first_data given) history goes

  pub place_of_stop : (history : List Event) (stop : Stop) → run_of given ≡ Stops history stop
      → IsToSend given history stop.sender stop.channel stop.sent
  place_of_stop history stop stops = seen_stop given (IsDataAt given Q) keeps (IsBetween given) (IsToSend given) sees (first_data given) history stop stops
