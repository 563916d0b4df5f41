-- In a run of two stations, before each packet and each turn, and at its end, the lines of each side say of its
-- radio what its controller holds, and what it does first in the turn that is under way.
use Rattle.std.proofs.Common.{◌≡◌, ℕ, Bool, List, [], ◌∷◌, ◌++◌, refl}
use Rattle.journal_events.specs.journal_sending.controller_model.declared.doing.Doing.TheVariants.{Rests}
use Rattle.journal_events.specs.journal_sending.controller_model.Side.{facts_of}
use Rattle.journal_events.specs.journal_sending.journal_controls.journal_ends.Asked.{Words}
use Rattle.journal_events.specs.journal_sending.run_model.Due.{Each}
use Rattle.journal_events.specs.journal_sending.run_model.History.{Event, Hearing, TurnBegan, Transmitted}
use Rattle.journal_events.specs.journal_sending.run_model.Journal.{journal_of}
use Rattle.journal_events.specs.journal_sending.run_model.LinkEnds.{HaveAddresses}
use Rattle.journal_events.specs.journal_sending.run_model.Run.{Given, GoesOn, Stop, Stops, history_of, run_of, setup_at}
use Rattle.journal_events.proofs.journal_sending.journal_acks.Known.{known_of}
use Rattle.journal_events.proofs.journal_sending.journal_acks.TwoStations.{IsOfTwo}
use Rattle.journal_events.proofs.journal_sending.journal_data.FewLinks.{HaveFewLinks}
use Rattle.journal_events.proofs.journal_sending.journal_data.Law.{first_data}
use Rattle.journal_events.proofs.journal_sending.journal_data.run_laws.DistinctAccess.{AreApart}
use Rattle.journal_events.proofs.journal_sending.journal_leaving.link_model.Hearing.{IsHeardWhole}
use Rattle.journal_events.proofs.journal_sending.journal_packets.AccessOrder.{AreNth}
use Rattle.journal_events.proofs.journal_sending.journal_packets.SoFar.{IsBelongingSoFar}
use Rattle.journal_events.proofs.journal_sending.run_model.Fronts.{front_first}
use Rattle.journal_events.proofs.journal_sending.run_model.LinkEnds.{AreTaken, IsUnderstood}
use Rattle.journal_events.proofs.journal_sending.run_model.Places.{each_at}
use Rattle.journal_events.proofs.journal_sending.run_model.Walk.{Ends, IsStopped, IsWhole, NoTurn, Place, ends_stopped, ends_whole, ends_with, run_kept}
use Rattle.journal_wants.specs.Station.{station_on}
use Rattle.journal_wants.proofs.KeptStations.{AllDecided, AreDecidedAt, DecidedBefore, decided_kept}
use Rattle.journal_wants.proofs.LastServed.{none_last}
use Rattle.journal_wants.proofs.RunStations.{AreTold, HasDecided, decided_now, doing_begun}

-- before the first turn
first_decided : (words : Words) (given : Given) (station : ℕ) → HasDecided words given [] station
unfolding station_on journal_of doing_begun facts_of
first_decided words given station = record {
  set = record { set = refl; advertising = refl; scanning = refl; initiator = refl; radio = refl };
  doing = refl;
  made = decided_now words given [] station Rests refl;
  last = none_last given station;
}

decided_first : (words : Words) (given : Given) → AreDecidedAt words given (IsBelongingSoFar given) NoTurn []
decided_first words given = record {
  front = front_first given;
  known = first_data given;
  all = λ station in_it. first_decided words given station;
  each = tt;
}

module _ (words : Words) (whole : IsHeardWhole) (understood : IsUnderstood) (taken : AreTaken) (nth : AreNth) (apart : AreApart) (given : Given) (are_two : IsOfTwo given)
    (few_links : HaveFewLinks given) (six : HaveAddresses given) (eight : (station : ℕ) → (setup_at given station).host_buffers ≡ 8) (told : AreTold words given) where
  abbrev P : Place → List Event → Type 0
  P = AreDecidedAt words given (IsBelongingSoFar given)

  ends : Ends (run_of given) (IsWhole given P) (IsStopped given P)
  ends =
      run_kept given P
      (decided_kept words given are_two told whole (IsBelongingSoFar given) (known_of understood taken nth apart given are_two six) few_links six eight) (decided_first words given)

  run_decided : Each (DecidedBefore words given) [] (history_of (run_of given))
  run_decided =
      ends_with (run_of given) (IsWhole given P) (IsStopped given P) (Each (DecidedBefore words given) []) ends
      (λ history whole. whole.is.each) (λ history stop stopped. stopped.kept.each)

  -- before each packet, and before each turn
  pub decided_before_packet : (before rest : List Event) (sender channel : ℕ) (octets : List ℕ) (hearings : List Hearing)
      → history_of (run_of given) ≡ before ++ Transmitted sender channel octets hearings ∷ rest → AllDecided words given before
  decided_before_packet before rest sender channel octets hearings at =
      each_at (DecidedBefore words given) (history_of (run_of given)) before rest (Transmitted sender channel octets hearings) run_decided at

  pub decided_before_turn : (before rest : List Event) (slot : ℕ) (radios : List Bool) → history_of (run_of given) ≡ before ++ TurnBegan slot radios ∷ rest → AllDecided words given before
  decided_before_turn before rest slot radios at = each_at (DecidedBefore words given) (history_of (run_of given)) before rest (TurnBegan slot radios) run_decided at

  -- at the end of a whole run, and where damage ends one
  pub decided_at_end : (history : List Event) → run_of given ≡ GoesOn history → AllDecided words given history
  decided_at_end history goes =
      (ends_whole (run_of given) (IsWhole given P) (IsStopped given P) history ends goes).is.all

  pub decided_at_stop : (history : List Event) (stop : Stop) → run_of given ≡ Stops history stop → AllDecided words given history
  decided_at_stop history stop stops =
      (ends_stopped (run_of given) (IsWhole given P) (IsStopped given P) history stop ends stops).kept.all
