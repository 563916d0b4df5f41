-- What each step of a run keeps holds as a station begins its turn, and once it has begun.
use Rattle.std.proofs.Common.{◌≡◌, ℕ, Bool, Option, Some, None, List, [], ◌∷◌, ◌++◌}
use Rattle.std.specs.Prelude.{⊤}
use Rattle.journal_sending.specs.journal_leaving.controller_model.Step.{Step, TurnBegins}
use Rattle.journal_sending.specs.journal_leaving.run_model.History.{Event, Called, packet_received}
use Rattle.journal_sending.specs.journal_leaving.run_model.Run.{Given, after_call, history_of, run_of, step_of}
use Rattle.journal_sending.proofs.journal_leaving.journal_acks.EachCall.{HaveCalls, OfCall, run_calls}
use Rattle.journal_sending.proofs.journal_leaving.run_model.Places.{each_at}
use Rattle.journal_sending.proofs.journal_leaving.run_model.Walk.{AtBegins, IsKept, NoTurn, Place}

-- the places before this station begins its turn, and after that
pub record HasBegunAt (given : Given) (P : Place → List Event → Type 0) (station slot : ℕ) (on : Bool)
    (before : List Event) : Type 0 where
  pub done : List ℕ
  pub left : List ℕ
  pub stations_are : given.stations ≡ done ++ station ∷ left
  pub was : P (AtBegins done (station ∷ left)) before
  pub is : P (AtBegins (done ++ station ∷ []) left) (after_call given station (TurnBegins slot on) before)

module _ (given : Given) (P : Place → List Event → Type 0) where
  abbrev HasBegunBy : List Event → ℕ → Step → Type 0
  HasBegunBy before station (TurnBegins slot on) = HasBegunAt given P station slot on before
  HasBegunBy before station step = ⊤

  none_begins : (before : List Event) (station : ℕ) (received : Option (List ℕ))
      → HasBegunBy before station (step_of received)
  none_begins before station None = tt
  none_begins before station (Some octets) = tt

  have_begun : HaveCalls given HasBegunBy P
  have_begun = record {
    feeds = λ station octet history. tt;
    begins = λ plan slot done left station history are was is.
        record { done = done; left = left; stations_are = are; was = was; is = is };
    passes = λ phases done left station history are was is.
        none_begins history station (packet_received station history);
    ends = λ done left station history are was. tt;
  }

  pub begun_at : IsKept given P → P NoTurn [] → (station slot : ℕ) (on : Bool) (before rest : List Event)
      → history_of (run_of given) ≡ before ++ Called station (TurnBegins slot on) ∷ rest
      → HasBegunAt given P station slot on before
  begun_at kept first station slot on before rest at =
      each_at (OfCall given HasBegunBy) (history_of (run_of given)) before rest (Called station (TurnBegins slot on))
      (run_calls given HasBegunBy P kept have_begun first) at
