-- The event of each open end by the journal of a run: before each call and turn, and at its end.
use Rattle.std.proofs.Common.{◌≡◌, ℕ, Bool, List, [], ◌∷◌, ◌++◌}
use Rattle.journal_sending.specs.journal_leaving.controller_model.Step.{Step as Call}
use Rattle.journal_sending.specs.journal_leaving.journal_ends.Asked.{Words}
use Rattle.journal_sending.specs.journal_leaving.journal_ends.GivenWords.{GivesWords}
use Rattle.journal_sending.specs.journal_leaving.run_model.Due.{Each}
use Rattle.journal_sending.specs.journal_leaving.run_model.History.{Event, Called, TurnBegan}
use Rattle.journal_sending.specs.journal_leaving.run_model.LinkEnds.{HaveAddresses}
use Rattle.journal_sending.specs.journal_leaving.run_model.Run.{Given, GoesOn, history_of, run_of}
use Rattle.journal_sending.proofs.journal_leaving.journal_acks.TwoStations.{IsOfTwo}
use Rattle.journal_sending.proofs.journal_leaving.journal_packets.AccessOrder.{AreNth}
use Rattle.journal_sending.proofs.journal_leaving.link_model.Hearing.{IsHeardWhole}
use Rattle.journal_sending.proofs.journal_leaving.journal_ends.run_laws.DistinctAccess.{AreApart}
use Rattle.journal_sending.proofs.journal_leaving.run_model.LinkEnds.{AreTaken, IsUnderstood}
use Rattle.journal_sending.proofs.journal_leaving.run_model.Places.{each_at}
use Rattle.journal_sending.proofs.journal_leaving.run_model.Walk.{Ends, IsStopped, IsWhole, ends_whole, ends_with, run_kept}
use Rattle.journal_events.proofs.KeptEvents.{AreEvents, AreEventsAt, EventBefore, IsEventBefore, all_events, events_first, events_kept}

module _ (words : Words) (heard_whole : IsHeardWhole) (understood : IsUnderstood) (taken : AreTaken) (nth : AreNth) (apart : AreApart) (given : Given) (are_two : IsOfTwo given)
    (six : HaveAddresses given) (gives : GivesWords given words) where
  ends : Ends (run_of given) (IsWhole given (AreEventsAt words given)) (IsStopped given (AreEventsAt words given))
  ends = run_kept given (AreEventsAt words given) (events_kept words heard_whole understood taken nth apart given are_two six gives) (events_first words given)

  run_events : Each (EventBefore words given) [] (history_of (run_of given))
  run_events =
      ends_with (run_of given) (IsWhole given (AreEventsAt words given)) (IsStopped given (AreEventsAt words given)) (Each (EventBefore words given) []) ends
      (λ history whole. whole.is.each) (λ history stop stopped. stopped.kept.each)

  pub event_before_call : (before rest : List Event) (station : ℕ) (step : Call) → history_of (run_of given) ≡ before ++ Called station step ∷ rest → IsEventBefore words given before station step
  event_before_call before rest station step at = each_at (EventBefore words given) (history_of (run_of given)) before rest (Called station step) run_events at

  pub event_before_turn : (before rest : List Event) (slot : ℕ) (radios : List Bool) → history_of (run_of given) ≡ before ++ TurnBegan slot radios ∷ rest → AreEvents words given before
  event_before_turn before rest slot radios at = each_at (EventBefore words given) (history_of (run_of given)) before rest (TurnBegan slot radios) run_events at

  -- at the end of a whole run
  pub event_at_end : (history : List Event) → run_of given ≡ GoesOn history → AreEvents words given history
  event_at_end history goes = all_events words given history (ends_whole (run_of given) (IsWhole given (AreEventsAt words given)) (IsStopped given (AreEventsAt words given)) history ends goes).is
