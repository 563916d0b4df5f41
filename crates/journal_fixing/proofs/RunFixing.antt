-- Each end that sends or listens, as it fixed its next PDU, by the journal of a run.
use Rattle.std.proofs.Common.{◌≡◌, ℕ, Bool, Option, List, [], ◌∷◌, ◌++◌}
use Rattle.journal_controls.specs.controller_model.Step.{TurnBegins}
use Rattle.journal_controls.specs.journal_ends.Asked.{Words}
use Rattle.journal_controls.specs.journal_ends.GivenWords.{GivesWords}
use Rattle.journal_controls.specs.run_model.Due.{Each}
use Rattle.journal_controls.specs.run_model.History.{Event, Called, Hearing, Transmitted}
use Rattle.journal_controls.specs.run_model.LinkEnds.{HaveAddresses}
use Rattle.journal_controls.specs.run_model.Run.{Given, history_of, run_of, step_of}
use Rattle.journal_controls.proofs.journal_acks.TwoStations.{IsOfTwo}
use Rattle.journal_controls.proofs.RunControls.{keyed_before_call}
use Rattle.journal_controls.proofs.link_model.Hearing.{IsHeardWhole}
use Rattle.journal_controls.proofs.journal_packets.AccessOrder.{AreNth}
use Rattle.journal_controls.proofs.journal_ends.run_laws.DistinctAccess.{AreApart}
use Rattle.journal_controls.proofs.run_model.LinkEnds.{AreTaken, IsUnderstood}
use Rattle.journal_controls.proofs.run_model.Places.{each_at}
use Rattle.journal_controls.proofs.run_model.Walk.{Ends, IsStopped, IsWhole, ends_with, run_kept}
use Rattle.journal_fixing.proofs.KeptFixing.{AreFixing, AreFixingAt, AreKnownAtBegins, FixingBefore, IsBegun, at_phase_back, fixing_first, fixing_kept}

module _ (words : Words) (heard_whole : IsHeardWhole) (understood : IsUnderstood) (taken : AreTaken) (nth : AreNth) (apart : AreApart) (given : Given) (are_two : IsOfTwo given)
    (six : HaveAddresses given) (gives : GivesWords given words) where
  known : AreKnownAtBegins words given
  known before rest station slot on handle link at in_it open_is =
      keyed_before_call words heard_whole understood taken nth apart given are_two six gives before rest station (TurnBegins slot on) at in_it handle link open_is

  ends : Ends (run_of given) (IsWhole given (AreFixingAt words given)) (IsStopped given (AreFixingAt words given))
  ends = run_kept given (AreFixingAt words given) (fixing_kept words understood taken nth apart given are_two six gives known) (fixing_first words given)

  run_fixing : Each (FixingBefore words given) [] (history_of (run_of given))
  run_fixing =
      ends_with (run_of given) (IsWhole given (AreFixingAt words given)) (IsStopped given (AreFixingAt words given)) (Each (FixingBefore words given) []) ends
      (λ history whole. whole.is.each) (λ history stop stopped. stopped.kept.each)

  pub fixing_before_packet : (before rest : List Event) (station channel : ℕ) (octets : List ℕ) (hearings : List Hearing)
      → history_of (run_of given) ≡ before ++ Transmitted station channel octets hearings ∷ rest → AreFixing words given before
  fixing_before_packet before rest station channel octets hearings at =
      each_at (FixingBefore words given) (history_of (run_of given)) before rest (Transmitted station channel octets hearings) run_fixing at

  -- before a station is called in a phase
  pub fixing_before_phase : (before rest : List Event) (station : ℕ) (received : Option (List ℕ))
      → history_of (run_of given) ≡ before ++ Called station (step_of received) ∷ rest → AreFixing words given before
  fixing_before_phase before rest station received at =
      at_phase_back words given before station received
      (each_at (FixingBefore words given) (history_of (run_of given)) before rest (Called station (step_of received)) run_fixing at)

  pub fixing_before_begin : (before rest : List Event) (station slot : ℕ) (on : Bool)
      → history_of (run_of given) ≡ before ++ Called station (TurnBegins slot on) ∷ rest → IsBegun words given before station slot on
  fixing_before_begin before rest station slot on at =
      each_at (FixingBefore words given) (history_of (run_of given)) before rest (Called station (TurnBegins slot on)) run_fixing at
