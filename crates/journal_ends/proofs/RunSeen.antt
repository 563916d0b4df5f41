-- What each open end says and hears by the journal of a run: before each call, packet and turn, and at its end.
use Rattle.std.proofs.Common.{◌≡◌, ℕ, Bool, List, [], ◌∷◌, ◌++◌}
use Rattle.journal_acks.specs.controller_model.Step.{Step as Call}
use Rattle.journal_acks.specs.run_model.Due.{Each}
use Rattle.journal_acks.specs.run_model.History.{Event, Called, Hearing, Transmitted, TurnBegan}
use Rattle.journal_acks.specs.run_model.LinkEnds.{HaveAddresses}
use Rattle.journal_acks.specs.run_model.Run.{Given, history_of, run_of}
use Rattle.journal_acks.proofs.journal_packets.AccessOrder.{AreNth}
use Rattle.journal_acks.proofs.run_laws.DistinctAccess.{AreApart}
use Rattle.journal_acks.proofs.run_model.LinkEnds.{AreTaken, IsUnderstood}
use Rattle.journal_acks.proofs.run_model.Places.{each_at}
use Rattle.journal_acks.proofs.run_model.Walk.{Ends, IsStopped, IsWhole, ends_with, run_kept}
use Rattle.journal_acks.proofs.TwoStations.{IsOfTwo}
use Rattle.journal_ends.proofs.KeptSeen.{AreSeen, AreSeenAt, IsSeenBefore, SeenBefore, all_whole, packet_whole, seen_first, seen_kept}
use Rattle.journal_ends.specs.Asked.{Words}
use Rattle.journal_ends.specs.GivenWords.{GivesWords}

module _ (words : Words) (understood : IsUnderstood) (taken : AreTaken) (nth : AreNth) (apart : AreApart) (given : Given) (are_two : IsOfTwo given) (six : HaveAddresses given)
    (gives : GivesWords given words) where
  ends : Ends (run_of given) (IsWhole given (AreSeenAt words given)) (IsStopped given (AreSeenAt words given))
  ends = run_kept given (AreSeenAt words given) (seen_kept words understood taken nth apart given are_two six gives) (seen_first words given)

  run_seen : Each (SeenBefore words given) [] (history_of (run_of given))
  run_seen =
      ends_with (run_of given) (IsWhole given (AreSeenAt words given)) (IsStopped given (AreSeenAt words given)) (Each (SeenBefore words given) []) ends
      (λ history whole. whole.is.each) (λ history stop stopped. stopped.kept.each)

  pub seen_before_call : (before rest : List Event) (station : ℕ) (step : Call) → history_of (run_of given) ≡ before ++ Called station step ∷ rest → IsSeenBefore words given before station step
  seen_before_call before rest station step at = each_at (SeenBefore words given) (history_of (run_of given)) before rest (Called station step) run_seen at

  pub seen_before_turn : (before rest : List Event) (slot : ℕ) (radios : List Bool) → history_of (run_of given) ≡ before ++ TurnBegan slot radios ∷ rest → AreSeen words given before
  seen_before_turn before rest slot radios at = each_at (SeenBefore words given) (history_of (run_of given)) before rest (TurnBegan slot radios) run_seen at

  pub seen_before_packet : (before rest : List Event) (station channel : ℕ) (octets : List ℕ) (hearings : List Hearing)
      → history_of (run_of given) ≡ before ++ Transmitted station channel octets hearings ∷ rest → AreSeen words given before
  seen_before_packet before rest station channel octets hearings at =
      each_at (SeenBefore words given) (history_of (run_of given)) before rest (Transmitted station channel octets hearings) run_seen at

  -- at the end of a run, and where damage stops one
  pub seen_at_end : AreSeen words given (history_of (run_of given))
  seen_at_end =
      ends_with (run_of given) (IsWhole given (AreSeenAt words given)) (IsStopped given (AreSeenAt words given)) (AreSeen words given) ends
      (λ history whole. all_whole words given history whole.is.holds.hearing.hears whole.is.seen)
      (λ history stop stopped.
      packet_whole words understood taken nth apart given are_two six stopped.phases stopped.done stopped.left stop.sender stop.channel stop.sent history stopped.stations_are stopped.is_wanted stopped.kept)
