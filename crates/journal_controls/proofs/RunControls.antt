-- Each open end by the journal of a run: before each call, packet and turn, and at its end.
use Rattle.std.proofs.Common.{◌≡◌, ℕ, Bool, Some, List, [], ◌∷◌, ◌++◌, ap}
use Rattle.std.specs.Option.{option_map}
use Rattle.ble_base.specs.declared.roles.Side.{Side}
use Rattle.journal.specs.declared.entries.Entry.{Entry}
use Rattle.journal_ends.specs.Asked.{Words}
use Rattle.journal_ends.specs.GivenWords.{GivesWords}
use Rattle.journal_ends.specs.controller_model.Step.{Step as Call}
use Rattle.journal_ends.specs.link_model.keyed_control.Keyed.{Keyed}
use Rattle.journal_ends.specs.run_model.Due.{Each}
use Rattle.journal_ends.specs.run_model.History.{Event, Called, Hearing, Transmitted, TurnBegan}
use Rattle.journal_ends.specs.run_model.LinkEnds.{HaveAddresses}
use Rattle.journal_ends.specs.run_model.Run.{Given, history_of, run_of}
use Rattle.journal_ends.proofs.journal_acks.TwoStations.{IsOfTwo}
use Rattle.journal_ends.proofs.journal_packets.AccessOrder.{AreNth}
use Rattle.journal_ends.proofs.link_model.Hearing.{IsHeardWhole}
use Rattle.journal_ends.proofs.run_laws.DistinctAccess.{AreApart}
use Rattle.journal_ends.proofs.run_model.LinkEnds.{AreTaken, IsUnderstood}
use Rattle.journal_ends.proofs.run_model.Places.{each_at}
use Rattle.journal_ends.proofs.run_model.Walk.{Ends, IsStopped, IsWhole, ends_with, run_kept}
use Rattle.journal_controls.specs.LineSteps.{control_on, keyed_on}
use Rattle.journal_controls.proofs.KeptControls.{AreControlled, AreControlledAt, ControlBefore, IsControlledBefore, all_whole, controls_first, controls_kept, packet_whole}

-- ---- the control part of an end alone

pub control_of : (words : Words) (side : Side) (number : ℕ) (journal : List Entry) (k : Keyed) → keyed_on words side number journal ≡ Some k → control_on words side number journal ≡ Some k.phased.control
unfolding control_on
control_of words side number journal k is = ap (option_map (λ (one : Keyed). one.phased.control)) is

-- ---- in a run

module _ (words : Words) (heard_whole : IsHeardWhole) (understood : IsUnderstood) (taken : AreTaken) (nth : AreNth) (apart : AreApart) (given : Given) (are_two : IsOfTwo given)
    (six : HaveAddresses given) (gives : GivesWords given words) where
  ends : Ends (run_of given) (IsWhole given (AreControlledAt words given)) (IsStopped given (AreControlledAt words given))
  ends = run_kept given (AreControlledAt words given) (controls_kept words heard_whole understood taken nth apart given are_two six gives) (controls_first words given)

  run_controlled : Each (ControlBefore words given) [] (history_of (run_of given))
  run_controlled =
      ends_with (run_of given) (IsWhole given (AreControlledAt words given)) (IsStopped given (AreControlledAt words given)) (Each (ControlBefore words given) []) ends
      (λ history whole. whole.is.each) (λ history stop stopped. stopped.kept.each)

  pub keyed_before_call : (before rest : List Event) (station : ℕ) (step : Call) → history_of (run_of given) ≡ before ++ Called station step ∷ rest
      → IsControlledBefore words given before station step
  keyed_before_call before rest station step at = each_at (ControlBefore words given) (history_of (run_of given)) before rest (Called station step) run_controlled at

  pub keyed_before_turn : (before rest : List Event) (slot : ℕ) (radios : List Bool) → history_of (run_of given) ≡ before ++ TurnBegan slot radios ∷ rest → AreControlled words given before
  keyed_before_turn before rest slot radios at = each_at (ControlBefore words given) (history_of (run_of given)) before rest (TurnBegan slot radios) run_controlled at

  pub keyed_before_packet : (before rest : List Event) (station channel : ℕ) (octets : List ℕ) (hearings : List Hearing)
      → history_of (run_of given) ≡ before ++ Transmitted station channel octets hearings ∷ rest → AreControlled words given before
  keyed_before_packet before rest station channel octets hearings at =
      each_at (ControlBefore words given) (history_of (run_of given)) before rest (Transmitted station channel octets hearings) run_controlled at

  -- at the end of a run, and where damage stops one
  pub keyed_at_end : AreControlled words given (history_of (run_of given))
  keyed_at_end =
      ends_with (run_of given) (IsWhole given (AreControlledAt words given)) (IsStopped given (AreControlledAt words given)) (AreControlled words given) ends
      (λ history whole. all_whole words given history whole.is.seen.holds.hearing.hears whole.is.control)
      (λ history stop stopped.
      packet_whole words heard_whole understood taken nth apart given are_two six stopped.phases stopped.done stopped.left stop.sender stop.channel stop.sent history stopped.stations_are
      stopped.is_wanted stopped.kept)
