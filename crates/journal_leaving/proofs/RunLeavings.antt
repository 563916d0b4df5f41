-- How each open end is to leave its link by the journal of a run: before each call and turn, and at its end.
use Rattle.std.proofs.Common.{◌≡◌, ℕ, Bool, true, Option, Some, None, List, [], ◌∷◌, ◌++◌, refl, sym, ap, subst, ◌∙◌, append-nil}
use Rattle.std.specs.Option.{option_map}
use Rattle.ble_base.specs.declared.roles.Side.{Side}
use Rattle.journal_controls.specs.controller_model.Step.{Step as Call, TurnBegins, TurnEnds}
use Rattle.journal_controls.specs.journal_acks.Shut.{last_heard}
use Rattle.journal_controls.specs.journal_ends.Asked.{Words}
use Rattle.journal_controls.specs.journal_ends.GivenWords.{GivesWords}
use Rattle.journal_controls.specs.journal_ends.Seen.{last_slot}
use Rattle.journal_controls.specs.link_model.Facts.{keyed_of}
use Rattle.journal_controls.specs.link_model.Times.{due_of, ending_of}
use Rattle.journal_controls.specs.link_model.declared.events.Reception.{Reception}
use Rattle.journal_controls.specs.open_links.OpenLinks.{OpenLink, facts_in, link_at}
use Rattle.journal_controls.specs.open_links.Turns.{ending_in}
use Rattle.journal_controls.specs.run_model.Due.{Each, IsDue}
use Rattle.journal_controls.specs.run_model.History.{Event, Called, TurnBegan}
use Rattle.journal_controls.specs.run_model.LinkEnds.{HaveAddresses}
use Rattle.journal_controls.specs.run_model.Journal.{journal_of, side_of}
use Rattle.journal_controls.specs.run_model.Run.{Given, GoesOn, facts_at, history_of, run_of}
use Rattle.journal_controls.proofs.EventMoves.{keyed_at, turn_at}
use Rattle.journal_controls.proofs.KeptControls.{AreControlled, turn_is}
use Rattle.journal_controls.proofs.RunControls.{control_of, keyed_at_end, keyed_before_call, keyed_before_turn}
use Rattle.journal_controls.proofs.journal_acks.GoodLinks.{slot_of}
use Rattle.journal_controls.proofs.journal_ends.PastSeen.{past_slot}
use Rattle.journal_controls.proofs.journal_ends.RunSeen.{seen_before_call}
use Rattle.journal_controls.proofs.journal_ends.SeenCalls.{seen_in_link}
use Rattle.journal_controls.proofs.journal_ends.SeenEvents.{seen_at}
use Rattle.journal_controls.proofs.journal_ends.SeenLists.{last_is}
use Rattle.journal_controls.proofs.run_model.Dues.{run_due}
use Rattle.journal_controls.proofs.journal_acks.Counting.{IsBegun}
use Rattle.journal_controls.proofs.journal_acks.Exchanging.{number_at}
use Rattle.journal_controls.proofs.journal_acks.TwoStations.{IsOfTwo}
use Rattle.journal_controls.proofs.journal_packets.AccessOrder.{AreNth}
use Rattle.journal_controls.proofs.link_model.Hearing.{IsHeardWhole}
use Rattle.journal_controls.proofs.journal_ends.run_laws.DistinctAccess.{AreApart}
use Rattle.journal_controls.proofs.run_model.LinkEnds.{AreTaken, IsUnderstood}
use Rattle.journal_controls.proofs.run_model.Places.{each_at}
use Rattle.journal_controls.proofs.run_model.Stations.{is_in}
use Rattle.journal_controls.proofs.run_model.Walk.{Ends, IsStopped, IsWhole, ends_whole, ends_with, run_kept}
use Rattle.journal_leaving.proofs.EventMoves.{leaving_at}
use Rattle.journal_leaving.proofs.DueReasons.{due_is}
use Rattle.journal_leaving.proofs.KeptLeavings.{AllStay, AreLeft, AreLeftAt, BegunBefore, IsLeftBefore, LeftBefore, all_left, all_stay, leavings_first, leavings_kept}
use Rattle.journal_leaving.proofs.StayingLinks.{none_ends}
use Rattle.journal_leaving.specs.Reasons.{due_on, due_with, ending_on, ending_with}

abbrev pub NoneLeaves : Words → Given → List Event → Type 0
NoneLeaves words given history =
    (station : ℕ) → is_in station given.stations ≡ true → (handle : ℕ) (link : OpenLink) → link_at handle (facts_at given station history).links ≡ Some link
    → ending_on words (side_of station) (number_at station handle history) (journal_of history) ≡ None

pub ending_by_lines : (words : Words) (number : ℕ) (side : Side) (history : List Event) (link : OpenLink) → keyed_at words number side history ≡ Some (keyed_of (facts_in link))
    → leaving_at words number side history ≡ Some (facts_in link).leaving → ending_on words side number (journal_of history) ≡ ending_of (facts_in link)
unfolding ending_on
ending_by_lines words number side history link keyed left = λ i. ending_with (control_of words side number (journal_of history) (keyed_of (facts_in link)) keyed i) (left i)

-- by what an end is due, as its lines tell it
pub record TellsDue (words : Words) (number : ℕ) (side : Side) (station : ℕ) (history : List Event) (link : OpenLink) : Type 0 where
  pub begun : IsBegun history number station link.setup
  pub keyed : keyed_at words number side history ≡ Some (keyed_of (facts_in link))
  pub left : leaving_at words number side history ≡ Some (facts_in link).leaving
  pub heard : last_heard number side (journal_of history) ≡ option_map (λ (one : Reception). one.slot) (facts_in link).last_good

pub due_by_lines : (words : Words) (number : ℕ) (side : Side) (station : ℕ) (history : List Event) (link : OpenLink) (slot : ℕ) → TellsDue words number side station history link → turn_at history ≡ slot
    → due_on words side number (journal_of history) ≡ due_of link.setup (facts_in link) slot
unfolding due_on
due_by_lines words number side station history link slot told turn =
    (λ i. due_with (told.begun.is_link i) (control_of words side number (journal_of history) (keyed_of (facts_in link)) told.keyed i) (told.left i) (told.heard i) (turn i)) ∙ due_is told.begun.link link.setup (facts_in link) slot told.begun.slot

slot_in : (good : Option Reception) → slot_of good ≡ option_map (λ (one : Reception). one.slot) good
slot_in None = refl
slot_in (Some good) = refl

none_by : (words : Words) (number : ℕ) (side : Side) (history : List Event) (link : OpenLink) → keyed_at words number side history ≡ Some (keyed_of (facts_in link))
    → leaving_at words number side history ≡ Some (facts_in link).leaving → ending_in link ≡ None → ending_on words side number (journal_of history) ≡ None
none_by words number side history link keyed left stays = ending_by_lines words number side history link keyed left ∙ none_ends (ending_of (facts_in link)) stays

-- when it heard the last good packet
pub heard_by_lines : (words : Words) (number : ℕ) (side : Side) (history : List Event) (link : OpenLink) → seen_at words number side history ≡ seen_in_link number side link
    → last_heard number side (journal_of history) ≡ option_map (λ (one : Reception). one.slot) (facts_in link).last_good
heard_by_lines words number side history link seen =
    last_is words side number (journal_of history) ∙ ap last_slot seen ∙ sym (past_slot side number link.setup link.past) ∙ slot_in (facts_in link).last_good

module _ (words : Words) (heard_whole : IsHeardWhole) (understood : IsUnderstood) (taken : AreTaken) (nth : AreNth) (apart : AreApart) (given : Given) (are_two : IsOfTwo given)
    (six : HaveAddresses given) (gives : GivesWords given words) where
  ends : Ends (run_of given) (IsWhole given (AreLeftAt words given)) (IsStopped given (AreLeftAt words given))
  ends = run_kept given (AreLeftAt words given) (leavings_kept words heard_whole understood taken nth apart given are_two six gives) (leavings_first words given)

  run_left : Each (LeftBefore words given) [] (history_of (run_of given))
  run_left =
      ends_with (run_of given) (IsWhole given (AreLeftAt words given)) (IsStopped given (AreLeftAt words given)) (Each (LeftBefore words given) []) ends
      (λ history whole. whole.is.each) (λ history stop stopped. stopped.kept.each)

  before_call : (before rest : List Event) (station : ℕ) (step : Call) → history_of (run_of given) ≡ before ++ Called station step ∷ rest
      → IsLeftBefore words given before station step × BegunBefore given before station step
  before_call before rest station step at = each_at (LeftBefore words given) (history_of (run_of given)) before rest (Called station step) run_left at

  pub left_before_call : (before rest : List Event) (station : ℕ) (step : Call) → history_of (run_of given) ≡ before ++ Called station step ∷ rest → IsLeftBefore words given before station step
  left_before_call before rest station step at = (before_call before rest station step at).0

  -- as a turn begins, the lines tell by what an end is due, and so what is due to it
  pub due_told : (before rest : List Event) (station slot : ℕ) (on : Bool) → history_of (run_of given) ≡ before ++ Called station (TurnBegins slot on) ∷ rest
      → is_in station given.stations ≡ true → (handle : ℕ) (link : OpenLink) → link_at handle (facts_at given station before).links ≡ Some link
      → TellsDue words (number_at station handle before) (side_of station) station before link
  due_told before rest station slot on at = λ in_it handle link is_open.
      let step = TurnBegins slot on in
      let side = side_of station in
      let number = number_at station handle before in
      let both = before_call before rest station step at in
      let seen = seen_before_call words understood taken nth apart given are_two six gives before rest station step at in_it handle link is_open ∙ append-nil (seen_in_link number side link) in record {
        begun = both.1 handle link is_open;
        keyed = keyed_before_call words heard_whole understood taken nth apart given are_two six gives before rest station step at in_it handle link is_open;
        left = both.0 in_it handle link is_open;
        heard = heard_by_lines words number side before link seen;
      }

  pub turn_told : (before rest : List Event) (station slot : ℕ) (on : Bool) → history_of (run_of given) ≡ before ++ Called station (TurnBegins slot on) ∷ rest → turn_at before ≡ slot
  turn_told before rest station slot on at =
      turn_is before slot (each_at (IsDue given) (history_of (run_of given)) before rest (Called station (TurnBegins slot on)) (run_due given).each at).slot_is

  pub due_before_call : (before rest : List Event) (station slot : ℕ) (on : Bool) → history_of (run_of given) ≡ before ++ Called station (TurnBegins slot on) ∷ rest
      → is_in station given.stations ≡ true → (handle : ℕ) (link : OpenLink) → link_at handle (facts_at given station before).links ≡ Some link
      → due_on words (side_of station) (number_at station handle before) (journal_of before) ≡ due_of link.setup (facts_in link) slot
  due_before_call before rest station slot on at = λ in_it handle link is_open.
      due_by_lines words (number_at station handle before) (side_of station) station before link slot (due_told before rest station slot on at in_it handle link is_open)
      (turn_told before rest station slot on at)

  -- as a turn ends, so is the code with which it is to end
  pub ending_before_call : (before rest : List Event) (station : ℕ) → history_of (run_of given) ≡ before ++ Called station TurnEnds ∷ rest
      → is_in station given.stations ≡ true → (handle : ℕ) (link : OpenLink) → link_at handle (facts_at given station before).links ≡ Some link
      → ending_on words (side_of station) (number_at station handle before) (journal_of before) ≡ ending_of (facts_in link)
  ending_before_call before rest station at = λ in_it handle link is_open.
      ending_by_lines words (number_at station handle before) (side_of station) before link
      (keyed_before_call words heard_whole understood taken nth apart given are_two six gives before rest station TurnEnds at in_it handle link is_open)
      ((before_call before rest station TurnEnds at).0 in_it handle link is_open)

  before_turn : (before rest : List Event) (slot : ℕ) (radios : List Bool) → history_of (run_of given) ≡ before ++ TurnBegan slot radios ∷ rest
      → AreLeft words given before × AllStay given before
  before_turn before rest slot radios at = each_at (LeftBefore words given) (history_of (run_of given)) before rest (TurnBegan slot radios) run_left at

  pub left_before_turn : (before rest : List Event) (slot : ℕ) (radios : List Bool) → history_of (run_of given) ≡ before ++ TurnBegan slot radios ∷ rest → AreLeft words given before
  left_before_turn before rest slot radios at = (before_turn before rest slot radios at).0

  -- by its lines no end that is open then is to leave its link
  pub none_leaves_before_turn : (before rest : List Event) (slot : ℕ) (radios : List Bool) → history_of (run_of given) ≡ before ++ TurnBegan slot radios ∷ rest
      → NoneLeaves words given before
  none_leaves_before_turn before rest slot radios at = λ station in_it handle link is_open.
      let both = before_turn before rest slot radios at in
      none_by words (number_at station handle before) (side_of station) before link
      (keyed_before_turn words heard_whole understood taken nth apart given are_two six gives before rest slot radios at station in_it handle link is_open)
      (both.0 station in_it handle link is_open) (both.1 station in_it handle link is_open)

  -- at the end of a whole run
  pub left_at_end : (history : List Event) → run_of given ≡ GoesOn history → AreLeft words given history
  left_at_end history goes = all_left words given history (ends_whole (run_of given) (IsWhole given (AreLeftAt words given)) (IsStopped given (AreLeftAt words given)) history ends goes).is

  pub none_leaves_at_end : (history : List Event) → run_of given ≡ GoesOn history → NoneLeaves words given history
  none_leaves_at_end history goes = λ station in_it handle link is_open.
      let last = (ends_whole (run_of given) (IsWhole given (AreLeftAt words given)) (IsStopped given (AreLeftAt words given)) history ends goes).is in
      none_by words (number_at station handle history) (side_of station) history link
      (subst (AreControlled words given) (ap history_of goes) (keyed_at_end words heard_whole understood taken nth apart given are_two six gives) station in_it handle link is_open)
      (all_left words given history last station in_it handle link is_open) (all_stay words given history last station in_it handle link is_open)
