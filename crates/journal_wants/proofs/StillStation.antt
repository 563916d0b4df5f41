-- In a run of two stations a call of the other station leaves the event of each link of a side, by its lines, and so
-- does the end of a turn in which no link ends.
use Rattle.std.proofs.Common.{◌≡◌, ℕ, ◌==◌, true, false, List, [], ◌∷◌, ◌++◌, refl}
use Rattle.std.proofs.lemmas.List.Elements.{All-from_recursion}
use Rattle.ble_base.specs.declared.notes.Note.{Note}
use Rattle.ble_base.specs.declared.notes.Note.TheVariants.{Up as UpNote}
use Rattle.ble_base.specs.declared.roles.Side.{Side}
use Rattle.journal_events.specs.journal_sending.controller_model.Data.{facts_handed}
use Rattle.journal_events.specs.journal_sending.controller_model.Links.{ends_for}
use Rattle.journal_events.specs.journal_sending.controller_model.Side.{notes_after}
use Rattle.journal_events.specs.journal_sending.controller_model.Step.{Step, TurnEnds}
use Rattle.journal_events.specs.journal_sending.journal_controls.journal_ends.Asked.{Words}
use Rattle.journal_events.specs.journal_sending.journal_controls.journal_ends.GivenWords.{AreKept}
use Rattle.journal_events.specs.journal_sending.journal_data.open_links.Turns.{ending_in}
use Rattle.journal_events.specs.journal_sending.journal_links.LinkLines.{lines_of}
use Rattle.journal_events.specs.journal_sending.run_model.History.{Event, Called}
use Rattle.journal_events.specs.journal_sending.run_model.Journal.{entry_of, journal_of, side_of}
use Rattle.journal_events.specs.journal_sending.run_model.Run.{Given, after_call, facts_at, history_of, run_of, setup_at}
use Rattle.journal_events.proofs.journal_sending.journal_acks.TwoStations.{IsOfTwo}
use Rattle.journal_events.proofs.journal_sending.journal_leaving.journal_controls.host_answers.LineAnswers.{turn_quiet}
use Rattle.journal_events.proofs.journal_sending.journal_links.OfTwo.{two_apart}
use Rattle.journal_events.proofs.journal_sending.run_model.Stations.{is_in}
use Rattle.journal_events.specs.EventLines.{event_on}
use Rattle.journal_events.proofs.StillEvents.{far_still, unnamed_still}
use Rattle.journal_wants.proofs.QuietLinks.{IsUp, end_up, is_up}

-- a packet to the host says no line of a link
up_unnamed : (side other : Side) (number : ℕ) (link_of : ℕ → ℕ) (last : ℕ) (note : Note) → is_up note ≡ true
    → lines_of side number (entry_of other link_of last note ∷ []) ≡ []
up_unnamed side other number link_of last (UpNote packet) up = refl
up_unnamed side other number link_of last note up = absurd cc

module _ (words : Words) (given : Given) (kept : AreKept words) where
  pub far_events : IsOfTwo given → (station caller : ℕ) (step : Step) (history rest : List Event)
      → is_in station given.stations ≡ true → is_in caller given.stations ≡ true
      → history_of (run_of given) ≡ history ++ Called caller step ∷ rest → (station == caller) ≡ false → (number : ℕ)
      → event_on words (side_of station) number (journal_of (after_call given caller step history))
      ≡ event_on words (side_of station) number (journal_of history)
  far_events are_two station caller step history rest in_it in_too at differs number =
      far_still words given number (side_of station) caller step history kept
      (two_apart given are_two station in_it caller in_too differs)

  pub quiet_events : (station : ℕ) (history rest : List Event) → is_in station given.stations ≡ true
      → history_of (run_of given) ≡ history ++ Called station TurnEnds ∷ rest
      → ends_for ending_in (facts_handed (facts_at given station history)) ≡ [] → (number : ℕ)
      → event_on words (side_of station) number (journal_of (after_call given station TurnEnds history))
      ≡ event_on words (side_of station) number (journal_of history)
  quiet_events station history rest in_it at none number =
      unnamed_still words given number (side_of station) station TurnEnds history kept IsUp
      (up_unnamed (side_of station) (side_of station) number)
      (All-from_recursion IsUp (notes_after (setup_at given station) (facts_at given station history) TurnEnds)
      (end_up (facts_at given station history) none))
      (turn_quiet given station TurnEnds history tt)
