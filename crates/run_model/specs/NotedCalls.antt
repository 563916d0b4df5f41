-- The call in which a station notes something (our choice).
use Rattle.std.specs.Prelude.{◌≡◌, ℕ, List, ◌∷◌, ◌++◌, map}
use Rattle.ble_base.specs.declared.notes.Note.{Note}
use Rattle.controller_model.specs.Step.{Step}
use Rattle.controller_model.specs.Side.{notes_after}
use Rattle.run_model.specs.History.{Event, Called, Noted}
use Rattle.run_model.specs.Run.{Given, facts_at, setup_at}

-- a note that comes after this history is one of those that a call gives: between that call and the note there are
-- only the notes that the call gives before it
pub record IsNotedInCall (given : Given) (before : List Event) (station : ℕ) (note : Note) : Type 0 where
  pub base : List Event
  pub step : Step
  pub earlier : List Note
  pub later : List Note
  pub before_is : before ≡ base ++ Called station step ∷ map (Noted station) earlier
  pub notes_are : notes_after (setup_at given station) (facts_at given station base) step ≡ earlier ++ note ∷ later
