-- The counters with which a side seals in one session, from the lines of a journal alone (Core 5.2, volume 6 part B, section
-- 5.1.3.1, and part E, section 2).
use Rattle.std.specs.Prelude.{◌≡◌, ℕ, ◌<◌, List, ◌++◌, Some, None}
use Rattle.ble_base.specs.declared.roles.Side.{Side}
use Rattle.journal.specs.declared.entries.Entry.{Entry}
use Rattle.journal_controls.specs.LineSteps.{keyed_on}
use Rattle.journal_controls.specs.journal_ends.Asked.{Words}
use Rattle.journal_controls.specs.link_model.keyed_control.Keyed.{Keyed}

-- the end of a side on the link with this number is open at each place of these lines, which come after others, and its
-- counter is not 0, as it is where a session begins and where nothing is sealed
abbrev pub GoesOnSealing : Words → ℕ → Side → List Entry → List Entry → Type 0
GoesOnSealing words number side front lines =
    (some rest : List Entry) → lines ≡ some ++ rest
    → (keyed_on words side number (front ++ some) ≡ None → ⊥)
    × ((k : Keyed) → keyed_on words side number (front ++ some) ≡ Some k → 0 < k.end.sent)

-- two ends have one key and one initialization vector, and the counter of the second one is higher
pub record IsLaterInSession (one later : Keyed) : Type 0 where
  pub key : later.end.key ≡ one.end.key
  pub iv : later.end.iv ≡ one.end.iv
  pub counter : one.end.sent < later.end.sent
