-- What several lines do to the end that says them in one turn, and what its host asks does to it.
use Rattle.std.specs.Prelude.{◌≡◌, ℕ, Bool, true, false, List, [], ◌∷◌, ◌++◌, Option}
use Rattle.std.specs.List.{AllByRecursion, flat_map}
use Rattle.journal.specs.declared.entries.Entry.{Entry}
use Rattle.journal.specs.declared.entries.Entry.TheVariants.{Opened, Shut}
use Rattle.journal_ends.specs.Answering.{answers_if}
use Rattle.journal_ends.specs.Seen.{Asks, Seen, asked_if}
use Rattle.journal_ends.specs.link_model.Step.{Step}
use Rattle.journal_ends.specs.link_model.keyed_control.Keyed.{Keyed}
use Rattle.journal_ends.specs.link_model.keyed_control.declared.material.Response.{Response}
use Rattle.journal_controls.specs.KeyedLines.{LineStep, answering, keyed_by_all}
use Rattle.journal_controls.specs.LineSteps.{steps_asking, steps_said}
use Rattle.journal_controls.specs.Withheld.{Withheld}

-- a line that says that a side opens a link, or shuts it
abbrev pub is_opening : Entry → Bool
is_opening (Opened side link handle role) = true
is_opening (Shut side link reason) = true
is_opening line = false

abbrev pub NoneOpens : List Entry → Type 0
NoneOpens lines = AllByRecursion (λ line. is_opening line ≡ false) lines

-- an end after these lines of it, in this turn, where these requests are withheld from the host, and where this would be
-- drawn
abbrev pub moved_by : Withheld → Response → ℕ → List Entry → Keyed → Keyed
moved_by withheld response slot [] k = k
moved_by withheld response slot (line ∷ lines) k =
    moved_by withheld response slot lines (keyed_by_all (steps_said withheld response slot k line) k)

-- an end after what its host asks of it or answers, if anything
abbrev pub steps_asked : Keyed → Seen → List LineStep
steps_asked k (Asks step) = steps_asking k step
steps_asked k seen = []

abbrev pub after_asking : Option Step → Keyed → Keyed
after_asking asked k =
    keyed_by_all (flat_map answering (answers_if asked) ++ flat_map (steps_asked k) (asked_if asked)) k
