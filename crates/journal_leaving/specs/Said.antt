-- What the lines of an end do, in one turn, to how it is to leave its link, and what its host asks does to it (Core 5.2,
-- volume 6 part B, section 5.1.6).
use Rattle.std.specs.Prelude.{ℕ, List, [], ◌∷◌, map, Option, Some, None}
use Rattle.ble_base.specs.declared.notes.Note.{Note}
use Rattle.ble_base.specs.declared.roles.Side.{Side}
use Rattle.journal.specs.declared.entries.Entry.{Entry}
use Rattle.journal_controls.specs.KeyedLines.{keyed_by_all}
use Rattle.journal_controls.specs.LineSteps.{steps_said}
use Rattle.journal_controls.specs.Withheld.{Withheld}
use Rattle.journal_controls.specs.journal_links.LinkLines.{line_of}
use Rattle.journal_controls.specs.link_model.Step.{Step}
use Rattle.journal_controls.specs.link_model.declared.state.Leaving.{Leaving}
use Rattle.journal_controls.specs.link_model.keyed_control.Keyed.{Keyed}
use Rattle.journal_controls.specs.link_model.keyed_control.declared.material.Response.{Response}
use Rattle.journal_leaving.specs.Lacking.{leaving_answering}
use Rattle.journal_leaving.specs.Leaving.{leaving_asking, leaving_saying}

-- how an end that is like this is to leave its link after these lines, in this turn, where these requests are withheld from
-- its host, and where this would be drawn
abbrev pub leaving_said : Withheld → Response → ℕ → List Entry → Keyed → Leaving → Leaving
leaving_said withheld response slot [] k leaving = leaving
leaving_said withheld response slot (line ∷ lines) k leaving =
    leaving_said withheld response slot lines (keyed_by_all (steps_said withheld response slot k line) k)
    (leaving_saying withheld response slot (Some k) leaving line)

-- the same by the lines of these notes
abbrev pub leaving_noted : Side → ℕ → Withheld → Response → ℕ → List Note → Keyed → Leaving → Leaving
leaving_noted side number withheld response slot notes k leaving =
    leaving_said withheld response slot (map (line_of side number) notes) k leaving

-- how an end that is like this is to leave its link after what its host asks of it or answers, if anything
abbrev pub leaving_if_asked : Keyed → Option Step → Leaving → Leaving
leaving_if_asked k None leaving = leaving
leaving_if_asked k (Some step) leaving = leaving_asking step (leaving_answering k leaving step)
