-- The lines of one side on one link, and the notes that they say (our choice).
use Rattle.std.specs.Prelude.{◌≡◌, ℕ, ◌==◌, List, [], ◌∷◌, map, Option, Some, None, if◌then◌else◌}
use Rattle.std.specs.List.{flat_map}
use Rattle.ble_base.specs.declared.notes.Note.{Note}
use Rattle.ble_base.specs.declared.roles.Side.{Side}
use Rattle.journal.specs.declared.entries.Entry.{Entry}
use Rattle.journal.specs.declared.entries.Entry.TheVariants.{Opened, Shut, Sent, Took, Enter, Applied, Began, Refused, Done}
use Rattle.run_laws.specs.controller_model.Since.{notes_under}
use Rattle.run_laws.specs.run_model.History.{Event, noted_by}
use Rattle.run_laws.specs.run_model.Journal.{entry_of, journal_of, side_of}
use Rattle.run_laws.specs.run_model.Links.{links_of}
use Rattle.run_laws.specs.run_model.Readers.{of_side}

-- ---- by the lines alone

-- the side and the link that a line names
abbrev pub link_named : Entry → Option (Side × ℕ)
link_named (Opened side link handle role) = Some (side, link)
link_named (Shut side link reason) = Some (side, link)
link_named (Sent side link number llid body) = Some (side, link)
link_named (Took side link number llid body) = Some (side, link)
link_named (Enter side link event channel) = Some (side, link)
link_named (Applied side link number event) = Some (side, link)
link_named (Began side link kind) = Some (side, link)
link_named (Refused side link kind code) = Some (side, link)
link_named (Done side link kind) = Some (side, link)
link_named entry = None

-- the line, where it names this side and the link with this number
abbrev pub where_named : Side → ℕ → Option (Side × ℕ) → Entry → List Entry
where_named side number None line = []
where_named side number (Some named) line = of_side side named.0 (if named.1 == number then line ∷ [] else [])

-- the lines of a side on the link with a number, in order
abbrev pub lines_of : Side → ℕ → List Entry → List Entry
lines_of side number journal = flat_map (λ line. where_named side number (link_named line) line) journal

-- ---- by notes

-- the line that says a note of the link with a number
abbrev pub line_of : Side → ℕ → Note → Entry
line_of side number note = entry_of side (λ handle. number) number note

-- the lines of the side of a station on this link are those of these notes, in order
abbrev pub AreLinesOf : List Entry → ℕ → ℕ → List Note → Type 0
AreLinesOf journal station number notes =
    lines_of (side_of station) number journal ≡ map (line_of (side_of station) number) notes

-- the link that a station opened last under a handle: its lines are its notes
abbrev pub IsOfItsNotes : List Event → ℕ → ℕ → Type 0
IsOfItsNotes history station handle =
    AreLinesOf (journal_of history) station ((links_of history).link_of station handle)
    (notes_under handle (noted_by station history))
