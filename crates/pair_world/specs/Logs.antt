-- What a run writes down (our choice).
use Rattle.std.specs.Prelude.{ℕ, List, [], ◌∷◌, ◌++◌}
use Rattle.ble_base.specs.declared.roles.Side.{Side}
use Rattle.ble_base.specs.declared.notes.Note.{Note}
use Rattle.journal.specs.declared.entries.Entry.{Entry}
use Rattle.run_model.specs.Journal.{entry_of}
use Rattle.pair_world.specs.KnownLinks.{KnownLinks, number_in, with_note}

-- the journal so far, and how many links began
pub record LogState : Type 0 where
  pub entries : List Entry
  pub links : ℕ

abbrev pub first_log : LogState
first_log = record { entries = []; links = 0 }

abbrev pub with_entries : List Entry → LogState → LogState
with_entries entries log = record log { entries = log.entries ++ entries }

-- the entry of a note of a station that knows these links
abbrev pub entry_noted : Side → KnownLinks → Note → Entry
entry_noted side known note = entry_of side (number_in known) known.last note

-- the entries of notes
abbrev pub entries_noted : Side → KnownLinks → List Note → List Entry
entries_noted side known [] = []
entries_noted side known (note ∷ notes) =
    entry_noted side known note ∷ entries_noted side (with_note known note) notes

-- what it knows once it noted these
abbrev pub known_after : KnownLinks → List Note → KnownLinks
known_after known [] = known
known_after known (note ∷ notes) = known_after (with_note known note) notes
