-- Lines in which a peripheral takes an update of its central, or another one, or reads it as for another event.
use Rattle.std.specs.Prelude.{List, [], ◌∷◌, ◌++◌}
use Rattle.ble_base.specs.declared.roles.Side.TheVariants.{A}
use Rattle.journal.specs.declared.entries.Entry.{Entry}
use Rattle.journal.specs.declared.entries.Entry.TheVariants.{Applied, Enter, Took}
use Rattle.link_changes.specs.Worked.{update_octets}
use Rattle.journal_data.specs.journal_links.Rows.{update_in_force, update_sent}

-- A lets the update hold that it took
abbrev pub update_followed : List Entry
update_followed = update_in_force ++ Applied A 1 1 6 ∷ []

-- A lets one hold whose Instant is event 7, where B sent one for event 6
abbrev pub another_followed : List Entry
another_followed = update_sent ++ Took A 1 1 3 (update_octets 7) ∷ Applied A 1 1 7 ∷ []

-- A takes it 65536 events after B sent it, and so reads the same Instant as event 65542
abbrev pub taken_ahead : List Entry
taken_ahead = update_sent ++ Enter A 1 65536 9 ∷ Took A 1 1 3 (update_octets 6) ∷ []

-- A takes an update in the event after its Instant, and enters the next event
abbrev pub taken_late : List Entry
taken_late = Enter A 1 7 9 ∷ Took A 1 1 3 (update_octets 6) ∷ Enter A 1 8 9 ∷ []
