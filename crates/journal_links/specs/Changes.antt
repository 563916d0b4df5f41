-- The changes of the parameters of a link that are in force at one end of it, by the lines of that end (Core 5.2,
-- volume 6 part B, sections 5.1.1, 5.1.2 and 5.5).
use Rattle.std.specs.Prelude.{ℕ, List, [], ◌∷◌}
use Rattle.std.specs.List.{flat_map}
use Rattle.ble_base.specs.declared.notes.Note.{Note}
use Rattle.ble_base.specs.declared.notes.Note.TheVariants.{Applied as applied_note, Enter as enter_note, Sent as sent_note, Took as took_note}
use Rattle.ble_base.specs.declared.roles.Role.{Role}
use Rattle.ble_base.specs.declared.roles.Role.TheVariants.{Central, Peripheral}
use Rattle.ble_base.specs.declared.roles.Side.{Side}
use Rattle.ble_base.specs.declared.roles.Side.TheVariants.{A, B}
use Rattle.instants.specs.declared.track.Change.{Change}
use Rattle.journal.specs.declared.entries.Entry.{Entry}
use Rattle.journal.specs.declared.entries.Entry.TheVariants.{Applied, Enter, Sent, Took}
use Rattle.link_changes.specs.Noted.{changes_noted}
use Rattle.journal_links.specs.Begun.{LinkBegun}
use Rattle.journal_links.specs.LinkLines.{lines_of}

-- the role of a side on a link of which that side is the central
abbrev pub role_by : Side → Side → Role
role_by A A = Central
role_by B B = Central
role_by central side = Peripheral

abbrev pub role_on : LinkBegun → Side → Role
role_on link side = role_by link.central side

-- the note that a line of a PDU, of an event or of an indication in force says, under the number of its link
abbrev pub note_said : Entry → List Note
note_said (Sent side link number llid body) = sent_note link number llid (record { items = body }) ∷ []
note_said (Took side link number llid body) = took_note link number llid (record { items = body }) ∷ []
note_said (Enter side link event channel) = enter_note link (record { 0 = event }) channel ∷ []
note_said (Applied side link number event) = applied_note link number (record { 0 = event }) ∷ []
note_said line = []

-- the notes of a side on the link with a number, by the lines of a journal
abbrev pub notes_said : Side → ℕ → List Entry → List Note
notes_said side number journal = flat_map note_said (lines_of side number journal)

-- the indications of the link with this number that are in force at a side after these entries, oldest first
abbrev pub changes_of : ℕ → LinkBegun → Side → List Entry → List Change
changes_of number link side front = changes_noted (role_on link side) (notes_said side number front)
