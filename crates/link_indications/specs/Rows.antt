-- Notes of a peripheral that takes an update, for the worked examples.
use Rattle.std.specs.Prelude.{ℕ, List, ◌++◌}
use Rattle.ble_base.specs.declared.notes.Note.{Note}
use Rattle.link_changes.specs.Worked.{enters, takes_update}

-- it takes an update whose Instant is event 6, in this event
abbrev pub update_taken_in : ℕ → List Note
update_taken_in event = enters event ++ takes_update 3 6
