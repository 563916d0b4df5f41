-- Notes of a controller.
use Rattle.ble_base.specs.declared.notes.Note.{Note}
use Rattle.ble_base.specs.declared.notes.Note.TheVariants.{Done}
use Rattle.ble_base.specs.declared.procedure_kinds.Kind.TheVariants.{Update}

-- the note in the unused places of an outbox, which no reader sees (our choice)
abbrev pub filler_note : Note
filler_note = Done 0 Update
