-- Which control procedures an end has in progress, by its notes (Core 5.2, volume 6 part B, sections 5.1 and 5.3).
use Rattle.std.specs.Prelude.{Bool, false, not, ◌&&◌, ◌||◌, List, fold}
use Rattle.ble_base.specs.declared.notes.Note.{Note}
use Rattle.ble_base.specs.declared.notes.Note.TheVariants.{Began, Done, Refused}
use Rattle.ble_base.specs.declared.procedure_kinds.Kind.{Kind}
use Rattle.exclusive_stages.specs.Kinds.{central_kind, peripheral_kind}
use Rattle.exclusive_stages.specs.Pdus.{is_kind as is_exclusive_kind}
use Rattle.exclusive_stages.specs.declared.pdus.Exclusive.{Exclusive}
use Rattle.link_model.specs.Facts.{Facts}
use Rattle.link_model.specs.procedure_stages.Kinds.{is_kind, own_kind}
use Rattle.link_model.specs.procedure_values.Asks.{is_same_kind}
use Rattle.collision_steps.specs.CentralPart.{central_of}
use Rattle.collision_steps.specs.PeripheralPart.{peripheral_of}

-- ---- by the notes

-- whether a procedure of this kind is in progress at an end after one more note: it began, or was done or refused
abbrev pub runs_after : Kind → Bool → Note → Bool
runs_after kind runs (Began handle other) = runs || is_same_kind kind other
runs_after kind runs (Done handle other) = runs && not (is_same_kind kind other)
runs_after kind runs (Refused handle other code) = runs && not (is_same_kind kind other)
runs_after kind runs note = runs

-- an end has begun a procedure of this kind that is neither done nor refused, by its notes
abbrev pub runs_noted : Kind → List Note → Bool
runs_noted kind notes = fold (runs_after kind) false notes

-- ---- by what the end holds

-- the procedure that the end began, and that is in progress there, is of this kind
abbrev pub runs_at : Kind → Facts → Bool
runs_at kind facts = is_kind (own_kind facts.control.table.progress) kind

-- of the procedures that exclude each other, the one in progress is of this kind, as joint runs see the table of a central,
-- and of a peripheral
abbrev pub runs_at_central : Exclusive → Facts → Bool
runs_at_central kind facts = is_exclusive_kind (central_kind (central_of facts.control.table).own) kind

abbrev pub runs_at_peripheral : Exclusive → Facts → Bool
runs_at_peripheral kind facts = is_exclusive_kind (peripheral_kind (peripheral_of facts.control.table).own) kind
