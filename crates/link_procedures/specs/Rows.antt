-- Notes of procedures, for the worked examples.
use Rattle.std.specs.Prelude.{List, [], ◌∷◌}
use Rattle.ble_base.specs.declared.notes.Note.{Note}
use Rattle.ble_base.specs.declared.notes.Note.TheVariants.{Began, Done, Refused}
use Rattle.ble_base.specs.declared.procedure_kinds.Kind.{Kind}

-- a procedure of this kind begins, is completed, or is refused as an unsupported remote feature
abbrev pub begins_procedure : Kind → List Note
begins_procedure kind = Began 0 kind ∷ []

abbrev pub completes_procedure : Kind → List Note
completes_procedure kind = Done 0 kind ∷ []

abbrev pub refuses_procedure : Kind → List Note
refuses_procedure kind = Refused 0 kind (record { 0 = 0x1A }) ∷ []
