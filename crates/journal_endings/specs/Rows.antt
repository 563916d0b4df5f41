-- The journal of a small run in which a link is shut, as worked examples have it.
use Rattle.std.specs.Prelude.{ℕ, List, [], ◌∷◌, ◌++◌}
use Rattle.ble_base.specs.declared.roles.Side.TheVariants.{A}
use Rattle.journal.specs.declared.entries.Entry.{Entry}
use Rattle.journal.specs.declared.entries.Entry.TheVariants.{Shut}
use Rattle.journal_indications.specs.journal_data.run_model.Rows.{one_connection_journal}

-- A shuts its link with this error
abbrev pub shut_with : ℕ → List Entry
shut_with code = one_connection_journal ++ Shut A 1 (record { 0 = code }) ∷ []
