-- The journal of a small run in which a link is shut after a forged packet, as worked examples have it.
use Rattle.std.specs.Prelude.{List, [], ◌∷◌, ◌++◌}
use Rattle.ble_base.specs.ErrorCodes.{mic_failure}
use Rattle.ble_base.specs.declared.roles.Side.TheVariants.{A, B}
use Rattle.ble_base.specs.declared.verdicts.Verdict.TheVariants.{Forged}
use Rattle.journal.specs.declared.entries.Entry.{Entry}
use Rattle.journal.specs.declared.entries.Entry.TheVariants.{Air, Shut}
use Rattle.journal.specs.declared.entries.Mark.TheVariants.{Pass}
use Rattle.journal_outcomes.specs.journal_collisions.journal_endings.journal_indications.journal_data.run_model.Rows.{first_packet, one_connection_journal}

-- A judges a packet of B on link 1 forged
abbrev pub forged_journal : List Entry
forged_journal = one_connection_journal ++ Air B 25 first_packet Pass Forged ∷ []

-- and shuts the link for it
abbrev pub failed_journal : List Entry
failed_journal = forged_journal ++ Shut A 1 (record { 0 = mic_failure }) ∷ []
