-- Proof of `rows::lines_after_data_are_refused`.
use Rattle.std.proofs.Common.{[], ◌∷◌, refl}
use Rattle.ble_base.specs.declared.roles.Side.TheVariants.{A, B}
use Rattle.ble_base.specs.declared.verdicts.Verdict.TheVariants.{Missed}
use Rattle.journal.specs.declared.entries.Entry.TheVariants.{Air, Took, Up}
use Rattle.journal.specs.declared.entries.Mark.TheVariants.{Pass}
use Rattle.journal_hosts.specs.CreditRows.{data_up}
use Rattle.journal_hosts.specs.OrderRows.{both_end, both_up}
use Rattle.journal_hosts.proofs.rows.lines_after_data_are_refused.Goals as goal

pub returns-clause-packet : goal.returns-clause-packet
returns-clause-packet c lawful = lawful both_end [] (Air B 37 (0xAA ∷ []) Pass Missed) B refl refl

pub returns-clause-taken : goal.returns-clause-taken
returns-clause-taken c lawful = lawful both_up [] (Took B 1 3 1 (0xCC ∷ [])) B refl refl

pub returns-clause-earlier : goal.returns-clause-earlier
returns-clause-earlier c lawful = lawful both_up [] (Up A data_up) B refl refl
