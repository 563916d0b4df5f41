-- A line of a link that is not open, or a link that is not opened as the next one.
use Rattle.std.proofs.Common.{[], ◌∷◌, is_some, refl, sym, ap, arith}
use Rattle.ble_base.specs.declared.roles.Role.TheVariants.{Central, Peripheral}
use Rattle.ble_base.specs.declared.roles.Side.TheVariants.{A, B}
use Rattle.journal.specs.declared.entries.Entry.TheVariants.{Opened}
use Rattle.journal_pdus.specs.journal_data.Lines.{lines_of}
use Rattle.run_model.specs.Rows.{one_connection_journal}
use Rattle.wrong_journals.specs.Hearings.{passed_connect}
use Rattle.wrong_journals.specs.Held.{anchor_of_other, opened_at_other, two_connected}
use Rattle.wrong_journals.specs.Resetting.{shut_by_reset}
use Rattle.wrong_journals.proofs.Differing.{truths_differ}
use Rattle.wrong_journals.proofs.held.lines_of_no_link_are_refused.Goals as goal

pub returns-clause-sent : goal.returns-clause-sent
unfolding lines_of
returns-clause-sent c lawful =
    truths_differ (sym (lawful.sent opened_at_other (Opened B 1 0 Central ∷ []) B 1 1 2 (0xAA ∷ []) refl))

pub returns-clause-took : goal.returns-clause-took
unfolding lines_of
returns-clause-took c lawful =
    truths_differ (sym (lawful.took (shut_by_reset A) [] A 1 1 2 (0xAA ∷ []) refl))

pub returns-clause-entered : goal.returns-clause-entered
unfolding lines_of
returns-clause-entered c lawful = truths_differ (sym (lawful.entered anchor_of_other [] A 1 0 25 refl))

pub returns-clause-shut : goal.returns-clause-shut
unfolding lines_of
returns-clause-shut c lawful =
    truths_differ (sym (lawful.shut (shut_by_reset A) [] A 1 (record { 0 = 0x00 }) refl))

pub returns-clause-opened : goal.returns-clause-opened
unfolding lines_of
returns-clause-opened c lawful = truths_differ (lawful.opened one_connection_journal [] B 1 1 Central refl).new

pub returns-clause-in_use : goal.returns-clause-in_use
unfolding lines_of
returns-clause-in_use c lawful = truths_differ (ap is_some (lawful.opened two_connected [] B 2 0 Central refl).free)

pub returns-clause-skipped : goal.returns-clause-skipped
unfolding lines_of
returns-clause-skipped c lawful = truths_differ (sym ((lawful.opened passed_connect [] A 1 1 Peripheral refl).least 0 (omega arith)))
