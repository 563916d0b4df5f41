-- A packet to the host that does not name one open link, or with a wrong length.
use Rattle.std.proofs.Common.{[], ◌∷◌, refl, sym}
use Rattle.ble_base.specs.declared.roles.Side.TheVariants.{A, B}
use Rattle.journal_pdus.specs.journal_data.Lines.{lines_of}
use Rattle.run_model.specs.Rows.{one_connection_journal}
use Rattle.wrong_journals.specs.Held.{before_credits}
use Rattle.journal_pdus.specs.journal_acks.Rows.{data_acknowledged}
use Rattle.wrong_journals.proofs.Differing.{numbers_differ, truths_differ}
use Rattle.wrong_journals.proofs.held.packets_of_no_link_are_refused.Goals as goal

pub returns-clause-data : goal.returns-clause-data
unfolding lines_of
returns-clause-data c lawful =
    truths_differ (sym (lawful.received one_connection_journal [] A (0x02 ∷ 0x01 ∷ 0x20 ∷ 0x01 ∷ 0x00 ∷ 0xAA ∷ []) refl refl).is_open)

pub returns-clause-length : goal.returns-clause-length
unfolding lines_of
returns-clause-length c lawful =
    numbers_differ 6 7 refl (lawful.received data_acknowledged [] A (0x02 ∷ 0x00 ∷ 0x20 ∷ 0x02 ∷ 0x00 ∷ 0xAA ∷ []) refl refl).whole

pub returns-clause-credit : goal.returns-clause-credit
unfolding lines_of
returns-clause-credit c lawful =
    truths_differ (sym (lawful.completed one_connection_journal [] A (0x04 ∷ 0x13 ∷ 0x05 ∷ 0x01 ∷ 0x01 ∷ 0x00 ∷ 0x01 ∷ 0x00 ∷ []) refl refl).is_open)

pub returns-clause-two : goal.returns-clause-two
unfolding lines_of
returns-clause-two c lawful =
    numbers_differ 2 1 refl
    (lawful.completed before_credits [] B (0x04 ∷ 0x13 ∷ 0x09 ∷ 0x02 ∷ 0x00 ∷ 0x00 ∷ 0x01 ∷ 0x00 ∷ 0x01 ∷ 0x00 ∷ 0x01 ∷ 0x00 ∷ []) refl refl).one_handle.one
