-- A host receives data of two links out of order.
use Rattle.std.proofs.Common.{[], ◌∷◌, refl, arith}
use Rattle.ble_base.specs.declared.roles.Side.TheVariants.{B}
use Rattle.journal.specs.declared.entries.Entry.TheVariants.{Up}
use Rattle.journal_pdus.specs.journal_hosts.CreditRows.{data_up}
use Rattle.journal_pdus.specs.journal_hosts.HostOrder.{waiting_for}
use Rattle.journal_pdus.specs.journal_hosts.OrderRows.{first_shut, second_up, two_take}
use Rattle.journal_pdus.proofs.journal_hosts.FirstPieces.{last_octet}
use Rattle.wrong_journals.proofs.hosts.wrong_orders_of_data_are_refused.Goals as goal

pub returns-clause-second : goal.returns-clause-second
unfolding waiting_for
returns-clause-second c lawful =
    let same = last_octet _ _ _ second_up 0xAA 0xBB refl refl (lawful two_take (Up B data_up ∷ []) B second_up refl refl) in
    absurd (omega (arith, same))

pub returns-clause-shut : goal.returns-clause-shut
unfolding waiting_for
returns-clause-shut c lawful =
    let same = last_octet _ _ _ data_up 0xBB 0xAA refl refl (lawful first_shut [] B data_up refl refl) in
    absurd (omega (arith, same))
