-- An event is entered twice, or one is left out.
use Rattle.std.proofs.Common.{[], ◌∷◌, ◌++◌, refl}
use Rattle.ble_base.specs.declared.roles.Side.TheVariants.{A}
use Rattle.journal.specs.declared.entries.Entry.TheVariants.{Enter}
use Rattle.journal_pdus.specs.journal_acks.EventOrder.{entered_on}
use Rattle.wrong_journals.specs.Events.{turns_before_first, turns_before_second, turns_of_other}
use Rattle.wrong_journals.proofs.Differing.{numbers_differ}
use Rattle.wrong_journals.proofs.events.wrong_orders_of_events_are_refused.Goals as goal

pub returns-clause-twice : goal.returns-clause-twice
unfolding entered_on
returns-clause-twice c lawful = numbers_differ 0 1 refl (lawful (turns_before_first ++ Enter A 1 0 25 ∷ []) [] A 1 0 25 refl)

pub returns-clause-left : goal.returns-clause-left
unfolding entered_on
returns-clause-left c lawful = numbers_differ 1 0 refl (lawful turns_before_second [] A 1 1 20 refl)

pub returns-clause-other : goal.returns-clause-other
unfolding entered_on
returns-clause-other c lawful = numbers_differ 1 0 refl (lawful turns_of_other [] A 1 1 20 refl)
