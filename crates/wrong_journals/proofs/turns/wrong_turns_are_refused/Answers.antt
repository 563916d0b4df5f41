-- The turns of a journal are not those of its schedule.
use Rattle.std.proofs.Common.{length, refl, ap}
use Rattle.wrong_journals.proofs.Differing.{numbers_differ, truths_differ}
use Rattle.wrong_journals.proofs.Turning.{first_radio, first_slot, is_on, is_single}
use Rattle.wrong_journals.proofs.turns.wrong_turns_are_refused.Goals as goal

pub returns-clause-none : goal.returns-clause-none
returns-clause-none c a b all = numbers_differ 0 1 refl (ap (λ turns. length turns) all)

pub returns-clause-cut : goal.returns-clause-cut
returns-clause-cut c a b all = numbers_differ 1 2 refl (ap (λ turns. length turns) all)

pub returns-clause-first : goal.returns-clause-first
returns-clause-first c a b first = numbers_differ 0 7 refl (ap first_slot first.turns_are)

pub returns-clause-radios : goal.returns-clause-radios
returns-clause-radios c a b first = truths_differ (ap (λ turns. is_on (first_radio turns)) first.turns_are)

pub returns-clause-many : goal.returns-clause-many
returns-clause-many c a b first = truths_differ (ap is_single first.turns_are)
