-- A link is open as a Reset is answered.
use Rattle.std.proofs.Common.{[], ap, length, refl}
use Rattle.ble_base.specs.declared.roles.Side.TheVariants.{A}
use Rattle.run_model.specs.Rows.{reset_answer}
use Rattle.journal_pdus.specs.journal_data.Lines.{lines_of}
use Rattle.wrong_journals.specs.Resetting.{other_shut, reset_now}
use Rattle.wrong_journals.proofs.Differing.{numbers_differ}
use Rattle.wrong_journals.proofs.resets.links_left_by_a_reset_are_refused.Goals as goal

pub returns-clause-left : goal.returns-clause-left
unfolding lines_of
returns-clause-left c lawful = numbers_differ 1 0 refl (ap length (lawful (reset_now A) [] A reset_answer refl refl))

pub returns-clause-at_one : goal.returns-clause-at_one
unfolding lines_of
returns-clause-at_one c lawful = numbers_differ 1 0 refl (ap length (lawful other_shut [] A reset_answer refl refl))

pub returns-clause-answer : goal.returns-clause-answer
returns-clause-answer c = refl
