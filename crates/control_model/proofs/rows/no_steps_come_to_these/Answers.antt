-- The proof of the rows `no_steps_come_to_these`.
use Rattle.control_model.proofs.Central.{early}
use Rattle.control_model.proofs.Waiting.{not_alone, not_two_kinds}
use Rattle.control_model.proofs.rows.no_steps_come_to_these.Goals as goal

pub returns-clause-two_kinds : goal.returns-clause-two_kinds
returns-clause-two_kinds c = not_two_kinds

pub returns-clause-table_alone : goal.returns-clause-table_alone
returns-clause-table_alone c = not_alone

pub returns-clause-early : goal.returns-clause-early
returns-clause-early c = early
