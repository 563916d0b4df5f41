-- Proof of `ends::an_entry_moves_the_control_part_by_its_lines`.
use Rattle.journal_controls.proofs.EndSteps.{entry_moves}
use Rattle.journal_controls.proofs.ends.an_entry_moves_the_control_part_by_its_lines.Goals as goal

pub returns : goal.returns
returns c = λ side number slot response setup facts. entry_moves side number response slot setup facts
