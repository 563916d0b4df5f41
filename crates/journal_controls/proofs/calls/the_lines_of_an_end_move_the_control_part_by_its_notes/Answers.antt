-- Proof of `calls::the_lines_of_an_end_move_the_control_part_by_its_notes`.
use Rattle.journal_ends.specs.link_model.End.{facts_of}
use Rattle.journal_ends.specs.link_model.Facts.{keyed_of}
use Rattle.journal_controls.specs.Withheld.{nothing_withheld}
use Rattle.journal_controls.proofs.EndMoves.{moved_noted, past_keeps, steps_later, unwithheld}
use Rattle.journal_controls.proofs.calls.the_lines_of_an_end_move_the_control_part_by_its_notes.Goals as goal

pub returns : goal.returns
returns c = record {
  opens_none = λ side number setup facts steps. steps_later side number setup facts steps;
  moves = λ side number slot response setup past notes.
      moved_noted side number nothing_withheld response slot setup.link.role notes (keyed_of (facts_of setup past)) (past_keeps setup past) (unwithheld side number response slot notes);
}
