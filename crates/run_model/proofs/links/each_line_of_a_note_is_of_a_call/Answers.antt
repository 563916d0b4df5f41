-- Proof of `links::each_line_of_a_note_is_of_a_call`.
use Rattle.run_model.proofs.NoteLines.{line_in_call, note_line}
use Rattle.run_model.proofs.links.each_line_of_a_note_is_of_a_call.Goals as goal

pub returns : goal.returns
returns c = record {
  note = note_line;
  link = λ given front rest entry line is names. line_in_call given front rest entry line names is;
}
