-- Another line is due, or none.
use Rattle.data_pdu.specs.Layouts.{makers}
use Rattle.data_pdu.specs.Reading.{ctrl_of, length_of}
use Rattle.wrong_journals.proofs.procedure_lines.lines_that_are_not_due_are_refused.Goals as goal

pub returns : goal.returns
unfolding ctrl_of makers length_of
returns c = record {
  another_kind = λ is. absurd cc;
  second = λ is. absurd cc;
  missing = λ is. absurd cc;
  twice = λ is. absurd cc;
  before_instant = λ is. absurd cc;
}
