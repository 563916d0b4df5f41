-- Proof of `calls::a_call_moves_the_control_part_by_its_lines`.
use Rattle.journal_controls.proofs.AskedControls.{call_asks}
use Rattle.journal_controls.proofs.EventMoves.{call_moves, turn_answers}
use Rattle.journal_controls.proofs.calls.a_call_moves_the_control_part_by_its_lines.Goals as goal

pub returns : goal.returns
returns c = record {
  turn = λ words given side number station call history more k kept none.
      call_moves words given side number station call history more k kept (turn_answers given side station call history none);
  asked = λ words given side number station call history asked k. call_asks words given side number station call history asked k;
}
