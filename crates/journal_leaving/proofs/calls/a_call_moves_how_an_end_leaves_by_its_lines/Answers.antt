-- Proof of `calls::a_call_moves_how_an_end_leaves_by_its_lines`.
use Rattle.journal_controls.proofs.EventMoves.{turn_answers}
use Rattle.journal_leaving.proofs.AskedLeavings.{call_asks}
use Rattle.journal_leaving.proofs.EventMoves.{call_moves}
use Rattle.journal_leaving.proofs.calls.a_call_moves_how_an_end_leaves_by_its_lines.Goals as goal

pub returns : goal.returns
returns c = record {
  turn = λ words given side number station call history more k leaving kept none lines opens was left.
      call_moves words given side number station call history more k leaving kept (turn_answers given side station call history none) lines opens was left;
  asked = λ words given side number station call history asked k leaving seen answers keyed was.
      call_asks words given side number station call history asked k leaving seen answers keyed was;
}
