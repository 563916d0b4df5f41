-- Proof of `answers::each_command_is_answered`.
use Rattle.run_model.specs.Journal.{journal_of}
use Rattle.run_model.specs.Pair.{given_of}
use Rattle.run_model.specs.Run.{history_of, run_of}
use Rattle.journal_hosts.proofs.AnswersInRuns.{lines_answered}
use Rattle.journal_hosts.proofs.answers.each_command_is_answered.Goals as goal

pub returns : goal.returns
returns c = λ a b script. record {
  each_turn = λ front rest slot a_on b_on is side.
      lines_answered (given_of a b script) front side (c.a_host_is_answered_in_order.ensures.turn a b script front rest slot a_on b_on is side);
  at_end = λ side. lines_answered (given_of a b script) (journal_of (history_of (run_of (given_of a b script)))) side
      (c.a_host_is_answered_in_order.ensures.last a b script side);
}
