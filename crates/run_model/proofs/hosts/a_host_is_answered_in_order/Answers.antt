-- Proof of `hosts::a_host_is_answered_in_order`.
use Rattle.run_model.proofs.Answers.{AreAnswered, answered}
use Rattle.run_model.proofs.UpToDate.{pair_last, pair_turn}
use Rattle.run_model.specs.Pair.{given_of}
use Rattle.run_model.specs.Run.{run_of, history_of}
use Rattle.run_model.specs.Journal.{journal_of}
use Rattle.run_model.proofs.hosts.a_host_is_answered_in_order.Goals as goal

pub returns : goal.returns
returns c =
    let laws : AreAnswered = record {
      alone = c.a_host_is_answered_whatever_the_turns.ensures.alone;
      beside = c.a_host_is_answered_whatever_the_turns.ensures.beside;
      by_frames = c.a_host_is_answered_whatever_the_turns.ensures.by_frames;
      framed = c.commands_are_answered_in_order.ensures.framed;
      in_order = c.commands_are_answered_in_order.ensures.by_two_octets;
    } in record {
      turn = λ a b script front rest slot a_on b_on is side.
          answered laws (given_of a b script) front side (pair_turn a b script front rest slot a_on b_on is);
      last = λ a b script side.
          answered laws (given_of a b script) (journal_of (history_of (run_of (given_of a b script)))) side (pair_last a b script);
    }
