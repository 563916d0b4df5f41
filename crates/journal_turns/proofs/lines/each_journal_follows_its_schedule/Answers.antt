-- Proof of `lines::each_journal_follows_its_schedule`.
use Rattle.std.proofs.Common.{take, sym, ap, ◌∙◌}
use Rattle.run_model.specs.History.{turns_begun}
use Rattle.run_model.specs.Journal.{journal_of}
use Rattle.run_model.specs.Pair.{given_of}
use Rattle.run_model.specs.Readers.{turns_from, turns_of}
use Rattle.run_model.specs.Run.{Run, history_of, run_of}
use Rattle.journal_turns.proofs.RadiosOff.{is_on_radio}
use Rattle.journal_turns.proofs.Scheduling.{are_all, are_first, is_fed}
use Rattle.journal_turns.proofs.Verdicts.{is_judged}
use Rattle.journal_turns.proofs.lines.each_journal_follows_its_schedule.Goals as goal

pub returns-clause-follows : goal.returns-clause-follows
returns-clause-follows c = λ a b script.
    let given = given_of a b script in
    let journal = journal_of (history_of (run_of given)) in
    record {
      turns = are_first script journal (turns_begun (history_of (run_of given))) (c.a_journal_says_what_happened.ensures.turns a b script);
      in_order = c.entries_are_in_order.ensures.order a b script;
      fed = record {
        each_turn = λ front rest slot a_on b_on is. is_fed a b script front (c.a_turn_leaves_nothing_over.ensures.turn a b script front rest slot a_on b_on is);
        at_end = is_fed a b script journal (c.a_turn_leaves_nothing_over.ensures.last a b script);
      };
      fates = λ front rest side channel octets fate verdict is. c.each_packet_on_the_air_is_due.ensures.fate a b script front rest side channel octets fate verdict is;
      radios = λ front rest side channel octets fate verdict is.
          is_on_radio a b script front side channel octets fate verdict (c.each_packet_on_the_air_is_due.ensures.due given front rest side channel octets fate verdict is)
          (c.each_event_is_due.ensures.station given);
      verdicts = λ front rest side channel octets fate verdict is.
          is_judged given front side channel octets fate verdict (c.each_packet_on_the_air_is_due.ensures.due given front rest side channel octets fate verdict is);
    }

pub returns-clause-whole : goal.returns-clause-whole
returns-clause-whole c = λ a b script history whole.
    are_all script (journal_of history) (turns_begun history)
    (ap (λ (run : Run). turns_of (journal_of (history_of run))) (sym whole) ∙ c.a_journal_says_what_happened.ensures.turns a b script
    ∙ ap (λ (run : Run). turns_from 0 (take (turns_begun (history_of run)) script.turns)) whole)
    (c.turns_follow_the_schedule.ensures.whole (given_of a b script) history whole)
