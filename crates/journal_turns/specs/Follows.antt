-- A journal that follows its schedule (our choice).
use Rattle.std.specs.Prelude.{ℕ, List}
use Rattle.journal.specs.declared.entries.Entry.{Entry}
use Rattle.radio_replay.specs.Script.{Script}
use Rattle.run_model.specs.Order.{IsInOrder}
use Rattle.journal_turns.specs.Judged.{AllAreJudged}
use Rattle.journal_turns.specs.Radios.{AllAreOnRadio}
use Rattle.journal_turns.specs.Scheduled.{AllHaveNextFate, AreFirstTurns, IsFedInTurn}

-- a journal of a run of these streams by this script, up to its end or to some place in a turn
pub record FollowsSchedule (a b : List ℕ) (script : Script) (journal : List Entry) : Type 0 where
  pub turns : AreFirstTurns script journal
  -- the lines of a turn come in its order: both sides are fed, then both begin it, and so on
  pub in_order : IsInOrder journal
  pub fed : IsFedInTurn a b script journal
  pub fates : AllHaveNextFate script journal
  pub radios : AllAreOnRadio script journal
  pub verdicts : AllAreJudged journal
