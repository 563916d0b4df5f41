-- All that is said of the packets of turns, as one record.
use Rattle.std.specs.Prelude.{List}
use Rattle.journal.specs.declared.entries.Entry.{Entry}
use Rattle.journal_wants.specs.journal_controls.journal_ends.Asked.{Words}
use Rattle.journal_wants.specs.Station.{Setups}
use Rattle.journal_moves.specs.Moves.{AllAwaitedAreHeard, AllHeardAreListenedFor, AllOwedAreSent, AllPacketsAreOwed}

-- in a journal, up to its end or to some place in a turn
pub record MovesAreOwed (words : Words) (setups : Setups) (journal : List Entry) : Type 0 where
  -- each packet is what its side is to send next, in the order of the phases and of the sides
  pub owed : AllPacketsAreOwed words setups journal
  -- before each turn neither side is to send anything more
  pub sent : AllOwedAreSent words setups journal
  -- what is heard was listened for
  pub listened : AllHeardAreListenedFor words setups journal
  -- and what is listened for is heard, if it passes
  pub heard : AllAwaitedAreHeard words setups journal
