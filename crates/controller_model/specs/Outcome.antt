-- What comes of a phase, or of the beginning of a turn (our choice).
use Rattle.std.specs.Prelude.{List, [], ◌++◌}
use Rattle.ble_base.specs.declared.notes.Note.{Note}
use Rattle.controller_model.specs.declared.doing.Doing.{Doing}
use Rattle.controller_model.specs.Facts.{Facts}
use Rattle.controller_model.specs.Packets.{facts_doing, notes_doing}

pub record Outcome : Type 0 where
  -- what is held then
  pub facts : Facts
  -- what is noted
  pub notes : List Note
  -- what is done in the next phase
  pub next : Doing

-- nothing is noted
abbrev pub goes_on : Facts → Doing → Outcome
goes_on facts doing = record { facts = facts; notes = []; next = doing }

-- what is held as the next phase comes, and all that is noted until then
abbrev pub facts_passed : Outcome → Facts
facts_passed outcome = facts_doing outcome.next outcome.facts

abbrev pub notes_passed : Outcome → List Note
notes_passed outcome = outcome.notes ++ notes_doing outcome.next outcome.facts
