-- Two ends of a link are followed up to the first packet that mixes two session keys: one that is sealed with the key of
-- its sender, and judged good by an end with another key (Core 5.2, volume 6 part E, section 2; that they are not
-- followed from then on is our choice).
use Rattle.std.specs.Prelude.{◌≡◌, ℕ, ◌+◌, Bool, false, List, ◌++◌}
use Rattle.std.specs.List.{Contains}
use Rattle.journal.specs.declared.entries.Entry.{Entry}
use Rattle.journal_acks.specs.run_laws.Ends.{AreEnds, OpenEnd}
use Rattle.journal_acks.specs.run_model.History.{Event}
use Rattle.journal_acks.specs.run_model.Journal.{journal_of}
use Rattle.journal_acks.specs.run_model.Links.{links_of}
use Rattle.journal_acks.specs.run_model.Run.{Given, history_of, run_of}
use Rattle.run_pairs.specs.InTurns.{HearNoMixed}

-- whether one of these lines mixes two keys on the link with this number
abbrev pub Mixed : Type 0
Mixed = ℕ → List Entry → Bool

-- of no line, as in a journal in which no key is used
abbrev pub none_mixed : Mixed
none_mixed number front = false

-- a link that is mixed stays so
abbrev pub StaysMixed : Mixed → Type 0
StaysMixed mixed =
    (number : ℕ) (front more : List Entry) → mixed number (front ++ more) ≡ false → mixed number front ≡ false

-- in a run, as long as the lines mix nothing on a link, neither of its ends hears a packet that is mixed. The number of the
-- link is that of the CONNECT_IND of both ends
pub record Follows (given : Given) (mixed : Mixed) : Type 0 where
  pub hears : (before rest : List Event) (central peripheral : OpenEnd) (ends : AreEnds before central peripheral) (number : ℕ)
      → history_of (run_of given) ≡ before ++ rest
      → Contains given.stations central.station → Contains given.stations peripheral.station
      → number ≡ (links_of ends.of_central.before).begun + 1 → mixed number (journal_of before) ≡ false
      → HearNoMixed given before central peripheral
  pub front : StaysMixed mixed
