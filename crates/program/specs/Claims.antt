-- What is said of the journals of runs, beyond that they are those of the runs (our choice).
use Rattle.std.specs.Prelude.{◌≡◌, ℕ, List, length}
use Rattle.ble_base.specs.declared.Side.TheVariants.{A, B}
use Rattle.journal.specs.declared.entries.Entry.{Entry}
use Rattle.radio_replay.specs.Script.{Script}
use Rattle.program.specs.Counts.{last_opened, octets_up}
use Rattle.program.specs.LoadLine.{line_of_counts}

-- what a command writes of a journal: its text, or something else that is said of it
abbrev pub Told : Type 0
Told = Script → List Entry → List ℕ

pub record Claims : Type 1 where
  -- of the journal of each run of two streams by a script, whole or ended by damage
  pub each : List ℕ → List ℕ → Script → List Entry → Type 0
  -- of that of a whole run
  pub whole : Script → List Entry → Type 0
  -- of that of a run that ends in this turn at this packet, because what was sent is changed, and judged good as it is
  -- heard
  pub ended : Script → (turn packet : ℕ) → (sent heard : List ℕ) → List Entry → Type 0
  -- and the line on the whole run of the load of a number
  pub line_on : ℕ → Told

-- ---- what is said without a law of journals

-- the public addresses of both sides have six octets
pub record HaveSixOctets (script : Script) : Type 0 where
  pub a : length script.a.public ≡ 6
  pub b : length script.b.public ≡ 6

-- the numbers of turns, of links, and of the octets of data that the hosts of A and of B receive, as they are read of
-- the lines
abbrev pub counted_line : ℕ → Told
counted_line number script journal =
    line_of_counts number (length script.turns) (last_opened journal) (octets_up A journal) (octets_up B journal)

abbrev pub of_runs : Claims
of_runs = record {
  each = λ a b script journal. HaveSixOctets script;
  whole = λ script journal. Unit {0};
  ended = λ script turn packet sent heard journal. Unit {0};
  line_on = counted_line;
}
