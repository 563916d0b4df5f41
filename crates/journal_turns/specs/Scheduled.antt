-- What a schedule says of the lines of a journal: which turns there are, what is fed in them, and the fates of packets
-- (our choice).
use Rattle.std.specs.Prelude.{◌≡◌, ℕ, Bool, List, ◌∷◌, ◌++◌, length, take, Option}
use Rattle.std.specs.List.{sum_by}
use Rattle.ble_base.specs.declared.roles.Side.{Side}
use Rattle.ble_base.specs.declared.roles.Side.TheVariants.{A, B}
use Rattle.ble_base.specs.declared.verdicts.Verdict.{Verdict}
use Rattle.journal.specs.declared.entries.Entry.{Entry}
use Rattle.journal.specs.declared.entries.Entry.TheVariants.{Turn, Air}
use Rattle.journal.specs.declared.entries.Mark.{Mark}
use Rattle.radio_replay.specs.Script.{Script, Turn as ScriptTurn}
use Rattle.run_model.specs.Readers.{HasNextFate, PairOpening, fed_to_side, turns_from, turns_of}

-- ---- turns

-- the turns that begin are those of the schedule, in order from slot 0, each with its radios, up to one of them
pub record AreFirstTurns (script : Script) (journal : List Entry) : Type 0 where
  pub later : List PairOpening
  pub turns_are : turns_from 0 script.turns ≡ turns_of journal ++ later

-- all turns of the schedule begin
abbrev pub AreAllTurns : Script → List Entry → Type 0
AreAllTurns script journal = turns_of journal ≡ turns_from 0 script.turns

-- ---- octets of hosts

-- the most octets that a turn feeds to a side
abbrev pub feed_of : Side → ScriptTurn → ℕ
feed_of A turn = turn.feed_a
feed_of B turn = turn.feed_b

abbrev pub stream_of : Side → List ℕ → List ℕ → List ℕ
stream_of A a b = a
stream_of B a b = b

-- each side was fed the octets of its stream in order: as many as these turns feed it, or all
abbrev pub IsFed : List ℕ → List ℕ → List ScriptTurn → List Entry → Type 0
IsFed a b turns front =
    (side : Side) → fed_to_side side front ≡ take (sum_by (feed_of side) turns) (stream_of side a b)

-- the turns of the schedule that began in a part of the journal
abbrev pub begun_in : Script → List Entry → List ScriptTurn
begun_in script front = take (length (turns_of front)) script.turns

-- before the next turn begins, and at the end, each side was fed what the turns so far feed it
pub record IsFedInTurn (a b : List ℕ) (script : Script) (journal : List Entry) : Type 0 where
  pub each_turn : (front rest : List Entry) (slot : ℕ) (a_on : Bool) (b_on : Option Bool)
      → journal ≡ front ++ Turn slot a_on b_on ∷ rest → IsFed a b (begun_in script front) front
  pub at_end : IsFed a b (begun_in script journal) journal

-- ---- fates

-- the n-th packet of a turn has the n-th fate of the turn
abbrev pub AllHaveNextFate : Script → List Entry → Type 0
AllHaveNextFate script journal =
    (front rest : List Entry) (side : Side) (channel : ℕ) (octets : List ℕ) (fate : Mark) (verdict : Verdict)
    → journal ≡ front ++ Air side channel octets fate verdict ∷ rest → HasNextFate script front fate
