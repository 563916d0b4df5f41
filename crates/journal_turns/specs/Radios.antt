-- Who can send and hear in a turn: the sides whose radio the schedule leaves on (our choice).
use Rattle.std.specs.Prelude.{◌≡◌, ℕ, ◌-◌, Bool, true, false, List, ◌∷◌, ◌++◌, length, Some, slice_get}
use Rattle.ble_base.specs.Side.{other_side}
use Rattle.ble_base.specs.declared.roles.Side.{Side}
use Rattle.ble_base.specs.declared.roles.Side.TheVariants.{A, B}
use Rattle.ble_base.specs.declared.verdicts.Verdict.{Verdict}
use Rattle.ble_base.specs.declared.verdicts.Verdict.TheVariants.{Missed}
use Rattle.journal.specs.declared.entries.Entry.{Entry}
use Rattle.journal.specs.declared.entries.Entry.TheVariants.{Air}
use Rattle.journal.specs.declared.entries.Mark.{Mark}
use Rattle.radio_replay.specs.Script.{Script, Turn as ScriptTurn}
use Rattle.run_model.specs.Readers.{turns_of}

-- whether the radio of a side is on in a turn
abbrev pub radio_of : Side → ScriptTurn → Bool
radio_of A turn = turn.a_on
radio_of B turn = turn.b_on

-- a packet of a side that stands after these entries, with this verdict of the other side
pub record IsOnRadio (script : Script) (front : List Entry) (side : Side) (verdict : Verdict) : Type 0 where
  pub turn : ScriptTurn
  pub is_now : slice_get script.turns (length (turns_of front) - 1) ≡ Some turn
  -- the sender has its radio on in this turn
  pub sends : radio_of side turn ≡ true
  -- a side that has it off misses the packet
  pub misses : radio_of (other_side side) turn ≡ false → verdict ≡ Missed

abbrev pub AllAreOnRadio : Script → List Entry → Type 0
AllAreOnRadio script journal =
    (front rest : List Entry) (side : Side) (channel : ℕ) (octets : List ℕ) (fate : Mark) (verdict : Verdict)
    → journal ≡ front ++ Air side channel octets fate verdict ∷ rest → IsOnRadio script front side verdict
