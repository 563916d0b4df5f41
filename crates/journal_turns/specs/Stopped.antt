-- Where a run stops by damage that would be judged good: at a packet of the turn that began last (our choice).
use Rattle.std.specs.Prelude.{◌≡◌, ◌≢◌, ℕ, ◌+◌, true, List, length, Some, slice_get}
use Rattle.ble_base.specs.Side.{other_side}
use Rattle.ble_base.specs.declared.roles.Side.{Side}
use Rattle.journal.specs.declared.entries.Entry.{Entry}
use Rattle.radio_replay.specs.Damage.{damaged_packet}
use Rattle.radio_replay.specs.Script.{Script, Turn as ScriptTurn, fate_of}
use Rattle.run_model.specs.Readers.{turn_packets, turns_of}
use Rattle.journal_turns.specs.Radios.{radio_of}

-- after this journal a side sends these octets as this packet of this turn, counted from 1, and others reach the other
-- side
pub record IsStoppedAt (script : Script) (side : Side) (turn packet : ℕ) (sent heard : List ℕ) (journal : List Entry) : Type 0 where
  pub now : ScriptTurn
  pub is_now : slice_get script.turns turn ≡ Some now
  -- it is the turn that began last, and the next packet of it
  pub in_turn : length (turns_of journal) ≡ turn + 1
  pub place : packet ≡ turn_packets journal + 1
  -- both sides have their radio on
  pub sends : radio_of side now ≡ true
  pub listens : radio_of (other_side side) now ≡ true
  -- the fate of that packet changes it
  pub heard_is : heard ≡ damaged_packet (fate_of now (turn_packets journal)) sent
  pub differs : heard ≢ sent
