-- A schedule as contracts see it (our choice).
use Rattle.std.specs.Prelude.{ℕ, ◌≤◌, Bool, List, slice_index_or}
use Rattle.ble_base.specs.declared.Config.{Config}
use Rattle.radio_replay.specs.declared.fates.Fate.{Fate}
use Rattle.radio_replay.specs.declared.fates.Fate.TheVariants.{Pass}
use Rattle.radio_replay.specs.Limits.{most_fed}

-- a turn: which radios are on, the most octets that each side is fed, and the fates of its packets in order
pub record Turn : Type 0 where
  pub a_on : Bool
  pub b_on : Bool
  pub feed_a : ℕ
  pub feed_b : ℕ
  pub fates : List Fate

-- a turn feeds at most 1048576 octets to each side
abbrev pub CanBeFed : Turn → Type 0
CanBeFed turn = (turn.feed_a ≤ most_fed) × (turn.feed_b ≤ most_fed)

-- the settings of both sides, and the turns in order
pub record Script : Type 0 where
  pub a : Config
  pub b : Config
  pub turns : List Turn

-- the fate of a packet, counted from 0; packets past the fates of the turn pass
abbrev pub fate_of : Turn → ℕ → Fate
fate_of turn packet = slice_index_or turn.fates packet Pass
