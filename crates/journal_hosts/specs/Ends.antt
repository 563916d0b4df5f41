-- What comes just after the line of a link that a side shuts as a turn ends (Core 5.2, volume 4 part E, sections 7.3.1
-- and 7.7.5; that it comes at once is our choice).
use Rattle.std.specs.Prelude.{◌≡◌, ℕ, ◌<◌, Bool, true, List, ◌∷◌, ◌++◌}
use Rattle.ble_base.specs.declared.ErrCode.{ErrCode}
use Rattle.ble_base.specs.declared.roles.Side.{Side}
use Rattle.hci_evt.specs.declared.event.MaskBit.TheVariants.{Main}
use Rattle.host_masks.specs.Masks.{lets_through, masks_of}
use Rattle.journal.specs.declared.entries.Entry.{Entry}
use Rattle.journal.specs.declared.entries.Entry.TheVariants.{Shut, Up}
use Rattle.run_model.specs.Readers.{fed_to_side, turn_packets}
use Rattle.journal_hosts.specs.Credits.{IsEndReport}

-- the masks of a host let Disconnection Complete through, which has bit 4, by what its side was fed
abbrev pub lets_ends_through : Side → List Entry → Bool
lets_ends_through side lines = lets_through (masks_of (fed_to_side side lines)) (Main 4)

-- the rest of a journal, after these lines, begins with that event of a link that the side has shut
pub record BeginsWithReport (side : Side) (link : ℕ) (reason : ErrCode) (lines rest : List Entry) : Type 0 where
  pub octets : List ℕ
  pub later : List Entry
  pub rest_is : rest ≡ Up side octets ∷ later
  pub reports : IsEndReport side link reason lines octets

-- so it does after each link that a side shuts after the first packet of a turn, and that is as the turn ends
abbrev pub AllLateEndsAreReported : List Entry → Type 0
AllLateEndsAreReported journal = (front rest : List Entry) (side : Side) (link : ℕ) (reason : ErrCode)
    → journal ≡ front ++ Shut side link reason ∷ rest → 0 < turn_packets front
    → lets_ends_through side front ≡ true → BeginsWithReport side link reason front rest
