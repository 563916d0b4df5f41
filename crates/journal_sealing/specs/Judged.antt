-- The verdict on a packet of a link that an end hears whole, from the lines of a journal alone (Core 5.2, volume 6 part B,
-- sections 4.5.9 and 5.1.3.1, and part E, section 2).
use Rattle.std.specs.Prelude.{◌≡◌, ℕ, true, false, List, ◌∷◌, ◌++◌, Some, if◌then◌else◌}
use Rattle.ble_base.specs.Side.{other_side}
use Rattle.ble_base.specs.declared.roles.Side.{Side}
use Rattle.ble_base.specs.declared.verdicts.Verdict.{Verdict}
use Rattle.ble_base.specs.declared.verdicts.Verdict.TheVariants.{Forged, Good}
use Rattle.journal.specs.declared.entries.Entry.{Entry}
use Rattle.journal.specs.declared.entries.Entry.TheVariants.{Air}
use Rattle.journal.specs.declared.entries.Mark.{Mark}
use Rattle.journal_controls.specs.journal_ends.Asked.{Words}
use Rattle.journal_controls.specs.journal_ends.Left.{is_unchanged, left_of}
use Rattle.journal_controls.specs.journal_packets.Belonging.{link_of_packet}
use Rattle.journal_controls.specs.run_model.History.{is_handed}
use Rattle.journal_controls.specs.run_model.Links.{is_advertising}
use Rattle.journal_sealing.specs.Forged.{is_forged_for}

-- a packet with this fate that a side sends after these entries is judged forged exactly where what the radio left of it is
-- forged for the end of a link of the other side, and else good
pub record IsJudgedByLines (words : Words) (front : List Entry) (side : Side) (channel : ℕ) (octets : List ℕ)
    (fate : Mark) (verdict : Verdict) : Type 0 where
  pub number : ℕ
  -- that is the link of the packet, where it was not changed
  pub belongs : is_unchanged fate octets ≡ true → link_of_packet front side octets ≡ Some number
  pub judged : verdict
      ≡ (if is_forged_for words number front (other_side side) channel (left_of fate octets) then Forged else Good)

-- so is each packet on a data channel that is judged forged or good
abbrev pub AllVerdictsAreOfLines : Words → List Entry → Type 0
AllVerdictsAreOfLines words journal =
    (front rest : List Entry) (side : Side) (channel : ℕ) (octets : List ℕ) (fate : Mark) (verdict : Verdict)
    → journal ≡ front ++ Air side channel octets fate verdict ∷ rest → is_advertising channel ≡ false
    → is_handed verdict ≡ true → IsJudgedByLines words front side channel octets fate verdict
