-- Where a link ends with 3D, by the lines of a journal alone (Core 5.2, volume 6 part B, section 5.1.3.1).
use Rattle.std.specs.Prelude.{◌≡◌, ℕ, false, List, ◌∷◌, ◌++◌, Some, take}
use Rattle.ble_base.specs.ErrorCodes.{mic_failure}
use Rattle.ble_base.specs.Side.{other_side}
use Rattle.ble_base.specs.declared.error_codes.ErrCode.{ErrCode}
use Rattle.ble_base.specs.declared.roles.Side.{Side}
use Rattle.ble_base.specs.declared.verdicts.Verdict.TheVariants.{Forged}
use Rattle.air_frame.specs.Packet.{access_octets}
use Rattle.journal.specs.declared.entries.Entry.{Entry}
use Rattle.journal.specs.declared.entries.Entry.TheVariants.{Air, Shut}
use Rattle.journal.specs.declared.entries.Mark.{Mark}
use Rattle.journal_outcomes.specs.journal_ends.Left.{left_of}
use Rattle.journal_outcomes.specs.journal_collisions.journal_endings.journal_indications.journal_data.Followed.{Mixed}
use Rattle.journal_outcomes.specs.journal_collisions.journal_endings.journal_indications.journal_data.journal_links.Begun.{LinkBegun, link_numbered}

-- among these lines, the side judged a packet of its peer forged that had the access address of the link with this number as
-- it reached the side
pub record IsForgedIn (side : Side) (number : ℕ) (front : List Entry) : Type 0 where
  pub before : List Entry
  pub channel : ℕ
  pub octets : List ℕ
  pub fate : Mark
  pub after : List Entry
  pub is_at : front ≡ before ++ Air (other_side side) channel octets fate Forged ∷ after
  pub link : LinkBegun
  pub is_link : link_numbered number before ≡ Some link
  pub of_link : take 4 (left_of fate octets) ≡ access_octets link.fields.access

-- a side shuts a link with 3D only after that, as long as no packet of the link is mixed
abbrev pub AllFailuresAreForged : Mixed → List Entry → Type 0
AllFailuresAreForged mixed journal = (front rest : List Entry) (side : Side) (number : ℕ) (reason : ErrCode)
    → journal ≡ front ++ Shut side number reason ∷ rest → reason.0 ≡ mic_failure → mixed number front ≡ false
    → IsForgedIn side number front
