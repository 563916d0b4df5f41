-- Which packets of a link are judged forged though the radio left them as they were, from the lines of a journal alone (Core
-- 5.2, volume 6 part B, section 5.1.3.1, and part E, section 2).
use Rattle.std.specs.Prelude.{◌≡◌, ◌≢◌, ℕ, true, false, List, ◌∷◌, ◌++◌, Some}
use Rattle.ble_base.specs.Side.{other_side}
use Rattle.ble_base.specs.declared.roles.Side.{Side}
use Rattle.ble_base.specs.declared.verdicts.Verdict.TheVariants.{Forged}
use Rattle.journal.specs.declared.entries.Entry.{Entry}
use Rattle.journal.specs.declared.entries.Entry.TheVariants.{Air}
use Rattle.journal.specs.declared.entries.Mark.{Mark}
use Rattle.journal_sealing.specs.journal_controls.LineSteps.{keyed_on}
use Rattle.journal_sealing.specs.journal_controls.journal_acks.Shut.{is_of_link}
use Rattle.journal_sealing.specs.journal_controls.journal_ends.Asked.{Words}
use Rattle.journal_sealing.specs.journal_controls.journal_ends.Left.{is_unchanged}
use Rattle.journal_sealing.specs.journal_controls.link_model.keyed_control.Keyed.{Keyed}
use Rattle.journal_sealing.specs.Mixed.{is_mixed}

-- by the lines before such a packet, its end and that of the other side have two session keys, unless a line of the link
-- mixed two keys before
abbrev pub AllForgedAreOfOtherKeys : Words → List Entry → Type 0
AllForgedAreOfOtherKeys words journal =
    (front rest : List Entry) (side : Side) (channel : ℕ) (octets : List ℕ) (fate : Mark) (number : ℕ)
    → journal ≡ front ++ Air side channel octets fate Forged ∷ rest
    → is_of_link number front side channel octets ≡ true → is_unchanged fate octets ≡ true
    → is_mixed words number front ≡ false
    → (one other : Keyed) → keyed_on words side number front ≡ Some one
    → keyed_on words (other_side side) number front ≡ Some other → one.end.key ≢ other.end.key
