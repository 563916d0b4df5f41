-- Which packets of a link are sealed, and which of them the other side opens, from the lines of a journal alone (Core 5.2,
-- volume 6 part B, section 5.1.3, and part E, section 2).
use Rattle.std.specs.Prelude.{◌≡◌, ℕ, ◌+◌, true, false, List, ◌∷◌, ◌++◌, length, Some, if◌then◌else◌}
use Rattle.ble_base.specs.Side.{other_side}
use Rattle.ble_base.specs.declared.roles.Side.{Side}
use Rattle.ble_base.specs.declared.verdicts.Verdict.{Verdict}
use Rattle.journal.specs.declared.entries.Entry.{Entry}
use Rattle.journal.specs.declared.entries.Entry.TheVariants.{Air}
use Rattle.journal.specs.declared.entries.Mark.{Mark}
use Rattle.journal_forgeries.specs.journal_controls.LineSteps.{keyed_on}
use Rattle.journal_forgeries.specs.journal_controls.journal_acks.Carried.{carried_of}
use Rattle.journal_forgeries.specs.journal_controls.journal_acks.Exchange.{exchange_of}
use Rattle.journal_forgeries.specs.journal_controls.journal_acks.Shut.{is_of_link}
use Rattle.journal_forgeries.specs.journal_controls.journal_ends.Asked.{Words}
use Rattle.journal_forgeries.specs.journal_controls.journal_ends.Left.{is_unchanged}
use Rattle.journal_forgeries.specs.journal_controls.journal_links.Begun.{link_numbered}
use Rattle.journal_forgeries.specs.journal_controls.link_model.Payload.{opens_now}
use Rattle.journal_forgeries.specs.journal_controls.link_model.keyed_control.Keyed.{Keyed}
use Rattle.journal_forgeries.specs.journal_controls.run_model.History.{is_handed}
use Rattle.journal_forgeries.specs.journal_sealing.Mixed.{counts_on, is_mixed}
use Rattle.journal_forgeries.specs.journal_sealing.SealedLines.{payload_carried}

-- a sealed PDU has an integrity code of four octets after its body: an end that opens what it hears expects it, and any
-- other end does not
abbrev pub code_expected : Keyed → ℕ
code_expected k = if opens_now k.end then 4 else 0

-- a packet of a link that reaches the other side unchanged, and that is judged good or forged there, brings a PDU that is
-- new to that side and not empty. Then its payload has an integrity code exactly where the end of that side opens what it
-- hears, by the lines before it, unless a line of the link mixed two keys before
abbrev pub AllAreSealedAsOpened : Words → List Entry → Type 0
AllAreSealedAsOpened words journal =
    (front rest : List Entry) (side : Side) (channel : ℕ) (octets : List ℕ) (fate : Mark) (verdict : Verdict) (number : ℕ)
    → journal ≡ front ++ Air side channel octets fate verdict ∷ rest
    → is_of_link number front side channel octets ≡ true → is_unchanged fate octets ≡ true → is_handed verdict ≡ true
    → counts_on (link_numbered number front) (exchange_of number front (other_side side)) channel octets ≡ true
    → is_mixed words number front ≡ false
    → (other : Keyed) → keyed_on words (other_side side) number front ≡ Some other
    → length (payload_carried words number front side)
    ≡ length (carried_of number front side).body + code_expected other
