-- Which packets of a link mix two session keys, from the lines of a journal alone (Core 5.2, volume 6 part B, section
-- 5.1.3.1, and part E, section 2).
use Rattle.std.specs.Prelude.{◌≡◌, ℕ, ◌&&◌, ◌||◌, not, Bool, true, false, List, [], ◌∷◌, ◌++◌, Option, Some, None}
use Rattle.std.specs.Str.{bytes_eq}
use Rattle.ble_base.specs.Side.{other_side}
use Rattle.ble_base.specs.declared.roles.Side.{Side}
use Rattle.ble_base.specs.declared.verdicts.Verdict.{Verdict}
use Rattle.air_frame.specs.Hearing.{heard_in}
use Rattle.air_frame.specs.declared.Heard.{Heard}
use Rattle.air_frame.specs.declared.Heard.TheVariants.{NotOurs, Broken, Whole}
use Rattle.journal.specs.declared.entries.Entry.{Entry}
use Rattle.journal.specs.declared.entries.Entry.TheVariants.{Air}
use Rattle.journal.specs.declared.entries.Mark.{Mark}
use Rattle.journal_controls.specs.LineSteps.{keyed_on}
use Rattle.journal_controls.specs.journal_acks.Exchange.{Exchanged, exchange_of}
use Rattle.journal_controls.specs.journal_acks.Shut.{is_of_link}
use Rattle.journal_controls.specs.journal_ends.Asked.{Words}
use Rattle.journal_controls.specs.journal_ends.Left.{is_unchanged}
use Rattle.journal_controls.specs.journal_links.Begun.{LinkBegun, link_numbered}
use Rattle.journal_controls.specs.link_model.Payload.{opens_now}
use Rattle.journal_controls.specs.link_model.keyed_control.Keyed.{Keyed}
use Rattle.journal_controls.specs.run_model.History.{is_good}
use Rattle.journal_sealing.specs.Forged.{counts_by}

-- the PDU of a packet on this channel is new for the end that hears it, and is not empty
abbrev pub counts_in : Exchanged → Heard → Bool
counts_in end NotOurs = false
counts_in end Broken = false
counts_in end (Whole pdu) = counts_by end pdu.items

abbrev pub counts_on : Option LinkBegun → Exchanged → ℕ → List ℕ → Bool
counts_on None end channel octets = false
counts_on (Some link) end channel octets = counts_in end (heard_in channel link.fields.access link.fields.crc_init octets)

-- an open end opens what it hears, and has another session key than its peer
abbrev pub opens_other : Option Keyed → Option Keyed → Bool
opens_other None listener = false
opens_other (Some one) None = false
opens_other (Some one) (Some other) = opens_now other.end && not (bytes_eq one.end.key other.end.key)

-- a packet mixes keys where it brings such an end a PDU that is new and not empty
abbrev pub mixes : Bool → Option Keyed → Option Keyed → Bool
mixes counts sender listener = counts && opens_other sender listener

-- so does one of the link with this number that a side sends after these entries
abbrev pub mixes_keys : Words → ℕ → List Entry → Side → ℕ → List ℕ → Bool
mixes_keys words number front side channel octets =
    mixes (counts_on (link_numbered number front) (exchange_of number front (other_side side)) channel octets)
    (keyed_on words side number front) (keyed_on words (other_side side) number front)

-- such a packet reaches the other side unchanged, and is judged good: the integrity code is right by chance
abbrev pub is_mixed_at : Words → ℕ → List Entry → Entry → Bool
is_mixed_at words number front (Air side channel octets fate verdict) =
    is_of_link number front side channel octets
    && (is_good verdict && is_unchanged fate octets)
    && mixes_keys words number front side channel octets
is_mixed_at words number front line = false

-- one of the lines is such a packet; two ends are not followed from the first of them on (our choice)
abbrev pub mixed_from : Words → ℕ → List Entry → List Entry → Bool
mixed_from words number front [] = false
mixed_from words number front (line ∷ lines) =
    is_mixed_at words number front line || mixed_from words number (front ++ line ∷ []) lines

unfoldable pub is_mixed : Words → ℕ → List Entry → Bool
is_mixed words number journal = mixed_from words number [] journal

-- by the lines before each packet of the link with this number, both ends of the link have one session key where both are
-- open and the one that is to hear it opens what it hears
abbrev pub HaveOneKey : Words → ℕ → List Entry → Type 0
HaveOneKey words number journal =
    (front rest : List Entry) (side : Side) (channel : ℕ) (octets : List ℕ) (fate : Mark) (verdict : Verdict)
    → journal ≡ front ++ Air side channel octets fate verdict ∷ rest
    → is_of_link number front side channel octets ≡ true
    → (one other : Keyed) → keyed_on words side number front ≡ Some one
    → keyed_on words (other_side side) number front ≡ Some other → opens_now other.end ≡ true
    → one.end.key ≡ other.end.key
