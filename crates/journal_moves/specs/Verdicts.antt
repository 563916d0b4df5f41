-- The verdict on each packet, from the lines of a journal alone: what the side that listens makes of the octets that the
-- radio left of it (Core 5.2, volume 6 part B, sections 2.1, 2.4, 3.1.1, 4.5.9, 4.5.10 and 5.1.3.1; the verdicts are our
-- choice).
use Rattle.std.specs.Prelude.{◌≡◌, ◌≢◌, ℕ, Bool, false, List, ◌∷◌, ◌++◌, Option, Some, None}
use Rattle.air_frame.specs.Hearing.{heard_in}
use Rattle.ble_base.specs.Side.{other_side}
use Rattle.ble_base.specs.declared.roles.Side.{Side}
use Rattle.ble_base.specs.declared.verdicts.Verdict.{Verdict}
use Rattle.ble_base.specs.declared.verdicts.Verdict.TheVariants.{Missed}
use Rattle.journal.specs.declared.entries.Entry.{Entry}
use Rattle.journal.specs.declared.entries.Entry.TheVariants.{Air}
use Rattle.journal.specs.declared.entries.Mark.{Mark}
use Rattle.journal.specs.declared.entries.Mark.TheVariants.{Lost}
use Rattle.journal_sealing.specs.Forged.{is_wrong}
use Rattle.journal_wants.specs.controller_model.declared.doing.Doing.{Doing}
use Rattle.journal_wants.specs.controller_model.declared.doing.Doing.TheVariants.{AwaitsRequest, AwaitsResponse, CentralListens, Initiates, PeripheralListens, Scans}
use Rattle.journal_wants.specs.controller_model.Packets.{verdict_advertising}
use Rattle.journal_wants.specs.controller_model.link_model.Payload.{opens_now}
use Rattle.journal_wants.specs.controller_model.link_model.Verdicts.{verdict_by}
use Rattle.journal_wants.specs.controller_model.link_model.keyed_control.Keyed.{Keyed}
use Rattle.journal_wants.specs.journal_acks.Exchange.{Exchanged, exchange_of}
use Rattle.journal_wants.specs.journal_controls.LineSteps.{keyed_on}
use Rattle.journal_wants.specs.journal_controls.host_answers.Flows.{most_received_on}
use Rattle.journal_wants.specs.journal_controls.journal_ends.Asked.{Words}
use Rattle.journal_wants.specs.journal_controls.journal_ends.Left.{left_of}
use Rattle.journal_wants.specs.journal_links.Begun.{LinkBegun, link_numbered}
use Rattle.journal_wants.specs.Station.{Setups}
use Rattle.journal_moves.specs.Doing.{doing_on}
use Rattle.journal_moves.specs.Moves.{IsListenedFor, link_listening}

-- ---- on a link

-- an end with these keys opens what it hears
abbrev pub opens_with : Option Keyed → Bool
opens_with None = false
opens_with (Some k) = opens_now k.end

-- the verdict of an end that receives at most this number of octets, with the keys and the counts of the lines: missed
-- where the octets do not begin with the access address of the link; broken where they are the packet of no PDU, or where
-- the payload is longer than what the end receives, with 4 octets more for an integrity code where it opens what it hears;
-- forged where its PDU is new and not empty and that code is wrong; else good
abbrev pub verdict_at_end : (most : ℕ) → Option LinkBegun → Option Keyed → Exchanged → ℕ → List ℕ → Verdict
verdict_at_end most None keyed end channel octets = Missed
verdict_at_end most (Some link) keyed end channel octets =
    verdict_by most (opens_with keyed) (is_wrong keyed end)
    (heard_in channel link.fields.access link.fields.crc_init octets)

abbrev pub verdict_on : Words → Side → List Entry → ℕ → List ℕ → Option ℕ → Verdict
verdict_on words side front channel octets None = Missed
verdict_on words side front channel octets (Some number) =
    verdict_at_end (most_received_on side front) (link_numbered number front) (keyed_on words side number front)
    (exchange_of number front side) channel octets

-- ---- of a side that listens

-- on an advertising channel the octets are good where they are the packet of a PDU with the access address and the initial
-- CRC of these channels; on a data channel the end of the link decides on which the side listens
abbrev pub verdict_listening : Words → Side → List Entry → ℕ → List ℕ → Doing → Verdict
verdict_listening words side front channel octets (Scans own) = verdict_advertising channel octets
verdict_listening words side front channel octets (Initiates own) = verdict_advertising channel octets
verdict_listening words side front channel octets (AwaitsRequest own) = verdict_advertising channel octets
verdict_listening words side front channel octets (AwaitsResponse own) = verdict_advertising channel octets
verdict_listening words side front channel octets (PeripheralListens handle) =
    verdict_on words side front channel octets (link_listening side front (PeripheralListens handle))
verdict_listening words side front channel octets (CentralListens handle) =
    verdict_on words side front channel octets (link_listening side front (CentralListens handle))
verdict_listening words side front channel octets other = Missed

-- ---- each packet that is listened for

-- a packet that a side sends after these entries, and of which the radio left these octets at the other side
abbrev pub verdict_due : Words → Setups → List Entry → Side → ℕ → List ℕ → Verdict
verdict_due words setups front side channel heard =
    verdict_listening words (other_side side) front channel heard (doing_on words setups (other_side side) front)

-- one that is not lost has that verdict, changed or not, where the other side listens for it; one that is lost, or that
-- nobody listens for, is missed
abbrev pub AllListenedForAreJudged : Words → Setups → List Entry → Type 0
AllListenedForAreJudged words setups journal = (front rest : List Entry) (side : Side) (channel : ℕ) (octets : List ℕ)
    (fate : Mark) (verdict : Verdict) → journal ≡ front ++ Air side channel octets fate verdict ∷ rest → fate ≢ Lost
    → IsListenedFor words setups front side channel
    → verdict ≡ verdict_due words setups front side channel (left_of fate octets)
