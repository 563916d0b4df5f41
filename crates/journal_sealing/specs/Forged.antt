-- Which packets of a link are forged for the end that hears them, from the lines of a journal alone (Core 5.2, volume 6 part
-- B, sections 4.5.9 and 5.1.3.1, and part E, section 2).
use Rattle.std.specs.Prelude.{◌≡◌, ℕ, ◌&&◌, not, Bool, false, List, ◌++◌, drop, Option, Some, None}
use Rattle.ble_base.specs.declared.roles.Side.{Side}
use Rattle.ack_bit.specs.AckBits.{is_new}
use Rattle.air_frame.specs.Hearing.{heard_in}
use Rattle.air_frame.specs.declared.Heard.{Heard}
use Rattle.air_frame.specs.declared.Heard.TheVariants.{NotOurs, Broken, Whole}
use Rattle.data_pdu.specs.Header.{header_in}
use Rattle.journal.specs.declared.entries.Entry.{Entry}
use Rattle.journal_controls.specs.LineSteps.{keyed_on}
use Rattle.journal_controls.specs.journal_acks.Carried.{bits_of}
use Rattle.journal_controls.specs.journal_acks.Exchange.{Exchanged, exchange_of}
use Rattle.journal_controls.specs.journal_ends.Asked.{Words}
use Rattle.journal_controls.specs.journal_links.Begun.{LinkBegun, link_numbered}
use Rattle.journal_controls.specs.link_model.Data.{is_empty}
use Rattle.journal_controls.specs.link_model.Payload.{first_octet, opens_now}
use Rattle.journal_controls.specs.link_model.Verdicts.{pdu_of}
use Rattle.journal_controls.specs.link_model.enc_phase.Sealing.{is_right}
use Rattle.journal_controls.specs.link_model.keyed_control.Keyed.{Keyed}

-- a PDU with these octets is new for an end, and is not empty: its SN is the number of the PDUs that the end accepted
abbrev pub counts_by : Exchanged → List ℕ → Bool
counts_by end pdu = is_new (bits_of end) (header_in pdu) && not (is_empty (pdu_of pdu))

-- the integrity code of such a PDU is wrong for the end: it opens what it hears, and the payload is not sealed for its next
-- counter
abbrev pub is_wrong : Option Keyed → Exchanged → List ℕ → Bool
is_wrong None end pdu = false
is_wrong (Some k) end pdu = counts_by end pdu && not (is_right k.end (first_octet pdu) (drop 2 pdu))

abbrev pub is_wrong_in : Option Keyed → Exchanged → Heard → Bool
is_wrong_in found end NotOurs = false
is_wrong_in found end Broken = false
is_wrong_in found end (Whole pdu) = is_wrong found end pdu.items

abbrev pub is_wrong_on : Option LinkBegun → Option Keyed → Exchanged → ℕ → List ℕ → Bool
is_wrong_on None found end channel octets = false
is_wrong_on (Some link) found end channel octets =
    is_wrong_in found end (heard_in channel link.fields.access link.fields.crc_init octets)

-- a packet of the link with this number that reaches a side unbroken after these entries is forged for its end
abbrev pub is_forged_for : Words → ℕ → List Entry → Side → ℕ → List ℕ → Bool
is_forged_for words number front side channel octets =
    is_wrong_on (link_numbered number front) (keyed_on words side number front) (exchange_of number front side) channel octets

-- as the lines say, the end of a side does not open here
abbrev pub OpensNothing : Words → ℕ → List Entry → Side → Type 0
OpensNothing words number front side =
    (k : Keyed) → keyed_on words side number front ≡ Some k → opens_now k.end ≡ false

-- and it never does
abbrev pub NeverOpens : Words → ℕ → List Entry → Side → Type 0
NeverOpens words number journal side =
    (front rest : List Entry) → journal ≡ front ++ rest → OpensNothing words number front side
