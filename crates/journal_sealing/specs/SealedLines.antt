-- The payload that a packet of a link has on the air, from the lines of a journal alone (Core 5.2, volume 6 part B, sections
-- 2.4, 4.5.9 and 5.1.3, and part E, section 2).
use Rattle.std.specs.Prelude.{◌≡◌, ℕ, ◌==◌, ◌&&◌, Bool, false, List, [], ◌∷◌, ◌++◌, Option, Some, None, if◌then◌else◌}
use Rattle.std.specs.List.{AllByRecursion}
use Rattle.ble_base.specs.declared.roles.Side.{Side}
use Rattle.ble_base.specs.declared.verdicts.Verdict.{Verdict}
use Rattle.journal.specs.declared.entries.Entry.{Entry}
use Rattle.journal.specs.declared.entries.Entry.TheVariants.{Air, Sent}
use Rattle.journal.specs.declared.entries.Mark.{Mark}
use Rattle.journal_controls.specs.LineSteps.{keyed_on}
use Rattle.journal_controls.specs.journal_acks.Carried.{IsLinkPacket, SentLine}
use Rattle.journal_controls.specs.journal_acks.Exchange.{exchange_of}
use Rattle.journal_controls.specs.journal_ends.Asked.{Words}
use Rattle.journal_controls.specs.journal_packets.Belonging.{is_side}
use Rattle.journal_controls.specs.link_model.Acknowledgement.{Pdu}
use Rattle.journal_controls.specs.link_model.Payload.{payload_made}
use Rattle.journal_controls.specs.link_model.enc_phase.Phases.{seals}
use Rattle.journal_controls.specs.link_model.keyed_control.Keyed.{Keyed}
use Rattle.journal_controls.specs.run_model.Links.{is_advertising}

-- ---- a new PDU

-- the line of a new PDU that is not empty, how many PDUs of its side were acknowledged before it, and its payload on the
-- air: the end made it with the session and the counter that it had before this line
pub record SealedLine : Type 0 where
  pub pdu : Pdu
  pub acked : ℕ
  pub payload : List ℕ

-- what an end makes of a new PDU. One of which no line says that it is open makes none: the body stands for that
abbrev pub payload_by : Option Keyed → Pdu → List ℕ
payload_by None pdu = pdu.body
payload_by (Some k) pdu = payload_made k.end pdu

abbrev pub sealed_line : Words → ℕ → List Entry → Side → Pdu → SealedLine
sealed_line words number front side pdu =
    record {
      pdu = pdu;
      acked = (exchange_of number front side).acked;
      payload = payload_by (keyed_on words side number front) pdu;
    }

-- the last such line of a side on a link, after an entry that comes after these
abbrev pub sealed_line_after : Words → ℕ → List Entry → Side → Option SealedLine → Entry → Option SealedLine
sealed_line_after words number front side before (Sent other link count llid body) =
    if is_side other side && link == number
    then Some (sealed_line words number front side (record { llid = llid; body = body }))
    else before
sealed_line_after words number front side before _ = before

abbrev pub sealed_line_from : Words → ℕ → List Entry → Side → Option SealedLine → List Entry → Option SealedLine
sealed_line_from words number front side before [] = before
sealed_line_from words number front side before (entry ∷ entries) =
    sealed_line_from words number (front ++ entry ∷ []) side (sealed_line_after words number front side before entry) entries

unfoldable pub sealed_line_of : Words → ℕ → List Entry → Side → Option SealedLine
sealed_line_of words number journal side = sealed_line_from words number [] side None journal

-- its payload, until a PDU of its side is acknowledged; and an empty one where there is none
abbrev pub payload_of_line : Option SealedLine → ℕ → List ℕ
payload_of_line None acked = []
payload_of_line (Some line) acked = if line.acked == acked then line.payload else []

-- the payload in a packet of a link that a side sends after these entries
abbrev pub payload_carried : Words → ℕ → List Entry → Side → List ℕ
payload_carried words number front side =
    payload_of_line (sealed_line_of words number front side) (exchange_of number front side).acked

-- ---- what it says of a PDU

-- the line without its payload
abbrev pub without_payload : Option SealedLine → Option SentLine
without_payload None = None
without_payload (Some line) = Some (record { pdu = line.pdu; acked = line.acked })

-- this entry says that the side sends a new PDU on the link with this number
abbrev pub says_sent : ℕ → Side → Entry → Bool
says_sent number side (Sent other link count llid body) = is_side other side && link == number
says_sent number side _ = false

abbrev pub NoneSent : ℕ → Side → List Entry → Type 0
NoneSent number side entries = AllByRecursion (λ entry. says_sent number side entry ≡ false) entries

-- as the lines say, the end of a side never seals
abbrev pub NeverSeals : Words → ℕ → List Entry → Side → Type 0
NeverSeals words number journal side =
    (front rest : List Entry) (k : Keyed) → journal ≡ front ++ rest → keyed_on words side number front ≡ Some k
    → seals k.end.role k.end.phase ≡ false

-- ---- a packet

-- a packet of a link that a side sends after these entries has the payload that they give
pub record HasPayload (words : Words) (front : List Entry) (side : Side) (channel : ℕ) (octets : List ℕ) : Type 0 where
  pub packet : IsLinkPacket front side channel octets
  pub payload_is : packet.payload ≡ payload_carried words packet.number front side

-- so has each packet on a data channel
abbrev pub AllPayloadsAreOfLines : Words → List Entry → Type 0
AllPayloadsAreOfLines words journal =
    (front rest : List Entry) (side : Side) (channel : ℕ) (octets : List ℕ) (fate : Mark) (verdict : Verdict)
    → journal ≡ front ++ Air side channel octets fate verdict ∷ rest → is_advertising channel ≡ false
    → HasPayload words front side channel octets

-- two packets of a side, one after the other, have the payloads that the lines give. That is one payload, where they are of
-- one link, and where between them no PDU of this side was acknowledged and no new one was sent
pub record IsSentAgain (words : Words) (front more : List Entry) (side : Side) (channel channel_too : ℕ)
    (octets octets_too : List ℕ) (fate : Mark) (verdict : Verdict) : Type 0 where
  pub first : HasPayload words front side channel octets
  pub again : HasPayload words (front ++ Air side channel octets fate verdict ∷ more) side channel_too octets_too
  pub same : again.packet.number ≡ first.packet.number → NoneSent first.packet.number side more
      → (exchange_of first.packet.number (front ++ Air side channel octets fate verdict ∷ more) side).acked
      ≡ (exchange_of first.packet.number front side).acked
      → again.packet.payload ≡ first.packet.payload
