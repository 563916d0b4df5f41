-- The line of a new PDU comes just before the packet that the PDU first goes out in (our choice).
use Rattle.std.specs.Prelude.{◌≡◌, ℕ, ◌==◌, ◌&&◌, not, Bool, true, false, List, ◌∷◌, ◌++◌, fold, length, Option, Some, None, if◌then◌else◌}
use Rattle.ble_base.specs.declared.roles.Side.{Side}
use Rattle.journal.specs.declared.entries.Entry.{Entry}
use Rattle.journal.specs.declared.entries.Entry.TheVariants.{Air, Sent}
use Rattle.journal_leaving.specs.link_model.Acknowledgement.{Pdu}
use Rattle.journal_leaving.specs.link_model.Data.{is_empty}
use Rattle.journal_leaving.specs.run_model.Links.{is_advertising}
use Rattle.journal_leaving.specs.journal_packets.Belonging.{link_of_packet}
use Rattle.journal_leaving.specs.journal_acks.Carried.{carried_of}
use Rattle.journal_leaving.specs.journal_acks.Exchange.{Exchanged, exchange_of}
use Rattle.journal_leaving.specs.journal_data.Delivered.{host_buffers}
use Rattle.journal_leaving.specs.journal_data.Lines.{PduLine, lines_of, pdus_on}
pub use Rattle.journal_due.specs.ProcedureLines.{is_same_side, side_of_line}

abbrev pub is_line_of : Side → Entry → Bool
is_line_of side entry = is_same_side (side_of_line entry) side

-- ---- the line of a new PDU

abbrev pub announcement_in : Entry → Option PduLine
announcement_in (Sent side link number llid body) =
    Some (record { link = link; number = number; pdu = record { llid = llid; body = body } })
announcement_in entry = None

-- lines of the other side, and turns, leave what the last line of this side said
abbrev pub announced_pdu_after : Side → Option PduLine → Entry → Option PduLine
announced_pdu_after side before entry = if is_line_of side entry then announcement_in entry else before

-- the PDU of the last line of a side, where that is one of a new PDU
unfoldable pub announced_pdu : Side → List Entry → Option PduLine
announced_pdu side front = fold (announced_pdu_after side) None front

-- ---- the packet that brings it

abbrev pub pdu_line_if : Bool → ℕ → ℕ → Pdu → Option PduLine
pdu_line_if false link number pdu = None
pdu_line_if true link number pdu = Some (record { link = link; number = number; pdu = pdu })

-- all PDUs before it are acknowledged, and it has a payload
abbrev pub is_first_sent : Exchanged → Pdu → Bool
is_first_sent end pdu = end.acked == end.sent && not (is_empty pdu)

-- the number of the last new PDU of a side on a link
abbrev pub last_number_sent : ℕ → List Entry → Side → ℕ
last_number_sent link front side = length (pdus_on link (lines_of host_buffers side front).sent)

-- the new PDU in a packet of this link
abbrev pub new_pdu_of : Option ℕ → List Entry → Side → Option PduLine
new_pdu_of None front side = None
new_pdu_of (Some link) front side =
    pdu_line_if (is_first_sent (exchange_of link front side) (carried_of link front side)) link
    (last_number_sent link front side) (carried_of link front side)

-- the new PDU with a payload that a packet brings: only one on a data channel brings one
abbrev pub new_pdu_on : List Entry → Side → ℕ → List ℕ → Option PduLine
new_pdu_on front side channel octets =
    if is_advertising channel then None else new_pdu_of (link_of_packet front side octets) front side

-- and that a line brings
abbrev pub new_pdu_in : List Entry → Side → Entry → Option PduLine
new_pdu_in front side (Air sender channel octets fate verdict) = new_pdu_on front side channel octets
new_pdu_in front side entry = None

-- the line of a side before one that brings a new PDU is the line of that PDU, and no other line comes after such a
-- line
abbrev pub AllGoOutAtOnce : List Entry → Type 0
AllGoOutAtOnce journal = (front rest : List Entry) (entry : Entry) (side : Side) → journal ≡ front ++ entry ∷ rest
    → side_of_line entry ≡ Some side → announced_pdu side front ≡ new_pdu_in front side entry
