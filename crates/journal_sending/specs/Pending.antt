-- A PDU is taken as the first good packet brings it, with the body that the end reads in that by its own keys (Core 5.2,
-- volume 6 part B, sections 4.5.9, 5.1.3 and 5.1.6, and part E, section 2).
use Rattle.std.specs.Prelude.{◌≡◌, ℕ, ◌==◌, ◌&&◌, ◌||◌, nat_lt, not, Bool, false, List, [], ◌∷◌, ◌++◌, drop, length, Option, Some, None, if◌then◌else◌}
use Rattle.air_frame.specs.Hearing.{heard_in}
use Rattle.air_frame.specs.declared.Heard.{Heard}
use Rattle.air_frame.specs.declared.Heard.TheVariants.{NotOurs, Broken, Whole}
use Rattle.ble_base.specs.Side.{other_side}
use Rattle.ble_base.specs.declared.roles.Side.{Side}
use Rattle.journal.specs.declared.entries.Entry.{Entry}
use Rattle.journal.specs.declared.entries.Entry.TheVariants.{Air, Done, Took}
use Rattle.journal_leaving.specs.journal_data.Delivered.{host_buffers}
use Rattle.journal_leaving.specs.journal_data.Lines.{PduLine, lines_of, pdus_on}
use Rattle.journal_leaving.specs.journal_acks.Carried.{carried_of}
use Rattle.journal_leaving.specs.journal_links.Begun.{LinkBegun, link_numbered}
use Rattle.journal_leaving.specs.journal_packets.Belonging.{is_side, link_of_packet}
use Rattle.journal_hosts.specs.HostFlow.{has_room_on}
use Rattle.journal_leaving.specs.link_model.Data.{is_data, is_empty}
use Rattle.journal_leaving.specs.run_model.History.{is_good}
use Rattle.journal_leaving.specs.run_model.Links.{is_advertising}
use Rattle.journal_fixing.specs.journal_controls.LineSteps.{keyed_on}
use Rattle.journal_fixing.specs.journal_controls.journal_ends.Asked.{Words}
use Rattle.journal_fixing.specs.link_model.Acknowledgement.{Pdu}
use Rattle.journal_fixing.specs.link_model.declared.state.Leaving.{Leaving}
use Rattle.journal_fixing.specs.link_model.enc_phase.Sealing.{EncEnd, opened_body}
use Rattle.journal_fixing.specs.link_model.keyed_control.Keyed.{Keyed}
use Rattle.journal_leaving.specs.Leaving.{leaving_on}
use Rattle.journal_sending.specs.Announced.{is_line_of, last_number_sent, pdu_line_if, side_of_line}

-- the number of the last PDU that a side took on a link
abbrev pub last_number_taken : ℕ → List Entry → Side → ℕ
last_number_taken link front side = length (pdus_on link (lines_of host_buffers side front).taken)

-- the LL_TERMINATE_IND of an end is acknowledged
abbrev pub has_left : Option Leaving → Bool
has_left None = false
has_left (Some leaving) = leaving.acknowledged

-- ---- what an end reads

-- the body of a PDU, of which an end opens the payload where it opens what is sealed
abbrev pub body_heard : EncEnd → Heard → List ℕ
body_heard end NotOurs = []
body_heard end Broken = []
body_heard end (Whole pdu) = opened_body end (drop 2 pdu.items)

abbrev pub body_read : Option LinkBegun → Option Keyed → ℕ → List ℕ → List ℕ
body_read None found channel octets = []
body_read (Some link) None channel octets = []
body_read (Some link) (Some k) channel octets =
    body_heard k.end (heard_in channel link.fields.access link.fields.crc_init octets)

-- so a side reads a packet of its link that comes after these entries; `words` are those that it would draw
abbrev pub body_on : Words → ℕ → List Entry → Side → ℕ → List ℕ → List ℕ
body_on words number front side channel octets =
    body_read (link_numbered number front) (keyed_on words side number front) channel octets

-- ---- what it takes

-- the PDU in a packet of a link that this side sends: the one that it sent last, as the other side reads it
abbrev pub pdu_read_of : Words → ℕ → List Entry → Side → ℕ → List ℕ → Pdu
pdu_read_of words number front sender channel octets = record {
  llid = (carried_of number front sender).llid;
  body = body_on words number front (other_side sender) channel octets;
}

-- there is room for a PDU at a side, if it is data
abbrev pub has_room_for : Side → List Entry → Pdu → Bool
has_room_for side front pdu = not (is_data pdu) || has_room_on side front

-- the PDU with a payload in a packet of this link, where the other side did not take it yet and has room for it. An end
-- takes nothing more once its LL_TERMINATE_IND is acknowledged, also by this packet; `after` are the entries up to the
-- packet, and it
abbrev pub untaken_pdu : Words → Option ℕ → List Entry → List Entry → Side → ℕ → List ℕ → Option PduLine
untaken_pdu words None front after sender channel octets = None
untaken_pdu words (Some link) front after sender channel octets =
    pdu_line_if
    (nat_lt (last_number_taken link front (other_side sender)) (last_number_sent link front sender)
    && not (is_empty (carried_of link front sender))
    && has_room_for (other_side sender) front (carried_of link front sender) && not (has_left (leaving_on words (other_side sender) link after)))
    link (last_number_sent link front sender) (pdu_read_of words link front sender channel octets)

-- a line says that a procedure is done on the link of this PDU
abbrev pub is_done_on : Option PduLine → Entry → Bool
is_done_on None entry = false
is_done_on (Some line) (Done side link kind) = link == line.link
is_done_on (Some line) entry = false

-- what a side is to take, after an entry that comes after these: the PDU of a good packet of the other side, until the
-- next line of its own. A line that a procedure is done on that link, by what the packet acknowledges, comes before
abbrev pub pending_pdu_after : Words → Side → List Entry → Option PduLine → Entry → Option PduLine
pending_pdu_after words side front before (Air sender channel octets fate verdict) =
    if is_side sender side then None
    else (if is_good verdict && not (is_advertising channel)
    then untaken_pdu words (link_of_packet front sender octets) front
    (front ++ Air sender channel octets fate verdict ∷ []) sender channel octets
    else before)
pending_pdu_after words side front before entry =
    if is_line_of side entry && not (is_done_on before entry) then None else before

abbrev pub pending_pdu_from : Words → Side → List Entry → Option PduLine → List Entry → Option PduLine
pending_pdu_from words side front before [] = before
pending_pdu_from words side front before (entry ∷ entries) =
    pending_pdu_from words side (front ++ entry ∷ []) (pending_pdu_after words side front before entry) entries

unfoldable pub pending_pdu : Words → Side → List Entry → Option PduLine
pending_pdu words side front = pending_pdu_from words side [] None front

-- the PDU that a line takes
abbrev pub taken_pdu : Entry → Option PduLine
taken_pdu (Took side link number llid body) =
    Some (record { link = link; number = number; pdu = record { llid = llid; body = body } })
taken_pdu entry = None

-- the next line of a side after the first good packet that brings a PDU is that it takes the PDU, but for the line that
-- a procedure is done on that link; and it takes no other
abbrev pub AllAreTakenAtOnce : Words → List Entry → Type 0
AllAreTakenAtOnce words journal =
    (front rest : List Entry) (entry : Entry) (side : Side) → journal ≡ front ++ entry ∷ rest
    → side_of_line entry ≡ Some side → is_done_on (pending_pdu words side front) entry ≡ false
    → taken_pdu entry ≡ pending_pdu words side front
