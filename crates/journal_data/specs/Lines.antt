-- What the lines of one side of a journal say of data: what its host submits, what its links send and take, and what its
-- host receives (Core 5.2, volume 4 part E, sections 5.4.2 and 7.7.19, and volume 6 part B, section 4.5.9).
use Rattle.std.specs.Prelude.{ℕ, ◌-◌, ◌==◌, not, Bool, false, List, [], ◌∷◌, ◌++◌, drop, filter, fold, length, map, Option, Some, None, if◌then◌else◌}
use Rattle.std.specs.List.{flat_map, sum_by}
use Rattle.ble_base.specs.declared.roles.Side.{Side}
use Rattle.acl_banks.specs.History.{HostData}
use Rattle.acl_banks.specs.Packets.{Marked, marked_octets}
use Rattle.host_view.specs.Noted.{acl_handle, is_acl_data, two_octets}
use Rattle.journal.specs.declared.entries.Entry.{Entry}
use Rattle.journal.specs.declared.entries.Entry.TheVariants.{Fed, Up, Opened, Shut, Sent, Took}
use Rattle.journal_acks.specs.link_model.Acknowledgement.{Pdu}
use Rattle.journal_acks.specs.link_model.Data.{data_in}
use Rattle.journal_acks.specs.controller_model.Notes.{is_event}
use Rattle.journal_acks.specs.controller_model.Since.{starts_message}
use Rattle.journal_acks.specs.journal_packets.Belonging.{is_side}
use Rattle.journal_data.specs.HostLines.{OpenUnder, Submitted, has_octets, kept_of, link_under, packets_framed}

-- a PDU with a payload that is sent or taken on a link, and its number
pub record PduLine : Type 0 where
  pub link : ℕ
  pub number : ℕ
  pub pdu : Pdu

-- octets of data that the host receives of a link
pub record Received : Type 0 where
  pub link : ℕ
  pub octets : List Marked

-- complete packets of a link that are reported to the host
pub record Credited : Type 0 where
  pub link : ℕ
  pub count : ℕ

pub record Lines : Type 0 where
  -- the octets that the side was fed
  pub fed : List ℕ
  pub links : List OpenUnder
  -- the packets of its host that were kept
  pub submitted : List Submitted
  pub sent : List PduLine
  pub taken : List PduLine
  pub received : List Received
  pub credited : List Credited

abbrev pub no_lines : Lines
no_lines = record { fed = []; links = []; submitted = []; sent = []; taken = []; received = []; credited = [] }

-- ---- what they say of a link

abbrev pub submitted_on : ℕ → Lines → List HostData
submitted_on link lines =
    map (λ (one : Submitted). one.packet) (filter (λ (one : Submitted). one.link == link) lines.submitted)

-- the packets of no octet, and those with octets
abbrev pub empties_on : ℕ → Lines → ℕ
empties_on link lines = length (filter (λ (packet : HostData). not (has_octets packet)) (submitted_on link lines))

abbrev pub data_on : ℕ → Lines → List HostData
data_on link lines = filter has_octets (submitted_on link lines)

abbrev pub pdus_on : ℕ → List PduLine → List PduLine
pdus_on link lines = filter (λ (one : PduLine). one.link == link) lines

-- the data of the PDUs that it took
abbrev pub accepted_on : ℕ → Lines → List Marked
accepted_on link lines = flat_map (λ (one : PduLine). data_in one.pdu) (pdus_on link lines.taken)

abbrev pub received_on : ℕ → Lines → List Marked
received_on link lines =
    flat_map (λ (one : Received). one.octets) (filter (λ (one : Received). one.link == link) lines.received)

abbrev pub credited_on : ℕ → Lines → ℕ
credited_on link lines =
    sum_by (λ (one : Credited). one.count) (filter (λ (one : Credited). one.link == link) lines.credited)

-- the buffers that are taken: one for each packet with octets of an open link that is not credited. As an HCI packet
-- comes, each packet of no octet before it is credited, so these cancel
abbrev pub buffers_taken : Lines → ℕ
buffers_taken lines =
    sum_by (λ (one : OpenUnder). length (submitted_on one.link lines) - credited_on one.link lines) lines.links

-- ---- line by line

-- an ACL packet to the host is data of the link under its handle; its octets are after the indicator, the handle and
-- the length
abbrev pub data_received : Option ℕ → List ℕ → List Received
data_received None octets = []
data_received (Some link) octets =
    record { link = link; octets = marked_octets (starts_message octets) (drop 5 octets) } ∷ []

abbrev pub received_in : List OpenUnder → List ℕ → List Received
received_in links octets =
    if is_acl_data octets then data_received (link_under (acl_handle octets) links) octets else []

-- Number Of Completed Packets, 13, of one handle, which is at the place 4, and the number of packets after that
abbrev pub credit_up : Option ℕ → ℕ → List Credited
credit_up None count = []
credit_up (Some link) count = record { link = link; count = count } ∷ []

abbrev pub credited_in : List OpenUnder → List ℕ → List Credited
credited_in links octets =
    if is_event 0x13 octets then credit_up (link_under (two_octets 4 octets) links) (two_octets 6 octets) else []

-- what the lines of its own say
abbrev pub line_after : ℕ → Lines → Entry → Lines
line_after buffers lines (Fed side octets) = record lines {
  fed = lines.fed ++ octets;
  submitted = lines.submitted ++ kept_of buffers lines.links (buffers_taken lines) (packets_framed lines.fed octets);
}
line_after buffers lines (Up side octets) = record lines {
  received = lines.received ++ received_in lines.links octets;
  credited = lines.credited ++ credited_in lines.links octets;
}
line_after buffers lines (Opened side link handle role) =
    record lines { links = lines.links ++ record { link = link; handle = handle } ∷ [] }
line_after buffers lines (Shut side link reason) =
    record lines { links = filter (λ (one : OpenUnder). not (one.link == link)) lines.links }
line_after buffers lines (Sent side link number llid body) =
    record lines { sent = lines.sent ++ record { link = link; number = number; pdu = record { llid = llid; body = body } } ∷ [] }
line_after buffers lines (Took side link number llid body) =
    record lines { taken = lines.taken ++ record { link = link; number = number; pdu = record { llid = llid; body = body } } ∷ [] }
line_after buffers lines _ = lines

-- the side of a line, and of none for a turn
abbrev pub is_of_side : Side → Entry → Bool
is_of_side side (Fed other octets) = is_side other side
is_of_side side (Up other octets) = is_side other side
is_of_side side (Opened other link handle role) = is_side other side
is_of_side side (Shut other link reason) = is_side other side
is_of_side side (Sent other link number llid body) = is_side other side
is_of_side side (Took other link number llid body) = is_side other side
is_of_side side _ = false

abbrev pub lines_after : ℕ → Side → Lines → Entry → Lines
lines_after buffers side lines entry = if is_of_side side entry then line_after buffers lines entry else lines

-- what the lines of a side say so far, where it has this number of buffers for packets of its host
unfoldable pub lines_of : ℕ → Side → List Entry → Lines
lines_of buffers side journal = fold (lines_after buffers side) no_lines journal
