-- What of the data that a host submitted on a link is still to be sent, by the lines of a journal (Core 5.2, volume 6
-- part B, sections 2.4.1, 4.5.6 and 4.5.10). Hosts submit data before both sides begin a turn, and a side sends at most
-- one new PDU of a link in a turn. So what its data were as its next PDU was fixed is read at the line of that PDU, and
-- what was left of them at its packet.
use Rattle.std.specs.Prelude.{ℕ, ◌-◌, ◌==◌, ◌&&◌, nat_lt, Bool, List, [], ◌∷◌, drop, length, take, Option, Some, None, if◌then◌else◌}
use Rattle.std.specs.List.{flat_map}
use Rattle.acl_banks.specs.declared.pieces.Piece.{Piece}
use Rattle.acl_banks.specs.History.{HostData, octets_of}
use Rattle.acl_banks.specs.Packets.{Marked}
use Rattle.ble_base.specs.declared.roles.Side.{Side}
use Rattle.journal.specs.declared.entries.Entry.{Entry}
use Rattle.journal_leaving.specs.journal_data.Delivered.{host_buffers}
use Rattle.journal_leaving.specs.journal_data.Lines.{Lines, PduLine, data_on, lines_of, pdus_on}
use Rattle.journal_leaving.specs.link_model.Data.{data_in}

-- the data of these PDUs
abbrev pub data_of_lines : List PduLine → List Marked
data_of_lines lines = flat_map (λ (one : PduLine). data_in one.pdu) lines

-- how many octets of data a side sent on a link
abbrev pub octets_sent : ℕ → Lines → ℕ
octets_sent link lines = length (data_of_lines (pdus_on link lines.sent))

-- the next piece of these packets, of which this number of octets were sent: of the first packet that was not sent
-- whole, with at most `limit` octets; it starts a message or continues it
abbrev pub piece_after : ℕ → List HostData → ℕ → Option Piece
piece_after limit [] sent = None
piece_after limit (packet ∷ packets) sent =
    if nat_lt sent (length packet.body)
    then Some (record {
      start = packet.start && sent == 0;
      body = record { items = take limit (drop sent packet.body) };
    })
    else piece_after limit packets (sent - length packet.body)

-- the next piece of what the host of a side submitted on a link, after these entries
abbrev pub piece_by_lines : Side → ℕ → List Entry → ℕ → Option Piece
piece_by_lines side link front limit =
    piece_after limit (data_on link (lines_of host_buffers side front))
    (octets_sent link (lines_of host_buffers side front))

-- not all octets that the host submitted were sent
abbrev pub octets_wait : ℕ → Lines → Bool
octets_wait link lines = nat_lt (octets_sent link lines) (length (octets_of (data_on link lines)))
