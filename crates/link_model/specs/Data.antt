-- The data of one end of a link: what its host gave it and what became of that (Core 5.2, volume 4 part E, section 4.1;
-- volume 6 part B, sections 2.4.1 and 4.5.10).
use Rattle.std.specs.Prelude.{ℕ, ◌+◌, ◌==◌, ◌&&◌, ◌||◌, nat_lt, Bool, true, false, not, List, [], ◌∷◌, ◌++◌, length, take, Option, Some, None, is_some, if◌then◌else◌}
use Rattle.std.specs.List.{filter, find, flat_map}
use Rattle.std.specs.Option.{option_map}
use Rattle.ble_base.specs.Limits.{first_payload_octets}
use Rattle.acl_banks.specs.declared.pieces.Piece.{Piece}
use Rattle.acl_banks.specs.History.{HostData}
use Rattle.acl_banks.specs.Packets.{DataPacket, Marked, is_all_sent, marked_octets, new_packet, packet_after_acked, packet_after_went, piece_of, sent_length, unsent_octets, with_first, without_first}
use Rattle.link_model.specs.Acknowledgement.{Acknowledgement, Pdu, empty_pdu}

pub record Data : Type 0 where
  -- the packets of the host that were kept to be sent, in order
  pub given : List HostData
  -- those of them that are not complete
  pub packets : List DataPacket
  -- how many are complete, with all octets acknowledged, and not reported to the host
  pub complete : ℕ
  -- how many were reported
  pub reported : ℕ
  -- the most octets of a piece
  pub limit : ℕ
  -- the PDU that is sent next where the last one is acknowledged, as the turn began; whether a further one waited then,
  -- and whether one waited after the last PDU, where that is sent again
  pub fixed : Pdu
  pub more : Bool
  pub more_again : Bool
  -- the payload of the PDU that was sent last, as it was on the air
  pub payload : List ℕ

-- payloads have at most 27 octets until the ends agree on more (section 4.5.10)
abbrev pub first_data : Data
first_data = record {
  given = [];
  packets = [];
  complete = 0;
  reported = 0;
  limit = first_payload_octets;
  fixed = empty_pdu;
  more = false;
  more_again = false;
  payload = empty_pdu.body;
}

-- ---- PDUs

-- LLID 2 starts a message of the host, and LLID 1 continues it (section 2.4.1)
abbrev pub llid_of : Bool → ℕ
llid_of start = if start then 2 else 1

-- the PDU of a piece, and an empty one where there is none
abbrev pub pdu_with : Option Piece → Pdu
pdu_with None = empty_pdu
pdu_with (Some piece) = record { llid = llid_of piece.start; body = piece.body.items }

-- a PDU with no payload counts as empty, and so does one with LLID 0, which is reserved (that it does is our choice)
abbrev pub is_empty : Pdu → Bool
is_empty pdu = pdu.llid == 0 || length pdu.body == 0

abbrev pub is_control : Pdu → Bool
is_control pdu = pdu.llid == 3

abbrev pub is_data : Pdu → Bool
is_data pdu = (pdu.llid == 1 || pdu.llid == 2) && not (length pdu.body == 0)

-- the octets of data in a PDU, marked: only the first octet of a start is marked so
abbrev pub data_in : Pdu → List Marked
data_in pdu = if is_data pdu then marked_octets (pdu.llid == 2) pdu.body else []

abbrev pub data_of : List Pdu → List Marked
data_of pdus = flat_map data_in pdus

-- how many PDUs are not empty: such PDUs have numbers, from 1 on (our choice)
abbrev pub numbered : List Pdu → ℕ
numbered pdus = length (filter (λ pdu. not (is_empty pdu)) pdus)

-- ---- what waits

abbrev pub is_unsent : DataPacket → Bool
is_unsent packet = nat_lt (sent_length packet) (length packet.body)

abbrev pub is_out : DataPacket → Bool
is_out packet = nat_lt 0 packet.out

-- the octets that were not sent
abbrev pub unsent_of : Data → List Marked
unsent_of outgoing = flat_map unsent_octets outgoing.packets

-- the next piece: of the first packet with octets that were not sent
abbrev pub next_piece : Data → Option Piece
next_piece outgoing = option_map (piece_of outgoing.limit) (find is_unsent outgoing.packets)

-- ---- what goes out next

-- the PDU that goes out next: the first control PDU that may be sent, then the next piece of data, then the empty PDU
-- (section 2.4; the order is our choice)
abbrev pub next_of : List Pdu → Option Piece → Pdu
next_of [] piece = pdu_with piece
next_of (control ∷ controls) piece = control

abbrev pub has_some : List Pdu → Bool
has_some [] = false
has_some (pdu ∷ pdus) = true

-- a further PDU waits behind that: behind a control PDU another one, also one that is held back, or a piece of data;
-- behind a piece the octets that it does not have (section 4.5.6; what counts is our choice). The piece and the number of
-- octets are those of the data that may be sent
abbrev pub waits_behind : List Pdu → List Pdu → Option Piece → ℕ → Bool
waits_behind [] held piece unsent = nat_lt (length (pdu_with piece).body) unsent
waits_behind (control ∷ controls) held piece unsent = has_some controls || has_some held || is_some piece

-- ---- steps

-- the host gives a packet, which is kept; one of no octet has nothing to be sent
abbrev pub data_given : ℕ → Bool → List ℕ → Data → Data
data_given handle start [] outgoing = outgoing
data_given handle start (octet ∷ octets) outgoing =
    record outgoing {
      given = outgoing.given ++ record { start = start; body = octet ∷ octets } ∷ [];
      packets = outgoing.packets ++ new_packet handle start (octet ∷ octets) ∷ [];
    }

-- as a turn begins, the PDU that may be sent next is fixed, by the control PDUs that may be sent and those that are held
-- back (our choice)
abbrev pub data_fixed : List Pdu → List Pdu → Data → Data
data_fixed controls held outgoing =
    record outgoing {
      fixed = next_of controls (next_piece outgoing);
      more = waits_behind controls held (next_piece outgoing) (length (unsent_of outgoing));
    }

-- the fixed PDU is sent: as many octets go out as it has, whatever the limit is by now. Its body is kept as the payload for
-- sending it again; a payload that is sealed takes its place where it is made
abbrev pub data_sent : Data → Data
data_sent outgoing =
    record outgoing {
      packets =
          (if is_data outgoing.fixed
          then with_first is_unsent (packet_after_went (length outgoing.fixed.body)) outgoing.packets
          else outgoing.packets);
      fixed = empty_pdu;
      more = false;
      payload = outgoing.fixed.body;
    }

abbrev pub data_sent_if : Bool → Data → Data
data_sent_if is_new outgoing = if is_new then data_sent outgoing else outgoing

-- the piece that is out is acknowledged; a packet is complete with its last piece
abbrev pub is_completed : Option DataPacket → Bool
is_completed None = false
is_completed (Some packet) = is_all_sent packet

abbrev pub data_completed : Bool → Data → Data
data_completed completes outgoing =
    record outgoing {
      packets =
          (if completes
          then without_first is_out outgoing.packets
          else with_first is_out packet_after_acked outgoing.packets);
      complete = (if completes then outgoing.complete + 1 else outgoing.complete);
    }

abbrev pub data_acked : Data → Data
data_acked outgoing = data_completed (is_completed (find is_out outgoing.packets)) outgoing

abbrev pub data_acked_if : Bool → Data → Data
data_acked_if acked outgoing = if acked then data_acked outgoing else outgoing

-- the complete packets are reported to the host (volume 4 part E, section 7.7.19)
abbrev pub data_reported : Data → Data
data_reported outgoing = record outgoing { complete = 0; reported = outgoing.reported + outgoing.complete }

-- ---- what is accepted, and what was sent

-- a new PDU is accepted; one with data only where there is room for it (section 4.5.9)
abbrev pub is_accepted : Bool → Bool → Pdu → Bool
is_accepted room fresh pdu = fresh && (room || not (is_data pdu))

-- the data of the PDUs that an end sent, each once, and that of those which are acknowledged
abbrev pub sent_data : Acknowledgement → List Marked
sent_data ack = data_of ack.sent

abbrev pub acked_data : Acknowledgement → List Marked
acked_data ack = data_of (take ack.acked ack.sent)
