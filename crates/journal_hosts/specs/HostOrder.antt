-- The order in which a host receives the data of all links of its side: that in which its side took it (Core 5.2, volume
-- 4 part E, sections 4.2 and 5.4.2; that the links share one order is our choice). And when in a turn: as it ends (our
-- choice).
use Rattle.std.specs.Prelude.{◌≡◌, ⊤, ℕ, ◌+◌, ◌==◌, Bool, true, List, [], ◌∷◌, ◌++◌, drop, filter, fold, length, not, take, Option, None, Some, if◌then◌else◌}
use Rattle.ble_base.specs.declared.roles.Side.{Side}
use Rattle.ble_base.specs.declared.roles.Side.TheVariants.{A, B}
use Rattle.host_view.specs.Noted.{is_acl_data}
use Rattle.journal.specs.declared.entries.Entry.{Entry}
use Rattle.journal.specs.declared.entries.Entry.TheVariants.{Turn, Shut, Took, Up}
use Rattle.journal_data.specs.controller_model.Data.{boundary_of}
use Rattle.journal_data.specs.link_model.Data.{is_data}
use Rattle.journal_data.specs.Held.{links_open}
use Rattle.journal_data.specs.HostLines.{OpenUnder, link_under}
use Rattle.journal_data.specs.Lines.{is_of_side}
use Rattle.wire_fields.specs.Field.{little_endian}

-- a piece of data that a side took on a link
pub record LinkPiece : Type 0 where
  pub link : ℕ
  -- it starts a message of the host
  pub start : Bool
  pub body : List ℕ

-- a PDU with LLID 2 starts a message; a control PDU has no data
abbrev pub pieces_taken : (link llid : ℕ) (body : List ℕ) → List LinkPiece
pieces_taken link llid body =
    if is_data (record { llid = llid; body = body })
    then record { link = link; start = llid == 2; body = body } ∷ []
    else []

-- what waits for the host: what its side took, in order. Each packet of data takes the first, and what a link has that is
-- shut is dropped
abbrev pub waiting_by : List LinkPiece → Entry → List LinkPiece
waiting_by waiting (Took side link number llid body) = waiting ++ pieces_taken link llid body
waiting_by waiting (Up side octets) = if is_acl_data octets then drop 1 waiting else waiting
waiting_by waiting (Shut side link reason) = filter (λ (one : LinkPiece). not (one.link == link)) waiting
waiting_by waiting line = waiting

abbrev pub waiting_after : Side → List LinkPiece → Entry → List LinkPiece
waiting_after side waiting line = if is_of_side side line then waiting_by waiting line else waiting

unfoldable pub waiting_for : Side → List Entry → List LinkPiece
waiting_for side front = fold (waiting_after side) [] front

-- a piece as a packet to the host, under the handle of its link
abbrev pub piece_packet : ℕ → LinkPiece → List ℕ
piece_packet handle piece =
    0x02 ∷ little_endian 2 (handle + boundary_of piece.start) ++ little_endian 2 (length piece.body) ++ piece.body

pub record IsOfFirst (waiting : List LinkPiece) (links : List OpenUnder) (octets : List ℕ) : Type 0 where
  pub piece : LinkPiece
  pub handle : ℕ
  pub first : take 1 waiting ≡ piece ∷ []
  pub under : link_under handle links ≡ Some piece.link
  pub octets_are : octets ≡ piece_packet handle piece

-- each packet of data to a host is of the first piece that waits for it
abbrev pub AllComeInOrder : List Entry → Type 0
AllComeInOrder journal = (front rest : List Entry) (side : Side) (octets : List ℕ)
    → journal ≡ front ++ Up side octets ∷ rest → is_acl_data octets ≡ true
    → IsOfFirst (waiting_for side front) (links_open side front) octets

-- ---- as a turn ends

-- the side whose host received the last packet of data of the turn that is under way
abbrev pub handed_after : Option Side → Entry → Option Side
handed_after last (Turn slot a_on b_on) = None
handed_after last (Up side octets) = if is_acl_data octets then Some side else last
handed_after last line = last

abbrev pub last_handed : List Entry → Option Side
last_handed front = fold handed_after None front

-- A ends its turn first, and then B
abbrev pub EndsNoEarlier : Side → Side → Type 0
EndsNoEarlier A side = ⊤
EndsNoEarlier B A = ⊥
EndsNoEarlier B B = ⊤

-- what may come after that packet: packets to hosts, links that are shut, and then the next turn
abbrev pub MayFollowData : Side → Entry → Type 0
MayFollowData last (Turn slot a_on b_on) = ⊤
MayFollowData last (Up side octets) = EndsNoEarlier last side
MayFollowData last (Shut side link reason) = EndsNoEarlier last side
MayFollowData last line = ⊥

abbrev pub AllDataComesLast : List Entry → Type 0
AllDataComesLast journal = (front rest : List Entry) (line : Entry) (last : Side)
    → journal ≡ front ++ line ∷ rest → last_handed front ≡ Some last → MayFollowData last line
