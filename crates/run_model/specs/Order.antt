-- The order of the entries of a journal of two stations (our choice).
use Rattle.std.specs.Prelude.{◌≡◌, ℕ, ◌<◌, Bool, List, [], ◌∷◌, ◌++◌, flat_map, length, Option, Some, None, ⊤}
use Rattle.std.specs.List.{AllByRecursion}
use Rattle.ble_base.specs.declared.roles.Side.{Side}
use Rattle.ble_base.specs.declared.roles.Side.TheVariants.{A, B}
use Rattle.journal.specs.declared.entries.Entry.{Entry}
use Rattle.journal.specs.declared.entries.Entry.TheVariants.{Turn, Fed, Air, Up, Opened, Shut, Sent, Took, Enter, Applied, Began, Refused, Done}

-- a part of a turn
pub data Part : Type 0 where
  -- a side is fed, and its controller notes
  Feeding : (side : Side) → Part
  -- a side transmits
  Sending : (side : Side) → Part
  -- the controller of a side notes
  Noting : (side : Side) → Part

-- in each of the three phases both sides transmit, and then their controllers note
abbrev pub phase_parts : List Part
phase_parts = Sending A ∷ Sending B ∷ Noting A ∷ Noting B ∷ []

-- the parts of a turn, in their order: both sides are fed, both controllers begin the turn, three phases, both
-- controllers end the turn
abbrev pub turn_parts : List Part
turn_parts =
    Feeding A ∷ Feeding B ∷ Noting A ∷ Noting B ∷ []
    ++ (phase_parts ++ (phase_parts ++ (phase_parts ++ Noting A ∷ Noting B ∷ [])))

-- the side of a note
abbrev pub side_of_note : Entry → Option Side
side_of_note (Turn slot a b) = None
side_of_note (Fed side octets) = None
side_of_note (Air side channel octets fate verdict) = None
side_of_note (Up side packet) = Some side
side_of_note (Opened side link handle role) = Some side
side_of_note (Shut side link reason) = Some side
side_of_note (Sent side link number llid body) = Some side
side_of_note (Took side link number llid body) = Some side
side_of_note (Enter side link event channel) = Some side
side_of_note (Applied side link number event) = Some side
side_of_note (Began side link kind) = Some side
side_of_note (Refused side link kind code) = Some side
side_of_note (Done side link kind) = Some side

abbrev pub AreNotes : Side → List Entry → Type 0
AreNotes side entries = AllByRecursion (λ entry. side_of_note entry ≡ Some side) entries

-- octets of the host of a side, at least one
abbrev pub IsFeed : Side → Entry → Type 0
IsFeed side (Fed other octets) = (other ≡ side) × (0 < length octets)
IsFeed side _ = ⊥

abbrev pub IsPacket : Side → Entry → Type 0
IsPacket side (Air other channel octets fate verdict) = other ≡ side
IsPacket side _ = ⊥

-- the entries of a part: none; or octets of the host and then notes; or one packet; or notes
abbrev pub AreOfPart : Part → List Entry → Type 0
AreOfPart part [] = ⊤
AreOfPart (Feeding side) (entry ∷ entries) = IsFeed side entry × AreNotes side entries
AreOfPart (Sending side) (entry ∷ entries) = IsPacket side entry × (entries ≡ [])
AreOfPart (Noting side) (entry ∷ entries) = AreNotes side (entry ∷ entries)

-- there are entries for each part
abbrev pub AreOfParts : List Part → List (List Entry) → Type 0
AreOfParts [] [] = ⊤
AreOfParts (part ∷ parts) (entries ∷ others) = AreOfPart part entries × AreOfParts parts others
AreOfParts _ _ = ⊥

-- a turn: how it begins, and the entries of each of its parts
pub record TurnEntries : Type 0 where
  pub slot : ℕ
  pub a_on : Bool
  pub b_on : Option Bool
  pub parts : List (List Entry)

abbrev pub entries_in_turn : TurnEntries → List Entry
entries_in_turn turn = Turn turn.slot turn.a_on turn.b_on ∷ flat_map (λ entries. entries) turn.parts

-- the journal is one turn after another, each with its parts in their order
pub record IsInOrder (journal : List Entry) : Type 0 where
  pub turns : List TurnEntries
  pub journal_is : journal ≡ flat_map entries_in_turn turns
  pub in_parts : AllByRecursion (λ turn. AreOfParts turn_parts turn.parts) turns
