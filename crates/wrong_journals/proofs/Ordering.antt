-- A host is fed only at the beginning of a turn, A before B.
use Rattle.std.proofs.Common.{◌≡◌, ℕ, Bool, true, List, [], ◌∷◌, ◌++◌, Option, Some, None}
use Rattle.std.specs.Prelude.{⊤, flat_map}
use Rattle.std.specs.List.{AllByRecursion}
use Rattle.ble_base.specs.declared.roles.Side.{Side}
use Rattle.ble_base.specs.declared.roles.Side.TheVariants.{A, B}
use Rattle.journal.specs.declared.entries.Entry.{Entry}
use Rattle.journal.specs.declared.entries.Entry.TheVariants.{Fed, Turn}
use Rattle.run_model.specs.Rows.{turn_entry}
use Rattle.run_model.specs.Order.{AreOfParts, IsFeed, IsInOrder, IsPacket, Part, Feeding, Noting, Sending, TurnEntries, entries_in_turn, phase_parts, side_of_note, turn_parts}

-- ---- what begins with octets of a host

-- these entries begin with octets of a host
record BeginsFed (entries : List Entry) : Type 0 where
  side : Side
  octets : List ℕ
  rest : List Entry
  are : entries ≡ Fed side octets ∷ rest

-- none of these parts feeds a side
abbrev FeedsNone : List Part → Type 0
FeedsNone [] = ⊤
FeedsNone (Feeding side ∷ parts) = ⊥
FeedsNone (Sending side ∷ parts) = FeedsNone parts
FeedsNone (Noting side ∷ parts) = FeedsNone parts

turns_begin : (turns : List TurnEntries) → BeginsFed (flat_map entries_in_turn turns) → ⊥
turns_begin [] begins = let same = begins.are in absurd cc
turns_begin (turn ∷ turns) begins = let same = begins.are in absurd cc

first_is : (entry : Entry) (more : List Entry) (begins : BeginsFed (entry ∷ more)) → entry ≡ Fed begins.side begins.octets
first_is entry more begins = let same = begins.are in cc

sends_none : (side : Side) (entry : Entry) (more : List Entry) → IsPacket side entry → BeginsFed (entry ∷ more) → ⊥
sends_none side (Fed other octets) more is begins = is
sends_none side entry more is begins = let same = first_is entry more begins in absurd cc

notes_none : (side : Side) (entry : Entry) (more : List Entry) → side_of_note entry ≡ Some side → BeginsFed (entry ∷ more) → ⊥
notes_none side (Fed other octets) more is begins = let none : None ≡ Some side = is in absurd cc
notes_none side entry more is begins = let same = first_is entry more begins in absurd cc

parts_begin : (turns : List TurnEntries) (parts : List Part) (all : List (List Entry)) → FeedsNone parts → AreOfParts parts all
    → BeginsFed (flat_map (λ part. part) all ++ flat_map entries_in_turn turns) → ⊥
parts_begin turns [] [] none of begins = turns_begin turns begins
parts_begin turns [] (entries ∷ all) none of begins = of
parts_begin turns (part ∷ parts) [] none of begins = of
parts_begin turns (Feeding side ∷ parts) (entries ∷ all) none of begins = none
parts_begin turns (Sending side ∷ parts) ([] ∷ all) none of begins = parts_begin turns parts all none of.1 begins
parts_begin turns (Sending side ∷ parts) ((entry ∷ entries) ∷ all) none of begins = sends_none side entry _ of.0.0 begins
parts_begin turns (Noting side ∷ parts) ([] ∷ all) none of begins = parts_begin turns parts all none of.1 begins
parts_begin turns (Noting side ∷ parts) ((entry ∷ entries) ∷ all) none of begins = notes_none side entry _ of.0.0 begins

-- ---- the first turn

-- the parts of the first turn, and the turns after it
record FirstTurn (entries : List Entry) : Type 0 where
  parts : List (List Entry)
  later : List TurnEntries
  are : flat_map (λ part. part) parts ++ flat_map entries_in_turn later ≡ entries
  of : AreOfParts turn_parts parts

first_turn : (slot : ℕ) (a_on : Bool) (b_on : Option Bool) (entries : List Entry) → IsInOrder (Turn slot a_on b_on ∷ entries) → FirstTurn entries
first_turn slot a_on b_on entries order = by order.turns order.journal_is order.in_parts
  where
    by : (turns : List TurnEntries) → Turn slot a_on b_on ∷ entries ≡ flat_map entries_in_turn turns
        → AllByRecursion (λ turn. AreOfParts turn_parts turn.parts) turns → FirstTurn entries
    by [] is of = absurd cc
    by (turn ∷ turns) is of = record { parts = turn.parts; later = turns; are = let same = is in cc; of = of.0 }

abbrev later_parts : List Part
later_parts = Noting A ∷ Noting B ∷ [] ++ (phase_parts ++ (phase_parts ++ (phase_parts ++ Noting A ∷ Noting B ∷ [])))

-- what these parts are, and the turns after them
abbrev rest_of : List (List Entry) → List TurnEntries → List Entry
rest_of parts later = flat_map (λ part. part) parts ++ flat_map entries_in_turn later

-- ---- after the octets of B come none of A

begins_with : (side : Side) (octets : List ℕ) (rest entries : List Entry) → entries ≡ Fed side octets ∷ rest → BeginsFed entries
begins_with side octets rest entries are = record { side = side; octets = octets; rest = rest; are = are }

pub other_before : (one other : List ℕ) → IsInOrder (turn_entry 0 ∷ Fed B one ∷ Fed A other ∷ []) → ⊥
other_before one other order = let first = first_turn 0 true (Some true) (Fed B one ∷ Fed A other ∷ []) order in by first.parts first.later first.are first.of
  where
    by : (parts : List (List Entry)) (later : List TurnEntries) → flat_map (λ part. part) parts ++ flat_map entries_in_turn later ≡ Fed B one ∷ Fed A other ∷ []
        → AreOfParts turn_parts parts → ⊥
    by [] later are of = of
    by (p ∷ []) later are of = of.1
    by ([] ∷ [] ∷ all) later are of = parts_begin later later_parts all tt of.1.1 (begins_with B one (Fed A other ∷ []) (rest_of all later) are)
    by ([] ∷ (entry ∷ []) ∷ all) later are of = parts_begin later later_parts all tt of.1.1 (begins_with A other [] (rest_of all later) (let same = are in cc))
    by ([] ∷ (entry ∷ note ∷ notes) ∷ all) later are of = notes_none B note ((notes ++ flat_map (λ part. part) all) ++ flat_map entries_in_turn later) of.1.0.1.0
        (begins_with A other [] (note ∷ ((notes ++ flat_map (λ part. part) all) ++ flat_map entries_in_turn later)) (let same = are in cc))
    by ((Fed side octets ∷ entries) ∷ all) later are of =
        let same = are in let is_a : side ≡ A = of.0.0.0 in let is_b : side ≡ B = cc in absurd cc
    by ((entry ∷ entries) ∷ all) later are of = let same = are in absurd cc

-- ---- nor does one side twice

pub twice : (one other : List ℕ) → IsInOrder (turn_entry 0 ∷ Fed A one ∷ Fed A other ∷ []) → ⊥
twice one other order = let first = first_turn 0 true (Some true) (Fed A one ∷ Fed A other ∷ []) order in by first.parts first.later first.are first.of
  where
    b_fed : (octets : List ℕ) (entry : Entry) (more rest : List Entry) → IsFeed B entry → entry ∷ more ≡ Fed A octets ∷ rest → ⊥
    b_fed octets (Fed side fed) more rest is are = let same = are in let is_b : side ≡ B = is.0 in let is_a : side ≡ A = cc in absurd cc
    b_fed octets entry more rest is are = let same = are in absurd cc

    by : (parts : List (List Entry)) (later : List TurnEntries) → flat_map (λ part. part) parts ++ flat_map entries_in_turn later ≡ Fed A one ∷ Fed A other ∷ []
        → AreOfParts turn_parts parts → ⊥
    by [] later are of = of
    by (p ∷ []) later are of = of.1
    by ([] ∷ [] ∷ all) later are of = parts_begin later later_parts all tt of.1.1 (begins_with A one (Fed A other ∷ []) (rest_of all later) are)
    by ([] ∷ (entry ∷ entries) ∷ all) later are of = b_fed one entry ((entries ++ flat_map (λ part. part) all) ++ flat_map entries_in_turn later) (Fed A other ∷ []) of.1.0.0 are
    by ((entry ∷ []) ∷ [] ∷ all) later are of = parts_begin later later_parts all tt of.1.1 (begins_with A other [] (rest_of all later) (let same = are in cc))
    by ((entry ∷ []) ∷ (next ∷ entries) ∷ all) later are of = b_fed other next ((entries ++ flat_map (λ part. part) all) ++ flat_map entries_in_turn later) [] of.1.0.0 (let same = are in cc)
    by ((entry ∷ note ∷ notes) ∷ all) later are of = notes_none A note ((notes ++ flat_map (λ part. part) all) ++ flat_map entries_in_turn later) of.0.1.0
        (begins_with A other [] (note ∷ ((notes ++ flat_map (λ part. part) all) ++ flat_map entries_in_turn later)) (let same = are in cc))
