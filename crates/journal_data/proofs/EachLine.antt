-- What an event adds to the lines of a side.
use Rattle.std.proofs.Common.{◌≡◌, ℕ, Bool, true, false, List, [], ◌∷◌, ◌++◌, refl, ap, sym, ◌∙◌, append-nil, append_assoc}
use Rattle.std.specs.Prelude.{fold, map, ⊤, if◌then◌else◌}
use Rattle.std.specs.List.{AllByRecursion}
use Rattle.std.proofs.lemmas.List.Sums.{fold-append}
use Rattle.ble_base.specs.declared.roles.Side.{Side}
use Rattle.ble_base.specs.declared.notes.Note.{Note}
use Rattle.ble_base.specs.declared.notes.Note.TheVariants.{Up, Opened, Shut, Sent, Took}
use Rattle.journal.specs.declared.entries.Entry.TheVariants.{Fed}
use Rattle.journal_acks.specs.controller_model.Step.{Step}
use Rattle.journal_acks.specs.run_model.History.{Event, TurnBegan, HostFed, Called, Noted, Transmitted, Hearing}
use Rattle.journal_acks.specs.run_model.Journal.{air_entries, entries_of, entry_of, journal_of, side_of}
use Rattle.journal_acks.specs.run_model.Links.{links_of}
use Rattle.journal_acks.proofs.run_model.Calls.{with_notes}
use Rattle.journal_acks.proofs.run_model.Parts.{journal_event}
use Rattle.journal_acks.specs.journal_packets.Belonging.{is_side}
use Rattle.journal_acks.proofs.TwoStations.{side_same}
use Rattle.journal_data.specs.Lines.{Lines, line_after, lines_after, lines_of, no_lines}

-- the numbers of the links that a station opened last, by handle
abbrev pub numbers_at : ℕ → List Event → ℕ → ℕ
numbers_at station history = (links_of history).link_of station

-- what the lines of a station say so far, where each station has eight buffers
abbrev pub lines_at : ℕ → List Event → Lines
lines_at station history = lines_of 8 (side_of station) (journal_of history)

pub event_lines : (station : ℕ) (history : List Event) (event : Event)
    → lines_at station (history ++ event ∷ [])
    ≡ fold (lines_after 8 (side_of station)) (lines_at station history) (entries_of (links_of history) event)
unfolding lines_of
event_lines station history event =
    ap (lines_of 8 (side_of station)) (journal_event history event)
    ∙ fold-append (lines_after 8 (side_of station)) no_lines (journal_of history) (entries_of (links_of history) event)

-- ---- events with no line of a side

pub turn_lines : (station : ℕ) (history : List Event) (slot : ℕ) (radios : List Bool)
    → lines_at station (history ++ TurnBegan slot radios ∷ []) ≡ lines_at station history
turn_lines station history slot radios = event_lines station history (TurnBegan slot radios)

pub call_lines : (station : ℕ) (history : List Event) (other : ℕ) (step : Step)
    → lines_at station (history ++ Called other step ∷ []) ≡ lines_at station history
call_lines station history other step = event_lines station history (Called other step)

no_air : (side : Side) (lines : Lines) (sender : Side) (channel : ℕ) (octets : List ℕ) (hearings : List Hearing)
    → fold (lines_after 8 side) lines (air_entries sender channel octets hearings) ≡ lines
no_air side lines sender channel octets [] = refl
no_air side lines sender channel octets (hearing ∷ hearings) = refl

pub air_lines : (station : ℕ) (history : List Event) (sender channel : ℕ) (octets : List ℕ) (hearings : List Hearing)
    → lines_at station (history ++ Transmitted sender channel octets hearings ∷ []) ≡ lines_at station history
air_lines station history sender channel octets hearings =
    event_lines station history (Transmitted sender channel octets hearings)
    ∙ no_air (side_of station) (lines_at station history) (side_of sender) channel octets hearings

-- ---- events of the station

if_own : (own : Bool) (one other : Lines) → own ≡ true → (if own then one else other) ≡ one
if_own true one other is = refl
if_own false one other is = absurd cc

pub fed_lines : (station : ℕ) (history : List Event) (octets : List ℕ)
    → lines_at station (history ++ HostFed station octets ∷ [])
    ≡ line_after 8 (lines_at station history) (Fed (side_of station) octets)
fed_lines station history octets =
    event_lines station history (HostFed station octets)
    ∙ if_own (is_side (side_of station) (side_of station)) _ (lines_at station history) (side_same station)

noted_own : (side : Side) (lines : Lines) (link_of : ℕ → ℕ) (last : ℕ) (note : Note) → is_side side side ≡ true
    → lines_after 8 side lines (entry_of side link_of last note) ≡ line_after 8 lines (entry_of side link_of last note)
noted_own side lines link_of last (Up packet) own = if_own (is_side side side) _ lines own
noted_own side lines link_of last (Opened handle role mine peer) own = if_own (is_side side side) _ lines own
noted_own side lines link_of last (Shut handle reason) own = if_own (is_side side side) _ lines own
noted_own side lines link_of last (Sent handle number llid body) own = if_own (is_side side side) _ lines own
noted_own side lines link_of last (Took handle number llid body) own = if_own (is_side side side) _ lines own
noted_own side lines link_of last note own = refl

pub note_lines : (station : ℕ) (history : List Event) (note : Note)
    → lines_at station (history ++ Noted station note ∷ [])
    ≡ line_after 8 (lines_at station history)
    (entry_of (side_of station) ((links_of history).link_of station) ((links_of history).last_of station) note)
note_lines station history note =
    event_lines station history (Noted station note)
    ∙ noted_own (side_of station) (lines_at station history) ((links_of history).link_of station)
    ((links_of history).last_of station) note (side_same station)

-- ---- events of the other station

if_other : (own : Bool) (one other : Lines) → own ≡ false → (if own then one else other) ≡ other
if_other false one other is = refl
if_other true one other is = absurd cc

noted_other : (side other : Side) (lines : Lines) (link_of : ℕ → ℕ) (last : ℕ) (note : Note) → is_side other side ≡ false
    → lines_after 8 side lines (entry_of other link_of last note) ≡ lines
noted_other side other lines link_of last (Up packet) differs = if_other (is_side other side) _ lines differs
noted_other side other lines link_of last (Opened handle role mine peer) differs = if_other (is_side other side) _ lines differs
noted_other side other lines link_of last (Shut handle reason) differs = if_other (is_side other side) _ lines differs
noted_other side other lines link_of last (Sent handle number llid body) differs = if_other (is_side other side) _ lines differs
noted_other side other lines link_of last (Took handle number llid body) differs = if_other (is_side other side) _ lines differs
noted_other side other lines link_of last note differs = refl

pub fed_other : (station other : ℕ) (history : List Event) (octets : List ℕ) → is_side (side_of other) (side_of station) ≡ false
    → lines_at station (history ++ HostFed other octets ∷ []) ≡ lines_at station history
fed_other station other history octets differs =
    event_lines station history (HostFed other octets)
    ∙ if_other (is_side (side_of other) (side_of station)) _ (lines_at station history) differs

pub note_other : (station other : ℕ) (history : List Event) (note : Note) → is_side (side_of other) (side_of station) ≡ false
    → lines_at station (history ++ Noted other note ∷ []) ≡ lines_at station history
note_other station other history note differs =
    event_lines station history (Noted other note)
    ∙ noted_other (side_of station) (side_of other) (lines_at station history) ((links_of history).link_of other)
    ((links_of history).last_of other) note differs

-- ---- events that are not of a station

abbrev pub IsElsewhere : ℕ → ℕ → Type 0
IsElsewhere station other = is_side (side_of other) (side_of station) ≡ false

abbrev pub IsOutside : ℕ → Event → Type 0
IsOutside station (TurnBegan slot radios) = ⊤
IsOutside station (Transmitted sender channel octets hearings) = ⊤
IsOutside station (HostFed other octets) = IsElsewhere station other
IsOutside station (Called other step) = IsElsewhere station other
IsOutside station (Noted other note) = IsElsewhere station other

noted_outside : (station other : ℕ) (notes : List Note) → IsElsewhere station other → AllByRecursion (IsOutside station) (map (Noted other) notes)
noted_outside station other [] apart = tt
noted_outside station other (note ∷ notes) apart = (apart, noted_outside station other notes apart)

pub call_outside : (station other : ℕ) (step : Step) (notes : List Note) → IsElsewhere station other
    → AllByRecursion (IsOutside station) (Called other step ∷ map (Noted other) notes)
call_outside station other step notes apart = (apart, noted_outside station other notes apart)

outside_line : (station : ℕ) (history : List Event) (event : Event) → IsOutside station event
    → lines_at station (history ++ event ∷ []) ≡ lines_at station history
outside_line station history (TurnBegan slot radios) outside = turn_lines station history slot radios
outside_line station history (Transmitted sender channel octets hearings) outside = air_lines station history sender channel octets hearings
outside_line station history (HostFed other octets) outside = fed_other station other history octets outside
outside_line station history (Called other step) outside = call_lines station history other step
outside_line station history (Noted other note) outside = note_other station other history note outside

pub outside_lines : (station : ℕ) (events history : List Event) → AllByRecursion (IsOutside station) events
    → lines_at station (history ++ events) ≡ lines_at station history
outside_lines station [] history are = ap (lines_at station) (append-nil history)
outside_lines station (event ∷ events) history are =
    ap (lines_at station) (sym (append_assoc history (event ∷ []) events))
    ∙ outside_lines station events (history ++ event ∷ []) are.1 ∙ outside_line station history event are.0

pub other_lines : (station other : ℕ) (step : Step) (notes : List Note) (history : List Event) → IsElsewhere station other
    → lines_at station (with_notes other step notes history) ≡ lines_at station history
other_lines station other step notes history apart =
    outside_lines station (Called other step ∷ map (Noted other) notes) history (call_outside station other step notes apart)

-- ---- a field that the notes of a call leave as it is

module _ {X : Type 0} (P : Note → Type 0) (field : Lines → X)
    (leaves : (lines : Lines) (side : Side) (link_of : ℕ → ℕ) (last : ℕ) (note : Note) → P note
    → field (line_after 8 lines (entry_of side link_of last note)) ≡ field lines) where
  notes_leave : (station : ℕ) (notes : List Note) (history : List Event) → AllByRecursion P notes
      → field (lines_at station (history ++ map (Noted station) notes)) ≡ field (lines_at station history)
  notes_leave station [] history all = ap (λ (h : List Event). field (lines_at station h)) (append-nil history)
  notes_leave station (note ∷ notes) history all =
      ap (λ (h : List Event). field (lines_at station h)) (sym (append_assoc history (Noted station note ∷ []) (map (Noted station) notes)))
      ∙ notes_leave station notes (history ++ Noted station note ∷ []) all.1
      ∙ ap field (note_lines station history note)
      ∙ leaves (lines_at station history) (side_of station) ((links_of history).link_of station) ((links_of history).last_of station) note all.0

  pub call_leaves : (station : ℕ) (step : Step) (notes : List Note) (history : List Event) → AllByRecursion P notes
      → field (lines_at station (with_notes station step notes history)) ≡ field (lines_at station history)
  call_leaves station step notes history all =
      ap (λ (h : List Event). field (lines_at station h)) (sym (append_assoc history (Called station step ∷ []) (map (Noted station) notes)))
      ∙ notes_leave station notes (history ++ Called station step ∷ []) all
      ∙ ap field (call_lines station history station step)
