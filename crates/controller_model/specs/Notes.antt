-- What the notes of a controller say: which are answers, which LE events, and which links they name (Core 5.2, volume 4
-- part E, section 7.7).
use Rattle.std.specs.Prelude.{◌≡◌, ℕ, ◌%◌, ◌^◌, ◌<◌, ◌==◌, ◌&&◌, not, Bool, true, false, List, [], ◌∷◌, ◌++◌, filter, flat_map, slice_index, ⊤, if◌then◌else◌}
use Rattle.std.specs.List.{list_any}
use Rattle.ble_base.specs.declared.notes.Note.{Note}
use Rattle.ble_base.specs.declared.notes.Note.TheVariants.{Up, Opened, Shut, Sent, Took, Enter, Applied, Began, Refused, Done}
use Rattle.h4_frames.specs.declared.packet.Fed.{Fed}
use Rattle.host_view.specs.Noted.{two_octets}
use Rattle.controller_model.specs.Step.{Step}
use Rattle.controller_model.specs.Facts.{Setup, Facts, first_facts}
use Rattle.controller_model.specs.Side.{facts_fed, facts_of, notes_fed, notes_of}

-- ---- answers (sections 7.7.14 and 7.7.15)

-- the packet is an event with this code: the indicator 04 is before it (volume 4 part A, section 2)
abbrev pub is_event : ℕ → List ℕ → Bool
is_event code octets = (slice_index octets 0 == 0x04) && (slice_index octets 1 == code)

-- what a packet says of a command if it answers one: how many further commands may be sent, and the opcode. Command
-- Complete, 0E, has them at the places 3 and 4, and Command Status, 0F, after its status, at 4 and 5
abbrev pub answers_in : List ℕ → List (ℕ × ℕ)
answers_in octets =
    if is_event 0x0E octets then (slice_index octets 3, two_octets 4 octets) ∷ []
    else if is_event 0x0F octets then (slice_index octets 4, two_octets 5 octets) ∷ []
    else []

abbrev pub answers_noted : Note → List (ℕ × ℕ)
answers_noted (Up packet) = answers_in packet.items
answers_noted other = []

abbrev pub answers_among : List Note → List (ℕ × ℕ)
answers_among notes = flat_map answers_noted notes

-- one further command may be sent after the command with this opcode
abbrev pub one_further : ℕ → ℕ × ℕ
one_further opcode = (1, opcode)

-- an opcode as two octets hold it (section 5.4.1)
abbrev pub as_two_octets : ℕ → ℕ
as_two_octets opcode = opcode % 2 ^ 16

-- ---- LE events

-- an LE event has the code 3E (section 7.7.65)
abbrev pub is_le_note : Note → Bool
is_le_note (Up packet) = is_event 0x3E packet.items
is_le_note other = false

abbrev pub without_le_events : List Note → List Note
without_le_events notes = filter (λ note. not (is_le_note note)) notes

-- ---- the notes on frames

-- the notes of a controller with these facts, on packets and losses of synchronisation one after another
abbrev pub answers_from : Setup → Facts → List (ℕ × Fed) → List Note
answers_from setup facts [] = []
answers_from setup facts (entry ∷ entries) =
    notes_fed setup facts entry.1 ++ answers_from setup (facts_fed setup facts entry.1) entries

unfoldable pub answers_of : Setup → List (ℕ × Fed) → List Note
answers_of setup entries = answers_from setup (first_facts setup) entries

-- ---- links (our choice)

-- a packet to the host is one of no link; any other note has a handle below this number
abbrev pub HasHandleBelow : ℕ → Note → Type 0
HasHandleBelow links (Up packet) = ⊤
HasHandleBelow links (Opened handle role own peer) = handle < links
HasHandleBelow links (Shut handle reason) = handle < links
HasHandleBelow links (Sent handle number llid body) = handle < links
HasHandleBelow links (Took handle number llid body) = handle < links
HasHandleBelow links (Enter handle event channel) = handle < links
HasHandleBelow links (Applied handle number event) = handle < links
HasHandleBelow links (Began handle kind) = handle < links
HasHandleBelow links (Refused handle kind code) = handle < links
HasHandleBelow links (Done handle kind) = handle < links

abbrev pub is_opening : Note → Bool
is_opening (Opened handle role own peer) = true
is_opening other = false

-- no link was opened, and the controller set out to make none
pub record HadNoLink (setup : Setup) (past : List Step) : Type 0 where
  pub opened_none : list_any is_opening (notes_of setup past) ≡ false
  pub made_none : (facts_of setup past).connections ≡ 0
