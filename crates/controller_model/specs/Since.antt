-- What a controller noted since a link was opened, and what its host received of data on that link in that time (Core
-- 5.2, volume 4 part E, sections 5.4.2 and 7.7.19).
use Rattle.std.specs.Prelude.{◌≡◌, ℕ, ◌+◌, ◌/◌, ◌%◌, ◌==◌, ◌&&◌, ◌||◌, Bool, false, List, [], ◌∷◌, ◌++◌, drop, filter, flat_map, fold, map, if◌then◌else◌}
use Rattle.std.specs.List.{list_any, sum}
use Rattle.ble_base.specs.declared.notes.Note.{Note}
use Rattle.ble_base.specs.declared.notes.Note.TheVariants.{Up, Opened, Shut, Sent, Took, Enter, Applied, Began, Refused, Done}
use Rattle.acl_banks.specs.declared.pieces.Piece.{Piece}
use Rattle.acl_banks.specs.Packets.{Marked, marked_octets}
use Rattle.h4_frames.specs.declared.packet.HostPacket.TheVariants.{Acl}
use Rattle.h4_frames.specs.declared.packet.Fed.{Fed}
use Rattle.h4_frames.specs.declared.packet.Fed.TheVariants.{Packet}
use Rattle.hci_evt.specs.Event.{written}
use Rattle.hci_evt.specs.declared.event.Event.TheVariants.{CompletedPackets}
use Rattle.host_view.specs.Noted.{acl_handle, is_acl_data, two_octets}
use Rattle.link_commands.specs.open_links.link_model.End.{notes_of as end_notes_of}
use Rattle.link_commands.specs.open_links.link_model.Setup.{Setup as EndSetup}
use Rattle.link_commands.specs.open_links.link_model.Step.{Step as EndStep}
use Rattle.controller_model.specs.Step.{Step, HostOctet}
use Rattle.controller_model.specs.Facts.{Setup, Facts, first_facts}
use Rattle.controller_model.specs.Links.{note_opened, note_shut}
use Rattle.controller_model.specs.Notes.{is_event}
use Rattle.controller_model.specs.Side.{facts_after, notes_after, result_of}

-- ---- since a link was opened

abbrev pub opens_under : ℕ → Note → Bool
opens_under handle (Opened other role own peer) = other == handle
opens_under handle note = false

-- the notes after the last one that says that a link was opened under this handle
abbrev pub note_since : ℕ → List Note → Note → List Note
note_since handle notes note = if opens_under handle note then [] else notes ++ note ∷ []

abbrev pub since_opened : ℕ → List Note → List Note
since_opened handle notes = fold (note_since handle) [] notes

-- ---- the notes of one link

-- a note is of the link under this handle
abbrev pub is_under : ℕ → Note → Bool
is_under handle (Up packet) = false
is_under handle (Opened other role own peer) = other == handle
is_under handle (Shut other reason) = other == handle
is_under handle (Sent other number llid body) = other == handle
is_under handle (Took other number llid body) = other == handle
is_under handle (Enter other event channel) = other == handle
is_under handle (Applied other number event) = other == handle
is_under handle (Began other kind) = other == handle
is_under handle (Refused other kind code) = other == handle
is_under handle (Done other kind) = other == handle

-- the notes of the link that was opened last under a handle: that one, and those under the handle after it
abbrev pub note_under : ℕ → List Note → Note → List Note
note_under handle notes note =
    if opens_under handle note then note ∷ []
    else if is_under handle note then notes ++ note ∷ []
    else notes

abbrev pub notes_under : ℕ → List Note → List Note
notes_under handle notes = fold (note_under handle) [] notes

-- a link was opened under the handle
abbrev pub was_opened : ℕ → List Note → Bool
was_opened handle notes = list_any (opens_under handle) notes

-- that a link was opened, and what its end noted of these steps
abbrev pub notes_opened_on : EndSetup → List EndStep → List Note
notes_opened_on setup past = note_opened setup.link ∷ end_notes_of setup past

-- these are the notes of a link that was shut: that it was opened, what its end noted, and that it was shut
pub record AreOfShutLink (handle : ℕ) (notes : List Note) : Type 0 where
  pub setup : EndSetup
  pub past : List EndStep
  pub reason : ℕ
  pub has_handle : setup.link.handle ≡ handle
  pub notes_are : notes ≡ notes_opened_on setup past ++ note_shut handle reason ∷ []

-- the notes of what was sent, and of what was taken, on the link under this handle
abbrev pub is_sent_on : ℕ → Note → Bool
is_sent_on handle (Sent other number llid body) = other == handle
is_sent_on handle note = false

abbrev pub is_took_on : ℕ → Note → Bool
is_took_on handle (Took other number llid body) = other == handle
is_took_on handle note = false

-- ---- data that the host received

-- the packet boundary flag 10 says that an ACL packet starts a message
abbrev pub starts_message : List ℕ → Bool
starts_message octets = (two_octets 1 octets / 4096) % 4 == 2

abbrev pub is_data_on : ℕ → List ℕ → Bool
is_data_on handle octets = is_acl_data octets && (acl_handle octets == handle)

abbrev pub is_handed_up_on : ℕ → Note → Bool
is_handed_up_on handle (Up packet) = is_data_on handle packet.items
is_handed_up_on handle note = false

-- the octets of data in an ACL packet, marked; the data is after the indicator, the handle and the length
abbrev pub data_up : ℕ → Note → List Marked
data_up handle (Up packet) =
    if is_data_on handle packet.items then marked_octets (starts_message packet.items) (drop 5 packet.items) else []
data_up handle note = []

-- the data of the pieces that were taken on the link under this handle and that the host has not received
abbrev pub is_piece_on : ℕ → ℕ × Piece → Bool
is_piece_on handle piece = piece.0 == handle

abbrev pub data_of_piece : ℕ × Piece → List Marked
data_of_piece piece = marked_octets piece.1.start piece.1.body.items

abbrev pub data_waiting : ℕ → List (ℕ × Piece) → List Marked
data_waiting handle received = flat_map data_of_piece (filter (is_piece_on handle) received)

-- ---- complete packets that were reported

-- Number Of Completed Packets, 13, whose first handle, at the place 4, is this one
abbrev pub is_completed_on : ℕ → Note → Bool
is_completed_on handle (Up packet) = is_event 0x13 packet.items && (two_octets 4 packet.items == handle)
is_completed_on handle note = false

-- an event for this handle alone
abbrev pub note_completed : ℕ → ℕ → Note
note_completed handle count = Up (record { items = written (CompletedPackets handle count) })

-- these notes report so many complete packets of the link under a handle, in so many events
pub record ReportsInAll (handle : ℕ) (notes : List Note) (total : ℕ) : Type 0 where
  pub counts : List ℕ
  pub events : filter (is_completed_on handle) notes ≡ map (note_completed handle) counts
  pub total_is : sum counts ≡ total

-- how many packets of no octet the host gave the link under a handle: they are counted anew as a link is opened
abbrev pub count_since : ℕ → ℕ → Note → ℕ
count_since handle count note = if opens_under handle note then 0 else count

abbrev pub count_fed : ℕ → Fed → ℕ → ℕ
count_fed handle (Packet (Acl other start octets body)) count =
    if (other == handle) && (octets == 0) then count + 1 else count
count_fed handle fed count = count

abbrev pub count_given : ℕ → Facts → Step → ℕ → ℕ
count_given handle facts (HostOctet octet) count = count_fed handle (result_of facts.octets octet) count
count_given handle facts step count = count

abbrev pub empties_from : Setup → ℕ → Facts → ℕ → List Step → ℕ
empties_from setup handle facts count [] = count
empties_from setup handle facts count (step ∷ steps) =
    empties_from setup handle (facts_after setup facts step)
    (count_given handle facts step (fold (count_since handle) count (notes_after setup facts step))) steps

-- the number since it was opened
unfoldable pub empties_of : Setup → ℕ → List Step → ℕ
empties_of setup handle past = empties_from setup handle (first_facts setup) 0 past

-- ---- notes of the data of a link

-- a note of what was sent or taken on the link under this handle, of data of it that the host receives, or of its
-- complete packets
abbrev pub is_data_note : ℕ → Note → Bool
is_data_note handle note =
    (is_sent_on handle note || is_took_on handle note) || (is_handed_up_on handle note || is_completed_on handle note)
