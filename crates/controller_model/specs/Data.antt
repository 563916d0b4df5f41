-- Data between a controller and its host: packets of the host, what the host receives as a turn ends, and the links that
-- end then (Core 5.2, volume 4 part E, sections 4.1, 5.4.2, 7.7.19 and 7.7.26; volume 6 part B, section 5.1.6).
use Rattle.std.specs.Prelude.{ℕ, ◌+◌, ◌==◌, Bool, List, [], ◌∷◌, ◌++◌, fold, length, map, if◌then◌else◌}
use Rattle.ble_base.specs.declared.notes.Note.{Note}
use Rattle.ble_base.specs.declared.notes.Note.TheVariants.{Up}
use Rattle.acl_banks.specs.declared.pieces.Piece.{Piece}
use Rattle.hci_evt.specs.declared.event.Event.{Event}
use Rattle.hci_evt.specs.declared.event.Event.TheVariants.{CompletedPackets, BufferOverflow}
use Rattle.host_view.specs.View.{View}
use Rattle.host_view.specs.Flow.{handed_of, left_of}
use Rattle.host_view.specs.Noted.{view_noted}
use Rattle.wire_fields.specs.Field.{little_endian}
use Rattle.link_commands.specs.open_links.declared.offers.Completed.{Completed}
use Rattle.link_commands.specs.open_links.declared.offers.Offer.{Offer}
use Rattle.link_commands.specs.open_links.declared.offers.Offer.TheVariants.{NoLink, Empty, Overflow, Kept}
use Rattle.link_commands.specs.open_links.Data.{buffers_taken, completed_from, links_given, links_reported, offer_by}
use Rattle.link_commands.specs.open_links.OpenLinks.{link_at}
use Rattle.controller_model.specs.Events.{notes_of_events}
use Rattle.controller_model.specs.Facts.{Setup, Facts}
use Rattle.controller_model.specs.Links.{facts_leaving, notes_leaving}

-- ---- a packet of the host

-- all buffers are taken
abbrev pub is_full : Setup → Facts → Bool
is_full setup facts = buffers_taken facts.links == setup.host_buffers

-- what becomes of a packet with this number of octets
abbrev pub offer_of : Setup → Facts → ℕ → ℕ → Offer
offer_of setup facts handle count = offer_by (link_at handle facts.links) count (is_full setup facts)

abbrev pub facts_offered : Offer → ℕ → Bool → List ℕ → Facts → Facts
facts_offered Kept handle start body facts = record facts { links = links_given handle start body facts.links }
facts_offered other handle start body facts = facts

-- the link type of ACL is 1 in Data Buffer Overflow
abbrev pub notes_offered : View → Offer → ℕ → List Note
notes_offered view NoLink handle = []
notes_offered view Empty handle = notes_of_events view (CompletedPackets handle 1 ∷ [])
notes_offered view Overflow handle = notes_of_events view (BufferOverflow 1 ∷ [])
notes_offered view Kept handle = []

-- ---- as a turn ends

-- the packet boundary flags are 10 for the start of a message and 01 for a continuation, in bits 12 and 13
abbrev pub boundary_of : Bool → ℕ
boundary_of start = if start then 0x2000 else 0x1000

-- a piece as an ACL packet to the host, with its packet indicator first
abbrev pub acl_packet : ℕ × Piece → List ℕ
acl_packet received =
    0x02 ∷ little_endian 2 (received.0 + boundary_of received.1.start)
    ++ little_endian 2 (length received.1.body.items) ++ received.1.body.items

abbrev pub note_received : ℕ × Piece → Note
note_received received = Up (record { items = acl_packet received })

abbrev pub event_completed : Completed → Event
event_completed completed = CompletedPackets completed.handle completed.count

-- the host receives the pieces that links took, in order: all of them, or with flow control on as many as it can still
-- take (section 4.2). The others wait on
abbrev pub pieces_handed : Facts → List (ℕ × Piece)
pieces_handed facts = handed_of facts.view facts.received

abbrev pub notes_pieces : Facts → List Note
notes_pieces facts = map note_received (pieces_handed facts)

-- and then which packets are complete, by handle
abbrev pub notes_handed : Facts → List Note
notes_handed facts =
    notes_pieces facts ++ notes_of_events facts.view (map event_completed (completed_from 0 facts.links))

-- the view counts on its links what the host received
abbrev pub view_pieces : Facts → View
view_pieces facts = record facts.view { links = (fold view_noted facts.view (notes_pieces facts)).links }

abbrev pub facts_pieces : Facts → Facts
facts_pieces facts = record facts { view = view_pieces facts; received = left_of facts.view facts.received }

abbrev pub facts_handed : Facts → Facts
facts_handed facts = record (facts_pieces facts) { links = links_reported facts.links }

-- then the links end that are to end
abbrev pub notes_ended_turn : Facts → List Note
notes_ended_turn facts = notes_handed facts ++ notes_leaving (facts_handed facts)

abbrev pub facts_ended_turn : Facts → Facts
facts_ended_turn facts = facts_leaving (facts_handed facts)
