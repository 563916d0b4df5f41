-- Links that are opened and shut, and what the host receives of that (Core 5.2, volume 4 part E, sections 7.7.5,
-- 7.7.65.1, 7.7.65.10 and 7.7.65.20).
use Rattle.std.specs.Prelude.{ℕ, ◌==◌, Bool, true, false, List, [], ◌∷◌, map, flat_map, fold, replicate, Option, None, if◌then◌else◌}
use Rattle.ble_base.specs.Bits.{has_bit}
use Rattle.ble_base.specs.declared.addresses.Address.{Address}
use Rattle.ble_base.specs.declared.notes.Note.{Note}
use Rattle.ble_base.specs.declared.notes.Note.TheVariants.{Opened, Shut}
use Rattle.ble_base.specs.declared.roles.Role.{Role}
use Rattle.ble_base.specs.declared.roles.Role.TheVariants.{Central, Peripheral}
use Rattle.hci_evt.specs.declared.event.Event.{Event}
use Rattle.hci_evt.specs.declared.event.Event.TheVariants.{DisconnectionComplete, ConnectionComplete, EnhancedConnection, ChannelSelection}
use Rattle.host_view.specs.View.{View}
use Rattle.host_view.specs.Noted.{view_noted}
use Rattle.link_commands.specs.open_links.link_model.declared.setup.LinkSetup.{LinkSetup}
use Rattle.slot_plan.specs.declared.Activity.{Activity}
use Rattle.slot_plan.specs.declared.Activity.TheVariants.{Link, Advertise, Scan, Initiate}
use Rattle.link_commands.specs.open_links.declared.ended.LinkEnded.{LinkEnded}
use Rattle.link_commands.specs.open_links.Data.{received_past}
use Rattle.link_commands.specs.open_links.Ended.{received_without}
use Rattle.link_commands.specs.open_links.OpenLinks.{OpenLink, handles_from, link_at, with_link}
use Rattle.link_commands.specs.open_links.Turns.{due_in, ending_in, ends_by, links_without}
use Rattle.controller_model.specs.Events.{notes_of_events}
use Rattle.controller_model.specs.Facts.{Facts, Radio, free_radio}

-- ---- a link is opened

abbrev pub address_kind : Address → ℕ
address_kind address = if address.random then 1 else 0

-- Role: 00 for the central
abbrev pub role_code : Role → ℕ
role_code Central = 0
role_code Peripheral = 1

abbrev pub no_address : List ℕ
no_address = replicate 6 0

-- LE Connection Complete, or LE Enhanced Connection Complete where the mask has the bit of that, which is 9
abbrev pub connection_complete : Bool → LinkSetup → Event
connection_complete false link =
    ConnectionComplete 0 link.handle (role_code link.role) (address_kind link.peer) link.peer.octets link.fields.interval
    link.fields.latency link.fields.timeout 0
connection_complete true link =
    EnhancedConnection 0 link.handle (role_code link.role) (address_kind link.peer) link.peer.octets no_address
    no_address link.fields.interval link.fields.latency link.fields.timeout 0

-- the same where a connection was not made: all other fields are 0 (our choice)
abbrev pub connection_failed : Bool → ℕ → Event
connection_failed false status = ConnectionComplete status 0 0 0 no_address 0 0 0 0
connection_failed true status = EnhancedConnection status 0 0 0 no_address no_address no_address 0 0 0 0

abbrev pub wants_enhanced : View → Bool
wants_enhanced view = has_bit view.le_mask 9

-- LE Channel Selection Algorithm follows at once
abbrev pub events_opened : View → LinkSetup → List Event
events_opened view link =
    connection_complete (wants_enhanced view) link
    ∷ ChannelSelection link.handle (if link.two then 1 else 0) ∷ []

abbrev pub note_opened : LinkSetup → Note
note_opened link = Opened link.handle link.role link.own link.peer

abbrev pub notes_opened : View → LinkSetup → List Note
notes_opened view link = note_opened link ∷ notes_of_events view (events_opened view link)

-- a central stops initiating as its link is opened, and a peripheral stops advertising, so that the radio is free again
-- (volume 6 part B, sections 4.4.2.3 and 4.4.4)
abbrev pub stopped : Role → Facts → Facts
stopped Central facts = record facts { initiator = None }
stopped Peripheral facts =
    record facts { advertising = record facts.advertising { on = None }; radio = free_radio }

-- no link has the handle yet; what was taken on one that has it would not be received any more
abbrev pub facts_opened : LinkSetup → Facts → Facts
facts_opened link facts =
    stopped link.role (record facts {
      view = view_noted facts.view (note_opened link);
      links = with_link (record { link = link; opened = facts.turn.slot }) facts.links;
      received = received_past (link_at link.handle facts.links) link.handle facts.received;
    })

-- ---- a link is shut

abbrev pub note_shut : ℕ → ℕ → Note
note_shut handle reason = Shut handle (record { 0 = reason })

-- a link that ends by itself is reported by Disconnection Complete
abbrev pub notes_ended : View → LinkEnded → List Note
notes_ended view ended =
    note_shut ended.handle ended.reason.0
    ∷ notes_of_events view (DisconnectionComplete 0 ended.handle ended.reason.0 ∷ [])

abbrev pub is_link : ℕ → Activity → Bool
is_link handle (Link other) = other == handle
is_link handle Advertise = false
is_link handle Scan = false
is_link handle Initiate = false

-- the radio is free again where the link held it (our choice)
abbrev pub radio_without : ℕ → Radio → Radio
radio_without handle radio = if is_link handle radio.holder then free_radio else radio

abbrev pub facts_shut : Facts → LinkEnded → Facts
facts_shut facts ended = record facts {
  view = view_noted facts.view (note_shut ended.handle ended.reason.0);
  radio = radio_without ended.handle facts.radio;
  received = received_without ended.handle facts.received;
}

-- the links that end for a reason that some links have, by ascending handle
abbrev pub ends_for : (OpenLink → Option ℕ) → Facts → List LinkEnded
ends_for reason facts = ends_by reason 0 facts.links

abbrev pub facts_without : (OpenLink → Option ℕ) → Facts → Facts
facts_without reason facts =
    fold facts_shut (record facts { links = links_without reason facts.links }) (ends_for reason facts)

abbrev pub notes_without : (OpenLink → Option ℕ) → Facts → List Note
notes_without reason facts = flat_map (notes_ended facts.view) (ends_for reason facts)

-- those that end at the start of a turn in this slot (volume 6 part B, sections 4.5.2, 5.1.6 and 5.2)
abbrev pub facts_ending : ℕ → Facts → Facts
facts_ending slot facts = facts_without (due_in slot) facts

abbrev pub notes_ending : ℕ → Facts → List Note
notes_ending slot facts = notes_without (due_in slot) facts

-- and those that end at the end of a turn (section 5.1.6)
abbrev pub facts_leaving : Facts → Facts
facts_leaving facts = facts_without ending_in facts

abbrev pub notes_leaving : Facts → List Note
notes_leaving facts = notes_without ending_in facts

-- a Reset shuts all links, by ascending handle, with code 00 and without an event (section 7.3.2; our choice of the code)
abbrev pub notes_reset : Facts → List Note
notes_reset facts = map (λ handle. note_shut handle 0) (handles_from 0 facts.links)
