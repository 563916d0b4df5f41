-- A connection event of a link: as it is entered, and as packets are sent and heard in it (Core 5.2, volume 6 part B,
-- sections 4.5.1, 4.5.6 and 4.5.8).
use Rattle.std.specs.Prelude.{ℕ, ◌==◌, ◌&&◌, ◌||◌, Bool, false, List, [], ◌∷◌, Option, Some, None}
use Rattle.ble_base.specs.declared.notes.Note.{Note}
use Rattle.ble_base.specs.declared.notes.Note.TheVariants.{Applied}
use Rattle.chan_select.specs.Channel.{channel_of}
use Rattle.instants.specs.Track.{TrackFacts, event_of}
use Rattle.link_model.specs.declared.events.ConnectionEvent.{ConnectionEvent}
use Rattle.link_model.specs.Setup.{Setup, algorithm_of}

-- before the first event nothing is listened for; the number, the slot and the channel mean nothing then
abbrev pub no_event : ConnectionEvent
no_event = record { number = 0; slot = 0; channel = 0; latency = 0; heard = false; more = false }

-- ---- it is entered, with its anchor in this slot and the parameters that are in force from it on (section 4.5.1)

abbrev pub event_entered : Setup → ℕ → TrackFacts → ConnectionEvent
event_entered setup slot parameters =
    record {
      number = event_of parameters;
      slot = slot;
      channel = channel_of (algorithm_of setup.link) (event_of parameters) parameters.params.map;
      latency = parameters.params.latency;
      heard = false;
      more = false;
    }

-- the indication that is in force from this event on
abbrev pub applied_notes : ℕ → ℕ → Option ℕ → List Note
applied_notes handle event None = []
applied_notes handle event (Some number) = Applied handle number (record { 0 = event }) ∷ []

-- ---- packets in it: one in the slot of the anchor is in the first exchange (section 4.5.6)

-- a packet is sent
abbrev pub event_sent : ℕ → Bool → ConnectionEvent → ConnectionEvent
event_sent slot more event = record event { more = event.more || ((slot == event.slot) && more) }

-- a good packet is received
abbrev pub event_heard : ℕ → Bool → ConnectionEvent → ConnectionEvent
event_heard slot more event =
    record event {
      heard = event.heard || (slot == event.slot);
      more = event.more || ((slot == event.slot) && more);
    }
