-- Both ends of a small link in its events, as worked examples run them. Their packets are not framed.
use Rattle.std.specs.Prelude.{ℕ, ◌*◌, ◌+◌, Bool, true, List, [], ◌∷◌, ◌++◌, Some, if◌then◌else◌}
use Rattle.ble_base.specs.declared.notes.Note.{Note}
use Rattle.data_pdu.specs.Header.{octets_of}
use Rattle.link_model.specs.Rows.{central_with, peripheral_with}
use Rattle.link_model.specs.Facts.{Facts, first_facts}
use Rattle.link_model.specs.End.{facts_after, notes_after}
use Rattle.link_model.specs.Packets.{header_sent, payload_sent}
use Rattle.link_model.specs.Receiving.{facts_received, received_notes}
use Rattle.control_octets.specs.procedure_values.declared.asks.Ask.TheVariants.{Update, Version}
use Rattle.link_model.specs.Step.{Disconnected, EventEntered, PacketSent, ProcedureAsked, Step}
use Rattle.link_pairs.specs.Turns.{central_begun, prepared}

-- both ends, and what each has noted
pub record Both : Type 0 where
  pub central : Facts
  pub peripheral : Facts
  pub central_notes : List Note
  pub peripheral_notes : List Note

-- a CONNECT_IND in slot 0 with an interval of 24 slots and a timeout of 720 ms
abbrev pub first_both : Both
first_both =
    record {
      central = first_facts (central_with 0);
      peripheral = first_facts (peripheral_with 0);
      central_notes = [];
      peripheral_notes = [];
    }

-- a host does something on the link
abbrev pub central_host : Step → Both → Both
central_host step both = record both { central = facts_after (central_with 0) both.central step }

abbrev pub peripheral_host : Step → Both → Both
peripheral_host step both = record both { peripheral = facts_after (peripheral_with 0) both.peripheral step }

-- the PDU of a packet, header and payload
abbrev pub pdu_octets : Facts → List ℕ
pdu_octets facts = octets_of (header_sent facts) ++ payload_sent facts

-- ---- an exchange in the slot of an anchor

-- each enters and fixes its PDU, and the central sends
abbrev pub begun : ℕ → Both → Both
begun slot both =
    record {
      central = central_begun (central_with 0) slot true both.central;
      peripheral = prepared (peripheral_with 0) slot true both.peripheral;
      central_notes =
          both.central_notes ++ notes_after (central_with 0) both.central (EventEntered slot)
          ++ notes_after (central_with 0) (prepared (central_with 0) slot true both.central) (PacketSent slot);
      peripheral_notes = both.peripheral_notes ++ notes_after (peripheral_with 0) both.peripheral (EventEntered slot);
    }

-- these octets reach the peripheral, and it answers
abbrev pub peripheral_hears : ℕ → List ℕ → Facts → Facts
peripheral_hears slot pdu facts = facts_received (peripheral_with 0).link.role slot true (Some pdu) facts

abbrev pub heard_down : ℕ → List ℕ → Both → Both
heard_down slot pdu both =
    record both {
      peripheral =
          facts_after (peripheral_with 0) (peripheral_hears slot pdu both.peripheral) (PacketSent slot);
      peripheral_notes =
          both.peripheral_notes ++ received_notes (peripheral_with 0) slot true (Some pdu) both.peripheral
          ++ notes_after (peripheral_with 0) (peripheral_hears slot pdu both.peripheral) (PacketSent slot);
    }

abbrev pub heard_up : ℕ → List ℕ → Both → Both
heard_up slot pdu both =
    record both {
      central = facts_received (central_with 0).link.role slot true (Some pdu) both.central;
      central_notes = both.central_notes ++ received_notes (central_with 0) slot true (Some pdu) both.central;
    }

abbrev pub answered_if : Bool → ℕ → List ℕ → Both → Both
answered_if arrives slot pdu both = if arrives then heard_up slot pdu both else both

-- the packet of the central arrives, or is lost
abbrev pub exchanged_if : Bool → ℕ → List ℕ → Both → Both
exchanged_if arrives slot pdu both =
    if arrives
    then answered_if true slot (pdu_octets (peripheral_hears slot pdu both.peripheral)) (heard_down slot pdu both)
    else both

abbrev pub event_after : ℕ → Bool → Both → Both
event_after slot arrives both =
    exchanged_if arrives slot (pdu_octets (prepared (central_with 0) slot true both.central)) (begun slot both)

-- the anchor of event e is in slot 2 + 24e; in each of these events, from this one on, the packet of the central arrives
-- or is lost
abbrev pub events_from : ℕ → List Bool → Both → Both
events_from event [] both = both
events_from event (arrives ∷ others) both =
    events_from (event + 1) others (event_after (2 + 24 * event) arrives both)

-- ---- links after event 0

abbrev pub after_event_0 : Both
after_event_0 = events_from 0 (true ∷ []) first_both

-- the host of the central asks for the version of the peer, and two events follow
abbrev pub version_asked : Both
version_asked = events_from 1 (true ∷ true ∷ []) (central_host (ProcedureAsked Version) after_event_0)

-- it ends the link in slot 10, and the packet of the next event arrives or is lost
abbrev pub disconnected : Bool → Both
disconnected arrives =
    events_from 1 (arrives ∷ []) (central_host (Disconnected (record { 0 = 0x13 }) 10) after_event_0)

-- it asks for this interval, and in the events that follow the packets of the central arrive or are lost
abbrev pub update_asked : ℕ → List Bool → Both
update_asked interval arrive =
    events_from 1 arrive (central_host (ProcedureAsked (Update interval 0 100)) after_event_0)
