-- The event that an end holds, as the lines of a journal say it, and what the lines of one end do to it in one turn.
use Rattle.std.specs.Prelude.{ℕ, Bool, true, false, List, [], ◌∷◌, map, Option, Some, None}
use Rattle.std.specs.Option.{option_map}
use Rattle.ble_base.specs.declared.notes.Note.{Note}
use Rattle.ble_base.specs.declared.roles.Side.{Side}
use Rattle.data_pdu.specs.Header.{header_in}
use Rattle.journal.specs.declared.entries.Entry.{Entry}
use Rattle.journal.specs.declared.entries.Entry.TheVariants.{Enter}
use Rattle.journal_sending.specs.journal_leaving.controller_model.Facts.{Facts as StationFacts}
use Rattle.journal_sending.specs.journal_leaving.controller_model.Step.{Step as Call, PacketHeard}
use Rattle.journal_sending.specs.journal_leaving.journal_acks.Exchange.{is_number}
use Rattle.journal_sending.specs.journal_leaving.journal_ends.run_laws.Ends.{link_listened}
use Rattle.journal_sending.specs.journal_leaving.journal_controls.KeyedLines.{keyed_by_all}
use Rattle.journal_sending.specs.journal_leaving.journal_controls.LineSteps.{steps_said}
use Rattle.journal_sending.specs.journal_leaving.journal_controls.Withheld.{Withheld}
use Rattle.journal_sending.specs.journal_leaving.journal_links.LinkLines.{line_of}
use Rattle.journal_sending.specs.journal_leaving.journal_data.open_links.OpenLinks.{OpenLink, facts_in}
use Rattle.journal_sending.specs.journal_leaving.link_model.Facts.{Facts}
use Rattle.journal_sending.specs.journal_leaving.link_model.Packets.{good_pdu}
use Rattle.journal_sending.specs.journal_leaving.link_model.declared.events.Reception.{Reception}
use Rattle.journal_sending.specs.journal_leaving.link_model.keyed_control.Keyed.{Keyed}
use Rattle.journal_sending.specs.journal_leaving.link_model.keyed_control.declared.material.Response.{Response}
use Rattle.journal_events.specs.EventLines.{EventLines, changed_if, event_entering, event_hearing, lengths_differ}

abbrev pub event_lines : Facts → EventLines
event_lines facts = record {
  number = facts.event.number;
  slot = facts.event.slot;
  latency = facts.event.latency;
  heard = facts.event.heard;
  more = facts.event.more;
  long = facts.lengths.long;
  changed = facts.lengths.changed;
  last_heard = option_map (λ (one : Reception). one.event) facts.last_good;
}

-- ---- as a good packet reaches it, before it looks at the PDU in it

abbrev pub event_reached : ℕ → Option (List ℕ) → Facts → EventLines
event_reached slot None facts = event_lines facts
event_reached slot (Some pdu) facts = event_hearing slot (header_in pdu).md (event_lines facts)

-- an end that listens, or does not, where it received these octets
abbrev pub event_taking : Bool → Option (List ℕ) → ℕ → OpenLink → EventLines
event_taking true (Some octets) slot link =
    event_reached slot (good_pdu link.setup (facts_in link) octets) (facts_in link)
event_taking listens received slot link = event_lines (facts_in link)

-- an end that listens, or does not, by the call that comes next, of the link under this handle
abbrev pub event_if : Bool → ℕ → List ℕ → OpenLink → EventLines
event_if true slot octets link = event_reached slot (good_pdu link.setup (facts_in link) octets) (facts_in link)
event_if false slot octets link = event_lines (facts_in link)

abbrev pub event_next : ℕ → StationFacts → Call → OpenLink → EventLines
event_next handle facts (PacketHeard octets) link =
    event_if (is_number (link_listened facts.turn.doing) handle) facts.turn.slot octets link
event_next handle facts call link = event_lines (facts_in link)

-- ---- its lines, in this turn, where these requests are withheld from its host, and where this would be drawn

-- a line of an end that is like this before it and like that after it
abbrev pub event_saying : ℕ → Entry → (before after : Keyed) → EventLines → EventLines
event_saying slot (Enter side link event channel) before after lines =
    event_entering slot event (Some before) (Some after) lines
event_saying slot line before after lines = changed_if (lengths_differ (Some before) (Some after)) lines

abbrev pub event_said : Withheld → Response → ℕ → List Entry → Keyed → EventLines → EventLines
event_said withheld response slot [] k lines = lines
event_said withheld response slot (line ∷ more) k lines =
    let after = keyed_by_all (steps_said withheld response slot k line) k in
    event_said withheld response slot more after (event_saying slot line k after lines)

-- the same by the lines of these notes
abbrev pub event_noted : Side → ℕ → Withheld → Response → ℕ → List Note → Keyed → EventLines → EventLines
event_noted side number withheld response slot notes k lines =
    event_said withheld response slot (map (line_of side number) notes) k lines
