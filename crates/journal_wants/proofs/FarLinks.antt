-- A call of the other station leaves what the lines of a side say of its links, and so do packets to its own host.
use Rattle.std.proofs.Common.{◌≡◌, ℕ, true, false, List, refl, ap, ◌∙◌, append-nil, if◌then◌else◌}
use Rattle.ble_base.specs.declared.notes.Note.{Note}
use Rattle.ble_base.specs.declared.notes.Note.TheVariants.{Opened as OpenedNote, Sent as SentNote, Shut as ShutNote, Took as TookNote, Up as UpNote}
use Rattle.ble_base.specs.declared.roles.Side.{Side}
use Rattle.journal.specs.declared.entries.Entry.TheVariants.{Opened, Sent, Shut, Took, Up}
use Rattle.journal_events.specs.journal_sending.controller_model.Step.{Step}
use Rattle.journal_events.specs.journal_sending.journal_controls.journal_ends.Asked.{Words}
use Rattle.journal_events.specs.journal_sending.journal_data.Delivered.{host_buffers}
use Rattle.journal_events.specs.journal_sending.journal_data.Held.{links_open}
use Rattle.journal_events.specs.journal_sending.journal_data.HostLines.{OpenUnder}
use Rattle.journal_events.specs.journal_sending.journal_data.Lines.{Lines, line_after, lines_after, lines_of}
use Rattle.journal_events.specs.journal_sending.journal_links.Begun.{LinkBegun, links_begun}
use Rattle.journal_events.specs.journal_sending.journal_packets.Belonging.{is_side}
use Rattle.journal_events.specs.journal_sending.run_model.History.{Event, Called, Noted}
use Rattle.journal_events.specs.journal_sending.run_model.Journal.{entry_of, journal_of, side_of}
use Rattle.journal_events.specs.journal_sending.run_model.Links.{links_of}
use Rattle.journal_events.specs.journal_sending.run_model.Run.{Given, after_call}
use Rattle.journal_events.proofs.journal_sending.journal_acks.Exchanging.{any_note, call_keeps}
use Rattle.journal_events.proofs.journal_sending.journal_leaving.DueBegun.{still_links}
use Rattle.journal_events.proofs.journal_sending.journal_leaving.OtherLines.{call_reads}
use Rattle.journal_events.proofs.journal_sending.run_model.Parts.{journal_event}
use Rattle.journal_events.specs.EventLines.{event_on}
use Rattle.journal_wants.specs.Station.{linked_under}
use Rattle.journal_wants.proofs.DecidedStation.{linked_same}
use Rattle.journal_wants.proofs.LinkHandles.{lines_more}

far_lines : (side other : Side) (lines : Lines) (link_of : ℕ → ℕ) (last : ℕ) (note : Note) → is_side other side ≡ false
    → lines_after host_buffers side lines (entry_of other link_of last note) ≡ lines
far_lines side other lines link_of last (UpNote packet) apart = ap (λ own. if own then line_after host_buffers lines (Up other packet.items) else lines) apart
far_lines side other lines link_of last (OpenedNote handle role first peer) apart =
    ap (λ own. if own then line_after host_buffers lines (Opened other last handle role) else lines) apart
far_lines side other lines link_of last (ShutNote handle reason) apart =
    ap (λ own. if own then line_after host_buffers lines (Shut other (link_of handle) reason) else lines) apart
far_lines side other lines link_of last (SentNote handle number llid body) apart =
    ap (λ own. if own then line_after host_buffers lines (Sent other (link_of handle) number llid body.items) else lines) apart
far_lines side other lines link_of last (TookNote handle number llid body) apart =
    ap (λ own. if own then line_after host_buffers lines (Took other (link_of handle) number llid body.items) else lines) apart
far_lines side other lines link_of last note apart = refl

-- the open links
pub far_open : (given : Given) (side : Side) (caller : ℕ) (step : Step) (history : List Event) → is_side (side_of caller) side ≡ false
    → links_open side (journal_of (after_call given caller step history)) ≡ links_open side (journal_of history)
far_open given side caller step history apart =
    call_keeps (List OpenUnder) (λ before. links_open side (journal_of before)) (λ note. true ≡ true) caller
    (λ before note any. ap (links_open side) (journal_event before (Noted caller note))
    ∙ ap (λ (lines : Lines). lines.links) (lines_more side (journal_of before) _
    ∙ far_lines side (side_of caller) (lines_of host_buffers side (journal_of before)) ((links_of before).link_of caller) ((links_of before).last_of caller) note apart))
    given step history (ap (links_open side) (journal_event history (Called caller step) ∙ append-nil (journal_of history))) (any_note _)

pub begun_called : (given : Given) (caller : ℕ) (step : Step) (history : List Event)
    → links_begun (journal_of (after_call given caller step history)) ≡ links_begun (journal_of history)
begun_called given caller step history = call_reads (List LinkBegun) links_begun still_links given caller step history

-- and so the link under each handle, where the events are the same
pub far_linked : (words : Words) (given : Given) (side : Side) (caller : ℕ) (step : Step) (history : List Event) → is_side (side_of caller) side ≡ false
    → ((number : ℕ) → event_on words side number (journal_of (after_call given caller step history)) ≡ event_on words side number (journal_of history))
    → (handle : ℕ) → linked_under words side (journal_of (after_call given caller step history)) handle ≡ linked_under words side (journal_of history) handle
far_linked words given side caller step history apart events handle =
    linked_same words side (journal_of (after_call given caller step history)) (journal_of history) handle (far_open given side caller step history apart)
    (begun_called given caller step history) events
