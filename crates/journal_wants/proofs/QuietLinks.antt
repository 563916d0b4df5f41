-- A call that notes only packets to the host leaves what the lines of a side say of its links.
use Rattle.std.proofs.Common.{◌≡◌, ℕ, Bool, true, false, List, [], ◌∷◌, ◌++◌, map, refl, sym, ap, subst, ◌∙◌, append-nil, if◌then◌else◌}
use Rattle.std.specs.Prelude.{filter, flat_map}
use Rattle.std.specs.List.{AllByRecursion}
use Rattle.std.proofs.lemmas.List.Elements.{All-from_recursion}
use Rattle.acl_banks.specs.declared.pieces.Piece.{Piece}
use Rattle.ble_base.specs.declared.notes.Note.{Note}
use Rattle.ble_base.specs.declared.notes.Note.TheVariants.{Up as UpNote}
use Rattle.ble_base.specs.declared.roles.Side.{Side}
use Rattle.hci_evt.specs.declared.event.Event.{Event as HciEvent}
use Rattle.hci_evt.specs.Event.{mask_bit_of, written}
use Rattle.journal_events.specs.journal_sending.controller_model.Data.{event_completed, facts_handed, note_received, notes_handed, pieces_handed}
use Rattle.journal_events.specs.journal_sending.controller_model.Events.{notes_of_events, passes}
use Rattle.journal_events.specs.journal_sending.controller_model.Facts.{Facts}
use Rattle.journal_events.specs.journal_sending.controller_model.Links.{ends_for, notes_ended, notes_leaving}
use Rattle.journal_events.specs.journal_sending.controller_model.Side.{notes_after}
use Rattle.journal_events.specs.journal_sending.controller_model.Step.{TurnEnds}
use Rattle.journal_events.specs.journal_sending.journal_controls.journal_ends.Asked.{Words}
use Rattle.journal_events.specs.journal_sending.journal_data.Delivered.{host_buffers}
use Rattle.journal_events.specs.journal_sending.journal_data.Held.{links_open}
use Rattle.journal_events.specs.journal_sending.journal_data.HostLines.{OpenUnder}
use Rattle.journal_events.specs.journal_sending.journal_data.Lines.{Lines, lines_after, lines_of}
use Rattle.journal_events.specs.journal_sending.journal_data.open_links.declared.ended.LinkEnded.{LinkEnded}
use Rattle.journal_events.specs.journal_sending.journal_data.open_links.Data.{completed_from}
use Rattle.journal_events.specs.journal_sending.journal_data.open_links.Turns.{ending_in}
use Rattle.journal_events.specs.journal_sending.journal_packets.Belonging.{is_side}
use Rattle.journal_events.specs.journal_sending.run_model.History.{Event, Called, Noted}
use Rattle.journal_events.specs.journal_sending.run_model.Journal.{entry_of, journal_of, side_of}
use Rattle.journal_events.specs.journal_sending.run_model.Links.{links_of}
use Rattle.journal_events.specs.journal_sending.run_model.Run.{Given, after_call, facts_at, setup_at}
use Rattle.journal_events.proofs.journal_sending.journal_acks.Exchanging.{call_keeps}
use Rattle.journal_events.proofs.journal_sending.run_model.Parts.{journal_event}
use Rattle.journal_events.specs.EventLines.{event_on}
use Rattle.journal_wants.specs.Station.{linked_under}
use Rattle.journal_wants.proofs.DecidedStation.{linked_same}
use Rattle.journal_wants.proofs.FarLinks.{begun_called}
use Rattle.journal_wants.proofs.LinkHandles.{lines_more}

abbrev pub is_up : Note → Bool
is_up (UpNote packet) = true
is_up note = false

abbrev pub IsUp : Note → Type 0
IsUp note = is_up note ≡ true

both_up : (xs ys : List Note) → AllByRecursion IsUp xs → AllByRecursion IsUp ys → AllByRecursion IsUp (xs ++ ys)
both_up [] ys one other = other
both_up (x ∷ xs) ys one other = (one.0, both_up xs ys one.1 other)

packets_up : (events : List HciEvent) → AllByRecursion IsUp (map (λ event. UpNote (record { items = written event })) events)
packets_up [] = tt
packets_up (event ∷ events) = (refl, packets_up events)

pieces_up : (pieces : List (ℕ × Piece)) → AllByRecursion IsUp (map note_received pieces)
pieces_up [] = tt
pieces_up (piece ∷ pieces) = (refl, pieces_up pieces)

handed_up : (facts : Facts) → AllByRecursion IsUp (notes_handed facts)
handed_up facts =
    both_up (map note_received (pieces_handed facts)) (notes_of_events facts.view (map event_completed (completed_from 0 facts.links))) (pieces_up (pieces_handed facts))
    (packets_up (filter (λ event. passes facts.view (mask_bit_of event)) (map event_completed (completed_from 0 facts.links))))

-- as a turn ends in which no link does
pub end_up : (facts : Facts) → ends_for ending_in (facts_handed facts) ≡ [] → AllByRecursion IsUp (notes_handed facts ++ notes_leaving (facts_handed facts))
end_up facts none =
    both_up (notes_handed facts) (notes_leaving (facts_handed facts)) (handed_up facts)
    (subst (λ (ended : List LinkEnded). AllByRecursion IsUp (flat_map (notes_ended (facts_handed facts).view) ended)) (sym none) tt)

up_links : (side other : Side) (lines : Lines) (link_of : ℕ → ℕ) (last : ℕ) (note : Note) → is_up note ≡ true
    → (lines_after host_buffers side lines (entry_of other link_of last note)).links ≡ lines.links
up_links side other lines link_of last (UpNote packet) up = by (is_side other side) _ refl
  where
    by : (own : Bool) (after : Lines) → after.links ≡ lines.links → (if own then after else lines).links ≡ lines.links
    by true after same = same
    by false after same = refl
up_links side other lines link_of last note up = absurd cc

pub quiet_open : (given : Given) (side : Side) (station : ℕ) (history : List Event) → ends_for ending_in (facts_handed (facts_at given station history)) ≡ []
    → links_open side (journal_of (after_call given station TurnEnds history)) ≡ links_open side (journal_of history)
quiet_open given side station history none =
    call_keeps (List OpenUnder) (λ before. links_open side (journal_of before)) IsUp station
    (λ before note up. ap (links_open side) (journal_event before (Noted station note))
    ∙ ap (λ (lines : Lines). lines.links) (lines_more side (journal_of before) _)
    ∙ up_links side (side_of station) (lines_of host_buffers side (journal_of before)) ((links_of before).link_of station) ((links_of before).last_of station) note up)
    given TurnEnds history (ap (links_open side) (journal_event history (Called station TurnEnds) ∙ append-nil (journal_of history)))
    (All-from_recursion IsUp (notes_after (setup_at given station) (facts_at given station history) TurnEnds) (end_up (facts_at given station history) none))

-- the link under each handle, where the events are the same
pub quiet_linked : (words : Words) (given : Given) (station : ℕ) (history : List Event) → ends_for ending_in (facts_handed (facts_at given station history)) ≡ []
    → ((number : ℕ) → event_on words (side_of station) number (journal_of (after_call given station TurnEnds history)) ≡ event_on words (side_of station) number (journal_of history))
    → (handle : ℕ) → linked_under words (side_of station) (journal_of (after_call given station TurnEnds history)) handle
    ≡ linked_under words (side_of station) (journal_of history) handle
quiet_linked words given station history none events handle =
    linked_same words (side_of station) (journal_of (after_call given station TurnEnds history)) (journal_of history) handle
    (quiet_open given (side_of station) station history none) (begun_called given station TurnEnds history) events
