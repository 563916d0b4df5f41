-- How many packets of data the lines of a side count: what an event, a call and a feed add to that.
use Rattle.std.proofs.Common.{◌≡◌, ℕ, Bool, true, false, List, [], ◌∷◌, ◌++◌, cond, map, refl, ap, sym, ◌∙◌, append-nil, append_assoc}
use Rattle.std.specs.Prelude.{fold}
use Rattle.std.specs.List.{AllByRecursion}
use Rattle.std.proofs.lemmas.List.Concat.{flat_map-append}
use Rattle.ble_base.specs.declared.notes.Note.{Note}
use Rattle.ble_base.specs.declared.notes.Note.TheVariants.{Up, Opened, Shut, Sent, Took}
use Rattle.ble_base.specs.declared.roles.Side.{Side}
use Rattle.host_answers.specs.Answered.{accepted_commands, answer_statuses, commands_sent}
use Rattle.host_answers.specs.Flows.{flow_after, flow_on}
use Rattle.host_answers.proofs.LineAnswers.{IsQuiet, statuses_in}
use Rattle.host_view.specs.View.{first_flow}
use Rattle.journal.specs.declared.entries.Entry.{Entry}
use Rattle.journal.specs.declared.entries.Entry.TheVariants.{Fed}
use Rattle.journal_data.specs.controller_model.Side.{notes_after}
use Rattle.journal_data.specs.controller_model.Step.{Step, HostOctet}
use Rattle.journal_data.specs.journal_packets.Belonging.{is_side}
use Rattle.run_model.specs.History.{Event, TurnBegan, HostFed, Called, Noted, Transmitted, Hearing}
use Rattle.run_model.specs.Journal.{air_entries, entries_of, entry_of, journal_of, side_of}
use Rattle.run_model.specs.Links.{links_of}
use Rattle.run_model.specs.Readers.{fed_in, fed_to_side, packets_in, packets_to_host}
use Rattle.run_model.specs.Run.{Given, after_call, after_feed, after_octets, facts_at, setup_at}
use Rattle.run_model.proofs.Journals.{note_fed}
use Rattle.run_model.proofs.Parts.{journal_event}
use Rattle.journal_data.proofs.journal_acks.TwoStations.{side_same}
use Rattle.journal_data.proofs.EachLine.{IsElsewhere, IsOutside, call_outside}
use Rattle.journal_hosts.specs.HostFlow.{counts_after, counts_by, counts_from, held_on, none_yet}
use Rattle.journal_hosts.proofs.ViewCounts.{IsUncounted, counts_noted, note_uncounted, octet_uncounted}

-- what the lines of a station count so far
abbrev pub counts_at : ℕ → List Event → ℕ → ℕ
counts_at station history = held_on (side_of station) (journal_of history)

-- flow control is on by them
abbrev pub is_on : ℕ → List Event → Bool
is_on station history = (flow_on (side_of station) (journal_of history)).on

-- ---- an event

from_append : (side : Side) (front : List Entry) (counts : ℕ → ℕ) (lines more : List Entry)
    → counts_from side front counts (lines ++ more) ≡ counts_from side (front ++ lines) (counts_from side front counts lines) more
from_append side front counts [] more = ap (λ (all : List Entry). counts_from side all counts more) (sym (append-nil front))
from_append side front counts (line ∷ lines) more =
    let next = counts_after side front counts line in
    from_append side (front ++ line ∷ []) next lines more
    ∙ ap (λ (all : List Entry). counts_from side all (counts_from side (front ++ line ∷ []) next lines) more) (append_assoc front (line ∷ []) lines)

event_counts : (station : ℕ) (history : List Event) (event : Event)
    → counts_at station (history ++ event ∷ [])
    ≡ counts_from (side_of station) (journal_of history) (counts_at station history) (entries_of (links_of history) event)
unfolding held_on
event_counts station history event =
    ap (counts_from (side_of station) [] (λ handle. 0)) (journal_event history event)
    ∙ from_append (side_of station) [] (λ handle. 0) (journal_of history) (entries_of (links_of history) event)

if_own : (own : Bool) (one other : ℕ → ℕ) → own ≡ true → cond own one other ≡ one
if_own true one other is = refl
if_own false one other is = absurd cc

if_other : (own : Bool) (one other : ℕ → ℕ) → own ≡ false → cond own one other ≡ other
if_other true one other is = absurd cc
if_other false one other is = refl

either : (own : Bool) (counts : ℕ → ℕ) → cond own counts counts ≡ counts
either true counts = refl
either false counts = refl

noted_own : (side : Side) (front : List Entry) (counts : ℕ → ℕ) (link_of : ℕ → ℕ) (last : ℕ) (note : Note) → is_side side side ≡ true
    → counts_after side front counts (entry_of side link_of last note) ≡ counts_noted (flow_on side front).on counts note
noted_own side front counts link_of last (Up packet) own = if_own (is_side side side) _ counts own
noted_own side front counts link_of last (Opened handle role mine peer) own = if_own (is_side side side) (none_yet handle counts) counts own
noted_own side front counts link_of last (Shut handle reason) own = either (is_side side side) counts
noted_own side front counts link_of last (Sent handle number llid body) own = either (is_side side side) counts
noted_own side front counts link_of last (Took handle number llid body) own = either (is_side side side) counts
noted_own side front counts link_of last note own = refl

pub note_counts : (station : ℕ) (history : List Event) (note : Note)
    → counts_at station (history ++ Noted station note ∷ []) ≡ counts_noted (is_on station history) (counts_at station history) note
note_counts station history note =
    event_counts station history (Noted station note)
    ∙ noted_own (side_of station) (journal_of history) (counts_at station history) ((links_of history).link_of station) ((links_of history).last_of station) note
    (side_same station)

called_counts : (station other : ℕ) (step : Step) (history : List Event) → counts_at station (history ++ Called other step ∷ []) ≡ counts_at station history
called_counts station other step history = event_counts station history (Called other step)

-- ---- events that are not of the station

noted_other : (side other : Side) (front : List Entry) (counts : ℕ → ℕ) (link_of : ℕ → ℕ) (last : ℕ) (note : Note) → is_side other side ≡ false
    → counts_after side front counts (entry_of other link_of last note) ≡ counts
noted_other side other front counts link_of last (Up packet) differs = if_other (is_side other side) _ counts differs
noted_other side other front counts link_of last (Opened handle role mine peer) differs = if_other (is_side other side) (none_yet handle counts) counts differs
noted_other side other front counts link_of last (Shut handle reason) differs = either (is_side other side) counts
noted_other side other front counts link_of last (Sent handle number llid body) differs = either (is_side other side) counts
noted_other side other front counts link_of last (Took handle number llid body) differs = either (is_side other side) counts
noted_other side other front counts link_of last note differs = refl

no_air : (side : Side) (front : List Entry) (counts : ℕ → ℕ) (sender : Side) (channel : ℕ) (octets : List ℕ) (hearings : List Hearing)
    → counts_from side front counts (air_entries sender channel octets hearings) ≡ counts
no_air side front counts sender channel octets [] = refl
no_air side front counts sender channel octets (hearing ∷ hearings) = refl

outside_event : (station : ℕ) (history : List Event) (event : Event) → IsOutside station event → counts_at station (history ++ event ∷ []) ≡ counts_at station history
outside_event station history (TurnBegan slot radios) outside = event_counts station history (TurnBegan slot radios)
outside_event station history (Transmitted sender channel octets hearings) outside =
    event_counts station history (Transmitted sender channel octets hearings)
    ∙ no_air (side_of station) (journal_of history) (counts_at station history) (side_of sender) channel octets hearings
outside_event station history (HostFed other octets) outside =
    event_counts station history (HostFed other octets)
    ∙ if_other (is_side (side_of other) (side_of station)) (counts_by (side_of station) (journal_of history) (counts_at station history) (Fed (side_of other) octets))
    (counts_at station history) outside
outside_event station history (Called other step) outside = called_counts station other step history
outside_event station history (Noted other note) outside =
    event_counts station history (Noted other note)
    ∙ noted_other (side_of station) (side_of other) (journal_of history) (counts_at station history) ((links_of history).link_of other)
    ((links_of history).last_of other) note outside

pub outside_counts : (station : ℕ) (events history : List Event) → AllByRecursion (IsOutside station) events
    → counts_at station (history ++ events) ≡ counts_at station history
outside_counts station [] history are = ap (counts_at station) (append-nil history)
outside_counts station (event ∷ events) history are =
    ap (counts_at station) (sym (append_assoc history (event ∷ []) events))
    ∙ outside_counts station events (history ++ event ∷ []) are.1 ∙ outside_event station history event are.0

pub other_call : (given : Given) (station other : ℕ) (step : Step) (history : List Event) → IsElsewhere station other
    → counts_at station (after_call given other step history) ≡ counts_at station history
other_call given station other step history apart =
    let notes = notes_after (setup_at given other) (facts_at given other history) step in
    outside_counts station (Called other step ∷ map (Noted other) notes) history (call_outside station other step notes apart)

other_octets : (given : Given) (station other : ℕ) (octets : List ℕ) (history : List Event) → IsElsewhere station other
    → counts_at station (after_octets given other octets history) ≡ counts_at station history
other_octets given station other [] history apart = refl
other_octets given station other (octet ∷ octets) history apart =
    other_octets given station other octets (after_call given other (HostOctet octet) history) apart
    ∙ other_call given station other (HostOctet octet) history apart

pub other_feed : (given : Given) (station other : ℕ) (octets : List ℕ) (history : List Event) → IsElsewhere station other
    → counts_at station (after_feed given other octets history) ≡ counts_at station history
other_feed given station other [] history apart = refl
other_feed given station other (octet ∷ octets) history apart =
    other_octets given station other (octet ∷ octets) (history ++ HostFed other (octet ∷ octets) ∷ []) apart
    ∙ outside_event station history (HostFed other (octet ∷ octets)) apart

-- ---- notes without an answer leave flow control as it is

quiet_flow : (side : Side) (front : List Entry) (line : Entry) → fed_in side line ≡ [] → statuses_in side line ≡ []
    → flow_on side (front ++ line ∷ []) ≡ flow_on side front
quiet_flow side front line unfed none =
    let fed : fed_to_side side (front ++ line ∷ []) ≡ fed_to_side side front =
    flat_map-append (fed_in side) front (line ∷ []) ∙ ap (λ xs. fed_to_side side front ++ (xs ++ [])) unfed ∙ append-nil (fed_to_side side front) in
    let packets : packets_to_host side (front ++ line ∷ []) ≡ packets_to_host side front ++ packets_in side line =
    flat_map-append (packets_in side) front (line ∷ []) ∙ ap (λ xs. packets_to_host side front ++ xs) (append-nil (packets_in side line)) in
    let statuses : answer_statuses (packets_to_host side (front ++ line ∷ [])) ≡ answer_statuses (packets_to_host side front) =
    ap answer_statuses packets ∙ flat_map-append _ (packets_to_host side front) (packets_in side line)
    ∙ ap (λ xs. answer_statuses (packets_to_host side front) ++ xs) none ∙ append-nil (answer_statuses (packets_to_host side front)) in
    λ i. fold flow_after first_flow (accepted_commands (commands_sent (fed i)) (statuses i))

note_flow : (station : ℕ) (history : List Event) (note : Note) → IsQuiet (side_of station) station note
    → flow_on (side_of station) (journal_of (history ++ Noted station note ∷ [])) ≡ flow_on (side_of station) (journal_of history)
note_flow station history note quiet =
    let link_of = (links_of history).link_of station in
    let last = (links_of history).last_of station in
    ap (flow_on (side_of station)) (journal_event history (Noted station note))
    ∙ quiet_flow (side_of station) (journal_of history) (entry_of (side_of station) link_of last note)
    (note_fed (side_of station) (side_of station) link_of last note) (quiet link_of last)

pub notes_flow : (station : ℕ) (notes : List Note) (history : List Event) → AllByRecursion (IsQuiet (side_of station) station) notes
    → flow_on (side_of station) (journal_of (history ++ map (Noted station) notes)) ≡ flow_on (side_of station) (journal_of history)
notes_flow station [] history quiet = ap (λ (all : List Event). flow_on (side_of station) (journal_of all)) (append-nil history)
notes_flow station (note ∷ notes) history quiet =
    ap (λ (all : List Event). flow_on (side_of station) (journal_of all)) (sym (append_assoc history (Noted station note ∷ []) (map (Noted station) notes)))
    ∙ notes_flow station notes (history ++ Noted station note ∷ []) quiet.1 ∙ note_flow station history note quiet.0

pub called_flow : (station : ℕ) (step : Step) (history : List Event)
    → flow_on (side_of station) (journal_of (history ++ Called station step ∷ [])) ≡ flow_on (side_of station) (journal_of history)
called_flow station step history =
    ap (flow_on (side_of station)) (journal_event history (Called station step) ∙ append-nil (journal_of history))

-- ---- the notes of a call of a turn

notes_counts : (station : ℕ) (on : Bool) (notes : List Note) (history : List Event) → is_on station history ≡ on → AllByRecursion (IsQuiet (side_of station) station) notes
    → counts_at station (history ++ map (Noted station) notes) ≡ fold (counts_noted on) (counts_at station history) notes
notes_counts station on [] history is quiet = ap (counts_at station) (append-nil history)
notes_counts station on (note ∷ notes) history is quiet =
    ap (counts_at station) (sym (append_assoc history (Noted station note ∷ []) (map (Noted station) notes)))
    ∙ notes_counts station on notes (history ++ Noted station note ∷ []) (ap (λ flow. flow.on) (note_flow station history note quiet.0) ∙ is) quiet.1
    ∙ ap (λ (counts : ℕ → ℕ). fold (counts_noted on) counts notes)
    (note_counts station history note ∙ ap (λ (b : Bool). counts_noted b (counts_at station history) note) is)

pub call_counts : (station : ℕ) (step : Step) (notes : List Note) (history : List Event) → AllByRecursion (IsQuiet (side_of station) station) notes
    → counts_at station (history ++ Called station step ∷ map (Noted station) notes)
    ≡ fold (counts_noted (is_on station history)) (counts_at station history) notes
call_counts station step notes history quiet =
    ap (counts_at station) (sym (append_assoc history (Called station step ∷ []) (map (Noted station) notes)))
    ∙ notes_counts station (is_on station history) notes (history ++ Called station step ∷ []) (ap (λ flow. flow.on) (called_flow station step history)) quiet
    ∙ ap (λ (counts : ℕ → ℕ). fold (counts_noted (is_on station history)) counts notes) (called_counts station station step history)

-- ---- a feed

uncounted_notes : (station : ℕ) (notes : List Note) (history : List Event) → AllByRecursion IsUncounted notes
    → counts_at station (history ++ map (Noted station) notes) ≡ counts_at station history
uncounted_notes station [] history are = ap (counts_at station) (append-nil history)
uncounted_notes station (note ∷ notes) history are =
    ap (counts_at station) (sym (append_assoc history (Noted station note ∷ []) (map (Noted station) notes)))
    ∙ uncounted_notes station notes (history ++ Noted station note ∷ []) are.1
    ∙ note_counts station history note ∙ note_uncounted (is_on station history) (counts_at station history) note are.0

octets_counts : (given : Given) (station : ℕ) (octets : List ℕ) (history : List Event)
    → counts_at station (after_octets given station octets history) ≡ counts_at station history
octets_counts given station [] history = refl
octets_counts given station (octet ∷ octets) history =
    let notes = notes_after (setup_at given station) (facts_at given station history) (HostOctet octet) in
    octets_counts given station octets (after_call given station (HostOctet octet) history)
    ∙ ap (counts_at station) (sym (append_assoc history (Called station (HostOctet octet) ∷ []) (map (Noted station) notes)))
    ∙ uncounted_notes station notes (history ++ Called station (HostOctet octet) ∷ []) (octet_uncounted (setup_at given station) (facts_at given station history) octet)
    ∙ called_counts station station (HostOctet octet) history

-- what the line of the octets makes of the counts
pub feed_counts : (given : Given) (station octet : ℕ) (octets : List ℕ) (history : List Event)
    → counts_at station (after_feed given station (octet ∷ octets) history)
    ≡ counts_by (side_of station) (journal_of history) (counts_at station history) (Fed (side_of station) (octet ∷ octets))
feed_counts given station octet octets history =
    let event = HostFed station (octet ∷ octets) in
    octets_counts given station (octet ∷ octets) (history ++ event ∷ [])
    ∙ event_counts station history event
    ∙ if_own (is_side (side_of station) (side_of station)) _ (counts_at station history) (side_same station)
