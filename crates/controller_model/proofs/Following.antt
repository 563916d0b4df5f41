-- The view of a host as it follows what links note: where none is opened or shut, its links alone change.
use Rattle.std.proofs.Common.{◌≡◌, ℕ, ◌+◌, Bool, true, false, Option, Some, None, List, [], ◌∷◌, ◌++◌, map, if◌then◌else◌, refl, ap, sym, subst, ◌∙◌}
use Rattle.std.specs.Prelude.{fold, filter, ⊤}
use Rattle.std.specs.List.{AllByRecursion}
use Rattle.ble_base.specs.declared.notes.Note.{Note}
use Rattle.ble_base.specs.declared.notes.Note.TheVariants.{Up, Opened, Shut, Took}
use Rattle.hci_evt.specs.declared.event.Event.{Event}
use Rattle.hci_evt.specs.declared.event.MaskBit.{MaskBit}
use Rattle.hci_evt.specs.declared.event.MaskBit.TheVariants.{Always, Main, Meta}
use Rattle.hci_evt.specs.Event.{mask_bit_of, written}
use Rattle.host_view.specs.Links.{was_encrypted}
use Rattle.host_view.specs.declared.links.Link.{Link as ViewLink}
use Rattle.host_view.specs.View.{View}
use Rattle.host_view.specs.Changes.{on_link}
use Rattle.host_view.specs.Noted.{acl_handle, after_packet, encrypted_if, event_handle, is_acl_data, is_le_event, is_start_rsp, view_noted}
use Rattle.link_commands.specs.open_links.link_model.Packets.{good_pdu}
use Rattle.link_commands.specs.open_links.OpenLinks.{Links, OpenLink, facts_in, link_at}
use Rattle.link_commands.specs.open_links.Turns.{enters_in, notes_entering, notes_if}
use Rattle.controller_model.specs.Entering.{all_entered, events_entering, notes_all_entering}
use Rattle.controller_model.specs.Events.{notes_of_events, passes}
use Rattle.controller_model.specs.Facts.{Setup, Facts}
use Rattle.controller_model.specs.Heard.{events_received, has_room, link_heard, link_received, notes_received, notes_taken}
use Rattle.controller_model.specs.Outcome.{Outcome, facts_passed}
use Rattle.controller_model.specs.Radio.{facts_entering, notes_entered}
use Rattle.controller_model.proofs.EndNotes.{both_each, entered_each, received_each}

-- ---- notes that open no link and shut none

-- a packet to the host, or a note of a link that stays open
abbrev pub IsOfOpenLink : Note → Type 0
IsOfOpenLink (Opened handle role own peer) = ⊥
IsOfOpenLink (Shut handle reason) = ⊥
IsOfOpenLink other = ⊤

abbrev pub AreOfOpenLinks : List Note → Type 0
AreOfOpenLinks notes = AllByRecursion IsOfOpenLink notes

packets_are : (events : List Event) → AreOfOpenLinks (map (λ event. Up (record { items = written event })) events)
packets_are [] = tt
packets_are (event ∷ events) = (tt, packets_are events)

pub events_are : (view : View) (events : List Event) → AreOfOpenLinks (notes_of_events view events)
events_are view events = packets_are (filter (λ event. passes view (mask_bit_of event)) events)

-- links that enter their events
entering_are : (slot : ℕ) (place : Option OpenLink) → AreOfOpenLinks (notes_entering slot place)
entering_are slot None = tt
entering_are slot (Some link) = by (enters_in slot link)
  where
    by : (enters : Bool) → AreOfOpenLinks (notes_if enters slot link)
    by true =
        entered_each IsOfOpenLink link.setup slot (facts_in link)
        (record { applied = λ number. tt; enter = tt; done = λ kind. tt; began = λ kind. tt })
    by false = tt

pub all_entering_are : (view : View) (slot handle : ℕ) (links : Links) → AreOfOpenLinks (notes_all_entering view slot handle links)
all_entering_are view slot handle [] = tt
all_entering_are view slot handle (place ∷ links) =
    let events = events_entering slot handle place in
    both_each IsOfOpenLink (notes_entering slot place ++ notes_of_events view events) (notes_all_entering view slot (handle + 1) links)
    (both_each IsOfOpenLink (notes_entering slot place) (notes_of_events view events) (entering_are slot place) (events_are view events))
    (all_entering_are view slot (handle + 1) links)

-- a link that receives a packet
taken_are : (slot : ℕ) (room : Bool) (place : Option OpenLink) (octets : List ℕ) → AreOfOpenLinks (notes_taken slot room place octets)
taken_are slot room None octets = tt
taken_are slot room (Some link) octets =
    received_each IsOfOpenLink link.setup slot room (good_pdu link.setup (facts_in link) octets) (facts_in link)
    (record { took = λ number llid body. tt; refused = λ kind code. tt; done = λ kind. tt })

pub received_are : (handle : ℕ) (room : Bool) (octets : List ℕ) (facts : Facts) → AreOfOpenLinks (notes_received handle room octets facts)
received_are handle room octets facts =
    let place = link_at handle facts.links in
    let events = events_received (was_encrypted handle facts.view.links) handle facts.turn.slot room place octets in
    both_each IsOfOpenLink (notes_taken facts.turn.slot room place octets) (notes_of_events facts.view events)
    (taken_are facts.turn.slot room place octets) (events_are facts.view events)

-- ---- the view after them

-- a view whose links alone changed
abbrev pub ChangesLinks : View → View → Type 0
ChangesLinks before after = after ≡ record before { links = after.links }

packet_changes : (octets : List ℕ) (view : View) → ChangesLinks view (after_packet octets view)
packet_changes octets view = by (is_acl_data octets) (is_le_event 0x05 octets) (is_le_event 0x06 octets) view.flow.on _ _ _
  where
    by : (acl key request flow : Bool) (one two three : ViewLink → ViewLink)
        → ChangesLinks view (if acl then (if flow then on_link (acl_handle octets) one view else view)
        else if key then on_link (event_handle octets) two view else if request then on_link (event_handle octets) three view else view)
    by true key request true one two three = refl
    by true key request false one two three = refl
    by false true request flow one two three = refl
    by false false true flow one two three = refl
    by false false false flow one two three = refl

started_changes : (view : View) (handle : ℕ) (starts : Bool) → ChangesLinks view (encrypted_if starts handle view)
started_changes view handle true = refl
started_changes view handle false = refl

pub note_changes : (view : View) (note : Note) → IsOfOpenLink note → ChangesLinks view (view_noted view note)
unfolding view_noted
note_changes view (Up packet) of = packet_changes packet.items view
note_changes view (Opened handle role own peer) of = absurd of
note_changes view (Shut handle reason) of = absurd of
note_changes view (Took handle number llid body) of = started_changes view handle (is_start_rsp llid body.items)
note_changes view other of = refl

-- the masks are those of before
abbrev told_if : View → Bool → Event → List Event → List Note
told_if view passed event events =
    map (λ event. Up (record { items = written event }))
    (if passed then event ∷ filter (λ event. passes view (mask_bit_of event)) events
    else filter (λ event. passes view (mask_bit_of event)) events)

passes_same : (view : View) (links : List (Option ViewLink)) (bit : MaskBit) → passes (record view { links = links }) bit ≡ passes view bit
passes_same view links Always = refl
passes_same view links (Main bit) = refl
passes_same view links (Meta bit) = refl

pub told_same : (view : View) (links : List (Option ViewLink)) (events : List Event)
    → notes_of_events (record view { links = links }) events ≡ notes_of_events view events
told_same view links [] = refl
told_same view links (event ∷ events) =
    by (passes (record view { links = links }) (mask_bit_of event)) (passes view (mask_bit_of event)) (passes_same view links (mask_bit_of event))
    (told_same view links events)
  where
    by : (one other : Bool) → one ≡ other → notes_of_events (record view { links = links }) events ≡ notes_of_events view events
        → told_if (record view { links = links }) one event events ≡ told_if view other event events
    by true true same rest = ap (λ notes. Up (record { items = written event }) ∷ notes) rest
    by false false same rest = rest
    by true false same rest = absurd cc
    by false true same rest = absurd cc

abbrev pub view_followed : View → List Note → View
view_followed view notes = record view { links = (fold view_noted view notes).links }

pub followed_is : (view : View) (notes : List Note) → AreOfOpenLinks notes → fold view_noted view notes ≡ view_followed view notes
followed_is view [] of = refl
followed_is view (note ∷ notes) of =
    followed_is (view_noted view note) notes of.1
    ∙ ap (λ (next : View). record next { links = (fold view_noted (view_noted view note) notes).links }) (note_changes view note of.0)

-- ---- what a controller holds after them

-- as the links enter their events
abbrev pub facts_at_events : ℕ → Facts → Facts
facts_at_events slot facts = record facts {
  view = view_followed facts.view (notes_entered slot facts);
  links = all_entered slot facts.links;
}

pub entering_is : (slot : ℕ) (facts : Facts) → facts_entering slot facts ≡ facts_at_events slot facts
entering_is slot facts =
    ap (λ (view : View). record facts { view = view; links = all_entered slot facts.links })
    (followed_is facts.view (notes_entered slot facts) (all_entering_are facts.view slot 0 facts.links))

-- as the link under a handle receives a packet
abbrev pub facts_receiving : ℕ → Bool → List ℕ → Facts → Facts
facts_receiving handle room octets facts = record (link_received handle room octets facts) {
  view = view_followed facts.view (notes_received handle room octets facts);
}

pub receiving_view_is : (handle : ℕ) (room : Bool) (octets : List ℕ) (facts : Facts)
    → link_received handle room octets facts ≡ facts_receiving handle room octets facts
receiving_view_is handle room octets facts =
    ap (λ (view : View). record (link_received handle room octets facts) { view = view })
    (followed_is facts.view (notes_received handle room octets facts) (received_are handle room octets facts))

-- and all that comes of it
abbrev pub outcome_received : Setup → ℕ → List ℕ → Facts → Outcome
outcome_received setup handle octets facts =
    record (link_heard setup handle octets facts) { facts = facts_receiving handle (has_room setup facts) octets facts }

pub hearing_is : (setup : Setup) (handle : ℕ) (octets : List ℕ) (facts : Facts)
    → link_heard setup handle octets facts ≡ outcome_received setup handle octets facts
hearing_is setup handle octets facts =
    ap (λ (next : Facts). record (link_heard setup handle octets facts) { facts = next })
    (receiving_view_is handle (has_room setup facts) octets facts)

pub receiving_passes : (fact : Facts → Type 0) (setup : Setup) (handle : ℕ) (octets : List ℕ) (facts : Facts)
    → fact (facts_passed (outcome_received setup handle octets facts)) → fact (facts_passed (link_heard setup handle octets facts))
receiving_passes fact setup handle octets facts holds =
    subst (λ (outcome : Outcome). fact (facts_passed outcome)) (sym (hearing_is setup handle octets facts)) holds
