-- What a feed changes of the lines of its station: its host submits packets, and those of no octet are credited.
use Rattle.std.proofs.Common.{◌≡◌, ℕ, ◌+◌, ◌<◌, ◌≤◌, ◌==◌, ◌||◌, ◌⊎◌, inl, inr, nat_lt, Bool, true, false, cond, Option, Some, None, List, [], ◌∷◌, ◌++◌, length, refl, sym, ap, subst, ◌∙◌, append-nil, append_assoc, arith, if◌then◌else◌}
use Rattle.std.specs.Prelude.{◌&&◌, filter, map, ⊤}
use Rattle.std.specs.List.{AllByRecursion, find, flat_map, sum_by}
use Rattle.std.specs.Option.{option_map}
use Rattle.std.proofs.lemmas.Bool.{eq-eqb, eqb-true}
use Rattle.std.proofs.lemmas.List.{append_cancel_left, length-append}
use Rattle.arrayvec.specs.ArrayVec.{ArrayVec}
use Rattle.ble_base.specs.declared.roles.Side.{Side}
use Rattle.ble_base.specs.declared.notes.Note.{Note}
use Rattle.ble_base.specs.declared.notes.Note.TheVariants.{Up, Opened, Shut, Sent, Took}
use Rattle.h4_frames.specs.declared.packet.Fed.{Fed}
use Rattle.h4_frames.specs.declared.packet.Fed.TheVariants.{More, Packet, LostSync}
use Rattle.h4_frames.specs.declared.packet.HostPacket.TheVariants.{Command, Acl}
use Rattle.hci_cmd.specs.Command.{command_of}
use Rattle.hci_evt.specs.Event.{written}
use Rattle.hci_evt.specs.declared.event.Event.TheVariants.{BufferOverflow, CompletedPackets, HardwareError}
use Rattle.host_view.specs.Noted.{acl_handle, is_acl_data, two_octets}
use Rattle.wire_fields.specs.Field.{little_endian}
use Rattle.journal_acks.specs.open_links.declared.offers.Offer.{Offer}
use Rattle.journal_acks.specs.open_links.declared.offers.Offer.TheVariants.{NoLink, Empty, Overflow, Kept}
use Rattle.journal_acks.specs.open_links.Data.{offer_by}
use Rattle.journal_acks.specs.open_links.OpenLinks.{OpenLink, link_at}
use Rattle.journal_acks.specs.controller_model.Data.{facts_offered, notes_offered, offer_of}
use Rattle.journal_acks.specs.controller_model.Facts.{Setup, Facts}
use Rattle.journal_acks.specs.controller_model.Notes.{is_event}
use Rattle.journal_acks.specs.controller_model.Side.{facts_after, facts_fed, facts_of, notes_after, notes_fed, result_of}
use Rattle.journal_acks.specs.controller_model.Since.{count_fed, empties_of, note_completed}
use Rattle.journal_acks.specs.controller_model.Step.{Step, HostOctet}
use Rattle.journal_acks.proofs.controller_model.Handles.{own_handles}
use Rattle.journal_acks.proofs.controller_model.OtherNotes.{AreOther, IsOther, command_other, event_handle_is, events_other}
use Rattle.journal_acks.specs.run_model.History.{Event, TurnBegan, HostFed, Called, Noted, Transmitted, past_of}
use Rattle.journal_acks.specs.run_model.Journal.{entry_of, side_of}
use Rattle.journal_acks.specs.run_model.Links.{Links, links_of}
use Rattle.journal_acks.proofs.run_model.Calls.{with_notes}
use Rattle.journal_acks.specs.run_model.Run.{Given, after_call, after_feed, after_octets, facts_at, setup_at}
use Rattle.journal_acks.proofs.run_model.LinksKnown.{links_event}
use Rattle.journal_acks.proofs.run_laws.Hearings.{own_facts}
use Rattle.journal_acks.proofs.run_laws.TurnPlaces.{event_past}
use Rattle.journal_data.specs.HostLines.{OpenUnder, Submitted, kept_of, link_under, packets_framed}
use Rattle.journal_data.specs.Lines.{Credited, Lines, Received, credit_up, credited_in, credited_on, data_received, empties_on, line_after, pdus_on, submitted_on}
use Rattle.journal_data.proofs.Booked.{counts_more, counts_on}
use Rattle.journal_data.proofs.EachLine.{numbers_at}
use Rattle.journal_data.proofs.EachLine.{call_leaves, call_lines, fed_lines, lines_at, note_lines}
use Rattle.journal_data.proofs.HostPackets.{HasAll, has_none, octet_taken, on_link, on_link-append, passing-append}
use Rattle.journal_data.proofs.Middle.{IsFed}
use Rattle.journal_data.proofs.Submitting.{AheadAt, AreInStep, IsSubmitted, call_ahead, come_own, fed_ahead, held_then, kept_left, octet_left, same_numbers}
use Rattle.journal_data.proofs.Credits.{count_octets}
use Rattle.journal_data.proofs.HeldLinks.{all_numbered}
use Rattle.journal_data.proofs.Openness.{is_open}
use Rattle.journal_data.proofs.NotedLines.{below_from}
use Rattle.journal_data.proofs.StationLines.{IsStationBooked, octet_own}
use Rattle.journal_acks.proofs.Counting.{HaveOwnNumbers}

-- ---- the notes of a feed

-- such a note says nothing of PDUs, of data that the host receives, or of a link that is opened
abbrev pub IsOfFeed : Note → Type 0
IsOfFeed (Up packet) = is_acl_data packet.items ≡ false
IsOfFeed (Opened handle role own peer) = ⊥
IsOfFeed (Sent handle number llid body) = ⊥
IsOfFeed (Took handle number llid body) = ⊥
IsOfFeed note = ⊤

-- most of them say nothing of complete packets either
abbrev CompletesNone : Note → Type 0
CompletesNone (Up packet) = is_event 0x13 packet.items ≡ false
CompletesNone note = ⊤

abbrev IsQuiet : Note → Type 0
IsQuiet note = IsOfFeed note × CompletesNone note

first_false : (one other : Bool) → other ≡ true → (one && other) ≡ false → one ≡ false
first_false false other is none = refl
first_false true other is none = absurd (let h : true ≡ false = sym is ∙ none in absurd cc)

not_under : (handle : ℕ) (X : Type 0) → (handle == handle) ≡ false → X
not_under handle X none = absurd (let h : true ≡ false = sym (eq-eqb handle handle refl) ∙ none in absurd cc)

-- a note that is of no handle
quiet : (note : Note) → ((handle : ℕ) → IsOther 0 handle note) → IsQuiet note
quiet (Up packet) other =
    let octets = packet.items in
    let few : 0 ≤ 4096 = omega arith in (
      first_false (is_acl_data octets) (acl_handle octets == acl_handle octets) (eq-eqb (acl_handle octets) (acl_handle octets) refl)
          ((other (acl_handle octets)).handed_none few),
      first_false (is_event 0x13 octets) (two_octets 4 octets == two_octets 4 octets) (eq-eqb (two_octets 4 octets) (two_octets 4 octets) refl)
          ((other (two_octets 4 octets)).completed_none few),
    )
quiet (Opened handle role own peer) other = not_under handle _ (other handle).opens_none
quiet (Sent handle number llid body) other = not_under handle _ (other handle).sent_none
quiet (Took handle number llid body) other = not_under handle _ (other handle).took_none
quiet note other = (tt, tt)

all_quiet : (notes : List Note) → ((handle : ℕ) → AreOther 0 handle notes) → AllByRecursion IsQuiet notes
all_quiet [] are = tt
all_quiet (note ∷ notes) are = (quiet note (λ handle. (are handle).0), all_quiet notes (λ handle. (are handle).1))

all_of_feed : (notes : List Note) → AllByRecursion IsQuiet notes → AllByRecursion IsOfFeed notes
all_of_feed [] are = tt
all_of_feed (note ∷ notes) are = (are.0.0, all_of_feed notes are.1)

-- a packet of no octet for an open link is complete at once
record IsEmptyPacket (setup : Setup) (facts : Facts) (fed : Fed) : Type 0 where
  handle : ℕ
  link : OpenLink
  found : link_at handle facts.links ≡ Some link
  notes_are : notes_fed setup facts fed ≡ note_completed handle 1 ∷ []
  counts : count_fed handle fed 0 ≡ 1
  links_are : (facts_fed setup facts fed).links ≡ facts.links

record IsOffered (place : Option OpenLink) (count : ℕ) : Type 0 where
  link : OpenLink
  found : place ≡ Some link
  none : (count == 0) ≡ true

empty_offer : (place : Option OpenLink) (count : ℕ) (full : Bool) → offer_by place count full ≡ Empty → IsOffered place count
empty_offer None count full is = absurd cc
empty_offer (Some link) count full is = by (count == 0) (nat_lt 251 count || full) refl is
  where
    by : (none over : Bool) → (count == 0) ≡ none → (if none then Empty else (if over then Overflow else Kept)) ≡ Empty → IsOffered (Some link) count
    by true over same empty = record { link = link; found = refl; none = same }
    by false true same empty = absurd cc
    by false false same empty = absurd cc

empty_packet : (setup : Setup) (facts : Facts) (handle count : ℕ) (start : Bool) (body : ArrayVec ℕ)
    → offer_of setup facts handle count ≡ Empty → IsEmptyPacket setup facts (Packet (Acl handle start count body))
empty_packet setup facts handle count start body is =
    let offered = empty_offer (link_at handle facts.links) count _ is in
    record {
      handle = handle;
      link = offered.link;
      found = offered.found;
      notes_are = ap (λ (offer : Offer). notes_offered facts.view offer handle) is;
      counts = ap (λ b. if b && (count == 0) then 0 + 1 else 0) (eq-eqb handle handle refl) ∙ ap (λ b. if b then 0 + 1 else 0) offered.none;
      links_are = ap (λ (offer : Offer). (facts_offered offer handle start body.items facts).links) is;
    }

-- what an octet of the host brings
abbrev OctetBrings : Setup → Facts → Fed → Type 0
OctetBrings setup facts fed = AllByRecursion IsQuiet (notes_fed setup facts fed) ⊎ IsEmptyPacket setup facts fed

offer_brings : (setup : Setup) (facts : Facts) (handle count : ℕ) (start : Bool) (body : ArrayVec ℕ)
    → (offer : Offer) → offer_of setup facts handle count ≡ offer → OctetBrings setup facts (Packet (Acl handle start count body))
offer_brings setup facts handle count start body NoLink is =
    inl (subst (λ offer. AllByRecursion IsQuiet (notes_offered facts.view offer handle)) (sym is) tt)
offer_brings setup facts handle count start body Kept is =
    inl (subst (λ offer. AllByRecursion IsQuiet (notes_offered facts.view offer handle)) (sym is) tt)
offer_brings setup facts handle count start body Overflow is =
    inl (subst (λ offer. AllByRecursion IsQuiet (notes_offered facts.view offer handle)) (sym is)
    (all_quiet (notes_offered facts.view Overflow handle) (λ other. events_other 0 other facts.view (BufferOverflow 1 ∷ []) (tt, tt))))
offer_brings setup facts handle count start body Empty is = inr (empty_packet setup facts handle count start body is)

fed_brings : (setup : Setup) (facts : Facts) (fed : Fed) → OctetBrings setup facts fed
fed_brings setup facts (Packet (Command opcode body)) =
    inl (all_quiet (notes_fed setup facts (Packet (Command opcode body)))
    (λ other. command_other 0 other setup facts opcode (command_of opcode body.items)))
fed_brings setup facts (Packet (Acl handle start count body)) =
    offer_brings setup facts handle count start body (offer_of setup facts handle count) refl
fed_brings setup facts LostSync =
    inl (all_quiet (notes_fed setup facts LostSync) (λ other. events_other 0 other facts.view (HardwareError 0x01 ∷ []) (tt, tt)))
fed_brings setup facts More = inl tt

brings_of_feed : (setup : Setup) (facts : Facts) (fed : Fed) → OctetBrings setup facts fed → AllByRecursion IsOfFeed (notes_fed setup facts fed)
unfolding little_endian
brings_of_feed setup facts fed (inl all) = all_of_feed (notes_fed setup facts fed) all
brings_of_feed setup facts fed (inr empty) = subst (AllByRecursion IsOfFeed) (sym empty.notes_are) (refl, tt)

-- ---- what such notes change of the lines

-- each link has the number of the link under its handle
abbrev pub AreOf : (ℕ → ℕ) → List OpenUnder → Type 0
AreOf number links = AllByRecursion (λ (one : OpenUnder). one.link ≡ number one.handle) links

-- packets may be credited, and a link may be shut
pub record Goes (before after : Lines) : Type 0 where
  pub sent : after.sent ≡ before.sent
  pub taken : after.taken ≡ before.taken
  pub received : after.received ≡ before.received
  pub submitted : after.submitted ≡ before.submitted
  pub credited : (link : ℕ) → credited_on link before ≤ credited_on link after
  pub links : (number : ℕ → ℕ) → AreOf number before.links → AreOf number after.links

goes_same : (before after : Lines) → after ≡ before → Goes before after
goes_same before after same = record {
  sent = ap (λ (lines : Lines). lines.sent) same;
  taken = ap (λ (lines : Lines). lines.taken) same;
  received = ap (λ (lines : Lines). lines.received) same;
  submitted = ap (λ (lines : Lines). lines.submitted) same;
  credited = λ link. let equal = ap (credited_on link) same in omega (arith, equal);
  links = λ number are. subst (λ (lines : Lines). AreOf number lines.links) (sym same) are;
}

goes_then : (before mid after : Lines) → Goes before mid → Goes mid after → Goes before after
goes_then before mid after first second = record {
  sent = second.sent ∙ first.sent;
  taken = second.taken ∙ first.taken;
  received = second.received ∙ first.received;
  submitted = second.submitted ∙ first.submitted;
  credited = λ link. let one = first.credited link in let two = second.credited link in omega (arith, one, two);
  links = λ number are. second.links number (first.links number are);
}

goes_up : (lines : Lines) (side : Side) (packet : ArrayVec ℕ) (link_of : ℕ → ℕ) (last : ℕ) → is_acl_data packet.items ≡ false
    → Goes lines (line_after 8 lines (entry_of side link_of last (Up packet)))
goes_up lines side packet link_of last none = record {
  sent = refl;
  taken = refl;
  received = ap (λ b. lines.received ++ cond b (data_received (link_under (acl_handle packet.items) lines.links) packet.items) []) none
      ∙ append-nil lines.received;
  submitted = refl;
  credited = λ link. let parts = counts_more link lines.credited (credited_in lines.links packet.items) in omega (arith, parts);
  links = λ number are. are;
}

left_of : (number : ℕ → ℕ) (test : OpenUnder → Bool) (links : List OpenUnder) → AreOf number links → AreOf number (filter test links)
left_of number test [] are = tt
left_of number test (one ∷ links) are = by (test one) (left_of number test links are.1)
  where
    by : (stays : Bool) → AreOf number (filter test links) → AreOf number (cond stays (one ∷ filter test links) (filter test links))
    by true rest = (are.0, rest)
    by false rest = rest

goes_note : (lines : Lines) (side : Side) (link_of : ℕ → ℕ) (last : ℕ) (note : Note) → IsOfFeed note
    → Goes lines (line_after 8 lines (entry_of side link_of last note))
goes_note lines side link_of last (Up packet) is = goes_up lines side packet link_of last is
goes_note lines side link_of last (Shut handle reason) is = record {
  sent = refl;
  taken = refl;
  received = refl;
  submitted = refl;
  credited = λ link. omega arith;
  links = λ number are. left_of number _ lines.links are;
}
goes_note lines side link_of last (Opened handle role own peer) is = absurd is
goes_note lines side link_of last (Sent handle number llid body) is = absurd is
goes_note lines side link_of last (Took handle number llid body) is = absurd is
goes_note lines side link_of last note is = goes_same lines lines refl

-- ---- the events of a feed, after its first

abbrev pub IsInFeedOf : ℕ → Event → Type 0
IsInFeedOf station (Called other step) = ⊤
IsInFeedOf station (Noted other note) = (other ≡ station) × IsOfFeed note
IsInFeedOf station event = ⊥

goes_event : (station : ℕ) (history : List Event) (event : Event) → IsInFeedOf station event
    → Goes (lines_at station history) (lines_at station (history ++ event ∷ []))
goes_event station history (Called other step) is = goes_same (lines_at station history) _ (call_lines station history other step)
goes_event station history (Noted other note) is =
    subst (Goes (lines_at station history))
    (sym (ap (λ one. lines_at station (history ++ Noted one note ∷ [])) is.0 ∙ note_lines station history note))
    (goes_note (lines_at station history) (side_of station) ((links_of history).link_of station) ((links_of history).last_of station) note is.1)
goes_event station history (TurnBegan slot radios) is = absurd is
goes_event station history (HostFed other octets) is = absurd is
goes_event station history (Transmitted sender channel octets hearings) is = absurd is

goes_events : (station : ℕ) (events history : List Event) → AllByRecursion (IsInFeedOf station) events
    → Goes (lines_at station history) (lines_at station (history ++ events))
goes_events station [] history are = goes_same (lines_at station history) _ (ap (lines_at station) (append-nil history))
goes_events station (event ∷ events) history are =
    goes_then (lines_at station history) (lines_at station (history ++ event ∷ [])) (lines_at station (history ++ event ∷ events))
    (goes_event station history event are.0)
    (subst (λ all. Goes (lines_at station (history ++ event ∷ [])) (lines_at station all)) (append_assoc history (event ∷ []) events)
    (goes_events station events (history ++ event ∷ []) are.1))

-- events that are added
record Adds (station : ℕ) (history after : List Event) : Type 0 where
  more : List Event
  is : after ≡ history ++ more
  are : AllByRecursion (IsInFeedOf station) more

adds_none : (station : ℕ) (history : List Event) → Adds station history history
adds_none station history = record { more = []; is = sym (append-nil history); are = tt }

both_are : (station : ℕ) (xs ys : List Event) → AllByRecursion (IsInFeedOf station) xs → AllByRecursion (IsInFeedOf station) ys
    → AllByRecursion (IsInFeedOf station) (xs ++ ys)
both_are station [] ys are also = also
both_are station (x ∷ xs) ys are also = (are.0, both_are station xs ys are.1 also)

adds_then : (station : ℕ) (history mid after : List Event) → Adds station history mid → Adds station mid after → Adds station history after
adds_then station history mid after first second = record {
  more = first.more ++ second.more;
  is = second.is ∙ ap (λ (events : List Event). events ++ second.more) first.is ∙ append_assoc history first.more second.more;
  are = both_are station first.more second.more first.are second.are;
}

noted_are : (station : ℕ) (notes : List Note) → AllByRecursion IsOfFeed notes → AllByRecursion (IsInFeedOf station) (map (Noted station) notes)
noted_are station [] are = tt
noted_are station (note ∷ notes) are = ((refl, are.0), noted_are station notes are.1)

call_brings : (given : Given) (station octet : ℕ) (history : List Event)
    → let facts = facts_at given station history in OctetBrings (setup_at given station) facts (result_of facts.octets octet)
call_brings given station octet history =
    let facts = facts_at given station history in
    fed_brings (setup_at given station) facts (result_of facts.octets octet)

call_adds : (given : Given) (station octet : ℕ) (history : List Event)
    → Adds station history (after_call given station (HostOctet octet) history)
call_adds given station octet history =
    let setup = setup_at given station in
    let facts = facts_at given station history in
    let notes = notes_after setup facts (HostOctet octet) in
    record {
      more = Called station (HostOctet octet) ∷ map (Noted station) notes;
      is = refl;
      are = (
        tt,
        noted_are station notes
            (brings_of_feed setup facts (result_of facts.octets octet) (call_brings given station octet history)),
      );
    }

octets_add : (given : Given) (station : ℕ) (octets : List ℕ) (history : List Event)
    → Adds station history (after_octets given station octets history)
octets_add given station [] history = adds_none station history
octets_add given station (octet ∷ octets) history =
    let next = after_call given station (HostOctet octet) history in
    adds_then station history next (after_octets given station octets next) (call_adds given station octet history)
    (octets_add given station octets next)

adds_go : (station : ℕ) (history after : List Event) → Adds station history after → Goes (lines_at station history) (lines_at station after)
adds_go station history after adds =
    subst (λ all. Goes (lines_at station history) (lines_at station all)) (sym adds.is) (goes_events station adds.more history adds.are)

-- ---- how many packets an octet of the host credits

-- none, where its notes say nothing of them
quiet_note : (lines : Lines) (side : Side) (link_of : ℕ → ℕ) (last : ℕ) (note : Note) → IsQuiet note
    → (line_after 8 lines (entry_of side link_of last note)).credited ≡ lines.credited
quiet_note lines side link_of last (Up packet) is =
    ap (λ b. lines.credited ++ cond b (credit_up (link_under (two_octets 4 packet.items) lines.links) (two_octets 6 packet.items)) []) is.1
    ∙ append-nil lines.credited
quiet_note lines side link_of last note is = refl

-- those of a call, by what it notes
noted_credits : (station : ℕ) (step : Step) (notes : List Note) (history : List Event)
    → (lines_at station (with_notes station step notes history)).credited
    ≡ (lines_at station ((history ++ Called station step ∷ []) ++ map (Noted station) notes)).credited
noted_credits station step notes history =
    ap (λ (all : List Event). (lines_at station all).credited) (sym (append_assoc history (Called station step ∷ []) (map (Noted station) notes)))

quiet_call : (station : ℕ) (step : Step) (notes : List Note) (history : List Event) → AllByRecursion IsQuiet notes
    → (lines_at station (with_notes station step notes history)).credited ≡ (lines_at station history).credited
quiet_call station step notes history are = call_leaves IsQuiet (λ lines. lines.credited) quiet_note station step notes history are

one_credited : ℕ → List OpenUnder → List Credited
one_credited handle links = credited_in links (written (CompletedPackets handle 1))

one_call : (station : ℕ) (step : Step) (notes : List Note) (history : List Event) (handle : ℕ) → notes ≡ note_completed handle 1 ∷ []
    → (lines_at station (with_notes station step notes history)).credited
    ≡ (lines_at station history).credited ++ one_credited handle (lines_at station history).links
unfolding one_credited
one_call station step notes history handle are =
    let called = history ++ Called station step ∷ [] in
    noted_credits station step notes history
    ∙ ap (λ (all : List Note). (lines_at station (called ++ map (Noted station) all)).credited) are
    ∙ ap (λ (lines : Lines). lines.credited) (note_lines station called (note_completed handle 1))
    ∙ ap (λ (lines : Lines). lines.credited ++ credited_in lines.links (written (CompletedPackets handle 1))) (call_lines station history station step)

under_of : (number : ℕ → ℕ) (handle : ℕ) (links : List OpenUnder) (link : ℕ) → AreOf number links → link_under handle links ≡ Some link → link ≡ number handle
under_of number handle [] link are is = absurd cc
under_of number handle (one ∷ links) link are is = by (one.handle == handle) refl is (under_of number handle links link are.1)
  where
    by : (own : Bool) → (one.handle == handle) ≡ own
        → option_map (λ (x : OpenUnder). x.link) (if own then Some one else find (λ (x : OpenUnder). x.handle == handle) links) ≡ Some link
        → (link_under handle links ≡ Some link → link ≡ number handle) → link ≡ number handle
    by true same found rest = let is_one : one.link ≡ link = cc in sym is_one ∙ are.0 ∙ ap number (eqb-true one.handle handle same)
    by false same found rest = rest found

count_one : (link number : ℕ) (under : Option ℕ) → ((one : ℕ) → under ≡ Some one → one ≡ number) → (own : Bool) → (number == link) ≡ own
    → counts_on link (credit_up under 1) ≤ cond own 1 0
count_one link number None of own is = omega arith
count_one link number (Some one) of own is =
    let counted : counts_on link (credit_up (Some one) 1) ≡ cond own 1 0 =
    ap (λ n. counts_on link (credit_up (Some n) 1)) (of one refl)
    ∙ ap (λ b. sum_by (λ (c : Credited). c.count) (cond b (record { link = number; count = 1 } ∷ []) [])) is ∙ counts own in
    omega (arith, counted)
  where
    counts : (own : Bool) → sum_by (λ (c : Credited). c.count) (cond own (record { link = number; count = 1 } ∷ []) []) ≡ cond own 1 0
    counts true = refl
    counts false = refl

credited_one : (handle : ℕ) (links : List OpenUnder) → handle < 65536 → one_credited handle links ≡ credit_up (link_under handle links) 1
unfolding one_credited little_endian
credited_one handle links few =
    (λ i. credit_up (link_under (event_handle_is handle 1 few i) links) (count_octets handle 1 (omega arith) i))

one_counted : (link handle : ℕ) (number : ℕ → ℕ) (links : List OpenUnder) → handle < 65536 → AreOf number links → (own : Bool) → (number handle == link) ≡ own
    → counts_on link (one_credited handle links) ≤ cond own 1 0
one_counted link handle number links few are own is =
    subst (λ all. counts_on link all ≤ cond own 1 0) (sym (credited_one handle links few))
    (count_one link (number handle) (link_under handle links) (λ one under. under_of number handle links one are under) own is)

-- ---- no more packets are credited than have no octet

-- this is the number of these packets of a link that have none
abbrev empties_in : ℕ → List Submitted → ℕ
empties_in link submitted = length (filter has_none (on_link link submitted))

empties_append : (link : ℕ) (xs ys : List Submitted) → empties_in link (xs ++ ys) ≡ empties_in link xs + empties_in link ys
empties_append link xs ys =
    ap length (passing-append has_none link xs ys) ∙ length-append (filter has_none (on_link link xs)) (filter has_none (on_link link ys))

-- what is kept of the octets that are left will be credited later
record AreCredited (number : ℕ → ℕ) (first lines : Lines) (facts : Facts) (held : List OpenUnder) (left : List ℕ) : Type 0 where
  links : AreOf number lines.links
  credits : (link : ℕ) → credited_on link lines + empties_in link first.submitted + empties_in link (kept_left held facts left)
      ≤ credited_on link first + empties_in link lines.submitted

abbrev CreditedAt : Given → ℕ → Lines → List OpenUnder → List ℕ → List Event → Type 0
CreditedAt given station first held left history =
    AreCredited (numbers_at station history) first (lines_at station history) (facts_at given station history) held left

-- what an octet brings, and what is kept of it
record IsPaid (before after : Lines) (kept : List Submitted) : Type 0 where
  goes : Goes before after
  pays : (link : ℕ) → credited_on link after ≤ credited_on link before + empties_in link kept

quiet_pays : (before after : Lines) (kept : List Submitted) → Goes before after → after.credited ≡ before.credited → IsPaid before after kept
quiet_pays before after kept goes same = record {
  goes = goes;
  pays = λ link. let equal = ap (counts_on link) same in omega (arith, equal);
}

-- the packet of no octet is kept
kept_one_more : (number : ℕ) (so_far kept : List Submitted) (count empties : ℕ) (link after : OpenLink) → count ≡ 1
    → HasAll number so_far empties link → HasAll number (so_far ++ kept) (count + empties) after → empties_in number kept ≡ 1
kept_one_more number so_far kept count empties link after one has then_has =
    let old = has.empties_are in
    let new = then_has.empties_are in
    let parts = empties_append number so_far kept in
    omega (arith, old, new, parts, one)

one_pays : (number : ℕ → ℕ) (handle : ℕ) (before after : Lines) (kept : List Submitted) → handle < 65536 → Goes before after → AreOf number before.links
    → after.credited ≡ before.credited ++ one_credited handle before.links → empties_in (number handle) kept ≡ 1 → IsPaid before after kept
one_pays number handle before after kept few goes are more one = record { goes = goes; pays = λ link. pay link (number handle == link) refl }
  where
    pay : (link : ℕ) (own : Bool) → (number handle == link) ≡ own → credited_on link after ≤ credited_on link before + empties_in link kept
    pay link true is =
        let same = ap (λ n. empties_in n kept) (eqb-true (number handle) link is) in
        let parts = ap (counts_on link) more ∙ counts_more link before.credited (one_credited handle before.links) in
        let least = one_counted link handle number before.links few are true is in
        omega (arith, parts, least, same, one)
    pay link false is =
        let parts = ap (counts_on link) more ∙ counts_more link before.credited (one_credited handle before.links) in
        let least = one_counted link handle number before.links few are false is in
        omega (arith, parts, least)

call_paid : (given : Given) (station octet : ℕ) (held : List OpenUnder) (left : List ℕ) (history : List Event) → (setup_at given station).links ≤ 4096
    → (eight : (setup_at given station).host_buffers ≡ 8) (own : HaveOwnNumbers given station history) (ahead : AheadAt given station held (octet ∷ left) history)
    → AreOf (numbers_at station history) (lines_at station history).links
    → IsPaid (lines_at station history) (lines_at station (after_call given station (HostOctet octet) history))
    (octet_taken (numbers_at station history) (setup_at given station) (past_of station history) held octet eight own ahead.under).kept
call_paid given station octet held left history few eight own ahead are = by (call_brings given station octet history)
  where
    by : OctetBrings (setup_at given station) (facts_at given station history) (result_of (facts_at given station history).octets octet)
        → IsPaid (lines_at station history) (lines_at station (after_call given station (HostOctet octet) history))
        (octet_taken (numbers_at station history) (setup_at given station) (past_of station history) held octet eight own ahead.under).kept
    by (inl none) =
        let notes = notes_after (setup_at given station) (facts_at given station history) (HostOctet octet) in
        let after = after_call given station (HostOctet octet) history in
        quiet_pays (lines_at station history) (lines_at station after) _ (adds_go station history after (call_adds given station octet history))
        (quiet_call station (HostOctet octet) notes history none)
    by (inr empty) =
        let setup = setup_at given station in
        let facts = facts_at given station history in
        let number = numbers_at station history in
        let handle = empty.handle in
        let notes = notes_after setup facts (HostOctet octet) in
        let after = after_call given station (HostOctet octet) history in
        let takes = octet_taken number setup (past_of station history) held octet eight own ahead.under in
        let empties = λ (under : ℕ). empties_of setup under (past_of station history) in
        let below = below_from 0 handle facts.links empty.link empty.found in
        let many = (own_handles setup (past_of station history)).many in
        one_pays number handle (lines_at station history) (lines_at station after) takes.kept (omega (arith, below, many, few))
        (adds_go station history after (call_adds given station octet history)) are
        (one_call station (HostOctet octet) notes history handle empty.notes_are)
        (kept_one_more (number handle) ahead.so_far takes.kept (count_fed handle (result_of facts.octets octet) 0) (empties handle) empty.link empty.link empty.counts
        (ahead.has handle empty.link empty.found)
        (takes.has ahead.so_far empties ahead.has handle empty.link (ap (link_at handle) empty.links_are ∙ empty.found)))

paid_credits : (number now : ℕ → ℕ) (first before after : Lines) (kept : List Submitted) (facts then_facts : Facts) (held then_held : List OpenUnder) (left more : List ℕ)
    → now ≡ number → kept_left held facts more ≡ kept ++ kept_left then_held then_facts left → IsPaid before after kept
    → AreCredited number first before facts held more → AreCredited now first after then_facts then_held left
paid_credits number now first before after kept facts then_facts held then_held left more same parts paid credited =
    subst (λ n. AreCredited n first after then_facts then_held left) (sym same)
    (record {
      links = paid.goes.links number credited.links;
      credits = λ link.
          let had = credited.credits link in
          let pays = paid.pays link in
          let both = ap (empties_in link) parts ∙ empties_append link kept (kept_left then_held then_facts left) in
          let submitted = ap (empties_in link) paid.goes.submitted in
          omega (arith, had, pays, both, submitted);
    })

call_credited : (given : Given) (station octet : ℕ) (first : Lines) (held : List OpenUnder) (left : List ℕ) (history : List Event) → (setup_at given station).links ≤ 4096
    → (setup_at given station).host_buffers ≡ 8 → HaveOwnNumbers given station history → AheadAt given station held (octet ∷ left) history
    → CreditedAt given station first held (octet ∷ left) history
    → CreditedAt given station first (held_then given station octet history held) left (after_call given station (HostOctet octet) history)
call_credited given station octet first held left history few eight own ahead credited =
    let setup = setup_at given station in
    let facts = facts_at given station history in
    let number = numbers_at station history in
    let after = after_call given station (HostOctet octet) history in
    subst (λ now. AreCredited (numbers_at station after) first (lines_at station after) now (held_then given station octet history held) left)
    (sym (own_facts given station (HostOctet octet) history))
    (paid_credits number (numbers_at station after) first (lines_at station history) (lines_at station after)
    (octet_taken number setup (past_of station history) held octet eight own ahead.under).kept facts (facts_after setup facts (HostOctet octet))
    held (held_then given station octet history held) left (octet ∷ left)
    (same_numbers given station octet history) (octet_left number setup (past_of station history) held octet left eight own ahead.under)
    (call_paid given station octet held left history few eight own ahead credited.links) credited)

abbrev AllCredited : Lines → Lines → Type 0
AllCredited first lines = (link : ℕ) → credited_on link lines + empties_on link first ≤ credited_on link first + empties_on link lines

octets_credited : (given : Given) (station : ℕ) (first : Lines) (held : List OpenUnder) (left : List ℕ) (history : List Event) → (setup_at given station).links ≤ 4096
    → (setup_at given station).host_buffers ≡ 8 → HaveOwnNumbers given station history → AheadAt given station held left history
    → CreditedAt given station first held left history → AllCredited first (lines_at station (after_octets given station left history))
octets_credited given station first held [] history few eight own ahead credited = λ link. let counted = credited.credits link in omega (arith, counted)
octets_credited given station first held (octet ∷ left) history few eight own ahead credited =
    octets_credited given station first (held_then given station octet history held) left (after_call given station (HostOctet octet) history) few eight
    (octet_own given station octet history own) (call_ahead given station octet held left history eight own ahead)
    (call_credited given station octet first held left history few eight own ahead credited)

-- ---- a feed as a whole

-- as the octets come, the lines have what is kept of them
record HasCome (facts : Facts) (octets : List ℕ) (before after : Lines) : Type 0 where
  sent : after.sent ≡ before.sent
  taken : after.taken ≡ before.taken
  received : after.received ≡ before.received
  credited : after.credited ≡ before.credited
  submitted : after.submitted ≡ before.submitted ++ kept_left before.links facts octets
  links : after.links ≡ before.links

has_come : (given : Given) (station : ℕ) (octets : List ℕ) (history : List Event) → AreInStep given station history
    → HasCome (facts_at given station history) octets (lines_at station history)
    (lines_at station (history ++ HostFed station octets ∷ []))
has_come given station octets history step =
    let lines = lines_at station history in
    subst (HasCome (facts_at given station history) octets lines) (sym (fed_lines station history octets))
    (record {
      sent = refl;
      taken = refl;
      received = refl;
      credited = refl;
      submitted = λ i. lines.submitted ++ kept_of 8 lines.links (step.taken i) (packets_framed (step.fed i) octets);
      links = refl;
    })

come_credited : (given : Given) (station : ℕ) (octets : List ℕ) (history : List Event) → AreInStep given station history → IsStationBooked given station history
    → CreditedAt given station (lines_at station history) (lines_at station history).links octets (history ++ HostFed station octets ∷ [])
come_credited given station octets history step booked =
    let lines = lines_at station history in
    let number = numbers_at station history in
    let facts = facts_at given station history in
    let next = history ++ HostFed station octets ∷ [] in
    let come = has_come given station octets history step in
    let same : numbers_at station next ≡ number = ap (λ (links : Links). links.link_of station) (links_event history (HostFed station octets)) in
    let still : facts_at given station next ≡ facts = ap (facts_of (setup_at given station)) (event_past station history (HostFed station octets) refl) in
    subst (λ now. AreCredited (numbers_at station next) lines (lines_at station next) now lines.links octets) (sym still)
    (subst (λ n. AreCredited n lines (lines_at station next) facts lines.links octets) (sym same)
    (record {
      links = subst (AreOf number) (sym come.links) (all_numbered (setup_at given station).links lines.links number (is_open facts.links) booked.links);
      credits = λ link.
          let equal = ap (counts_on link) come.credited in
          let parts = ap (empties_in link) come.submitted ∙ empties_append link lines.submitted (kept_left lines.links facts octets) in
          omega (arith, equal, parts);
    }))

-- with notes of the feed after them
come_fed : (facts : Facts) (octets : List ℕ) (first come after : Lines) → HasCome facts octets first come → Goes come after
    → (link : ℕ) → credited_on link after + empties_on link first ≤ credited_on link first + empties_on link after → IsFed link first after
come_fed facts octets first come after has goes link few = record {
  sent = ap (pdus_on link) (goes.sent ∙ has.sent);
  taken = ap (pdus_on link) (goes.taken ∙ has.taken);
  received = ap (λ received. flat_map (λ (one : Received). one.octets) (filter (λ (one : Received). one.link == link) received)) (goes.received ∙ has.received);
  credited = few;
  submitted = record {
    more = on_link link (kept_left first.links facts octets);
    is = ap (on_link link) (goes.submitted ∙ has.submitted) ∙ on_link-append link first.submitted (kept_left first.links facts octets);
  };
}

nothing_fed : (link : ℕ) (lines : Lines) → IsFed link lines lines
nothing_fed link lines = record {
  sent = refl;
  taken = refl;
  received = refl;
  credited = omega arith;
  submitted = record { more = []; is = sym (append-nil (submitted_on link lines)) };
}

-- a station that is fed something
module _ (given : Given) (station : ℕ) (octets : List ℕ) (history : List Event) (few : (setup_at given station).links ≤ 4096)
    (eight : (setup_at given station).host_buffers ≡ 8) (step : AreInStep given station history) (booked : IsStationBooked given station history)
    (submitted : IsSubmitted given station history) where
  abbrev come_at : List Event
  come_at = history ++ HostFed station octets ∷ []

  abbrev all_at : List Event
  all_at = after_octets given station octets come_at

  all_adds : Adds station come_at all_at
  all_adds = octets_add given station octets come_at

  all_credited : AllCredited (lines_at station history) (lines_at station all_at)
  all_credited =
      octets_credited given station (lines_at station history) (lines_at station history).links octets come_at few eight (come_own given station octets history step.own)
      (fed_ahead given station octets history step submitted) (come_credited given station octets history step booked)

  all_fed : (link : ℕ) → IsFed link (lines_at station history) (lines_at station all_at)
  all_fed link =
      come_fed (facts_at given station history) octets (lines_at station history) (lines_at station come_at)
      (lines_at station all_at) (has_come given station octets history step) (adds_go station come_at all_at all_adds) link (all_credited link)

pub feed_is_fed : (given : Given) (station : ℕ) (octets : List ℕ) (history : List Event) → (setup_at given station).links ≤ 4096
    → (setup_at given station).host_buffers ≡ 8 → AreInStep given station history → IsStationBooked given station history → IsSubmitted given station history
    → (link : ℕ) → IsFed link (lines_at station history) (lines_at station (after_feed given station octets history))
feed_is_fed given station [] history few eight step booked submitted link = nothing_fed link (lines_at station history)
feed_is_fed given station (octet ∷ octets) history few eight step booked submitted link =
    all_fed given station (octet ∷ octets) history few eight step booked submitted link

-- ---- in the middle of a feed

-- its packets are submitted as it comes, and are credited after that
pub record IsInFeed (link : ℕ) (before mid after : Lines) : Type 0 where
  pub fed : IsFed link before mid
  pub submitted : submitted_on link mid ≡ submitted_on link after
  pub credited : credited_on link mid ≤ credited_on link after

front_in : (link : ℕ) (facts : Facts) (octets : List ℕ) (first come mid after : Lines) → HasCome facts octets first come
    → Goes come mid → Goes mid after → IsFed link first after → IsInFeed link first mid after
front_in link facts octets first come mid after has goes later whole =
    let credited = later.credited link in
    let counted = whole.credited in
    let empties : empties_on link after ≡ empties_on link mid = ap (empties_in link) later.submitted in
    record {
      fed = come_fed facts octets first come mid has goes link (omega (arith, credited, counted, empties));
      submitted = sym (ap (on_link link) later.submitted);
      credited = credited;
    }

split_are : (station : ℕ) (xs ys : List Event) → AllByRecursion (IsInFeedOf station) (xs ++ ys)
    → AllByRecursion (IsInFeedOf station) xs × AllByRecursion (IsInFeedOf station) ys
split_are station [] ys are = (tt, are)
split_are station (x ∷ xs) ys are = let rest = split_are station xs ys are.1 in ((are.0, rest.0), rest.1)

longer : (history events : List Event) (event : Event) (X : Type 0) → history ≡ history ++ event ∷ events → X
longer history events event X is =
    absurd (let same = ap length is ∙ length-append history (event ∷ events) in omega (arith, same))

-- for each front of the events that a feed adds
pub feed_front : (given : Given) (station : ℕ) (octets : List ℕ) (history before rest : List Event) → (setup_at given station).links ≤ 4096
    → (setup_at given station).host_buffers ≡ 8 → AreInStep given station history → IsStationBooked given station history → IsSubmitted given station history
    → after_feed given station octets history ≡ history ++ HostFed station octets ∷ (before ++ rest)
    → (link : ℕ) → IsInFeed link (lines_at station history) (lines_at station (history ++ HostFed station octets ∷ before))
    (lines_at station (after_feed given station octets history))
feed_front given station [] history before rest few eight step booked submitted is link = longer history (before ++ rest) (HostFed station []) _ is
feed_front given station (octet ∷ octets) history before rest few eight step booked submitted is link =
    let fed = octet ∷ octets in
    let event = HostFed station fed in
    let come = history ++ event ∷ [] in
    let mid = history ++ event ∷ before in
    let after = after_feed given station fed history in
    let adds = all_adds given station fed history few eight step booked submitted in
    let more_is : before ++ rest ≡ adds.more =
    append_cancel_left come (before ++ rest) adds.more (append_assoc history (event ∷ []) (before ++ rest) ∙ sym is ∙ adds.is) in
    let parts = split_are station before rest (subst (AllByRecursion (IsInFeedOf station)) (sym more_is) adds.are) in
    let goes : Goes (lines_at station come) (lines_at station mid) =
    adds_go station come mid (record { more = before; is = sym (append_assoc history (event ∷ []) before); are = parts.0 }) in
    let later : Goes (lines_at station mid) (lines_at station after) =
    adds_go station mid after (record { more = rest; is = is ∙ sym (append_assoc history (event ∷ before) rest); are = parts.1 }) in
    front_in link (facts_at given station history) fed (lines_at station history) (lines_at station come)
    (lines_at station mid) (lines_at station after) (has_come given station fed history step) goes later
    (feed_is_fed given station fed history few eight step booked submitted link)
