-- A host never holds more packets of data than it has buffers for.
use Rattle.std.proofs.Common.{◌≡◌, ℕ, zero, suc, ◌+◌, ◌-◌, ◌≤◌, Bool, true, false, Option, Some, None, List, [], ◌∷◌, ◌++◌, length, map, cond, refl, ap, sym, subst, ◌∙◌, arith}
use Rattle.std.specs.Prelude.{filter, fold, is_some, min, slice_set, if◌then◌else◌, ⊤}
use Rattle.std.specs.List.{AllByRecursion, list_any}
use Rattle.std.specs.Option.{option_map}
use Rattle.std.proofs.lemmas.List.Sums.{sum_by-cons}
use Rattle.acl_banks.specs.declared.pieces.Piece.{Piece}
use Rattle.ble_base.specs.declared.notes.Note.{Note}
use Rattle.ble_base.specs.declared.notes.Note.TheVariants.{Up, Opened, Shut, Took, Refused, Done}
use Rattle.ble_base.specs.declared.procedure_kinds.Kind.{Kind}
use Rattle.hci_cmd.specs.declared.command.HandleCount.{HandleCount}
use Rattle.hci_cmd.specs.declared.command.Command.{Command}
use Rattle.hci_cmd.specs.declared.command.Command.TheVariants.{Disconnect, HostBufferSize, HostCompleted, LeConnectionUpdate, LeEnableEncryption, LeKeyNegative, LeKeyReply, LeParamNegative, LeParamReply, LeReadRemoteFeatures, LeSetDataLength, LeSetPhy, ReadRemoteVersion, Reset}
use Rattle.hci_evt.specs.declared.event.Event.{Event}
use Rattle.hci_evt.specs.declared.event.Event.TheVariants.{CompletedPackets}
use Rattle.hci_evt.specs.Event.{mask_bit_of, written}
use Rattle.host_view.specs.Changes.{after_count, after_counts, changed_at, link_changed_by, on_link, view_after}
use Rattle.host_view.specs.declared.links.Link.{Link as ViewLink}
use Rattle.host_view.specs.Flow.{outstanding, outstanding_in}
use Rattle.host_view.specs.Links.{link_in, was_encrypted}
use Rattle.host_view.specs.Noted.{acl_handle, after_packet, encrypted_if, event_handle, is_acl_data, is_le_event, is_start_rsp, opened_link, view_noted}
use Rattle.host_view.specs.Status.{has_link, status_of}
use Rattle.host_view.specs.View.{View}
use Rattle.link_commands.specs.LinksCommanded.{known_in, view_known_on}
use Rattle.link_commands.specs.Views.{view_answered}
use Rattle.link_commands.specs.open_links.declared.ended.LinkEnded.{LinkEnded}
use Rattle.link_commands.specs.open_links.link_model.declared.setup.LinkSetup.{LinkSetup}
use Rattle.link_commands.specs.open_links.link_model.Packets.{good_pdu}
use Rattle.link_commands.specs.open_links.OpenLinks.{Links, OpenLink, facts_in, link_at}
use Rattle.link_commands.specs.open_links.Turns.{enters_in, notes_entering, notes_if}
use Rattle.wire_fields.specs.Field.{little_endian}
use Rattle.controller_model.specs.Data.{acl_packet, note_received, notes_pieces, pieces_handed}
use Rattle.controller_model.specs.Entering.{events_entering, notes_all_entering}
use Rattle.controller_model.specs.Events.{notes_of_events, passes}
use Rattle.controller_model.specs.Facts.{Setup, Facts}
use Rattle.controller_model.specs.Heard.{events_received, has_room, link_taken, notes_received, notes_taken}
use Rattle.controller_model.specs.Links.{ends_for}
use Rattle.controller_model.specs.Radio.{notes_entered}
use Rattle.controller_model.specs.Side.{facts_of}
use Rattle.controller_model.specs.Step.{Step}
use Rattle.link_commands.proofs.Ranges.{passes as row_passes}
use Rattle.controller_model.proofs.Always.{IsKept, always, links_shut, opening_passes}
use Rattle.controller_model.proofs.EndNotes.{both_each, entered_each, received_each}
use Rattle.controller_model.proofs.Following.{receiving_passes}
use Rattle.controller_model.proofs.Handing.{no_more}

-- ---- a change of one link

set_less : (links : List (Option ViewLink)) (handle : ℕ) (new : Option ViewLink) (more : ℕ)
    → outstanding_in new ≤ outstanding_in (link_in links handle) + more
    → outstanding (slice_set links handle new) ≤ outstanding links + more
set_less [] handle new more is = omega arith
set_less (place ∷ links) zero new more is =
    let one = sum_by-cons outstanding_in new links in
    let other = sum_by-cons outstanding_in place links in omega (arith, one, other, is)
set_less (place ∷ links) (suc handle) new more is =
    let one = sum_by-cons outstanding_in place (slice_set links handle new) in
    let other = sum_by-cons outstanding_in place links in
    let rest = set_less links handle new more is in omega (arith, one, other, rest)

changed_less : (change : ViewLink → ViewLink) (more : ℕ) → ((link : ViewLink) → (change link).outstanding ≤ link.outstanding + more)
    → (handle : ℕ) (links : List (Option ViewLink)) → outstanding (changed_at handle change links) ≤ outstanding links + more
changed_less change more less handle links =
    set_less links handle (option_map change (link_in links handle)) more (by (link_in links handle))
  where
    by : (place : Option ViewLink) → outstanding_in (option_map change place) ≤ outstanding_in place + more
    by None = omega arith
    by (Some link) = less link

-- one that leaves the count of the link as it is
still_less : (change : ViewLink → ViewLink) → ((link : ViewLink) → (change link).outstanding ≡ link.outstanding)
    → (handle : ℕ) (links : List (Option ViewLink)) → outstanding (changed_at handle change links) ≤ outstanding links
still_less change same handle links =
    let less = changed_less change 0 (λ link. let is = same link in omega (arith, is)) handle links in omega (arith, less)

taken_less : (n count : ℕ) → n - count ≤ n + 0
taken_less n count = omega arith

counted_less : (links : List (Option ViewLink)) (counts : List HandleCount) → outstanding (after_counts links counts) ≤ outstanding links
counted_less links [] = omega arith
counted_less links (pair ∷ counts) =
    let one : outstanding (after_count links pair) ≤ outstanding links + 0 =
    changed_less _ 0 (λ link. taken_less link.outstanding pair.count) pair.handle links in
    let rest = counted_less (after_count links pair) counts in omega (arith, one, rest)

-- ---- notes without data

-- a note that opens no link, shuts none, and is no packet of data
abbrev pub IsWithoutData : Note → Type 0
IsWithoutData (Up packet) = is_acl_data packet.items ≡ false
IsWithoutData (Opened handle role own peer) = ⊥
IsWithoutData (Shut handle reason) = ⊥
IsWithoutData other = ⊤

event_without : (event : Event) → is_acl_data (written event) ≡ false
unfolding little_endian
event_without (CompletedPackets handle count) = refl
event_without event = refl

packets_without : (events : List Event) → AllByRecursion IsWithoutData (map (λ event. Up (record { items = written event })) events)
packets_without [] = tt
packets_without (event ∷ events) = (event_without event, packets_without events)

pub events_without : (view : View) (events : List Event) → AllByRecursion IsWithoutData (notes_of_events view events)
events_without view events = packets_without (filter (λ event. passes view (mask_bit_of event)) events)

entering_without : (slot : ℕ) (place : Option OpenLink) → AllByRecursion IsWithoutData (notes_entering slot place)
entering_without slot None = tt
entering_without slot (Some link) = by (enters_in slot link)
  where
    by : (enters : Bool) → AllByRecursion IsWithoutData (notes_if enters slot link)
    by true =
        entered_each IsWithoutData link.setup slot (facts_in link)
        (record { applied = λ number. tt; enter = tt; done = λ kind. tt; began = λ kind. tt })
    by false = tt

pub all_entering_without : (view : View) (slot handle : ℕ) (links : Links) → AllByRecursion IsWithoutData (notes_all_entering view slot handle links)
all_entering_without view slot handle [] = tt
all_entering_without view slot handle (place ∷ links) =
    let events = events_entering slot handle place in
    both_each IsWithoutData (notes_entering slot place ++ notes_of_events view events) (notes_all_entering view slot (handle + 1) links)
    (both_each IsWithoutData (notes_entering slot place) (notes_of_events view events) (entering_without slot place) (events_without view events))
    (all_entering_without view slot (handle + 1) links)

taken_without : (slot : ℕ) (room : Bool) (place : Option OpenLink) (octets : List ℕ) → AllByRecursion IsWithoutData (notes_taken slot room place octets)
taken_without slot room None octets = tt
taken_without slot room (Some link) octets =
    received_each IsWithoutData link.setup slot room (good_pdu link.setup (facts_in link) octets) (facts_in link)
    (record { took = λ number llid body. tt; refused = λ kind code. tt; done = λ kind. tt })

pub received_without : (handle : ℕ) (room : Bool) (octets : List ℕ) (facts : Facts) → AllByRecursion IsWithoutData (notes_received handle room octets facts)
received_without handle room octets facts =
    let place = link_at handle facts.links in
    let events = events_received (was_encrypted handle facts.view.links) handle facts.turn.slot room place octets in
    both_each IsWithoutData (notes_taken facts.turn.slot room place octets) (notes_of_events facts.view events)
    (taken_without facts.turn.slot room place octets) (events_without facts.view events)

packet_less : (octets : List ℕ) (view : View) → is_acl_data octets ≡ false → outstanding (after_packet octets view).links ≤ outstanding view.links
packet_less octets view none =
    by (is_acl_data octets) (is_le_event 0x05 octets) (is_le_event 0x06 octets) view.flow.on _ _ _ (λ link. refl) (λ link. refl) none
  where
    by : (acl key request flow : Bool) (one two three : ViewLink → ViewLink) → ((link : ViewLink) → (two link).outstanding ≡ link.outstanding)
        → ((link : ViewLink) → (three link).outstanding ≡ link.outstanding) → acl ≡ false
        → outstanding (if acl then (if flow then on_link (acl_handle octets) one view else view)
        else if key then on_link (event_handle octets) two view else if request then on_link (event_handle octets) three view else view).links
        ≤ outstanding view.links
    by true key request flow one two three same_two same_three none = absurd cc
    by false true request flow one two three same_two same_three none = still_less two same_two (event_handle octets) view.links
    by false false true flow one two three same_two same_three none = still_less three same_three (event_handle octets) view.links
    by false false false flow one two three same_two same_three none = omega arith

started_less : (view : View) (handle : ℕ) (starts : Bool) → outstanding (encrypted_if starts handle view).links ≤ outstanding view.links
started_less view handle true = still_less _ (λ link. refl) handle view.links
started_less view handle false = omega arith

note_less : (view : View) (note : Note) → IsWithoutData note → outstanding (view_noted view note).links ≤ outstanding view.links
unfolding view_noted
note_less view (Up packet) without = packet_less packet.items view without
note_less view (Opened handle role own peer) without = absurd without
note_less view (Shut handle reason) without = absurd without
note_less view (Took handle number llid body) without = started_less view handle (is_start_rsp llid body.items)
note_less view (Refused handle kind code) without = still_less _ (λ link. refl) handle view.links
note_less view (Done handle kind) without = still_less _ (λ link. refl) handle view.links
note_less view other without = omega arith

followed_less : (view : View) (notes : List Note) → AllByRecursion IsWithoutData notes → outstanding (fold view_noted view notes).links ≤ outstanding view.links
followed_less view [] without = omega arith
followed_less view (note ∷ notes) without =
    let one = note_less view note without.0 in
    let rest = followed_less (view_noted view note) notes without.1 in omega (arith, one, rest)

-- ---- packets of data

one_less : (n : ℕ) → min (n + 1) 65535 ≤ n + 1
one_less n = omega arith

data_more : (octets : List ℕ) (view : View) → outstanding (after_packet octets view).links ≤ outstanding view.links + 1
data_more octets view =
    by (is_acl_data octets) (is_le_event 0x05 octets) (is_le_event 0x06 octets) view.flow.on _ _ _ (λ link. one_less link.outstanding)
    (λ link. refl) (λ link. refl)
  where
    by : (acl key request flow : Bool) (one two three : ViewLink → ViewLink) → ((link : ViewLink) → (one link).outstanding ≤ link.outstanding + 1)
        → ((link : ViewLink) → (two link).outstanding ≡ link.outstanding) → ((link : ViewLink) → (three link).outstanding ≡ link.outstanding)
        → outstanding (if acl then (if flow then on_link (acl_handle octets) one view else view)
        else if key then on_link (event_handle octets) two view else if request then on_link (event_handle octets) three view else view).links
        ≤ outstanding view.links + 1
    by true key request true one two three more same_two same_three = changed_less one 1 more (acl_handle octets) view.links
    by true key request false one two three more same_two same_three = omega arith
    by false true request flow one two three more same_two same_three =
        let less = still_less two same_two (event_handle octets) view.links in omega (arith, less)
    by false false true flow one two three more same_two same_three =
        let less = still_less three same_three (event_handle octets) view.links in omega (arith, less)
    by false false false flow one two three more same_two same_three = omega arith

pub handed_more : (view : View) (pieces : List (ℕ × Piece)) → outstanding (fold view_noted view (map note_received pieces)).links
    ≤ outstanding view.links + length pieces
unfolding view_noted
handed_more view [] = omega arith
handed_more view (piece ∷ pieces) =
    let one = data_more (acl_packet piece) view in
    let rest = handed_more (view_noted view (note_received piece)) pieces in omega (arith, one, rest)

-- none is counted while flow control is off
where_off : (on : Bool) (handle : ℕ) (change : ViewLink → ViewLink) (view : View) → on ≡ false → (if on then on_link handle change view else view) ≡ view
where_off true handle change view off = absurd cc
where_off false handle change view off = refl

none_counted : (view : View) (pieces : List (ℕ × Piece)) → view.flow.on ≡ false
    → (fold view_noted view (map note_received pieces)).links ≡ view.links
unfolding view_noted
none_counted view [] off = refl
none_counted view (piece ∷ pieces) off =
    let same : view_noted view (note_received piece) ≡ view = where_off view.flow.on (acl_handle (acl_packet piece)) _ view off in
    ap (λ (next : View). (fold view_noted next (map note_received pieces)).links) same ∙ none_counted view pieces off

-- ---- links that are opened and shut

shut_less : (links : List (Option ViewLink)) (ended : List LinkEnded) → outstanding (links_shut links ended) ≤ outstanding links
shut_less links [] = omega arith
shut_less links (one ∷ ended) =
    let first = set_less links one.handle None 0 (omega arith) in
    let rest = shut_less (slice_set links one.handle None) ended in omega (arith, first, rest)

opened_less : (link : LinkSetup) (links : List (Option ViewLink))
    → outstanding (slice_set links link.handle (Some (opened_link link.role link.own link.peer))) ≤ outstanding links
opened_less link links =
    let less = set_less links link.handle (Some (opened_link link.role link.own link.peer)) 0 (omega arith) in omega (arith, less)

none_held : (links : List (Option ViewLink)) → list_any is_some links ≡ false → outstanding links ≡ 0
none_held [] none = refl
none_held (None ∷ links) none =
    let first = sum_by-cons outstanding_in None links in let rest = none_held links none in omega (arith, first, rest)
none_held (Some link ∷ links) none = absurd (let h : true ≡ false = none in absurd cc)

-- ---- at any time

abbrev Fits : Facts → Type 0
Fits facts = outstanding facts.view.links ≤ facts.view.flow.acl_count

link_less : (command : Command) (view : View) → outstanding (link_changed_by command view).links ≤ outstanding view.links
link_less (Disconnect handle reason) view = still_less _ (λ link. refl) handle view.links
link_less (ReadRemoteVersion handle) view = still_less _ (λ link. refl) handle view.links
link_less (LeConnectionUpdate handle least most latency timeout lengths) view = still_less _ (λ link. refl) handle view.links
link_less (LeReadRemoteFeatures handle) view = still_less _ (λ link. refl) handle view.links
link_less (LeEnableEncryption handle rand ediv key) view = still_less _ (λ link. refl) handle view.links
link_less (LeKeyReply handle key) view = still_less _ (λ link. refl) handle view.links
link_less (LeKeyNegative handle) view = still_less _ (λ link. refl) handle view.links
link_less (LeParamReply handle least most latency timeout lengths) view = still_less _ (λ link. refl) handle view.links
link_less (LeParamNegative handle reason) view = still_less _ (λ link. refl) handle view.links
link_less (LeSetDataLength handle most time) view = still_less _ (λ link. refl) handle view.links
link_less (LeSetPhy handle all tx rx options) view = still_less _ (λ link. refl) handle view.links
link_less other view = omega arith

command_fits : (view : View) (command : Command) → status_of view command ≡ 0 → outstanding view.links ≤ view.flow.acl_count
    → outstanding (view_after view command).links ≤ (view_after view command).flow.acl_count
unfolding view_after status_of
command_fits view Reset accepted fits = omega arith
command_fits view (HostBufferSize acl_length sco_length acl_count sco_count) accepted fits =
    let none = none_held view.links (row_passes (has_link view) _ _ accepted).0 in omega (arith, none)
command_fits view (HostCompleted counts) accepted fits = by view.flow.on
  where
    by : (on : Bool) → outstanding (cond on (record view { links = after_counts view.links counts.items }) view).links
        ≤ (cond on (record view { links = after_counts view.links counts.items }) view).flow.acl_count
    by true = let less = counted_less view.links counts.items in omega (arith, less, fits)
    by false = fits
command_fits view (Disconnect handle reason) accepted fits =
    let less = link_less (Disconnect handle reason) view in omega (arith, less, fits)
command_fits view (ReadRemoteVersion handle) accepted fits =
    let less = link_less (ReadRemoteVersion handle) view in omega (arith, less, fits)
command_fits view (LeConnectionUpdate handle least most latency timeout lengths) accepted fits =
    let less = link_less (LeConnectionUpdate handle least most latency timeout lengths) view in omega (arith, less, fits)
command_fits view (LeReadRemoteFeatures handle) accepted fits =
    let less = link_less (LeReadRemoteFeatures handle) view in omega (arith, less, fits)
command_fits view (LeEnableEncryption handle rand ediv key) accepted fits =
    let less = link_less (LeEnableEncryption handle rand ediv key) view in omega (arith, less, fits)
command_fits view (LeKeyReply handle key) accepted fits =
    let less = link_less (LeKeyReply handle key) view in omega (arith, less, fits)
command_fits view (LeKeyNegative handle) accepted fits =
    let less = link_less (LeKeyNegative handle) view in omega (arith, less, fits)
command_fits view (LeParamReply handle least most latency timeout lengths) accepted fits =
    let less = link_less (LeParamReply handle least most latency timeout lengths) view in omega (arith, less, fits)
command_fits view (LeParamNegative handle reason) accepted fits =
    let less = link_less (LeParamNegative handle reason) view in omega (arith, less, fits)
command_fits view (LeSetDataLength handle most time) accepted fits =
    let less = link_less (LeSetDataLength handle most time) view in omega (arith, less, fits)
command_fits view (LeSetPhy handle all tx rx options) accepted fits =
    let less = link_less (LeSetPhy handle all tx rx options) view in omega (arith, less, fits)
command_fits view other accepted fits = fits

answered_less : (handle : ℕ) (kind : Option Kind) (view : View) → outstanding (view_answered handle kind view).links ≤ outstanding view.links
answered_less handle None view = omega arith
answered_less handle (Some kind) view = note_less view (Done handle kind) tt

known_less : (view : View) (command : Command) (links : Links) → outstanding (view_known_on view command links).links ≤ outstanding view.links
known_less view (ReadRemoteVersion handle) links = answered_less handle (known_in (ReadRemoteVersion handle) (link_at handle links)) view
known_less view (LeReadRemoteFeatures handle) links = answered_less handle (known_in (LeReadRemoteFeatures handle) (link_at handle links)) view
known_less view other links = omega arith

handed_fits : (facts : Facts) → Fits facts → outstanding (fold view_noted facts.view (notes_pieces facts)).links ≤ facts.view.flow.acl_count
handed_fits facts fits = by facts.view.flow.on refl
  where
    by : (on : Bool) → facts.view.flow.on ≡ on → outstanding (fold view_noted facts.view (notes_pieces facts)).links ≤ facts.view.flow.acl_count
    by true on =
        let most = no_more facts.view facts.received on fits in
        let more = handed_more facts.view (pieces_handed facts) in omega (arith, most, more)
    by false off = subst (λ (links : List (Option ViewLink)). outstanding links ≤ facts.view.flow.acl_count) (sym (none_counted facts.view (pieces_handed facts) off)) fits

fits_kept : (setup : Setup) → IsKept setup Fits Fits
fits_kept setup = record {
  accepted = λ facts opcode octets command is accepted fits. command_fits facts.view command accepted fits;
  asked = λ facts command asks fits left.
      let less = known_less (view_after facts.view command) command facts.links in omega (arith, less, left);
  given = λ facts handle count start octets is fits. fits;
  octet = λ facts octet fits. fits;
  turns = record {
    starts = record {
      weakens = λ facts fits. fits;
      ends = λ reason facts fits. let less = shut_less facts.view.links (ends_for reason facts) in omega (arith, less, fits);
      begins = λ slot facts fits. fits;
      enters = λ slot facts fits.
          let less = followed_less facts.view (notes_entered slot facts) (all_entering_without facts.view slot 0 facts.links) in
          omega (arith, less, fits);
      wins = λ slot activity facts fits. fits;
      fixes = λ doing facts fits. fits;
      does = λ doing facts may fits. fits;
    };
    reports = λ facts fits. handed_fits facts fits;
    words = λ handle facts listens fits. fits;
    passes = λ facts fits. record {
      rests = fits;
      awaits_request = λ channel doing. fits;
      awaits_response = λ channel advertiser doing. fits;
      central_listens = λ handle doing. fits;
      sent = λ channel link doing.
          opening_passes Fits link facts (let less = opened_less link facts.view.links in omega (arith, less, fits));
      responds = λ channel on doing is_on. fits;
      taken = λ channel octets pdu on fields handle is_on hears takes free.
          let link = link_taken facts.view on.params.own pdu fields handle in
          opening_passes Fits link facts (let less = opened_less link facts.view.links in omega (arith, less, fits));
      scanned = λ channel octets pdu on doing is_on hears. fits;
      answered = λ channel octets pdu on doing is_on hears. fits;
      connects = λ channel octets pdu on access handle doing is_on hears answers next free in_range. fits;
      received = λ handle octets.
          let room = has_room setup facts in
          let less = followed_less facts.view (notes_received handle room octets facts) (received_without handle room octets facts) in
          receiving_passes Fits setup handle octets facts (omega (arith, less, fits));
    };
  };
}

pub never_more : (setup : Setup) (past : List Step) → outstanding (facts_of setup past).view.links ≤ (facts_of setup past).view.flow.acl_count
never_more setup past = always setup Fits Fits (fits_kept setup) (omega arith) past
