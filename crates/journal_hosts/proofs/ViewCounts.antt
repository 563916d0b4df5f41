-- How many packets of data of each link its host holds, by the view: what the notes of a call make of that.
use Rattle.std.proofs.Common.{◌≡◌, ℕ, zero, suc, ◌+◌, ◌==◌, ◌&&◌, ◌||◌, Bool, true, false, Option, Some, None, List, [], ◌∷◌, ◌++◌, cond, map, refl, ap, sym, subst, ◌∙◌, append_assoc, arith}
use Rattle.std.specs.Prelude.{flat_map, fold, min, slice_set, ⊤}
use Rattle.std.specs.List.{AllByRecursion}
use Rattle.std.specs.Option.{option_map}
use Rattle.std.proofs.lemmas.Bool.{eq-eqb, eqb-true, or_parts}
use Rattle.std.proofs.lemmas.List.Sums.{fold-append}
use Rattle.acl_banks.specs.declared.pieces.Piece.{Piece}
use Rattle.ble_base.specs.declared.notes.Note.{Note}
use Rattle.ble_base.specs.declared.notes.Note.TheVariants.{Up, Opened, Shut, Took, Refused, Done}
use Rattle.hci_evt.specs.declared.event.Event.{Event}
use Rattle.hci_evt.specs.declared.event.Event.TheVariants.{DisconnectionComplete}
use Rattle.host_view.specs.declared.links.Link.{Link as ViewLink}
use Rattle.host_view.specs.Changes.{changed_at, on_link}
use Rattle.host_view.specs.Links.{link_in}
use Rattle.host_view.specs.Noted.{acl_handle, after_packet, encrypted_if, event_handle, is_acl_data, is_le_event, is_start_rsp, opened_link, view_noted}
use Rattle.host_view.specs.View.{View}
use Rattle.journal_data.specs.open_links.declared.ended.LinkEnded.{LinkEnded}
use Rattle.journal_data.specs.open_links.OpenLinks.{OpenLink, facts_in, link_at}
use Rattle.journal_data.specs.open_links.Data.{completed_from}
use Rattle.journal_data.specs.open_links.Turns.{ending_in}
use Rattle.journal_data.specs.link_model.declared.setup.LinkSetup.{LinkSetup}
use Rattle.scan_init.specs.Reports.{does_ask, scan_answer}
use Rattle.journal_data.specs.controller_model.declared.doing.Doing.{Doing}
use Rattle.journal_data.specs.controller_model.declared.doing.Doing.TheVariants.{CentralSends, PeripheralSends}
use Rattle.journal_data.specs.controller_model.Data.{acl_packet, event_completed, facts_ended_turn, facts_handed, note_received, notes_pieces, pieces_handed}
use Rattle.journal_data.specs.controller_model.Events.{notes_of_events}
use Rattle.journal_data.specs.controller_model.Facts.{Setup, Facts}
use Rattle.journal_data.specs.controller_model.Heard.{asks_if, events_reported, facts_with_words, has_room, link_heard, link_taken, opens, scanner_after, with_scanner}
use Rattle.journal_data.specs.controller_model.Links.{ends_for, events_opened, notes_ended, notes_leaving}
use Rattle.journal_data.specs.controller_model.Outcome.{notes_passed}
use Rattle.journal_data.specs.controller_model.Packets.{notes_doing, notes_sent}
use Rattle.journal_data.specs.controller_model.Radio.{notes_entered}
use Rattle.journal_data.specs.controller_model.Side.{facts_after, notes_after}
use Rattle.journal_data.specs.controller_model.Step.{Step, HostOctet, TurnBegins, PacketHeard, NothingHeard, TurnEnds}
use Rattle.journal_data.proofs.controller_model.Always.{IsInTurn, IsKeptAtStarts, leaving_is, links_shut, opening_is, start_keeps}
use Rattle.journal_data.proofs.controller_model.EndNotes.{sent_each}
use Rattle.journal_data.proofs.controller_model.HostWindow.{IsWithoutData, all_entering_without, events_without, received_without}
use Rattle.journal_data.proofs.controller_model.Phases.{EachOutcome, heard_is, unheard_is}
use Rattle.journal_data.proofs.Openness.{AreNot, all_append, begun_reports, is_report}
use Rattle.journal_data.proofs.run_model.OpenedNotes.{is_opened, outside_open}
use Rattle.journal_hosts.specs.HostFlow.{none_yet, one_more}
use Rattle.journal_hosts.proofs.CreditNotes.{IsOfOctet, octet_ones}

-- ---- what is counted

-- the packets of the open link under a handle
abbrev pub out_in : List (Option ViewLink) → ℕ → Option ℕ
out_in links handle = option_map (λ (link : ViewLink). link.outstanding) (link_in links handle)

-- they are what is counted under its handle
abbrev pub Counts : List (Option ViewLink) → (ℕ → ℕ) → Type 0
Counts links counts = (handle n : ℕ) → out_in links handle ≡ Some n → n ≡ counts handle

some_same : (n m : ℕ) → Some n ≡ Some m → n ≡ m
some_same n m is = let same : n ≡ m = cc in same

never_some : {X : Type 0} (n : ℕ) → None ≡ Some n → X
never_some n is = absurd (let h : None ≡ Some n = is in absurd cc)

-- tests of numbers
pub zero_suc : (n : ℕ) → (zero == suc n) ≡ false
zero_suc n = grind (arith)

pub suc_zero : (n : ℕ) → (suc n == zero) ≡ false
suc_zero n = grind (arith)

pub suc_suc : (n m : ℕ) → (suc n == suc m) ≡ (n == m)
suc_suc n m = by (n == m) (suc n == suc m) refl refl
  where
    by : (one other : Bool) → (n == m) ≡ one → (suc n == suc m) ≡ other → other ≡ one
    by true true is is_too = refl
    by false false is is_too = refl
    by true false is is_too = absurd (let h : true ≡ false = sym (eq-eqb (suc n) (suc m) (ap suc (eqb-true n m is))) ∙ is_too in absurd cc)
    by false true is is_too = absurd (let e = eqb-true (suc n) (suc m) is_too in let h : true ≡ false = sym (eq-eqb n m (omega (arith, e))) ∙ is in absurd cc)

-- a change that leaves it
pub changed_out : (change : ViewLink → ViewLink) → ((link : ViewLink) → (change link).outstanding ≡ link.outstanding) → (handle : ℕ)
    (links : List (Option ViewLink)) (other : ℕ) → out_in (changed_at handle change links) other ≡ out_in links other
changed_out change same handle [] other = refl
changed_out change same zero (None ∷ links) zero = refl
changed_out change same zero (Some link ∷ links) zero = ap (λ (n : ℕ). Some n) (same link)
changed_out change same zero (place ∷ links) (suc other) = refl
changed_out change same (suc handle) (place ∷ links) zero = refl
changed_out change same (suc handle) (place ∷ links) (suc other) = changed_out change same handle links other

-- a link is shut
shut_out : (links : List (Option ViewLink)) (handle other n : ℕ) → out_in (slice_set links handle None) other ≡ Some n → out_in links other ≡ Some n
shut_out [] handle other n is = is
shut_out (place ∷ links) zero zero n is = never_some n is
shut_out (place ∷ links) zero (suc other) n is = is
shut_out (place ∷ links) (suc handle) zero n is = is
shut_out (place ∷ links) (suc handle) (suc other) n is = shut_out links handle other n is

all_shut_out : (links : List (Option ViewLink)) (ended : List LinkEnded) (other n : ℕ) → out_in (links_shut links ended) other ≡ Some n → out_in links other ≡ Some n
all_shut_out links [] other n is = is
all_shut_out links (one ∷ ended) other n is = shut_out links one.handle other n (all_shut_out (slice_set links one.handle None) ended other n is)

pub shut_counts : (links : List (Option ViewLink)) (ended : List LinkEnded) (counts : ℕ → ℕ) → Counts links counts → Counts (links_shut links ended) counts
shut_counts links ended counts are handle n is = are handle n (all_shut_out links ended handle n is)

-- a link is opened
pub opened_counts : (links : List (Option ViewLink)) (handle : ℕ) (link : ViewLink) (counts : ℕ → ℕ) → link.outstanding ≡ 0 → Counts links counts
    → Counts (slice_set links handle (Some link)) (none_yet handle counts)
opened_counts [] handle link counts none are other n is = never_some n is
opened_counts (place ∷ links) zero link counts none are zero n is = sym (some_same link.outstanding n is) ∙ none
opened_counts (place ∷ links) zero link counts none are (suc other) n is =
    are (suc other) n is ∙ ap (λ (own : Bool). cond own 0 (counts (suc other))) (sym (suc_zero other))
opened_counts (place ∷ links) (suc handle) link counts none are zero n is =
    are zero n is ∙ ap (λ (own : Bool). cond own 0 (counts zero)) (sym (zero_suc handle))
opened_counts (place ∷ links) (suc handle) link counts none are (suc other) n is =
    opened_counts links handle link (λ h. counts (suc h)) none (λ h m at. are (suc h) m at) other n is
    ∙ ap (λ (own : Bool). cond own 0 (counts (suc other))) (sym (suc_suc other handle))

-- the host receives a packet of data
handed_counts : (change : ViewLink → ViewLink) → ((link : ViewLink) → (change link).outstanding ≡ min (link.outstanding + 1) 65535)
    → (links : List (Option ViewLink)) (handle : ℕ) (counts : ℕ → ℕ) → Counts links counts
    → Counts (changed_at handle change links) (one_more handle counts)
handed_counts change more [] handle counts are other n is = never_some n is
handed_counts change more (None ∷ links) zero counts are zero n is = never_some n is
handed_counts change more (Some link ∷ links) zero counts are zero n is =
    sym (some_same (change link).outstanding n is) ∙ more link ∙ ap (λ (m : ℕ). min (m + 1) 65535) (are zero link.outstanding refl)
handed_counts change more (place ∷ links) zero counts are (suc other) n is =
    are (suc other) n is ∙ ap (λ (own : Bool). cond own (min (counts (suc other) + 1) 65535) (counts (suc other))) (sym (suc_zero other))
handed_counts change more (place ∷ links) (suc handle) counts are zero n is =
    are zero n is ∙ ap (λ (own : Bool). cond own (min (counts zero + 1) 65535) (counts zero)) (sym (zero_suc handle))
handed_counts change more (place ∷ links) (suc handle) counts are (suc other) n is =
    handed_counts change more links handle (λ h. counts (suc h)) (λ h m at. are (suc h) m at) other n is
    ∙ ap (λ (own : Bool). cond own (min (counts (suc other) + 1) 65535) (counts (suc other))) (sym (suc_suc other handle))

-- ---- notes

-- what a note makes of the counts, with flow control on or off
abbrev pub counts_noted : Bool → (ℕ → ℕ) → Note → ℕ → ℕ
counts_noted on counts (Up packet) = cond (on && is_acl_data packet.items) (one_more (acl_handle packet.items) counts) counts
counts_noted on counts (Opened handle role own peer) = none_yet handle counts
counts_noted on counts other = counts

-- a note that leaves them
abbrev pub IsUncounted : Note → Type 0
IsUncounted (Up packet) = is_acl_data packet.items ≡ false
IsUncounted (Opened handle role own peer) = ⊥
IsUncounted other = ⊤

none_up : (on acl : Bool) (more counts : ℕ → ℕ) → acl ≡ false → cond (on && acl) more counts ≡ counts
none_up on true more counts none = absurd cc
none_up true false more counts none = refl
none_up false false more counts none = refl

pub note_uncounted : (on : Bool) (counts : ℕ → ℕ) (note : Note) → IsUncounted note → counts_noted on counts note ≡ counts
note_uncounted on counts (Up packet) is = none_up on (is_acl_data packet.items) (one_more (acl_handle packet.items) counts) counts is
note_uncounted on counts (Opened handle role own peer) is = absurd is
note_uncounted on counts other is = refl

pub all_uncounted : (on : Bool) (counts : ℕ → ℕ) (notes : List Note) → AllByRecursion IsUncounted notes → fold (counts_noted on) counts notes ≡ counts
all_uncounted on counts [] are = refl
all_uncounted on counts (note ∷ notes) are =
    ap (λ (next : ℕ → ℕ). fold (counts_noted on) next notes) (note_uncounted on counts note are.0) ∙ all_uncounted on counts notes are.1

without_uncounted : (notes : List Note) → AllByRecursion IsWithoutData notes → AllByRecursion IsUncounted notes
without_uncounted [] are = tt
without_uncounted (note ∷ notes) are = (by note are.0, without_uncounted notes are.1)
  where
    by : (note : Note) → IsWithoutData note → IsUncounted note
    by (Up packet) is = is
    by (Opened handle role own peer) is = absurd is
    by (Shut handle reason) is = absurd is
    by other is = tt

events_uncounted : (view : View) (events : List Event) → AllByRecursion IsUncounted (notes_of_events view events)
events_uncounted view events = without_uncounted (notes_of_events view events) (events_without view events)

-- where none is opened and no data is received
pub quiet_uncounted : (notes : List Note) → AreNot is_report notes → ((handle : ℕ) → is_opened handle notes ≡ false) → AllByRecursion IsUncounted notes
quiet_uncounted [] none unopened = tt
quiet_uncounted (Up packet ∷ notes) none unopened =
    ((or_parts (is_acl_data packet.items) _ none.0).0, quiet_uncounted notes none.1 unopened)
quiet_uncounted (Opened handle role own peer ∷ notes) none unopened =
    absurd (let h : true ≡ false = ap (λ (same : Bool). same || is_opened handle notes) (sym (eq-eqb handle handle refl)) ∙ unopened handle in absurd cc)
quiet_uncounted (note ∷ notes) none unopened = (tt, quiet_uncounted notes none.1 unopened)

-- the notes of an octet of the host
ones_uncounted : (notes : List Note) → AllByRecursion IsOfOctet notes → AllByRecursion IsUncounted notes
ones_uncounted [] are = tt
ones_uncounted (Up packet ∷ notes) are = (are.0.0, ones_uncounted notes are.1)
ones_uncounted (Shut handle reason ∷ notes) are = (tt, ones_uncounted notes are.1)
ones_uncounted (note ∷ notes) are = absurd are.0

pub octet_uncounted : (setup : Setup) (facts : Facts) (octet : ℕ) → AllByRecursion IsUncounted (notes_after setup facts (HostOctet octet))
octet_uncounted setup facts octet = ones_uncounted (notes_after setup facts (HostOctet octet)) (octet_ones setup facts octet)

-- ---- a view that follows notes without data

packet_out : (octets : List ℕ) (view : View) (other : ℕ) → is_acl_data octets ≡ false → out_in (after_packet octets view).links other ≡ out_in view.links other
packet_out octets view other none =
    by (is_acl_data octets) (is_le_event 0x05 octets) (is_le_event 0x06 octets) view.flow.on _ _ _ (λ link. refl) (λ link. refl) none
  where
    by : (acl key request flow : Bool) (one two three : ViewLink → ViewLink) → ((link : ViewLink) → (two link).outstanding ≡ link.outstanding)
        → ((link : ViewLink) → (three link).outstanding ≡ link.outstanding) → acl ≡ false
        → out_in (cond acl (cond flow (on_link (acl_handle octets) one view) view)
        (cond key (on_link (event_handle octets) two view) (cond request (on_link (event_handle octets) three view) view))).links other
        ≡ out_in view.links other
    by true key request flow one two three same_two same_three none = absurd cc
    by false true request flow one two three same_two same_three none = changed_out two same_two (event_handle octets) view.links other
    by false false true flow one two three same_two same_three none = changed_out three same_three (event_handle octets) view.links other
    by false false false flow one two three same_two same_three none = refl

started_out : (view : View) (handle other : ℕ) (starts : Bool) → out_in (encrypted_if starts handle view).links other ≡ out_in view.links other
started_out view handle other true = changed_out _ (λ link. refl) handle view.links other
started_out view handle other false = refl

pub note_out : (view : View) (note : Note) (other : ℕ) → IsWithoutData note → out_in (view_noted view note).links other ≡ out_in view.links other
unfolding view_noted
note_out view (Up packet) other is = packet_out packet.items view other is
note_out view (Opened handle role own peer) other is = absurd is
note_out view (Shut handle reason) other is = absurd is
note_out view (Took handle number llid body) other is = started_out view handle other (is_start_rsp llid body.items)
note_out view (Refused handle kind code) other is = changed_out _ (λ link. refl) handle view.links other
note_out view (Done handle kind) other is = changed_out _ (λ link. refl) handle view.links other
note_out view note other is = refl

followed_out : (view : View) (notes : List Note) (other : ℕ) → AllByRecursion IsWithoutData notes → out_in (fold view_noted view notes).links other ≡ out_in view.links other
followed_out view [] other are = refl
followed_out view (note ∷ notes) other are = followed_out (view_noted view note) notes other are.1 ∙ note_out view note other are.0

followed_counts : (view : View) (notes : List Note) (counts : ℕ → ℕ) → AllByRecursion IsWithoutData notes → Counts view.links counts
    → Counts (fold view_noted view notes).links counts
followed_counts view notes counts without are handle n is = are handle n (sym (followed_out view notes handle without) ∙ is)

-- ---- a phase

module _ (on : Bool) (counts : ℕ → ℕ) where
  -- the view has what the notes make of the counts
  abbrev Follow : View → List Note → Type 0
  Follow view notes = Counts view.links (fold (counts_noted on) counts notes)

  quiet_follow : (view : View) (notes : List Note) → AllByRecursion IsUncounted notes → Counts view.links counts → Follow view notes
  quiet_follow view notes are counted = subst (Counts view.links) (sym (all_uncounted on counts notes are)) counted

  sent_uncounted : (slot : ℕ) (place : Option OpenLink) → AllByRecursion IsUncounted (notes_sent slot place)
  sent_uncounted slot None = tt
  sent_uncounted slot (Some link) = sent_each IsUncounted link.setup (facts_in link) (λ number llid octets. tt)

  doing_uncounted : (doing : Doing) (facts : Facts) → AllByRecursion IsUncounted (notes_doing doing facts)
  doing_uncounted (CentralSends handle) facts = sent_uncounted facts.turn.slot (link_at handle facts.links)
  doing_uncounted (PeripheralSends handle) facts = sent_uncounted facts.turn.slot (link_at handle facts.links)
  doing_uncounted other facts = tt

  opened_follow : (link : LinkSetup) (facts : Facts) → Counts facts.view.links counts → Follow (opens link facts).facts.view (notes_passed (opens link facts))
  opened_follow link facts counted =
      let events = notes_of_events facts.view (events_opened facts.view link) in
      subst (λ (after : Facts). Counts after.view.links (fold (counts_noted on) (none_yet link.handle counts) (events ++ []))) (sym (opening_is link facts))
      (subst (Counts (slice_set facts.view.links link.handle (Some (opened_link link.role link.own link.peer))))
      (sym (all_uncounted on (none_yet link.handle counts) (events ++ []) (all_append IsUncounted events [] (events_uncounted facts.view (events_opened facts.view link)) tt)))
      (opened_counts facts.view.links link.handle (opened_link link.role link.own link.peer) counts refl counted))

  heard_follow : (setup : Setup) (handle : ℕ) (octets : List ℕ) (facts : Facts) → Counts facts.view.links counts
      → Follow (link_heard setup handle octets facts).facts.view (notes_passed (link_heard setup handle octets facts))
  heard_follow setup handle octets facts counted =
      let heard = link_heard setup handle octets facts in
      let without = received_without handle (has_room setup facts) octets facts in
      quiet_follow heard.facts.view (notes_passed heard)
      (all_append IsUncounted heard.notes (notes_doing heard.next heard.facts) (without_uncounted heard.notes without) (doing_uncounted heard.next heard.facts))
      (followed_counts facts.view heard.notes counts without counted)

  phase_follow : (setup : Setup) (facts : Facts) → Counts facts.view.links counts
      → EachOutcome setup facts (λ outcome. Follow outcome.facts.view (notes_passed outcome))
  phase_follow setup facts counted = record {
    rests = counted;
    awaits_request = λ channel doing. counted;
    awaits_response = λ channel advertiser doing. counted;
    central_listens = λ handle doing. counted;
    sent = λ channel link doing. opened_follow link facts counted;
    responds = λ channel advertiser doing is_on. counted;
    taken = λ channel octets pdu advertiser fields handle is_on hears takes free.
        opened_follow (link_taken facts.view advertiser.params.own pdu fields handle) facts counted;
    scanned = λ channel octets pdu scanner doing is_on hears.
        let answer = scan_answer scanner.params facts.view.accepted scanner.recent pdu in
        let events = events_reported answer pdu in
        let after = with_scanner (scanner_after scanner facts.view.accepted pdu) facts in
        let next = asks_if (true && does_ask answer) channel pdu in
        quiet_follow facts.view (notes_of_events facts.view events ++ notes_doing next after)
        (all_append IsUncounted (notes_of_events facts.view events) (notes_doing next after) (events_uncounted facts.view events) (doing_uncounted next after)) counted;
    answered = λ channel octets pdu scanner doing is_on hears.
        let answer = scan_answer scanner.params facts.view.accepted scanner.recent pdu in
        let events = events_reported answer pdu in
        let after = with_scanner (scanner_after scanner facts.view.accepted pdu) facts in
        let next = asks_if (false && does_ask answer) channel pdu in
        quiet_follow facts.view (notes_of_events facts.view events ++ notes_doing next after)
        (all_append IsUncounted (notes_of_events facts.view events) (notes_doing next after) (events_uncounted facts.view events) (doing_uncounted next after)) counted;
    connects = λ channel octets pdu initiator access handle doing is_on hears answers next free in_range. counted;
    received = λ handle octets. heard_follow setup handle octets facts counted;
  }

  -- ---- a turn begins

  counts_kept : IsKeptAtStarts (λ facts. Counts facts.view.links counts) (λ facts. Counts facts.view.links counts)
  counts_kept = record {
    weakens = λ facts counted. counted;
    ends = λ reason facts counted. shut_counts facts.view.links (ends_for reason facts) counts counted;
    begins = λ slot facts counted. counted;
    enters = λ slot facts counted.
        followed_counts facts.view (notes_entered slot facts) counts (all_entering_without facts.view slot 0 facts.links) counted;
    wins = λ slot activity facts counted. counted;
    fixes = λ doing facts counted. counted;
    does = λ doing facts may counted. counted;
  }

-- ---- a turn ends

abbrev pub pieces_noted : List (ℕ × Piece) → List Note
pieces_noted pieces = map note_received pieces

piece_counts : (piece : ℕ × Piece) (view : View) (counts : ℕ → ℕ) → Counts view.links counts
    → Counts (view_noted view (note_received piece)).links (counts_noted view.flow.on counts (note_received piece))
unfolding view_noted
piece_counts piece view counts counted = by view.flow.on _ (λ link. refl)
  where
    by : (on : Bool) (change : ViewLink → ViewLink) → ((link : ViewLink) → (change link).outstanding ≡ min (link.outstanding + 1) 65535)
        → Counts (cond on (on_link (acl_handle (acl_packet piece)) change view) view).links
        (cond (on && true) (one_more (acl_handle (acl_packet piece)) counts) counts)
    by true change more = handed_counts change more view.links (acl_handle (acl_packet piece)) counts counted
    by false change more = counted

same_flow : (piece : ℕ × Piece) (view : View) → (view_noted view (note_received piece)).flow ≡ view.flow
unfolding view_noted
same_flow piece view = by view.flow.on _
  where
    by : (on : Bool) (change : ViewLink → ViewLink) → (cond on (on_link (acl_handle (acl_packet piece)) change view) view).flow ≡ view.flow
    by true change = refl
    by false change = refl

pub pieces_counts : (pieces : List (ℕ × Piece)) (view : View) (counts : ℕ → ℕ) → Counts view.links counts
    → Counts (fold view_noted view (pieces_noted pieces)).links (fold (counts_noted view.flow.on) counts (pieces_noted pieces))
pieces_counts [] view counts counted = counted
pieces_counts (piece ∷ pieces) view counts counted =
    let next = view_noted view (note_received piece) in
    subst (λ (on : Bool). Counts (fold view_noted next (pieces_noted pieces)).links
    (fold (counts_noted on) (counts_noted view.flow.on counts (note_received piece)) (pieces_noted pieces)))
    (ap (λ flow. flow.on) (same_flow piece view))
    (pieces_counts pieces next (counts_noted view.flow.on counts (note_received piece)) (piece_counts piece view counts counted))

ends_uncounted : (view : View) (ended : List LinkEnded) → AllByRecursion IsUncounted (flat_map (notes_ended view) ended)
ends_uncounted view [] = tt
ends_uncounted view (one ∷ ended) =
    all_append IsUncounted (notes_ended view one) (flat_map (notes_ended view) ended) (tt, events_uncounted view (DisconnectionComplete 0 one.handle one.reason.0 ∷ [])) (ends_uncounted view ended)

-- what comes after the pieces of data
abbrev pub notes_then : Facts → List Note
notes_then facts = notes_of_events facts.view (map event_completed (completed_from 0 facts.links)) ++ notes_leaving (facts_handed facts)

pub then_uncounted : (facts : Facts) → AllByRecursion IsUncounted (notes_then facts)
then_uncounted facts =
    let events = map event_completed (completed_from 0 facts.links) in
    all_append IsUncounted (notes_of_events facts.view events) (notes_leaving (facts_handed facts)) (events_uncounted facts.view events)
    (ends_uncounted (facts_handed facts).view (ends_for ending_in (facts_handed facts)))

pub ended_notes : (setup : Setup) (facts : Facts) → notes_after setup facts TurnEnds ≡ notes_pieces facts ++ notes_then facts
ended_notes setup facts =
    append_assoc (notes_pieces facts) (notes_of_events facts.view (map event_completed (completed_from 0 facts.links))) (notes_leaving (facts_handed facts))

end_follow : (setup : Setup) (facts : Facts) (counts : ℕ → ℕ) → Counts facts.view.links counts
    → Counts (facts_after setup facts TurnEnds).view.links (fold (counts_noted facts.view.flow.on) counts (notes_after setup facts TurnEnds))
end_follow setup facts counts counted =
    let on = facts.view.flow.on in
    let handed = fold (counts_noted on) counts (notes_pieces facts) in
    let all : fold (counts_noted on) counts (notes_after setup facts TurnEnds) ≡ handed =
    ap (fold (counts_noted on) counts) (ended_notes setup facts) ∙ fold-append (counts_noted on) counts (notes_pieces facts) (notes_then facts)
    ∙ all_uncounted on handed (notes_then facts) (then_uncounted facts) in
    subst (Counts (facts_ended_turn facts).view.links) (sym all)
    (subst (λ (after : Facts). Counts after.view.links handed) (sym (leaving_is (facts_handed facts)))
    (shut_counts (facts_handed facts).view.links (ends_for ending_in (facts_handed facts)) handed (pieces_counts (pieces_handed facts) facts.view counts counted)))

-- ---- any call of a turn

pub turn_counts : (setup : Setup) (facts : Facts) (step : Step) (counts : ℕ → ℕ) → IsInTurn step → Counts facts.view.links counts
    → Counts (facts_after setup facts step).view.links (fold (counts_noted facts.view.flow.on) counts (notes_after setup facts step))
turn_counts setup facts (HostOctet octet) counts turn counted = absurd turn
turn_counts setup facts (TurnBegins slot on) counts turn counted =
    quiet_follow facts.view.flow.on counts (facts_after setup facts (TurnBegins slot on)).view (notes_after setup facts (TurnBegins slot on))
    (quiet_uncounted (notes_after setup facts (TurnBegins slot on)) (begun_reports facts setup slot on)
    (λ handle. outside_open handle setup facts (TurnBegins slot on) refl))
    (start_keeps (λ of. Counts of.view.links counts) (λ of. Counts of.view.links counts) (counts_kept facts.view.flow.on counts) slot on facts counted)
turn_counts setup facts (PacketHeard octets) counts turn counted =
    let on = facts.view.flow.on in
    heard_is setup facts (λ outcome. Counts outcome.facts.view.links (fold (counts_noted on) counts (notes_passed outcome))) (phase_follow on counts setup facts counted)
    facts.turn.doing octets refl (λ handle. heard_follow on counts setup handle octets (facts_with_words setup handle facts) counted)
turn_counts setup facts NothingHeard counts turn counted =
    let on = facts.view.flow.on in
    unheard_is setup facts (λ outcome. Counts outcome.facts.view.links (fold (counts_noted on) counts (notes_passed outcome))) (phase_follow on counts setup facts counted)
    facts.turn.doing refl
turn_counts setup facts TurnEnds counts turn counted = end_follow setup facts counts counted
