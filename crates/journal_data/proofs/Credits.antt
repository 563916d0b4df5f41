-- In a run, where hosts send only between turns, what a host is credited is what was reported and its packets of no octet.
use Rattle.std.proofs.Common.{◌≡◌, ℕ, suc, ◌+◌, ◌<◌, ◌≤◌, Bool, true, false, Option, Some, None, List, [], ◌∷◌, ◌++◌, map, refl, ap, sym, subst, ◌∙◌, arith}
use Rattle.std.specs.Prelude.{filter, fold, nat_lt, if◌then◌else◌}
use Rattle.std.specs.Option.{option_map}
use Rattle.std.specs.List.{sum_by, AllByRecursion}
use Rattle.std.proofs.Math.Nat.{mod-eq_of_lt}
use Rattle.std.proofs.lemmas.Bool.{eq-eqb}
use Rattle.std.proofs.lemmas.List.Sums.{sum_by-append, sum_by-cons}
use Rattle.acl_banks.specs.declared.pieces.Piece.{Piece}
use Rattle.ble_base.specs.declared.notes.Note.{Note}
use Rattle.ble_base.specs.declared.notes.Note.TheVariants.{Up}
use Rattle.hci_evt.specs.Event.{written}
use Rattle.hci_evt.specs.declared.event.Event.TheVariants.{CompletedPackets}
use Rattle.host_view.specs.Flow.{left_of}
use Rattle.host_view.specs.Noted.{two_octets}
use Rattle.wire_fields.specs.Field.{little_endian}
use Rattle.journal_acks.specs.link_model.End.{facts_after as end_after, facts_of as end_facts, notes_after as end_notes}
use Rattle.journal_acks.specs.link_model.Receiving.{received_notes}
use Rattle.journal_acks.specs.link_model.Sending.{sent_notes}
use Rattle.journal_acks.specs.link_model.Facts.{Facts as EndFacts}
use Rattle.journal_acks.specs.link_model.Packets.{good_pdu}
use Rattle.journal_acks.specs.link_model.Setup.{Setup as EndSetup}
use Rattle.journal_acks.specs.link_model.Step.{Step as EndStep, DataGiven, EventEntered, PduFixed, PacketSent, PacketReceived, DataReported, ProcedureAsked, RequestAnswered, KeyAnswered, Disconnected, WordsGiven}
use Rattle.journal_acks.proofs.link_model.Pasts.{grows}
use Rattle.journal_acks.specs.open_links.Data.{complete_in, completed_from, link_reported, links_reported}
use Rattle.journal_acks.specs.open_links.OpenLinks.{OpenLink, facts_in, link_after, link_at}
use Rattle.journal_acks.proofs.open_links.UnderHandles.{map_at}
use Rattle.journal_acks.specs.controller_model.Between.{is_between_turns}
use Rattle.journal_acks.specs.controller_model.Data.{event_completed, note_received, notes_handed, notes_pieces, pieces_handed}
use Rattle.journal_acks.specs.controller_model.Events.{notes_of_events}
use Rattle.journal_acks.specs.controller_model.Facts.{Setup}
use Rattle.journal_acks.specs.controller_model.Side.{facts_of, notes_after, notes_of}
use Rattle.journal_acks.specs.controller_model.Since.{count_since, empties_of, is_completed_on, is_piece_on, note_completed, note_since, since_opened}
use Rattle.journal_acks.specs.controller_model.Step.{Step, HostOctet, TurnBegins, PacketHeard, NothingHeard, TurnEnds}
use Rattle.journal_acks.proofs.controller_model.BookEnds.{handing_book, reporting_book}
use Rattle.journal_acks.proofs.controller_model.Books.{Fact, IsBook, IsBookAfter, IsKeptInBook, IsSilent, and_then}
use Rattle.journal_acks.proofs.controller_model.BooksAlways.{book_of}
use Rattle.journal_acks.proofs.controller_model.Handing.{handed_are, handed_first}
use Rattle.journal_acks.proofs.controller_model.OtherNotes.{event_handle_is, two_octets_hold}
use Rattle.journal_acks.proofs.controller_model.PiecesBelow.{all_pieces}
use Rattle.journal_acks.specs.run_model.Feeding.{HasNoted}
use Rattle.journal_acks.specs.run_model.History.{Event, HostFed, noted_by, past_of, steps_in}
use Rattle.journal_acks.specs.run_model.Run.{Given, after_call, after_feed, after_octets, facts_at, setup_at, step_of}
use Rattle.journal_acks.proofs.run_model.Calls.{flat_nothing, past_own}
use Rattle.journal_acks.proofs.run_laws.OpenSteps.{open_has}
use Rattle.journal_data.proofs.Booked.{count_if, count_up}
use Rattle.journal_data.proofs.FewComplete.{HadFew, IsFedBetween, IsFew, MayFeed, between_more, fed_more, few_always, had_front, had_last, had_reported}
use Rattle.journal_data.proofs.DataSteps.{IsKeptByEnd, IsOwnStep, end_keeps}
use Rattle.journal_acks.proofs.controller_model.EndNotes.{sent_each, received_each}
use Rattle.journal_acks.proofs.controller_model.ReportBooks.{acked_same, given_same, sent_as_same}

-- ---- the count of a note

plain_up : (handle : ℕ) (note : Note) → is_completed_on handle note ≡ false → count_up handle note ≡ 0
plain_up handle (Up packet) is = ap (λ (test : Bool). count_if test packet.items) is
plain_up handle note is = refl

abbrev octets_completed : ℕ → ℕ → List ℕ
octets_completed handle count = written (CompletedPackets handle count)

pub count_octets : (handle count : ℕ) → count < 65536 → two_octets 6 (octets_completed handle count) ≡ count
unfolding little_endian
count_octets handle count few = two_octets_hold count ∙ mod-eq_of_lt few

count_completed : (handle count : ℕ) → handle < 65536 → count < 65536 → count_up handle (note_completed handle count) ≡ count
unfolding little_endian
count_completed handle count below few =
    ap (λ (test : Bool). count_if test (octets_completed handle count)) (eq-eqb _ handle (event_handle_is handle count below))
    ∙ count_octets handle count few

none_each : (handle : ℕ) (notes : List Note) → AllByRecursion (λ note. count_up handle note ≡ 0) notes → sum_by (count_up handle) notes ≡ 0
none_each handle [] none = refl
none_each handle (note ∷ notes) none =
    let both = sum_by-cons (count_up handle) note notes in
    let one = none.0 in
    let rest = none_each handle notes none.1 in
    omega (arith, both, one, rest)

none_sent : (handle : ℕ) (setup : EndSetup) (facts : EndFacts) → sum_by (count_up handle) (sent_notes setup facts) ≡ 0
none_sent handle setup facts =
    none_each handle (sent_notes setup facts) (sent_each (λ note. count_up handle note ≡ 0) setup facts (λ number llid octets. refl))

none_took : (handle : ℕ) (setup : EndSetup) (slot : ℕ) (room : Bool) (found : Option (List ℕ)) (facts : EndFacts)
    → sum_by (count_up handle) (received_notes setup slot room found facts) ≡ 0
none_took handle setup slot room found facts =
    none_each handle (received_notes setup slot room found facts)
    (received_each (λ note. count_up handle note ≡ 0) setup slot room found facts
    (record { took = λ number llid octets. refl; refused = λ kind code. refl; done = λ kind. refl }))

-- ---- what an end counts as reported

reported_kept : (reported : ℕ) → IsKeptByEnd (λ outgoing. outgoing.reported ≡ reported)
reported_kept reported = record {
  sending = record {
    fixed = λ limit pdu more again outgoing same. same;
    sent = λ payload is_new outgoing same. sent_as_same payload is_new outgoing ∙ same;
  };
  acked = λ acked outgoing same. acked_same acked outgoing ∙ same;
}

reported_own : (setup : EndSetup) (facts : EndFacts) (step : EndStep) → IsOwnStep step
    → (end_after setup facts step).outgoing.reported ≡ facts.outgoing.reported
reported_own setup facts step own =
    end_keeps (λ outgoing. outgoing.reported ≡ facts.outgoing.reported) (reported_kept facts.outgoing.reported) setup facts step own refl

reported_silent : (setup : EndSetup) (facts : EndFacts) (step : EndStep) → IsSilent step
    → (end_after setup facts step).outgoing.reported ≡ facts.outgoing.reported
reported_silent setup facts (DataGiven start body) is = given_same setup.link.handle start body facts.outgoing
reported_silent setup facts (ProcedureAsked ask) is = reported_own setup facts (ProcedureAsked ask) tt
reported_silent setup facts (RequestAnswered answer) is = refl
reported_silent setup facts (KeyAnswered key slot) is = refl
reported_silent setup facts (WordsGiven skd_s iv_s) is = refl
reported_silent setup facts (Disconnected reason slot) is = refl
reported_silent setup facts (EventEntered slot) is = reported_own setup facts (EventEntered slot) tt
reported_silent setup facts PduFixed is = reported_own setup facts PduFixed tt
reported_silent setup facts step is = absurd is

-- ---- the book

module _ (many handle most : ℕ) (few_links : many ≤ 4096) (few : most ≤ 65535) where
  -- if the packets that were complete and not reported were never more than this, an event has its count whole
  abbrev IsCounted : Fact
  IsCounted setup past waiting since count =
      HadFew most setup past → sum_by (count_up handle) since ≡ (end_facts setup past).outgoing.reported + count

  plain : (since more : List Note) (total : ℕ) → sum_by (count_up handle) more ≡ 0 → sum_by (count_up handle) since ≡ total
      → sum_by (count_up handle) (since ++ more) ≡ total
  plain since more total none is = let both = sum_by-append (count_up handle) since more in omega (arith, both, none, is)

  one_more : (since : List Note) (note : Note) (total count : ℕ) → count_up handle note ≡ count → sum_by (count_up handle) since ≡ total
      → sum_by (count_up handle) (since ++ note ∷ []) ≡ total + count
  one_more since note total count one is =
      let both = sum_by-append (count_up handle) since (note ∷ []) in
      let last : sum_by (count_up handle) (note ∷ []) ≡ 0 + count_up handle note = refl in
      omega (arith, both, last, one, is)

  one_plain : (since : List Note) (note : Note) (total : ℕ) → count_up handle note ≡ 0 → sum_by (count_up handle) since ≡ total
      → sum_by (count_up handle) (since ++ note ∷ []) ≡ total
  one_plain since note total none is = let more = one_more since note total 0 none is in omega (arith, more)

  reported_as : (setup : EndSetup) (past : List EndStep) (step : EndStep) (since : List Note) (count : ℕ)
      → (end_after setup (end_facts setup past) step).outgoing.reported ≡ (end_facts setup past).outgoing.reported
      → sum_by (count_up handle) since ≡ (end_facts setup past).outgoing.reported + count
      → sum_by (count_up handle) since ≡ (end_facts setup (past ++ step ∷ [])).outgoing.reported + count
  reported_as setup past step since count same is =
      is ∙ ap (λ n. n + count) (sym (ap (λ (facts : EndFacts). facts.outgoing.reported) (grows setup past step) ∙ same))

  first_counted : (setup : EndSetup) → sum_by (count_up handle) [] ≡ (end_facts setup []).outgoing.reported + 0
  unfolding end_facts
  first_counted setup = refl

  reported_more : (setup : EndSetup) (past : List EndStep) (since : List Note) (count complete : ℕ) → handle < many
      → (end_facts setup past).outgoing.complete ≡ suc complete → HadFew most setup past
      → sum_by (count_up handle) since ≡ (end_facts setup past).outgoing.reported + count
      → sum_by (count_up handle) (since ++ note_completed handle (suc complete) ∷ [])
      ≡ (end_facts setup (past ++ DataReported ∷ [])).outgoing.reported + count
  reported_more setup past since count complete below is had counted =
      let after = ap (λ (facts : EndFacts). facts.outgoing.reported) (grows setup past DataReported) in
      let last = had_last most setup past had in
      let one = count_completed handle (suc complete) (omega (arith, below, few_links)) (omega (arith, is, last, few)) in
      let more = one_more since (note_completed handle (suc complete)) _ (suc complete) one counted in
      omega (arith, more, after, is)

  counted_kept : IsKeptInBook many handle IsCounted
  counted_kept = record {
    opened = λ setup same had. first_counted setup;
    other = λ setup past waiting since count note is counted had.
        one_plain since note _ (plain_up handle note (is.completed_none few_links)) (counted had);
    silent = λ setup past waiting since count step is counted had.
        reported_as setup past step since count (reported_silent setup (end_facts setup past) step is) (counted (had_front most setup past step had));
    sent = λ setup past waiting since count slot same counted had.
        let facts = end_facts setup past in
        let more = end_notes setup facts (PacketSent slot) in
        reported_as setup past (PacketSent slot) (since ++ more) count (reported_own setup facts (PacketSent slot) tt)
        (plain since more _ (none_sent handle setup facts) (counted (had_front most setup past (PacketSent slot) had)));
    received = λ setup past waiting since count slot octets room same counted had.
        let facts = end_facts setup past in
        let more = end_notes setup facts (PacketReceived slot octets room) in
        reported_as setup past (PacketReceived slot octets room) (since ++ more) count
        (reported_own setup facts (PacketReceived slot octets room) tt)
        (plain since more _ (none_took handle setup slot room (good_pdu setup facts octets) facts)
        (counted (had_front most setup past (PacketReceived slot octets room) had)));
    handed = λ setup past piece waiting since count below same counted had. one_plain since (note_received piece) _ refl (counted had);
    reported = λ setup past waiting since count complete below is counted had.
        let front = had_front most setup past DataReported had in reported_more setup past since count complete below is front (counted front);
    emptied = λ setup past waiting since count below counted had.
        let more = one_more since (note_completed handle 1) _ 1 (count_completed handle 1 (omega (arith, below, few_links)) (omega arith)) (counted had) in
        omega (arith, more);
  }

-- in a controller whose host sends only between turns
pub credited_past : (setup : Setup) (past : List Step) (handle : ℕ) (link : OpenLink) → setup.links ≤ 4096 → setup.host_buffers ≤ 65535
    → IsFedBetween past → link_at handle (facts_of setup past).links ≡ Some link
    → sum_by (count_up handle) (since_opened handle (notes_of setup past)) ≡ (facts_in link).outgoing.reported + empties_of setup handle past
credited_past setup past handle link few_links few fed is =
    let most = setup.host_buffers in
    (book_of handle (IsCounted setup.links handle most few_links few) setup (counted_kept setup.links handle most few_links few) past link is).1
    (open_has (IsFew most) 0 handle (facts_of setup past).links link (few_always setup most past (omega arith) fed) is).1

-- and as a turn ends, also where the link ends then
pub credited_handed : (setup : Setup) (past : List Step) (handle : ℕ) (link : OpenLink) → setup.links ≤ 4096 → setup.host_buffers ≤ 65535
    → IsFedBetween past → link_at handle (facts_of setup past).links ≡ Some link
    → let handed = notes_handed (facts_of setup past) in
    sum_by (count_up handle) (fold (note_since handle) (since_opened handle (notes_of setup past)) handed)
    ≡ (facts_in (link_reported link)).outgoing.reported + fold (count_since handle) (empties_of setup handle past) handed
credited_handed setup past handle link few_links few fed is =
    let facts = facts_of setup past in
    let most = setup.host_buffers in
    let many = setup.links in
    let fact = IsCounted many handle most few_links few in
    let kept = counted_kept many handle most few_links few in
    let since = since_opened handle (notes_of setup past) in
    let count = empties_of setup handle past in
    let first = pieces_handed facts in
    let waits = filter (is_piece_on handle) in
    let left = waits (left_of facts.view facts.received) in
    let pieces = notes_pieces facts in
    let reports = notes_of_events facts.view (map event_completed (completed_from 0 facts.links)) in
    let reported = link_at handle (links_reported facts.links) in
    let whole = all_pieces setup past in
    let handed : IsBookAfter many handle fact (link_at handle facts.links) left since count pieces =
    subst (λ (place : Option OpenLink). IsBookAfter many handle fact place left since count pieces) (sym is)
    (handing_book many handle fact kept (Some link) first (left_of facts.view facts.received) since count
    (handed_are (λ (piece : ℕ × Piece). piece.0 < many) facts.view facts.received whole.below)
    (subst (λ (received : List (ℕ × Piece)). IsBook many handle fact (Some link) (waits received) since count)
    (sym (handed_first facts.view facts.received)) (book_of handle fact setup kept past link is))) in
    let after : IsBookAfter many handle fact reported left since count (pieces ++ reports) =
    and_then many handle fact kept reported left since count pieces reports
    (reporting_book many handle fact kept facts.view 0 facts.links left (fold (note_since handle) since pieces) (fold (count_since handle) count pieces)
    (omega (arith, whole.own.many)) handed) in
    let place : reported ≡ Some (link_reported link) = map_at (option_map link_reported) 0 handle facts.links refl ∙ ap (option_map link_reported) is in
    (subst (λ (place : Option OpenLink). IsBookAfter many handle fact place left since count (pieces ++ reports)) place after).1
    (had_then (nat_lt 0 (complete_in link)) (open_has (IsFew most) 0 handle facts.links link (few_always setup most past (omega arith) fed) is).1)
  where
    had_then : (some : Bool) → HadFew setup.host_buffers link.setup link.past
        → HadFew setup.host_buffers (if some then link_after DataReported link else link).setup (if some then link_after DataReported link else link).past
    had_then true had = had_reported setup.host_buffers link had
    had_then false had = had

-- ---- a station of a run

-- its host sent only between its turns
pub record AreFew (given : Given) (station : ℕ) (history : List Event) : Type 0 where
  pub fed : IsFedBetween (past_of station history)

pub few_first : (given : Given) (station : ℕ) → AreFew given station []
few_first given station = record { fed = tt }

same_past : (given : Given) (station : ℕ) (before after : List Event) → past_of station after ≡ past_of station before → AreFew given station before
    → AreFew given station after
same_past given station before after same few = record { fed = subst IsFedBetween (sym same) few.fed }

-- an event that is no call, and a call on another station
pub few_event : (given : Given) (station : ℕ) (history : List Event) (event : Event) → steps_in station event ≡ [] → AreFew given station history
    → AreFew given station (history ++ event ∷ [])
few_event given station history event none few =
    same_past given station history (history ++ event ∷ []) (flat_nothing (steps_in station) history event none) few

-- a call on the station
pub few_call : (given : Given) (station : ℕ) (step : Step) (history : List Event) → MayFeed (is_between_turns (past_of station history)) step
    → AreFew given station history → AreFew given station (after_call given station step history)
few_call given station step history may few = record {
  fed = subst IsFedBetween (sym (past_own station step (notes_after (setup_at given station) (facts_at given station history) step) history))
      (fed_more (past_of station history) step few.fed may);
}

pub few_begin : (given : Given) (station slot : ℕ) (on : Bool) (history : List Event) → AreFew given station history
    → AreFew given station (after_call given station (TurnBegins slot on) history)
few_begin given station slot on history few = few_call given station (TurnBegins slot on) history tt few

pub few_pass : (given : Given) (station : ℕ) (received : Option (List ℕ)) (history : List Event) → AreFew given station history
    → AreFew given station (after_call given station (step_of received) history)
few_pass given station None history few = few_call given station NothingHeard history tt few
few_pass given station (Some octets) history few = few_call given station (PacketHeard octets) history tt few

pub few_end : (given : Given) (station : ℕ) (history : List Event) → AreFew given station history
    → AreFew given station (after_call given station TurnEnds history)
few_end given station history few = few_call given station TurnEnds history tt few

-- octets of its host between turns, after which it is still between turns
pub record IsFedWell (given : Given) (station : ℕ) (history : List Event) : Type 0 where
  pub few : AreFew given station history
  pub between : is_between_turns (past_of station history) ≡ true

octet_fed : (given : Given) (station octet : ℕ) (history : List Event) → IsFedWell given station history
    → IsFedWell given station (after_call given station (HostOctet octet) history)
octet_fed given station octet history well = record {
  few = few_call given station (HostOctet octet) history well.between well.few;
  between = ap is_between_turns
      (past_own station (HostOctet octet) (notes_after (setup_at given station) (facts_at given station history) (HostOctet octet)) history)
      ∙ between_more (past_of station history) (HostOctet octet) ∙ well.between;
}

octets_fed : (given : Given) (station : ℕ) (octets : List ℕ) (history : List Event) → IsFedWell given station history
    → IsFedWell given station (after_octets given station octets history)
octets_fed given station [] history well = well
octets_fed given station (octet ∷ octets) history well =
    octets_fed given station octets (after_call given station (HostOctet octet) history) (octet_fed given station octet history well)

event_fed : (given : Given) (station : ℕ) (history : List Event) (event : Event) → steps_in station event ≡ [] → IsFedWell given station history
    → IsFedWell given station (history ++ event ∷ [])
event_fed given station history event none well = record {
  few = few_event given station history event none well.few;
  between = ap is_between_turns (flat_nothing (steps_in station) history event none) ∙ well.between;
}

pub feed_fed : (given : Given) (station : ℕ) (octets : List ℕ) (history : List Event) → IsFedWell given station history
    → IsFedWell given station (after_feed given station octets history)
feed_fed given station [] history well = well
feed_fed given station (octet ∷ octets) history well =
    octets_fed given station (octet ∷ octets) (history ++ HostFed station (octet ∷ octets) ∷ [])
    (event_fed given station history (HostFed station (octet ∷ octets)) refl well)

pub few_feed : (given : Given) (station : ℕ) (octets : List ℕ) (history : List Event) → is_between_turns (past_of station history) ≡ true
    → AreFew given station history → AreFew given station (after_feed given station octets history)
few_feed given station octets history between few = (feed_fed given station octets history (record { few = few; between = between })).few

-- ---- what its host is credited

pub credited : (given : Given) (station handle : ℕ) (history : List Event) (link : OpenLink) → (setup_at given station).links ≤ 4096
    → (setup_at given station).host_buffers ≡ 8 → HasNoted given station history → AreFew given station history
    → link_at handle (facts_at given station history).links ≡ Some link
    → sum_by (count_up handle) (since_opened handle (noted_by station history))
    ≡ (facts_in link).outgoing.reported + empties_of (setup_at given station) handle (past_of station history)
credited given station handle history link few_links eight noted few is =
    ap (λ (notes : List Note). sum_by (count_up handle) (since_opened handle notes)) noted
    ∙ credited_past (setup_at given station) (past_of station history) handle link few_links (omega (arith, eight)) few.fed is
