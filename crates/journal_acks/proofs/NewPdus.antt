-- Each line of a new PDU comes where all PDUs before it on its side are acknowledged.
use Rattle.std.proofs.Common.{◌≡◌, ℕ, ◌-◌, ◌&&◌, not, Bool, true, false, Option, Some, None, List, [], ◌∷◌, ◌++◌, length, refl, sym, ap, subst, ◌∙◌, append_assoc}
use Rattle.std.specs.Prelude.{All, ⊤, map, if◌then◌else◌}
use Rattle.std.proofs.lemmas.Bool.{eqb-true}
use Rattle.std.proofs.lemmas.List.Elements.{All-append, All-cons, All-head, All-nil, All-tail}
use Rattle.ble_base.specs.declared.notes.Note.{Note}
use Rattle.ble_base.specs.declared.notes.Note.TheVariants.{Up as UpNote, Sent as SentNote}
use Rattle.ble_base.specs.declared.roles.Side.{Side}
use Rattle.journal.specs.declared.entries.Entry.{Entry}
use Rattle.journal.specs.declared.entries.Entry.TheVariants.{Sent}
use Rattle.journal_packets.specs.link_model.Acknowledgement.{Acknowledgement, Pdu, is_acked}
use Rattle.journal_packets.specs.link_model.Data.{is_empty, numbered}
use Rattle.journal_packets.specs.link_model.Setup.{Setup as EndSetup}
use Rattle.journal_packets.specs.link_model.Controls.{pdu_fixed}
use Rattle.journal_packets.specs.link_model.Sending.{sent_notes, sent_notes_if}
use Rattle.journal_packets.specs.link_model.Step.{PacketSent}
use Rattle.journal_packets.proofs.Replies.{receiving_setup as received_setup_is}
use Rattle.journal_packets.proofs.link_model.Hearing.{IsHeardWhole}
use Rattle.journal_packets.specs.open_links.OpenLinks.{OpenLink, facts_in, link_after, link_at}
use Rattle.journal_packets.proofs.open_links.Handles.{handle_is}
use Rattle.journal_packets.specs.controller_model.Step.{Step, HostOctet, TurnBegins, TurnEnds}
use Rattle.journal_packets.specs.controller_model.Facts.{Facts}
use Rattle.journal_packets.specs.controller_model.Heard.{has_room, link_heard, link_received, replies_in, reply_if}
use Rattle.journal_packets.specs.controller_model.Outcome.{notes_passed}
use Rattle.journal_packets.specs.controller_model.Packets.{notes_doing, notes_sent}
use Rattle.journal_packets.specs.controller_model.Radio.{outcome_begun}
use Rattle.journal_packets.specs.controller_model.Side.{notes_after}
use Rattle.journal_packets.proofs.controller_model.Places.{link_receiving}
use Rattle.link_calls.specs.run_model.Feeding.{AreDistinct}
use Rattle.link_calls.specs.run_model.History.{Event, Called, Noted, packet_received, turns_begun}
use Rattle.link_calls.specs.run_model.Journal.{journal_of, side_of}
use Rattle.link_calls.specs.run_model.LinkEnds.{HaveAddresses}
use Rattle.link_calls.specs.run_model.NoteLines.{sent_line}
use Rattle.link_calls.specs.run_model.Run.{Given, after_call, facts_at, history_of, run_of, setup_at, step_of}
use Rattle.link_calls.proofs.run_model.LinkEnds.{AreTaken, IsUnderstood}
use Rattle.link_calls.proofs.run_model.NoteLines.{line_in_call, to_line}
use Rattle.link_calls.proofs.run_model.Places.{each_at}
use Rattle.link_calls.proofs.run_model.Stations.{among, is_in, not_before}
use Rattle.link_calls.proofs.run_model.Walk.{Place, AtBegins, AtListening}
use Rattle.journal_packets.proofs.run_laws.Agreed.{ack_of}
use Rattle.journal_packets.proofs.run_laws.ByCalls.{Holds}
use Rattle.journal_packets.proofs.run_laws.DistinctAccess.{AreApart}
use Rattle.journal_packets.proofs.run_laws.InAgreement.{AreStations}
use Rattle.journal_packets.proofs.run_laws.TurnPlaces.{Between, Within, at_stage}
use Rattle.journal_packets.proofs.AccessOrder.{AreNth}
use Rattle.journal_packets.proofs.SoFar.{IsBelongingSoFar}
use Rattle.journal_acks.specs.Carried.{IsNewPdu}
use Rattle.link_calls.proofs.CallNotes.{HasNoData, IsOfStarts, all_more, end_noted, no_data, notes_starting, octet_noted, start_noted}
use Rattle.journal_acks.proofs.Counting.{AreKnown, plain}
use Rattle.journal_acks.proofs.DataCalls.{on_link_notes, own_begun, received_at, sent_at, unfound}
use Rattle.journal_acks.proofs.EachCall.{HaveCalls, OfCall, run_calls}
use Rattle.link_calls.proofs.CallNotes.{OpensNone}
use Rattle.journal_acks.proofs.Exchanging.{exchange_at, notes_counts, number_at, number_notes}
use Rattle.journal_acks.proofs.FirstCounts.{IsCallOf, IsOnly, OfLink, OfNone}
use Rattle.journal_acks.proofs.KeptCounts.{AreCountedAt, before_call, begun_call, call_is, counts_kept, station_is, was_taking}
use Rattle.journal_acks.proofs.KeptLines.{rests_deaf, rests_none}
use Rattle.journal_acks.proofs.Known.{known_of}
use Rattle.link_calls.proofs.LinkCalls.{IsOfTakes, base_ack, begins_under, received_noted}
use Rattle.link_calls.specs.Uses.{listens_under}
use Rattle.journal_acks.proofs.PhaseNotes.{IsOnLink, IsPhaseOf, IsPlainPhase, SendsFrom, SendsNothing, SendsOne, phase_of, same_but, sends_from}
use Rattle.journal_acks.proofs.RunCounts.{counts_first}
use Rattle.journal_acks.proofs.Standing.{PhasedBy, phased_at}
use Rattle.journal_acks.proofs.TwoStations.{IsOfTwo, same_number}
use Rattle.journal_acks.proofs.Worded.{link_worded, received_ack_is, worded, worded_heard, worded_here, worded_setup}

-- ---- the notes of a call

abbrev pub IsNewAt : ℕ → List Event → ℕ → Pdu → Type 0
IsNewAt number history station pdu = IsNewPdu number (journal_of history) (side_of station) pdu

-- a note in a call that comes after this history
abbrev IsNewNote : List Event → ℕ → Note → Type 0
IsNewNote history station (SentNote handle count llid body) = IsNewAt (number_at station handle history) history station (record { llid = llid; body = body.items })
IsNewNote history station note = ⊤

old_note : (history : List Event) (station : ℕ) (note : Note) → HasNoData note → IsNewNote history station note
old_note history station (SentNote handle count llid body) has = absurd (let h : true ≡ false = has.sends in absurd cc)
old_note history station (UpNote packet) has = tt
old_note history station note has = tt

starts_new : (history : List Event) (station : ℕ) → IsOfStarts (IsNewNote history station)
starts_new history station = record {
  feeds = record { up = λ octets. tt; shut = λ handle reason. tt };
  applied = λ handle number event. tt;
  entered = λ handle event channel. tt;
  done = λ handle kind. tt;
  began = λ handle kind. tt;
}

taking_new : (history : List Event) (station : ℕ) → IsOfTakes (IsNewNote history station)
taking_new history station = record {
  feeds = (starts_new history station).feeds;
  took = λ handle number llid octets. tt;
  refused = λ handle kind code. tt;
  done = λ handle kind. tt;
}

both_hold : (one other : Bool) → (one && not other) ≡ true → (one ≡ true) × (other ≡ false)
both_hold true true both = absurd cc
both_hold true false both = (refl, refl)
both_hold false other both = absurd cc

-- a link that sends a new PDU has all others acknowledged, as the journal counts
module _ (history : List Event) (station other : ℕ) (base : OpenLink) (own : base.setup.link.handle ≡ other)
    (acked : (exchange_at (number_at station other history) history (side_of station)).acked ≡ (ack_of base).acked)
    (sent : (exchange_at (number_at station other history) history (side_of station)).sent ≡ length (ack_of base).sent) where
  abbrev pdu : Pdu
  pdu = pdu_fixed (facts_in base)

  new_if : (noted : Bool) → (is_acked (ack_of base) && not (is_empty pdu)) ≡ noted
      → All (IsNewNote history station) (sent_notes_if noted base.setup.link.handle (numbered (ack_of base).sent) pdu)
  new_if false is = All-nil (IsNewNote history station)
  new_if true is =
      let holds = both_hold (is_acked (ack_of base)) (is_empty pdu) is in
      All-cons (IsNewNote history station) _ []
      (subst (λ n. IsNewAt (number_at station n history) history station pdu) (sym own) (record {
        all_acked = acked ∙ eqb-true (ack_of base).acked (length (ack_of base).sent) holds.0 ∙ sym sent;
        not_empty = holds.1;
      })) (All-nil (IsNewNote history station))

  new_sent : All (IsNewNote history station) (sent_notes base.setup (facts_in base))
  new_sent = new_if _ refl

-- ---- each call

abbrev AreNew : Given → List Event → ℕ → Step → Type 0
AreNew given history station step = All (IsNewNote history station) (notes_after (setup_at given station) (facts_at given station history) step)

record IsNewCall (given : Given) (history : List Event) (station : ℕ) (step : Step) : Type 0 where
  new : AreNew given history station step
  of : IsCallOf given station step history

octet_new : (given : Given) (history : List Event) (station octet : ℕ) → IsNewCall given history station (HostOctet octet)
octet_new given history station octet =
    let setup = setup_at given station in
    let facts = facts_at given station history in record {
      new = octet_noted (IsNewNote history station) (starts_new history station).feeds setup facts octet;
      of = OfNone (octet_noted HasNoData no_data.feeds setup facts octet);
    }

end_new : (given : Given) (history : List Event) (station : ℕ) → IsNewCall given history station TurnEnds
end_new given history station =
    let setup = setup_at given station in
    let facts = facts_at given station history in record {
      new = end_noted (IsNewNote history station) (starts_new history station).feeds setup facts;
      of = OfNone (end_noted HasNoData no_data.feeds setup facts);
    }

-- a station that has not begun the turn
pub between_turns : (given : Given) (Q : Place → List Event → Type 0) (distinct : AreDistinct given.stations) (done left : List ℕ) (station : ℕ) (history : List Event)
    → given.stations ≡ done ++ station ∷ left → AreCountedAt given Q (AtBegins done (station ∷ left)) history
    → PhasedBy given history station (at_stage Between (turns_begun history - 1))
between_turns given Q distinct done left station history are is =
    subst (λ b. PhasedBy given history station (if b then at_stage (Within 0) (turns_begun history) else at_stage Between (turns_begun history - 1)))
    (not_before given.stations done left station distinct are)
    (phased_at given (AtBegins done (station ∷ left)) history is.holds.hearing.stand station (among given.stations done left station are))

begin_new : (given : Given) (Q : Place → List Event → Type 0) (distinct : AreDistinct given.stations) (done left : List ℕ) (station slot : ℕ) (on : Bool) (history : List Event)
    → given.stations ≡ done ++ station ∷ left → AreCountedAt given Q (AtBegins done (station ∷ left)) history → AreNew given history station (TurnBegins slot on)
begin_new given Q distinct done left station slot on history are is =
    let setup = setup_at given station in
    let facts = facts_at given station history in
    let start = notes_starting slot facts in
    All-append (IsNewNote history station) start _ (start_noted (IsNewNote history station) (starts_new history station) slot facts)
    (by (sends_from (outcome_begun slot on facts).next (outcome_begun slot on facts).facts))
  where
    in_it : is_in station given.stations ≡ true
    in_it = among given.stations done left station are

    rests : PhasedBy given history station (at_stage Between (turns_begun history - 1))
    rests = between_turns given Q distinct done left station history are is

    by : SendsFrom (outcome_begun slot on (facts_at given station history)).next (outcome_begun slot on (facts_at given station history)).facts
        → All (IsNewNote history station) (notes_doing (outcome_begun slot on (facts_at given station history)).next (outcome_begun slot on (facts_at given station history)).facts)
    by (SendsNothing none) = subst (All (IsNewNote history station)) (sym none) (All-nil (IsNewNote history station))
    by (SendsOne other base found sends noted) =
        let setup = setup_at given station in
        let facts = facts_at given station history in
        let outcome = outcome_begun slot on facts in
        let after = link_after (PacketSent outcome.facts.turn.slot) base in
        let begun = begins_under setup facts slot on other after (sent_at outcome.facts.turn.slot other outcome.next outcome.facts.links base sends found) in
        let end = exchange_at (number_at station other history) history (side_of station) in
        let before = plain true (packet_received station history) other facts.turn begun.link end (rests_none other facts.turn.doing rests.phase)
        (rests_deaf other facts.turn.doing (packet_received station history) rests.phase) (is.counted station other begun.link in_it begun.was) in
        let same = base_ack facts slot on other _ after begun in
        let base_is : begun.base ≡ base = let some : Some begun.base ≡ Some base = sym begun.found ∙ found in cc in
        subst (All (IsNewNote history station)) (sym noted)
        (new_sent history station other base
        (handle_is 0 other outcome.facts.links base (own_begun setup slot on facts (is.holds.so_far.last.each station in_it).own).handles found)
        (before.acked ∙ ap (λ a. a.acked) (sym same) ∙ ap (λ (l : OpenLink). (ack_of l).acked) base_is)
        (before.sent ∙ ap (λ a. length a.sent) (sym same) ∙ ap (λ (l : OpenLink). length (ack_of l).sent) base_is))

module _ (given : Given) (Q : Place → List Event → Type 0) (known : AreKnown given Q) (distinct : AreDistinct given.stations) (phases : ℕ) (done left : List ℕ) (station : ℕ) (history : List Event)
    (are : given.stations ≡ done ++ station ∷ left) (is : AreCountedAt given Q (AtListening phases done (station ∷ left)) history)
    (q : Q (AtListening phases (done ++ station ∷ []) left) (after_call given station (step_of (packet_received station history)) history))
    (holds : Holds given (AreStations given) (AtListening phases (done ++ station ∷ []) left) (after_call given station (step_of (packet_received station history)) history)) where
  abbrev received : Option (List ℕ)
  received = packet_received station history

  abbrev facts : Facts
  facts = facts_at given station history

  abbrev room : Bool
  room = has_room (setup_at given station) facts

  abbrev heard_as : Bool → ℕ → Facts
  heard_as words other = worded words (setup_at given station) other facts

  reply_new : (words : Bool) (other : ℕ) (octets : List ℕ) (base : OpenLink) (replies : Bool) → link_at other facts.links ≡ Some base → received ≡ Some octets
      → listens_under other facts.turn.doing ≡ true → All (IsNewNote history station) (notes_doing (reply_if replies other) (link_received other room octets (heard_as words other)))
  reply_new words other octets base false was some on = All-nil (IsNewNote history station)
  reply_new words other octets base true was some on =
      let setup = setup_at given station in
      let slot = facts.turn.slot in
      let heard_base = link_worded words setup facts base in
      let taken = link_receiving other room octets (heard_as words other) heard_base in
      let end = exchange_at (number_at station other history) history (side_of station) in
      let counts = was_taking received octets other facts.turn base end on some (before_call given Q known distinct phases done left station history are is q holds other base was) in
      let but = same_but slot octets false room base in
      let same = received_ack_is other room octets (heard_as words other) heard_base ∙ worded_heard setup facts base words slot octets room in
      subst (All (IsNewNote history station))
      (sym (ap (notes_sent slot) (received_at other octets room (heard_as words other) heard_base (worded_here words setup other facts (Some base) was))))
      (new_sent history station other taken
      (ap (λ (one : EndSetup). one.link.handle) (received_setup_is other room octets (heard_as words other) heard_base ∙ worded_setup setup facts base words)
      ∙ handle_is 0 other facts.links base (station_is given Q known distinct phases done left station history are is q holds).own.handles was)
      (counts.acked ∙ but.acked ∙ ap (λ (a : Acknowledgement). a.acked) (sym same)) (counts.sent ∙ ap length but.sent ∙ ap (λ (a : Acknowledgement). length a.sent) (sym same)))

  phase_new : AreNew given history station (step_of received)
  phase_new = by (phase_of (setup_at given station) facts received)
    where
      found_new : (words : Bool) (other : ℕ) (octets : List ℕ) → packet_received station history ≡ Some octets
          → listens_under other (facts_at given station history).turn.doing ≡ true → (found : Option OpenLink) → link_at other (facts_at given station history).links ≡ found
          → All (IsNewNote history station) (notes_passed (link_heard (setup_at given station) other octets (worded words (setup_at given station) other (facts_at given station history))))
      found_new words other octets some on None absent =
          subst (All (IsNewNote history station))
          (sym (unfound (setup_at given station) (heard_as words other) other octets (worded_here words (setup_at given station) other facts None absent))) (All-nil (IsNewNote history station))
      found_new words other octets some on (Some base) was =
          let setup = setup_at given station in
          let heard = heard_as words other in
          All-append (IsNewNote history station) (link_heard setup other octets heard).notes _
          (received_noted (IsNewNote history station) (taking_new history station) setup other octets heard)
          (reply_new words other octets base (replies_in facts.turn.slot room (link_at other heard.links) octets) was some on)

      by : IsPhaseOf (setup_at given station) (facts_at given station history) (packet_received station history) → AreNew given history station (step_of (packet_received station history))
      by (IsPlainPhase none plain_too) = all_more HasNoData (IsNewNote history station) (old_note history station) _ plain_too
      by (IsOnLink other words octets some listens heard_is) =
          subst (All (IsNewNote history station))
          (sym (on_link_notes (setup_at given station) facts received octets (link_heard (setup_at given station) other octets (heard_as words other)) some (ap notes_passed heard_is)))
          (found_new words other octets some (listens other ∙ same_number other) (link_at other facts.links) refl)

-- ---- at each place of a run

module _ (whole : IsHeardWhole) (given : Given) (Q : Place → List Event → Type 0) (known : AreKnown given Q) (are_two : IsOfTwo given) (six : HaveAddresses given)
    (distinct : AreDistinct given.stations) where
  have_new : HaveCalls given (IsNewCall given) (AreCountedAt given Q)
  have_new = record {
    feeds = λ station octet history. octet_new given history station octet;
    begins = λ plan slot done left station history are is next. record {
      new = begin_new given Q distinct done left station slot (plan.radio_of station) history are is;
      of = begun_call whole given Q known are_two six distinct done left station slot (plan.radio_of station) history are
          (between_turns given Q distinct done left station history are is).uses.in_turn is;
    };
    passes = λ phases done left station history are is next. record {
      new = phase_new given Q known distinct phases done left station history are is next.known next.holds;
      of = call_is given Q known distinct phases done left station history are is next.known next.holds;
    };
    ends = λ done left station history are has. end_new given history station;
  }

-- ---- a line

pub in_middle : (P : Note → Type 0) (earlier later : List Note) (note : Note) → All P (earlier ++ note ∷ later) → P note
in_middle P [] later note all = All-head P note later all
in_middle P (first ∷ earlier) later note all = in_middle P earlier later note (All-tail P first (earlier ++ note ∷ later) all)

pub first_part : (P : Note → Type 0) (earlier later : List Note) → All P (earlier ++ later) → All P earlier
first_part P [] later all = All-nil P
first_part P (first ∷ earlier) later all =
    All-cons P first earlier (All-head P first (earlier ++ later) all) (first_part P earlier later (All-tail P first (earlier ++ later) all))

-- before a note of a new PDU no link is opened under its handle
pub none_opened : (given : Given) (station : ℕ) (step : Step) (base : List Event) (earlier later : List Note) (handle count llid : ℕ) (body : List ℕ)
    → notes_after (setup_at given station) (facts_at given station base) step ≡ earlier ++ SentNote handle count llid (record { items = body }) ∷ later
    → IsCallOf given station step base → All (OpensNone handle) earlier
none_opened given station step base earlier later handle count llid body are (OfNone none) =
    let note = SentNote handle count llid (record { items = body }) in
    absurd (let h : true ≡ false = (in_middle HasNoData earlier later note (subst (All HasNoData) are none)).sends in absurd cc)
none_opened given station step base earlier later handle count llid body are (OfLink other link is before only opens) =
    let note = SentNote handle count llid (record { items = body }) in
    let same : handle ≡ other = in_middle (IsOnly other) earlier later note (subst (All (IsOnly other)) are only) in
    first_part (OpensNone handle) earlier (note ∷ later) (subst (All (OpensNone handle)) are (subst (λ n. All (OpensNone n) (notes_after (setup_at given station) (facts_at given station base) step)) (sym same) opens))

new_after : (given : Given) (station : ℕ) (step : Step) (base before : List Event) (earlier later : List Note) (handle count llid : ℕ) (body : List ℕ)
    → notes_after (setup_at given station) (facts_at given station base) step ≡ earlier ++ SentNote handle count llid (record { items = body }) ∷ later
    → before ≡ base ++ Called station step ∷ map (Noted station) earlier → IsNewCall given base station step
    → IsNewAt (number_at station handle before) before station (record { llid = llid; body = body })
new_after given station step base before earlier later handle count llid body are before_is call =
    let note = SentNote handle count llid (record { items = body }) in
    let new = in_middle (IsNewNote base station) earlier later note (subst (All (IsNewNote base station)) are call.new) in
    let whole = before_is ∙ sym (append_assoc base (Called station step ∷ []) (map (Noted station) earlier)) in
    let number = number_at station handle base in
    let counts = notes_counts number station step base (side_of station) earlier in
    let same = number_notes station handle step base earlier (none_opened given station step base earlier later handle count llid body are call.of) in
    subst (λ xs. IsNewAt (number_at station handle xs) xs station (record { llid = llid; body = body })) (sym whole)
    (subst (λ n. IsNewAt n ((base ++ Called station step ∷ []) ++ map (Noted station) earlier) station (record { llid = llid; body = body })) (sym same) (record {
      all_acked = counts.acked ∙ new.all_acked ∙ sym counts.sent;
      not_empty = new.not_empty;
    }))

pub sent_line_is_new : IsHeardWhole → IsUnderstood → AreTaken → AreNth → AreApart → (given : Given) → IsOfTwo given → HaveAddresses given → AreDistinct given.stations
    → (front rest : List Entry) (side : Side) (number count llid : ℕ) (body : List ℕ) → journal_of (history_of (run_of given)) ≡ front ++ Sent side number count llid body ∷ rest
    → IsNewPdu number front side (record { llid = llid; body = body })
sent_line_is_new whole understood taken nth apart given are_two six distinct front rest side number count llid body is =
    let Q = IsBelongingSoFar given in
    let known = known_of understood taken nth apart given are_two six in
    let line = sent_line side number count llid body in
    let call = line_in_call given front rest (Sent side number count llid body) line refl is in
    to_line given front line call (λ link entries one. IsNewPdu link entries one (record { llid = llid; body = body }))
    (new_after given call.station call.step call.base call.before call.earlier call.later call.handle count llid body call.notes_are call.before_is
    (each_at (OfCall given (IsNewCall given)) (history_of (run_of given)) call.base call.after (Called call.station call.step)
    (run_calls given (IsNewCall given) (AreCountedAt given Q) (counts_kept whole given Q known are_two six distinct) (have_new whole given Q known are_two six distinct) (counts_first given))
    call.called))
