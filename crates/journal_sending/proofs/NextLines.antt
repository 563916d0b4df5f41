-- Each line of a new PDU is of the one that is next by the lines before it, with the next number.
use Rattle.std.proofs.Common.{◌≡◌, ℕ, ◌+◌, Bool, true, false, Some, List, [], ◌∷◌, ◌++◌, refl, sym, ap, subst, ◌∙◌, append_assoc}
use Rattle.std.specs.Prelude.{map, fold}
use Rattle.ble_base.specs.declared.notes.Note.{Note}
use Rattle.ble_base.specs.declared.notes.Note.TheVariants.{Up as UpNote, Sent as SentNote}
use Rattle.ble_base.specs.declared.roles.Side.{Side}
use Rattle.journal_leaving.specs.controller_model.Facts.{Facts}
use Rattle.journal_leaving.specs.controller_model.Since.{data_waiting}
use Rattle.journal_leaving.specs.controller_model.Side.{facts_after, facts_of as side_facts, notes_after}
use Rattle.journal_leaving.specs.controller_model.Step.{Step, HostOctet, PacketHeard, TurnBegins, TurnEnds}
use Rattle.journal_leaving.proofs.controller_model.Handles.{own_handles}
use Rattle.journal.specs.declared.entries.Entry.TheVariants.{Sent}
use Rattle.journal_leaving.specs.journal_data.Lines.{Lines, data_on, line_after, pdus_on}
use Rattle.journal_leaving.specs.journal_acks.link_calls.Uses.{fixes_under, listens_under, sends_under}
use Rattle.journal_leaving.specs.link_model.Acknowledgement.{Pdu}
use Rattle.journal_leaving.specs.link_model.Data.{next_piece, numbered}
use Rattle.journal_leaving.specs.link_model.End.{facts_after as end_after, facts_of as end_facts}
use Rattle.journal_leaving.specs.link_model.Facts.{Facts as EndFacts, keyed_of}
use Rattle.journal_leaving.specs.link_model.Fixing.{data_cut}
use Rattle.journal_leaving.specs.link_model.Setup.{Setup as EndSetup}
use Rattle.journal_leaving.specs.link_model.Step.{Step as EndStep, EventEntered}
use Rattle.journal_leaving.specs.journal_data.open_links.OpenLinks.{OpenLink, facts_in, link_at}
use Rattle.journal_leaving.specs.journal_data.open_links.Turns.{enters_in}
use Rattle.journal_leaving.specs.run_model.Feeding.{AreDistinct}
use Rattle.journal_leaving.specs.run_model.History.{Event, Called, Noted, packet_received, past_of}
use Rattle.journal_leaving.specs.run_model.Journal.{entry_of, journal_of, side_of}
use Rattle.journal_leaving.specs.run_model.LinkEnds.{HaveAddresses}
use Rattle.journal_leaving.specs.run_model.NoteLines.{sent_line}
use Rattle.journal_leaving.specs.run_model.Run.{Given, facts_at, history_of, run_of, setup_at, step_of}
use Rattle.journal_leaving.proofs.journal_data.EachLine.{call_leaves, lines_at}
use Rattle.journal_leaving.proofs.journal_data.Ends.{IsWell, sound}
use Rattle.journal_leaving.proofs.journal_data.FewLinks.{HaveFewLinks}
use Rattle.journal_leaving.proofs.journal_data.KeptData.{IsDataAt, data_kept}
use Rattle.journal_leaving.proofs.journal_data.Law.{first_data}
use Rattle.journal_leaving.proofs.journal_data.Submitting.{call_submits}
use Rattle.journal_leaving.proofs.journal_acks.Counting.{AreKnown}
use Rattle.journal_leaving.proofs.journal_acks.EachCall.{HaveCalls, OfCall, run_calls}
use Rattle.journal_leaving.proofs.journal_acks.Exchanging.{number_at, number_notes}
use Rattle.journal_leaving.proofs.journal_acks.FirstCounts.{IsCallOf, OfNone}
use Rattle.journal_leaving.proofs.journal_acks.KeptCounts.{begun_call, call_is}
use Rattle.journal_leaving.proofs.journal_acks.Known.{known_of}
use Rattle.journal_leaving.proofs.journal_acks.NewPdus.{between_turns, none_opened}
use Rattle.journal_leaving.proofs.journal_acks.TwoStations.{IsOfTwo}
use Rattle.journal_leaving.proofs.journal_acks.link_calls.CallNotes.{HasNoData, end_noted, is_sending, no_data, octet_noted}
use Rattle.journal_leaving.proofs.journal_acks.link_calls.LinkCalls.{turn_begun_under}
use Rattle.journal_leaving.proofs.journal_links.OfTwo.{are_distinct}
use Rattle.journal_leaving.proofs.journal_packets.AccessOrder.{AreNth}
use Rattle.journal_leaving.proofs.journal_packets.SoFar.{IsBelongingSoFar}
use Rattle.journal_leaving.proofs.link_model.Hearing.{IsHeardWhole}
use Rattle.journal_leaving.proofs.journal_data.run_laws.Agreed.{ack_of}
use Rattle.journal_leaving.proofs.journal_data.run_laws.DistinctAccess.{AreApart}
use Rattle.journal_leaving.proofs.journal_data.run_laws.LinkPhases.{begins_in}
use Rattle.journal_leaving.proofs.journal_data.run_laws.Hearings.{own_facts}
use Rattle.journal_leaving.proofs.run_model.Calls.{past_own}
use Rattle.journal_leaving.proofs.run_model.LinkEnds.{AreTaken, IsUnderstood}
use Rattle.journal_leaving.proofs.run_model.NoteLines.{line_in_call, to_line}
use Rattle.journal_leaving.proofs.run_model.Places.{each_at}
use Rattle.journal_leaving.proofs.run_model.Stations.{among, is_in}
use Rattle.journal_leaving.proofs.run_model.Walk.{Place}
use Rattle.journal_fixing.specs.NextPdu.{pdu_next}
use Rattle.journal_fixing.specs.OnLines.{control_fixing, control_going}
use Rattle.journal_fixing.specs.PastFixing.{facts_fixing, past_fixing}
use Rattle.journal_fixing.specs.journal_controls.TurnSteps.{first_if, steps_begun}
use Rattle.journal_fixing.specs.journal_controls.journal_ends.Asked.{Words}
use Rattle.journal_fixing.specs.journal_controls.journal_ends.GivenWords.{GivesWords}
use Rattle.journal_fixing.specs.link_model.keyed_control.Keyed.{Keyed}
use Rattle.journal_fixing.proofs.AnsweredLines.{fixing_in_answer, pdu_in_answer}
use Rattle.journal_fixing.proofs.journal_controls.Replies.{IsReply}
use Rattle.journal_fixing.proofs.BegunPdus.{fixing_in_begin, going_in_begin, pdu_in_begin}
use Rattle.journal_fixing.proofs.FixedPasts.{facts_begun}
use Rattle.journal_fixing.proofs.FixedSince.{since_in}
use Rattle.journal_fixing.proofs.FixingLinks.{sends_uses, user_fixes}
use Rattle.journal_fixing.proofs.GoingLinks.{control_acking}
use Rattle.journal_fixing.proofs.RunGoing.{going_in_call}
use Rattle.journal_fixing.proofs.journal_controls.FixedEnds.{begun_past}
use Rattle.journal_sending.specs.NextPdus.{AllNewPdusAreNext, IsNextPdu}
use Rattle.journal_sending.proofs.HeldOnLines.{IsOnLines, count_is, lines_by, piece_is}
use Rattle.journal_sending.proofs.SameData.{HasSameData, same_back, same_data, step_same}
use Rattle.journal_sending.proofs.SendsNext.{same_fixed}
use Rattle.journal_sending.proofs.SentNotes.{Answers, IsSentIn, IsSentLast, SendsFirst, begin_last, end_last, found_in, more_last, octet_last, phase_last}

-- ---- as its turn begins an end fixes its next PDU with the data that it had before

entering_same : (enters : Bool) (slot : ℕ) (base : OpenLink) → HasSameData (fold (end_after base.setup) (facts_in base) (first_if enters (EventEntered slot) [])) (facts_in base)
entering_same true slot base = step_same (EventEntered slot) base tt refl
entering_same false slot base = same_data (facts_in base)

begun_same : (base link : OpenLink) (enters fixes sends : Bool) (slot : ℕ) → link.setup ≡ base.setup → link.past ≡ base.past ++ steps_begun enters fixes sends slot → fixes ≡ true
    → HasSameData (facts_in base) (facts_fixing link.setup link.past)
begun_same base link enters fixes sends slot setup_is past_is fixing =
    let all_past = past_is ∙ ap (λ b. base.past ++ steps_begun enters b sends slot) fixing in
    let held_is = (λ i. facts_fixing (setup_is i) (all_past i)) ∙ facts_begun base.setup base.past enters sends slot in
    subst (HasSameData (facts_in base)) (sym held_is) (same_back _ (facts_in base) (entering_same enters slot base))

-- ---- the line in its call

-- after the notes before it in the call, its link has the number that it had before the call, and the side has said no
-- more of data
record IsCalledAt (given : Given) (station : ℕ) (history rest : List Event) (earlier later : List Note) (handle count llid : ℕ) (body : List ℕ) (step : Step) : Type 0 where
  at : history_of (run_of given) ≡ history ++ Called station step ∷ (map (Noted station) earlier ++ rest)
  notes_are : notes_after (setup_at given station) (facts_at given station history) step ≡ earlier ++ SentNote handle count llid (record { items = body }) ∷ later
  number : number_at station handle (history ++ Called station step ∷ map (Noted station) earlier) ≡ number_at station handle history
  submitted : (lines_at station (history ++ Called station step ∷ map (Noted station) earlier)).submitted ≡ (lines_at station history).submitted
  sent : (lines_at station (history ++ Called station step ∷ map (Noted station) earlier)).sent ≡ (lines_at station history).sent

pub same_lines : (number : ℕ) (before now : Lines) (held : EndFacts) → now.submitted ≡ before.submitted → now.sent ≡ before.sent → IsOnLines number before held → IsOnLines number now held
same_lines number before now held submitted sent is = record {
  given = (λ i. data_on number (record before { submitted = submitted i })) ∙ is.given;
  sent = ap (pdus_on number) sent ∙ is.sent;
}

module _ (words : Words) (heard_whole : IsHeardWhole) (understood : IsUnderstood) (taken : AreTaken) (nth : AreNth) (apart : AreApart) (given : Given) (are_two : IsOfTwo given)
    (few_links : HaveFewLinks given) (six : HaveAddresses given) (gives : GivesWords given words) (distinct : AreDistinct given.stations) (eight : (station : ℕ) → (setup_at given station).host_buffers ≡ 8)
    (station : ℕ) (history rest : List Event) (earlier later : List Note) (handle count llid : ℕ) (body : List ℕ) (in_it : is_in station given.stations ≡ true)
    (well : IsWell given station history) where
  abbrev facts : Facts
  facts = facts_at given station history

  abbrev now : Step → List Event
  now step = history ++ Called station step ∷ map (Noted station) earlier

  abbrev pdu : Pdu
  pdu = record { llid = llid; body = body }

  abbrev CalledAt : Step → Type 0
  CalledAt step = IsCalledAt given station history rest earlier later handle count llid body step

  abbrev NextAt : Step → Type 0
  NextAt step = IsNextPdu words (number_at station handle (now step)) (journal_of (now step)) (side_of station) count pdu

  -- by what the end held as it fixed the PDU
  lines_now : (step : Step) → CalledAt step → (old : OpenLink) → link_at handle facts.links ≡ Some old → (held : EndFacts) → HasSameData (facts_in old) held
      → IsOnLines (number_at station handle (now step)) (lines_at station (now step)) held
  lines_now step called old was held same =
      let booked = (sound given station handle history old (few_links.links station) (eight station) well was).booked in
      subst (λ n. IsOnLines n (lines_at station (now step)) held) (sym called.number)
      (same_lines (number_at station handle history) (lines_at station history) (lines_at station (now step)) held called.submitted called.sent
      (lines_by (number_at station handle history) (lines_at station history) (facts_in old) held (data_waiting handle facts.received) booked same))

  next_by : (step : Step) (setup : EndSetup) (past : List EndStep) → let held = end_facts setup past in IsOnLines (number_at station handle (now step)) (lines_at station (now step)) held
      → control_fixing words (side_of station) (number_at station handle (now step)) (journal_of (now step)) ≡ Some (keyed_of held)
      → (going : Keyed) → control_going words (side_of station) (number_at station handle (now step)) (journal_of (now step)) ≡ Some going
      → pdu ≡ pdu_next (keyed_of held) going (next_piece (data_cut held)) → count ≡ numbered held.acknowledgement.sent + 1 → NextAt step
  next_by step setup past lines fixing_is going going_is is numbered_is =
      let held = end_facts setup past in
      let number = number_at station handle (now step) in
      let all = lines_at station (now step) in record {
        fixing = keyed_of held;
        fixing_is = fixing_is;
        going = going;
        going_is = going_is;
        next = is ∙ ap (pdu_next (keyed_of held) going) (piece_is number all setup past lines);
        numbered = numbered_is ∙ ap (λ n. n + 1) (sym (count_is number all held lines));
      }

  begun_next : (slot : ℕ) (on : Bool) (old link : OpenLink) → CalledAt (TurnBegins slot on) → link_at handle facts.links ≡ Some old
      → link_at handle (facts_after (setup_at given station) facts (TurnBegins slot on)).links ≡ Some link
      → sends_under handle (facts_after (setup_at given station) facts (TurnBegins slot on)).turn.doing ≡ true → count ≡ numbered (ack_of old).sent + 1
      → NextAt (TurnBegins slot on)
  begun_next slot on old link called was at_then sends numbered_is =
      let setup = setup_at given station in
      let step = TurnBegins slot on in
      let next = facts_after setup facts step in
      let doing = next.turn.doing in
      let has = turn_begun_under setup facts slot on handle link at_then in
      let base = has.link in
      let same_old : base ≡ old = let some : Some base ≡ Some old = sym has.was ∙ was in cc in
      let fixing = user_fixes handle next.links doing (begins_in setup slot on facts) (sends_uses handle doing sends) in
      let held = facts_fixing link.setup link.past in
      let same = begun_same base link (enters_in slot base) (fixes_under handle doing) (sends_under handle doing) slot has.setup_is (has.past_is ∙ begun_past slot handle doing base) fixing in
      let of_old = subst (λ l. HasSameData (facts_in l) held) same_old same in
      let facts_now = ap (side_facts setup) (past_own station step earlier history ∙ sym (past_own station step (notes_after setup facts step) history)) ∙ own_facts given station step history in
      let is_open = ap (λ (f : Facts). link_at handle f.links) facts_now ∙ at_then in
      let after = map (Noted station) earlier ++ rest in
      let fixing_is =
      fixing_in_begin words heard_whole understood taken nth apart given are_two six gives history after station slot on handle count llid body earlier later link in_it called.at called.notes_are is_open in
      let going_is = going_in_begin words heard_whole understood taken nth apart given are_two six gives history after station slot on handle count llid body earlier later link in_it called.at called.notes_are is_open in
      next_by step link.setup (past_fixing link.past) (lines_now step called old was held of_old) fixing_is (keyed_of held) going_is
      (pdu_in_begin words heard_whole understood taken nth apart given are_two six gives history after station slot on handle count llid body earlier later link in_it called.at called.notes_are is_open
      (keyed_of held) (keyed_of held) fixing_is going_is)
      (numbered_is ∙ ap (λ (pdus : List Pdu). numbered pdus + 1) of_old.sent)

  answer_next : (octets : List ℕ) (link : OpenLink) → CalledAt (PacketHeard octets) → link_at handle facts.links ≡ Some link → listens_under handle facts.turn.doing ≡ true
      → IsReply link.setup (facts_in link) octets → count ≡ numbered (ack_of link).sent + 1
      → NextAt (PacketHeard octets)
  answer_next octets link called is_open on reply numbered_is =
      let step = PacketHeard octets in
      let held = facts_fixing link.setup link.past in
      let since = (since_in given history (Called station step ∷ (map (Noted station) earlier ++ rest)) station handle link distinct in_it called.at is_open).listens on reply.role in
      let same = subst (λ f. HasSameData f held) (sym since.1) (same_fixed link) in
      let fixing_is = fixing_in_answer words heard_whole understood taken nth apart given are_two six gives history rest octets station handle count llid body earlier later link in_it called.at called.notes_are is_open in
      let going = control_acking (facts_in link) reply.pdu in
      let going_is = ap (λ n. control_going words (side_of station) n (journal_of (now step))) called.number
      ∙ going_in_call words heard_whole understood taken nth apart given are_two six gives history rest octets reply.pdu earlier station handle link in_it called.at is_open on reply.good in
      next_by step link.setup (past_fixing link.past) (lines_now step called link is_open held same) fixing_is going going_is
      (pdu_in_answer words heard_whole understood taken nth apart given are_two six gives history rest octets station handle count llid body earlier later link in_it called.at called.notes_are is_open
      (keyed_of held) going fixing_is going_is)
      (numbered_is ∙ ap (λ (pdus : List Pdu). numbered pdus + 1) same.sent)

  next_in : (step : Step) → CalledAt step → IsSentIn (setup_at given station) facts step handle count → NextAt step
  next_in step called (SendsFirst slot on old link is was at_then sends numbered_is) =
      subst NextAt (sym is) (begun_next slot on old link (subst CalledAt is called) was at_then sends numbered_is)
  next_in step called (Answers octets link is is_open on reply numbered_is) =
      subst NextAt (sym is) (answer_next octets link (subst CalledAt is called) is_open on reply numbered_is)

-- ---- each call

record IsSaidIn (given : Given) (history : List Event) (station : ℕ) (step : Step) (handle count : ℕ) : Type 0 where
  in_it : is_in station given.stations ≡ true
  well : IsWell given station history
  sent : IsSentIn (setup_at given station) (facts_at given station history) step handle count

record IsNextCall (given : Given) (history : List Event) (station : ℕ) (step : Step) : Type 0 where
  last : IsSentLast (IsSaidIn given history station step) (notes_after (setup_at given station) (facts_at given station history) step)
  of : IsCallOf given station step history

said_last : (given : Given) (history : List Event) (station : ℕ) (step : Step) → is_in station given.stations ≡ true → IsWell given station history
    → IsSentLast (IsSentIn (setup_at given station) (facts_at given station history) step) (notes_after (setup_at given station) (facts_at given station history) step)
    → IsSentLast (IsSaidIn given history station step) (notes_after (setup_at given station) (facts_at given station history) step)
said_last given history station step in_it well last =
    more_last (IsSentIn (setup_at given station) (facts_at given station history) step) (IsSaidIn given history station step) _
    (λ handle count sent. record { in_it = in_it; well = well; sent = sent }) last

module _ (whole : IsHeardWhole) (given : Given) (Q : Place → List Event → Type 0) (known : AreKnown given Q) (are_two : IsOfTwo given) (six : HaveAddresses given)
    (distinct : AreDistinct given.stations) where
  have_next : HaveCalls given (IsNextCall given) (IsDataAt given Q)
  have_next = record {
    feeds = λ station octet history.
        let setup = setup_at given station in
        let facts = facts_at given station history in record {
          last = octet_last (IsSaidIn given history station (HostOctet octet)) setup facts octet;
          of = OfNone (octet_noted HasNoData no_data.feeds setup facts octet);
        };
    begins = λ plan slot done left station history are is next.
        let on = plan.radio_of station in
        let in_it = among given.stations done left station are in record {
          last = said_last given history station (TurnBegins slot on) in_it (is.are.well station in_it)
              (begin_last (setup_at given station) (facts_at given station history) (own_handles (setup_at given station) (past_of station history)) slot on);
          of = begun_call whole given Q known are_two six distinct done left station slot on history are
              (between_turns given Q distinct done left station history are is.counted).uses.in_turn is.counted;
        };
    passes = λ phases done left station history are is next.
        let received = packet_received station history in
        let in_it = among given.stations done left station are in record {
          last = said_last given history station (step_of received) in_it (is.are.well station in_it)
              (phase_last (setup_at given station) (facts_at given station history) (own_handles (setup_at given station) (past_of station history)) received);
          of = call_is given Q known distinct phases done left station history are is.counted next.counted.known next.counted.holds;
        };
    ends = λ done left station history are has.
        let setup = setup_at given station in
        let facts = facts_at given station history in record {
          last = end_last (IsSaidIn given history station TurnEnds) setup facts;
          of = OfNone (end_noted HasNoData no_data.feeds setup facts);
        };
  }

-- ---- a line

-- a note that sends none leaves the PDUs that are sent
pub sending_leaves : (lines : Lines) (side : Side) (link_of : ℕ → ℕ) (last : ℕ) (note : Note) → is_sending note ≡ false
    → (line_after 8 lines (entry_of side link_of last note)).sent ≡ lines.sent
sending_leaves lines side link_of last (SentNote handle number llid body) none = absurd cc
sending_leaves lines side link_of last (UpNote packet) none = refl
sending_leaves lines side link_of last note none = refl

pub next_of_lines : (words : Words) → IsHeardWhole → IsUnderstood → AreTaken → AreNth → AreApart → (given : Given) → IsOfTwo given → HaveFewLinks given → HaveAddresses given → GivesWords given words
    → ((station : ℕ) → (setup_at given station).host_buffers ≡ 8) → AllNewPdusAreNext words (journal_of (history_of (run_of given)))
next_of_lines words whole understood taken nth apart given are_two few_links six gives eight front rest side link count llid body is =
    let Q = IsBelongingSoFar given in
    let distinct = are_distinct given are_two in
    let known = known_of understood taken nth apart given are_two six in
    let line = sent_line side link count llid body in
    let call = line_in_call given front rest (Sent side link count llid body) line refl is in
    let station = call.station in
    let base = call.base in
    let step = call.step in
    let earlier = call.earlier in
    let handle = call.handle in
    let next : IsNextCall given base station step =
    each_at (OfCall given (IsNextCall given)) (history_of (run_of given)) base call.after (Called station step)
    (run_calls given (IsNextCall given) (IsDataAt given Q) (data_kept whole given Q known are_two few_links six distinct eight)
    (have_next whole given Q known are_two six distinct) (first_data given))
    call.called in
    let pdu : Pdu = record { llid = llid; body = body } in
    let notes = notes_after (setup_at given station) (facts_at given station base) step in
    let found = found_in (IsSaidIn given base station step) notes earlier call.later handle count pdu call.notes_are next.last in
    let after = Noted station (line.note handle) ∷ call.rest in
    let called : IsCalledAt given station base after earlier call.later handle count llid body step = record {
      at = call.is_at ∙ ap (λ xs. xs ++ after) call.before_is ∙ append_assoc base (Called station step ∷ map (Noted station) earlier) after;
      notes_are = call.notes_are;
      number = ap (number_at station handle) (sym (append_assoc base (Called station step ∷ []) (map (Noted station) earlier)))
          ∙ number_notes station handle step base earlier (none_opened given station step base earlier call.later handle count llid body call.notes_are next.of);
      submitted = call_submits station step earlier base;
      sent = call_leaves (λ note. is_sending note ≡ false) (λ lines. lines.sent) sending_leaves station step earlier base found.none;
    } in
    to_line given front line call (λ number entries one. IsNextPdu words number entries one count pdu)
    (subst (λ xs. IsNextPdu words (number_at station handle xs) (journal_of xs) (side_of station) count pdu) (sym call.before_is)
    (next_in words whole understood taken nth apart given are_two few_links six gives distinct eight station base after earlier call.later handle count llid body found.is.in_it found.is.well
    step called found.is.sent))
