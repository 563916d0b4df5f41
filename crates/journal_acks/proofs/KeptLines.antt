-- Each step of a run of a pair keeps which PDU the lines of new PDUs say that an end has sent last.
use Rattle.std.proofs.Common.{◌≡◌, ℕ, ◌+◌, ◌-◌, ◌<◌, ◌==◌, ◌&&◌, not, Bool, true, false, Option, Some, None, List, [], ◌∷◌, ◌++◌, length, refl, sym, ap, subst, ◌∙◌, append-nil, arith}
use Rattle.std.specs.Prelude.{All, map, take, if◌then◌else◌}
use Rattle.std.proofs.lemmas.Bool.{eqb-true, eq-eqb, false_from_ne_true, ne_eqb}
use Rattle.std.proofs.lemmas.List.{length_push}
use Rattle.std.proofs.lemmas.List.Elements.{All-nil}
use Rattle.ble_base.specs.declared.notes.Note.{Note}
use Rattle.journal_packets.specs.link_model.Acknowledgement.{Acknowledgement, Pdu, empty_pdu, first_acknowledgement, is_acked, next_sent}
use Rattle.journal_packets.specs.link_model.Data.{is_empty, numbered}
use Rattle.journal_packets.specs.link_model.Setup.{Setup as EndSetup}
use Rattle.journal_packets.specs.link_model.Controls.{pdu_fixed}
use Rattle.journal_packets.specs.link_model.Sending.{sent_notes_if}
use Rattle.journal_packets.specs.link_model.Facts.{Facts as EndFacts}
use Rattle.journal_packets.proofs.Replies.{receiving_setup as received_setup_is}
use Rattle.journal_packets.proofs.link_model.Agreeing.{ack_ahead as sent_ack}
use Rattle.journal_packets.proofs.link_model.Hearing.{IsHeardWhole}
use Rattle.journal_packets.specs.link_model.Step.{PacketReceived, PacketSent}
use Rattle.journal_packets.specs.open_links.OpenLinks.{OpenLink, facts_in, link_after, link_at}
use Rattle.journal_packets.proofs.open_links.Handles.{handle_is}
use Rattle.journal_packets.specs.controller_model.declared.doing.Doing.{Doing}
use Rattle.journal_packets.specs.controller_model.declared.doing.Doing.TheVariants.{Rests}
use Rattle.journal_packets.specs.controller_model.Step.{Step, HostOctet, TurnBegins, TurnEnds}
use Rattle.journal_packets.specs.controller_model.Facts.{Setup, Facts}
use Rattle.journal_packets.specs.controller_model.Heard.{has_room, heard as phase_heard, link_heard, link_received, replies_in, reply_if}
use Rattle.journal_packets.specs.controller_model.Outcome.{Outcome, facts_passed, notes_passed}
use Rattle.journal_packets.specs.controller_model.Packets.{notes_doing}
use Rattle.journal_packets.specs.controller_model.Radio.{outcome_begun}
use Rattle.journal_packets.specs.controller_model.Side.{facts_after, notes_after}
use Rattle.journal_packets.proofs.controller_model.Places.{link_receiving}
use Rattle.link_calls.specs.run_model.Feeding.{AreDistinct}
use Rattle.link_calls.specs.run_model.History.{Event, TurnBegan, HostFed, Transmitted, packet_received, steps_in, turns_begun}
use Rattle.link_calls.specs.run_model.Journal.{side_of}
use Rattle.link_calls.specs.run_model.LinkEnds.{HaveAddresses}
use Rattle.link_calls.specs.run_model.Run.{Given, after_call, after_feed, after_octets, facts_at, hearings_of, octets_left, setup_at, step_of}
use Rattle.link_calls.proofs.run_model.Calls.{turns_called}
use Rattle.link_calls.proofs.run_model.Stations.{is_in, among, not_before}
use Rattle.link_calls.proofs.run_model.Walk.{Place, AtBegins, AtListening, IsKept}
use Rattle.journal_packets.proofs.run_laws.Agreed.{ack_of, ack_sent}
use Rattle.journal_packets.proofs.run_laws.ByCalls.{Holds}
use Rattle.journal_packets.proofs.run_laws.Hearings.{other_facts, own_facts}
use Rattle.journal_packets.proofs.run_laws.InAgreement.{AreStations, IsFresh, IsStation, differs_back}
use Rattle.journal_packets.proofs.run_laws.OpenSteps.{open_has}
use Rattle.journal_packets.proofs.run_laws.TurnPlaces.{Between, Within, at_stage}
use Rattle.journal_packets.proofs.run_laws.TurnSteps.{phase_turn}
use Rattle.journal_packets.specs.Belonging.{is_side}
use Rattle.journal_acks.specs.Carried.{SentLine, pdu_carried}
use Rattle.link_calls.proofs.CallNotes.{HasNoData, SendsNone, all_more, begin_noted, end_noted, no_data, notes_starting, octet_noted, start_noted}
use Rattle.journal_acks.proofs.Counting.{AreCountedSo, AreKnown, HaveOwnNumbers, apart_numbers, facts_event, plain}
use Rattle.journal_acks.proofs.DataCalls.{on_link_facts, on_link_notes, own_begun, received_at, unfound}
use Rattle.link_calls.proofs.CallNotes.{OpensNone, opening_none}
use Rattle.journal_acks.proofs.Exchanging.{exchange_at, number_at, number_called, number_other, number_quiet, number_sent}
use Rattle.journal_acks.proofs.FirstCounts.{first_called, first_of}
use Rattle.link_calls.specs.Ranges.{HasRanges}
use Rattle.link_calls.proofs.InRange.{ranges_before}
use Rattle.link_calls.proofs.Pieces.{fixed_whole}
use Rattle.journal_acks.proofs.KeptCounts.{AreCountedAt, before_call, call_is, counts_kept, link_then, own_at, phased, station_is, was_taking}
use Rattle.link_calls.proofs.LinkCalls.{HasBegun, base_ack, begins_under, begun_before, received_noted, taking_opens, taking_sends}
use Rattle.link_calls.specs.Phases.{HasPassed, IsNew, Stays, Takes}
use Rattle.link_calls.specs.Uses.{listens_under, sends_under}
use Rattle.journal_acks.proofs.PassedLinks.{passed_or_new}
use Rattle.journal_acks.proofs.PhaseNotes.{IsOnLink, IsPhaseOf, IsPlainPhase, HasSentSame, SendsFrom, SendsNothing, SendsOne, doing_notes, notes_when, phase_of, same_but, sends_from, sent_same}
use Rattle.journal_acks.proofs.SentLines.{air_line, feed_line, line_called, line_other, line_sent, sent_line_at, turn_line}
use Rattle.journal_acks.proofs.Standing.{PhasedBy, phased_at, reply_under, sends_once}
use Rattle.journal_acks.proofs.TwoStations.{IsOfTwo, other_is, same_number, side_differs}
use Rattle.link_calls.proofs.UnderHandles.{end_under, octet_under}
use Rattle.link_calls.specs.Turns.{sent_if}
use Rattle.journal_acks.proofs.Worded.{link_worded, received_ack_is, worded, worded_heard, worded_here, worded_setup}

-- the PDU that an end has sent last is that of the line, if no other was sent since, and else an empty one
pub record IsLined (line : Option SentLine) (ack : Acknowledgement) : Type 0 where
  pub earlier : (one : SentLine) → line ≡ Some one → one.acked < length ack.sent
  pub last : (count : ℕ) → count + 1 ≡ length ack.sent → ack.last ≡ pdu_carried line count

pub first_lined : IsLined None first_acknowledgement
first_lined = record { earlier = λ one is. absurd cc; last = λ count is. refl }

-- ---- an end that sends

abbrev pub line_next : Bool → EndFacts → ℕ → Option SentLine → Option SentLine
line_next true facts acked line = Some (record { pdu = record { llid = (pdu_fixed facts).llid; body = (pdu_fixed facts).body }; acked = acked })
line_next false facts acked line = line

-- no line is of the PDU that comes next
unlined : (line : Option SentLine) (count : ℕ) → ((one : SentLine) → line ≡ Some one → one.acked < count) → pdu_carried line count ≡ empty_pdu
unlined None count earlier = refl
unlined (Some one) count earlier =
    ap (λ b. if b then one.pdu else empty_pdu) (ne_eqb one.acked count (λ same. let low = earlier one refl in omega (arith, same, low)))

same_line : (one : SentLine) (acked : ℕ) (pdu : Pdu) → Some (record { pdu = pdu; acked = acked }) ≡ Some one → acked ≡ one.acked
same_line one acked pdu is = cc

sends_lined : (acked empty : Bool) (facts : EndFacts) (count : ℕ) (line : Option SentLine) → is_acked facts.acknowledgement ≡ acked → is_empty (pdu_fixed facts) ≡ empty
    → (empty ≡ true → pdu_fixed facts ≡ empty_pdu) → count ≡ facts.acknowledgement.acked → IsLined line facts.acknowledgement
    → IsLined (line_next (acked && not empty) facts count line) (next_sent acked (pdu_fixed facts) facts.acknowledgement)
sends_lined false empty facts count line is empty_is none same lined = record { earlier = lined.earlier; last = lined.last }
sends_lined true false facts count line is empty_is none same lined =
    let ack = facts.acknowledgement in
    let all = eqb-true ack.acked (length ack.sent) is in
    let more = length_push ack.sent (pdu_fixed facts) in record {
      earlier = λ one one_is. let low = same_line one count _ one_is in omega (arith, low, same, all, more);
      last = λ next next_is. sym (ap (λ b. if b then pdu_fixed facts else empty_pdu) (eq-eqb count next (omega (arith, same, all, more, next_is))));
    }
sends_lined true true facts count line is empty_is none same lined =
    let ack = facts.acknowledgement in
    let more = length_push ack.sent (pdu_fixed facts) in record {
      earlier = λ one one_is. let low = lined.earlier one one_is in omega (arith, low, more);
      last = λ next next_is. none refl ∙ sym (unlined line next (λ one one_is. let low = lined.earlier one one_is in omega (arith, low, more, next_is)));
    }

-- what an end sent is the same
lined_same : (line : Option SentLine) (one other : Acknowledgement) → HasSentSame other one → IsLined line one → IsLined line other
lined_same line one other same lined = record {
  earlier = λ item item_is. subst (λ pdus. item.acked < length pdus) (sym same.sent) (lined.earlier item item_is);
  last = λ count is. same.last ∙ lined.last count (is ∙ ap length same.sent);
}

lined_ack : (line now : Option SentLine) (one other : Acknowledgement) → now ≡ line → other ≡ one → IsLined line one → IsLined now other
lined_ack line now one other same ack lined = subst (λ l. IsLined l other) (sym same) (subst (IsLined line) (sym ack) lined)

-- ---- all ends

abbrev pub AreLined : Given → List Event → Type 0
AreLined given history = (station handle : ℕ) (link : OpenLink) → is_in station given.stations ≡ true → link_at handle (facts_at given station history).links ≡ Some link
    → IsLined (sent_line_at (number_at station handle history) history (side_of station)) (ack_of link)

module _ (given : Given) where
  lines_event : (history : List Event) (event : Event) → ((station : ℕ) → steps_in station event ≡ [])
      → ((number station : ℕ) → sent_line_at number (history ++ event ∷ []) (side_of station) ≡ sent_line_at number history (side_of station))
      → ((station handle : ℕ) → number_at station handle (history ++ event ∷ []) ≡ number_at station handle history) → AreLined given history
      → AreLined given (history ++ event ∷ [])
  lines_event history event none line number are = λ station handle link in_it at.
      lined_ack (sent_line_at (number_at station handle history) history (side_of station)) _ (ack_of link) (ack_of link)
      (ap (λ n. sent_line_at n (history ++ event ∷ []) (side_of station)) (number station handle) ∙ line (number_at station handle history) station) refl
      (are station handle link in_it (ap (λ (f : Facts). link_at handle f.links) (sym (facts_event given station history event (none station))) ∙ at))

  lines_call : IsOfTwo given → (station : ℕ) (step : Step) (history : List Event) → is_in station given.stations ≡ true
      → ((handle : ℕ) (link : OpenLink) → link_at handle (facts_at given station (after_call given station step history)).links ≡ Some link
      → IsLined (sent_line_at (number_at station handle (after_call given station step history)) (after_call given station step history) (side_of station)) (ack_of link))
      → AreLined given history → AreLined given (after_call given station step history)
  lines_call are_two station step history is own are = λ other handle link in_it at. by other handle link in_it at (other == station) refl
    where
      by : (other handle : ℕ) (link : OpenLink) → is_in other given.stations ≡ true → link_at handle (facts_at given other (after_call given station step history)).links ≡ Some link
          → (same : Bool) → (other == station) ≡ same
          → IsLined (sent_line_at (number_at other handle (after_call given station step history)) (after_call given station step history) (side_of other)) (ack_of link)
      by other handle link in_it at true one =
          let equal = eqb-true other station one in
          let next = after_call given station step history in
          subst (λ n. IsLined (sent_line_at (number_at n handle next) next (side_of n)) (ack_of link)) (sym equal)
          (own handle link (subst (λ n. link_at handle (facts_at given n next).links ≡ Some link) equal at))
      by other handle link in_it at false differs =
          let next = after_call given station step history in
          let equal = other_is given are_two other station in_it is (differs_back other station differs) in
          let apart : is_side (side_of station) (side_of other) ≡ false = subst (λ n. is_side (side_of n) (side_of other) ≡ false) (sym equal) (side_differs other) in
          lined_ack (sent_line_at (number_at other handle history) history (side_of other)) _ (ack_of link) (ack_of link)
          (ap (λ n. sent_line_at n next (side_of other)) (number_other given station step history other handle differs)
          ∙ line_other given (number_at other handle history) station step history (side_of other) apart) refl
          (are other handle link in_it (ap (λ (f : Facts). link_at handle f.links) (sym (other_facts given station step history other differs)) ∙ at))

  -- a call in which the station sends no new PDU, to a link that sent the same before
  quiet_own : (station : ℕ) (step : Step) (history : List Event) (handle : ℕ) (before after : OpenLink)
      → All SendsNone (notes_after (setup_at given station) (facts_at given station history) step) → number_at station handle (after_call given station step history) ≡ number_at station handle history
      → ack_of after ≡ ack_of before
      → IsLined (sent_line_at (number_at station handle history) history (side_of station)) (ack_of before)
      → IsLined (sent_line_at (number_at station handle (after_call given station step history)) (after_call given station step history) (side_of station)) (ack_of after)
  quiet_own station step history handle before after none number same lined =
      lined_ack _ _ (ack_of before) (ack_of after)
      (ap (λ n. sent_line_at n (after_call given station step history) (side_of station)) number
      ∙ line_called given (number_at station handle history) station step history (side_of station) none) same lined

  -- a call in which it may send one
  module _ (station : ℕ) (step : Step) (history : List Event) (handle : ℕ) (base : OpenLink) (earlier : List Note)
      (none : All SendsNone earlier) (opens : All (OpensNone handle) earlier) (own : base.setup.link.handle ≡ handle) (ranges : HasRanges base)
      (lined : IsLined (sent_line_at (number_at station handle history) history (side_of station)) (ack_of base))
      (count : (exchange_at (number_at station handle history) history (side_of station)).acked ≡ (ack_of base).acked) where
    abbrev number : ℕ
    number = number_at station handle history

    abbrev line : Option SentLine
    line = sent_line_at number history (side_of station)

    abbrev acked : ℕ
    acked = (exchange_at number history (side_of station)).acked

    line_of : (noted : Bool) → notes_after (setup_at given station) (facts_at given station history) step ≡ earlier ++ sent_notes_if noted base.setup.link.handle (numbered (ack_of base).sent) (pdu_fixed (facts_in base))
        → sent_line_at number (after_call given station step history) (side_of station) ≡ line_next noted (facts_in base) acked line
    line_of true are =
        line_sent given number station step history base.setup.link.handle _ _ _ earlier are none (subst (λ h. All (OpensNone h) earlier) (sym own) opens)
        ∙ ap (λ (b : Bool). if b then line_next true (facts_in base) acked line else line)
        (eq-eqb (number_at station base.setup.link.handle history) number (ap (λ h. number_at station h history) own))
    line_of false are = line_called given number station step history (side_of station) (subst (All SendsNone) (sym (are ∙ append-nil earlier)) none)

    pub sends_own : (sends : Bool) (slot : ℕ) (after : OpenLink) → after ≡ sent_if sends slot base
        → notes_after (setup_at given station) (facts_at given station history) step ≡ earlier ++ notes_when sends base
        → IsLined (sent_line_at number (after_call given station step history) (side_of station)) (ack_of after)
    sends_own true slot after is are =
        let facts = facts_in base in
        let noted = is_acked facts.acknowledgement && not (is_empty (pdu_fixed facts)) in
        lined_ack (line_next noted facts acked line) _ (sent_ack facts) (ack_of after) (line_of noted are) (ap ack_of is ∙ ack_sent slot base)
        (sends_lined (is_acked facts.acknowledgement) (is_empty (pdu_fixed facts)) facts acked line refl refl (fixed_whole base ranges) count lined)
    sends_own false slot after is are =
        lined_ack line _ (ack_of base) (ack_of after)
        (line_called given number station step history (side_of station) (subst (All SendsNone) (sym (are ∙ append-nil earlier)) none)) (ap ack_of is) lined

  -- a call in which another link may send one
  module _ (station : ℕ) (step : Step) (history : List Event) (number : ℕ) (earlier : List Note) (none : All SendsNone earlier) (opens : (handle : ℕ) → All (OpensNone handle) earlier) where
    other_sent : (noted : Bool) (link : OpenLink) → (number_at station link.setup.link.handle history == number) ≡ false
        → notes_after (setup_at given station) (facts_at given station history) step ≡ earlier ++ sent_notes_if noted link.setup.link.handle (numbered (ack_of link).sent) (pdu_fixed (facts_in link))
        → sent_line_at number (after_call given station step history) (side_of station) ≡ sent_line_at number history (side_of station)
    other_sent true link apart are =
        line_sent given number station step history link.setup.link.handle _ _ _ earlier are none (opens link.setup.link.handle)
        ∙ ap (λ (b : Bool). if b then line_next true (facts_in link) (exchange_at number history (side_of station)).acked (sent_line_at number history (side_of station))
        else sent_line_at number history (side_of station)) apart
    other_sent false link apart are = line_called given number station step history (side_of station) (subst (All SendsNone) (sym (are ∙ append-nil earlier)) none)

    pub others_send : (doing : Doing) (then_on : Facts)
        → ((other : ℕ) (link : OpenLink) → sends_under other doing ≡ true → link_at other then_on.links ≡ Some link → (number_at station link.setup.link.handle history == number) ≡ false)
        → notes_after (setup_at given station) (facts_at given station history) step ≡ earlier ++ notes_doing doing then_on
        → sent_line_at number (after_call given station step history) (side_of station) ≡ sent_line_at number history (side_of station)
    others_send doing then_on apart are = by (sends_from doing then_on)
      where
        by : SendsFrom doing then_on
            → sent_line_at number (after_call given station step history) (side_of station) ≡ sent_line_at number history (side_of station)
        by (SendsNothing nothing) =
            line_called given number station step history (side_of station)
            (subst (All SendsNone) (sym (are ∙ ap (λ xs. earlier ++ xs) nothing ∙ append-nil earlier)) none)
        by (SendsOne other link at on notes_are) =
            other_sent (is_acked (facts_in link).acknowledgement && not (is_empty (pdu_fixed (facts_in link)))) link (apart other link on at) (are ∙ ap (λ xs. earlier ++ xs) notes_are)

  octet_lines : IsOfTwo given → (station octet : ℕ) (history : List Event) → is_in station given.stations ≡ true → AreLined given history
      → AreLined given (after_call given station (HostOctet octet) history)
  octet_lines are_two station octet history is are = lines_call are_two station (HostOctet octet) history is (λ handle link at.
      let setup = setup_at given station in
      let facts = facts_at given station history in
      let was = octet_under setup facts octet handle link (own_at given station (HostOctet octet) history handle link at) in
      quiet_own station (HostOctet octet) history handle was.link link
      (all_more HasNoData SendsNone (λ note has. has.sends) _ (octet_noted HasNoData no_data.feeds setup facts octet))
      (number_called given station (HostOctet octet) history handle (octet_noted (OpensNone handle) (opening_none handle).starts.feeds setup facts octet)) was.ack
      (are station handle was.link is was.was)) are

  octets_lines : IsOfTwo given → (station : ℕ) (octets : List ℕ) (history : List Event) → is_in station given.stations ≡ true → AreLined given history
      → AreLined given (after_octets given station octets history)
  octets_lines are_two station [] history is are = are
  octets_lines are_two station (octet ∷ octets) history is are =
      octets_lines are_two station octets (after_call given station (HostOctet octet) history) is (octet_lines are_two station octet history is are)

  feed_lines : IsOfTwo given → (station : ℕ) (octets : List ℕ) (history : List Event) → is_in station given.stations ≡ true → AreLined given history
      → AreLined given (after_feed given station octets history)
  feed_lines are_two station [] history is are = are
  feed_lines are_two station (octet ∷ octets) history is are =
      octets_lines are_two station (octet ∷ octets) (history ++ HostFed station (octet ∷ octets) ∷ []) is
      (lines_event history (HostFed station (octet ∷ octets)) (λ one. refl) (λ number one. feed_line number history station (octet ∷ octets) (side_of one))
      (λ one handle. number_quiet one handle history (HostFed station (octet ∷ octets)) (λ links. refl)) are)

-- ---- a turn begins

pub rests_none : (handle : ℕ) (doing : Doing) → doing ≡ Rests → sends_under handle doing ≡ false
rests_none handle doing is = ap (sends_under handle) is

pub rests_deaf : (handle : ℕ) (doing : Doing) (received : Option (List ℕ)) → doing ≡ Rests → listens_under handle doing ≡ true → received ≡ None
rests_deaf handle doing received is listens = absurd (let h : true ≡ false = sym listens ∙ ap (listens_under handle) is in absurd cc)

-- what is in range once a link sent, or did not, was so before
unsent_ranges : (sends : Bool) (slot : ℕ) (link : OpenLink) → HasRanges (sent_if sends slot link) → HasRanges link
unsent_ranges true slot link has = ranges_before (PacketSent slot) link has
unsent_ranges false slot link has = has

module _ (given : Given) (station slot : ℕ) (on : Bool) (history : List Event) (is : is_in station given.stations ≡ true)
    (rests : (facts_at given station history).turn.doing ≡ Rests) (station_is : IsStation (setup_at given station) (facts_at given station history))
    (apart : HaveOwnNumbers given station history) (counted : AreCountedSo given history (λ one. true) (λ one. packet_received one history)) (lines : AreLined given history)
    (handle : ℕ) (link : OpenLink) (at : link_at handle (facts_at given station (after_call given station (TurnBegins slot on) history)).links ≡ Some link)
    (ranges : HasRanges link) where
  abbrev setup_of : Setup
  setup_of = setup_at given station

  abbrev facts_before : Facts
  facts_before = facts_at given station history

  abbrev step : Step
  step = TurnBegins slot on

  abbrev outcome : Outcome
  outcome = outcome_begun slot on facts_before

  abbrev start : List Note
  start = notes_starting slot facts_before

  begun : HasBegun facts_before slot on handle (facts_after setup_of facts_before step).turn.doing link
  begun = begins_under setup_of facts_before slot on handle link (own_at given station step history handle link at)

  start_none : All SendsNone start
  start_none = all_more HasNoData SendsNone (λ note has. has.sends) start (start_noted HasNoData no_data slot facts_before)

  number_now : number_at station handle (after_call given station step history) ≡ number_at station handle history
  number_now = number_called given station step history handle (begin_noted (OpensNone handle) (opening_none handle) setup_of slot on facts_before)

  own_handle : (other : ℕ) (two : OpenLink) → link_at other outcome.facts.links ≡ Some two → two.setup.link.handle ≡ other
  own_handle other two at_other = handle_is 0 other outcome.facts.links two (own_begun setup_of slot on facts_before station_is.own).handles at_other

  base_lined : IsLined (sent_line_at (number_at station handle history) history (side_of station)) (ack_of begun.base)
  base_lined =
      subst (IsLined (sent_line_at (number_at station handle history) history (side_of station))) (sym (base_ack facts_before slot on handle outcome.next link begun))
      (lines station handle begun.link is begun.was)

  base_ranges : HasRanges begun.base
  base_ranges = unsent_ranges (sends_under handle outcome.next) slot begun.base (subst HasRanges begun.is ranges)

  -- it is to send on this link, or on another, or on none
  begins_by : (sends : Bool) → sends_under handle outcome.next ≡ sends
      → IsLined (sent_line_at (number_at station handle history) (after_call given station step history) (side_of station)) (ack_of link)
  begins_by true on_it =
      let number = number_at station handle history in
      let before = plain true (packet_received station history) handle facts_before.turn begun.link (exchange_at number history (side_of station)) (rests_none handle facts_before.turn.doing rests)
      (rests_deaf handle facts_before.turn.doing (packet_received station history) rests) (counted station handle begun.link is begun.was) in
      sends_own given station step history handle begun.base start start_none (start_noted (OpensNone handle) (opening_none handle).starts slot facts_before)
      (own_handle handle begun.base begun.found) base_ranges base_lined
      (before.acked ∙ ap (λ (a : Acknowledgement). a.acked) (sym (base_ack facts_before slot on handle outcome.next link begun)))
      true slot link (begun.is ∙ ap (λ b. sent_if b slot begun.base) on_it)
      (ap (λ xs. start ++ xs) (doing_notes outcome.next outcome.facts handle begun.base (λ other two on_other at_other. sends_once other handle outcome.next on_other on_it) begun.found
      ∙ ap (λ b. notes_when b begun.base) on_it))
  begins_by false off_it =
      lined_ack (sent_line_at (number_at station handle history) history (side_of station)) _ (ack_of begun.base) (ack_of link)
      (others_send given station step history (number_at station handle history) start start_none (λ one. start_noted (OpensNone one) (opening_none one).starts slot facts_before)
      outcome.next outcome.facts
      (λ other two on_other at_other.
      let was = begun_before facts_before slot on other two at_other in
      let differs : (other == handle) ≡ false = false_from_ne_true (other == handle) (λ same.
      let h : true ≡ false = sym on_other ∙ ap (λ n. sends_under n outcome.next) (eqb-true other handle same) ∙ off_it in absurd cc) in
      ap (λ n. number_at station n history == number_at station handle history) (own_handle other two at_other) ∙ apart other handle was.link begun.link was.was begun.was differs)
      refl)
      (ap ack_of begun.is ∙ ap (λ b. ack_of (sent_if b slot begun.base)) off_it) base_lined

  pub begin_own : IsLined (sent_line_at (number_at station handle (after_call given station step history)) (after_call given station step history) (side_of station)) (ack_of link)
  begin_own =
      subst (λ n. IsLined (sent_line_at n (after_call given station step history) (side_of station)) (ack_of link)) (sym number_now)
      (begins_by (sends_under handle outcome.next) refl)

-- ---- a phase passes

module _ (given : Given) (Q : Place → List Event → Type 0) (known : AreKnown given Q) (distinct : AreDistinct given.stations) (phases : ℕ) (done left : List ℕ) (station : ℕ) (history : List Event)
    (are : given.stations ≡ done ++ station ∷ left) (is : AreCountedAt given Q (AtListening phases done (station ∷ left)) history) (lines : AreLined given history)
    (q : Q (AtListening phases (done ++ station ∷ []) left) (after_call given station (step_of (packet_received station history)) history))
    (holds : Holds given (AreStations given) (AtListening phases (done ++ station ∷ []) left) (after_call given station (step_of (packet_received station history)) history)) where
  abbrev received : Option (List ℕ)
  received = packet_received station history

  abbrev after : List Event
  after = after_call given station (step_of received) history

  abbrev facts : Facts
  facts = facts_at given station history

  abbrev setup : Setup
  setup = setup_at given station

  abbrev next : Facts
  next = facts_after setup facts (step_of received)

  abbrev notes : List Note
  notes = notes_after setup facts (step_of received)

  in_it : is_in station given.stations ≡ true
  in_it = among given.stations done left station are

  -- a link of this turn has no line
  fresh : (handle : ℕ) (link : OpenLink) → link_at handle (facts_at given station after).links ≡ Some link → link.setup.opened ≡ facts.turn.slot
      → IsLined (sent_line_at (number_at station handle after) after (side_of station)) (ack_of link)
  fresh handle link at opened =
      let number = number_at station handle after in
      let begun = known.begun (AtListening phases (done ++ station ∷ []) left) after q station handle link in_it at in
      let turns : turns_begun after ≡ turns_begun history = turns_called station (step_of received) notes history in
      let now = ap (λ n. n + 1) opened ∙ (phased given Q known distinct phases done left station history are is q holds).uses.in_turn.slot_is ∙ sym turns in
      let first = first_of after number station link.setup
      (first_called given station (step_of received) history (call_is given Q known distinct phases done left station history are is q holds) is.first number) begun now in
      let slot = ap (λ (f : Facts). f.turn.slot) (own_facts given station (step_of received) history) ∙ (phase_turn setup facts received).slot in
      let ack = open_has (IsFresh (facts_at given station after).turn.slot) 0 handle (facts_at given station after).links link
      (holds.so_far.last.each station in_it).fresh at (opened ∙ sym slot) in
      lined_ack None _ first_acknowledgement (ack_of link) (first.lines (side_of station)) ack first_lined

  abbrev room : Bool
  room = has_room setup facts

  abbrev heard_as : Bool → ℕ → Facts
  heard_as words other = worded words setup other facts

  -- a link that hears a packet, as it is to answer
  module _ (words : Bool) (other : ℕ) (octets : List ℕ) (base : OpenLink) (was : link_at other facts.links ≡ Some base) where
    abbrev heard_base : OpenLink
    heard_base = link_worded words setup facts base

    abbrev taken : OpenLink
    taken = link_receiving other room octets (heard_as words other) heard_base

    taken_now : link_at other (link_received other room octets (heard_as words other)).links ≡ Some taken
    taken_now = received_at other octets room (heard_as words other) heard_base (worded_here words setup other facts (Some base) was)

    taken_handle : taken.setup.link.handle ≡ other
    taken_handle =
        ap (λ (end : EndSetup). end.link.handle) (received_setup_is other room octets (heard_as words other) heard_base ∙ worded_setup setup facts base words)
        ∙ handle_is 0 other facts.links base (station_is given Q known distinct phases done left station history are is q holds).own.handles was

    taken_ack : ack_of taken ≡ ack_of (link_after (PacketReceived facts.turn.slot octets room) base)
    taken_ack = received_ack_is other room octets (heard_as words other) heard_base ∙ worded_heard setup facts base words facts.turn.slot octets room

  -- what another link is to send, where it received a packet
  other_line : (handle : ℕ) (link : OpenLink) → link_at handle facts.links ≡ Some link → (other : ℕ) (words : Bool) (octets : List ℕ) → (other == handle) ≡ false
      → notes ≡ notes_passed (link_heard setup other octets (heard_as words other)) → (found : Option OpenLink) → link_at other facts.links ≡ found
      → sent_line_at (number_at station handle history) after (side_of station) ≡ sent_line_at (number_at station handle history) history (side_of station)
  other_line handle link at other words octets differs are_notes None absent =
      line_called given (number_at station handle history) station (step_of received) history (side_of station)
      (subst (All SendsNone) (sym (are_notes ∙ unfound setup (heard_as words other) other octets (worded_here words setup other facts None absent))) (All-nil SendsNone))
  other_line handle link at other words octets differs are_notes (Some two) found =
      let heard = heard_as words other in
      let replies = replies_in facts.turn.slot room (link_at other heard.links) octets in
      let after_it = link_received other room octets heard in
      let apart = apart_numbers given Q known (AtListening phases done (station ∷ left)) history is.known station other handle two link in_it found at differs in
      others_send given station (step_of received) history (number_at station handle history) (link_heard setup other octets heard).notes
      (received_noted SendsNone taking_sends setup other octets heard) (λ one. received_noted (OpensNone one) (taking_opens one) setup other octets heard)
      (reply_if replies other) after_it
      (λ third three on_third at_third.
      let same = reply_under replies other third on_third in
      let equal : Some (taken words other octets two found) ≡ Some three = sym (taken_now words other octets two found) ∙ ap (λ n. link_at n after_it.links) (sym same) ∙ at_third in
      let one : taken words other octets two found ≡ three = cc in
      ap (λ (l : OpenLink). number_at station l.setup.link.handle history == number_at station handle history) (sym one)
      ∙ ap (λ n. number_at station n history == number_at station handle history) (taken_handle words other octets two found) ∙ apart)
      are_notes

  -- the line of a link on which nothing was received stays
  line_stays : (handle : ℕ) (link : OpenLink) → link_at handle facts.links ≡ Some link → (listens_under handle facts.turn.doing ≡ true → received ≡ None)
      → IsPhaseOf setup facts received
      → sent_line_at (number_at station handle history) after (side_of station) ≡ sent_line_at (number_at station handle history) history (side_of station)
  line_stays handle link at nothing (IsPlainPhase none plain_too) =
      line_called given (number_at station handle history) station (step_of received) history (side_of station) (all_more HasNoData SendsNone (λ note has. has.sends) notes plain_too)
  line_stays handle link at nothing (IsOnLink other words octets some listens heard_is) =
      let differs : (other == handle) ≡ false = false_from_ne_true (other == handle) (λ same.
      let h : Some octets ≡ None = sym some ∙ nothing (listens handle ∙ same) in absurd cc) in
      other_line handle link at other words octets differs
      (on_link_notes setup facts received octets (link_heard setup other octets (heard_as words other)) some (ap notes_passed heard_is)) (link_at other facts.links) refl

  takes : (words : Bool) (other : ℕ) (octets : List ℕ) (link base : OpenLink) → HasRanges link → received ≡ Some octets → listens_under other facts.turn.doing ≡ true
      → phase_heard setup facts.turn.doing octets facts ≡ link_heard setup other octets (heard_as words other)
      → link_at other (facts_at given station after).links ≡ Some link → link_at other facts.links ≡ Some base → number_at station other after ≡ number_at station other history
      → IsLined (sent_line_at (number_at station other after) after (side_of station)) (ack_of link)
  takes words other octets link base ranges some on heard_is at was number_is =
      let heard = heard_as words other in
      let slot = facts.turn.slot in
      let replies = replies_in slot room (link_at other heard.links) octets in
      let reply = reply_if replies other in
      let after_it = link_received other room octets heard in
      let outcome = link_heard setup other octets heard in
      let it = taken words other octets base was in
      let passes = on_link_facts setup facts received octets outcome some (ap facts_passed heard_is) in
      let doing : next.turn.doing ≡ reply = ap (λ (f : Facts). f.turn.doing) passes in
      let same = link_then given Q known distinct phases done left station history are is q holds words other octets link base some heard_is at was in
      let counts = was_taking received octets other facts.turn base (exchange_at (number_at station other history) history (side_of station)) on some
      (before_call given Q known distinct phases done left station history are is q holds other base was) in
      let ack = taken_ack words other octets base was in
      subst (λ n. IsLined (sent_line_at n after (side_of station)) (ack_of link)) (sym number_is)
      (sends_own given station (step_of received) history other it outcome.notes
      (received_noted SendsNone taking_sends setup other octets heard) (received_noted (OpensNone other) (taking_opens other) setup other octets heard)
      (taken_handle words other octets base was)
      (unsent_ranges (sends_under other next.turn.doing) slot it (subst HasRanges same ranges))
      (lined_same (sent_line_at (number_at station other history) history (side_of station)) (ack_of base) (ack_of it)
      (subst (λ a. HasSentSame a (ack_of base)) (sym ack) (sent_same slot octets room base)) (lines station other base in_it was))
      (counts.acked ∙ (same_but slot octets false room base).acked ∙ ap (λ (a : Acknowledgement). a.acked) (sym ack))
      (sends_under other next.turn.doing) slot link same
      (on_link_notes setup facts received octets outcome some (ap notes_passed heard_is)
      ∙ ap (λ xs. outcome.notes ++ xs)
      (doing_notes reply after_it other it (λ third three on_third at_third. reply_under replies other third on_third) (taken_now words other octets base was)
      ∙ ap (λ d. notes_when (sends_under other d) it) (sym doing))))

  taken_own : (handle : ℕ) (link base : OpenLink) (octets : List ℕ) → HasRanges link → received ≡ Some octets → listens_under handle facts.turn.doing ≡ true
      → link_at handle (facts_at given station after).links ≡ Some link → link_at handle facts.links ≡ Some base → number_at station handle after ≡ number_at station handle history
      → IsPhaseOf setup facts received → IsLined (sent_line_at (number_at station handle after) after (side_of station)) (ack_of link)
  taken_own handle link base octets ranges some on at was number_is (IsPlainPhase none plain_too) =
      absurd (let h : Some octets ≡ None = sym some ∙ none handle on in absurd cc)
  taken_own handle link base octets ranges some on at was number_is (IsOnLink other words heard some_too listens heard_is) =
      subst (λ n. link_at n (facts_at given station after).links ≡ Some link → link_at n facts.links ≡ Some base → number_at station n after ≡ number_at station n history
      → IsLined (sent_line_at (number_at station n after) after (side_of station)) (ack_of link))
      (eqb-true other handle (sym (listens handle) ∙ on))
      (takes words other heard link base ranges some_too (listens other ∙ same_number other) heard_is) at was number_is

  passed : (handle : ℕ) (link : OpenLink) → link_at handle (facts_at given station after).links ≡ Some link → number_at station handle after ≡ number_at station handle history
      → HasPassed setup facts room received handle next.turn.doing link
      → IsLined (sent_line_at (number_at station handle after) after (side_of station)) (ack_of link)
  passed handle link at number_is (IsNew end made opened off) = fresh handle link at (ap (λ (l : OpenLink). l.setup.opened) made ∙ opened)
  passed handle link at number_is (Stays was none nothing listened) =
      subst (λ n. IsLined (sent_line_at n after (side_of station)) (ack_of link)) (sym number_is)
      (subst (λ line. IsLined line (ack_of link)) (sym (line_stays handle link was nothing (phase_of setup facts received))) (lines station handle link in_it was))
  passed handle link at number_is (Takes base octets was some on same) =
      let ranges = known.ranges (AtListening phases (done ++ station ∷ []) left) after q station handle link in_it at in
      taken_own handle link base octets ranges some on at was number_is (phase_of setup facts received)

  passes_own : (handle : ℕ) (link : OpenLink) → link_at handle (facts_at given station after).links ≡ Some link
      → IsLined (sent_line_at (number_at station handle after) after (side_of station)) (ack_of link)
  passes_own handle link at =
      passed_or_new given station history (phased given Q known distinct phases done left station history are is q holds).uses.in_turn.listens
      (IsLined (sent_line_at (number_at station handle after) after (side_of station)) (ack_of link)) handle link at (passed handle link at)
      (λ new. fresh handle link at new.opened)

-- ---- each step

pub record AreLinedAt (given : Given) (Q : Place → List Event → Type 0) (place : Place) (history : List Event) : Type 0 where
  pub counts : AreCountedAt given Q place history
  pub lines : AreLined given history

pub lines_kept : IsHeardWhole → (given : Given) (Q : Place → List Event → Type 0) → AreKnown given Q → IsOfTwo given → HaveAddresses given → AreDistinct given.stations
    → IsKept given (AreLinedAt given Q)
lines_kept whole given Q known are_two six distinct = let kept = counts_kept whole given Q known are_two six distinct in record {
  on_turn = λ slot plan history begun at has.
      let event = TurnBegan slot (map plan.radio_of given.stations) in record {
        counts = kept.on_turn slot plan history begun at has.counts;
        lines = lines_event given history event (λ one. refl) (λ number one. turn_line number history slot (map plan.radio_of given.stations) (side_of one))
            (λ one handle. number_quiet one handle history event (λ links. refl)) has.lines;
      };
  on_feed = λ plan done left station history are some now has. record {
    counts = kept.on_feed plan done left station history are some now has.counts;
    lines = feed_lines given are_two station (take (plan.feed_of station) (octets_left given station history)) history (among given.stations done left station are) has.lines;
  };
  on_fed = λ history has. record { counts = kept.on_fed history has.counts; lines = has.lines };
  on_begin = λ slot plan done left station history are due has.
      let on = plan.radio_of station in
      let in_it = among given.stations done left station are in
      let phased = subst (λ b. PhasedBy given history station (if b then at_stage (Within 0) (turns_begun history) else at_stage Between (turns_begun history - 1)))
      (not_before given.stations done left station distinct are) (phased_at given (AtBegins done (station ∷ left)) history has.counts.holds.hearing.stand station in_it) in
      let next = kept.on_begin slot plan done left station history are due has.counts in record {
        counts = next;
        lines = lines_call given are_two station (TurnBegins slot on) history in_it
            (λ handle link at. begin_own given station slot on history in_it phased.phase (has.counts.holds.so_far.last.each station in_it)
            (λ one other a b at at_other differs. apart_numbers given Q known (AtBegins done (station ∷ left)) history has.counts.known station one other a b in_it at at_other differs)
            has.counts.counted has.lines handle link at
            (known.ranges (AtBegins (done ++ station ∷ []) left) (after_call given station (TurnBegins slot on) history) next.known station handle link in_it at)) has.lines;
      };
  on_begun = λ history has. record { counts = kept.on_begun history has.counts; lines = has.lines };
  on_phase = λ phases history few has. record { counts = kept.on_phase phases history few has.counts; lines = has.lines };
  on_silence = λ phases done left station history are none has. record { counts = kept.on_silence phases done left station history are none has.counts; lines = has.lines };
  on_packet = λ phases plan done left station channel octets history are some due has.
      let hearings = hearings_of given plan.fates station channel octets history in record {
        counts = kept.on_packet phases plan done left station channel octets history are some due has.counts;
        lines = lines_event given history (Transmitted station channel octets hearings) (λ one. refl) (λ number one. air_line number history station channel octets hearings (side_of one))
            (λ one handle. number_sent one handle history station channel octets hearings) has.lines;
      };
  on_air = λ phases history has. record { counts = kept.on_air phases history has.counts; lines = has.lines };
  on_hearing = λ phases done left station history are some has.
      let next = kept.on_hearing phases done left station history are some has.counts in
      let in_it = among given.stations done left station are in record {
        counts = next;
        lines = lines_call given are_two station (step_of (packet_received station history)) history in_it
            (passes_own given Q known distinct phases done left station history are has.counts has.lines next.known next.holds) has.lines;
      };
  on_heard = λ phases history has. record { counts = kept.on_heard phases history has.counts; lines = has.lines };
  on_phases = λ history has. record { counts = kept.on_phases history has.counts; lines = has.lines };
  on_end = λ done left station history are some has.
      let in_it = among given.stations done left station are in record {
        counts = kept.on_end done left station history are some has.counts;
        lines = lines_call given are_two station TurnEnds history in_it
            (λ handle link at.
            let setup = setup_at given station in
            let facts = facts_at given station history in
            let was = end_under setup facts handle link (own_at given station TurnEnds history handle link at) in
            quiet_own given station TurnEnds history handle was.link link
            (all_more HasNoData SendsNone (λ note has_none. has_none.sends) _ (end_noted HasNoData no_data.feeds setup facts))
            (number_called given station TurnEnds history handle (end_noted (OpensNone handle) (opening_none handle).starts.feeds setup facts)) was.ack
            (has.lines station handle was.link in_it was.was)) has.lines;
      };
  on_ended = λ history has. record { counts = kept.on_ended history has.counts; lines = has.lines };
}
