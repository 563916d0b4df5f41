-- Where a link is shut after the packets of a turn, its host has received all that its side took, or could take no
-- more, and all its packets that are acknowledged are reported to it.
use Rattle.std.proofs.Common.{◌≡◌, ℕ, Bool, true, false, nat_lt, Option, Some, None, List, [], ◌∷◌, ◌++◌, inl, inr, refl, sym, ap, subst, ◌∙◌, append_assoc, arith, if◌then◌else◌}
use Rattle.std.specs.Prelude.{All, flat_map, map, ⊤}
use Rattle.std.proofs.lemmas.Bool.Decides.{nat_tests}
use Rattle.ble_base.specs.declared.error_codes.ErrCode.{ErrCode}
use Rattle.ble_base.specs.declared.notes.Note.{Note}
use Rattle.ble_base.specs.declared.notes.Note.TheVariants.{Shut as ShutNote}
use Rattle.ble_base.specs.declared.roles.Side.{Side}
use Rattle.host_view.specs.Flow.{left_of}
use Rattle.hci_cmd.specs.declared.command.Command.TheVariants.{Reset}
use Rattle.journal.specs.declared.entries.Entry.{Entry}
use Rattle.journal.specs.declared.entries.Entry.TheVariants.{Shut}
use Rattle.journal_moves.specs.journal_wants.journal_sending.controller_model.Data.{facts_handed, notes_handed, notes_pieces}
use Rattle.journal_moves.specs.journal_wants.journal_sending.controller_model.Facts.{Facts}
use Rattle.journal_moves.specs.journal_wants.journal_sending.controller_model.Host.{commands_accepted_after}
use Rattle.journal_moves.specs.journal_wants.journal_sending.controller_model.Links.{ends_for, notes_ended, notes_leaving}
use Rattle.journal_moves.specs.journal_wants.journal_sending.controller_model.Shutting.{IsShut, leaving as shut_leaving, overdue as shut_overdue, reset as shut_reset}
use Rattle.journal_moves.specs.journal_wants.journal_sending.controller_model.Side.{notes_after}
use Rattle.journal_moves.specs.journal_wants.journal_sending.controller_model.Since.{data_waiting}
use Rattle.journal_moves.specs.journal_wants.journal_sending.controller_model.Step.{Step, HostOctet, TurnBegins, PacketHeard, NothingHeard, TurnEnds}
use Rattle.journal_moves.proofs.journal_wants.journal_sending.journal_data.link_model.Hearing.{IsHeardWhole}
use Rattle.journal_moves.proofs.journal_wants.journal_sending.journal_data.link_model.Sending.{past_together}
use Rattle.journal_moves.specs.journal_wants.journal_sending.journal_data.link_model.Acknowledgement.{Acknowledgement}
use Rattle.journal_moves.specs.journal_wants.journal_sending.journal_data.link_model.Facts.{Facts as EndFacts}
use Rattle.journal_moves.specs.journal_wants.journal_sending.journal_data.link_model.Step.{DataReported}
use Rattle.journal_moves.specs.journal_wants.journal_sending.journal_data.open_links.Data.{complete_in, link_reported}
use Rattle.journal_moves.specs.journal_wants.journal_sending.journal_data.open_links.declared.ended.LinkEnded.{LinkEnded}
use Rattle.journal_moves.specs.journal_wants.journal_sending.journal_data.open_links.Turns.{ending_in}
use Rattle.journal_moves.specs.journal_wants.journal_sending.journal_data.open_links.OpenLinks.{OpenLink, facts_in, link_after, link_at}
use Rattle.journal_moves.specs.journal_wants.journal_sending.run_model.Due.{Each}
use Rattle.journal_moves.specs.journal_wants.journal_sending.run_model.Feeding.{AreDistinct}
use Rattle.journal_moves.specs.journal_wants.journal_sending.run_model.History.{Event, Called, Noted, packet_received, turns_begun}
use Rattle.journal_moves.specs.journal_wants.journal_sending.run_model.Journal.{journal_of, side_of}
use Rattle.journal_moves.specs.journal_wants.journal_sending.run_model.LinkEnds.{HaveAddresses}
use Rattle.journal_moves.specs.journal_wants.journal_sending.run_model.NoteLines.{IsLineInCall, shut_line}
use Rattle.journal_moves.specs.journal_wants.journal_sending.run_model.OnAir.{ends_phase}
use Rattle.journal_moves.specs.journal_wants.journal_sending.run_model.Run.{Given, facts_at, history_of, run_of, setup_at, step_of}
use Rattle.journal_moves.proofs.journal_wants.journal_sending.run_model.LinkEnds.{AreTaken, IsUnderstood}
use Rattle.journal_moves.proofs.journal_wants.journal_sending.run_model.NoteLines.{line_in_call, number_then, to_line}
use Rattle.journal_moves.proofs.journal_wants.journal_sending.run_model.Places.{each_at}
use Rattle.journal_moves.proofs.journal_wants.journal_sending.run_model.Stations.{among, not_before}
use Rattle.journal_moves.proofs.journal_wants.journal_sending.run_model.Walk.{Place, AtEnds}
use Rattle.journal_moves.proofs.journal_wants.journal_sending.journal_data.run_laws.Agreed.{ack_of, step_facts}
use Rattle.journal_moves.proofs.journal_wants.journal_sending.journal_data.run_laws.DistinctAccess.{AreApart}
use Rattle.journal_moves.proofs.journal_wants.journal_sending.journal_data.run_laws.TurnPlaces.{Between, Within, at_stage}
use Rattle.journal_moves.proofs.journal_wants.journal_sending.journal_acks.NewPdus.{first_part}
use Rattle.journal_moves.proofs.journal_wants.journal_sending.journal_acks.link_calls.CallNotes.{HasNoData, SendsNone, all_more, end_noted, no_data}
use Rattle.journal_moves.proofs.journal_wants.journal_sending.journal_packets.AccessOrder.{AreNth}
use Rattle.journal_moves.proofs.journal_wants.journal_sending.journal_packets.SoFar.{IsBelongingSoFar}
use Rattle.journal_moves.proofs.journal_wants.journal_sending.journal_acks.Counting.{AreKnown, HaveOwnNumbers, plain}
use Rattle.journal_moves.proofs.journal_wants.journal_sending.journal_acks.EachCall.{HaveCalls, OfCall, run_calls}
use Rattle.journal_moves.proofs.journal_wants.journal_sending.journal_acks.Exchanging.{exchange_at, notes_counts, number_at}
use Rattle.journal_moves.proofs.journal_wants.journal_sending.journal_acks.KeptLines.{IsLined}
use Rattle.journal_moves.proofs.journal_wants.journal_sending.journal_acks.Known.{known_of}
use Rattle.journal_moves.proofs.journal_wants.journal_sending.journal_acks.SentLines.{line_in_call as sent_line_in_call, sent_line_at}
use Rattle.journal_moves.proofs.journal_wants.journal_sending.journal_acks.Standing.{PhasedBy, last_phase, phased_at}
use Rattle.journal_moves.proofs.journal_wants.journal_sending.journal_acks.TwoStations.{IsOfTwo}
use Rattle.journal_moves.proofs.journal_wants.journal_sending.journal_data.Arriving.{IsEndBooked}
use Rattle.journal_moves.specs.journal_wants.journal_sending.journal_data.Lines.{lines_of}
use Rattle.journal_moves.proofs.journal_wants.journal_sending.journal_data.EachLine.{lines_at}
use Rattle.journal_moves.proofs.journal_wants.journal_sending.journal_data.EndedLinks.{booked_within, reported_ack}
use Rattle.journal_moves.proofs.journal_wants.journal_sending.journal_data.Ends.{IsWell}
use Rattle.journal_moves.proofs.journal_wants.journal_sending.journal_data.FewLinks.{HaveFewLinks}
use Rattle.journal_moves.proofs.journal_wants.journal_sending.journal_data.KeptData.{own_numbers}
use Rattle.journal_moves.proofs.journal_wants.journal_sending.journal_data.Openness.{AreNot, handed_not, is_shutting}
use Rattle.journal_moves.specs.journal_wants.journal_sending.journal_leaving.Reasons.{packets_passed}
use Rattle.journal_moves.proofs.journal_wants.journal_sending.journal_hosts.QuietTurns.{IsSilent}
use Rattle.journal_moves.proofs.journal_wants.journal_sending.journal_leaving.QuietTurns.{in_call_passed, is_early, none_passed, passed_at}
use Rattle.journal_moves.proofs.journal_wants.journal_sending.journal_leaving.ShutCalls.{handed}
use Rattle.journal_moves.proofs.journal_wants.journal_sending.journal_leaving.ShutLines.{shut_in}
use Rattle.journal_pdus.specs.Exchanged.{AllAreSettledAsShut}
use Rattle.journal_pdus.specs.Settled.{IsSettled, was_full}
use Rattle.journal_pdus.proofs.HandedUp.{IsFullThen, left_or_full, none_reported, reports}
use Rattle.journal_pdus.proofs.SettledEnds.{credited_end, received_end}
use Rattle.journal_moves.proofs.journal_wants.StillTurns.{none_ends_silent}
use Rattle.journal_moves.proofs.journal_wants.journal_sending.Together.{IsKnownAt, known_first, known_kept}

-- ---- notes of two parts

-- a note is in the second part, where it is of a kind that is not in the first one
record IsInSecond (first second earlier : List Note) (note : Note) (later : List Note) : Type 0 where
  part : List Note
  earlier_is : earlier ≡ first ++ part
  second_is : second ≡ part ++ note ∷ later

in_second : (kind : Note → Bool) (first second earlier : List Note) (note : Note) (later : List Note) → AreNot kind first → kind note ≡ true
    → first ++ second ≡ earlier ++ note ∷ later → IsInSecond first second earlier note later
in_second kind [] second earlier note later none is are = record { part = earlier; earlier_is = refl; second_is = are }
in_second kind (one ∷ first) second [] note later none is are =
    let same : one ≡ note = cc in absurd (let h : false ≡ true = sym none.0 ∙ ap kind same ∙ is in cc)
in_second kind (one ∷ first) second (other ∷ earlier) note later none is are =
    let same : one ≡ other = cc in
    let rest = in_second kind first second earlier note later none.1 is cc in
    record { part = rest.part; earlier_is = λ i. sym same i ∷ rest.earlier_is i; second_is = rest.second_is }

-- among no notes none shuts a link
shuts_none : (part : List Note) (handle : ℕ) (reason : ErrCode) (later : List Note) → part ++ ShutNote handle reason ∷ later ≡ []
    → AreNot is_shutting part
shuts_none [] handle reason later is = absurd cc
shuts_none (note ∷ part) handle reason later is = absurd cc

-- ---- a link whose complete packets are reported

none_complete : (link : OpenLink) → complete_in (link_reported link) ≡ 0
none_complete link = by (nat_lt 0 (complete_in link)) refl
  where
    none_left : (count : ℕ) → nat_lt 0 count ≡ false → count ≡ 0
    none_left count is = grind (arith, nat_tests)

    by : (reports : Bool) → nat_lt 0 (complete_in link) ≡ reports → complete_in (if reports then link_after DataReported link else link) ≡ 0
    by true is = ap (λ (facts : EndFacts). facts.outgoing.complete) (step_facts link DataReported)
    by false is = none_left (complete_in link) is

-- ---- a call in which a turn ends

-- what is known of the open ends of its station before it
record IsKnownEnding (given : Given) (history : List Event) (station : ℕ) : Type 0 where
  well : IsWell given station history
  own : HaveOwnNumbers given station history
  lined : (handle : ℕ) (link : OpenLink) → link_at handle (facts_at given station history).links ≡ Some link
      → IsLined (sent_line_at (number_at station handle history) history (side_of station)) (ack_of link)
  acked : (handle : ℕ) (link : OpenLink) → link_at handle (facts_at given station history).links ≡ Some link
      → (exchange_at (number_at station handle history) history (side_of station)).acked ≡ (ack_of link).acked

module _ (given : Given) (few_links : HaveFewLinks given) (eight : (station : ℕ) → (setup_at given station).host_buffers ≡ 8) (station : ℕ) (history : List Event)
    (known : IsKnownEnding given history station) where
  abbrev facts : Facts
  facts = facts_at given station history

  abbrev side : Side
  side = side_of station

  abbrev called_then : List Note → List Event
  called_then notes = history ++ Called station TurnEnds ∷ map (Noted station) notes

  -- a link that is shut in the call, before the line of that
  settled_leaving : IsFullThen given history station → (IsSilent history → ends_for ending_in (facts_handed facts) ≡ []) → (handle : ℕ) (reason : ErrCode) (link : OpenLink) → link_at handle facts.links ≡ Some link
      → (earlier later : List Note) → notes_after (setup_at given station) facts TurnEnds ≡ earlier ++ ShutNote handle reason ∷ later
      → IsSettled (number_at station handle history) side (journal_of (called_then earlier))
  settled_leaving full none_ends handle reason link at earlier later are =
      let number = number_at station handle history in
      let journal = journal_of (called_then earlier) in
      let reported = link_reported link in
      let left = left_of facts.view facts.received in
      let parts = in_second is_shutting (notes_handed facts) (notes_leaving (facts_handed facts)) earlier (ShutNote handle reason) later
      (handed_not is_shutting (λ octets. refl) facts) refl are in
      let none_shut = none_reported given history station full parts.part (λ silent.
      shuts_none parts.part handle reason later
      (sym parts.second_is ∙ ap (λ (ended : List LinkEnded). flat_map (notes_ended (facts_handed facts).view) ended) (none_ends silent))) in
      let none : All SendsNone earlier =
      first_part SendsNone earlier (ShutNote handle reason ∷ later)
      (subst (All SendsNone) are
      (all_more HasNoData SendsNone (λ note has_none. has_none.sends) _ (end_noted HasNoData no_data.feeds (setup_at given station) facts))) in
      let same = sym (reported_ack link) in
      let booked : IsEndBooked number (lines_of 8 side journal) (facts_in reported) (data_waiting handle left) =
      subst (λ notes. IsEndBooked number (lines_at station (called_then notes)) (facts_in reported) (data_waiting handle left)) (sym parts.earlier_is)
      (booked_within given station history (few_links.links station) known.own known.well (eight station) handle link at parts.part (ShutNote handle reason ∷ later) parts.second_is) in record {
        received = elim (left_or_full given history station full (reports given history station full ++ parts.part) none_shut) [
          | inl waits ↦ inl (received_end number side journal (facts_in reported) (data_waiting handle left) booked (ap (data_waiting handle) waits))
          | inr was ↦ inr (subst (λ notes. was_full side (journal_of (called_then notes)) ≡ true)
              (sym (parts.earlier_is ∙ append_assoc (notes_pieces facts) (reports given history station full) parts.part)) was)
        ];
        credited = credited_end number side journal (facts_in reported) (data_waiting handle left) booked
            (past_together reported.setup reported.past)
            (none_complete link)
            (subst (λ line. IsLined line (ack_of reported)) (sym (sent_line_in_call number station TurnEnds history side earlier none))
            (subst (λ ack. IsLined (sent_line_at number history side) ack) same (known.lined handle link at)))
            (sym (ap (λ before. (exchange_at number before side).acked) (append_assoc history (Called station TurnEnds ∷ []) (map (Noted station) earlier)))
            ∙ (notes_counts number station TurnEnds history side earlier).acked ∙ known.acked handle link at ∙ ap (λ (ack : Acknowledgement). ack.acked) same);
      }

-- ---- in a run

AreKnownEnding : Given → List Event → ℕ → Step → Type 0
AreKnownEnding given history station TurnEnds = IsKnownEnding given history station
AreKnownEnding given history station (HostOctet octet) = ⊤
AreKnownEnding given history station (TurnBegins slot on) = ⊤
AreKnownEnding given history station (PacketHeard octets) = ⊤
AreKnownEnding given history station NothingHeard = ⊤

any_passes : (given : Given) (history : List Event) (station : ℕ) (received : Option (List ℕ)) → AreKnownEnding given history station (step_of received)
unfolding AreKnownEnding
any_passes given history station None = tt
any_passes given history station (Some octets) = tt

as_ending : (given : Given) (history : List Event) (station : ℕ) (step : Step) → step ≡ TurnEnds → AreKnownEnding given history station step → IsKnownEnding given history station
unfolding AreKnownEnding
as_ending given history station step ends known = subst (AreKnownEnding given history station) ends known

have_known : (given : Given) (Q : Place → List Event → Type 0) → AreKnown given Q → AreDistinct given.stations → HaveCalls given (AreKnownEnding given) (IsKnownAt given Q)
unfolding AreKnownEnding
have_known given Q known distinct = record {
  feeds = λ station octet history. tt;
  begins = λ plan slot done left station history are has next. tt;
  passes = λ phases done left station history are has next. any_passes given history station (packet_received station history);
  ends = λ done left station history are has.
      let place = AtEnds done (station ∷ left) in
      let in_it = among given.stations done left station are in
      let counted = has.data_is.counted in
      let turn = (facts_at given station history).turn in
      let phased : PhasedBy given history station (at_stage (Within 3) (turns_begun history)) =
      subst (λ b. PhasedBy given history station (if b then at_stage Between (turns_begun history) else at_stage (Within 3) (turns_begun history)))
      (not_before given.stations done left station distinct are) (phased_at given place history counted.holds.hearing.stand station in_it) in record {
        well = has.data_is.are.well station in_it;
        own = own_numbers given Q known place history station in_it counted.known;
        lined = λ handle link at. has.lined.lines station handle link in_it at;
        acked = λ handle link at.
            (plain true (packet_received station history) handle turn link (exchange_at (number_at station handle history) history (side_of station))
            (last_phase (facts_at given station history).links turn.doing handle phased.phase) (λ listens. counted.holds.hearing.hears station in_it)
            (counted.counted station handle link in_it at)).acked;
      };
}

resets_early : (facts : Facts) (step : Step) → commands_accepted_after facts step ≡ Reset ∷ [] → is_early step ≡ true
resets_early facts (HostOctet octet) is = refl
resets_early facts (TurnBegins slot on) is = refl
resets_early facts (PacketHeard octets) is = absurd cc
resets_early facts NothingHeard is = absurd cc
resets_early facts TurnEnds is = absurd cc

module _ (whole : IsHeardWhole) (understood : IsUnderstood) (taken : AreTaken) (nth : AreNth) (apart : AreApart) (given : Given) (are_two : IsOfTwo given) (few_links : HaveFewLinks given)
    (six : HaveAddresses given) (distinct : AreDistinct given.stations) (eight : (station : ℕ) → (setup_at given station).host_buffers ≡ 8)
    (full : (station : ℕ) (before rest : List Event) → history_of (run_of given) ≡ before ++ Called station TurnEnds ∷ rest → IsFullThen given before station) where
  run_ending : Each (OfCall given (AreKnownEnding given)) [] (history_of (run_of given))
  run_ending =
      let Q = IsBelongingSoFar given in
      let known = known_of understood taken nth apart given are_two six in
      run_calls given (AreKnownEnding given) (IsKnownAt given Q) (known_kept whole given Q known are_two few_links six distinct eight) (have_known given Q known distinct) (known_first given)

  module _ (front rest : List Entry) (side : Side) (number : ℕ) (reason : ErrCode) (call : IsLineInCall given front (shut_line side number reason))
      (passed : packets_passed front ≡ true) where
    abbrev step : Step
    step = call.step

    -- an octet of a host comes, and a turn begins, before the packets of the turn
    not_early : is_early step ≡ true → IsSettled number side front
    not_early early =
        let none : packets_passed front ≡ false =
        ap packets_passed call.front_is ∙ ap passed_at call.before_is ∙ in_call_passed call.station step call.base call.earlier
        ∙ none_passed given call.base call.after call.station step early call.called in
        absurd (let h : true ≡ false = sym passed ∙ none in cc)

    by_cause : IsShut (facts_at given call.station call.base) step call.handle reason.0 → IsSettled number side front
    by_cause (shut_overdue slot on link begins is_open due) = not_early (ap is_early begins)
    by_cause (shut_reset link completed is_open code) = not_early (resets_early (facts_at given call.station call.base) step completed)
    by_cause (shut_leaving link ends is_open leaves) =
        let line = shut_line side number reason in
        let station = call.station in
        let facts = facts_at given station call.base in
        let called = call.called ∙ ap (λ one. call.base ++ Called station one ∷ call.after) ends in
        let own = number_at station call.handle call.base in
        let was = handed facts call.handle link is_open in
        let known =
        as_ending given call.base station step ends
        (each_at (OfCall given (AreKnownEnding given)) (history_of (run_of given)) call.base call.after (Called station step) run_ending call.called) in
        let so : IsSettled own (side_of station) (journal_of (call.base ++ Called station TurnEnds ∷ map (Noted station) call.earlier)) =
        settled_leaving given few_links eight station call.base known
        (full station call.base call.after called)
        (λ silent. none_ends_silent given are_two station call.base call.after called silent)
        call.handle reason was.link was.was call.earlier call.later
        (ap (notes_after (setup_at given station) facts) (sym ends) ∙ call.notes_are) in
        to_line given front line call (λ one entries of. IsSettled one of entries)
        (subst (λ n. IsSettled n (side_of station) (journal_of call.before)) (number_then given front line call (ap ends_phase ends) ∙ sym call.number_is)
        (subst (λ events. IsSettled own (side_of station) (journal_of events)) (sym call.before_is)
        (subst (λ one. IsSettled own (side_of station) (journal_of (call.base ++ Called station one ∷ map (Noted station) call.earlier))) (sym ends) so)))

  pub settled_as_shut : AllAreSettledAsShut (journal_of (history_of (run_of given)))
  settled_as_shut = λ front rest side link reason is passed.
      let call = line_in_call given front rest (Shut side link reason) (shut_line side link reason) refl is in
      by_cause front rest side link reason call passed (shut_in given front side link reason call)
