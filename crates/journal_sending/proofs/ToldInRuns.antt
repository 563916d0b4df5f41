-- The line of a new PDU is the last of its side before the packet that brings it, in every run of a pair.
use Rattle.std.proofs.Common.{◌≡◌, ℕ, ◌-◌, ◌≤◌, ◌==◌, ◌&&◌, not, Bool, true, false, Option, Some, None, List, [], ◌∷◌, ◌++◌, length, refl, sym, ap, subst, ◌∙◌, append-nil, append_assoc, arith}
use Rattle.std.specs.Prelude.{All, ⊤, map, take, if◌then◌else◌}
use Rattle.std.proofs.lemmas.List.{length-append}
use Rattle.std.proofs.lemmas.List.Elements.{All-cons, All-head, All-nil, All-tail}
use Rattle.ble_base.specs.declared.notes.Note.{Note}
use Rattle.ble_base.specs.declared.notes.Note.TheVariants.{Up as UpNote}
use Rattle.ble_base.specs.declared.roles.Side.{Side}
use Rattle.journal.specs.declared.entries.Entry.{Entry}
use Rattle.journal.specs.declared.entries.Entry.TheVariants.{Turn, Fed, Air}
use Rattle.journal_leaving.specs.link_model.Acknowledgement.{Pdu, is_acked}
use Rattle.journal_leaving.specs.link_model.Data.{is_empty, numbered}
use Rattle.journal_leaving.specs.link_model.Controls.{pdu_fixed}
use Rattle.journal_leaving.specs.link_model.Sending.{sent_notes_if}
use Rattle.journal_leaving.proofs.link_model.Hearing.{IsHeardWhole}
use Rattle.journal_leaving.specs.journal_data.open_links.OpenLinks.{OpenLink, facts_in, link_at}
use Rattle.journal_leaving.specs.controller_model.declared.doing.Doing.{Doing}
use Rattle.journal_leaving.specs.controller_model.declared.doing.Doing.TheVariants.{Advertises, CentralSends, PeripheralSends}
use Rattle.journal_leaving.specs.controller_model.Step.{Step, HostOctet, TurnBegins, TurnEnds}
use Rattle.journal_leaving.specs.controller_model.Facts.{Facts}
use Rattle.journal_leaving.specs.controller_model.Heard.{link_heard}
use Rattle.journal_leaving.specs.controller_model.Outcome.{notes_passed}
use Rattle.journal_leaving.specs.controller_model.Packets.{notes_doing, notes_sent}
use Rattle.journal_leaving.specs.controller_model.Radio.{outcome_begun}
use Rattle.journal_leaving.specs.controller_model.Side.{notes_after}
use Rattle.journal_leaving.specs.run_model.Due.{Each, packet_in}
use Rattle.journal_leaving.specs.run_model.Feeding.{AreDistinct}
use Rattle.journal_leaving.specs.run_model.History.{Event, TurnBegan, HostFed, Called, Noted, Transmitted, packet_received, turns_begun}
use Rattle.journal_leaving.specs.run_model.Journal.{entries_of, entry_of, journal_of, mark_of, radio_in, side_of}
use Rattle.journal_leaving.specs.run_model.LinkEnds.{HaveAddresses}
use Rattle.journal_leaving.specs.run_model.Links.{Links, links_of}
use Rattle.journal_leaving.specs.run_model.Run.{Given, Stop, Stops, after_call, after_feed, after_octets, facts_at, hearings_of, history_of, octets_left}
use Rattle.journal_leaving.specs.run_model.Run.{run_of, setup_at, step_of}
use Rattle.journal_leaving.proofs.run_model.CallNotes.{noted_in_call}
use Rattle.journal_leaving.proofs.run_model.EntryEvents.{is_of_event}
use Rattle.journal_leaving.proofs.run_model.LinkEnds.{AreTaken, IsUnderstood, wanted_is}
use Rattle.journal_leaving.proofs.run_model.Places.{each_at, each_called, each_event}
use Rattle.journal_leaving.proofs.run_model.Stations.{is_in, among, in_more_other, in_more_same, not_before}
use Rattle.journal_leaving.proofs.run_model.Walk.{Place, AtPackets, AtBegins, AtFeeds, AtEnds, NoTurn, IsKept, IsStopped, IsWhole, ends_with, run_kept}
use Rattle.journal_leaving.proofs.journal_data.run_laws.Agreed.{ack_of}
use Rattle.journal_leaving.proofs.journal_data.run_laws.DistinctAccess.{AreApart}
use Rattle.journal_leaving.proofs.journal_data.run_laws.Hearings.{own_facts}
use Rattle.journal_leaving.proofs.journal_data.run_laws.TurnPlaces.{Between, Within, at_stage}
use Rattle.journal_leaving.specs.journal_packets.Belonging.{is_side}
use Rattle.journal_leaving.proofs.journal_packets.AccessOrder.{AreNth}
use Rattle.journal_leaving.proofs.journal_packets.SoFar.{IsBelongingSoFar}
use Rattle.journal_leaving.proofs.journal_acks.Worded.{worded}
use Rattle.journal_leaving.proofs.journal_acks.link_calls.CallNotes.{HasNoData, SendsNone, all_more, end_noted, no_data, notes_starting, octet_noted}
use Rattle.journal_leaving.proofs.journal_acks.link_calls.CallNotes.{start_noted}
use Rattle.journal_leaving.proofs.journal_acks.Counting.{AreKnown}
use Rattle.journal_leaving.proofs.journal_acks.DataCalls.{on_link_notes}
use Rattle.journal_leaving.proofs.journal_acks.KeptCounts.{AreCountedAt, unsent}
use Rattle.journal_leaving.proofs.journal_acks.Known.{known_of}
use Rattle.journal_leaving.proofs.journal_acks.link_calls.LinkCalls.{received_noted, taking_sends}
use Rattle.journal_leaving.specs.journal_acks.link_calls.Uses.{sends_under}
use Rattle.journal_leaving.proofs.journal_acks.RunCounts.{counts_first}
use Rattle.journal_leaving.proofs.journal_acks.Seen.{seen_stop}
use Rattle.journal_leaving.proofs.journal_acks.PhaseNotes.{IsOnLink, IsPhaseOf, IsPlainPhase, phase_of}
use Rattle.journal_leaving.proofs.journal_acks.Standing.{PhasedBy, last_phase, phased_at, silent_sends}
use Rattle.journal_leaving.proofs.journal_acks.TwoStations.{IsOfTwo, hearing_of, one_hearing, same_number}
use Rattle.journal_leaving.proofs.journal_data.FewLinks.{HaveFewLinks}
use Rattle.journal_sending.specs.Announced.{AllGoOutAtOnce, announced_pdu, new_pdu_in, side_of_line}
use Rattle.journal_sending.proofs.Together.{IsKnownAt, known_first, known_kept}
use Rattle.journal_sending.proofs.ToldLines.{air_told, call_told, called_none, fed_told, noted_none, told_at}
use Rattle.journal_sending.proofs.Told.{AreTold, IsTold, StaysTold, begin_tells, call_stays, feed_stays, from_off, off_told, packet_stays, phase_tells, same_told, still_told, told_step, turn_stays}
use Rattle.journal_sending.proofs.ToldPackets.{brought_in, packet_brings, silent_told}

-- ---- events

-- before a call the last line of its station tells no new PDU, and of what it notes only the last may tell one
record IsToldCall (given : Given) (history : List Event) (station : ℕ) (step : Step) : Type 0 where
  before : told_at station history ≡ None
  start : List Note
  last : List Note
  are : notes_after (setup_at given station) (facts_at given station history) step ≡ start ++ last
  none : All SendsNone start
  few : length last ≤ 1

all_quiet : (given : Given) (history : List Event) (station : ℕ) (step : Step) → told_at station history ≡ None
    → All HasNoData (notes_after (setup_at given station) (facts_at given station history) step) → IsToldCall given history station step
all_quiet given history station step before plain_too =
    let notes = notes_after (setup_at given station) (facts_at given station history) step in record {
      before = before;
      start = notes;
      last = [];
      are = sym (append-nil notes);
      none = all_more HasNoData SendsNone (λ note has. has.sends) notes plain_too;
      few = omega arith;
    }

few_if : (noted : Bool) (handle number : ℕ) (pdu : Pdu) → length (sent_notes_if noted handle number pdu) ≤ 1
few_if true handle number pdu = omega arith
few_if false handle number pdu = omega arith

few_sent : (slot : ℕ) (found : Option OpenLink) → length (notes_sent slot found) ≤ 1
few_sent slot None = omega arith
few_sent slot (Some link) =
    let pdu = pdu_fixed (facts_in link) in
    few_if (is_acked (ack_of link) && not (is_empty pdu)) link.setup.link.handle (numbered (ack_of link).sent) pdu

few_doing : (doing : Doing) (facts : Facts) → length (notes_doing doing facts) ≤ 1
few_doing (CentralSends handle) facts = few_sent facts.turn.slot (link_at handle facts.links)
few_doing (PeripheralSends handle) facts = few_sent facts.turn.slot (link_at handle facts.links)
few_doing (Advertises channel) facts = omega arith
few_doing doing facts = omega arith

begin_call : (given : Given) (station slot : ℕ) (on : Bool) (history : List Event) → told_at station history ≡ None → IsToldCall given history station (TurnBegins slot on)
begin_call given station slot on history before =
    let facts = facts_at given station history in
    let outcome = outcome_begun slot on facts in
    let start = notes_starting slot facts in record {
      before = before;
      start = start;
      last = notes_doing outcome.next outcome.facts;
      are = refl;
      none = all_more HasNoData SendsNone (λ note has. has.sends) start (start_noted HasNoData no_data slot facts);
      few = few_doing outcome.next outcome.facts;
    }

phase_call : (given : Given) (station : ℕ) (received : Option (List ℕ)) (history : List Event) → told_at station history ≡ None
    → IsPhaseOf (setup_at given station) (facts_at given station history) received → IsToldCall given history station (step_of received)
phase_call given station received history before (IsPlainPhase none plain_too) = all_quiet given history station (step_of received) before plain_too
phase_call given station received history before (IsOnLink other words octets some listens heard_is) =
    let setup = setup_at given station in
    let facts = facts_at given station history in
    let now = worded words setup other facts in
    let outcome = link_heard setup other octets now in record {
      before = before;
      start = outcome.notes;
      last = notes_doing outcome.next outcome.facts;
      are = on_link_notes setup facts received octets outcome some (ap notes_passed heard_is);
      none = received_noted SendsNone taking_sends setup other octets now;
      few = few_doing outcome.next outcome.facts;
    }

module _ (given : Given) where
  abbrev IsToldEvent : List Event → Event → Type 0
  IsToldEvent history (TurnBegan slot radios) = ⊤
  IsToldEvent history (HostFed station octets) = told_at station history ≡ None
  IsToldEvent history (Called station step) = IsToldCall given history station step
  IsToldEvent history (Noted station note) = ⊤
  IsToldEvent history (Transmitted station channel octets hearings) = told_at station history ≡ brought_in history station channel octets

  each_told : (station : ℕ) (step : Step) (history : List Event) → IsToldCall given history station step → Each IsToldEvent [] history
      → Each IsToldEvent [] (after_call given station step history)
  each_told station step history call each =
      each_called IsToldEvent station step (notes_after (setup_at given station) (facts_at given station history) step) history each call (λ before note. tt)

  -- a host sends
  record IsFed (station : ℕ) (history : List Event) : Type 0 where
    none : told_at station history ≡ None
    each : Each IsToldEvent [] history

  octets_fed : (station : ℕ) (octets : List ℕ) (history : List Event) → IsFed station history → IsFed station (after_octets given station octets history)
  octets_fed station [] history fed = fed
  octets_fed station (octet ∷ octets) history fed =
      let setup = setup_at given station in
      let facts = facts_at given station history in
      let notes = octet_noted HasNoData no_data.feeds setup facts octet in
      octets_fed station octets (after_call given station (HostOctet octet) history) (record {
        none = called_none given station (HostOctet octet) history fed.none (all_more HasNoData SendsNone (λ note has. has.sends) _ notes);
        each = each_told station (HostOctet octet) history (all_quiet given history station (HostOctet octet) fed.none notes) fed.each;
      })

  feed_fed : (station : ℕ) (octets : List ℕ) (history : List Event) → IsFed station history → IsFed station (after_feed given station octets history)
  feed_fed station [] history fed = fed
  feed_fed station (octet ∷ octets) history fed =
      octets_fed station (octet ∷ octets) (history ++ HostFed station (octet ∷ octets) ∷ []) (record {
        none = fed_told station history (octet ∷ octets);
        each = each_event IsToldEvent history (HostFed station (octet ∷ octets)) fed.each fed.none;
      })

  pub record IsToldAt (Q : Place → List Event → Type 0) (place : Place) (history : List Event) : Type 0 where
    pub is : IsKnownAt given Q place history
    pub told_is : AreTold given history (unsent place)
    each : Each IsToldEvent [] history

  between_turns : (Q : Place → List Event → Type 0) (distinct : AreDistinct given.stations) (done left : List ℕ) (station : ℕ) (history : List Event)
      → given.stations ≡ done ++ station ∷ left → AreCountedAt given Q (AtBegins done (station ∷ left)) history
      → PhasedBy given history station (at_stage Between (turns_begun history - 1))
  between_turns Q distinct done left station history are counted =
      subst (λ b. PhasedBy given history station (if b then at_stage (Within 0) (turns_begun history) else at_stage Between (turns_begun history - 1)))
      (not_before given.stations done left station distinct are)
      (phased_at given (AtBegins done (station ∷ left)) history counted.holds.hearing.stand station (among given.stations done left station are))

  last_stage : (Q : Place → List Event → Type 0) (distinct : AreDistinct given.stations) (done left : List ℕ) (station : ℕ) (history : List Event)
      → given.stations ≡ done ++ station ∷ left → AreCountedAt given Q (AtEnds done (station ∷ left)) history
      → PhasedBy given history station (at_stage (Within 3) (turns_begun history))
  last_stage Q distinct done left station history are counted =
      subst (λ b. PhasedBy given history station (if b then at_stage Between (turns_begun history) else at_stage (Within 3) (turns_begun history)))
      (not_before given.stations done left station distinct are)
      (phased_at given (AtEnds done (station ∷ left)) history counted.holds.hearing.stand station (among given.stations done left station are))

  module _ (whole : IsHeardWhole) (Q : Place → List Event → Type 0) (known : AreKnown given Q) (are_two : IsOfTwo given) (few_links : HaveFewLinks given) (six : HaveAddresses given)
      (distinct : AreDistinct given.stations) (eight : (station : ℕ) → (setup_at given station).host_buffers ≡ 8) where
    -- the packet of a station was on the air, or it has none
    aired_step : (phases : ℕ) (done left : List ℕ) (station : ℕ) (history after : List Event) → given.stations ≡ done ++ station ∷ left → told_at station after ≡ None
        → ((other : ℕ) → is_side (side_of station) (side_of other) ≡ false → is_side (side_of other) (side_of station) ≡ false → (other == station) ≡ false
        → StaysTold given other history after)
        → AreTold given history (unsent (AtPackets phases done (station ∷ left))) → AreTold given after (unsent (AtPackets phases (done ++ station ∷ []) left))
    aired_step phases done left station history after are none stays told_is =
        told_step given are_two station history after (λ one. not (is_in one done)) (λ one. not (is_in one (done ++ station ∷ []))) (among given.stations done left station are)
        (subst (λ b. IsTold given (not b) station after) (sym (in_more_same station station done (same_number station))) none)
        (λ other is_other differs. ap not (in_more_other other station done differs)) stays told_is

    -- before that its packet is still to come
    pub still_unsent : (phases : ℕ) (done left : List ℕ) (station : ℕ) (history : List Event) → given.stations ≡ done ++ station ∷ left
        → AreTold given history (unsent (AtPackets phases done (station ∷ left))) → IsTold given true station history
    still_unsent phases done left station history are told_is =
        subst (λ b. IsTold given (not b) station history) (not_before given.stations done left station distinct are) (told_is station (among given.stations done left station are))

    pub told_kept : IsKept given (IsToldAt Q)
    told_kept = let kept = known_kept whole given Q known are_two few_links six distinct eight in record {
      on_turn = λ slot plan history begun at has.
          let radios = map plan.radio_of given.stations in
          let after = history ++ TurnBegan slot radios ∷ [] in record {
            is = kept.on_turn slot plan history begun at has.is;
            told_is = λ station in_it. still_told given true station history after (turn_stays given station history slot radios) (has.told_is station in_it);
            each = each_event IsToldEvent history (TurnBegan slot radios) has.each tt;
          };
      on_feed = λ plan done left station history are some now has.
          let octets = take (plan.feed_of station) (octets_left given station history) in
          let after = after_feed given station octets history in
          let in_it = among given.stations done left station are in
          let next = kept.on_feed plan done left station history are some now has.is in
          let before = phased_at given (AtFeeds done (station ∷ left)) history has.is.data_is.counted.holds.hearing.stand station in_it in
          let rests = phased_at given (AtFeeds (done ++ station ∷ []) left) after next.data_is.counted.holds.hearing.stand station in_it in
          let fed = feed_fed station octets history (record {
            none = off_told given station history (λ handle. ap (sends_under handle) before.phase) (has.told_is station in_it);
            each = has.each;
          }) in record {
            is = next;
            told_is = told_step given are_two station history after (λ one. true) (λ one. true) in_it (from_off given station after (λ handle. ap (sends_under handle) rests.phase) fed.none)
                (λ other is_other differs. refl) (λ other differs back apart. feed_stays given other station octets history differs back apart) has.told_is;
            each = fed.each;
          };
      on_fed = λ history has. record { is = kept.on_fed history has.is; told_is = has.told_is; each = has.each };
      on_begin = λ slot plan done left station history are due has.
          let on = plan.radio_of station in
          let step = TurnBegins slot on in
          let in_it = among given.stations done left station are in
          let counted = has.is.data_is.counted in
          let rests = between_turns Q distinct done left station history are counted in
          let none = off_told given station history (λ handle. ap (sends_under handle) rests.phase) (has.told_is station in_it) in record {
            is = kept.on_begin slot plan done left station history are due has.is;
            told_is = told_step given are_two station history (after_call given station step history) (λ one. true) (λ one. true) in_it
                (begin_tells given station slot on history in_it rests.phase (counted.holds.so_far.last.each station in_it) counted.counted none)
                (λ other is_other differs. refl) (λ other differs back apart. call_stays given other station step history differs back apart) has.told_is;
            each = each_told station step history (begin_call given station slot on history none) has.each;
          };
      on_begun = λ history has. record { is = kept.on_begun history has.is; told_is = has.told_is; each = has.each };
      on_phase = λ phases history few has. record { is = kept.on_phase phases history few has.is; told_is = has.told_is; each = has.each };
      on_silence = λ phases done left station history are none has.
          let in_it = among given.stations done left station are in
          let facts = facts_at given station history in record {
            is = kept.on_silence phases done left station history are none has.is;
            told_is = aired_step phases done left station history history are
                (silent_told given station history (still_unsent phases done left station history are has.told_is) (λ handle link at.
                silent_sends facts handle link (phased_at given (AtPackets phases done (station ∷ left)) history has.is.data_is.counted.holds.hearing.stand station in_it).uses.sends at
                (ap packet_in (wanted_is given station history) ∙ none)))
                (λ other differs back apart. record { told_is = refl; facts = refl; number = λ handle. refl; sent = λ number. refl }) has.told_is;
            each = has.each;
          };
      on_packet = λ phases plan done left station channel octets history are some due has.
          let hearings = hearings_of given plan.fates station channel octets history in
          let event = Transmitted station channel octets hearings in
          let in_it = among given.stations done left station are in record {
            is = kept.on_packet phases plan done left station channel octets history are some due has.is;
            told_is = aired_step phases done left station history (history ++ event ∷ []) are
                (ap (λ xs. told_at station (history ++ Transmitted station channel octets xs ∷ [])) (one_hearing given are_two plan.fates station channel octets history in_it)
                ∙ air_told station history channel octets (hearing_of given plan.fates station channel octets history) [])
                (λ other differs back apart. packet_stays given other station history channel octets hearings differs back) has.told_is;
            each = each_event IsToldEvent history event has.each
                (packet_brings whole given Q known are_two few_links six distinct eight phases done left station channel octets history are due.is_wanted has.is
                (still_unsent phases done left station history are has.told_is));
          };
      on_air = λ phases history has. record {
        is = kept.on_air phases history has.is;
        told_is = same_told given history (λ one. not (is_in one given.stations)) (λ one. is_in one []) (λ one in_it. sym (ap not in_it)) has.told_is;
        each = has.each;
      };
      on_hearing = λ phases done left station history are some has.
          let received = packet_received station history in
          let step = step_of received in
          let in_it = among given.stations done left station are in
          let next = kept.on_hearing phases done left station history are some has.is in
          let none : told_at station history ≡ None = subst (λ b. IsTold given b station history) (not_before given.stations done left station distinct are) (has.told_is station in_it) in record {
            is = next;
            told_is = told_step given are_two station history (after_call given station step history) (λ one. is_in one done) (λ one. is_in one (done ++ station ∷ [])) in_it
                (subst (λ b. IsTold given b station (after_call given station step history)) (sym (in_more_same station station done (same_number station)))
                (phase_tells given Q known distinct phases done left station history are has.is.data_is.counted next.data_is.counted.known next.data_is.counted.holds none))
                (λ other is_other differs. in_more_other other station done differs)
                (λ other differs back apart. call_stays given other station step history differs back apart) has.told_is;
            each = each_told station step history
                (phase_call given station received history none (phase_of (setup_at given station) (facts_at given station history) received)) has.each;
          };
      on_heard = λ phases history has. record {
        is = kept.on_heard phases history has.is;
        told_is = same_told given history (λ one. is_in one given.stations) (λ one. true) (λ one in_it. sym in_it) has.told_is;
        each = has.each;
      };
      on_phases = λ history has. record { is = kept.on_phases history has.is; told_is = has.told_is; each = has.each };
      on_end = λ done left station history are some has.
          let setup = setup_at given station in
          let facts = facts_at given station history in
          let in_it = among given.stations done left station are in
          let after = after_call given station TurnEnds history in
          let phase = (last_stage Q distinct done left station history are has.is.data_is.counted).phase in
          let none = off_told given station history (λ handle. last_phase facts.links facts.turn.doing handle phase) (has.told_is station in_it) in
          let notes = end_noted HasNoData no_data.feeds setup facts in record {
            is = kept.on_end done left station history are some has.is;
            told_is = told_step given are_two station history after (λ one. true) (λ one. true) in_it
                (from_off given station after (λ handle. ap (λ (f : Facts). sends_under handle f.turn.doing) (own_facts given station TurnEnds history))
                (called_none given station TurnEnds history none (all_more HasNoData SendsNone (λ note has_none. has_none.sends) _ notes)))
                (λ other is_other differs. refl) (λ other differs back apart. call_stays given other station TurnEnds history differs back apart) has.told_is;
            each = each_told station TurnEnds history (all_quiet given history station TurnEnds none notes) has.each;
          };
      on_ended = λ history has. record { is = kept.on_ended history has.is; told_is = has.told_is; each = has.each };
    }

    run_told : IsToldAt Q NoTurn [] → Each IsToldEvent [] (history_of (run_of given))
    run_told first =
        ends_with (run_of given) (IsWhole given (IsToldAt Q)) (IsStopped given (IsToldAt Q)) (Each IsToldEvent []) (run_kept given (IsToldAt Q) told_kept first)
        (λ history wholly. wholly.is.each) (λ history stop stopped. stopped.kept.each)

-- ---- as a run begins

none_told : (station : ℕ) → told_at station [] ≡ None
unfolding announced_pdu journal_of
none_told station = refl

pub told_first : (given : Given) → IsToldAt given (IsBelongingSoFar given) NoTurn []
told_first given = record {
  is = known_first given;
  told_is = λ station in_it. from_off given station [] (λ handle. ap (sends_under handle) (phased_at given NoTurn [] (counts_first given).holds.hearing.stand station in_it).phase) (none_told station);
  each = tt;
}

-- ---- the event of a line

too_many : (first : Note) (earlier later last : List Note) (note : Note) (X : Type 0) → first ∷ (earlier ++ note ∷ later) ≡ last → length last ≤ 1 → X
too_many first earlier later last note X is few =
    let many = ap length is in
    let both = length-append earlier (note ∷ later) in
    absurd (omega (arith, many, both, few))

record HaveSameHead (one other : Note) (ones others : List Note) : Type 0 where
  head : one ≡ other
  tail : ones ≡ others

heads : (one other : Note) (ones others : List Note) → one ∷ ones ≡ other ∷ others → HaveSameHead one other ones others
heads one other ones others is = record { head = cc; tail = cc }

-- no note before another one in a call tells a new PDU
earlier_quiet : (earlier start last later : List Note) (note : Note) → earlier ++ note ∷ later ≡ start ++ last → All SendsNone start → length last ≤ 1 → All SendsNone earlier
earlier_quiet [] start last later note are none few = All-nil SendsNone
earlier_quiet (first ∷ earlier) [] last later note are none few = too_many first earlier later last note (All SendsNone (first ∷ earlier)) are few
earlier_quiet (first ∷ earlier) (other ∷ start) last later note are none few =
    let same = heads first other (earlier ++ note ∷ later) (start ++ last) are in
    All-cons SendsNone first earlier (subst SendsNone (sym same.head) (All-head SendsNone other start none))
    (earlier_quiet earlier start last later note same.tail (All-tail SendsNone other start none) few)

note_before : (given : Given) (station : ℕ) (step : Step) (base before : List Event) (earlier later : List Note) (note : Note)
    → notes_after (setup_at given station) (facts_at given station base) step ≡ earlier ++ note ∷ later → before ≡ base ++ Called station step ∷ map (Noted station) earlier
    → IsToldCall given base station step → told_at station before ≡ None
note_before given station step base before earlier later note are is call =
    ap (told_at station) (is ∙ sym (append_assoc base (Called station step ∷ []) (map (Noted station) earlier)))
    ∙ noted_none station earlier (base ++ Called station step ∷ []) (call_told station base station step ∙ call.before)
    (earlier_quiet earlier call.start call.last later note (sym are ∙ call.are) call.none call.few)

-- what is told before an event that has a line
abbrev IsToldNow : List Event → Event → Type 0
IsToldNow before (TurnBegan slot radios) = ⊤
IsToldNow before (HostFed station octets) = told_at station before ≡ None
IsToldNow before (Called station step) = ⊤
IsToldNow before (Noted station note) = told_at station before ≡ None
IsToldNow before (Transmitted station channel octets hearings) = told_at station before ≡ brought_in before station channel octets

event_told : (given : Given) → Each (IsToldEvent given) [] (history_of (run_of given)) → (before rest : List Event) (event : Event)
    → history_of (run_of given) ≡ before ++ event ∷ rest → IsToldNow before event
event_told given each before rest (TurnBegan slot radios) at = tt
event_told given each before rest (HostFed station octets) at = each_at (IsToldEvent given) (history_of (run_of given)) before rest (HostFed station octets) each at
event_told given each before rest (Called station step) at = tt
event_told given each before rest (Transmitted station channel octets hearings) at =
    each_at (IsToldEvent given) (history_of (run_of given)) before rest (Transmitted station channel octets hearings) each at
event_told given each before rest (Noted station note) at =
    let call = noted_in_call given before rest station note at in
    let later = map (Noted station) call.earlier ++ Noted station note ∷ rest in
    note_before given station call.step call.base before call.earlier call.later note call.notes_are call.before_is
    (each_at (IsToldEvent given) (history_of (run_of given)) call.base later (Called station call.step) each
    (at ∙ ap (λ xs. xs ++ Noted station note ∷ rest) call.before_is
    ∙ append_assoc call.base (Called station call.step ∷ map (Noted station) call.earlier) (Noted station note ∷ rest)))

-- ---- a line

abbrev GoesOut : List Entry → Side → Entry → Type 0
GoesOut front side entry = announced_pdu side front ≡ new_pdu_in front side entry

same_side : (one other : Side) → Some one ≡ Some other → one ≡ other
same_side one other is = cc

pub note_side : (side : Side) (link_of : ℕ → ℕ) (last : ℕ) (note : Note) → side_of_line (entry_of side link_of last note) ≡ Some side
note_side side link_of last (UpNote packet) = refl
note_side side link_of last note = refl

note_brings : (entries : List Entry) (own : Side) (link_of : ℕ → ℕ) (last : ℕ) (note : Note) → new_pdu_in entries own (entry_of own link_of last note) ≡ None
note_brings entries own link_of last (UpNote packet) = refl
note_brings entries own link_of last note = refl

-- a line with its own side
own_line : (front : List Entry) (own side : Side) (made entry : Entry) → made ≡ entry → side_of_line made ≡ Some own → side_of_line entry ≡ Some side → GoesOut front own made
    → GoesOut front side entry
own_line front own side made entry same made_side side_is goes =
    let one = same_side own side (sym made_side ∙ ap side_of_line same ∙ side_is) in
    subst (GoesOut front side) same (subst (λ s. GoesOut front s made) one goes)

no_side : (slot : ℕ) (radios : List Bool) (entry : Entry) (side : Side) (X : Type 0) → Turn slot (radio_in 0 radios) (Some (radio_in 1 radios)) ∷ [] ≡ entry ∷ [] → side_of_line entry ≡ Some side → X
no_side slot radios entry side X is side_is =
    let same : Turn slot (radio_in 0 radios) (Some (radio_in 1 radios)) ≡ entry = cc in
    absurd (let h : None ≡ Some side = ap side_of_line same ∙ side_is in absurd cc)

line_goes : (links : Links) (before : List Event) (event : Event) (entry : Entry) (side : Side) → entries_of links event ≡ entry ∷ [] → side_of_line entry ≡ Some side
    → IsToldNow before event → GoesOut (journal_of before) side entry
line_goes links before (TurnBegan slot radios) entry side is side_is now = no_side slot radios entry side (GoesOut (journal_of before) side entry) is side_is
line_goes links before (HostFed station octets) entry side is side_is now =
    let same : Fed (side_of station) octets ≡ entry = cc in
    own_line (journal_of before) (side_of station) side (Fed (side_of station) octets) entry same refl side_is now
line_goes links before (Called station step) entry side is side_is now = absurd cc
line_goes links before (Noted station note) entry side is side_is now =
    let made = entry_of (side_of station) (links.link_of station) (links.last_of station) note in
    let same : made ≡ entry = cc in
    own_line (journal_of before) (side_of station) side made entry same (note_side (side_of station) (links.link_of station) (links.last_of station) note) side_is
    (now ∙ sym (note_brings (journal_of before) (side_of station) (links.link_of station) (links.last_of station) note))
line_goes links before (Transmitted station channel octets []) entry side is side_is now = absurd cc
line_goes links before (Transmitted station channel octets (hearing ∷ hearings)) entry side is side_is now =
    let made = Air (side_of station) channel octets (mark_of hearing.fate) hearing.verdict in
    let same : made ≡ entry = cc in
    own_line (journal_of before) (side_of station) side made entry same refl side_is now

pub told_lines : IsHeardWhole → IsUnderstood → AreTaken → AreNth → AreApart → (given : Given) → IsOfTwo given → HaveFewLinks given → HaveAddresses given → AreDistinct given.stations
    → ((station : ℕ) → (setup_at given station).host_buffers ≡ 8) → AllGoOutAtOnce (journal_of (history_of (run_of given)))
told_lines whole understood taken nth apart given are_two few_links six distinct eight = λ front rest entry side is side_is.
    let known = known_of understood taken nth apart given are_two six in
    let one = is_of_event (history_of (run_of given)) front rest entry is in
    subst (λ xs. GoesOut xs side entry) (sym one.front_is)
    (line_goes (links_of one.before) one.before one.event entry side one.entry_is side_is
    (event_told given (run_told given whole (IsBelongingSoFar given) known are_two few_links six distinct eight (told_first given)) one.before one.after one.event one.is_at))

-- where damage stops a run, the line is the last one before the packet that is to come
pub told_at_stop : IsHeardWhole → IsUnderstood → AreTaken → AreNth → AreApart → (given : Given) → IsOfTwo given → HaveFewLinks given → HaveAddresses given → AreDistinct given.stations
    → ((station : ℕ) → (setup_at given station).host_buffers ≡ 8) → (history : List Event) (stop : Stop) → run_of given ≡ Stops history stop
    → told_at stop.sender history ≡ brought_in history stop.sender stop.channel stop.sent
told_at_stop whole understood taken nth apart given are_two few_links six distinct eight =
    let Q = IsBelongingSoFar given in
    let known = known_of understood taken nth apart given are_two six in
    seen_stop given (IsToldAt given Q) (told_kept given whole Q known are_two few_links six distinct eight) (λ history. Unit {0})
    (λ history station channel octets. told_at station history ≡ brought_in history station channel octets)
    (record {
      turn = λ history has. tt;
      packet = λ phases done left station channel octets history are wanted has.
          packet_brings whole given Q known are_two few_links six distinct eight phases done left station channel octets history are wanted has.is
          (still_unsent given whole Q known are_two few_links six distinct eight phases done left station history are has.told_is);
    }) (told_first given)
