-- In every run of two stations, a side sends on a link in the turn after that of the anchor of an event only where a packet
-- in the turn of the anchor said that more waits.
use Rattle.std.proofs.Common.{◌≡◌, ℕ, ◌+◌, ◌-◌, ◌==◌, ◌&&◌, ◌||◌, inl, inr, Bool, true, false, not, Option, Some, None, List, [], ◌∷◌, ◌++◌, length, replicate, refl, sym, ap, subst, ◌∙◌, arith}
use Rattle.std.specs.Prelude.{⊤, map, take, if◌then◌else◌}
use Rattle.std.proofs.lemmas.Bool.{and_parts, eqb-true, false_from_ne_true}
use Rattle.ble_base.specs.declared.roles.Side.{Side}
use Rattle.journal.specs.declared.entries.Entry.{Entry}
use Rattle.journal_acks.specs.link_model.declared.events.ConnectionEvent.{ConnectionEvent}
use Rattle.journal_acks.specs.link_model.Packets.{more_sent}
use Rattle.journal_acks.specs.link_model.Step.{PacketSent}
use Rattle.journal_acks.proofs.link_model.Hearing.{IsHeardWhole}
use Rattle.journal_acks.specs.open_links.OpenLinks.{OpenLink, facts_in, link_after, link_at}
use Rattle.journal_acks.specs.controller_model.declared.doing.Turn.{Turn}
use Rattle.journal_acks.specs.controller_model.Facts.{Sends}
use Rattle.journal_acks.specs.controller_model.Side.{facts_of}
use Rattle.journal_acks.specs.controller_model.Step.{TurnBegins, TurnEnds}
use Rattle.journal_acks.specs.run_model.Due.{packet_in}
use Rattle.journal_acks.specs.run_model.Feeding.{AreDistinct}
use Rattle.journal_acks.specs.run_model.History.{Event, TurnBegan, packet_received, past_of, turns_begun}
use Rattle.journal_acks.specs.run_model.Journal.{journal_of, side_of}
use Rattle.journal_acks.specs.run_model.LinkEnds.{HaveAddresses}
use Rattle.journal_acks.specs.run_model.Links.{is_advertising}
use Rattle.journal_acks.specs.run_model.Readers.{turns_of}
use Rattle.journal_acks.specs.run_model.Run.{Given, after_call, after_feed, facts_at, history_of, octets_left, run_of, setup_at, step_of, use_at}
use Rattle.journal_acks.proofs.run_model.EntryEvents.{is_aired}
use Rattle.journal_acks.proofs.run_model.Fates.{turns_are}
use Rattle.journal_acks.proofs.run_model.Fronts.{front_at}
use Rattle.journal_acks.proofs.run_model.LinkEnds.{AreTaken, IsUnderstood, received_by, received_event, wanted_is}
use Rattle.journal_acks.proofs.run_model.Calls.{same_station}
use Rattle.journal_acks.proofs.run_model.Stations.{among, in_more_other, in_more_same, is_in, not_before}
use Rattle.journal_acks.proofs.run_model.Walk.{AtBegins, AtEnds, AtFeeds, AtPackets, IsKept, NoTurn, Place}
use Rattle.journal_acks.proofs.run_laws.DistinctAccess.{AreApart}
use Rattle.journal_acks.proofs.run_laws.OpenSteps.{none_open, open_has}
use Rattle.journal_acks.proofs.run_laws.TurnPlaces.{Between, Within, at_stage, turned}
use Rattle.journal_acks.specs.journal_links.Begun.{link_numbered}
use Rattle.journal_acks.specs.journal_links.Changes.{changes_of}
use Rattle.journal_acks.specs.journal_links.Entered.{anchor_in}
use Rattle.journal_acks.proofs.journal_links.OfTwo.{are_distinct}
use Rattle.journal_acks.specs.journal_packets.Senders.{IsOfSendersLink}
use Rattle.journal_acks.proofs.journal_packets.AccessOrder.{AreNth}
use Rattle.journal_acks.proofs.journal_packets.SoFar.{IsBelongingSoFar}
use Rattle.journal_acks.specs.EventOrder.{entered_on}
use Rattle.journal_acks.proofs.Counting.{AreKnown, IsBegun, taking_if}
use Rattle.journal_acks.proofs.Exchanging.{number_at, number_quiet}
use Rattle.journal_acks.proofs.KeptCounts.{AreCountedAt, counts_kept, unsent}
use Rattle.journal_acks.proofs.Known.{known_of}
use Rattle.journal_acks.specs.link_calls.Uses.{listens_under, sends_under}
use Rattle.journal_acks.proofs.link_calls.RadioUses.{Sending}
use Rattle.journal_acks.proofs.RunCounts.{counts_first}
use Rattle.journal_acks.proofs.Seen.{IsSeen, seen_packet}
use Rattle.journal_acks.proofs.Standing.{PhasedBy, last_phase, phased_at, sends_on, silent_sends}
use Rattle.journal_acks.proofs.TwoStations.{IsOfTwo}
use Rattle.journal_slots.specs.SecondSlot.{AllAreContinued, HasToContinue, IsContinued}
use Rattle.journal_slots.proofs.ExchangeSlots.{AreInExchanges, IsInExchange, event_after_sending, exchanges_first, exchanges_kept, goes_further}
use Rattle.journal_slots.proofs.LastEvents.{IsInItsEvent, begun_as, sender_in_event}
use Rattle.journal_slots.proofs.OnAir.{IsEndOnAir, WasOnAir, continues}
use Rattle.journal_slots.proofs.OnAirCalls.{AreOnAirSo, begin_on_air, end_on_air, feed_on_air, on_air_call, on_air_event, on_air_same, passes_on_air}
use Rattle.journal_slots.proofs.OnAirPackets.{any_sending, listener_off, packet_on_air}

-- ---- at each place of a run

record AreOnAirAt (given : Given) (Q : Place → List Event → Type 0) (place : Place) (history : List Event) : Type 0 where
  is : AreCountedAt given Q place history
  on_air : AreOnAirSo given history (unsent place) (λ station. packet_received station history)

module _ (whole : IsHeardWhole) (given : Given) (Q : Place → List Event → Type 0) (known : AreKnown given Q) (are_two : IsOfTwo given) (six : HaveAddresses given)
    (distinct : AreDistinct given.stations) where
  silence_on_air : (phases : ℕ) (done left : List ℕ) (station : ℕ) (history : List Event) → given.stations ≡ done ++ station ∷ left
      → packet_in (use_at given station history) ≡ [] → AreOnAirAt given Q (AtPackets phases done (station ∷ left)) history
      → AreOnAirSo given history (unsent (AtPackets phases (done ++ station ∷ []) left)) (λ one. packet_received one history)
  silence_on_air phases done left station history are none has = λ one handle link in_it at. by one handle link in_it at (one == station) refl
    where
      by : (one handle : ℕ) (link : OpenLink) → is_in one given.stations ≡ true → link_at handle (facts_at given one history).links ≡ Some link → (same : Bool) → (one == station) ≡ same
          → IsEndOnAir (not (is_in one (done ++ station ∷ []))) (packet_received one history) handle (facts_at given one history).turn link (number_at one handle history) (side_of one)
          (journal_of history)
      by one handle link in_it at true same =
          let equal = eqb-true one station same in
          let phased = phased_at given (AtPackets phases done (station ∷ left)) history has.is.holds.hearing.stand one in_it in
          any_sending (not (is_in one done)) (not (is_in one (done ++ station ∷ []))) (packet_received one history) handle (facts_at given one history).turn link (number_at one handle history) (side_of one)
          (journal_of history)
          (silent_sends (facts_at given one history) handle link phased.uses.sends at
          (ap packet_in (wanted_is given one history) ∙ ap (λ n. packet_in (use_at given n history)) equal ∙ none)) (has.on_air one handle link in_it at)
      by one handle link in_it at false differs =
          subst (λ b. IsEndOnAir (not b) (packet_received one history) handle (facts_at given one history).turn link (number_at one handle history) (side_of one) (journal_of history))
          (sym (in_more_other one station done differs)) (has.on_air one handle link in_it at)

  on_air_kept : IsKept given (AreOnAirAt given Q)
  on_air_kept = let kept = counts_kept whole given Q known are_two six distinct in record {
    on_turn = λ slot plan history begun at has.
        let event = TurnBegan slot (map plan.radio_of given.stations) in record {
          is = kept.on_turn slot plan history begun at has.is;
          on_air = on_air_same given (history ++ event ∷ []) (λ one. true) (λ one. true) (λ one. packet_received one history) (λ one. packet_received one (history ++ event ∷ []))
              (λ one in_it. refl) (λ one in_it. received_event one history event)
              (on_air_event given history event (λ one. true) (λ one. packet_received one history) (λ one. refl) (λ one handle. number_quiet one handle history event (λ links. refl)) has.on_air);
        };
    on_feed = λ plan done left station history are some now has.
        let octets = take (plan.feed_of station) (octets_left given station history) in
        let next = kept.on_feed plan done left station history are some now has.is in
        let in_it = among given.stations done left station are in record {
          is = next;
          on_air = on_air_same given (after_feed given station octets history) (λ one. true) (λ one. true) (λ one. None) (λ one. packet_received one (after_feed given station octets history))
              (λ one is_in. refl) (λ one is_in. next.holds.hearing.hears one is_in)
              (feed_on_air given station octets history in_it (phased_at given (AtFeeds done (station ∷ left)) history has.is.holds.hearing.stand station in_it).phase
              (on_air_same given history (λ one. true) (λ one. true) (λ one. packet_received one history) (λ one. None) (λ one is_in. refl)
              (λ one is_in. sym (has.is.holds.hearing.hears one is_in)) has.on_air));
        };
    on_fed = λ history has. record { is = kept.on_fed history has.is; on_air = has.on_air };
    on_begin = λ slot plan done left station history are due has.
        let step = TurnBegins slot (plan.radio_of station) in
        let next = kept.on_begin slot plan done left station history are due has.is in
        let in_it = among given.stations done left station are in
        let phased = subst (λ b. PhasedBy given history station (if b then at_stage (Within 0) (turns_begun history) else at_stage Between (turns_begun history - 1)))
        (not_before given.stations done left station distinct are) (phased_at given (AtBegins done (station ∷ left)) history has.is.holds.hearing.stand station in_it) in record {
          is = next;
          on_air = on_air_call given station step history (λ one. true) (λ one. true) (λ one. packet_received one history) (λ one. packet_received one (after_call given station step history))
              (begin_on_air given station slot (plan.radio_of station) history in_it phased.phase (packet_received station (after_call given station step history))
              (next.holds.hearing.hears station in_it) has.on_air)
              (λ other is_too differs. refl) (λ other is_too differs. received_by given other station step history false differs) has.on_air;
        };
    on_begun = λ history has. record { is = kept.on_begun history has.is; on_air = has.on_air };
    on_phase = λ phases history few has. record { is = kept.on_phase phases history few has.is; on_air = has.on_air };
    on_silence = λ phases done left station history are none has. record {
      is = kept.on_silence phases done left station history are none has.is;
      on_air = silence_on_air phases done left station history are none has;
    };
    on_packet = λ phases plan done left station channel octets history are some due has.
        let in_it = among given.stations done left station are in
        let out = not_before given.stations done left station distinct are in record {
          is = kept.on_packet phases plan done left station channel octets history are some due has.is;
          on_air = packet_on_air whole given Q known are_two six distinct phases done left station channel octets plan.fates history are due.is_wanted has.is has.on_air due.is_seen
              (λ other is_other differs. has.is.silent other station is_other in_it differs out);
        };
    on_air = λ phases history has. record {
      is = kept.on_air phases history has.is;
      on_air = on_air_same given history (λ one. not (is_in one given.stations)) (λ one. is_in one []) (λ one. packet_received one history) (λ one. packet_received one history)
          (λ one in_it. sym (ap not in_it)) (λ one in_it. refl) has.on_air;
    };
    on_hearing = λ phases done left station history are some has.
        let step = step_of (packet_received station history) in
        let after = after_call given station step history in record {
          is = kept.on_hearing phases done left station history are some has.is;
          on_air = on_air_call given station step history (λ one. is_in one done) (λ one. is_in one (done ++ station ∷ [])) (λ one. packet_received one history) (λ one. packet_received one after)
              (λ handle link at.
              subst (λ b. IsEndOnAir b (packet_received station after) handle (facts_at given station after).turn link (number_at station handle after) (side_of station) (journal_of after))
              (sym (in_more_same station station done (same_station station)))
              (passes_on_air given Q distinct phases done left station history are has.is has.on_air handle link at))
              (λ other is_too differs. in_more_other other station done differs) (λ other is_too differs. received_by given other station step history false differs) has.on_air;
        };
    on_heard = λ phases history has. record {
      is = kept.on_heard phases history has.is;
      on_air = on_air_same given history (λ one. is_in one given.stations) (λ one. true) (λ one. packet_received one history) (λ one. packet_received one history)
          (λ one in_it. sym in_it) (λ one in_it. refl) has.on_air;
    };
    on_phases = λ history has. record { is = kept.on_phases history has.is; on_air = has.on_air };
    on_end = λ done left station history are some has.
        let next = kept.on_end done left station history are some has.is in
        let in_it = among given.stations done left station are in
        let phased = subst (λ b. PhasedBy given history station (if b then at_stage Between (turns_begun history) else at_stage (Within 3) (turns_begun history)))
        (not_before given.stations done left station distinct are) (phased_at given (AtEnds done (station ∷ left)) history has.is.holds.hearing.stand station in_it) in record {
          is = next;
          on_air = on_air_call given station TurnEnds history (λ one. true) (λ one. true) (λ one. packet_received one history) (λ one. packet_received one (after_call given station TurnEnds history))
              (end_on_air given station history in_it (λ handle. last_phase (facts_at given station history).links (facts_at given station history).turn.doing handle phased.phase)
              (has.is.holds.hearing.hears station in_it) (packet_received station (after_call given station TurnEnds history)) (next.holds.hearing.hears station in_it) has.on_air)
              (λ other is_too differs. refl) (λ other is_too differs. received_by given other station TurnEnds history false differs) has.on_air;
        };
    on_ended = λ history has. record { is = kept.on_ended history has.is; on_air = has.on_air };
  }

-- as a run begins no link is open
none_open_yet : (given : Given) → AreOnAirSo given [] (unsent NoTurn) (λ station. packet_received station [])
unfolding facts_of
none_open_yet given = λ station handle link in_it at.
    absurd (open_has (λ one. ⊥) 0 handle (replicate (setup_at given station).links None) link (none_open (λ one. ⊥) (setup_at given station).links) at)

on_air_first : (given : Given) → AreOnAirAt given (IsBelongingSoFar given) NoTurn []
on_air_first given = record { is = counts_first given; on_air = none_open_yet given }

-- ---- before each packet

record IsInExchangeOf (given : Given) (history : List Event) (station channel : ℕ) (octets : List ℕ) : Type 0 where
  sent : IsOfSendersLink given history station channel octets
  begun : IsBegun history (number_at station sent.handle history) station sent.link.setup
  in_event : IsInItsEvent (journal_of history) (number_at station sent.handle history) (side_of station) begun.link (facts_in (link_after (PacketSent sent.slot) sent.link))
  in_exchange : IsInExchange (facts_at given station history).turn.slot (link_after (PacketSent sent.slot) sent.link)
  on_air : WasOnAir true (facts_at given station history).turn.slot (link_after (PacketSent sent.slot) sent.link) (number_at station sent.handle history) (side_of station) (journal_of history)
  turns : length (turns_of (journal_of history)) ≡ (facts_at given station history).turn.slot + 1

abbrev IsInExchangeOn : Given → List Event → ℕ → ℕ → List ℕ → Type 0
IsInExchangeOn given history station channel octets = is_advertising channel ≡ false → IsInExchangeOf given history station channel octets

-- an event goes further by what was sent and heard in the slot of its anchor
further_before : (slot : ℕ) (base : OpenLink) → (slot == (facts_in base).event.slot) ≡ false → goes_further (facts_in (link_after (PacketSent slot) base)).event ≡ true
    → goes_further (facts_in base).event ≡ true
further_before slot base later goes =
    let event = (facts_in base).event in
    by event.heard event.more (slot == event.slot) (more_sent (facts_in base)) later (sym (ap goes_further (event_after_sending slot base)) ∙ goes)
  where
    by : (heard more same sent : Bool) → same ≡ false → (heard && (more || (same && sent))) ≡ true → (heard && more) ≡ true
    by true true same sent other is = refl
    by true false true sent other is = absurd cc
    by true false false sent other is = absurd cc
    by false more same sent other is = absurd cc

-- who sends has its packet still to come
late : (received : Option (List ℕ)) (handle : ℕ) (turn : Turn) (link : OpenLink) (number : ℕ) (side : Side) (journal : List Entry) → sends_under handle turn.doing ≡ true
    → IsEndOnAir true received handle turn link number side journal → WasOnAir true turn.slot link number side journal
late received handle turn link number side journal on was =
    subst (λ b. WasOnAir true turn.slot (taking_if b received turn.slot link) number side journal) (listener_off handle turn on)
    (subst (λ b. WasOnAir b turn.slot (taking_if (listens_under handle turn.doing) received turn.slot link) number side journal) on was)

continued_by : (slot : ℕ) (own : OpenLink) (number : ℕ) (side : Side) (journal : List Entry) → slot ≡ (facts_in own).event.slot + 1 → IsInExchange slot own
    → WasOnAir true slot own number side journal → HasToContinue number (facts_in own).event.slot side journal
continued_by slot own number side journal later (inl first) was = absurd (omega (arith, later, first))
continued_by slot own number side journal later (inr goes) was =
    let event = (facts_in was.base).event in
    let slots : (facts_in own).event.slot ≡ event.slot = ap (λ (l : OpenLink). (facts_in l).event.slot) was.is ∙ ap (λ (e : ConnectionEvent). e.slot) (event_after_sending slot was.base) in
    let differs : (slot == event.slot) ≡ false = false_from_ne_true (slot == event.slot) (λ same. let equal = eqb-true slot event.slot same in omega (arith, later, slots, equal)) in
    let both = and_parts event.heard event.more (further_before slot was.base differs (ap (λ (l : OpenLink). goes_further (facts_in l).event) (sym was.is) ∙ goes)) in
    subst (λ n. HasToContinue number n side journal) (sym slots) (continues number event.slot side journal (was.on_air.heard both.0) (was.on_air.more both.1))

module _ (whole : IsHeardWhole) (understood : IsUnderstood) (taken : AreTaken) (nth : AreNth) (apart : AreApart) (given : Given) (pair : IsOfTwo given) (six : HaveAddresses given) where
  distinct : AreDistinct given.stations
  distinct = are_distinct given pair

  known : AreKnown given (IsBelongingSoFar given)
  known = known_of understood taken nth apart given pair six

  abbrev P : Place → List Event → Type 0
  P = AreOnAirAt given (IsBelongingSoFar given)

  sees_packet : (phases : ℕ) (done left : List ℕ) (station channel : ℕ) (octets : List ℕ) (history : List Event) → given.stations ≡ done ++ station ∷ left
      → use_at given station history ≡ Sends channel octets → P (AtPackets phases done (station ∷ left)) history → IsInExchangeOn given history station channel octets
  sees_packet phases done left station channel octets history are wanted has = λ off.
      let setup = setup_at given station in
      let place = AtPackets phases done (station ∷ left) in
      let in_it = among given.stations done left station are in
      let sent = known.sends phases done left station history are has.is.known channel octets wanted off in
      let own = link_after (PacketSent sent.slot) sent.link in
      let number = number_at station sent.handle history in
      let turn = (facts_at given station history).turn in
      let front = front_at given place history has.is.known.front in
      let on = sends_on sent.handle turn.doing sent.sends in
      let exchanges = turned setup (AreInExchanges setup) (exchanges_kept setup) (past_of station history) (at_stage (Within phases) (turns_begun history)) (exchanges_first setup)
      (has.is.holds.hearing.stand station in_it) in record {
        sent = sent;
        begun = begun_as taken given (IsBelongingSoFar given) known distinct place history front.rest front.at has.is.known station channel octets in_it sent;
        in_event = sender_in_event taken given (IsBelongingSoFar given) known distinct place history front.rest front.at has.is.known station channel octets in_it sent;
        in_exchange = exchanges.in_exchange sent.handle own sent.is_open (Sending on);
        on_air = late (packet_received station history) sent.handle turn own number (side_of station) (journal_of history) on
            (subst (λ b. IsEndOnAir (not b) (packet_received station history) sent.handle turn own number (side_of station) (journal_of history))
            (not_before given.stations done left station distinct are) (has.on_air station sent.handle own in_it sent.is_open));
        turns = turns_are history ∙ sym exchanges.phased.uses.in_turn.slot_is;
      }

  sees : IsSeen given P (λ history. ⊤) (IsInExchangeOn given)
  sees = record { turn = λ history is. tt; packet = sees_packet }

  continued_at : (history : List Event) (station channel : ℕ) (octets : List ℕ) → IsInExchangeOf given history station channel octets → IsContinued (journal_of history) (side_of station) octets
  continued_at history station channel octets is = λ number event link belongs is_link entered in_turn.
      let own = link_after (PacketSent is.sent.slot) is.sent.link in
      let slot = (facts_at given station history).turn.slot in
      let side = side_of station in
      let own_number = number_at station is.sent.handle history in
      let numbers : Some own_number ≡ Some number = sym is.sent.belongs ∙ belongs in
      let same : own_number ≡ number = cc in
      let links : Some is.begun.link ≡ Some link = sym is.begun.is_link ∙ ap (λ n. link_numbered n (journal_of history)) same ∙ is_link in
      let one : is.begun.link ≡ link = cc in
      let count = sym is.in_event.entered ∙ ap (λ n. entered_on side n (journal_of history)) same ∙ entered in
      let last : is.in_event.event ≡ event = omega (arith, count) in
      let anchor : (facts_in own).event.slot ≡ anchor_in link (changes_of number link side (journal_of history)) event =
      is.in_event.anchor ∙ (λ i. anchor_in (one i) (changes_of (same i) (one i) side (journal_of history)) (last i)) in
      let turns = is.turns in
      let later : slot ≡ (facts_in own).event.slot + 1 = omega (arith, turns, in_turn, anchor) in
      subst (λ n. HasToContinue number n side (journal_of history)) anchor
      (subst (λ n. HasToContinue n (facts_in own).event.slot side (journal_of history)) same
      (continued_by slot own own_number side (journal_of history) later is.in_exchange is.on_air))

  pub packets_continued : AllAreContinued (journal_of (history_of (run_of given)))
  packets_continued = λ front rest side channel octets fate verdict is off.
      let aired = is_aired given front rest side channel octets fate verdict is in
      let seen = seen_packet given P (on_air_kept whole given (IsBelongingSoFar given) known pair six distinct) (λ history. ⊤) (IsInExchangeOn given) sees
      (on_air_first given) aired.before aired.after aired.station channel octets (aired.hearing ∷ aired.others) aired.is_at off in
      subst (λ xs. IsContinued xs side octets) (sym aired.front_is)
      (subst (λ s. IsContinued (journal_of aired.before) s octets) (sym aired.side_is) (continued_at aired.before aired.station channel octets seen))
