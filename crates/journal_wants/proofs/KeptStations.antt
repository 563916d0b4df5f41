-- Each step of a run keeps that the lines of a side say of its radio what its controller holds, and so it is at each place of
-- the run.
use Rattle.std.proofs.Common.{◌≡◌, ℕ, suc, ◌+◌, ◌-◌, ◌<◌, ◌==◌, Bool, true, false, Option, Some, None, List, [], ◌∷◌, ◌++◌, map, refl, sym, ap, subst, ◌∙◌, append_assoc, arith}
use Rattle.std.specs.Prelude.{take, slice_get, ⊤, if◌then◌else◌}
use Rattle.std.specs.Option.{option_map}
use Rattle.std.proofs.lemmas.Bool.{eqb-true}
use Rattle.journal_events.specs.journal_sending.controller_model.declared.doing.Doing.{Doing}
use Rattle.journal_events.specs.journal_sending.controller_model.declared.doing.Doing.TheVariants.{Connects}
use Rattle.journal_events.specs.journal_sending.controller_model.declared.doing.Turn.{Turn}
use Rattle.journal_events.specs.journal_sending.controller_model.Facts.{Facts}
use Rattle.journal_events.specs.journal_sending.controller_model.Side.{notes_after}
use Rattle.journal_events.specs.journal_sending.controller_model.Step.{Step, HostOctet, NothingHeard, PacketHeard, TurnBegins, TurnEnds}
use Rattle.journal_events.specs.journal_sending.journal_controls.LineSteps.{turn_now}
use Rattle.journal_events.specs.journal_sending.journal_controls.journal_ends.Asked.{Words}
use Rattle.journal_events.specs.journal_sending.run_model.Due.{Each, IsBeginDue}
use Rattle.journal_events.specs.journal_sending.run_model.History.{Event, TurnBegan, HostFed, Called, Hearing, Noted, Transmitted, packet_received, turns_begun}
use Rattle.journal_events.specs.journal_sending.run_model.Journal.{journal_of, side_of}
use Rattle.journal_events.specs.journal_sending.run_model.LinkEnds.{HaveAddresses}
use Rattle.journal_events.specs.journal_sending.run_model.Run.{Given, Plan, after_call, after_feed, after_octets, facts_at, hearings_of, history_of, octets_left, run_of, setup_at, step_of}
use Rattle.journal_events.proofs.journal_sending.controller_model.Always.{MayBegin}
use Rattle.journal_events.proofs.journal_sending.journal_acks.Counting.{AreKnown, HaveOwnNumbers, facts_event}
use Rattle.journal_events.proofs.journal_sending.journal_acks.Exchanging.{number_quiet}
use Rattle.journal_events.proofs.journal_sending.journal_acks.Standing.{PhasedBy, phased_at}
use Rattle.journal_events.proofs.journal_sending.journal_acks.link_calls.LinkPhases.{IsPhased}
use Rattle.journal_events.proofs.journal_sending.journal_acks.TwoStations.{IsOfTwo, hearing_of, one_hearing}
use Rattle.journal_events.proofs.journal_sending.journal_data.FewLinks.{HaveFewLinks}
use Rattle.journal_events.proofs.journal_sending.journal_data.KeptData.{IsDataAt, data_kept, own_numbers}
use Rattle.journal_events.proofs.journal_sending.journal_data.StationLines.{IsStationBooked}
use Rattle.journal_events.proofs.journal_sending.journal_data.run_laws.InAgreement.{OpenedBefore}
use Rattle.journal_events.proofs.journal_sending.journal_data.run_laws.OpenSteps.{open_has}
use Rattle.journal_events.proofs.journal_sending.journal_leaving.OtherLines.{host_reads}
use Rattle.journal_events.proofs.journal_sending.journal_leaving.journal_controls.KeptControls.{turn_is}
use Rattle.journal_events.proofs.journal_sending.journal_leaving.journal_ends.KeptSeen.{octet_next}
use Rattle.journal_events.proofs.journal_sending.journal_leaving.journal_ends.run_laws.Hearings.{own_facts}
use Rattle.journal_events.proofs.journal_sending.journal_leaving.journal_ends.run_laws.TurnPlaces.{AllStand, Between, Within, at_stage}
use Rattle.journal_events.proofs.journal_sending.journal_leaving.journal_ends.run_laws.TurnSteps.{octet_turn}
use Rattle.journal_events.proofs.journal_sending.journal_leaving.link_model.Hearing.{IsHeardWhole}
use Rattle.journal_events.proofs.journal_sending.journal_links.OfTwo.{are_distinct}
use Rattle.journal_events.proofs.journal_sending.run_model.Calls.{same_station, turns_same}
use Rattle.journal_events.proofs.journal_sending.run_model.Fronts.{IsFrontAt, front_at, fronts_kept}
use Rattle.journal_events.proofs.journal_sending.run_model.LinkEnds.{received_by}
use Rattle.journal_events.proofs.journal_sending.run_model.Places.{each_called, each_event}
use Rattle.journal_events.proofs.journal_sending.run_model.Stations.{among, in_more_other, in_more_same, is_in, not_before}
use Rattle.journal_events.proofs.journal_sending.run_model.Walk.{AtBegins, AtEnds, AtFeeds, AtListening, IsKept, Place}
use Rattle.journal_wants.specs.Setups.{setups_of}
use Rattle.journal_wants.specs.Station.{Station}
use Rattle.journal_wants.proofs.DecidedStation.{is_connecting}
use Rattle.journal_wants.proofs.HostSet.{IsSetAs}
use Rattle.journal_wants.proofs.LastServed.{AreLast, HaveBegun, HaveOpenedBefore, event_last}
use Rattle.journal_wants.proofs.RunStations.{AreTold, HasDecided, IsWaiting, aired, far_decided, far_waiting, octet_waiting, on_lines, own_begun, own_ended, own_passed, still_turn, turn_called, turned}
use Rattle.journal_wants.proofs.StationLines.{station_fed}

-- no turn begins with a CONNECT_IND
may_connect : (doing : Doing) → MayBegin doing → is_connecting doing ≡ false
may_connect (Connects channel link) may = absurd may
may_connect doing may = refl

-- a station has begun the turn that is under way, or no turn is
abbrev pub is_begun : Place → ℕ → Bool
is_begun (AtFeeds done left) station = false
is_begun (AtBegins done left) station = is_in station done
is_begun place station = true

next_turn : (turns : ℕ) → 0 < turns → turns ≡ turns - 1 + 1
next_turn turns some = omega (arith, some)

module _ (words : Words) (given : Given) where
  abbrev pub StandsAs : Bool → List Event → ℕ → Type 0
  StandsAs false history station = IsWaiting words given history station
  StandsAs true history station = HasDecided words given history station

  abbrev pub AllDecided : List Event → Type 0
  AllDecided history = (station : ℕ) → is_in station given.stations ≡ true → HasDecided words given history station

  -- before each event
  abbrev pub DecidedBeforeCall : List Event → ℕ → Step → Type 0
  DecidedBeforeCall history station (HostOctet octet) = IsWaiting words given history station
  DecidedBeforeCall history station (TurnBegins slot on) = IsWaiting words given history station
  DecidedBeforeCall history station (PacketHeard octets) = AllDecided history
  DecidedBeforeCall history station NothingHeard = AllDecided history
  DecidedBeforeCall history station TurnEnds = AllDecided history

  abbrev pub DecidedBefore : List Event → Event → Type 0
  DecidedBefore history (TurnBegan slot radios) = AllDecided history
  DecidedBefore history (Transmitted station channel octets hearings) = AllDecided history
  DecidedBefore history (Called station step) = DecidedBeforeCall history station step
  DecidedBefore history (HostFed station octets) = ⊤
  DecidedBefore history (Noted station note) = ⊤

  pub record AreDecidedAt (Q : Place → List Event → Type 0) (place : Place) (history : List Event) : Type 0 where
    pub front : IsFrontAt given place history
    pub known : IsDataAt given Q place history
    pub all : (station : ℕ) → is_in station given.stations ≡ true → StandsAs (is_begun place station) history station
    pub each : Each DecidedBefore [] history

  any_call : (history : List Event) (station : ℕ) (received : Option (List ℕ)) → AllDecided history → DecidedBeforeCall history station (step_of received)
  any_call history station None all = all
  any_call history station (Some octets) all = all

  module _ (are_two : IsOfTwo given) (told : AreTold words given) where
    call_each : (station : ℕ) (step : Step) (history : List Event) → DecidedBeforeCall history station step → Each DecidedBefore [] history
        → Each DecidedBefore [] (after_call given station step history)
    call_each station step history is each =
        each_called DecidedBefore station step (notes_after (setup_at given station) (facts_at given station history) step) history each is (λ before note. tt)

    far_stands : (begun : Bool) (station caller : ℕ) (step : Step) (history rest : List Event) → is_in station given.stations ≡ true → is_in caller given.stations ≡ true
        → history_of (run_of given) ≡ history ++ Called caller step ∷ rest → (station == caller) ≡ false → StandsAs begun history station
        → StandsAs begun (after_call given caller step history) station
    far_stands false station caller step history rest in_it in_too in_run differs has = far_waiting words given are_two told station caller step history rest in_it in_too in_run differs has
    far_stands true station caller step history rest in_it in_too in_run differs has = far_decided words given are_two told station caller step history rest in_it in_too in_run differs has

    -- the front of a call
    called_in : (station : ℕ) (step : Step) (history rest : List Event) → history_of (run_of given) ≡ after_call given station step history ++ rest
        → history_of (run_of given) ≡ history ++ Called station step ∷ (map (Noted station) (notes_after (setup_at given station) (facts_at given station history) step) ++ rest)
    called_in station step history rest in_run =
        in_run ∙ append_assoc history (Called station step ∷ map (Noted station) (notes_after (setup_at given station) (facts_at given station history) step)) rest

    -- ---- a host sends octets

    record IsFeeding (station : ℕ) (history : List Event) : Type 0 where
      all : (one : ℕ) → is_in one given.stations ≡ true → IsWaiting words given history one
      begun : (facts_at given station history).turn.begun ≡ turn_now (journal_of history)
      each : Each DecidedBefore [] history

    octets_feed : (station : ℕ) (octets : List ℕ) (history rest : List Event) → is_in station given.stations ≡ true
        → history_of (run_of given) ≡ after_octets given station octets history ++ rest → IsFeeding station history → IsFeeding station (after_octets given station octets history)
    octets_feed station [] history rest in_it in_run has = has
    octets_feed station (octet ∷ octets) history rest in_it in_run has =
        let step = HostOctet octet in
        let now = octet_next given station octet octets history rest in_run in
        octets_feed station octets (after_call given station step history) rest in_it in_run (record {
          all = λ one in_one. by now.rest now.at one in_one (one == station) refl;
          begun = ap (λ (f : Facts). f.turn.begun) (own_facts given station step history)
              ∙ ap (λ (turn : Turn). turn.begun) (octet_turn (setup_at given station) (facts_at given station history) octet).turn
              ∙ has.begun ∙ sym (turn_called given station step history);
          each = call_each station step history (has.all station in_it) has.each;
        })
      where
        by : (more : List Event) → history_of (run_of given) ≡ history ++ Called station (HostOctet octet) ∷ more → (one : ℕ) → is_in one given.stations ≡ true → (same : Bool) → (one == station) ≡ same
            → IsWaiting words given (after_call given station (HostOctet octet) history) one
        by more at one in_one true same =
            subst (λ n. IsWaiting words given (after_call given station (HostOctet octet) history) n) (sym (eqb-true one station same))
            (octet_waiting words given are_two told station octet history more in_it at has.begun (has.all station in_it))
        by more at one in_one false differs = far_waiting words given are_two told one station (HostOctet octet) history more in_one in_it at differs (has.all one in_one)

    fed_waiting : (one station : ℕ) (octets : List ℕ) (history : List Event) → IsWaiting words given history one → IsWaiting words given (history ++ HostFed station octets ∷ []) one
    fed_waiting one station octets history has =
        let event = HostFed station octets in
        let after = history ++ event ∷ [] in
        let lines = station_fed words (setups_of given) (side_of one) history station octets in
        let facts = facts_event given one history event refl in
        let turns : turns_begun after ≡ turns_begun history = turns_same history event refl in record {
          set = subst (λ s. IsSetAs s (facts_at given one after)) (sym lines) (subst (IsSetAs (on_lines words given one history)) (sym facts) has.set);
          wants = ap (λ (s : Station). s.wants) lines ∙ has.wants;
          doing = ap (λ (s : Station). s.doing) lines ∙ has.doing;
          on = ap (λ n. option_map (λ (plan : Plan). plan.radio_of one) (slice_get given.plans (n - 1))) turns ∙ has.on ∙ ap (λ (s : Station). Some s.on) (sym lines);
          last = subst (AreLast given one after) (ap (λ (s : Station). s.served) (sym lines))
              (event_last given one history event (on_lines words given one history).served refl (λ handle. number_quiet one handle history event (λ links. refl)) has.last);
        }

    feed_all : (station : ℕ) (octets : List ℕ) (history rest : List Event) → is_in station given.stations ≡ true
        → history_of (run_of given) ≡ after_feed given station octets history ++ rest → IsFeeding station history → IsFeeding station (after_feed given station octets history)
    feed_all station [] history rest in_it in_run has = has
    feed_all station (octet ∷ octets) history rest in_it in_run has =
        let event = HostFed station (octet ∷ octets) in
        octets_feed station (octet ∷ octets) (history ++ event ∷ []) rest in_it in_run (record {
          all = λ one in_one. fed_waiting one station (octet ∷ octets) history (has.all one in_one);
          begun = ap (λ (f : Facts). f.turn.begun) (facts_event given station history event refl) ∙ has.begun
              ∙ sym (host_reads ℕ turn_now still_turn history station (octet ∷ octets));
          each = each_event DecidedBefore history event has.each tt;
        })

    -- ---- each step

    module _ (heard_whole : IsHeardWhole) (Q : Place → List Event → Type 0) (are_known : AreKnown given Q) (few_links : HaveFewLinks given)
        (six : HaveAddresses given) (eight : (station : ℕ) → (setup_at given station).host_buffers ≡ 8) where
      standing : (place : Place) (history : List Event) → IsDataAt given Q place history → AllStand given place history
      standing place history is = is.counted.holds.hearing.stand

      pub decided_kept : IsKept given (AreDecidedAt Q)
      decided_kept =
          let distinct = are_distinct given are_two in
          let fronts = fronts_kept given in
          let lines = data_kept heard_whole given Q are_known are_two few_links six distinct eight in record {
            on_turn = λ slot plan history begun at has.
                let event = TurnBegan slot (map plan.radio_of given.stations) in record {
                  front = fronts.on_turn slot plan history begun at has.front;
                  known = lines.on_turn slot plan history begun at has.known;
                  all = λ station in_it. turned words given are_two told station slot plan history in_it begun at (has.all station in_it);
                  each = each_event DecidedBefore history event has.each has.all;
                };
            on_feed = λ plan done left station history are some now has.
                let octets = take (plan.feed_of station) (octets_left given station history) in
                let front = fronts.on_feed plan done left station history are some now has.front in
                let known = lines.on_feed plan done left station history are some now has.known in
                let whole = front_at given (AtFeeds (done ++ station ∷ []) left) (after_feed given station octets history) front in
                let in_it = among given.stations done left station are in
                let begun = (phased_at given (AtFeeds done (station ∷ left)) history (standing (AtFeeds done (station ∷ left)) history has.known) station in_it).uses.in_turn.begun_is in
                let fed = feed_all station octets history whole.rest in_it whole.at
                (record { all = has.all; begun = begun ∙ sym (turn_is history (turns_begun history - 1) (next_turn (turns_begun history) some)); each = has.each }) in
                record { front = front; known = known; all = fed.all; each = fed.each };
            on_fed = λ history has. record {
              front = fronts.on_fed history has.front;
              known = lines.on_fed history has.known;
              all = has.all;
              each = has.each;
            };
            on_begin = λ slot plan done left station history are due has.
                let on = plan.radio_of station in
                let step = TurnBegins slot on in
                let front = fronts.on_begin slot plan done left station history are due has.front in
                let known = lines.on_begin slot plan done left station history are due has.known in
                let place = AtBegins (done ++ station ∷ []) left in
                let after = after_call given station step history in
                let whole = front_at given place after front in
                let in_it = among given.stations done left station are in
                let out = not_before given.stations done left station distinct are in
                let waiting = subst (λ b. StandsAs b history station) out (has.all station in_it) in record {
                  front = front;
                  known = known;
                  all = λ one in_one.
                      begins_by slot plan done left station history in_it due whole.rest whole.at waiting
                      (may_connect (facts_at given station after).turn.doing
                      (begin_may (done ++ station ∷ []) left after (standing place after known) station in_it (in_more_same station station done (same_station station))))
                      (own_numbers given Q are_known (AtBegins done (station ∷ left)) history station in_it has.known.counted.known)
                      (opened_before slot plan done left station history in_it out due has.known) (known.are.well station in_it).booked
                      one in_one (one == station) refl (has.all one in_one);
                  each = call_each station step history waiting has.each;
                };
            on_begun = λ history has. record {
              front = fronts.on_begun history has.front;
              known = lines.on_begun history has.known;
              all = λ station in_it. subst (λ b. StandsAs b history station) in_it (has.all station in_it);
              each = has.each;
            };
            on_phase = λ phases history few has. record {
              front = fronts.on_phase phases history few has.front;
              known = lines.on_phase phases history few has.known;
              all = has.all;
              each = has.each;
            };
            on_silence = λ phases done left station history are none has. record {
              front = fronts.on_silence phases done left station history are none has.front;
              known = lines.on_silence phases done left station history are none has.known;
              all = has.all;
              each = has.each;
            };
            on_packet = λ phases plan done left station channel octets history are some due has.
                let hearings = hearings_of given plan.fates station channel octets history in
                let in_it = among given.stations done left station are in
                let one = one_hearing given are_two plan.fates station channel octets history in_it in record {
                  front = fronts.on_packet phases plan done left station channel octets history are some due has.front;
                  known = lines.on_packet phases plan done left station channel octets history are some due has.known;
                  all = λ listener in_one.
                      subst (λ (xs : List Hearing). HasDecided words given (history ++ Transmitted station channel octets xs ∷ []) listener) (sym one)
                      (aired words given are_two told listener station channel octets (hearing_of given plan.fates station channel octets history) [] history (has.all listener in_one));
                  each = each_event DecidedBefore history (Transmitted station channel octets hearings) has.each has.all;
                };
            on_air = λ phases history has. record {
              front = fronts.on_air phases history has.front;
              known = lines.on_air phases history has.known;
              all = has.all;
              each = has.each;
            };
            on_hearing = λ phases done left station history are some has.
                let received = packet_received station history in
                let step = step_of received in
                let front = fronts.on_hearing phases done left station history are some has.front in
                let whole = front_at given (AtListening phases (done ++ station ∷ []) left) (after_call given station step history) front in
                let in_it = among given.stations done left station are in
                let place = AtListening phases (done ++ station ∷ []) left in
                let known = lines.on_hearing phases done left station history are some has.known in record {
                  front = front;
                  known = known;
                  all = λ one in_one.
                      passes_by station received history in_it refl whole.rest whole.at
                      (slot_heard phases done left station history in_it (not_before given.stations done left station distinct are) has.known)
                      (λ handle link. are_known.begun place (after_call given station step history) known.counted.known
                      station handle link in_it)
                      has.all one in_one (one == station) refl;
                  each = call_each station step history (any_call history station received has.all) has.each;
                };
            on_heard = λ phases history has. record {
              front = fronts.on_heard phases history has.front;
              known = lines.on_heard phases history has.known;
              all = has.all;
              each = has.each;
            };
            on_phases = λ history has. record {
              front = fronts.on_phases history has.front;
              known = lines.on_phases history has.known;
              all = has.all;
              each = has.each;
            };
            on_end = λ done left station history are some has.
                let front = fronts.on_end done left station history are some has.front in
                let whole = front_at given (AtEnds (done ++ station ∷ []) left) (after_call given station TurnEnds history) front in
                let in_it = among given.stations done left station are in record {
                  front = front;
                  known = lines.on_end done left station history are some has.known;
                  all = λ one in_one. ends_by station history in_it whole.rest whole.at has.all one in_one (one == station) refl;
                  each = call_each station TurnEnds history has.all has.each;
                };
            on_ended = λ history has. record {
              front = fronts.on_ended history has.front;
              known = lines.on_ended history has.known;
              all = has.all;
              each = has.each;
            };
          }
        where
          begin_may : (done left : List ℕ) (after : List Event) → AllStand given (AtBegins done left) after → (station : ℕ) → is_in station given.stations ≡ true
              → is_in station done ≡ true → MayBegin (facts_at given station after).turn.doing
          begin_may done left after stand station in_it begun =
              let phased = phased_at given (AtBegins done left) after stand station in_it in
              (subst (λ b. IsPhased (setup_at given station) (if b then at_stage (Within 0) (turns_begun after) else at_stage Between (turns_begun after - 1)).stage
              (if b then at_stage (Within 0) (turns_begun after) else at_stage Between (turns_begun after - 1)).begun (facts_at given station after)) begun phased).uses.in_turn.does

          -- as a station begins its turn, each of its links was opened in an earlier one
          opened_before : (slot : ℕ) (plan : Plan) (done left : List ℕ) (station : ℕ) (history : List Event)
              → is_in station given.stations ≡ true → is_in station done ≡ false
              → IsBeginDue given history station slot (plan.radio_of station)
              → IsDataAt given Q (AtBegins done (station ∷ left)) history → HaveOpenedBefore given station history slot
          opened_before slot plan done left station history in_it out due known handle link at =
              let place = AtBegins done (station ∷ left) in
              let facts = facts_at given station history in
              let turns = turns_begun history in
              let phased = subst (λ b. PhasedBy given history station
              (if b then at_stage (Within 0) turns else at_stage Between (turns - 1))) out
              (phased_at given place history (standing place history known) station in_it) in
              let before = open_has (OpenedBefore facts.turn.begun) 0 handle facts.links link
              (known.counted.holds.so_far.last.each station in_it).earlier at in
              let begun = phased.uses.in_turn.begun_is in
              let now = due.slot_is in
              omega (arith, before, begun, now)

          -- and it is in the turn under way as it is called after a phase
          slot_heard : (phases : ℕ) (done left : List ℕ) (station : ℕ) (history : List Event)
              → is_in station given.stations ≡ true → is_in station done ≡ false
              → IsDataAt given Q (AtListening phases done (station ∷ left)) history
              → (facts_at given station history).turn.slot ≡ turn_now (journal_of history)
          slot_heard phases done left station history in_it out known =
              let place = AtListening phases done (station ∷ left) in
              let turns = turns_begun history in
              let phased = subst (λ b. PhasedBy given history station
              (if b then at_stage (Within (suc phases)) turns else at_stage (Within phases) turns)) out
              (phased_at given place history (standing place history known) station in_it) in
              sym (turn_is history (facts_at given station history).turn.slot (sym phased.uses.in_turn.slot_is))

          begins_by : (slot : ℕ) (plan : Plan) (done left : List ℕ) (station : ℕ) (history : List Event) → is_in station given.stations ≡ true
              → IsBeginDue given history station slot (plan.radio_of station) → (rest : List Event)
              → history_of (run_of given) ≡ after_call given station (TurnBegins slot (plan.radio_of station)) history ++ rest → IsWaiting words given history station
              → is_connecting (facts_at given station (after_call given station (TurnBegins slot (plan.radio_of station)) history)).turn.doing ≡ false
              → HaveOwnNumbers given station history
              → HaveOpenedBefore given station history slot
              → IsStationBooked given station (after_call given station (TurnBegins slot (plan.radio_of station)) history)
              → (one : ℕ) → is_in one given.stations ≡ true → (same : Bool) → (one == station) ≡ same → StandsAs (is_in one done) history one
              → StandsAs (is_in one (done ++ station ∷ [])) (after_call given station (TurnBegins slot (plan.radio_of station)) history) one
          begins_by slot plan done left station history in_it due rest at waiting connects own older booked one in_one true same has =
              let on = plan.radio_of station in
              let after = after_call given station (TurnBegins slot on) history in
              let equal = eqb-true one station same in
              subst (λ b. StandsAs b after one) (sym (in_more_same one station done same))
              (subst (λ n. HasDecided words given after n) (sym equal)
              (own_begun words given are_two told station slot on history rest in_it at (turn_is history slot due.slot_is)
              (ap (option_map (λ (one : Plan). one.radio_of station)) due.is_now ∙ ap Some (sym due.radio_is))
              (received_by given station station (TurnBegins slot on) history true (same_station station)) connects own older booked waiting))
          begins_by slot plan done left station history in_it due rest at waiting connects own older booked one in_one false differs has =
              let step = TurnBegins slot (plan.radio_of station) in
              subst (λ b. StandsAs b (after_call given station step history) one) (sym (in_more_other one station done differs))
              (far_stands (is_in one done) one station step history _ in_one in_it (called_in station step history rest at) differs has)

          passes_by : (station : ℕ) (received : Option (List ℕ)) (history : List Event) → is_in station given.stations ≡ true → packet_received station history ≡ received → (rest : List Event)
              → history_of (run_of given) ≡ after_call given station (step_of received) history ++ rest
              → (facts_at given station history).turn.slot ≡ turn_now (journal_of history)
              → HaveBegun given station (after_call given station (step_of received) history) → AllDecided history
              → (one : ℕ) → is_in one given.stations ≡ true → (same : Bool) → (one == station) ≡ same → HasDecided words given (after_call given station (step_of received) history) one
          passes_by station received history in_it is rest at turn begun all one in_one true same =
              subst (λ n. HasDecided words given (after_call given station (step_of received) history) n) (sym (eqb-true one station same))
              (own_passed words given are_two told station received history _ in_it (called_in station (step_of received) history rest at) is turn begun (all station in_it))
          passes_by station received history in_it is rest at turn begun all one in_one false differs =
              far_decided words given are_two told one station (step_of received) history _ in_one in_it (called_in station (step_of received) history rest at) differs (all one in_one)

          ends_by : (station : ℕ) (history : List Event) → is_in station given.stations ≡ true → (rest : List Event)
              → history_of (run_of given) ≡ after_call given station TurnEnds history ++ rest → AllDecided history
              → (one : ℕ) → is_in one given.stations ≡ true → (same : Bool) → (one == station) ≡ same → HasDecided words given (after_call given station TurnEnds history) one
          ends_by station history in_it rest at all one in_one true same =
              subst (λ n. HasDecided words given (after_call given station TurnEnds history) n) (sym (eqb-true one station same))
              (own_ended words given are_two told station history rest in_it at (all station in_it))
          ends_by station history in_it rest at all one in_one false differs =
              far_decided words given are_two told one station TurnEnds history _ in_one in_it (called_in station TurnEnds history rest at) differs (all one in_one)
