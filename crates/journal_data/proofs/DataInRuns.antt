-- After each event of a run of a pair, the data of both sides arrives in order.
use Rattle.std.proofs.Common.{◌≡◌, ℕ, suc, ◌-◌, ◌≤◌, ◌==◌, Bool, true, false, List, [], ◌∷◌, ◌++◌, refl, sym, ap, subst, ◌∙◌, append-nil, append_assoc}
use Rattle.std.specs.Prelude.{map, take, if◌then◌else◌}
use Rattle.std.proofs.lemmas.Bool.{eqb-true}
use Rattle.std.proofs.lemmas.List.{map-append}
use Rattle.ble_base.specs.declared.notes.Note.{Note}
use Rattle.journal_acks.proofs.link_model.Hearing.{IsHeardWhole}
use Rattle.journal_acks.proofs.controller_model.Always.{IsInTurn}
use Rattle.journal_acks.specs.controller_model.Side.{notes_after}
use Rattle.journal_acks.specs.controller_model.Step.{Step, TurnBegins, TurnEnds}
use Rattle.journal_acks.specs.run_model.Feeding.{AreDistinct}
use Rattle.journal_acks.specs.run_model.History.{Event, TurnBegan, Called, HostFed, Noted, Transmitted, packet_received, past_of, turns_begun}
use Rattle.journal_acks.specs.run_model.LinkEnds.{HaveAddresses}
use Rattle.journal_acks.specs.run_model.Run.{Given, after_call, after_feed, facts_at, hearings_of, octets_left, setup_at, step_of}
use Rattle.journal_acks.proofs.run_model.Stations.{is_in, among, not_before}
use Rattle.journal_acks.proofs.run_model.Walk.{AtBegins, AtEnds, AtFeeds, AtListening, Place, IsKept}
use Rattle.journal_acks.proofs.run_laws.TurnPlaces.{Between, Within, at_stage}
use Rattle.journal_acks.proofs.journal_packets.SoFar.{IsBelongingSoFar}
use Rattle.journal_acks.proofs.Counting.{AreKnown, HaveOwnNumbers}
use Rattle.journal_acks.proofs.Standing.{PhasedBy, phased_at}
use Rattle.journal_acks.proofs.TwoStations.{IsOfTwo, other_is, other_of}
use Rattle.journal_data.specs.Delivered.{ArrivesInOrder}
use Rattle.journal_data.proofs.CallMiddle.{IsFront, call_between, front_called, noted, nothing}
use Rattle.journal_data.proofs.Credits.{AreFew, few_begin, few_pass}
use Rattle.journal_data.proofs.EachLine.{call_outside, lines_at}
use Rattle.journal_data.proofs.FedInRuns.{between_standing}
use Rattle.journal_data.proofs.FeedSide.{feed_step}
use Rattle.journal_data.proofs.Feeds.{feed_front}
use Rattle.journal_data.proofs.Fronts.{AreAlways, HasMore, always_event, always_more, feed_more, mid_same}
use Rattle.journal_data.proofs.Followed.{AgreeUnmixed, IsFollowed, followed_before, followed_noted}
use Rattle.journal_data.proofs.KeptArriving.{AreArrived, arrived_same, call_arrived, end_arrived, feed_arrived}
use Rattle.journal_data.proofs.KeptData.{AreWell, IsBetween, IsDataAt, begin_goes_on, call_made, data_kept, end_made, other_in, own_numbers, pass_goes_on, pass_in_turn}
use Rattle.journal_data.proofs.Middle.{from_fed, from_middle, to_fed, to_middle}
use Rattle.journal_data.proofs.Mine.{other_back}
use Rattle.journal_data.proofs.FewLinks.{HaveFewLinks}
use Rattle.journal_data.proofs.Moves.{begin_moves, phase_moves}
use Rattle.journal_data.proofs.OneCall.{EachAt, HasMoved, far_side}
use Rattle.journal_data.proofs.SameView.{SeesSame, sees_packet, sees_turn}
use Rattle.journal_data.proofs.Submitting.{AreInStep}

-- on each link that is followed, of what each side sends
abbrev pub AllArrive : Given → List Event → Type 0
AllArrive given history = (station : ℕ) → is_in station given.stations ≡ true → (link : ℕ) → IsFollowed given history link
    → ArrivesInOrder link (lines_at station history) (lines_at (other_of station) history)

pub well_arrive : (given : Given) (history : List Event) → AreArrived given history → AllArrive given history
well_arrive given history arrived = λ station is link now. (arrived station is).out link now

module _ (given : Given) (are_two : IsOfTwo given) where
  -- of two stations
  by_one : (station : ℕ) (history : List Event) → is_in station given.stations ≡ true
      → ((link : ℕ) → IsFollowed given history link → ArrivesInOrder link (lines_at station history) (lines_at (other_of station) history))
      → ((link : ℕ) → IsFollowed given history link → ArrivesInOrder link (lines_at (other_of station) history) (lines_at station history))
      → AllArrive given history
  by_one station history is out back = λ one in_it link now. by one in_it link now (one == station) refl
    where
      by : (one : ℕ) → is_in one given.stations ≡ true → (link : ℕ) → IsFollowed given history link → (same : Bool) → (one == station) ≡ same
          → ArrivesInOrder link (lines_at one history) (lines_at (other_of one) history)
      by one in_it link now true same =
          subst (λ n. ArrivesInOrder link (lines_at n history) (lines_at (other_of n) history)) (sym (eqb-true one station same)) (out link now)
      by one in_it link now false differs =
          subst (λ n. ArrivesInOrder link (lines_at n history) (lines_at (other_of n) history)) (sym (other_is given are_two station one is in_it differs))
          (subst (λ n. ArrivesInOrder link (lines_at (other_of station) history) (lines_at n history)) (sym (other_back given are_two station is)) (back link now))

  -- in the middle of a call
  module _ (station : ℕ) (step : Step) (history : List Event) (is : is_in station given.stations ≡ true) (in_turn : IsInTurn step)
      (before : AllArrive given history) (after : AllArrive given (after_call given station step history)) where
    abbrev notes : List Note
    notes = notes_after (setup_at given station) (facts_at given station history) step

    abbrev call : List Event
    call = Called station step ∷ map (Noted station) notes

    abbrev far : ℕ
    far = other_of station

    abbrev end : List Event
    end = after_call given station step history

    -- what is followed after a front of its notes is so after all of them
    followed_then : (front back : List Note) → notes ≡ front ++ back → (link : ℕ)
        → IsFollowed given (history ++ Called station step ∷ map (Noted station) front) link → IsFollowed given end link
    followed_then front back notes_are link now =
        subst (λ h. IsFollowed given h link)
        (append_assoc history (Called station step ∷ map (Noted station) front) (map (Noted station) back)
        ∙ ap (λ more. history ++ Called station step ∷ more) (sym (map-append (Noted station) front back) ∙ ap (map (Noted station)) (sym notes_are)))
        (followed_noted given station back (history ++ Called station step ∷ map (Noted station) front) link now)

    back_to : (history : List Event) → AllArrive given history → (link : ℕ) → IsFollowed given history link
        → ArrivesInOrder link (lines_at far history) (lines_at station history)
    back_to history all link now =
        subst (λ n. ArrivesInOrder link (lines_at far history) (lines_at n history)) (other_back given are_two station is)
        (all far (other_in given are_two station is) link now)

    middle : (mid rest : List Event) → call ≡ mid ++ rest → ((link : ℕ) → IsFollowed given (history ++ mid) link → IsFollowed given end link)
        → AllArrive given (history ++ mid)
    middle mid rest mid_is still =
        let outside = call_outside far station step notes (far_side station) in
        let same = mid_same far history call mid rest outside mid_is in
        let far_last = mid_same far history call call [] outside (sym (append-nil call)) in
        let between = call_between given station step history mid rest in_turn mid_is in
        by_one station (history ++ mid) is
        (λ link now. subst (ArrivesInOrder link (lines_at station (history ++ mid))) (sym same)
        (from_middle link (lines_at station history) (lines_at station (history ++ mid)) (lines_at station end) (lines_at far history) (between link)
        (before station is link (followed_before given history mid link now))
        (subst (ArrivesInOrder link (lines_at station end)) far_last (after station is link (still link now)))))
        (λ link now. subst (λ lines. ArrivesInOrder link lines (lines_at station (history ++ mid))) (sym same)
        (to_middle link (lines_at station history) (lines_at station (history ++ mid)) (lines_at station end) (lines_at far history) (between link)
        (back_to history before link (followed_before given history mid link now))
        (subst (λ lines. ArrivesInOrder link lines (lines_at station end)) far_last (back_to end after link (still link now)))))

    call_middle : (mid rest : List Event) → call ≡ mid ++ rest → AllArrive given (history ++ mid)
    call_middle mid rest mid_is = by (front_called station step notes mid rest mid_is)
      where
        by : IsFront station step notes mid → AllArrive given (history ++ mid)
        by (nothing none) = subst (λ xs. AllArrive given (history ++ xs)) (sym none) (subst (AllArrive given) (sym (append-nil history)) before)
        by (noted front back mid_as notes_are) =
            middle mid rest mid_is (λ link now. followed_then front back notes_are link (subst (λ xs. IsFollowed given (history ++ xs) link) mid_as now))

  -- in the middle of a feed
  module _ (few : (station : ℕ) → (setup_at given station).links ≤ 4096) (eight : (station : ℕ) → (setup_at given station).host_buffers ≡ 8)
      (station octet : ℕ) (octets : List ℕ) (history : List Event) (is : is_in station given.stations ≡ true) (are : AreWell given history)
      (arrived : AreArrived given history) (own : HaveOwnNumbers given station history) (between : IsBetween given station history) where
    abbrev fed : List ℕ
    fed = octet ∷ octets

    abbrev come : List Event
    come = history ++ HostFed station fed ∷ []

    abbrev other : ℕ
    other = other_of station

    added : HasMore other come (after_feed given station fed history)
    added = feed_more given other station octet octets history (far_side station)

    feed_middle : (mid rest : List Event) → added.more ≡ mid ++ rest → AllArrive given (history ++ HostFed station fed ∷ mid)
    feed_middle mid rest mid_is =
        let event = HostFed station fed in
        let middle = history ++ event ∷ mid in
        let before = well_arrive given history arrived in
        let whole : after_feed given station fed history ≡ history ++ event ∷ (mid ++ rest) =
        added.is ∙ append_assoc history (event ∷ []) added.more ∙ ap (λ more. history ++ event ∷ more) mid_is in
        let far = mid_same other history (event ∷ added.more) (event ∷ mid) rest (far_side station, added.outside) (ap (λ more. event ∷ more) mid_is) in
        let front = feed_front given station fed history mid rest (few station) (eight station) feed_well_step (are.well station is).booked (are.well station is).submitted whole in
        by_one station middle is
        (λ link now. subst (ArrivesInOrder link (lines_at station middle)) (sym far)
        (from_fed link (lines_at station history) (lines_at station middle) (lines_at other history) (front link).fed
        (before station is link (followed_before given history (event ∷ mid) link now))))
        (λ link now. subst (λ lines. ArrivesInOrder link lines (lines_at station middle)) (sym far)
        (to_fed link (lines_at station history) (lines_at station middle) (lines_at other history) (front link).fed
        (subst (λ n. ArrivesInOrder link (lines_at other history) (lines_at n history)) (other_back given are_two station is)
        (before other (other_in given are_two station is) link (followed_before given history (event ∷ mid) link now)))))
      where
        feed_well_step : AreInStep given station history
        feed_well_step = feed_step given few eight station fed history own (are.well station is) between

    feed_always : AreAlways (AllArrive given) history → AreAlways (AllArrive given) (after_feed given station fed history)
    feed_always always =
        subst (AreAlways (AllArrive given)) (sym added.is)
        (always_more (AllArrive given) come added.more
        (always_event (AllArrive given) history (HostFed station fed) always (well_arrive given history arrived) (feed_middle [] added.more refl))
        (λ mid rest mid_is. subst (AllArrive given) (sym (append_assoc history (HostFed station fed ∷ []) mid)) (feed_middle mid rest mid_is)))

  -- in a whole feed
  whole_feed : ((station : ℕ) → (setup_at given station).links ≤ 4096) → ((station : ℕ) → (setup_at given station).host_buffers ≡ 8)
      → (station : ℕ) (octets : List ℕ) (history : List Event) → is_in station given.stations ≡ true → AreWell given history → AreArrived given history
      → HaveOwnNumbers given station history → IsBetween given station history
      → AreAlways (AllArrive given) history → AreAlways (AllArrive given) (after_feed given station octets history)
  whole_feed few eight station [] history is are arrived own between always = always
  whole_feed few eight station (octet ∷ octets) history is are arrived own between always =
      feed_always few eight station octet octets history is are arrived own between always

  -- in a whole call
  whole_call : (station : ℕ) (step : Step) (history : List Event) → is_in station given.stations ≡ true → IsInTurn step
      → AreArrived given history → AreArrived given (after_call given station step history) → AreAlways (AllArrive given) history
      → AreAlways (AllArrive given) (after_call given station step history)
  whole_call station step history is in_turn arrived arrived_after always =
      always_more (AllArrive given) history (Called station step ∷ map (Noted station) (notes_after (setup_at given station) (facts_at given station history) step)) always
      (call_middle station step history is in_turn (well_arrive given history arrived) (well_arrive given (after_call given station step history) arrived_after))

-- ---- each step

pub record IsDataSoFar (given : Given) (place : Place) (history : List Event) : Type 0 where
  pub is : IsDataAt given (IsBelongingSoFar given) place history
  pub arrived : AreArrived given history
  pub always : AreAlways (AllArrive given) history

module _ (whole : IsHeardWhole) (given : Given) (known : AreKnown given (IsBelongingSoFar given)) (are_two : IsOfTwo given) (few_links : HaveFewLinks given)
    (six : HaveAddresses given) (distinct : AreDistinct given.stations) (eight : (station : ℕ) → (setup_at given station).host_buffers ≡ 8)
    (agree : AgreeUnmixed given) where
  abbrev Q : Place → List Event → Type 0
  Q = IsBelongingSoFar given

  abbrev D : Place → List Event → Type 0
  D = IsDataAt given Q

  -- a call before the end of a turn
  so_far_called : (station : ℕ) (step : Step) (history : List Event) (before place : Place) → is_in station given.stations ≡ true → IsInTurn step
      → (step ≡ TurnEnds → ⊥) → (AreFew given station history → AreFew given station (after_call given station step history))
      → EachAt given station (after_call given station step history) (HasMoved given station history)
      → IsDataSoFar given before history → D place (after_call given station step history) → IsDataSoFar given place (after_call given station step history)
  so_far_called station step history before place is in_turn goes_on few moved has next =
      let made = call_made whole given Q known are_two few_links six distinct eight station step history before place is in_turn goes_on has.is.counted next.counted few
      has.is.are in
      let arrived = call_arrived given are_two few_links eight agree station step history place is made moved next.counted.known has.is.mine has.is.are has.arrived in record {
        is = next;
        arrived = arrived;
        always = whole_call given are_two station step history is in_turn has.arrived arrived has.always;
      }

  -- an event that is of no call
  so_far_seen : (event : Event) (history : List Event) (before place : Place) → ((station : ℕ) → SeesSame station history (history ++ event ∷ []))
      → IsDataSoFar given before history → D place (history ++ event ∷ []) → IsDataSoFar given place (history ++ event ∷ [])
  so_far_seen event history before place sees has next =
      let arrived = arrived_same given history (event ∷ []) sees has.arrived in record {
        is = next;
        arrived = arrived;
        always = always_event (AllArrive given) history event has.always (well_arrive given history has.arrived) (well_arrive given (history ++ event ∷ []) arrived);
      }

  pub so_far_kept : IsKept given (IsDataSoFar given)
  so_far_kept = let kept = data_kept whole given Q known are_two few_links six distinct eight in record {
    on_turn = λ slot plan history begun at has.
        let radios = map plan.radio_of given.stations in
        so_far_seen (TurnBegan slot radios) history _ _ (λ station. sees_turn station history slot radios) has (kept.on_turn slot plan history begun at has.is);
    on_feed = λ plan done left station history are some now has.
        let in_it = among given.stations done left station are in
        let octets = take (plan.feed_of station) (octets_left given station history) in
        let own = own_numbers given Q known (AtFeeds done (station ∷ left)) history station in_it has.is.counted.known in
        let between = between_standing (past_of station history) (at_stage Between (turns_begun history - 1)) (has.is.counted.holds.hearing.stand station in_it) in record {
          is = kept.on_feed plan done left station history are some now has.is;
          arrived = feed_arrived given are_two few_links eight agree station octets history in_it own between has.is.are has.arrived;
          always = whole_feed given are_two few_links.links eight station octets history in_it has.is.are has.arrived own between has.always;
        };
    on_fed = λ history has. record { is = kept.on_fed history has.is; arrived = has.arrived; always = has.always };
    on_begin = λ slot plan done left station history are due has.
        let on = plan.radio_of station in
        so_far_called station (TurnBegins slot on) history (AtBegins done (station ∷ left)) (AtBegins (done ++ station ∷ []) left)
        (among given.stations done left station are) tt (begin_goes_on slot on) (few_begin given station slot on history) (begin_moves given station slot on history) has
        (kept.on_begin slot plan done left station history are due has.is);
    on_begun = λ history has. record { is = kept.on_begun history has.is; arrived = has.arrived; always = has.always };
    on_phase = λ phases history few has. record { is = kept.on_phase phases history few has.is; arrived = has.arrived; always = has.always };
    on_silence = λ phases done left station history are none has.
        record { is = kept.on_silence phases done left station history are none has.is; arrived = has.arrived; always = has.always };
    on_packet = λ phases plan done left station channel octets history are some due has.
        let hearings = hearings_of given plan.fates station channel octets history in
        so_far_seen (Transmitted station channel octets hearings) history _ _ (λ one. sees_packet one history station channel octets hearings) has
        (kept.on_packet phases plan done left station channel octets history are some due has.is);
    on_air = λ phases history has. record { is = kept.on_air phases history has.is; arrived = has.arrived; always = has.always };
    on_hearing = λ phases done left station history are some has.
        let received = packet_received station history in
        let in_it = among given.stations done left station are in
        let before : PhasedBy given history station (at_stage (Within phases) (turns_begun history)) =
        subst (λ b. PhasedBy given history station (if b then at_stage (Within (suc phases)) (turns_begun history) else at_stage (Within phases) (turns_begun history)))
        (not_before given.stations done left station distinct are)
        (phased_at given (AtListening phases done (station ∷ left)) history has.is.counted.holds.hearing.stand station in_it) in
        so_far_called station (step_of received) history (AtListening phases done (station ∷ left)) (AtListening phases (done ++ station ∷ []) left) in_it
        (pass_in_turn received) (pass_goes_on received) (few_pass given station received history)
        (λ handle link at. phase_moves given station history handle link before.uses.in_turn.listens at) has
        (kept.on_hearing phases done left station history are some has.is);
    on_heard = λ phases history has. record { is = kept.on_heard phases history has.is; arrived = has.arrived; always = has.always };
    on_phases = λ history has. record { is = kept.on_phases history has.is; arrived = has.arrived; always = has.always };
    on_end = λ done left station history are some has.
        let next = kept.on_end done left station history are some has.is in
        let in_it = among given.stations done left station are in
        let before = AtEnds done (station ∷ left) in
        let made = end_made whole given Q known are_two few_links six distinct eight station history before (AtEnds (done ++ station ∷ []) left) in_it has.is.counted
        next.counted has.is.are in
        let arrived = end_arrived given are_two few_links eight agree station history before in_it made has.is.counted.known has.is.are has.arrived in record {
          is = next;
          arrived = arrived;
          always = whole_call given are_two station TurnEnds history in_it tt has.arrived arrived has.always;
        };
    on_ended = λ history has. record { is = kept.on_ended history has.is; arrived = has.arrived; always = has.always };
  }
