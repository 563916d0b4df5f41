-- At each place of a run of two stations the lines of each side say what its controller does next.
use Rattle.std.proofs.Common.{◌≡◌, ◌⊎◌, inl, inr, ℕ, ◌==◌, Bool, true, false, None, List, [], ◌∷◌, ◌++◌, map, refl, sym, ap, subst, ◌∙◌, if◌then◌else◌}
use Rattle.std.specs.Prelude.{take}
use Rattle.std.proofs.lemmas.Bool.{eqb-true}
use Rattle.journal_wants.specs.controller_model.Side.{notes_after}
use Rattle.journal_wants.specs.controller_model.Step.{Step, TurnBegins, TurnEnds}
use Rattle.journal_wants.specs.journal_controls.journal_ends.Asked.{Words}
use Rattle.journal_wants.specs.journal_sending.journal_fixing.OnLines.{kept_or}
use Rattle.journal_wants.specs.run_model.Due.{Each, packet_in}
use Rattle.journal_wants.specs.run_model.Feeding.{AreDistinct}
use Rattle.journal_wants.specs.run_model.History.{Called, Event, Noted, Transmitted, TurnBegan, packet_received, turns_begun}
use Rattle.journal_wants.specs.run_model.LinkEnds.{HaveAddresses}
use Rattle.journal_wants.specs.run_model.Run.{Given, after_call, facts_at, hearings_of, octets_left, setup_at, step_of, use_at}
use Rattle.journal_wants.specs.Station.{Setups}
use Rattle.journal_wants.proofs.journal_acks.TwoStations.{IsOfTwo, one_hearing, other_of}
use Rattle.journal_wants.proofs.journal_acks.run_laws.Hearings.{AreHearing, hearing_kept}
use Rattle.journal_wants.proofs.journal_acks.run_laws.TurnPlaces.{Between, Within, at_stage}
use Rattle.journal_wants.proofs.journal_data.KeptData.{other_in}
use Rattle.journal_wants.proofs.journal_leaving.journal_controls.journal_ends.GivenFronts.{feed_more}
use Rattle.journal_wants.proofs.run_model.Calls.{same_station}
use Rattle.journal_wants.proofs.run_model.Journals.{each_front}
use Rattle.journal_wants.proofs.run_model.Places.{each_at}
use Rattle.journal_wants.proofs.run_model.Stations.{among, in_more_other, in_more_same, is_in, not_before}
use Rattle.journal_wants.proofs.run_model.Walk.{AtEnds, AtPackets, IsKept}
use Rattle.journal_moves.specs.Moves.{phase_sending}
use Rattle.journal_moves.proofs.DoingPhases.{IsDoing, doing_at}
use Rattle.journal_moves.proofs.NextPhases.{over_silent, said_silent, silent_still}
use Rattle.journal_moves.proofs.SaidDoings.{AllSay, AreSaying, HasEndedIf, HasPassedIf, IsInPhase, IsKnown, Waits, begin_says, far_matches, far_or, in_stays, more_done, said_or}
use Rattle.journal_moves.proofs.SaidLines.{begun_at, begun_called, call_said, feed_none, line_said, said_at}
use Rattle.journal_moves.proofs.SaidSteps.{listening_says, packet_says}

module _ (words : Words) (setups : Setups) (given : Given) (are_two : IsOfTwo given)
    (distinct : AreDistinct given.stations) where
  abbrev F : List Event → Event → Type 0
  F = IsKnown words setups given

  -- ---- a station has no packet

  silence_says : (phases : ℕ) (done left : List ℕ) (station : ℕ) (history : List Event)
      → packet_in (use_at given station history) ≡ []
      → AllSay words setups given (AtPackets phases done (station ∷ left)) history
      → AllSay words setups given (AtPackets phases (done ++ station ∷ []) left) history
  silence_says phases done left station history none says other in_other =
      more_done (facts_at given other history) (is_in other done) (is_in (other_of other) done)
      (is_in other (done ++ station ∷ [])) (is_in (other_of other) (done ++ station ∷ []))
      (in_stays other station done) (in_stays (other_of other) station done) (may (other == station) refl)
      (says other in_other)
    where
      may : (same : Bool) → (other == station) ≡ same → is_in other (done ++ station ∷ []) ≡ true
          → (packet_in (use_at given other history) ≡ []) ⊎ (is_in other done ≡ true)
      may true same now = inl
          (subst (λ n. packet_in (use_at given n history) ≡ []) (sym (eqb-true other station same)) none)
      may false differs now = inr (sym (in_more_other other station done differs) ∙ now)

  -- ---- a turn ends

  module _ (done left : List ℕ) (station : ℕ) (history : List Event) (are : given.stations ≡ done ++ station ∷ left)
      (hearing : AreHearing given (AtEnds done (station ∷ left)) history)
      (says : AllSay words setups given (AtEnds done (station ∷ left)) history) where
    abbrev ended : List Event
    ended = after_call given station TurnEnds history

    in_it : is_in station given.stations ≡ true
    in_it = among given.stations done left station are

    not_yet : is_in station done ≡ false
    not_yet = not_before given.stations done left station distinct are

    here : IsDoing (setup_at given station) (Within 3) (turns_begun history) (facts_at given station history)
    here =
        subst (λ b. let at =
        (if b then at_stage Between (turns_begun history) else at_stage (Within 3) (turns_begun history)) in
        IsDoing (setup_at given station) at.stage at.begun (facts_at given station history))
        not_yet (doing_at given (AtEnds done (station ∷ left)) history station hearing.stand in_it)

    silent : phase_sending (said_or words setups given station history) ≡ None
    silent =
        let doing = (facts_at given station history).turn.doing in
        said_silent 3 (said_or words setups given station history) doing (over_silent doing here.in_phase)
        (subst (λ b. HasEndedIf words setups given b station history) not_yet (says station in_it))

    own_ended : HasEndedIf words setups given (is_in station (done ++ station ∷ [])) station ended
    own_ended =
        let said = call_said words setups station station TurnEnds
        (notes_after (setup_at given station) (facts_at given station history) TurnEnds) history
        (λ own. silent_still (said_at words setups station history) (begun_at given station history) silent) in
        let begun = begun_called given station TurnEnds history station true (same_station station) (λ same. refl) in
        subst (λ b. HasEndedIf words setups given b station ended)
        (sym (in_more_same station station done (same_station station)))
        (ap phase_sending (λ i. kept_or (said i) (begun i)) ∙ silent)

    far_ended : (other : ℕ) → is_in other given.stations ≡ true → (other == station) ≡ false → (over : Bool)
        → HasEndedIf words setups given over other history
        → HasEndedIf words setups given over other ended
    far_ended other in_other differs true is =
        ap phase_sending (far_or words setups given are_two distinct station TurnEnds history in_it other in_other
        differs) ∙ is
    far_ended other in_other differs false is =
        far_matches words setups given are_two distinct station TurnEnds history in_it other in_other differs 3 is

    end_says : AllSay words setups given (AtEnds (done ++ station ∷ []) left) ended
    end_says other in_other = by (other == station) refl
      where
        by : (same : Bool) → (other == station) ≡ same
            → HasEndedIf words setups given (is_in other (done ++ station ∷ [])) other ended
        by true same = subst (λ n. HasEndedIf words setups given (is_in n (done ++ station ∷ [])) n ended)
            (sym (eqb-true other station same)) own_ended
        by false differs =
            subst (λ b. HasEndedIf words setups given b other ended) (sym (in_more_other other station done differs))
            (far_ended other in_other differs (is_in other done) (says other in_other))

  -- ---- all steps

  call_front : (station : ℕ) (step : Step) (history : List Event) → Each F [] (after_call given station step history)
      → Each F [] history
  call_front station step history all =
      each_front F [] history
      (Called station step ∷ map (Noted station)
      (notes_after (setup_at given station) (facts_at given station history) step)) all

  call_known : (station : ℕ) (step : Step) (history : List Event) → Each F [] (after_call given station step history)
      → F history (Called station step)
  call_known station step history all =
      each_at F (after_call given station step history) history
      (map (Noted station) (notes_after (setup_at given station) (facts_at given station history) step))
      (Called station step) all refl

  pub saying_kept : HaveAddresses given → IsKept given (AreSaying words setups given)
  saying_kept six = let hear = hearing_kept given six distinct in record {
    on_turn = λ slot plan history begun at is. record {
      hearing = hear.on_turn slot plan history begun at is.hearing;
      says = λ all station in_it. line_said words setups station history
          (TurnBegan slot (map plan.radio_of given.stations)) _ refl;
    };
    on_feed = λ plan done left station history are some now is.
        let octets = take (plan.feed_of station) (octets_left given station history) in
        let more = feed_more given station octets history in record {
          hearing = hear.on_feed plan done left station history are some now is.hearing;
          says = λ all other in_other.
              feed_none words setups given station other octets history
              (is.says (each_front F [] history more.events (subst (λ xs. Each F [] xs) more.is all)) other in_other);
        };
    on_fed = λ history is. record {
      hearing = hear.on_fed history is.hearing;
      says = λ all station in_it.
          (is.says all station in_it, λ none. absurd (let h : false ≡ true = none in absurd cc));
    };
    on_begin = λ slot plan done left station history are due is. record {
      hearing = hear.on_begin slot plan done left station history are due is.hearing;
      says = λ all.
          begin_says words setups given are_two distinct slot (plan.radio_of station) done left station history
          (is.says (call_front station (TurnBegins slot (plan.radio_of station)) history all));
    };
    on_begun = λ history is. record {
      hearing = hear.on_begun history is.hearing;
      says = λ all station in_it.
          let both = is.says all station in_it in
          inl (ap (λ kept. kept_or kept (begun_at given station history)) both.0 ∙ both.1 in_it);
    };
    on_phase = λ phases history few is. record {
      hearing = hear.on_phase phases history few is.hearing;
      says = λ all station in_it.
          Waits (is.hearing.hears station in_it) (λ none. absurd (let h : false ≡ true = none in absurd cc))
          (is.says all station in_it);
    };
    on_silence = λ phases done left station history are none is. record {
      hearing = hear.on_silence phases done left station history are none is.hearing;
      says = λ all. silence_says phases done left station history none (is.says all);
    };
    on_packet = λ phases plan done left station channel octets history are some due is.
        let event = Transmitted station channel octets
        (hearings_of given plan.fates station channel octets history) in
        let one = one_hearing given are_two plan.fates station channel octets history
        (among given.stations done left station are) in record {
          hearing = hear.on_packet phases plan done left station channel octets history are some due is.hearing;
          says = λ all.
              packet_says words setups given are_two distinct phases plan.fates done left station channel octets
              history are due.is_wanted due.is_seen is.hearing
              (subst (λ hearings. F history (Transmitted station channel octets hearings)) one
              (each_at F (history ++ event ∷ []) history [] event all refl))
              (is.says (each_front F [] history (event ∷ []) all));
        };
    on_air = λ phases history is. record {
      hearing = hear.on_air phases history is.hearing;
      says = λ all station in_it.
          subst (λ own. IsInPhase words setups given phases own true station history) in_it
          (subst (λ far. IsInPhase words setups given phases (is_in station given.stations) far station history)
          (other_in given are_two station in_it)
          (is.says all station in_it));
    };
    on_hearing = λ phases done left station history are some is.
        let step = step_of (packet_received station history) in record {
          hearing = hear.on_hearing phases done left station history are some is.hearing;
          says = λ all.
              listening_says words setups given are_two distinct phases done left station history are is.hearing
              (call_known station step history all)
              (is.says (call_front station step history all));
        };
    on_heard = λ phases history is. record {
      hearing = hear.on_heard phases history is.hearing;
      says = λ all station in_it. subst (λ b. HasPassedIf words setups given b phases station history) in_it
          (is.says all station in_it);
    };
    on_phases = λ history is. record {
      hearing = hear.on_phases history is.hearing;
      says =
          λ all station in_it. is.says all station in_it;
    };
    on_end = λ done left station history are some is. record {
      hearing = hear.on_end done left station history are some is.hearing;
      says = λ all. end_says done left station history are is.hearing
          (is.says (call_front station TurnEnds history all));
    };
    on_ended = λ history is. record {
      hearing = hear.on_ended history is.hearing;
      says = λ all station in_it. subst (λ b. HasEndedIf words setups given b station history) in_it
          (is.says all station in_it);
    };
  }
