-- What each station of a run heard in the phase that passed, and what it was then.
use Rattle.std.proofs.Common.{◌≡◌, ℕ, zero, suc, ◌==◌, Bool, true, false, List, [], ◌∷◌, ◌++◌, refl, sym, ap, subst, ◌∙◌}
use Rattle.std.specs.Prelude.{⊤}
use Rattle.std.proofs.lemmas.Bool.{eqb-true}
use Rattle.journal_data.specs.controller_model.Side.{facts_after, facts_of}
use Rattle.radio_replay.specs.declared.fates.Fate.{Fate}
use Rattle.journal_data.specs.run_model.Feeding.{AreDistinct}
use Rattle.journal_data.specs.run_model.History.{Event, Transmitted, packet_received}
use Rattle.journal_data.specs.run_model.LinkEnds.{HaveAddresses}
use Rattle.journal_data.specs.run_model.Run.{Given, after_call, facts_at, hearings_of, setup_at, step_of}
use Rattle.journal_data.proofs.run_model.LinkEnds.{received_by}
use Rattle.journal_data.proofs.run_model.Stations.{is_in, in_more_other, in_more_same, not_before}
use Rattle.journal_data.proofs.run_model.Walk.{Place, NoTurn, AfterPhases, AtPackets, AtListening, IsKept}
use Rattle.journal_data.proofs.run_laws.ByCalls.{first_hears}
use Rattle.journal_data.proofs.run_laws.Hearings.{AreHearing, hearing_kept, other_facts, own_facts}
use Rattle.journal_data.proofs.run_laws.TurnPlaces.{event_past, stands_first}

-- ---- the phase that passed

-- a station that took what it heard since this start, and one that did not yet
abbrev pub IsSince : Bool → Given → List Event → List Event → ℕ → Type 0
IsSince true given start history station =
    facts_at given station history ≡ facts_after (setup_at given station) (facts_at given station start) (step_of (packet_received station start))
IsSince false given start history station =
    (facts_at given station history ≡ facts_at given station start) × (packet_received station history ≡ packet_received station start)

-- all packets of the phase were on the air at its start, and these stations took what they heard since
pub record IsOnePhase (given : Given) (phases : ℕ) (done : List ℕ) (history : List Event) : Type 0 where
  pub start : List Event
  pub hearing : AreHearing given (AtPackets phases given.stations []) start
  pub each : (station : ℕ) → is_in station given.stations ≡ true → IsSince (is_in station done) given start history station

abbrev pub PhasePassed : Given → Place → List Event → Type 0
PhasePassed given (AtListening phases done left) history = IsOnePhase given phases done history
PhasePassed given (AfterPhases (suc phases)) history = IsOnePhase given phases given.stations history
PhasePassed given (AtPackets (suc phases) done left) history = IsOnePhase given phases given.stations history
PhasePassed given place history = ⊤

pub record ArePassing (given : Given) (place : Place) (history : List Event) : Type 0 where
  pub hearing : AreHearing given place history
  pub passed : PhasePassed given place history

-- ---- steps

module _ (given : Given) where
  -- a packet of the next phase changes no station
  packet_passed : (phases : ℕ) (done later left rest : List ℕ) (history : List Event) (station channel : ℕ) (octets : List ℕ) (fates : List Fate)
      → PhasePassed given (AtPackets phases done left) history
      → PhasePassed given (AtPackets phases later rest) (history ++ Transmitted station channel octets (hearings_of given fates station channel octets history) ∷ [])
  packet_passed zero done later left rest history station channel octets fates passed = tt
  packet_passed (suc phases) done later left rest history station channel octets fates passed =
      let event = Transmitted station channel octets (hearings_of given fates station channel octets history) in record {
        start = passed.start;
        hearing = passed.hearing;
        each = λ one is. subst (λ b. IsSince b given passed.start (history ++ event ∷ []) one) (sym is)
            (ap (facts_of (setup_at given one)) (event_past one history event refl)
            ∙ subst (λ b. IsSince b given passed.start history one) is (passed.each one is));
      }

  silence_passed : (phases : ℕ) (done later left rest : List ℕ) (history : List Event) → PhasePassed given (AtPackets phases done left) history
      → PhasePassed given (AtPackets phases later rest) history
  silence_passed zero done later left rest history passed = tt
  silence_passed (suc phases) done later left rest history passed = passed

  phase_passed : (phases : ℕ) (history : List Event) → PhasePassed given (AfterPhases phases) history → PhasePassed given (AtPackets phases [] given.stations) history
  phase_passed zero history passed = tt
  phase_passed (suc phases) history passed = passed

  start_passed : (phases : ℕ) (history : List Event) → AreHearing given (AtPackets phases given.stations []) history → IsOnePhase given phases [] history
  start_passed phases history hearing = record { start = history; hearing = hearing; each = λ station is. (refl, refl) }

  -- one station more takes what it heard
  module _ (phases : ℕ) (done : List ℕ) (caller : ℕ) (history : List Event) (out : is_in caller done ≡ false) (passed : IsOnePhase given phases done history) where
    abbrev after : List Event
    after = after_call given caller (step_of (packet_received caller history)) history

    caller_since : IsSince false given passed.start history caller → IsSince true given passed.start after caller
    caller_since since =
        own_facts given caller (step_of (packet_received caller history)) history
        ∙ (λ i. facts_after (setup_at given caller) (since.0 i) (step_of (since.1 i)))

    other_since : (one : ℕ) → (one == caller) ≡ false → (took : Bool) → IsSince took given passed.start history one → IsSince took given passed.start after one
    other_since one differs true since = other_facts given caller (step_of (packet_received caller history)) history one differs ∙ since
    other_since one differs false since = (
      other_facts given caller (step_of (packet_received caller history)) history one differs ∙ since.0,
      received_by given one caller (step_of (packet_received caller history)) history false differs ∙ since.1,
    )

    each_since : (one : ℕ) → IsSince (is_in one done) given passed.start history one → (same : Bool) → (one == caller) ≡ same
        → IsSince (is_in one (done ++ caller ∷ [])) given passed.start after one
    each_since one since true is =
        let equal = eqb-true one caller is in
        subst (λ b. IsSince b given passed.start after one) (sym (in_more_same one caller done is))
        (subst (IsSince true given passed.start after) (sym equal)
        (caller_since (subst (λ b. IsSince b given passed.start history caller) out (subst (λ n. IsSince (is_in n done) given passed.start history n) equal since))))
    each_since one since false is =
        subst (λ b. IsSince b given passed.start after one) (sym (in_more_other one caller done is)) (other_since one is (is_in one done) since)

    call_passed : IsOnePhase given phases (done ++ caller ∷ []) after
    call_passed = record {
      start = passed.start;
      hearing = passed.hearing;
      each = λ one is. each_since one (passed.each one is) (one == caller) refl;
    }

  -- ---- along a run

  pub passing_kept : HaveAddresses given → AreDistinct given.stations → IsKept given (ArePassing given)
  passing_kept six distinct = let kept = hearing_kept given six distinct in record {
    on_turn = λ slot plan history begun at is. record { hearing = kept.on_turn slot plan history begun at is.hearing; passed = tt };
    on_feed = λ plan done left station history are some now is. record { hearing = kept.on_feed plan done left station history are some now is.hearing; passed = tt };
    on_fed = λ history is. record { hearing = kept.on_fed history is.hearing; passed = tt };
    on_begin = λ slot plan done left station history are due is. record { hearing = kept.on_begin slot plan done left station history are due is.hearing; passed = tt };
    on_begun = λ history is. record { hearing = kept.on_begun history is.hearing; passed = tt };
    on_phase = λ phases history few is. record { hearing = kept.on_phase phases history few is.hearing; passed = phase_passed phases history is.passed };
    on_silence = λ phases done left station history are none is. record {
      hearing = kept.on_silence phases done left station history are none is.hearing;
      passed = silence_passed phases done (done ++ station ∷ []) (station ∷ left) left history is.passed;
    };
    on_packet = λ phases plan done left station channel octets history are some due is. record {
      hearing = kept.on_packet phases plan done left station channel octets history are some due is.hearing;
      passed = packet_passed phases done (done ++ station ∷ []) (station ∷ left) left history station channel octets plan.fates is.passed;
    };
    on_air = λ phases history is. record { hearing = kept.on_air phases history is.hearing; passed = start_passed phases history is.hearing };
    on_hearing = λ phases done left station history are some is. record {
      hearing = kept.on_hearing phases done left station history are some is.hearing;
      passed = call_passed phases done station history (not_before given.stations done left station distinct are) is.passed;
    };
    on_heard = λ phases history is. record { hearing = kept.on_heard phases history is.hearing; passed = is.passed };
    on_phases = λ history is. record { hearing = kept.on_phases history is.hearing; passed = tt };
    on_end = λ done left station history are some is. record { hearing = kept.on_end done left station history are some is.hearing; passed = tt };
    on_ended = λ history is. record { hearing = kept.on_ended history is.hearing; passed = tt };
  }

  pub passing_first : ArePassing given NoTurn []
  passing_first = record { hearing = record { stand = stands_first given; hears = λ station is. first_hears given station }; passed = tt }
