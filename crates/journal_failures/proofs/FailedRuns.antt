-- At any time of a run of two stations, each open end that ended a link which is followed for a failed integrity has a line of
-- a packet that was forged to it.
use Rattle.std.proofs.Common.{◌≡◌, ℕ, ◌==◌, Bool, true, false, Option, Some, None, List, [], ◌∷◌, ◌++◌, append_assoc, map, take, refl, sym, ap, subst, ◌∙◌, if◌then◌else◌}
use Rattle.std.specs.Prelude.{⊤}
use Rattle.std.proofs.lemmas.Bool.{eqb-true}
use Rattle.journal_outcomes.specs.controller_model.Facts.{Facts}
use Rattle.journal_outcomes.specs.controller_model.Side.{facts_of, notes_after}
use Rattle.journal_outcomes.specs.controller_model.Step.{HostOctet, NothingHeard, PacketHeard, Step, TurnBegins, TurnEnds}
use Rattle.journal_outcomes.specs.link_calls.open_links.OpenLinks.{OpenLink, link_at}
use Rattle.journal_outcomes.specs.link_calls.run_model.History.{Called, Event, HostFed, Noted, TurnBegan, Transmitted, packet_received, past_of, steps_in}
use Rattle.journal_outcomes.specs.link_calls.run_model.Journal.{journal_of, side_of}
use Rattle.journal_outcomes.specs.link_calls.run_model.LinkEnds.{HaveAddresses}
use Rattle.journal_outcomes.specs.link_calls.run_model.Links.{links_of}
use Rattle.journal_outcomes.specs.link_calls.run_model.Run.{Given, after_call, after_feed, after_octets, facts_at, hearings_of, history_of, octets_left, run_of, setup_at, step_of}
use Rattle.journal_outcomes.proofs.link_calls.link_model.Hearing.{IsHeardWhole}
use Rattle.journal_outcomes.proofs.link_calls.run_laws.DistinctAccess.{AreApart}
use Rattle.journal_outcomes.proofs.link_calls.run_laws.Hearings.{own_facts}
use Rattle.journal_outcomes.proofs.link_calls.run_laws.OpenSteps.{none_open, open_has}
use Rattle.journal_outcomes.proofs.link_calls.run_laws.TwoStations.{differs_back}
use Rattle.journal_outcomes.proofs.link_calls.run_model.Calls.{flat_nothing}
use Rattle.journal_outcomes.proofs.link_calls.run_model.Fronts.{front_at}
use Rattle.journal_outcomes.proofs.link_calls.run_model.LinkEnds.{AreTaken, IsUnderstood}
use Rattle.journal_outcomes.proofs.link_calls.run_model.LinksKnown.{link_by_own}
use Rattle.journal_outcomes.proofs.link_calls.run_model.Places.{each_at}
use Rattle.journal_outcomes.proofs.link_calls.run_model.Stations.{is_in, among}
use Rattle.journal_outcomes.proofs.link_calls.run_model.Walk.{AtListening, IsKept as IsKeptInRun, NoTurn, Place}
use Rattle.journal_outcomes.proofs.link_runs.link_pairs.Understanding.{IsOpenedThere}
use Rattle.journal_outcomes.proofs.journal_crossing.journal_collisions.journal_endings.run_pairs.LinkSteps.{AsksMayCome}
use Rattle.journal_outcomes.proofs.journal_crossing.journal_collisions.journal_endings.journal_indications.journal_data.Followed.{IsFollowed, followed_before}
use Rattle.journal_outcomes.proofs.journal_crossing.journal_collisions.journal_endings.journal_indications.journal_data.Openness.{opens_where_free}
use Rattle.journal_outcomes.proofs.journal_crossing.journal_collisions.journal_endings.journal_indications.journal_data.SameView.{SeesSame, same_facts, sees_other_call, sees_packet, sees_turn}
use Rattle.journal_outcomes.proofs.journal_crossing.journal_collisions.journal_endings.journal_indications.journal_data.StationLines.{numbers_event}
use Rattle.journal_outcomes.proofs.journal_crossing.journal_collisions.journal_endings.journal_indications.journal_data.journal_acks.EachCall.{HaveCalls, OfCall, run_calls}
use Rattle.journal_outcomes.proofs.journal_crossing.journal_collisions.journal_endings.journal_indications.journal_data.journal_acks.Exchanging.{number_at}
use Rattle.journal_outcomes.proofs.journal_crossing.journal_collisions.journal_endings.journal_indications.journal_data.journal_acks.TwoStations.{IsOfTwo, other_apart}
use Rattle.journal_outcomes.proofs.journal_crossing.journal_collisions.journal_endings.journal_indications.journal_data.journal_packets.AccessOrder.{AreNth}
use Rattle.journal_outcomes.proofs.journal_crossing.journal_collisions.journal_endings.journal_indications.journal_data.journal_packets.SoFar.{IsBelongingSoFar, belonging_first, belonging_kept}
use Rattle.journal_failures.specs.Failures.{IsForgedIn}
use Rattle.journal_failures.proofs.FailedLinks.{FailedBy, HeardForged, HeardGood, WasFailed, call_failed, ends_in}
use Rattle.journal_failures.proofs.GoodPackets.{is_failed}
use Rattle.journal_failures.proofs.HeardForged.{forged_before, forged_later}
use Rattle.journal_failures.proofs.HeardGood.{good_stays}

-- an end under a handle of a station does
abbrev pub IsForgedTo : List Event → ℕ → ℕ → Type 0
IsForgedTo history station handle = IsForgedIn (side_of station) (number_at station handle history) (journal_of history)

abbrev FailedAt : Given → List Event → ℕ → Type 0
FailedAt given history station =
    (handle : ℕ) (link : OpenLink) → link_at handle (facts_at given station history).links ≡ Some link
    → IsFollowed given history (number_at station handle history) → is_failed (ends_in link) ≡ true → IsForgedTo history station handle

abbrev pub AllFailed : Given → List Event → Type 0
AllFailed given history = (station : ℕ) → is_in station given.stations ≡ true → FailedAt given history station

-- ---- what is no call of a station

still_forged : (given : Given) (station handle : ℕ) (history more : List Event)
    → number_at station handle (history ++ more) ≡ number_at station handle history → IsForgedTo history station handle
    → IsForgedTo (history ++ more) station handle
still_forged given station handle history more same forged =
    subst (λ n. IsForgedIn (side_of station) n (journal_of (history ++ more))) (sym same)
    (forged_later (side_of station) (number_at station handle history) history more forged)

failed_same : (given : Given) (station : ℕ) (history more : List Event) → SeesSame station history (history ++ more) → FailedAt given history station
    → FailedAt given (history ++ more) station
failed_same given station history more same kept handle link is_open followed failed =
    let number = ap (λ (numbers : ℕ → ℕ). numbers handle) same.number in
    still_forged given station handle history more number
    (kept handle link (ap (λ (f : Facts). link_at handle f.links) (sym (same_facts given station history (history ++ more) same)) ∙ is_open)
    (followed_before given history more (number_at station handle history) (subst (IsFollowed given (history ++ more)) number followed)) failed)

-- ---- a call

-- where a station is called with a packet
record IsCalledAt (given : Given) (station : ℕ) (history : List Event) (octets : List ℕ) : Type 0 where
  rest : List Event
  at : history_of (run_of given) ≡ history ++ Called station (PacketHeard octets) ∷ rest

abbrev IsOfRun : Given → ℕ → List Event → Step → Type 0
IsOfRun given station history step = (octets : List ℕ) → step ≡ PacketHeard octets → IsCalledAt given station history octets

module _ (whole : IsHeardWhole) (opens_there : IsOpenedThere) (understood : IsUnderstood) (taken : AreTaken) (nth : AreNth) (apart : AreApart) (given : Given)
    (are_two : IsOfTwo given) (six : HaveAddresses given) (asks : AsksMayCome given) where
  module _ (station : ℕ) (step : Step) (history : List Event) (on : is_in station given.stations ≡ true) (of_run : IsOfRun given station history step) where
    abbrev called : Event
    called = Called station step

    abbrev notes : List Event
    notes = map (Noted station) (notes_after (setup_at given station) (facts_at given station history) step)

    abbrev after : List Event
    after = after_call given station step history

    -- a link that was open has its number still
    number_kept : (handle : ℕ) (was : OpenLink) → link_at handle (facts_at given station history).links ≡ Some was
        → number_at station handle after ≡ number_at station handle history
    number_kept handle was is_open =
        link_by_own station step (notes_after (setup_at given station) (facts_at given station history) step) history handle
        ∙ ap (λ b. if b then (links_of history).last_of station else number_at station handle history)
        (opens_where_free (setup_at given station) (past_of station history) step handle was is_open)

    followed_with_it : (octets : List ℕ) (number : ℕ) → step ≡ PacketHeard octets → IsFollowed given after number
        → IsFollowed given (history ++ Called station (PacketHeard octets) ∷ []) number
    followed_with_it octets number is followed =
        subst (λ (s : Step). IsFollowed given (history ++ Called station s ∷ []) number) is
        (followed_before given (history ++ called ∷ []) notes number
        (subst (λ h. IsFollowed given h number) (sym (append_assoc history (called ∷ []) notes)) followed))

    own_failed : FailedAt given history station → FailedAt given after station
    own_failed kept handle link is_open followed failed =
        by (call_failed (setup_at given station) (facts_at given station history) step handle link
        (ap (λ (f : Facts). link_at handle f.links) (sym (own_facts given station step history)) ∙ is_open) failed)
      where
        followed_so : (was : OpenLink) → link_at handle (facts_at given station history).links ≡ Some was
            → IsFollowed given (after_call given station step history) (number_at station handle history)
        followed_so was was_open = subst (IsFollowed given (after_call given station step history)) (number_kept handle was was_open) followed

        later : (was : OpenLink) → link_at handle (facts_at given station history).links ≡ Some was → IsForgedTo history station handle
            → IsForgedTo (after_call given station step history) station handle
        later was was_open forged =
            still_forged given station handle history
            (Called station step ∷ map (Noted station) (notes_after (setup_at given station) (facts_at given station history) step))
            (number_kept handle was was_open) forged

        by : FailedBy (setup_at given station) (facts_at given station history) step handle → IsForgedTo (after_call given station step history) station handle
        by (WasFailed was was_open ended) =
            later was was_open
            (kept handle was was_open
            (followed_before given history
            (Called station step ∷ map (Noted station) (notes_after (setup_at given station) (facts_at given station history) step))
            (number_at station handle history) (followed_so was was_open)) ended)
        by (HeardForged octets was is was_open listens forged) =
            later was was_open
            (forged_before whole understood taken nth apart given are_two six history (of_run octets is).rest station octets (of_run octets is).at handle was was_open
            listens forged)
        by (HeardGood octets was is was_open listens good genuine ended) =
            absurd (let no = sym (good_stays whole opens_there understood taken nth apart given are_two six asks history (of_run octets is).rest station octets
            (of_run octets is).at on handle was was_open listens good
            (followed_with_it octets (number_at station handle history) is (followed_so was was_open)) genuine) ∙ ended in cc)

    call_fails : AllFailed given history → AllFailed given after
    call_fails kept one in_it = by (one == station) refl
      where
        by : (same : Bool) → (one == station) ≡ same → FailedAt given (after_call given station step history) one
        by true is =
            let same = eqb-true one station is in
            subst (FailedAt given (after_call given station step history)) (sym same) (own_failed (kept station on))
        by false differs =
            failed_same given one history (Called station step ∷ map (Noted station) (notes_after (setup_at given station) (facts_at given station history) step))
            (sees_other_call given one station step history (other_apart given are_two one station in_it on (differs_back one station differs))) (kept one in_it)

  -- what its host sends
  octets_fail : (station : ℕ) (octets : List ℕ) (history : List Event) → is_in station given.stations ≡ true → AllFailed given history
      → AllFailed given (after_octets given station octets history)
  octets_fail station [] history on kept = kept
  octets_fail station (octet ∷ octets) history on kept =
      octets_fail station octets (after_call given station (HostOctet octet) history) on
      (call_fails station (HostOctet octet) history on (λ heard is. absurd (cc)) kept)

  fed_same : (station one : ℕ) (octets : List ℕ) (history : List Event) → FailedAt given history one → FailedAt given (history ++ HostFed station octets ∷ []) one
  fed_same station one octets history kept handle link is_open followed failed =
      let event = HostFed station octets in
      let number = ap (λ (numbers : ℕ → ℕ). numbers handle) (numbers_event one history event refl) in
      still_forged given one handle history (event ∷ []) number
      (kept handle link (ap (λ past. link_at handle (facts_of (setup_at given one) past).links) (sym (flat_nothing (steps_in one) history event refl)) ∙ is_open)
      (followed_before given history (event ∷ []) (number_at one handle history) (subst (IsFollowed given (history ++ event ∷ [])) number followed)) failed)

  feed_fails : (station : ℕ) (octets : List ℕ) (history : List Event) → is_in station given.stations ≡ true → AllFailed given history
      → AllFailed given (after_feed given station octets history)
  feed_fails station [] history on kept = kept
  feed_fails station (octet ∷ octets) history on kept =
      octets_fail station (octet ∷ octets) (history ++ HostFed station (octet ∷ octets) ∷ []) on
      (λ one in_it. fed_same station one (octet ∷ octets) history (kept one in_it))

  -- what it hears in a phase
  heard_at : (place : Place) (station : ℕ) (history : List Event) (step : Step) → IsBelongingSoFar given place (after_call given station step history)
      → IsOfRun given station history step
  heard_at place station history step q = λ octets is.
      let front = front_at given place (after_call given station step history) q.front in
      let noted = map (Noted station) (notes_after (setup_at given station) (facts_at given station history) step) in record {
        rest = noted ++ front.rest;
        at = front.at ∙ append_assoc history (Called station step ∷ noted) front.rest
            ∙ ap (λ (s : Step). history ++ Called station s ∷ (noted ++ front.rest)) is;
      }

  -- ---- each step

  record IsFailing (place : Place) (history : List Event) : Type 0 where
    is : IsBelongingSoFar given place history
    kept : AllFailed given history

  failing_kept : IsKeptInRun given IsFailing
  failing_kept =
      let q = belonging_kept understood taken given are_two six in record {
        on_turn = λ slot plan history begun at has.
            let radios = map plan.radio_of given.stations in record {
              is = q.on_turn slot plan history begun at has.is;
              kept = λ one in_it. failed_same given one history (TurnBegan slot radios ∷ []) (sees_turn one history slot radios) (has.kept one in_it);
            };
        on_feed = λ plan done left station history are some now has. record {
          is = q.on_feed plan done left station history are some now has.is;
          kept = feed_fails station (take (plan.feed_of station) (octets_left given station history)) history (among given.stations done left station are) has.kept;
        };
        on_fed = λ history has. record { is = q.on_fed history has.is; kept = has.kept };
        on_begin = λ slot plan done left station history are due has. record {
          is = q.on_begin slot plan done left station history are due has.is;
          kept = call_fails station (TurnBegins slot (plan.radio_of station)) history (among given.stations done left station are) (λ heard is. absurd (cc)) has.kept;
        };
        on_begun = λ history has. record { is = q.on_begun history has.is; kept = has.kept };
        on_phase = λ phases history few has. record { is = q.on_phase phases history few has.is; kept = has.kept };
        on_silence = λ phases done left station history are none has.
            record { is = q.on_silence phases done left station history are none has.is; kept = has.kept };
        on_packet = λ phases plan done left station channel octets history are some due has.
            let hearings = hearings_of given plan.fates station channel octets history in record {
              is = q.on_packet phases plan done left station channel octets history are some due has.is;
              kept = λ one in_it. failed_same given one history (Transmitted station channel octets hearings ∷ [])
                  (sees_packet one history station channel octets hearings) (has.kept one in_it);
            };
        on_air = λ phases history has. record { is = q.on_air phases history has.is; kept = has.kept };
        on_hearing = λ phases done left station history are some has.
            let next = q.on_hearing phases done left station history are some has.is in
            let step = step_of (packet_received station history) in record {
              is = next;
              kept = call_fails station step history (among given.stations done left station are)
                  (heard_at (AtListening phases (done ++ station ∷ []) left) station history step next) has.kept;
            };
        on_heard = λ phases history has. record { is = q.on_heard phases history has.is; kept = has.kept };
        on_phases = λ history has. record { is = q.on_phases history has.is; kept = has.kept };
        on_end = λ done left station history are some has. record {
          is = q.on_end done left station history are some has.is;
          kept = call_fails station TurnEnds history (among given.stations done left station are) (λ heard is. absurd (cc)) has.kept;
        };
        on_ended = λ history has. record { is = q.on_ended history has.is; kept = has.kept };
      }

  first_failing : IsFailing NoTurn []
  unfolding facts_of
  first_failing = record {
    is = belonging_first given;
    kept = λ station in_it handle link is_open followed failed.
        open_has (λ (l : OpenLink). IsForgedTo [] station handle) 0 handle _ link
        (none_open (λ (l : OpenLink). IsForgedTo [] station handle) (setup_at given station).links) is_open;
  }

  -- before the end of a turn
  abbrev FailedBefore : List Event → ℕ → Step → Type 0
  FailedBefore history station TurnEnds = AllFailed given history
  FailedBefore history station (HostOctet octet) = ⊤
  FailedBefore history station (TurnBegins slot radio) = ⊤
  FailedBefore history station (PacketHeard octets) = ⊤
  FailedBefore history station NothingHeard = ⊤

  none_passes : (history : List Event) (station : ℕ) (received : Option (List ℕ)) → FailedBefore history station (step_of received)
  none_passes history station None = tt
  none_passes history station (Some octets) = tt

  have_failed : HaveCalls given FailedBefore IsFailing
  have_failed = record {
    feeds = λ station octet history. tt;
    begins = λ plan slot done left station history are is next. tt;
    passes = λ phases done left station history are is next. none_passes history station (packet_received station history);
    ends = λ done left station history are is. is.kept;
  }

  pub failed_before_end : (before rest : List Event) (station : ℕ) → history_of (run_of given) ≡ before ++ Called station TurnEnds ∷ rest → AllFailed given before
  failed_before_end before rest station at =
      each_at (OfCall given FailedBefore) (history_of (run_of given)) before rest (Called station TurnEnds)
      (run_calls given FailedBefore IsFailing failing_kept have_failed first_failing) at
