-- At any time of a run of two stations, each open end of a link that is followed keeps the rules of its link.
use Rattle.std.proofs.Common.{◌≡◌, ℕ, ◌==◌, Bool, true, false, Option, Some, None, List, [], ◌∷◌, ◌++◌, append_assoc, map, take, refl, sym, ap, subst, ◌∙◌, if◌then◌else◌}
use Rattle.std.specs.Prelude.{⊤}
use Rattle.std.proofs.lemmas.Bool.{eqb-true}
use Rattle.ble_base.specs.declared.verdicts.Verdict.TheVariants.{Forged, Good}
use Rattle.controller_model.specs.Facts.{Facts}
use Rattle.controller_model.specs.Side.{facts_after, facts_of, notes_after}
use Rattle.controller_model.specs.Step.{HostOctet, NothingHeard, PacketHeard, Step, TurnBegins, TurnEnds}
use Rattle.link_calls.specs.Uses.{listens_under}
use Rattle.link_calls.specs.link_model.Packets.{verdict_of}
use Rattle.link_calls.specs.open_links.OpenLinks.{OpenLink, facts_in, link_at}
use Rattle.link_calls.specs.run_model.Feeding.{AreDistinct}
use Rattle.link_calls.specs.run_model.History.{Called, Event, HostFed, Noted, TurnBegan, Transmitted, packet_received, past_of, steps_in}
use Rattle.link_calls.specs.run_model.LinkEnds.{HaveAddresses}
use Rattle.link_calls.specs.run_model.Links.{links_of}
use Rattle.link_calls.specs.run_model.Run.{Given, after_call, after_feed, after_octets, facts_at, hearings_of, history_of, octets_left, run_of, setup_at, step_of}
use Rattle.link_calls.proofs.link_model.Hearing.{IsHeardWhole}
use Rattle.link_calls.proofs.run_laws.DistinctAccess.{AreApart}
use Rattle.link_calls.proofs.run_laws.Hearings.{own_facts}
use Rattle.link_calls.proofs.run_laws.OpenSteps.{none_open, open_has}
use Rattle.link_calls.proofs.run_model.Calls.{flat_nothing}
use Rattle.link_calls.proofs.run_model.Fronts.{front_at}
use Rattle.link_calls.proofs.run_model.LinkEnds.{AreTaken, IsUnderstood}
use Rattle.link_calls.proofs.run_model.LinksKnown.{link_by_own}
use Rattle.link_calls.proofs.run_model.Places.{each_at}
use Rattle.link_calls.proofs.run_model.Stations.{is_in, among}
use Rattle.link_calls.proofs.run_model.Walk.{AtListening, IsKept as IsKeptInRun, NoTurn, Place}
use Rattle.journal_indications.proofs.FarEnds.{IsFarAt, far_first, far_kept}
use Rattle.journal_indications.proofs.journal_data.Followed.{IsFollowed, followed_before}
use Rattle.journal_indications.proofs.journal_data.KeptData.{other_in}
use Rattle.journal_indications.proofs.journal_data.Mine.{AreMine}
use Rattle.journal_indications.proofs.journal_data.Openness.{opens_where_free}
use Rattle.journal_indications.proofs.journal_data.SameView.{SeesSame, same_facts, sees_other_call, sees_packet, sees_turn}
use Rattle.journal_indications.proofs.journal_data.StationLines.{numbers_event}
use Rattle.journal_indications.proofs.journal_data.journal_acks.EachCall.{HaveCalls, OfCall, run_calls}
use Rattle.journal_indications.proofs.journal_data.journal_acks.Exchanging.{number_at}
use Rattle.journal_indications.proofs.journal_data.journal_acks.HandedOn.{judged_link}
use Rattle.journal_indications.proofs.journal_data.journal_acks.Known.{known_of}
use Rattle.journal_indications.proofs.journal_data.journal_acks.TwoStations.{IsOfTwo, other_apart, other_of}
use Rattle.journal_indications.proofs.journal_data.journal_links.OfTwo.{are_distinct}
use Rattle.journal_indications.proofs.journal_data.journal_packets.AccessOrder.{AreNth}
use Rattle.journal_indications.proofs.journal_data.journal_packets.SoFar.{IsBelongingSoFar}
use Rattle.journal_indications.proofs.journal_data.run_laws.InAgreement.{differs_back}
use Rattle.journal_endings.proofs.CallsKeep.{HearsIn, IsKept, IsSound, call_kept}
use Rattle.journal_endings.proofs.PairedEnds.{LateAlone, ReadUnmixed, sound_now}

-- each open end does whose link is followed
abbrev pub AllKept : Given → List Event → Type 0
AllKept given history =
    (station : ℕ) → is_in station given.stations ≡ true → (handle : ℕ) (link : OpenLink)
    → link_at handle (facts_at given station history).links ≡ Some link → IsFollowed given history (number_at station handle history) → IsKept link

-- ---- what is no call of a station

abbrev KeptAt : Given → List Event → ℕ → Type 0
KeptAt given history station =
    (handle : ℕ) (link : OpenLink) → link_at handle (facts_at given station history).links ≡ Some link
    → IsFollowed given history (number_at station handle history) → IsKept link

kept_same : (given : Given) (station : ℕ) (history more : List Event) → SeesSame station history (history ++ more) → KeptAt given history station
    → KeptAt given (history ++ more) station
kept_same given station history more same kept handle link is_open followed =
    kept handle link (ap (λ (f : Facts). link_at handle f.links) (sym (same_facts given station history (history ++ more) same)) ∙ is_open)
    (followed_before given history more (number_at station handle history)
    (subst (IsFollowed given (history ++ more)) (ap (λ (numbers : ℕ → ℕ). numbers handle) same.number) followed))

-- ---- a call

module _ (heard_whole : IsHeardWhole) (understood : IsUnderstood) (taken : AreTaken) (apart : AreApart) (given : Given) (are_two : IsOfTwo given)
    (six : HaveAddresses given) (late : LateAlone given) (read : ReadUnmixed given) where
  distinct : AreDistinct given.stations
  distinct = are_distinct given are_two

  module _ (station : ℕ) (step : Step) (history : List Event) (on : is_in station given.stations ≡ true) where
    abbrev after : List Event
    after = after_call given station step history

    abbrev called : Event
    called = Called station step

    abbrev notes : List Event
    notes = map (Noted station) (notes_after (setup_at given station) (facts_at given station history) step)

    -- a link that was open has its number still
    number_kept : (handle : ℕ) (was : OpenLink) → link_at handle (facts_at given station history).links ≡ Some was
        → number_at station handle after ≡ number_at station handle history
    number_kept handle was is_open =
        link_by_own station step (notes_after (setup_at given station) (facts_at given station history) step) history handle
        ∙ ap (λ b. if b then (links_of history).last_of station else number_at station handle history)
        (opens_where_free (setup_at given station) (past_of station history) step handle was is_open)

    followed_before_it : (number : ℕ) → IsFollowed given after number → IsFollowed given history number
    followed_before_it number = followed_before given history (called ∷ notes) number

    followed_with_it : (number : ℕ) → IsFollowed given after number → IsFollowed given (history ++ called ∷ []) number
    followed_with_it number followed =
        followed_before given (history ++ called ∷ []) notes number
        (subst (λ h. IsFollowed given h number) (sym (append_assoc history (called ∷ []) notes)) followed)

    -- what a link under a handle hears is sound
    abbrev Hears : Type 0
    Hears = (handle : ℕ) → IsFollowed given after (number_at station handle after)
        → HearsIn (setup_at given station) (facts_at given station history) step handle

    own_kept : Hears → KeptAt given history station → KeptAt given after station
    own_kept hears kept handle link is_open followed =
        call_kept (setup_at given station) (facts_at given station history) step handle (hears handle followed)
        (λ was at. kept handle was at (followed_before_it (number_at station handle history) (subst (IsFollowed given after) (number_kept handle was at) followed)))
        link (ap (λ (f : Facts). link_at handle f.links) (sym (own_facts given station step history)) ∙ is_open)

    call_keeps : Hears → AllKept given history → AllKept given after
    call_keeps hears kept one in_it = by (one == station) refl
      where
        by : (same : Bool) → (one == station) ≡ same → KeptAt given (after_call given station step history) one
        by true is =
            let same = eqb-true one station is in
            subst (KeptAt given (after_call given station step history)) (sym same) (own_kept hears (kept station on))
        by false differs =
            kept_same given one history (Called station step ∷ map (Noted station) (notes_after (setup_at given station) (facts_at given station history) step))
            (sees_other_call given one station step history (other_apart given are_two one station in_it on (differs_back one station differs))) (kept one in_it)

  -- what a station hears in a phase
  module _ (station : ℕ) (history : List Event) (on : is_in station given.stations ≡ true) (place : Place) (received : Option (List ℕ))
      (got : packet_received station history ≡ received) (mine : AreMine given history)
      (q : IsBelongingSoFar given place (after_call given station (step_of received) history)) (kept : AllKept given history) where
    hears_by : (may : Option (List ℕ)) → received ≡ may → Hears station (step_of may) history on
    hears_by None is = λ handle followed. tt
    hears_by (Some octets) is = λ handle followed heard link now same is_open listens is_now setups good.
        let equal = same_octets octets heard same in
        subst (λ xs. IsSound (facts_at given station history) xs link now) equal
        (sound_in handle octets link now is_open listens is_now setups (subst (λ xs. verdict_of link.setup (facts_in link) xs ≡ Good) (sym equal) good) is followed)
      where
        same_octets : (one other : List ℕ) → Some one ≡ Some other → one ≡ other
        same_octets one other same = cc

        good_not : Good ≡ Forged → ⊥
        good_not is = absurd cc

        sound_in : (handle : ℕ) (octets : List ℕ) (link now : OpenLink) → link_at handle (facts_at given station history).links ≡ Some link
            → listens_under handle (facts_at given station history).turn.doing ≡ true
            → link_at handle (facts_after (setup_at given station) (facts_at given station history) (PacketHeard octets)).links ≡ Some now
            → now.setup ≡ link.setup → verdict_of link.setup (facts_in link) octets ≡ Good → received ≡ Some octets
            → IsFollowed given (after_call given station (PacketHeard octets) history)
            (number_at station handle (after_call given station (PacketHeard octets) history))
            → IsSound (facts_at given station history) octets link now
        sound_in handle octets link now is_open listens is_now setups good is followed =
            let step = PacketHeard octets in
            let far = mine station on handle (record {
              octets = octets;
              received = got ∙ is;
              link = link;
              is_open = is_open;
              listens = listens;
              unforged = λ forged. good_not (sym good ∙ sym (judged_link (facts_at given station history) handle link octets listens is_open) ∙ forged);
            }) in
            let front = front_at given place (after_call given station (step_of received) history) q.front in
            let at = front.at ∙ ap (λ (may : Option (List ℕ)). after_call given station (step_of may) history ++ front.rest) is
            ∙ append_assoc history (Called station step ∷ map (Noted station) (notes_after (setup_at given station) (facts_at given station history) step)) front.rest in
            let number = number_kept station step history on handle link is_open in
            let still = subst (IsFollowed given (after_call given station step history)) number followed in
            sound_now heard_whole understood taken apart given are_two six late read history
            (map (Noted station) (notes_after (setup_at given station) (facts_at given station history) step) ++ front.rest) station octets at on handle link is_open listens
            good far (followed_with_it station step history on (number_at station handle history) still) now setups is_now
            (kept (other_of station) (other_in given are_two station on) far.far_handle far.far far.is_open
            (subst (IsFollowed given history) (sym far.same) (followed_before_it station step history on (number_at station handle history) still)))

    phase_keeps : AllKept given (after_call given station (step_of received) history)
    phase_keeps = call_keeps station (step_of received) history on (hears_by received refl) kept

  -- what its host sends
  octets_keep : (station : ℕ) (octets : List ℕ) (history : List Event) → is_in station given.stations ≡ true → AllKept given history
      → AllKept given (after_octets given station octets history)
  octets_keep station [] history on kept = kept
  octets_keep station (octet ∷ octets) history on kept =
      octets_keep station octets (after_call given station (HostOctet octet) history) on
      (call_keeps station (HostOctet octet) history on (λ handle followed. tt) kept)

  fed_same : (station one : ℕ) (octets : List ℕ) (history : List Event) → KeptAt given history one → KeptAt given (history ++ HostFed station octets ∷ []) one
  fed_same station one octets history kept handle link is_open followed =
      let event = HostFed station octets in
      kept handle link (ap (λ past. link_at handle (facts_of (setup_at given one) past).links) (sym (flat_nothing (steps_in one) history event refl)) ∙ is_open)
      (followed_before given history (event ∷ []) (number_at one handle history)
      (subst (IsFollowed given (history ++ event ∷ [])) (ap (λ (numbers : ℕ → ℕ). numbers handle) (numbers_event one history event refl)) followed))

  feed_keeps : (station : ℕ) (octets : List ℕ) (history : List Event) → is_in station given.stations ≡ true → AllKept given history
      → AllKept given (after_feed given station octets history)
  feed_keeps station [] history on kept = kept
  feed_keeps station (octet ∷ octets) history on kept =
      octets_keep station (octet ∷ octets) (history ++ HostFed station (octet ∷ octets) ∷ []) on
      (λ one in_it. fed_same station one (octet ∷ octets) history (kept one in_it))

  -- ---- each step

  record IsRuled (place : Place) (history : List Event) : Type 0 where
    is : IsFarAt given (IsBelongingSoFar given) place history
    kept : AllKept given history

  module _ (nth : AreNth) where
    ruled_kept : IsKeptInRun given IsRuled
    ruled_kept =
        let Q = IsBelongingSoFar given in
        let far = far_kept heard_whole given Q (known_of understood taken nth apart given are_two six) are_two six distinct in record {
          on_turn = λ slot plan history begun at has.
              let radios = map plan.radio_of given.stations in record {
                is = far.on_turn slot plan history begun at has.is;
                kept = λ one in_it. kept_same given one history (TurnBegan slot radios ∷ []) (sees_turn one history slot radios) (has.kept one in_it);
              };
          on_feed = λ plan done left station history are some now has. record {
            is = far.on_feed plan done left station history are some now has.is;
            kept = feed_keeps station (take (plan.feed_of station) (octets_left given station history)) history (among given.stations done left station are) has.kept;
          };
          on_fed = λ history has. record { is = far.on_fed history has.is; kept = has.kept };
          on_begin = λ slot plan done left station history are due has. record {
            is = far.on_begin slot plan done left station history are due has.is;
            kept = call_keeps station (TurnBegins slot (plan.radio_of station)) history (among given.stations done left station are) (λ handle followed. tt) has.kept;
          };
          on_begun = λ history has. record { is = far.on_begun history has.is; kept = has.kept };
          on_phase = λ phases history few has. record { is = far.on_phase phases history few has.is; kept = has.kept };
          on_silence = λ phases done left station history are none has.
              record { is = far.on_silence phases done left station history are none has.is; kept = has.kept };
          on_packet = λ phases plan done left station channel octets history are some due has.
              let hearings = hearings_of given plan.fates station channel octets history in record {
                is = far.on_packet phases plan done left station channel octets history are some due has.is;
                kept = λ one in_it. kept_same given one history (Transmitted station channel octets hearings ∷ [])
                    (sees_packet one history station channel octets hearings) (has.kept one in_it);
              };
          on_air = λ phases history has. record { is = far.on_air phases history has.is; kept = has.kept };
          on_hearing = λ phases done left station history are some has.
              let next = far.on_hearing phases done left station history are some has.is in record {
                is = next;
                kept = phase_keeps station history (among given.stations done left station are) (AtListening phases (done ++ station ∷ []) left)
                    (packet_received station history) refl has.is.mine next.counted.known has.kept;
              };
          on_heard = λ phases history has. record { is = far.on_heard phases history has.is; kept = has.kept };
          on_phases = λ history has. record { is = far.on_phases history has.is; kept = has.kept };
          on_end = λ done left station history are some has. record {
            is = far.on_end done left station history are some has.is;
            kept = call_keeps station TurnEnds history (among given.stations done left station are) (λ handle followed. tt) has.kept;
          };
          on_ended = λ history has. record { is = far.on_ended history has.is; kept = has.kept };
        }

    first_ruled : IsRuled NoTurn []
    unfolding facts_of
    first_ruled = record {
      is = far_first given;
      kept = λ station in_it handle link is_open followed. open_has IsKept 0 handle _ link (none_open IsKept (setup_at given station).links) is_open;
    }

    -- before the end of a turn
    abbrev pub KeptBefore : List Event → ℕ → Step → Type 0
    KeptBefore history station TurnEnds = AllKept given history
    KeptBefore history station (HostOctet octet) = ⊤
    KeptBefore history station (TurnBegins slot radio) = ⊤
    KeptBefore history station (PacketHeard octets) = ⊤
    KeptBefore history station NothingHeard = ⊤

    none_passes : (history : List Event) (station : ℕ) (received : Option (List ℕ)) → KeptBefore history station (step_of received)
    none_passes history station None = tt
    none_passes history station (Some octets) = tt

    have_kept : HaveCalls given KeptBefore IsRuled
    have_kept = record {
      feeds = λ station octet history. tt;
      begins = λ plan slot done left station history are is next. tt;
      passes = λ phases done left station history are is next. none_passes history station (packet_received station history);
      ends = λ done left station history are is. is.kept;
    }

    pub kept_before_end : (before rest : List Event) (station : ℕ) → history_of (run_of given) ≡ before ++ Called station TurnEnds ∷ rest → AllKept given before
    kept_before_end before rest station at =
        each_at (OfCall given KeptBefore) (history_of (run_of given)) before rest (Called station TurnEnds)
        (run_calls given KeptBefore IsRuled ruled_kept have_kept first_ruled) at
