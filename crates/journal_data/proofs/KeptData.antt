-- Each step of a run of a pair keeps what is known of the lines of each side.
use Rattle.std.proofs.Common.{◌≡◌, ℕ, ◌-◌, ◌==◌, ◌⊎◌, inl, inr, Bool, true, false, Option, Some, None, List, [], ◌∷◌, ◌++◌, refl, sym, ap, subst, ◌∙◌, append-nil, append_assoc}
use Rattle.std.specs.Prelude.{map, take}
use Rattle.std.proofs.lemmas.Bool.{eqb-true}
use Rattle.ble_base.specs.declared.notes.Note.TheVariants.{Opened}
use Rattle.journal_acks.proofs.link_model.Hearing.{IsHeardWhole}
use Rattle.journal_acks.specs.controller_model.Between.{is_between_turns}
use Rattle.journal_acks.specs.controller_model.Side.{notes_after}
use Rattle.journal_acks.specs.controller_model.Step.{Step, TurnBegins, PacketHeard, NothingHeard, TurnEnds}
use Rattle.journal_acks.proofs.controller_model.Always.{IsInTurn}
use Rattle.journal_acks.specs.run_model.Feeding.{AreDistinct}
use Rattle.journal_acks.specs.run_model.History.{Event, TurnBegan, Called, Noted, Transmitted, packet_received, past_of, turns_begun}
use Rattle.journal_acks.specs.run_model.Journal.{journal_of, side_of}
use Rattle.journal_acks.specs.run_model.LinkEnds.{HaveAddresses}
use Rattle.journal_acks.specs.run_model.Links.{links_of}
use Rattle.journal_acks.specs.run_model.Run.{Given, after_call, after_feed, facts_at, hearings_of, octets_left, setup_at, step_of}
use Rattle.journal_acks.proofs.run_model.Journals.{two}
use Rattle.journal_acks.proofs.run_model.LinksKnown.{last_by_call}
use Rattle.journal_acks.proofs.run_model.OpenedNotes.{is_opened}
use Rattle.journal_acks.proofs.run_model.Parts.{journal_event}
use Rattle.journal_acks.proofs.run_model.Stations.{is_in, among, not_before}
use Rattle.journal_acks.proofs.run_model.Walk.{Place, AtFeeds, AtBegins, AtListening, AtEnds, IsKept}
use Rattle.journal_acks.proofs.run_laws.InAgreement.{differs_back}
use Rattle.journal_acks.proofs.run_laws.TurnPlaces.{Between, at_stage}
use Rattle.journal_acks.specs.journal_links.LinkLines.{lines_of}
use Rattle.journal_acks.specs.journal_packets.Belonging.{is_side}
use Rattle.journal_acks.proofs.Counting.{AreKnown, HaveOwnNumbers, apart_numbers}
use Rattle.journal_acks.proofs.KeptCounts.{AreCountedAt, counts_kept}
use Rattle.journal_acks.proofs.TwoStations.{IsOfTwo, other_apart, other_of}
use Rattle.journal_data.proofs.ClearLines.{IsClearOn, clear_lines, opened_is_first}
use Rattle.journal_data.proofs.Credits.{AreFew, few_begin, few_end, few_pass}
use Rattle.journal_data.proofs.EachLine.{lines_at}
use Rattle.journal_data.proofs.Ends.{IsWell}
use Rattle.journal_data.proofs.FedInRuns.{between_standing}
use Rattle.journal_data.proofs.FeedSide.{feed_well}
use Rattle.journal_data.proofs.Mine.{AreMine, packet_mine}
use Rattle.journal_data.proofs.MineKept.{heard_none_mine, hearing_mine}
use Rattle.journal_data.proofs.EndCalls.{IsEndMade, end_well}
use Rattle.journal_data.proofs.OneCall.{IsCallMade, well_after}
use Rattle.journal_data.proofs.Openness.{past_noted}
use Rattle.journal_data.proofs.FewLinks.{HaveFewLinks}
use Rattle.journal_data.proofs.SameView.{SeesSame, same_well, sees_other_call, sees_other_feed, sees_packet, sees_turn}

-- what is known of the lines of all stations
pub record AreWell (given : Given) (history : List Event) : Type 0 where
  pub well : (station : ℕ) → is_in station given.stations ≡ true → IsWell given station history

pub record IsDataAt (given : Given) (Q : Place → List Event → Type 0) (place : Place) (history : List Event) : Type 0 where
  pub counted : AreCountedAt given Q place history
  pub mine : AreMine given history
  pub are : AreWell given history

-- ---- events that are of no call

all_same : (given : Given) (history after : List Event) → ((station : ℕ) → SeesSame station history after) → AreWell given history → AreWell given after
all_same given history after sees are = record {
  well = λ station is. same_well given station history after (sees station) (are.well station is);
}

-- ---- a change of one station

abbrev pub IsBetween : Given → ℕ → List Event → Type 0
IsBetween given station history = is_between_turns (past_of station history) ≡ true

module _ (given : Given) (are_two : IsOfTwo given) where
  pub other_in : (station : ℕ) → is_in station given.stations ≡ true → is_in (other_of station) given.stations ≡ true
  other_in station is = ap (is_in (other_of station)) are_two ∙ by (two station (ap (is_in station) (sym are_two) ∙ is))
    where
      by : (station ≡ 0) ⊎ (station ≡ 1) → is_in (other_of station) (0 ∷ 1 ∷ []) ≡ true
      by (inl zero_is) = ap (λ n. is_in (other_of n) (0 ∷ 1 ∷ [])) zero_is
      by (inr one_is) = ap (λ n. is_in (other_of n) (0 ∷ 1 ∷ [])) one_is

  own_all : (station : ℕ) (history after : List Event) → is_in station given.stations ≡ true
      → ((one : ℕ) → is_side (side_of station) (side_of one) ≡ false → SeesSame one history after)
      → IsWell given station after → AreWell given history → AreWell given after
  own_all station history after is sees own are = record { well = λ one in_it. well_by one in_it (one == station) refl }
    where
      apart : (one : ℕ) → is_in one given.stations ≡ true → (one == station) ≡ false → is_side (side_of station) (side_of one) ≡ false
      apart one in_it differs = other_apart given are_two one station in_it is (differs_back one station differs)

      well_by : (one : ℕ) → is_in one given.stations ≡ true → (same : Bool) → (one == station) ≡ same → IsWell given one after
      well_by one in_it true same = subst (λ n. IsWell given n after) (sym (eqb-true one station same)) own
      well_by one in_it false differs = same_well given one history after (sees one (apart one in_it differs)) (are.well one in_it)

-- the open links of a station have numbers of their own
pub own_numbers : (given : Given) (Q : Place → List Event → Type 0) → AreKnown given Q → (place : Place) (history : List Event) (station : ℕ)
    → is_in station given.stations ≡ true → Q place history → HaveOwnNumbers given station history
own_numbers given Q known place history station is q one other a b at at_too differs =
    apart_numbers given Q known place history q station one other a b is at at_too differs

pub pass_in_turn : (received : Option (List ℕ)) → IsInTurn (step_of received)
pass_in_turn None = tt
pass_in_turn (Some octets) = tt

-- and it is not the end of the turn
pub pass_goes_on : (received : Option (List ℕ)) → step_of received ≡ TurnEnds → ⊥
pass_goes_on None is = let h : NothingHeard ≡ TurnEnds = is in absurd cc
pass_goes_on (Some octets) is = let h : PacketHeard octets ≡ TurnEnds = is in absurd cc

pub begin_goes_on : (slot : ℕ) (on : Bool) → TurnBegins slot on ≡ TurnEnds → ⊥
begin_goes_on slot on is = absurd cc

-- ---- each step

module _ (whole : IsHeardWhole) (given : Given) (Q : Place → List Event → Type 0) (known : AreKnown given Q) (are_two : IsOfTwo given) (few_links : HaveFewLinks given)
    (six : HaveAddresses given) (distinct : AreDistinct given.stations) (eight : (station : ℕ) → (setup_at given station).host_buffers ≡ 8) where
  abbrev C : Place → List Event → Type 0
  C place history = AreCountedAt given Q place history

  -- a link that is opened has no line of its side before, so nothing is said of it
  opened_clear : (station : ℕ) (step : Step) (history : List Event) (place : Place) → is_in station given.stations ≡ true → C place (after_call given station step history) → (handle : ℕ)
      → is_opened handle (notes_after (setup_at given station) (facts_at given station history) step) ≡ true → IsClearOn ((links_of history).last_of station) (lines_at station history)
  opened_clear station step history place is counted handle opened =
      let setup = setup_at given station in
      let called = history ++ Called station step ∷ [] in
      let side = side_of station in
      let first = opened_is_first handle _ _ (notes_after setup (facts_at given station history) step) (past_noted setup (past_of station history) step) opened in
      let at = ap (λ notes. history ++ Called station step ∷ map (Noted station) notes) first.is
      ∙ sym (append_assoc history (Called station step ∷ []) (map (Noted station) (Opened first.handle first.role first.own first.peer ∷ first.rest))) in
      clear_lines ((links_of history).last_of station) side (journal_of history)
      (sym (λ i. lines_of side (last_by_call station step [] history station i) ((journal_event history (Called station step) ∙ append-nil (journal_of history)) i))
      ∙ known.fresh place (after_call given station step history) counted.known station first.handle first.role first.own first.peer called (map (Noted station) first.rest) is at)

  -- what is known as a call is made
  pub call_made : (station : ℕ) (step : Step) (history : List Event) (before place : Place) → is_in station given.stations ≡ true → IsInTurn step
      → (step ≡ TurnEnds → ⊥) → C before history → C place (after_call given station step history)
      → (AreFew given station history → AreFew given station (after_call given station step history))
      → AreWell given history → IsCallMade given station step history
  call_made station step history before place is in_turn goes_on was counted few are =
      record {
        well = are.well station is;
        clear = opened_clear station step history place is counted;
        own = own_numbers given Q known before history station is was.known;
        own_after = own_numbers given Q known place (after_call given station step history) station is counted.known;
        few = few (are.well station is).few;
        in_turn = in_turn;
        goes_on = goes_on;
      }

  call_well : (station : ℕ) (step : Step) (history : List Event) → is_in station given.stations ≡ true → IsCallMade given station step history
      → AreWell given history → AreWell given (after_call given station step history)
  call_well station step history is made are =
      own_all given are_two station history (after_call given station step history) is (λ one differs. sees_other_call given one station step history differs)
      (well_after given few_links.links eight station step history made) are

  pub end_made : (station : ℕ) (history : List Event) (before place : Place) → is_in station given.stations ≡ true → C before history
      → C place (after_call given station TurnEnds history) → AreWell given history → IsEndMade given station history
  end_made station history before place is was counted are =
      record {
        well = are.well station is;
        clear = opened_clear station TurnEnds history place is counted;
        own = own_numbers given Q known before history station is was.known;
        own_after = own_numbers given Q known place (after_call given station TurnEnds history) station is counted.known;
        few = few_end given station history (are.well station is).few;
      }

  end_well_kept : (station : ℕ) (history : List Event) → is_in station given.stations ≡ true → IsEndMade given station history
      → AreWell given history → AreWell given (after_call given station TurnEnds history)
  end_well_kept station history is made are =
      own_all given are_two station history (after_call given station TurnEnds history) is
      (λ one differs. sees_other_call given one station TurnEnds history differs) (end_well given few_links.links eight station history made) are

  feed_kept : (station : ℕ) (octets : List ℕ) (history : List Event) (place : Place) → is_in station given.stations ≡ true → C place history → IsBetween given station history
      → AreWell given history → AreWell given (after_feed given station octets history)
  feed_kept station octets history place is counted between are =
      own_all given are_two station history (after_feed given station octets history) is (λ one differs. sees_other_feed given one station octets history differs)
      (feed_well given few_links.links eight station octets history (own_numbers given Q known place history station is counted.known) (are.well station is) between) are

  pub data_kept : IsKept given (IsDataAt given Q)
  data_kept = let kept = counts_kept whole given Q known are_two six distinct in record {
    on_turn = λ slot plan history begun at is.
        let radios = map plan.radio_of given.stations in
        let after = history ++ TurnBegan slot radios ∷ [] in
        let counted = kept.on_turn slot plan history begun at is.counted in record {
          counted = counted;
          mine = heard_none_mine given after counted.holds.hearing.hears;
          are = all_same given history after (λ station. sees_turn station history slot radios) is.are;
        };
    on_feed = λ plan done left station history are some now is.
        let octets = take (plan.feed_of station) (octets_left given station history) in
        let counted = kept.on_feed plan done left station history are some now is.counted in
        let in_it = among given.stations done left station are in
        let place = AtFeeds done (station ∷ left) in
        let stand = is.counted.holds.hearing.stand in record {
          counted = counted;
          mine = heard_none_mine given (after_feed given station octets history) counted.holds.hearing.hears;
          are = feed_kept station octets history place in_it is.counted (between_standing (past_of station history) (at_stage Between (turns_begun history - 1)) (stand station in_it)) is.are;
        };
    on_fed = λ history is. record { counted = kept.on_fed history is.counted; mine = is.mine; are = is.are };
    on_begin = λ slot plan done left station history are due is.
        let on = plan.radio_of station in
        let step = TurnBegins slot on in
        let after = after_call given station step history in
        let place = AtBegins (done ++ station ∷ []) left in
        let counted = kept.on_begin slot plan done left station history are due is.counted in
        let in_it = among given.stations done left station are in
        record {
          counted = counted;
          mine = heard_none_mine given after counted.holds.hearing.hears;
          are = call_well station step history in_it
              (call_made station step history (AtBegins done (station ∷ left)) place in_it tt (begin_goes_on slot on) is.counted counted (few_begin given station slot on history)
              is.are) is.are;
        };
    on_begun = λ history is. record { counted = kept.on_begun history is.counted; mine = is.mine; are = is.are };
    on_phase = λ phases history few is. record { counted = kept.on_phase phases history few is.counted; mine = is.mine; are = is.are };
    on_silence = λ phases done left station history are none is.
        record { counted = kept.on_silence phases done left station history are none is.counted; mine = is.mine; are = is.are };
    on_packet = λ phases plan done left station channel octets history are some due is.
        let hearings = hearings_of given plan.fates station channel octets history in
        let in_it = among given.stations done left station are in
        let out = not_before given.stations done left station distinct are in record {
          counted = kept.on_packet phases plan done left station channel octets history are some due is.counted;
          mine = packet_mine whole given Q known are_two six distinct phases done left station channel octets plan.fates history are due.is_wanted is.counted.known is.counted.holds
              is.counted.counted due.is_seen (λ other is_other differs. is.counted.silent other station is_other in_it differs out) is.mine;
          are = all_same given history (history ++ Transmitted station channel octets hearings ∷ []) (λ one. sees_packet one history station channel octets hearings) is.are;
        };
    on_air = λ phases history is. record { counted = kept.on_air phases history is.counted; mine = is.mine; are = is.are };
    on_hearing = λ phases done left station history are some is.
        let received = packet_received station history in
        let step = step_of received in
        let after = after_call given station step history in
        let place = AtListening phases (done ++ station ∷ []) left in
        let counted = kept.on_hearing phases done left station history are some is.counted in
        let in_it = among given.stations done left station are in record {
          counted = counted;
          mine = hearing_mine given are_two station history in_it is.mine;
          are = call_well station step history in_it
              (call_made station step history (AtListening phases done (station ∷ left)) place in_it (pass_in_turn received) (pass_goes_on received) is.counted counted
              (few_pass given station received history) is.are) is.are;
        };
    on_heard = λ phases history is. record { counted = kept.on_heard phases history is.counted; mine = is.mine; are = is.are };
    on_phases = λ history is. record { counted = kept.on_phases history is.counted; mine = is.mine; are = is.are };
    on_end = λ done left station history are some is.
        let after = after_call given station TurnEnds history in
        let place = AtEnds (done ++ station ∷ []) left in
        let counted = kept.on_end done left station history are some is.counted in
        let in_it = among given.stations done left station are in
        record {
          counted = counted;
          mine = heard_none_mine given after counted.holds.hearing.hears;
          are = end_well_kept station history in_it (end_made station history (AtEnds done (station ∷ left)) place in_it is.counted counted is.are) is.are;
        };
    on_ended = λ history is. record { counted = kept.on_ended history is.counted; mine = is.mine; are = is.are };
  }
