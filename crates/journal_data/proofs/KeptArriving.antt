-- Each step of a run of two stations keeps that the data of each link that is followed arrives in order.
use Rattle.std.proofs.Common.{◌≡◌, ℕ, ◌==◌, Bool, true, false, List, ◌∷◌, ◌++◌, refl, sym, subst}
use Rattle.std.specs.Prelude.{map}
use Rattle.std.proofs.lemmas.Bool.{eqb-true}
use Rattle.journal_acks.specs.controller_model.Side.{notes_after}
use Rattle.journal_acks.specs.controller_model.Step.{Step, TurnEnds}
use Rattle.journal_acks.specs.run_model.History.{Event, Called, Noted}
use Rattle.journal_acks.specs.run_model.Run.{Given, after_call, after_feed, facts_at, setup_at}
use Rattle.journal_acks.proofs.run_model.Fronts.{feed_more, front_at}
use Rattle.journal_acks.proofs.run_model.Stations.{is_in}
use Rattle.journal_acks.proofs.run_model.Walk.{Place}
use Rattle.journal_acks.proofs.journal_packets.SoFar.{IsBelongingSoFar}
use Rattle.journal_acks.proofs.Counting.{HaveOwnNumbers}
use Rattle.journal_acks.proofs.TwoStations.{IsOfTwo, other_is, other_of}
use Rattle.journal_data.proofs.AgreedEnds.{agree_followed}
use Rattle.journal_data.proofs.EachLine.{lines_at}
use Rattle.journal_data.proofs.EndCalls.{IsEndMade, end_arriving}
use Rattle.journal_data.proofs.Ends.{end_at}
use Rattle.journal_data.proofs.FeedSide.{feed_arrives}
use Rattle.journal_data.proofs.FewLinks.{HaveFewLinks}
use Rattle.journal_data.proofs.Followed.{AgreeUnmixed, AgreeWhereFollowed, IsFollowed, followed_before}
use Rattle.journal_data.proofs.KeptData.{AreWell, IsBetween, other_in}
use Rattle.journal_data.proofs.Mine.{AreMine, other_back}
use Rattle.journal_data.proofs.OneCall.{EachAt, HasMoved, IsCallMade, arriving_after, far_side}
use Rattle.journal_data.proofs.SameView.{SeesSame, same_end, sees_other_feed}
use Rattle.journal_data.proofs.Sides.{AreArriving, IsStillFollowed, still_arriving}

abbrev IsArriving : Given → ℕ → ℕ → List Event → Type 0
IsArriving given station other history =
    AreArriving (IsFollowed given history) (lines_at station history) (lines_at other history) (end_at given station history) (end_at given other history)

-- from each station to the other and back
abbrev pub AreArrived : Given → List Event → Type 0
AreArrived given history = (station : ℕ) → is_in station given.stations ≡ true → IsArriving given station (other_of station) history

-- ---- events that are of no call

same_arriving : (given : Given) (station other : ℕ) (history more : List Event) → SeesSame station history (history ++ more)
    → SeesSame other history (history ++ more) → IsArriving given station other history → IsArriving given station other (history ++ more)
same_arriving given station other history more own far arriving =
    let after = history ++ more in
    let Followed = IsFollowed given after in
    subst (λ lines. AreArriving Followed lines (lines_at other after) (end_at given station after) (end_at given other after)) (sym own.lines)
    (subst (λ lines. AreArriving Followed (lines_at station history) lines (end_at given station after) (end_at given other after)) (sym far.lines)
    (subst (λ end. AreArriving Followed (lines_at station history) (lines_at other history) end (end_at given other after)) (sym (same_end given station history after own))
    (subst (AreArriving Followed (lines_at station history) (lines_at other history) (end_at given station history)) (sym (same_end given other history after far))
    (still_arriving (IsFollowed given history) Followed (followed_before given history more) (lines_at station history) (lines_at other history)
    (end_at given station history) (end_at given other history) arriving))))

pub arrived_same : (given : Given) (history more : List Event) → ((station : ℕ) → SeesSame station history (history ++ more)) → AreArrived given history
    → AreArrived given (history ++ more)
arrived_same given history more sees arrived = λ station is.
    same_arriving given station (other_of station) history more (sees station) (sees (other_of station)) (arrived station is)

-- ---- a change of one station

other_way : (given : Given) (station other : ℕ) (history : List Event) → IsArriving given station other history → IsArriving given other station history
other_way given station other history arriving =
    record { out = arriving.in_; in_ = arriving.out; ahead = arriving.behind; behind = arriving.ahead }

own_arrived : (given : Given) → IsOfTwo given → (station : ℕ) (after : List Event) → is_in station given.stations ≡ true
    → IsArriving given station (other_of station) after → AreArrived given after
own_arrived given are_two station after is own = λ one in_it. by one in_it (one == station) refl
  where
    by : (one : ℕ) → is_in one given.stations ≡ true → (same : Bool) → (one == station) ≡ same → IsArriving given one (other_of one) after
    by one in_it true same = subst (λ n. IsArriving given n (other_of n) after) (sym (eqb-true one station same)) own
    by one in_it false differs =
        subst (λ n. IsArriving given n (other_of n) after) (sym (other_is given are_two station one is in_it differs))
        (subst (λ n. IsArriving given (other_of station) n after) (sym (other_back given are_two station is))
        (other_way given station (other_of station) after own))

-- ---- calls and feeds

module _ (given : Given) (are_two : IsOfTwo given) (few_links : HaveFewLinks given) (eight : (station : ℕ) → (setup_at given station).host_buffers ≡ 8)
    (agree : AgreeUnmixed given) where
  -- both ends of a link that is followed are in agreement at each place
  agree_at : (place : Place) (history : List Event) → IsBelongingSoFar given place history → (station : ℕ) → is_in station given.stations ≡ true
      → AgreeWhereFollowed given (IsFollowed given history) station history
  agree_at place history q station is =
      let front = front_at given place history q.front in
      agree_followed given agree are_two history front.rest front.at q.numbered.numbered q.asked.sent station is

  pub call_arrived : (station : ℕ) (step : Step) (history : List Event) (place : Place) → is_in station given.stations ≡ true
      → IsCallMade given station step history → EachAt given station (after_call given station step history) (HasMoved given station history)
      → IsBelongingSoFar given place (after_call given station step history) → AreMine given history → AreWell given history
      → AreArrived given history → AreArrived given (after_call given station step history)
  call_arrived station step history place is made moved q mine are arrived =
      let after = after_call given station step history in
      let more = Called station step ∷ map (Noted station) (notes_after (setup_at given station) (facts_at given station history) step) in
      own_arrived given are_two station after is
      (arriving_after given few_links.links eight station step history made (IsFollowed given history) (IsFollowed given after) (record {
        still = followed_before given history more;
        far_well = are.well (other_of station) (other_in given are_two station is);
        arriving = arrived station is;
        mine = mine station is;
        agree = agree_at place after q station is;
        moved = moved;
      }))

  pub end_arrived : (station : ℕ) (history : List Event) (place : Place) → is_in station given.stations ≡ true → IsEndMade given station history
      → IsBelongingSoFar given place history → AreWell given history → AreArrived given history → AreArrived given (after_call given station TurnEnds history)
  end_arrived station history place is made q are arrived =
      let after = after_call given station TurnEnds history in
      let more = Called station TurnEnds ∷ map (Noted station) (notes_after (setup_at given station) (facts_at given station history) TurnEnds) in
      own_arrived given are_two station after is
      (end_arriving given few_links.links eight station history made (IsFollowed given history) (IsFollowed given after) (record {
        still = followed_before given history more;
        far_well = are.well (other_of station) (other_in given are_two station is);
        arriving = arrived station is;
        agree = agree_at place history q station is;
      }))

  pub feed_arrived : (station : ℕ) (octets : List ℕ) (history : List Event) → is_in station given.stations ≡ true → HaveOwnNumbers given station history
      → IsBetween given station history → AreWell given history → AreArrived given history → AreArrived given (after_feed given station octets history)
  feed_arrived station octets history is own between are arrived =
      let after = after_feed given station octets history in
      let other = other_of station in
      let far = sees_other_feed given other station octets history (far_side station) in
      let Followed = IsFollowed given after in
      own_arrived given are_two station after is
      (subst (λ lines. AreArriving Followed (lines_at station after) lines (end_at given station after) (end_at given other after)) (sym far.lines)
      (subst (AreArriving Followed (lines_at station after) (lines_at other history) (end_at given station after)) (sym (same_end given other history after far))
      (feed_arrives given few_links.links eight station octets history own (are.well station is) between (IsFollowed given history) Followed still
      (lines_at other history) (end_at given other history) (arrived station is))))
    where
      still : IsStillFollowed (IsFollowed given history) (IsFollowed given (after_feed given station octets history))
      still number now =
          let more = feed_more given station octets history in
          followed_before given history more.rest number (subst (λ h. IsFollowed given h number) more.is now)
