-- Where in a turn each controller of a run stands, by the calls on it.
use Rattle.std.proofs.Common.{◌≡◌, ℕ, suc, ◌+◌, ◌-◌, ◌==◌, Bool, true, false, List, [], ◌∷◌, ◌++◌, refl, sym, ap, subst, ◌∙◌, arith}
use Rattle.std.specs.Prelude.{fold, map, take, Option, Some, None, if◌then◌else◌}
use Rattle.std.proofs.lemmas.Bool.{eqb-true}
use Rattle.std.proofs.lemmas.Grind.{flat_map-append}
use Rattle.std.proofs.lemmas.List.Sums.{fold-append}
use Rattle.run_model.specs.controller_model.Step.{Step, HostOctet, TurnBegins, PacketHeard, NothingHeard, TurnEnds}
use Rattle.run_model.specs.controller_model.Facts.{Setup, Facts, first_facts}
use Rattle.run_model.specs.controller_model.Side.{facts_after, facts_of, notes_after}
use Rattle.run_model.specs.Feeding.{AreDistinct}
use Rattle.run_model.specs.History.{Event, TurnBegan, HostFed, Transmitted, past_of, steps_in, turns_begun, packet_received}
use Rattle.run_model.specs.Run.{Given, setup_at, facts_at, octets_left, after_call, after_octets, after_feed, hearings_of, step_of, run_of, history_of}
use Rattle.run_model.proofs.Calls.{flat_nothing, past_by, past_other, same_station, turns_called, turns_more, turns_same}
use Rattle.run_model.proofs.Stations.{is_in, in_more_other, in_more_same, not_before}
use Rattle.run_model.proofs.Walk.{Place, NoTurn, AtFeeds, AtBegins, AfterPhases, AtPackets, AtListening, AtEnds, IsKept, IsWhole, IsStopped, ends_with, run_kept, feed_turns}

-- between two turns, or in one after this number of its phases
pub data Stage : Type 0 where
  Between : Stage
  Within : (phases : ℕ) → Stage

pub record Standing : Type 0 where
  pub stage : Stage
  -- how many turns the controller began
  pub begun : ℕ

abbrev pub at_stage : Stage → ℕ → Standing
at_stage stage begun = record { stage = stage; begun = begun }

-- the calls that may be made, and where they lead
abbrev stage_after : Stage → ℕ → Step → Option Standing
stage_after Between begun (HostOctet octet) = Some (at_stage Between begun)
stage_after Between begun (TurnBegins slot on) = if slot == begun then Some (at_stage (Within 0) (begun + 1)) else None
stage_after (Within phases) begun (PacketHeard octets) = Some (at_stage (Within (suc phases)) begun)
stage_after (Within phases) begun NothingHeard = Some (at_stage (Within (suc phases)) begun)
stage_after (Within phases) begun TurnEnds = if phases == 3 then Some (at_stage Between begun) else None
stage_after stage begun step = None

abbrev stands_after : Option Standing → Step → Option Standing
stands_after None step = None
stands_after (Some at) step = stage_after at.stage at.begun step

abbrev pub standing : List Step → Option Standing
standing past = fold stands_after (Some (at_stage Between 0)) past

-- ---- what is kept from call to call

-- a fact of what a controller holds, where it stands so
pub record IsTurned (setup : Setup) (Q : Stage → ℕ → Facts → Type 0) : Type 0 where
  pub feeds : (begun octet : ℕ) (facts : Facts) → Q Between begun facts → Q Between begun (facts_after setup facts (HostOctet octet))
  pub begins : (begun : ℕ) (on : Bool) (facts : Facts) → Q Between begun facts → Q (Within 0) (begun + 1) (facts_after setup facts (TurnBegins begun on))
  pub passes : (phases begun : ℕ) (received : Option (List ℕ)) (facts : Facts) → Q (Within phases) begun facts
      → Q (Within (suc phases)) begun (facts_after setup facts (step_of received))
  pub ends : (begun : ℕ) (facts : Facts) → Q (Within 3) begun facts → Q Between begun (facts_after setup facts TurnEnds)

stands_none : (past : List Step) → fold stands_after None past ≡ None
stands_none [] = refl
stands_none (step ∷ past) = stands_none past

abbrev IsAt : (Q : Stage → ℕ → Facts → Type 0) (facts : Facts) → Option Standing → Type 0
IsAt Q facts None = Unit {0}
IsAt Q facts (Some at) = Q at.stage at.begun facts

module _ (setup : Setup) (Q : Stage → ℕ → Facts → Type 0) (kept : IsTurned setup Q) where
  begins_at : (same : Bool) (slot begun : ℕ) (on : Bool) (facts : Facts) → (slot == begun) ≡ same → Q Between begun facts
      → IsAt Q (facts_after setup facts (TurnBegins slot on)) (if same then Some (at_stage (Within 0) (begun + 1)) else None)
  begins_at true slot begun on facts is holds =
      subst (λ n. Q (Within 0) (begun + 1) (facts_after setup facts (TurnBegins n on))) (sym (eqb-true slot begun is)) (kept.begins begun on facts holds)
  begins_at false slot begun on facts is holds = tt

  ends_at : (same : Bool) (phases begun : ℕ) (facts : Facts) → (phases == 3) ≡ same → Q (Within phases) begun facts
      → IsAt Q (facts_after setup facts TurnEnds) (if same then Some (at_stage Between begun) else None)
  ends_at true phases begun facts is holds = kept.ends begun facts (subst (λ n. Q (Within n) begun facts) (eqb-true phases 3 is) holds)
  ends_at false phases begun facts is holds = tt

  step_at : (stage : Stage) (begun : ℕ) (facts : Facts) (step : Step) → Q stage begun facts → IsAt Q (facts_after setup facts step) (stage_after stage begun step)
  step_at Between begun facts (HostOctet octet) holds = kept.feeds begun octet facts holds
  step_at Between begun facts (TurnBegins slot on) holds = begins_at (slot == begun) slot begun on facts refl holds
  step_at Between begun facts (PacketHeard octets) holds = tt
  step_at Between begun facts NothingHeard holds = tt
  step_at Between begun facts TurnEnds holds = tt
  step_at (Within phases) begun facts (HostOctet octet) holds = tt
  step_at (Within phases) begun facts (TurnBegins slot on) holds = tt
  step_at (Within phases) begun facts (PacketHeard octets) holds = kept.passes phases begun (Some octets) facts holds
  step_at (Within phases) begun facts NothingHeard holds = kept.passes phases begun None facts holds
  step_at (Within phases) begun facts TurnEnds holds = ends_at (phases == 3) phases begun facts refl holds

  steps_at : (past : List Step) (may : Option Standing) (facts : Facts) → IsAt Q facts may → IsAt Q (fold (facts_after setup) facts past) (fold stands_after may past)
  steps_at [] may facts holds = holds
  steps_at (step ∷ past) None facts holds = steps_at past None (facts_after setup facts step) tt
  steps_at (step ∷ past) (Some at) facts holds =
      steps_at past (stage_after at.stage at.begun step) (facts_after setup facts step) (step_at at.stage at.begun facts step holds)

  pub turned : (past : List Step) (at : Standing) → Q Between 0 (first_facts setup) → standing past ≡ Some at → Q at.stage at.begun (facts_of setup past)
  unfolding facts_of
  turned past at first is =
      subst (IsAt Q (fold (facts_after setup) (first_facts setup) past)) is (steps_at past (Some (at_stage Between 0)) (first_facts setup) first)

  -- and from one place on to a later one
  pub turned_on : (past more : List Step) (at later : Standing) → standing past ≡ Some at → standing (past ++ more) ≡ Some later
      → Q at.stage at.begun (facts_of setup past) → Q later.stage later.begun (facts_of setup (past ++ more))
  unfolding facts_of
  turned_on past more at later is is_later holds =
      let facts = fold (facts_after setup) (first_facts setup) past in
      subst (λ after. Q later.stage later.begun after) (sym (fold-append (facts_after setup) (first_facts setup) past more))
      (subst (IsAt Q (fold (facts_after setup) facts more))
      (ap (λ may. fold stands_after may more) (sym is) ∙ sym (fold-append stands_after (Some (at_stage Between 0)) past more) ∙ is_later)
      (steps_at more (Some at) facts holds))

-- ---- one more call

more_stands : (past : List Step) (step : Step) (at : Standing) → standing past ≡ Some at → standing (past ++ step ∷ []) ≡ stage_after at.stage at.begun step
more_stands past step at is = fold-append stands_after (Some (at_stage Between 0)) past (step ∷ []) ∙ ap (λ may. stands_after may step) is

-- what comes before stands somewhere
pub record StandsSomewhere (past : List Step) : Type 0 where
  pub at : Standing
  pub is : standing past ≡ Some at

pub before_stands : (past more : List Step) (at : Standing) → standing (past ++ more) ≡ Some at → StandsSomewhere past
before_stands past more at is = by (standing past) refl
  where
    by : (may : Option Standing) → standing past ≡ may → StandsSomewhere past
    by None none = absurd (let h : None ≡ Some at = sym (fold-append stands_after (Some (at_stage Between 0)) past more
        ∙ ap (λ start. fold stands_after start more) none ∙ stands_none more) ∙ is in absurd cc)
    by (Some found) some = record { at = found; is = some }

-- ---- in a run

-- where a station stands at a place of the run, by the number of turns that began
abbrev pub stands_at : Place → ℕ → ℕ → Standing
stands_at NoTurn station turns = at_stage Between turns
stands_at (AtFeeds done left) station turns = at_stage Between (turns - 1)
stands_at (AtBegins done left) station turns = if is_in station done then at_stage (Within 0) turns else at_stage Between (turns - 1)
stands_at (AfterPhases phases) station turns = at_stage (Within phases) turns
stands_at (AtPackets phases done left) station turns = at_stage (Within phases) turns
stands_at (AtListening phases done left) station turns =
    if is_in station done then at_stage (Within (suc phases)) turns else at_stage (Within phases) turns
stands_at (AtEnds done left) station turns = if is_in station done then at_stage Between turns else at_stage (Within 3) turns

abbrev pub AllStand : Given → Place → List Event → Type 0
AllStand given place history =
    (station : ℕ) → is_in station given.stations ≡ true → standing (past_of station history) ≡ Some (stands_at place station (turns_begun history))

same_stands : (past after : List Step) (one other : Standing) → after ≡ past → one ≡ other → standing past ≡ Some one → standing after ≡ Some other
same_stands past after one other same at is = ap standing same ∙ is ∙ ap Some at

-- an octet of a host
octet_by : (given : Given) (station octet other begun : ℕ) (history : List Event) (same : Bool) → (other == station) ≡ same
    → standing (past_of other history) ≡ Some (at_stage Between begun)
    → standing (past_of other (after_call given station (HostOctet octet) history)) ≡ Some (at_stage Between begun)
octet_by given station octet other begun history true is stands =
    ap standing (past_by other station (HostOctet octet) (notes_after (setup_at given station) (facts_at given station history) (HostOctet octet)) history true is)
    ∙ more_stands (past_of other history) (HostOctet octet) (at_stage Between begun) stands
octet_by given station octet other begun history false is stands =
    ap standing (past_other other station (HostOctet octet) (notes_after (setup_at given station) (facts_at given station history) (HostOctet octet)) history is) ∙ stands

octets_stand : (given : Given) (station : ℕ) (octets : List ℕ) (other begun : ℕ) (history : List Event)
    → standing (past_of other history) ≡ Some (at_stage Between begun)
    → standing (past_of other (after_octets given station octets history)) ≡ Some (at_stage Between begun)
octets_stand given station [] other begun history stands = stands
octets_stand given station (octet ∷ octets) other begun history stands =
    octets_stand given station octets other begun (after_call given station (HostOctet octet) history)
    (octet_by given station octet other begun history (other == station) refl stands)

pub event_past : (other : ℕ) (history : List Event) (event : Event) → steps_in other event ≡ [] → past_of other (history ++ event ∷ []) ≡ past_of other history
event_past other history event none = flat_nothing (steps_in other) history event none

feed_stands : (given : Given) (station : ℕ) (octets : List ℕ) (other begun : ℕ) (history : List Event)
    → standing (past_of other history) ≡ Some (at_stage Between begun)
    → standing (past_of other (after_feed given station octets history)) ≡ Some (at_stage Between begun)
feed_stands given station [] other begun history stands = stands
feed_stands given station (octet ∷ octets) other begun history stands =
    octets_stand given station (octet ∷ octets) other begun (history ++ HostFed station (octet ∷ octets) ∷ [])
    (ap standing (event_past other history (HostFed station (octet ∷ octets)) refl) ∙ stands)

-- a call on one station of a round
round_by : (given : Given) (done : List ℕ) (station : ℕ) (step : Step) (before after : Standing) (history : List Event) → is_in station done ≡ false
    → stage_after before.stage before.begun step ≡ Some after → (other : ℕ) (same : Bool) → (other == station) ≡ same
    → standing (past_of other history) ≡ Some (if is_in other done then after else before)
    → standing (past_of other (after_call given station step history)) ≡ Some (if is_in other (done ++ station ∷ []) then after else before)
round_by given done station step before after history out leads other true is stands =
    let one = eqb-true other station is in
    let not_yet : is_in other done ≡ false = ap (λ n. is_in n done) one ∙ out in
    ap standing (past_by other station step (notes_after (setup_at given station) (facts_at given station history) step) history true is)
    ∙ more_stands (past_of other history) step before (stands ∙ ap (λ b. Some (if b then after else before)) not_yet)
    ∙ leads ∙ ap (λ b. Some (if b then after else before)) (sym (in_more_same other station done is))
round_by given done station step before after history out leads other false is stands =
    ap standing (past_other other station step (notes_after (setup_at given station) (facts_at given station history) step) history is)
    ∙ stands ∙ ap (λ b. Some (if b then after else before)) (sym (in_more_other other station done is))

last_of : (turns slot : ℕ) → turns ≡ slot + 1 → slot ≡ turns - 1
last_of turns slot is = omega (arith, is)

one_back : (turns : ℕ) → turns ≡ turns + 1 - 1
one_back turns = omega arith

begin_leads : (slot turns : ℕ) (on : Bool) → turns ≡ slot + 1 → stage_after Between (turns - 1) (TurnBegins slot on) ≡ Some (at_stage (Within 0) turns)
begin_leads slot turns on is =
    let same : turns - 1 ≡ slot = sym (last_of turns slot is) in
    ap (λ n. if slot == n then Some (at_stage (Within 0) (n + 1)) else None) same
    ∙ ap (λ b. if b then Some (at_stage (Within 0) (slot + 1)) else None) (same_station slot) ∙ ap (λ n. Some (at_stage (Within 0) n)) (sym is)

hear_leads : (phases turns : ℕ) (received : Option (List ℕ)) → stage_after (Within phases) turns (step_of received) ≡ Some (at_stage (Within (suc phases)) turns)
hear_leads phases turns None = refl
hear_leads phases turns (Some octets) = refl

end_leads : (turns : ℕ) → stage_after (Within 3) turns TurnEnds ≡ Some (at_stage Between turns)
end_leads turns = refl

-- the number of turns stays through a call
with_turns : (turns after : ℕ) (at : Option Standing) (stands : ℕ → Standing) → after ≡ turns → at ≡ Some (stands turns) → at ≡ Some (stands after)
with_turns turns after at stands same is = is ∙ ap (λ n. Some (stands n)) (sym same)

pub stands_kept : (given : Given) → AreDistinct given.stations → IsKept given (AllStand given)
stands_kept given distinct = record {
  on_turn = λ slot plan history begun at stand station is.
      let event = TurnBegan slot (map plan.radio_of given.stations) in
      same_stands (past_of station history) _ _ _ (event_past station history event refl)
      (ap (at_stage Between) (one_back (turns_begun history)) ∙ ap (λ n. at_stage Between (n - 1)) (sym (turns_more history event))) (stand station is);
  on_feed = λ plan done left station history are some now stand other is.
      let octets = take (plan.feed_of station) (octets_left given station history) in
      with_turns (turns_begun history) _ _ (λ n. at_stage Between (n - 1)) (feed_turns given (turns_begun history) station octets history refl)
      (feed_stands given station octets other (turns_begun history - 1) history (stand other is));
  on_fed = λ history stand. stand;
  on_begin = λ slot plan done left station history are due stand other is.
      let step = TurnBegins slot (plan.radio_of station) in
      let turns = turns_begun history in
      with_turns turns _ _ (λ n. if is_in other (done ++ station ∷ []) then at_stage (Within 0) n else at_stage Between (n - 1))
      (turns_called station step (notes_after (setup_at given station) (facts_at given station history) step) history)
      (round_by given done station step (at_stage Between (turns - 1)) (at_stage (Within 0) turns) history (not_before given.stations done left station distinct are)
      (begin_leads slot turns (plan.radio_of station) due.slot_is) other (other == station) refl (stand other is));
  on_begun = λ history stand station is.
      stand station is ∙ ap (λ b. Some (if b then at_stage (Within 0) (turns_begun history) else at_stage Between (turns_begun history - 1))) is;
  on_phase = λ phases history few stand. stand;
  on_silence = λ phases done left station history are none stand. stand;
  on_packet = λ phases plan done left station channel octets history are some due stand other is.
      let event = Transmitted station channel octets (hearings_of given plan.fates station channel octets history) in
      same_stands (past_of other history) _ _ _ (event_past other history event refl) (ap (at_stage (Within phases)) (sym (turns_same history event refl))) (stand other is);
  on_air = λ phases history stand. stand;
  on_hearing = λ phases done left station history are some stand other is.
      let received = packet_received station history in
      let step = step_of received in
      let turns = turns_begun history in
      with_turns turns _ _ (λ n. if is_in other (done ++ station ∷ []) then at_stage (Within (suc phases)) n else at_stage (Within phases) n)
      (turns_called station step (notes_after (setup_at given station) (facts_at given station history) step) history)
      (round_by given done station step (at_stage (Within phases) turns) (at_stage (Within (suc phases)) turns) history (not_before given.stations done left station distinct are)
      (hear_leads phases turns received) other (other == station) refl (stand other is));
  on_heard = λ phases history stand station is.
      stand station is ∙ ap (λ b. Some (if b then at_stage (Within (suc phases)) (turns_begun history) else at_stage (Within phases) (turns_begun history))) is;
  on_phases = λ history stand. stand;
  on_end = λ done left station history are some stand other is.
      let turns = turns_begun history in
      with_turns turns _ _ (λ n. if is_in other (done ++ station ∷ []) then at_stage Between n else at_stage (Within 3) n)
      (turns_called station TurnEnds (notes_after (setup_at given station) (facts_at given station history) TurnEnds) history)
      (round_by given done station TurnEnds (at_stage (Within 3) turns) (at_stage Between turns) history (not_before given.stations done left station distinct are)
      (end_leads turns) other (other == station) refl (stand other is));
  on_ended = λ history stand station is.
      stand station is ∙ ap (λ b. Some (if b then at_stage Between (turns_begun history) else at_stage (Within 3) (turns_begun history))) is;
}

pub stands_first : (given : Given) → AllStand given NoTurn []
unfolding turns_begun
stands_first given station is = refl

-- wherever a run ends, and at any time before
ends_standing : (given : Given) → AreDistinct given.stations → (station : ℕ) → is_in station given.stations ≡ true → StandsSomewhere (past_of station (history_of (run_of given)))
ends_standing given distinct station is =
    ends_with (run_of given) (IsWhole given (AllStand given)) (IsStopped given (AllStand given)) (λ history. StandsSomewhere (past_of station history))
    (run_kept given (AllStand given) (stands_kept given distinct) (stands_first given))
    (λ history whole. record { at = _; is = whole.is station is })
    (λ history stop stopped. record { at = _; is = stopped.kept station is })

pub stands_in_run : (given : Given) (before rest : List Event) (station : ℕ) → AreDistinct given.stations → is_in station given.stations ≡ true
    → history_of (run_of given) ≡ before ++ rest → StandsSomewhere (past_of station before)
stands_in_run given before rest station distinct is at =
    let last = ends_standing given distinct station is in
    before_stands (past_of station before) (past_of station rest) last.at
    (ap standing (sym (ap (past_of station) at ∙ flat_map-append (steps_in station) before rest)) ∙ last.is)
