-- A turn opens, goes through its phases, and ends.
use Rattle.std.proofs.Common.{◌≡◌, ℕ, ◌+◌, ◌==◌, Bool, false, List, [], ◌∷◌, ◌++◌, map, length, take, drop, Option, Some, None, refl, sym, ap, subst, ◌∙◌, append-nil}
use Rattle.std.specs.Prelude.{IfSome}
use Rattle.ble_base.specs.declared.roles.Side.TheVariants.{A, B}
use Rattle.ble_base.specs.declared.notes.Note.{Note}
use Rattle.journal.specs.declared.entries.Entry.{Entry}
use Rattle.journal.specs.declared.entries.Entry.TheVariants.{Turn}
use Rattle.radio_replay.specs.Script.{Turn as ScriptTurn}
use Rattle.controller_model.specs.Facts.{Setup, Use}
use Rattle.controller_model.specs.Packets.{use_of}
use Rattle.controller_model.specs.Side.{facts_of}
use Rattle.controller_model.specs.Step.{Step, TurnBegins, TurnEnds}
use Rattle.controller.specs.Knowing.{Knows}
use Rattle.run_model.specs.History.{Event, TurnBegan, fates_used, fed_to, packets_on_air, past_of, turns_begun}
use Rattle.run_model.specs.Links.{Links}
use Rattle.run_model.specs.Pair.{plan_of}
use Rattle.run_model.specs.Run.{Given, GoesOn, Run, after_begins, after_ends, after_feed, after_feeds, after_opening, after_phases, after_turn, and_then, octets_left, setup_at}
use Rattle.pair_world.specs.declared.stops.Stop.{Stop}
use Rattle.pair_world.specs.Air.{InPhase}
use Rattle.pair_world.specs.Logs.{LogState, entries_noted, with_entries}
use Rattle.pair_world.specs.Outcomes.{Reaches, IsStopped}
use Rattle.pair_world.specs.Stations.{StationState, StationIsUpTo, Keeps, KnowsLinks, Writes}
use Rattle.pair_world.specs.Turns.{HasFed, PairIsUpTo, after_feeding}
use Rattle.pair_world.proofs.BothCalled.{Calls, both_called, called_both, in_phase}
use Rattle.pair_world.proofs.Calls.{fates_call, packets_call, turns_call}
use Rattle.pair_world.proofs.Feeding.{fates_fed, feed_keeps, keeps_fed_other, packets_fed, turns_fed}
use Rattle.pair_world.proofs.Histories.{fates_more, fed_more, journal_more, links_more, packets_more, past_more, turns_more}
use Rattle.pair_world.proofs.Keeping.{NamesItsLinks, keeps_other}
use Rattle.pair_world.proofs.Transmitting.{stopped_on}

pub there_is : {X : Type 0} (place : Option X) (x : X) (P : X → Type 0) → place ≡ Some x → IfSome place P → P x
there_is None x P is holds = absurd (cc)
there_is (Some other) x P is holds = let same : other ≡ x = cc in subst P same holds

-- ---- a turn begins

abbrev begun : ℕ → ScriptTurn → List Event → List Event
begun slot plan history = history ++ TurnBegan slot (plan.a_on ∷ plan.b_on ∷ []) ∷ []

keeps_begun : (given : Given) (slot : ℕ) (plan : ScriptTurn) (station : ℕ) (history : List Event) (state : StationState)
    → Keeps given station history state → Keeps given station (begun slot plan history) state
keeps_begun given slot plan station history state keeps =
    let event = TurnBegan slot (plan.a_on ∷ plan.b_on ∷ []) ∷ [] in record {
      handles = keeps.handles;
      knows = subst (λ past. Knows (setup_at given station) state.held past) (sym (past_more station history event ∙ append-nil (past_of station history))) keeps.knows;
      unfed_are = keeps.unfed_are ∙ sym (ap (λ (octets : List ℕ). drop (length octets) (given.station_of station).stream)
          (fed_more station history event ∙ append-nil (fed_to station history)));
      links_are = subst (λ (links : Links). KnowsLinks station links state.links) (sym (links_more history event)) keeps.links_are;
    }

writes_begun : (slot : ℕ) (plan : ScriptTurn) (history : List Event) (log : LogState) → Writes history log
    → Writes (begun slot plan history) (with_entries (Turn slot plan.a_on (Some plan.b_on) ∷ []) log)
writes_begun slot plan history log writes =
    let event = TurnBegan slot (plan.a_on ∷ plan.b_on ∷ []) ∷ [] in record {
      entries_are = ap (λ (entries : List Entry). entries ++ Turn slot plan.a_on (Some plan.b_on) ∷ []) writes.entries_are ∙ sym (journal_more history event);
      links_are = writes.links_are ∙ sym (ap (λ (links : Links). links.begun) (links_more history event));
    }

-- ---- both are fed

-- what feeding a station leaves as it is
module _ (given : Given) (station other : ℕ) where
  keeps_feed : (state : StationState) → (other == station) ≡ false → (octets : List ℕ) (history : List Event)
      → Keeps given other history state → Keeps given other (after_feed given station octets history) state
  keeps_feed state ne =
      feed_keeps given station (λ after. Keeps given other after state) (λ octets history. keeps_fed_other given station other octets history state ne)
      (λ step history. keeps_other given station other step history state ne)

counts_feed : (given : Given) (station turns : ℕ) (octets : List ℕ) (history : List Event)
    → (turns_begun history ≡ turns) × ((fates_used history ≡ 0) × (packets_on_air history ≡ 0))
    → (turns_begun (after_feed given station octets history) ≡ turns)
    × ((fates_used (after_feed given station octets history) ≡ 0) × (packets_on_air (after_feed given station octets history) ≡ 0))
counts_feed given station turns =
    feed_keeps given station (λ after. (turns_begun after ≡ turns) × ((fates_used after ≡ 0) × (packets_on_air after ≡ 0)))
    (λ octets history counts. (turns_fed station octets history ∙ counts.0, (fates_fed station octets history ∙ counts.1.0, packets_fed station octets history ∙ counts.1.1)))
    (λ step history counts. (
      turns_call given station step history ∙ counts.0,
      (fates_call given station step history ∙ counts.1.0, packets_call given station step history ∙ counts.1.1),
    ))

counts_begun : (slot : ℕ) (plan : ScriptTurn) (history : List Event) → turns_begun history ≡ slot
    → (turns_begun (begun slot plan history) ≡ slot + 1) × ((fates_used (begun slot plan history) ≡ 0) × (packets_on_air (begun slot plan history) ≡ 0))
counts_begun slot plan history turns =
    let event = TurnBegan slot (plan.a_on ∷ plan.b_on ∷ []) ∷ [] in
    (turns_more history event ∙ ap (λ (n : ℕ). n + 1) turns, (fates_more history event, packets_more history event))

feeding_is : (given : Given) (slot : ℕ) (plan : ScriptTurn) (history : List Event) → given.stations ≡ 0 ∷ 1 ∷ []
    → after_feeding given slot (plan_of plan) history ≡ after_feeds given (plan_of plan) (0 ∷ 1 ∷ []) (begun slot plan history)
feeding_is given slot plan history are =
    ap (λ (stations : List ℕ). after_feeds given (plan_of plan) stations (history ++ TurnBegan slot (map (plan_of plan).radio_of stations) ∷ [])) are

-- a station is fed what its turn feeds it
feed_at : (given : Given) (station count feed : ℕ) (history : List Event) (state done : StationState) (log new_log : LogState)
    → count ≡ feed → StationIsUpTo given station history state log
    → ((given : Given) (history : List Event) → StationIsUpTo given station history state log
    → StationIsUpTo given station (after_feed given station (take count state.unfed) history) done new_log)
    → StationIsUpTo given station (after_feed given station (take feed (octets_left given station history)) history) done new_log
feed_at given station count feed history state done log new_log same at go =
    subst (λ (octets : List ℕ). StationIsUpTo given station (after_feed given station octets history) done new_log)
    ((λ i. take (same i) state.unfed) ∙ ap (take feed) at.keeps.unfed_are) (go given history at)

pub fed_both : (given : Given) (slot number : ℕ) (plan : ScriptTurn) (history : List Event) (a b new_a new_b : StationState) (log first_log middle_log new_log : LogState)
    (a_on b_on : Bool) (feed_a feed_b : ℕ) → PairIsUpTo given slot a b log history
    → first_log ≡ with_entries (Turn number a_on (Some b_on) ∷ []) log → number ≡ slot → a_on ≡ plan.a_on → b_on ≡ plan.b_on
    → feed_a ≡ plan.feed_a → feed_b ≡ plan.feed_b
    → ((given : Given) (history : List Event) → StationIsUpTo given 0 history a first_log
    → StationIsUpTo given 0 (after_feed given 0 (take feed_a a.unfed) history) new_a middle_log)
    → ((given : Given) (history : List Event) → StationIsUpTo given 1 history b middle_log
    → StationIsUpTo given 1 (after_feed given 1 (take feed_b b.unfed) history) new_b new_log)
    → HasFed given slot new_a new_b new_log (after_feeding given slot (plan_of plan) history)
fed_both given slot number plan history a b new_a new_b log first_log middle_log new_log a_on b_on feed_a feed_b up log_is number_is a_is b_is feed_a_is feed_b_is go_a go_b =
    let start = begun slot plan history in
    let writes = subst (Writes start) (sym (log_is ∙ (λ i. with_entries (Turn (number_is i) (a_is i) (Some (b_is i)) ∷ []) log)))
    (writes_begun slot plan history log up.writes) in
    let first = feed_at given 0 feed_a plan.feed_a start a new_a first_log middle_log feed_a_is
    (record { keeps = keeps_begun given slot plan 0 history a up.keeps_a; writes = writes }) go_a in
    let octets_a = take plan.feed_a (octets_left given 0 start) in
    let middle = after_feed given 0 octets_a start in
    let still_b = keeps_feed given 0 1 b refl octets_a start (keeps_begun given slot plan 1 history b up.keeps_b) in
    let second = feed_at given 1 feed_b plan.feed_b middle b new_b middle_log new_log feed_b_is (record { keeps = still_b; writes = first.writes }) go_b in
    let octets_b = take plan.feed_b (octets_left given 1 middle) in
    let counts = counts_feed given 1 (slot + 1) octets_b middle (counts_feed given 0 (slot + 1) octets_a start (counts_begun slot plan history up.turns_are)) in
    subst (HasFed given slot new_a new_b new_log) (sym (feeding_is given slot plan history up.stations_are)) (record {
      is = record {
        stations_are = up.stations_are;
        keeps_a = keeps_feed given 1 0 new_a refl octets_b middle first.keeps;
        keeps_b = second.keeps;
        writes = second.writes;
        turns_are = counts.0;
      };
      fates_are = counts.1.0;
      packets_are = counts.1.1;
    })

-- ---- both begin

begins_are : (given : Given) (slot number : ℕ) (plan : ScriptTurn) (a_on b_on : Bool) (history : List Event) → given.stations ≡ 0 ∷ 1 ∷ []
    → number ≡ slot → a_on ≡ plan.a_on → b_on ≡ plan.b_on
    → called_both given (TurnBegins number a_on) (TurnBegins number b_on) history ≡ after_begins given slot (plan_of plan) given.stations history
begins_are given slot number plan a_on b_on history stations number_is a_is b_is =
    (λ i. called_both given (TurnBegins (number_is i) (a_is i)) (TurnBegins (number_is i) (b_is i)) history)
    ∙ ap (λ (stations : List ℕ). after_begins given slot (plan_of plan) stations history) (sym stations)

pub both_begun : NamesItsLinks → (given : Given) (slot number : ℕ) (plan : ScriptTurn) (a_on b_on : Bool) (history : List Event)
    (a called_a new_a b called_b new_b : StationState) (log first_log new_log : LogState) (notes_a notes_b : List Note) (wanted_a wanted_b : Use)
    → HasFed given slot a b log history → number ≡ slot → a_on ≡ plan.a_on → b_on ≡ plan.b_on
    → Calls (TurnBegins number a_on) a called_a new_a log first_log notes_a (with_entries (entries_noted A called_a.links notes_a) log)
    → Calls (TurnBegins number b_on) b called_b new_b first_log new_log notes_b (with_entries (entries_noted B called_b.links notes_b) first_log)
    → ((setup : Setup) (past : List Step) → Knows setup a.held past
    → wanted_a ≡ use_of (facts_of setup (past ++ TurnBegins number a_on ∷ [])))
    → ((setup : Setup) (past : List Step) → Knows setup b.held past
    → wanted_b ≡ use_of (facts_of setup (past ++ TurnBegins number b_on ∷ [])))
    → InPhase given slot new_a new_b new_log wanted_a wanted_b 0 (after_begins given slot (plan_of plan) given.stations history)
both_begun names given slot number plan a_on b_on history a called_a new_a b called_b new_b log first_log new_log notes_a notes_b wanted_a wanted_b fed number_is a_is b_is call_a call_b wants_a wants_b =
    subst (InPhase given slot new_a new_b new_log wanted_a wanted_b 0)
    (begins_are given slot number plan a_on b_on history fed.is.stations_are number_is a_is b_is)
    (in_phase given slot (TurnBegins number a_on) (TurnBegins number b_on) history a b new_a new_b new_log wanted_a wanted_b 0 fed.is.stations_are
    fed.is.keeps_a fed.is.keeps_b fed.is.turns_are fed.fates_are fed.packets_are
    (both_called names given (TurnBegins number a_on) (TurnBegins number b_on) history a called_a new_a b called_b new_b log first_log new_log notes_a notes_b
    fed.is.keeps_a fed.is.keeps_b fed.is.writes call_a call_b) wants_a wants_b)

pub opened : (given : Given) (slot : ℕ) (plan : ScriptTurn) (history : List Event) (a b : StationState) (log : LogState) (wanted_a wanted_b : Use)
    → InPhase given slot a b log wanted_a wanted_b 0
    (after_begins given slot (plan_of plan) given.stations (after_feeding given slot (plan_of plan) history))
    → InPhase given slot a b log wanted_a wanted_b 0 (after_opening given slot (plan_of plan) history)
unfolding after_opening
opened given slot plan history a b log wanted_a wanted_b holds = holds

-- ---- both end

pub both_ended : NamesItsLinks → (given : Given) (turns : ℕ) (history : List Event) (a called_a new_a b called_b new_b : StationState)
    (log first_log new_log : LogState) (notes_a notes_b : List Note) → PairIsUpTo given turns a b log history
    → Calls TurnEnds a called_a new_a log first_log notes_a (with_entries (entries_noted A called_a.links notes_a) log)
    → Calls TurnEnds b called_b new_b first_log new_log notes_b (with_entries (entries_noted B called_b.links notes_b) first_log)
    → PairIsUpTo given turns new_a new_b new_log (after_ends given given.stations history)
both_ended names given turns history a called_a new_a b called_b new_b log first_log new_log notes_a notes_b up call_a call_b =
    let both = both_called names given TurnEnds TurnEnds history a called_a new_a b called_b new_b log first_log new_log notes_a notes_b
    up.keeps_a up.keeps_b up.writes call_a call_b in
    subst (PairIsUpTo given turns new_a new_b new_log) (ap (λ (stations : List ℕ). after_ends given stations history) (sym up.stations_are)) (record {
      stations_are = up.stations_are;
      keeps_a = both.keeps_a;
      keeps_b = both.keeps_b;
      writes = both.writes;
      turns_are = both.turns_are ∙ up.turns_are;
    })

-- ---- the turn

pub turn_done : (given : Given) (slot : ℕ) (plan : ScriptTurn) (history : List Event) (P Q : List Event → Type 0)
    → Reaches (after_phases given plan.fates (after_opening given slot (plan_of plan) history)) P
    → ((after : List Event) → P after → Q (after_ends given given.stations after)) → Reaches (after_turn given slot (plan_of plan) history) Q
unfolding after_turn
turn_done given slot plan history P Q phases end = record {
  after = after_ends given given.stations phases.after;
  goes_on = ap (λ (run : Run). and_then run (λ ending. GoesOn (after_ends given given.stations ending))) phases.goes_on;
  holds = end phases.after phases.holds;
}

pub turn_stops : (given : Given) (slot : ℕ) (plan : ScriptTurn) (history : List Event) (entries : List Entry) (stop : Stop)
    → IsStopped (after_phases given plan.fates (after_opening given slot (plan_of plan) history)) slot entries stop
    → IsStopped (after_turn given slot (plan_of plan) history) slot entries stop
unfolding after_turn
turn_stops given slot plan history entries stop is =
    stopped_on (after_phases given plan.fates (after_opening given slot (plan_of plan) history))
    (λ ending. GoesOn (after_ends given given.stations ending)) slot entries stop is
