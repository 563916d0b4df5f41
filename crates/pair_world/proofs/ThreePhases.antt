-- A phase, and the three of a turn.
use Rattle.std.proofs.Common.{◌≡◌, ℕ, ◌+◌, List, sym, ap, subst, ◌∙◌}
use Rattle.journal.specs.declared.entries.Entry.{Entry}
use Rattle.radio_replay.specs.declared.fates.Fate.{Fate}
use Rattle.controller_model.specs.Facts.{Use}
use Rattle.run_model.specs.History.{Event}
use Rattle.run_model.specs.Run.{Given, GoesOn, Run, after_listenings, after_packets, after_phase, after_phases, and_then}
use Rattle.pair_world.specs.declared.stops.Stop.{Stop}
use Rattle.pair_world.specs.Air.{InPhase}
use Rattle.pair_world.specs.Logs.{LogState}
use Rattle.pair_world.specs.Outcomes.{Reaches, IsStopped}
use Rattle.pair_world.specs.Stations.{StationState}
use Rattle.pair_world.specs.Turns.{PairIsUpTo}
use Rattle.pair_world.proofs.Transmitting.{stopped_after, stopped_on}

pub phase_done : (given : Given) (fates : List Fate) (history : List Event) (P Q : List Event → Type 0)
    → Reaches (after_packets given fates given.stations history) P → ((after : List Event) → P after → Q (after_listenings given given.stations after))
    → Reaches (after_phase given fates history) Q
unfolding after_phase
phase_done given fates history P Q packets listen = record {
  after = after_listenings given given.stations packets.after;
  goes_on = ap (λ (run : Run). and_then run (λ then_on. GoesOn (after_listenings given given.stations then_on))) packets.goes_on;
  holds = listen packets.after packets.holds;
}

pub phase_stops : (given : Given) (fates : List Fate) (history : List Event) (slot : ℕ) (entries : List Entry) (stop : Stop)
    → IsStopped (after_packets given fates given.stations history) slot entries stop → IsStopped (after_phase given fates history) slot entries stop
unfolding after_phase
phase_stops given fates history slot entries stop is =
    stopped_on (after_packets given fates given.stations history) (λ then_on. GoesOn (after_listenings given given.stations then_on)) slot entries stop is

three : (first : Run) (next : List Event → Run) (h1 h2 h3 : List Event) → first ≡ GoesOn h1 → next h1 ≡ GoesOn h2 → next h2 ≡ GoesOn h3
    → and_then first (λ second. and_then (next second) next) ≡ GoesOn h3
three first next h1 h2 h3 e1 e2 e3 =
    ap (λ (run : Run). and_then run (λ second. and_then (next second) next)) e1 ∙ ap (λ (run : Run). and_then run next) e2 ∙ e3

pub phases_done : (given : Given) (fates : List Fate) (history : List Event) (P Q R S : List Event → Type 0)
    → P history → ((before : List Event) → P before → Reaches (after_phase given fates before) Q)
    → ((before : List Event) → Q before → Reaches (after_phase given fates before) R)
    → ((before : List Event) → R before → Reaches (after_phase given fates before) S) → Reaches (after_phases given fates history) S
unfolding after_phases
phases_done given fates history P Q R S holds one two last =
    let first = one history holds in
    let second = two first.after first.holds in
    let third = last second.after second.holds in
    record {
      after = third.after;
      goes_on = three (after_phase given fates history) (after_phase given fates) first.after second.after third.after first.goes_on second.goes_on third.goes_on;
      holds = third.holds;
    }

pub first_phase_stops : (given : Given) (fates : List Fate) (history : List Event) (slot : ℕ) (entries : List Entry) (stop : Stop)
    → IsStopped (after_phase given fates history) slot entries stop → IsStopped (after_phases given fates history) slot entries stop
unfolding after_phases
first_phase_stops given fates history slot entries stop is =
    stopped_on (after_phase given fates history) (λ second. and_then (after_phase given fates second) (after_phase given fates)) slot entries stop is

pub second_phase_stops : (given : Given) (fates : List Fate) (history : List Event) (slot : ℕ) (entries : List Entry) (stop : Stop) (P : List Event → Type 0)
    → Reaches (after_phase given fates history) P
    → ((before : List Event) → P before → IsStopped (after_phase given fates before) slot entries stop)
    → IsStopped (after_phases given fates history) slot entries stop
unfolding after_phases
second_phase_stops given fates history slot entries stop P first is =
    stopped_after (after_phase given fates history) (λ second. and_then (after_phase given fates second) (after_phase given fates))
    first.after slot entries stop first.goes_on
    (stopped_on (after_phase given fates first.after) (after_phase given fates) slot entries stop (is first.after first.holds))

pub third_phase_stops : (given : Given) (fates : List Fate) (history : List Event) (slot : ℕ) (entries : List Entry) (stop : Stop) (P Q : List Event → Type 0)
    → Reaches (after_phase given fates history) P
    → ((before : List Event) → P before → Reaches (after_phase given fates before) Q)
    → ((before : List Event) → Q before → IsStopped (after_phase given fates before) slot entries stop)
    → IsStopped (after_phases given fates history) slot entries stop
unfolding after_phases
third_phase_stops given fates history slot entries stop P Q first two is =
    let second = two first.after first.holds in
    stopped_after (after_phase given fates history) (λ second. and_then (after_phase given fates second) (after_phase given fates))
    first.after slot entries stop first.goes_on
    (stopped_after (after_phase given fates first.after) (after_phase given fates) second.after slot entries stop second.goes_on
    (is second.after second.holds))

-- ---- where a phase begins, by the numbers of the code

pub up_to : (given : Given) (slot : ℕ) (a b : StationState) (log : LogState) (wanted_a wanted_b : Use) (packets : ℕ) (history : List Event)
    → InPhase given slot a b log wanted_a wanted_b packets history → PairIsUpTo given (slot + 1) a b log history
up_to given slot a b log wanted_a wanted_b packets history phase = record {
  stations_are = phase.air.stations_are;
  keeps_a = phase.air.keeps_sender;
  keeps_b = phase.air.keeps_listener;
  writes = phase.air.writes;
  turns_are = phase.air.turns_are;
}

-- the phase of the turn that the code counts is that of the slot
pub at_slot : (given : Given) (fates : List Fate) (number slot : ℕ) (a b new_a new_b : StationState) (log new_log : LogState)
    (wanted_a wanted_b new_wanted_a new_wanted_b : Use) (packets new_packets : ℕ) (before : List Event) → number ≡ slot
    → (InPhase given number a b log wanted_a wanted_b packets before
    → Reaches (after_phase given fates before) (InPhase given number new_a new_b new_log new_wanted_a new_wanted_b new_packets))
    → InPhase given slot a b log wanted_a wanted_b packets before
    → Reaches (after_phase given fates before) (InPhase given slot new_a new_b new_log new_wanted_a new_wanted_b new_packets)
at_slot given fates number slot a b new_a new_b log new_log wanted_a wanted_b new_wanted_a new_wanted_b packets new_packets before same =
    subst (λ (n : ℕ). InPhase given n a b log wanted_a wanted_b packets before
    → Reaches (after_phase given fates before) (InPhase given n new_a new_b new_log new_wanted_a new_wanted_b new_packets)) same

pub stops_at_slot : (given : Given) (fates : List Fate) (number slot : ℕ) (a b : StationState) (log : LogState) (wanted_a wanted_b : Use) (packets : ℕ)
    (entries : List Entry) (stop : Stop) (before : List Event) → number ≡ slot
    → (InPhase given number a b log wanted_a wanted_b packets before → IsStopped (after_phase given fates before) number entries stop)
    → InPhase given slot a b log wanted_a wanted_b packets before → IsStopped (after_phase given fates before) slot entries stop
stops_at_slot given fates number slot a b log wanted_a wanted_b packets entries stop before same =
    subst (λ (n : ℕ). InPhase given n a b log wanted_a wanted_b packets before → IsStopped (after_phase given fates before) n entries stop) same

pub from_none : (given : Given) (slot : ℕ) (a b : StationState) (log : LogState) (wanted_a wanted_b : Use) (packets : ℕ) (history : List Event) → packets ≡ 0
    → InPhase given slot a b log wanted_a wanted_b 0 history → InPhase given slot a b log wanted_a wanted_b packets history
from_none given slot a b log wanted_a wanted_b packets history none =
    subst (λ (n : ℕ). InPhase given slot a b log wanted_a wanted_b n history) (sym none)
