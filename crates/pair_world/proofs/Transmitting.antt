-- The packets of a phase are on the air.
use Rattle.std.proofs.Common.{◌≡◌, ℕ, List, [], ◌∷◌, sym, ap, subst, ◌∙◌}
use Rattle.ble_base.specs.declared.roles.Side.TheVariants.{A, B}
use Rattle.ble_base.specs.declared.verdicts.Verdict.{Verdict}
use Rattle.journal.specs.declared.entries.Entry.{Entry}
use Rattle.radio_replay.specs.declared.fates.Fate.{Fate}
use Rattle.controller_model.specs.Facts.{Use}
use Rattle.run_model.specs.History.{Event, is_handed}
use Rattle.run_model.specs.Run.{Given, GoesOn, Run, after_packet, after_packets, and_then}
use Rattle.pair_world.specs.declared.stops.Stop.{Stop}
use Rattle.pair_world.specs.declared.stops.Stop.TheVariants.{Unseen, Memory}
use Rattle.pair_world.specs.Air.{HasFlown, InAir, InPhase}
use Rattle.pair_world.specs.Wishes.{heard_of, use_handed}
use Rattle.pair_world.specs.Logs.{LogState}
use Rattle.pair_world.specs.Outcomes.{Reaches, IsStopped}
use Rattle.pair_world.specs.Stations.{StationState}
use Rattle.pair_world.specs.Turns.{HasHeard}

-- where a run stopped, it goes no further
pub stopped_on : (run : Run) (next : List Event → Run) (slot : ℕ) (entries : List Entry) (stop : Stop) → IsStopped run slot entries stop
    → IsStopped (and_then run next) slot entries stop
stopped_on run next slot entries Memory is = tt
stopped_on run next slot entries (Unseen unseen) is = record {
  before = is.before;
  stop = is.stop;
  stops = ap (λ (run : Run). and_then run next) is.stops;
  written = is.written;
  slot_is = is.slot_is;
  packet_is = is.packet_is;
  sent_is = is.sent_is;
  heard_is = is.heard_is;
}

-- where it went on to a history and stopped after it
pub stopped_after : (run : Run) (next : List Event → Run) (history : List Event) (slot : ℕ) (entries : List Entry) (stop : Stop) → run ≡ GoesOn history
    → IsStopped (next history) slot entries stop → IsStopped (and_then run next) slot entries stop
stopped_after run next history slot entries stop goes is =
    subst (λ (run : Run). IsStopped (and_then run next) slot entries stop) (sym goes) is

exchanged : (given : Given) (slot : ℕ) (history : List Event) (a b : StationState) (log : LogState) (wanted_a wanted_b : Use) (packets : ℕ)
    → InAir given slot history A a b log wanted_a wanted_b packets → InAir given slot history B b a log wanted_b wanted_a packets
exchanged given slot history a b log wanted_a wanted_b packets air = record {
  stations_are = air.stations_are;
  keeps_sender = air.keeps_listener;
  keeps_listener = air.keeps_sender;
  writes = air.writes;
  wants_sender = air.wants_listener;
  wants_listener = air.wants_sender;
  turns_are = air.turns_are;
  fates_are = air.fates_are;
  packets_are = air.packets_are;
}

-- the packets of both were on the air, or none of them
pub both_flown : (given : Given) (fates : List Fate) (slot number : ℕ) (history : List Event) (a b first_a first_b new_a new_b : StationState)
    (log first_log new_log : LogState) (wanted_a wanted_b handed_a handed_b : Use) (packets first_packets new_packets : ℕ) (fate_b fate_a : Fate) (verdict_b verdict_a : Verdict)
    → InPhase given slot a b log wanted_a wanted_b packets history
    → Reaches (after_packet given fates 0 history) (HasFlown given slot history A first_a first_b first_log wanted_a wanted_b first_packets fate_b verdict_b)
    → number ≡ slot
    → ((history : List Event) → InAir given number history B first_b first_a first_log wanted_b wanted_a first_packets
    → Reaches (after_packet given fates 1 history) (HasFlown given number history B new_b new_a new_log wanted_b wanted_a new_packets fate_a verdict_a))
    → handed_a ≡ use_handed fate_b verdict_b wanted_a → handed_b ≡ use_handed fate_a verdict_a wanted_b
    → Reaches (after_packets given fates given.stations history)
    (HasHeard given slot new_a new_b new_log new_packets (heard_of (is_handed verdict_a) handed_b) (heard_of (is_handed verdict_b) handed_a))
both_flown given fates slot number history a b first_a first_b new_a new_b log first_log new_log wanted_a wanted_b handed_a handed_b packets first_packets new_packets
    fate_b fate_a verdict_b verdict_a phase first same fly as_a as_b =
    let air = exchanged given slot first.after first_a first_b first_log wanted_a wanted_b first_packets first.holds.air in
    let second = subst (λ (n : ℕ). InAir given n first.after B first_b first_a first_log wanted_b wanted_a first_packets
    → Reaches (after_packet given fates 1 first.after) (HasFlown given n first.after B new_b new_a new_log wanted_b wanted_a new_packets fate_a verdict_a))
    same (fly first.after) air in
    record {
      after = second.after;
      goes_on = ap (λ (stations : List ℕ). after_packets given fates stations history) phase.air.stations_are
          ∙ ap (λ (run : Run). and_then run (after_packets given fates (1 ∷ []))) first.goes_on
          ∙ ap (λ (run : Run). and_then run (after_packets given fates [])) second.goes_on;
      holds = record {
        is = record {
          stations_are = second.holds.air.stations_are;
          keeps_a = second.holds.air.keeps_listener;
          keeps_b = second.holds.air.keeps_sender;
          writes = second.holds.air.writes;
          turns_are = second.holds.air.turns_are;
        };
        fates_are = second.holds.air.fates_are;
        packets_are = second.holds.air.packets_are;
        heard_a = second.holds.other (first.holds.own ∙ phase.received_a) ∙ ap (heard_of (is_handed verdict_a)) (sym as_b);
        heard_b = second.holds.own ∙ first.holds.other phase.received_b ∙ ap (heard_of (is_handed verdict_b)) (sym as_a);
      };
    }

-- the run stops at the packet of A
pub first_stops : (given : Given) (fates : List Fate) (slot : ℕ) (history : List Event) (a b : StationState) (log : LogState) (wanted_a wanted_b : Use)
    (packets : ℕ) (entries : List Entry) (stop : Stop)
    → InPhase given slot a b log wanted_a wanted_b packets history
    → (InAir given slot history A a b log wanted_a wanted_b packets → IsStopped (after_packet given fates 0 history) slot entries stop)
    → IsStopped (after_packets given fates given.stations history) slot entries stop
first_stops given fates slot history a b log wanted_a wanted_b packets entries stop phase fly =
    subst (λ (stations : List ℕ). IsStopped (after_packets given fates stations history) slot entries stop) (sym phase.air.stations_are)
    (stopped_on (after_packet given fates 0 history) (after_packets given fates (1 ∷ [])) slot entries stop (fly phase.air))

-- or at that of B
pub second_stops : (given : Given) (fates : List Fate) (slot number : ℕ) (history : List Event) (a b first_a first_b : StationState) (log first_log : LogState)
    (wanted_a wanted_b : Use) (packets first_packets : ℕ) (fate_b : Fate) (verdict_b : Verdict) (entries : List Entry) (stop : Stop)
    → InPhase given slot a b log wanted_a wanted_b packets history
    → Reaches (after_packet given fates 0 history) (HasFlown given slot history A first_a first_b first_log wanted_a wanted_b first_packets fate_b verdict_b)
    → number ≡ slot
    → ((history : List Event) → InAir given number history B first_b first_a first_log wanted_b wanted_a first_packets
    → IsStopped (after_packet given fates 1 history) number entries stop)
    → IsStopped (after_packets given fates given.stations history) slot entries stop
second_stops given fates slot number history a b first_a first_b log first_log wanted_a wanted_b packets first_packets fate_b verdict_b entries stop phase first same fly =
    let air = exchanged given slot first.after first_a first_b first_log wanted_a wanted_b first_packets first.holds.air in
    subst (λ (stations : List ℕ). IsStopped (after_packets given fates stations history) slot entries stop) (sym phase.air.stations_are)
    (stopped_after (after_packet given fates 0 history) (after_packets given fates (1 ∷ [])) first.after slot entries stop first.goes_on
    (stopped_on (after_packet given fates 1 first.after) (after_packets given fates []) slot entries stop
    (subst (λ (n : ℕ). InAir given n first.after B first_b first_a first_log wanted_b wanted_a first_packets
    → IsStopped (after_packet given fates 1 first.after) n entries stop) same (fly first.after) air)))
