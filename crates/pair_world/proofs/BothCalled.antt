-- Both controllers are called, first that of A.
use Rattle.std.proofs.Common.{◌≡◌, ℕ, ◌+◌, List, [], ◌∷◌, ◌++◌, Option, None, refl, sym, ap, subst, ◌∙◌}
use Rattle.ble_base.specs.declared.roles.Side.TheVariants.{A, B}
use Rattle.ble_base.specs.declared.notes.Note.{Note}
use Rattle.controller_model.specs.Facts.{Setup, Use}
use Rattle.controller_model.specs.Packets.{use_of}
use Rattle.controller_model.specs.Side.{facts_of}
use Rattle.controller_model.specs.Step.{Step}
use Rattle.controller.specs.Knowing.{Knows}
use Rattle.run_model.specs.History.{Event, fates_used, packet_received, packets_on_air, past_of, turns_begun}
use Rattle.run_model.specs.Run.{Given, after_call, after_listening, after_listenings, setup_at, step_of}
use Rattle.pair_world.specs.Air.{InPhase}
use Rattle.pair_world.specs.Logs.{LogState, entries_noted, known_after, with_entries}
use Rattle.pair_world.specs.Stations.{StationState, Keeps, HasStepped, Writes}
use Rattle.pair_world.specs.Turns.{HasHeard}
use Rattle.pair_world.proofs.Calls.{fates_call, packets_call, past_other, past_own, received_other, received_own, turns_call}
use Rattle.pair_world.proofs.Keeping.{NamesItsLinks, called, keeps_other}

-- a station takes a step, whatever its past, and what it notes is written
pub record Calls (step : Step) (before after written : StationState) (log new_log : LogState) (notes : List Note) (entries : LogState) : Type 0 where
  pub took : (setup : Setup) (past : List Step) → Knows setup before.held past → HasStepped setup past step before after notes
  pub log_is : new_log ≡ entries
  pub written_is : written ≡ record after { links = known_after after.links notes }

abbrev pub called_both : Given → Step → Step → List Event → List Event
called_both given step_a step_b history = after_call given 1 step_b (after_call given 0 step_a history)

pub record BothCalled (given : Given) (step_a step_b : Step) (before : List Event) (a b : StationState) (log : LogState) : Type 0 where
  pub keeps_a : Keeps given 0 (called_both given step_a step_b before) a
  pub keeps_b : Keeps given 1 (called_both given step_a step_b before) b
  pub writes : Writes (called_both given step_a step_b before) log
  pub past_a : past_of 0 (called_both given step_a step_b before) ≡ past_of 0 before ++ step_a ∷ []
  pub past_b : past_of 1 (called_both given step_a step_b before) ≡ past_of 1 before ++ step_b ∷ []
  pub received_a : packet_received 0 (called_both given step_a step_b before) ≡ None
  pub received_b : packet_received 1 (called_both given step_a step_b before) ≡ None
  pub turns_are : turns_begun (called_both given step_a step_b before) ≡ turns_begun before
  pub fates_are : fates_used (called_both given step_a step_b before) ≡ fates_used before
  pub packets_are : packets_on_air (called_both given step_a step_b before) ≡ packets_on_air before

pub both_called : NamesItsLinks → (given : Given) (step_a step_b : Step) (history : List Event) (a called_a new_a b called_b new_b : StationState)
    (log first_log new_log : LogState) (notes_a notes_b : List Note)
    → Keeps given 0 history a → Keeps given 1 history b → Writes history log
    → Calls step_a a called_a new_a log first_log notes_a (with_entries (entries_noted A called_a.links notes_a) log)
    → Calls step_b b called_b new_b first_log new_log notes_b (with_entries (entries_noted B called_b.links notes_b) first_log)
    → BothCalled given step_a step_b history new_a new_b new_log
both_called names given step_a step_b history a called_a new_a b called_b new_b log first_log new_log notes_a notes_b keeps_a keeps_b writes call_a call_b =
    let middle = after_call given 0 step_a history in
    let first = called names given A step_a history a called_a new_a log first_log notes_a (record { keeps = keeps_a; writes = writes })
    (call_a.took (setup_at given 0) (past_of 0 history) keeps_a.knows) call_a.log_is call_a.written_is in
    let still = keeps_other given 0 1 step_a history b refl keeps_b in
    let second = called names given B step_b middle b called_b new_b first_log new_log notes_b (record { keeps = still; writes = first.writes })
    (call_b.took (setup_at given 1) (past_of 1 middle) still.knows) call_b.log_is call_b.written_is in
    record {
      keeps_a = keeps_other given 1 0 step_b middle new_a refl first.keeps;
      keeps_b = second.keeps;
      writes = second.writes;
      past_a = past_other given 1 0 step_b middle refl ∙ past_own given 0 step_a history;
      past_b = past_own given 1 step_b middle ∙ ap (λ (past : List Step). past ++ step_b ∷ []) (past_other given 0 1 step_a history refl);
      received_a = received_other given 1 0 step_b middle refl ∙ received_own given 0 step_a history;
      received_b = received_own given 1 step_b middle;
      turns_are = turns_call given 1 step_b middle ∙ turns_call given 0 step_a history;
      fates_are = fates_call given 1 step_b middle ∙ fates_call given 0 step_a history;
      packets_are = packets_call given 1 step_b middle ∙ packets_call given 0 step_a history;
    }

-- ---- what both want then

wants_then : (setup : Setup) (step : Step) (wanted : Use) (past after : List Step) → after ≡ past ++ step ∷ []
    → wanted ≡ use_of (facts_of setup (past ++ step ∷ [])) → wanted ≡ use_of (facts_of setup after)
wants_then setup step wanted past after is wants = wants ∙ ap (λ (steps : List Step). use_of (facts_of setup steps)) (sym is)

pub in_phase : (given : Given) (slot : ℕ) (step_a step_b : Step) (history : List Event) (a b new_a new_b : StationState) (log : LogState) (wanted_a wanted_b : Use)
    (packets : ℕ) → given.stations ≡ 0 ∷ 1 ∷ [] → Keeps given 0 history a → Keeps given 1 history b
    → turns_begun history ≡ slot + 1 → fates_used history ≡ packets → packets_on_air history ≡ packets
    → BothCalled given step_a step_b history new_a new_b log
    → ((setup : Setup) (past : List Step) → Knows setup a.held past → wanted_a ≡ use_of (facts_of setup (past ++ step_a ∷ [])))
    → ((setup : Setup) (past : List Step) → Knows setup b.held past → wanted_b ≡ use_of (facts_of setup (past ++ step_b ∷ [])))
    → InPhase given slot new_a new_b log wanted_a wanted_b packets (called_both given step_a step_b history)
in_phase given slot step_a step_b history a b new_a new_b log wanted_a wanted_b packets stations keeps_a keeps_b turns fates packets_are both wants_a wants_b = record {
  air = record {
    stations_are = stations;
    keeps_sender = both.keeps_a;
    keeps_listener = both.keeps_b;
    writes = both.writes;
    wants_sender = wants_then (setup_at given 0) step_a wanted_a (past_of 0 history) (past_of 0 (called_both given step_a step_b history)) both.past_a
        (wants_a (setup_at given 0) (past_of 0 history) keeps_a.knows);
    wants_listener = wants_then (setup_at given 1) step_b wanted_b (past_of 1 history) (past_of 1 (called_both given step_a step_b history)) both.past_b
        (wants_b (setup_at given 1) (past_of 1 history) keeps_b.knows);
    turns_are = both.turns_are ∙ turns;
    fates_are = both.fates_are ∙ fates;
    packets_are = both.packets_are ∙ packets_are;
  };
  received_a = both.received_a;
  received_b = both.received_b;
}

-- ---- both take what they heard

listenings_are : (given : Given) (history : List Event) (at_a at_b : Option (List ℕ)) → given.stations ≡ 0 ∷ 1 ∷ []
    → packet_received 0 history ≡ at_a → packet_received 1 history ≡ at_b
    → after_listenings given given.stations history ≡ called_both given (step_of at_a) (step_of at_b) history
listenings_are given history at_a at_b stations heard_a heard_b =
    ap (λ (stations : List ℕ). after_listenings given stations history) stations
    ∙ ap (λ (heard : Option (List ℕ)). after_listening given 1 (after_call given 0 (step_of heard) history)) heard_a
    ∙ ap (λ (heard : Option (List ℕ)). after_call given 1 (step_of heard) (after_call given 0 (step_of at_a) history))
    (received_other given 0 1 (step_of at_a) history refl ∙ heard_b)

pub both_listened : NamesItsLinks → (given : Given) (slot : ℕ) (history : List Event) (a called_a new_a b called_b new_b : StationState)
    (log first_log new_log : LogState) (notes_a notes_b : List Note) (wanted_a wanted_b : Use) (packets : ℕ) (at_a at_b : Option (List ℕ))
    → HasHeard given slot a b log packets at_a at_b history
    → Calls (step_of at_a) a called_a new_a log first_log notes_a (with_entries (entries_noted A called_a.links notes_a) log)
    → Calls (step_of at_b) b called_b new_b first_log new_log notes_b (with_entries (entries_noted B called_b.links notes_b) first_log)
    → ((setup : Setup) (past : List Step) → Knows setup a.held past → wanted_a ≡ use_of (facts_of setup (past ++ step_of at_a ∷ [])))
    → ((setup : Setup) (past : List Step) → Knows setup b.held past → wanted_b ≡ use_of (facts_of setup (past ++ step_of at_b ∷ [])))
    → InPhase given slot new_a new_b new_log wanted_a wanted_b packets (after_listenings given given.stations history)
both_listened names given slot history a called_a new_a b called_b new_b log first_log new_log notes_a notes_b wanted_a wanted_b packets at_a at_b heard call_a call_b wants_a wants_b =
    subst (InPhase given slot new_a new_b new_log wanted_a wanted_b packets)
    (sym (listenings_are given history at_a at_b heard.is.stations_are heard.heard_a heard.heard_b))
    (in_phase given slot (step_of at_a) (step_of at_b) history a b new_a new_b new_log wanted_a wanted_b packets heard.is.stations_are
    heard.is.keeps_a heard.is.keeps_b heard.is.turns_are heard.fates_are heard.packets_are
    (both_called names given (step_of at_a) (step_of at_b) history a called_a new_a b called_b new_b log first_log new_log notes_a notes_b
    heard.is.keeps_a heard.is.keeps_b heard.is.writes call_a call_b) wants_a wants_b)
