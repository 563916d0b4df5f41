-- Each step of a joint run is the machine's event, and each state of a run that goes on shows a state of the machine.
use Rattle.std.proofs.Common.{◌≡◌, ℕ, Bool, true, false, ◌&&◌, List, [], ◌∷◌, ◌++◌, Option, Some, None, refl, ap, sym, subst, ◌∙◌, if◌then◌else◌}
use Rattle.std.proofs.lemmas.Bool.{and_parts}
use Rattle.instants.specs.declared.indications.Params.{Params}
use Rattle.machines.specs.Machine.{run, run_from, step}
use Rattle.phase_pairs.specs.declared.joint.PhaseEvent.{PhaseEvent}
use Rattle.phase_pairs.specs.declared.joint.PhaseLink.{PhaseLink}
use Rattle.phase_pairs.specs.Agreement.{is_step_right}
use Rattle.phase_pairs.specs.JointRun.{encryption, phases_act, phases_may, phases_start}
use Rattle.phase_pairs.proofs.Proved.{step_right}
use Rattle.joint_controls.specs.Joint.{Joint, JointStep, CentralAcked, CentralEnters, CentralHost, CentralSends, CentralSendsData, CentralTakes, PeripheralAcked, PeripheralEnters, PeripheralFixes, PeripheralFixesData, PeripheralHost, PeripheralSends, PeripheralTakes, Shuts, act, after, after_all, beginning, is_running, may, may_act}
use Rattle.joint_phases.specs.Events.{event_of_step, events_of, with_event}
use Rattle.joint_phases.specs.Facts.{Facts, FactsHold}
use Rattle.joint_phases.specs.Parts.{IsShown}
use Rattle.joint_phases.proofs.JointCentral.{Goes, Runs, runs}
use Rattle.joint_phases.proofs.JointCentral as central
use Rattle.joint_phases.proofs.JointCentralTakes as central_takes
use Rattle.joint_phases.proofs.JointPeripheral as peripheral
use Rattle.joint_phases.proofs.JointPeripheralTakes as peripheral_takes
use Rattle.joint_phases.proofs.MachineFacts.{Settled, settled}

module _ (s : Joint) (m : PhaseLink) (is : IsShown s m) (goes_on : Runs s) (fixed : Settled m) (facts : Facts s)
    (right : (event : PhaseEvent) → phases_may event m ≡ true → is_step_right event m ≡ true) where
  pub each_step : (step : JointStep) → may_act step s ≡ true → is_running (act step s) ≡ true
      → Goes (event_of_step step s) (act step s) m
  each_step (CentralEnters slot) may running = central.goes_enters s m is goes_on slot fixed facts.own_first
  each_step (CentralHost step) may running = central.goes_host s m is goes_on step facts.asked_in_quiet
  each_step (CentralSends slot) may running = central.goes_sends s m is goes_on slot facts.own_first may
  each_step CentralSendsData may running = central.goes_sends_data s m is goes_on may
  each_step CentralAcked may running = central.goes_acked s m is goes_on fixed facts.taken_is_out may
  each_step (CentralTakes slot) may running = central_takes.goes_takes s m slot is goes_on fixed facts right may running
  each_step (PeripheralEnters slot) may running = peripheral.goes_enters s m is goes_on slot facts.begins_alone facts.known_used
  each_step (PeripheralHost step) may running = peripheral.goes_host s m is goes_on step fixed
  each_step (PeripheralFixes slot) may running = peripheral.goes_fixes s m is goes_on slot fixed may
  each_step PeripheralFixesData may running = peripheral.goes_fixes_data s m is goes_on may
  each_step PeripheralSends may running = peripheral.goes_sends s m is goes_on may
  each_step PeripheralAcked may running = peripheral.goes_acked s m is goes_on may
  each_step (PeripheralTakes slot response) may running = peripheral_takes.goes_takes s m slot response is goes_on fixed facts right may running
  each_step Shuts may running = absurd (cc)

-- ---- the runs

-- a state that the machine reaches
pub record Reached (m : PhaseLink) : Type 0 where
  pub events : List PhaseEvent
  pub is : m ≡ run encryption events

append_step : (m : PhaseLink) (events : List PhaseEvent) (event : PhaseEvent) → run_from encryption m (events ++ event ∷ []) ≡ step encryption event (run_from encryption m events)
append_step m [] event = refl
append_step m (first ∷ events) event = append_step (step encryption first m) events event

comes_then : (m : PhaseLink) (event : PhaseEvent) (b : Bool) → b ≡ true → (if b then phases_act event m else m) ≡ phases_act event m
comes_then m event true at = refl
comes_then m event false at = absurd (cc)

stepped : (m : PhaseLink) (event : PhaseEvent) → phases_may event m ≡ true → step encryption event m ≡ phases_act event m
stepped m event comes = comes_then m event (phases_may event m) comes

reached_next : (m : PhaseLink) (event : PhaseEvent) → phases_may event m ≡ true → Reached m → Reached (phases_act event m)
reached_next m event comes r =
    record {
      events = r.events ++ event ∷ [];
      is =
          sym (stepped m event comes) ∙ ap (step encryption event) r.is
          ∙ sym (append_step phases_start r.events event);
    }

pub settled_in : (m : PhaseLink) → Reached m → Settled m
settled_in m r = subst Settled (sym r.is) (settled r.events)

pub right_in : (m : PhaseLink) → Reached m → (event : PhaseEvent) → phases_may event m ≡ true → is_step_right event m ≡ true
right_in m r event =
    subst (λ (x : PhaseLink). phases_may event x ≡ true → is_step_right event x ≡ true) (sym r.is) (step_right r.events event)

-- what is shown after these events
pub record Shows (s : Joint) (m : PhaseLink) : Type 0 where
  pub reached : Reached m
  pub shown : IsShown s m

-- a run that stopped goes on no more
may_not : (s : Joint) (step : JointStep) → is_running s ≡ false → after step s ≡ s
may_not s step stopped = ap (λ b. if b && may_act step s then act step s else s) stopped

stays_stopped : (steps : List JointStep) (s : Joint) → is_running s ≡ false → is_running (after_all steps s) ≡ false
stays_stopped [] s stopped = stopped
stays_stopped (step ∷ steps) s stopped = stays_stopped steps (after step s) (ap is_running (may_not s step stopped) ∙ stopped)

module _ (s : Joint) (m : PhaseLink) (step : JointStep) where
  -- the state of the machine after one step
  abbrev next_link : Bool → PhaseLink
  next_link b = run_from encryption m (with_event (if b then event_of_step step s else None) [])

  goes_next : (event : Option PhaseEvent) (t : Joint) → Reached m → Goes event t m → Shows t (run_from encryption m (with_event event []))
  goes_next None t reached h = record { reached = reached; shown = h }
  goes_next (Some event) t reached h =
      subst (Shows t) (sym (stepped m event h.0)) (record { reached = reached_next m event h.0 reached; shown = h.1 })

  split_events : (event : Option PhaseEvent) (events : List PhaseEvent)
      → run_from encryption m (with_event event events) ≡ run_from encryption (run_from encryption m (with_event event [])) events
  split_events None events = refl
  split_events (Some event) events = refl

  one_step : (b : Bool) → may step s ≡ b → (is_running s ≡ true → Shows s m) → (is_running s ≡ true → Facts s)
      → is_running (if b then act step s else s) ≡ true → Shows (if b then act step s else s) (next_link b)
  one_step false at shows facts running = shows running
  one_step true at shows facts running =
      let both = and_parts (is_running s) (may_act step s) at in
      let here = shows both.0 in
      goes_next (event_of_step step s) (act step s) here.reached
      (each_step s m here.shown (runs s both.0) (settled_in m here.reached) (facts both.0) (right_in m here.reached) step both.1 running)

  pub shows_next : (is_running s ≡ true → Shows s m) → (is_running s ≡ true → Facts s)
      → is_running (after step s) ≡ true → Shows (after step s) (next_link (may step s))
  shows_next = one_step (may step s) refl

pub shows_all : (steps : List JointStep) (s : Joint) (m : PhaseLink) → (is_running s ≡ true → Shows s m) → FactsHold s steps
    → is_running (after_all steps s) ≡ true → Shows (after_all steps s) (run_from encryption m (events_of steps s))
shows_all [] s m shows facts running = shows running
shows_all (step ∷ steps) s m shows facts running =
    let link = next_link s m step (may step s) in
    let h = shows_all steps (after step s) link (shows_next s m step shows facts.0) facts.1 running in
    subst (Shows (after_all steps (after step s))) (sym (split_events s m step (if may step s then event_of_step step s else None) (events_of steps (after step s)))) h

-- a link that begins
first_shown : (central_rx peripheral_rx : ℕ) (first : Params) (slot : ℕ) → IsShown (beginning central_rx peripheral_rx first slot) phases_start
first_shown central_rx peripheral_rx first slot =
    record {
      central =
          record {
            role = refl;
            phase = refl;
            closing = refl;
            awaits = λ a. absurd (cc);
            rejects = refl;
            waits = refl;
            asks_key = refl;
            kept = λ h. refl;
            keeps_first = _;
            encrypts = refl;
            request = refl;
            begins = λ h. absurd (cc);
          };
      peripheral =
          record { role = refl; phase = refl; asks_key = refl; closing = refl; rejects = refl; waits = refl; kept = refl; request = refl };
      down = refl;
      up = refl;
    }

module _ (central_rx peripheral_rx : ℕ) (first : Params) (slot : ℕ) (steps : List JointStep) where
  abbrev start : Joint
  start = beginning central_rx peripheral_rx first slot

  pub shows_run : FactsHold start steps → is_running (after_all steps start) ≡ true → Shows (after_all steps start) (run encryption (events_of steps start))
  shows_run facts running =
      shows_all steps start phases_start (λ h. record { reached = record { events = []; is = refl }; shown = first_shown central_rx peripheral_rx first slot }) facts running
