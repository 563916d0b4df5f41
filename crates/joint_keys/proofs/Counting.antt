-- The counters of the ends of a joint run are the numbers of the machine of phases. A peripheral numbers data in the machine
-- as it is fixed, and here as it is sent.
use Rattle.std.proofs.Common.{◌≡◌, ◌⊎◌, inl, inr, ℕ, ◌+◌, Bool, true, false, ◌&&◌, if◌then◌else◌, List, [], ◌∷◌, ◌++◌, Option, Some, None, refl, sym, ap, subst, ◌∙◌, arith}
use Rattle.ble_base.specs.declared.roles.Role.TheVariants.{Central, Peripheral}
use Rattle.enc_phase.specs.declared.facts.PhaseFacts.{PhaseFacts}
use Rattle.enc_phase.specs.Phases.{opens}
use Rattle.phased_control.specs.enc_phase.Sealing.{EncEnd}
use Rattle.machines.specs.Machine.{run, run_from}
use Rattle.phase_pairs.specs.declared.joint.PhaseEvent.{PhaseEvent}
use Rattle.phase_pairs.specs.declared.joint.PhaseLink.{PhaseLink}
use Rattle.phase_pairs.specs.Counted.{Counted, Effect, FirstMore, FirstNone, Nothing, SecondMore, SecondNone, counted_between, counted_from, counted_run, counted_start, counted_step, effect_down, effect_up, first_after, is_sending, is_taking, receiving_effect, second_after, sending_effect}
use Rattle.phase_pairs.specs.JointRun.{encryption, phases_act, phases_may}
use Rattle.keyed_control.specs.declared.material.KeyMaterial.{KeyMaterial}
use Rattle.joint_controls.specs.Joint.{Joint}
use Rattle.joint_phases.specs.Parts.{IsShown}
use Rattle.joint_phases.proofs.JointCentral.{Goes}
use Rattle.joint_keys.proofs.EndChanges.{EndGoes, IsEnd}
use Rattle.joint_keys.proofs.EndGoing.{counters_stay}
use Rattle.joint_keys.proofs.Fitting.{IsEvent}

-- ---- the runs with numbers

link_by : (b : Bool) (event : PhaseEvent) (r : Counted)
    → (if b then counted_between event (phases_act event r.link) r else r).link ≡ (if b then phases_act event r.link else r.link)
link_by true event r = refl
link_by false event r = refl

link_from : (r : Counted) (events : List PhaseEvent) → (counted_from r events).link ≡ run_from encryption r.link events
link_from r [] = refl
link_from r (event ∷ events) =
    link_from (counted_step event r) events
    ∙ ap (λ (m : PhaseLink). run_from encryption m events) (link_by (phases_may event r.link) event r)

pub link_of_run : (events : List PhaseEvent) → (counted_run events).link ≡ run encryption events
link_of_run events = link_from counted_start events

pub one_more : (r : Counted) (events : List PhaseEvent) (event : PhaseEvent) → counted_from r (events ++ event ∷ []) ≡ counted_step event (counted_from r events)
one_more r [] event = refl
one_more r (first ∷ events) event = one_more (counted_step first r) events event

-- the counters of a central and of a peripheral; this many data PDUs that the peripheral will seal are fixed and not sent
pub record Counts (r : Counted) (e f : EncEnd) (ahead : ℕ) : Type 0 where
  pub central_sent : r.central_sent ≡ e.sent
  pub central_opened : r.central_opened ≡ e.opened
  pub peripheral_sent : r.peripheral_sent ≡ f.sent + ahead
  pub peripheral_opened : r.peripheral_opened ≡ f.opened

-- ---- one step

second_of_sending : (b sends : Bool) (n : ℕ) → second_after (if b then FirstNone else (if sends then FirstMore else Nothing)) n ≡ n
second_of_sending true sends n = refl
second_of_sending false true n = refl
second_of_sending false false n = refl

first_of_receiving : (b takes : Bool) (n : ℕ) → first_after (if b then SecondNone else (if takes then SecondMore else Nothing)) n ≡ n
first_of_receiving true takes n = refl
first_of_receiving false true n = refl
first_of_receiving false false n = refl

-- what is ahead stays so where nothing is numbered
pub ahead_stays : (effect : Effect) (n a : ℕ) → (a ≡ 0) ⊎ (effect ≡ Nothing) → first_after effect (n + a) ≡ first_after effect n + a
ahead_stays effect n a (inl none) = subst (λ (x : ℕ). first_after effect (n + x) ≡ first_after effect n + x) (sym none) (by effect)
  where
    by : (effect : Effect) → first_after effect (n + 0) ≡ first_after effect n + 0
    by FirstMore = omega arith
    by FirstNone = omega arith
    by effect = omega arith
ahead_stays effect n a (inr is) = subst (λ (x : Effect). first_after x (n + a) ≡ first_after x n + a) (sym is) refl

module _ (s t : Joint) (r : Counted) (is : IsShown s r.link) where
  abbrev pub counted_with : Option PhaseEvent → Counted
  counted_with None = r
  counted_with (Some event) = counted_step event r

  stepped : (event : PhaseEvent) → phases_may event r.link ≡ true → counted_step event r ≡ counted_between event (phases_act event r.link) r
  stepped event may = ap (λ (b : Bool). if b then counted_between event (phases_act event r.link) r else r) may

  pub shown_with : (event : Option PhaseEvent) → Goes event t r.link → IsShown t (counted_with event).link
  shown_with None goes = goes
  shown_with (Some event) goes = subst (λ (q : Counted). IsShown t q.link) (sym (stepped event goes.0)) goes.1

  -- ---- of the central

  module _ (m : KeyMaterial) (e e' f : EncEnd) (ahead : ℕ) (here : IsEnd Central s.central.phase e) (sends takes : Bool)
      (goes_on : EndGoes Central sends (takes && opens Central s.central.phase) s.central.phase t.central.phase m e e') (counts : Counts r e f ahead) where
    central_stays : t.central.phase ≡ s.central.phase → sends ≡ false → takes ≡ false → Counts r e' f ahead
    central_stays same none nothing =
        let stay =
        counters_stay Central s.central.phase m e here e'
        (subst (λ (q : PhaseFacts). EndGoes Central false false s.central.phase q m e e') same
        (subst (λ (b : Bool). EndGoes Central b false s.central.phase t.central.phase m e e') none
        (subst (λ (b : Bool). EndGoes Central sends (b && opens Central s.central.phase) s.central.phase t.central.phase m e e') nothing goes_on))) in
        record {
          central_sent = counts.central_sent ∙ sym stay.0;
          central_opened = counts.central_opened ∙ sym stay.1;
          peripheral_sent = counts.peripheral_sent;
          peripheral_opened = counts.peripheral_opened;
        }

    central_moves : (event : PhaseEvent) (n : PhaseLink) → IsShown t n → IsEvent true (Some event) sends takes r.link.up → Counts (counted_between event n r) e' f ahead
    central_moves event n shown fits =
        let down : effect_down event r.link n ≡ sending_effect sends Central s.central.phase t.central.phase =
        (λ i. if fits.0 i then sending_effect (fits.1.0 i) Central (sym is.central.phase i) (sym shown.central.phase i)
        else receiving_effect (is_taking event && opens Peripheral r.link.peripheral.phase) Peripheral r.link.peripheral.phase n.peripheral.phase) in
        let up : effect_up event r.link n ≡ receiving_effect (takes && opens Central s.central.phase) Central s.central.phase t.central.phase =
        (λ i. if fits.0 i then receiving_effect (fits.1.1 i && opens Central (sym is.central.phase i)) Central (sym is.central.phase i) (sym shown.central.phase i)
        else sending_effect (is_sending event r.link.up) Peripheral r.link.peripheral.phase n.peripheral.phase) in
        record {
          central_sent = (λ i. first_after (down i) (counts.central_sent i)) ∙ sym goes_on.sends_on;
          central_opened = (λ i. second_after (up i) (counts.central_opened i)) ∙ sym goes_on.opens_on;
          peripheral_sent = ap (λ (x : Effect). first_after x r.peripheral_sent) up ∙ first_of_receiving _ _ r.peripheral_sent ∙ counts.peripheral_sent;
          peripheral_opened =
              ap (λ (x : Effect). second_after x r.peripheral_opened) down ∙ second_of_sending _ _ r.peripheral_opened ∙ counts.peripheral_opened;
        }

    pub central_counts : (event : Option PhaseEvent) → Goes event t r.link → IsEvent true event sends takes r.link.up → Counts (counted_with event) e' f ahead
    central_counts None shown fits = central_stays (shown.central.phase ∙ sym is.central.phase) fits.0 fits.1
    central_counts (Some event) goes fits =
        subst (λ (q : Counted). Counts q e' f ahead) (sym (stepped event goes.0)) (central_moves event (phases_act event r.link) goes.1 fits)

  -- ---- of the peripheral

  module _ (m : KeyMaterial) (e f f' : EncEnd) (ahead now : ℕ) (here : IsEnd Peripheral s.peripheral.phase f) (sends takes numbers : Bool)
      (goes_on : EndGoes Peripheral sends (takes && opens Peripheral s.peripheral.phase) s.peripheral.phase t.peripheral.phase m f f')
      (counts : Counts r e f ahead)
      (next : first_after (sending_effect numbers Peripheral s.peripheral.phase t.peripheral.phase) (f.sent + ahead)
      ≡ first_after (sending_effect sends Peripheral s.peripheral.phase t.peripheral.phase) f.sent + now) where
    peripheral_stays : t.peripheral.phase ≡ s.peripheral.phase → sends ≡ false → now ≡ ahead → takes ≡ false → Counts r e f' now
    peripheral_stays phase none same nothing =
        let stay =
        counters_stay Peripheral s.peripheral.phase m f here f'
        (subst (λ (q : PhaseFacts). EndGoes Peripheral false false s.peripheral.phase q m f f') phase
        (subst (λ (b : Bool). EndGoes Peripheral b false s.peripheral.phase t.peripheral.phase m f f') none
        (subst (λ (b : Bool). EndGoes Peripheral sends (b && opens Peripheral s.peripheral.phase) s.peripheral.phase t.peripheral.phase m f f') nothing goes_on))) in
        record {
          central_sent = counts.central_sent;
          central_opened = counts.central_opened;
          peripheral_sent = counts.peripheral_sent ∙ (λ i. sym stay.0 i + sym same i);
          peripheral_opened = counts.peripheral_opened ∙ sym stay.1;
        }

    peripheral_moves : (event : PhaseEvent) (n : PhaseLink) → IsShown t n → IsEvent false (Some event) numbers takes r.link.up → Counts (counted_between event n r) e f' now
    peripheral_moves event n shown fits =
        let up : effect_up event r.link n ≡ sending_effect numbers Peripheral s.peripheral.phase t.peripheral.phase =
        (λ i. if fits.0 i then receiving_effect (is_taking event && opens Central r.link.central.phase) Central r.link.central.phase n.central.phase
        else sending_effect (fits.1.0 i) Peripheral (sym is.peripheral.phase i) (sym shown.peripheral.phase i)) in
        let down : effect_down event r.link n ≡ receiving_effect (takes && opens Peripheral s.peripheral.phase) Peripheral s.peripheral.phase t.peripheral.phase =
        (λ i. if fits.0 i then sending_effect (is_sending event r.link.up) Central r.link.central.phase n.central.phase
        else receiving_effect (fits.1.1 i && opens Peripheral (sym is.peripheral.phase i)) Peripheral (sym is.peripheral.phase i) (sym shown.peripheral.phase i)) in
        record {
          central_sent = ap (λ (x : Effect). first_after x r.central_sent) down ∙ first_of_receiving _ _ r.central_sent ∙ counts.central_sent;
          central_opened = ap (λ (x : Effect). second_after x r.central_opened) up ∙ second_of_sending _ _ r.central_opened ∙ counts.central_opened;
          peripheral_sent =
              (λ i. first_after (up i) (counts.peripheral_sent i)) ∙ next ∙ ap (λ (x : ℕ). x + now) (sym goes_on.sends_on);
          peripheral_opened = (λ i. second_after (down i) (counts.peripheral_opened i)) ∙ sym goes_on.opens_on;
        }

    pub peripheral_numbers : (event : PhaseEvent) → Goes (Some event) t r.link → IsEvent false (Some event) numbers takes r.link.up
        → Counts (counted_step event r) e f' now
    peripheral_numbers event goes fits =
        subst (λ (q : Counted). Counts q e f' now) (sym (stepped event goes.0)) (peripheral_moves event (phases_act event r.link) goes.1 fits)

    pub peripheral_counts : (event : Option PhaseEvent) → sends ≡ false → now ≡ ahead → Goes event t r.link → IsEvent false event numbers takes r.link.up
        → Counts (counted_with event) e f' now
    peripheral_counts None none same shown fits = peripheral_stays (shown.peripheral.phase ∙ sym is.peripheral.phase) none same fits.1
    peripheral_counts (Some event) none same goes fits = peripheral_numbers event goes fits
