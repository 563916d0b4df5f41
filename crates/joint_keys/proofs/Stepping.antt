-- Each step of a joint run keeps how its ends stand to each other.
use Rattle.std.proofs.Common.{◌≡◌, ◌⊎◌, inl, inr, ℕ, ◌+◌, Bool, true, false, if◌then◌else◌, List, [], ◌∷◌, ◌++◌, Option, Some, None, is_some, refl, sym, ap, subst, ◌∙◌, arith}
use Rattle.std.proofs.lemmas.Bool.{and_parts}
use Rattle.ble_base.specs.declared.roles.Role.TheVariants.{Central, Peripheral}
use Rattle.enc_phase.specs.declared.facts.PhaseFacts.{PhaseFacts}
use Rattle.enc_phase.specs.Phases.{seals}
use Rattle.phase_pairs.specs.declared.joint.PhaseEvent.{PhaseEvent}
use Rattle.phase_pairs.specs.declared.joint.PhaseEvent.TheVariants.{PeripheralFixes as peripheral_fixes, PeripheralSends as peripheral_sends}
use Rattle.phase_pairs.specs.declared.joint.PhaseWay.{PhaseWay}
use Rattle.phase_pairs.specs.enc_phase.declared.classes.PduClass.TheVariants.{Data as data_class}
use Rattle.phase_pairs.specs.Counted.{Counted, Nothing, counted_run, counted_start, first_after, sending_effect}
use Rattle.joint_controls.specs.Joint.{Item, Joint, JointStep, Way, CentralAcked, CentralEnters, CentralHost, CentralSends, CentralSendsData, CentralTakes, Clear, Control, Data, Fixed, OnAir, PeripheralAcked, PeripheralEnters, PeripheralFixes, PeripheralFixesData, PeripheralHost, PeripheralSends, PeripheralTakes, Shuts, Taken, act, central_takes, fixed, is_clear, is_fixed, is_running, is_taken, item_on_air, may_act, next_item, sent_up}
use Rattle.joint_phases.specs.Events.{event_of_step}
use Rattle.joint_phases.specs.Facts.{Facts}
use Rattle.joint_phases.specs.Parts.{IsShown}
use Rattle.joint_phases.proofs.JointCentral.{Goes, Runs}
use Rattle.joint_phases.proofs.Steps.{Reached, each_step, right_in, settled_in}
use Rattle.joint_keys.specs.KeyedJoint.{KeyedJoint, KeyedJointStep, central_keys_after, keyed_act, peripheral_keys_after}
use Rattle.joint_keys.proofs.BothGoing.{BothGo, both_go, sends_up, takes_down}
use Rattle.joint_keys.proofs.Counting.{Counts, ahead_stays, central_counts, counted_with, link_of_run, one_more, peripheral_counts, peripheral_numbers, shown_with}
use Rattle.joint_keys.proofs.EndGoing.{end_kept, in_session, seals_on, sent_more, sent_stays}
use Rattle.joint_keys.proofs.Fitting.{IsEvent, is_of_central, is_of_peripheral, numbers_up, of_central, of_peripheral}
use Rattle.joint_keys.proofs.KeysGoing.{IsAt}
use Rattle.joint_keys.proofs.Made.{IsSealedAs, sealed_ways}
use Rattle.joint_keys.proofs.Standing.{Standing, data_ahead, down_stays_up, made_down, made_up, sealed_now}

-- ---- how far the machine's number of the peripheral is ahead

clear_none : (w : Way) → is_clear w ≡ true → data_ahead w ≡ 0
clear_none Clear is = refl
clear_none (Fixed item sealed) is = absurd (cc)
clear_none (OnAir item sealed) is = absurd (cc)
clear_none (Taken item) is = absurd (cc)

taken_none : (w : Way) → is_taken w ≡ true → data_ahead w ≡ 0
taken_none (Taken item) is = refl
taken_none (Fixed item sealed) is = absurd (cc)
taken_none (OnAir item sealed) is = absurd (cc)
taken_none Clear is = absurd (cc)

fixed_none : (o : Option Item) → data_ahead (fixed o) ≡ 0
fixed_none None = refl
fixed_none (Some Data) = refl
fixed_none (Some (Control outgoing ctrl)) = refl

air_none : (w : Way) (slot : ℕ) (s : Joint) → is_some (item_on_air w) ≡ true → data_ahead (central_takes w slot s).up ≡ data_ahead w
air_none (OnAir item sealed) slot s some = refl
air_none Clear slot s some = absurd (cc)
air_none (Fixed item sealed) slot s some = absurd (cc)
air_none (Taken item) slot s some = absurd (cc)

-- while data that is fixed waits, the peripheral goes on sealing
none_or_on : (p q : PhaseFacts) (w : Way) → IsSealedAs Peripheral p w → IsSealedAs Peripheral q w → (data_ahead w ≡ 0) ⊎ (sending_effect false Peripheral p q ≡ Nothing)
none_or_on p q (Fixed Data true) before now = inr (seals_on Peripheral p q (in_session Peripheral p (sym before)) (sym now))
none_or_on p q (Fixed Data false) before now = inl refl
none_or_on p q (Fixed (Control outgoing ctrl) sealed) before now = inl refl
none_or_on p q Clear before now = inl refl
none_or_on p q (OnAir item sealed) before now = inl refl
none_or_on p q (Taken item) before now = inl refl

one_ahead : (b : Bool) (n : ℕ) → (if b then n + 1 else n) ≡ n + (if b then 1 else 0)
one_ahead true n = refl
one_ahead false n = omega arith

module _ (p : PhaseFacts) (n : ℕ) (zero : seals Peripheral p ≡ false → n ≡ 0) where
  -- data is fixed
  fixes_next : (ahead : ℕ) → ahead ≡ 0
      → first_after (sending_effect true Peripheral p p) (n + ahead) ≡ first_after (sending_effect false Peripheral p p) n + data_ahead (Fixed Data (seals Peripheral p))
  fixes_next ahead none =
      let same : n + ahead ≡ n = omega (arith, none) in
      ap (λ (x : ℕ). first_after (sending_effect true Peripheral p p) x) same ∙ sym (sent_more Peripheral p n zero) ∙ one_ahead (seals Peripheral p) n
      ∙ ap (λ (x : ℕ). x + data_ahead (Fixed Data (seals Peripheral p))) (sent_stays Peripheral p n zero)

  -- it is sent
  none_more : (b : Bool) → b ≡ false → n ≡ 0 → n + (if b then 1 else 0) ≡ 0
  none_more true is none = absurd (cc)
  none_more false is none = omega (arith, none)

  data_next : (sealed : Bool) → sealed ≡ seals Peripheral p
      → first_after (sending_effect false Peripheral p p) (n + (if sealed then 1 else 0)) ≡ first_after (sending_effect true Peripheral p p) n + 0
  data_next sealed is =
      let b = seals Peripheral p in
      ap (λ (x : Bool). first_after (sending_effect false Peripheral p p) (n + (if x then 1 else 0))) is
      ∙ sym (sent_stays Peripheral p (n + (if b then 1 else 0)) (λ clear. none_more b clear (zero clear))) ∙ sym (one_ahead b n) ∙ sent_more Peripheral p n zero
      ∙ plain (first_after (sending_effect true Peripheral p p) n)
    where
      plain : (x : ℕ) → x ≡ x + 0
      plain x = omega arith

  abbrev SendsOn : Way → Type 0
  SendsOn w =
      first_after (sending_effect (numbers_up PeripheralSends w) Peripheral p p) (n + data_ahead w)
      ≡ first_after (sending_effect true Peripheral p p) n + data_ahead (sent_up w (seals Peripheral p))

  sends_next : (w : Way) → is_fixed w ≡ true → IsSealedAs Peripheral p w → SendsOn w
  sends_next (Fixed Data sealed) fix is = data_next sealed is
  sends_next (Fixed (Control outgoing ctrl) sealed) fix is = ahead_stays (sending_effect true Peripheral p p) n 0 (inl refl)
  sends_next Clear fix is = absurd (cc)
  sends_next (OnAir item sealed) fix is = absurd (cc)
  sends_next (Taken item) fix is = absurd (cc)

-- ---- the counters

module _ (s : KeyedJoint) (st : Standing s) (ltk : List ℕ) where
  abbrev j : Joint
  j = s.joint

  abbrev r : Counted
  r = counted_run st.events

  abbrev CountsAfter : JointStep → Type 0
  CountsAfter step =
      Counts (counted_with j (act step j) r st.shown (event_of_step step j)) (central_keys_after step ltk j s.central).end
      (peripheral_keys_after step ltk j s.peripheral).end (data_ahead (act step j).up)

  by_central : (step : JointStep) → BothGo step ltk s → is_of_central step ≡ true → may_act step j ≡ true → is_running (act step j) ≡ true
      → Goes (event_of_step step j) (act step j) r.link
      → Counts (counted_with j (act step j) r st.shown (event_of_step step j)) (central_keys_after step ltk j s.central).end s.peripheral.end (data_ahead j.up)
  by_central step both of may running goes =
      central_counts j (act step j) r st.shown (central_keys_after step ltk j s.central).material s.central.end (central_keys_after step ltk j s.central).end s.peripheral.end
      (data_ahead j.up) st.central _ _ both.central.end_goes st.counts (event_of_step step j) goes (of_central j r.link.up step of may running)

  abbrev p : PhaseFacts
  p = j.peripheral.phase

  fits_up : (step : JointStep) → is_of_peripheral step ≡ true → may_act step j ≡ true → is_running (act step j) ≡ true
      → IsEvent false (event_of_step step j) (numbers_up step j.up) (takes_down step) r.link.up
  fits_up step of may running =
      subst (λ (w : PhaseWay). IsEvent false (event_of_step step j) (numbers_up step j.up) (takes_down step) w) (sym st.shown.up) (of_peripheral j step of may running)

  -- no data is fixed, and no PDU sent
  quiet_peripheral : (step : JointStep) → BothGo step ltk s → is_of_peripheral step ≡ true → may_act step j ≡ true → is_running (act step j) ≡ true
      → Goes (event_of_step step j) (act step j) r.link → sends_up step ≡ false → numbers_up step j.up ≡ false → data_ahead (act step j).up ≡ data_ahead j.up
      → (data_ahead j.up ≡ 0) ⊎ (sending_effect false Peripheral p (act step j).peripheral.phase ≡ Nothing)
      → Counts (counted_with j (act step j) r st.shown (event_of_step step j)) s.central.end (peripheral_keys_after step ltk j s.peripheral).end (data_ahead (act step j).up)
  quiet_peripheral step both of may running goes none quiet same either =
      let q = (act step j).peripheral.phase in
      let n = s.peripheral.end.sent in
      peripheral_counts j (act step j) r st.shown (peripheral_keys_after step ltk j s.peripheral).material s.central.end s.peripheral.end
      (peripheral_keys_after step ltk j s.peripheral).end (data_ahead j.up) (data_ahead (act step j).up) st.peripheral (sends_up step) (takes_down step) (numbers_up step j.up)
      both.peripheral.end_goes st.counts
      (ap (λ (b : Bool). first_after (sending_effect b Peripheral p q) (n + data_ahead j.up)) quiet ∙ ahead_stays (sending_effect false Peripheral p q) n (data_ahead j.up) either
      ∙ (λ i. first_after (sending_effect (sym none i) Peripheral p q) n + sym same i))
      (event_of_step step j) none same goes (fits_up step of may running)

  -- of each step
  pub counts_next : (step : JointStep) → BothGo step ltk s → may_act step j ≡ true → is_running (act step j) ≡ true
      → IsSealedAs Peripheral (act step j).peripheral.phase (act step j).up → Goes (event_of_step step j) (act step j) r.link → CountsAfter step
  counts_next (CentralEnters slot) both may running now goes = by_central (CentralEnters slot) both refl may running goes
  counts_next (CentralHost step) both may running now goes = by_central (CentralHost step) both refl may running goes
  counts_next (CentralSends slot) both may running now goes = by_central (CentralSends slot) both refl may running goes
  counts_next CentralSendsData both may running now goes = by_central CentralSendsData both refl may running goes
  counts_next CentralAcked both may running now goes = by_central CentralAcked both refl may running goes
  counts_next (CentralTakes slot) both may running now goes =
      subst (λ (n : ℕ). Counts (counted_with j (act (CentralTakes slot) j) r st.shown (event_of_step (CentralTakes slot) j)) (central_keys_after (CentralTakes slot) ltk j s.central).end s.peripheral.end n)
      (sym (air_none j.up slot j (and_parts (is_some (item_on_air j.up)) _ may).0)) (by_central (CentralTakes slot) both refl may running goes)
  counts_next (PeripheralEnters slot) both may running now goes =
      quiet_peripheral (PeripheralEnters slot) both refl may running goes refl refl refl (none_or_on p (act (PeripheralEnters slot) j).peripheral.phase j.up (sealed_now s st).1 now)
  counts_next (PeripheralHost step) both may running now goes =
      quiet_peripheral (PeripheralHost step) both refl may running goes refl refl refl (none_or_on p (act (PeripheralHost step) j).peripheral.phase j.up (sealed_now s st).1 now)
  counts_next (PeripheralFixes slot) both may running now goes =
      let none = clear_none j.up (and_parts (is_clear j.up) _ may).0 in
      quiet_peripheral (PeripheralFixes slot) both refl may running goes refl refl (fixed_none (next_item j.peripheral) ∙ sym none) (inl none)
  counts_next PeripheralFixesData both may running now goes =
      peripheral_numbers j (act PeripheralFixesData j) r st.shown s.peripheral.material s.central.end s.peripheral.end s.peripheral.end (data_ahead j.up)
      (data_ahead (act PeripheralFixesData j).up) st.peripheral false false true both.peripheral.end_goes st.counts
      (fixes_next p s.peripheral.end.sent st.peripheral.clear_sent (data_ahead j.up) (clear_none j.up (and_parts (is_clear j.up) _ may).0))
      (peripheral_fixes data_class) goes (fits_up PeripheralFixesData refl may running)
  counts_next PeripheralSends both may running now goes =
      peripheral_numbers j (act PeripheralSends j) r st.shown s.peripheral.material s.central.end s.peripheral.end (peripheral_keys_after PeripheralSends ltk j s.peripheral).end
      (data_ahead j.up) (data_ahead (act PeripheralSends j).up) st.peripheral true false (numbers_up PeripheralSends j.up) both.peripheral.end_goes st.counts
      (sends_next p s.peripheral.end.sent st.peripheral.clear_sent j.up (and_parts (is_fixed j.up) _ may).0 (sealed_now s st).1)
      peripheral_sends goes (fits_up PeripheralSends refl may running)
  counts_next PeripheralAcked both may running now goes =
      let none = taken_none j.up (and_parts (is_taken j.up) _ may).0 in
      quiet_peripheral PeripheralAcked both refl may running goes refl refl (sym none) (inl none)
  counts_next (PeripheralTakes slot response) both may running now goes =
      let same = down_stays_up j.down slot response j in
      quiet_peripheral (PeripheralTakes slot response) both refl may running goes refl refl (ap data_ahead same)
      (none_or_on p (act (PeripheralTakes slot response) j).peripheral.phase j.up (sealed_now s st).1 (subst (IsSealedAs Peripheral (act (PeripheralTakes slot response) j).peripheral.phase) same now))
  counts_next Shuts both may running now goes = absurd (cc)

-- ---- the whole

abbrev events_with : Option PhaseEvent → List PhaseEvent → List PhaseEvent
events_with None events = events
events_with (Some event) events = events ++ event ∷ []

grown : (s t : Joint) (events : List PhaseEvent) (is : IsShown s (counted_run events).link) (event : Option PhaseEvent)
    → counted_run (events_with event events) ≡ counted_with s t (counted_run events) is event
grown s t events is None = refl
grown s t events is (Some event) = one_more counted_start events event

pub standing_next : (s : KeyedJoint) → Runs s.joint → Facts s.joint → IsAt Central s.joint.central → IsAt Peripheral s.joint.peripheral → Standing s → (ks : KeyedJointStep)
    → may_act ks.step s.joint ≡ true → is_running (act ks.step s.joint) ≡ true → Standing (keyed_act ks s)
standing_next s goes_on facts at_central at_peripheral st ks may running =
    let j = s.joint in
    let step = ks.step in
    let t = act step j in
    let r = counted_run st.events in
    let both = both_go s goes_on at_central at_peripheral st.central st.peripheral step ks.ltk may in
    let reached : Reached r.link = record { events = st.events; is = link_of_run st.events } in
    let goes = each_step j r.link st.shown goes_on (settled_in r.link reached) facts (right_in r.link reached) step may running in
    let event = event_of_step step j in
    let events = events_with event st.events in
    let same = grown j t st.events st.shown event in
    let shown : IsShown t (counted_run events).link = subst (λ (q : Counted). IsShown t q.link) (sym same) (shown_with j t r st.shown event goes) in
    let sealed = sealed_ways t (counted_run events).link events (link_of_run events) shown in
    record {
      events = events;
      shown = shown;
      counts = subst (λ (q : Counted). Counts q (central_keys_after step ks.ltk j s.central).end (peripheral_keys_after step ks.ltk j s.peripheral).end (data_ahead t.up)) (sym same)
          (counts_next s st ks.ltk step both may running sealed.1 goes);
      central = end_kept Central _ _ j.central.phase t.central.phase _ s.central.end _ both.central.end_goes;
      peripheral = end_kept Peripheral _ _ j.peripheral.phase t.peripheral.phase _ s.peripheral.end _ both.peripheral.end_goes;
      down = made_down s st step ks.ltk both may sealed.0;
      up = made_up s st step ks.ltk both may sealed.1;
    }
