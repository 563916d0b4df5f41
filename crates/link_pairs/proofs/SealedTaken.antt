-- A sealed PDU that was taken may come again: its listener still opens what is sealed, unless the PDU pauses the encryption.
use Rattle.std.proofs.Common.{◌≡◌, ◌⊎◌, inl, inr, ℕ, ◌+◌, Bool, true, false, List, [], Option, Some, None, is_some, refl, sym, ap, subst, ◌∙◌}
use Rattle.std.proofs.lemmas.Bool.{and_parts}
use Rattle.ble_base.specs.declared.roles.Role.{Role}
use Rattle.ble_base.specs.declared.roles.Role.TheVariants.{Central, Peripheral}
use Rattle.joint_laws.specs.joint_controls.phased_control.enc_phase.declared.facts.PhaseFacts.{PhaseFacts}
use Rattle.joint_laws.specs.joint_controls.phased_control.enc_phase.Phases.{opens, seals}
use Rattle.joint_laws.specs.joint_controls.phased_control.enc_phase.Sealing.{EncEnd}
use Rattle.joint_laws.specs.joint_controls.phased_control.Phased.{Phased}
use Rattle.joint_laws.specs.joint_controls.phased_control.Taken.{Response}
use Rattle.joint_laws.specs.joint_controls.Joint.{Item, Joint, JointStep, Way, CentralAcked, CentralEnters, CentralHost, CentralSends, CentralSendsData, CentralTakes, Clear, Control, Data, Fixed, OnAir, PeripheralAcked, PeripheralEnters, PeripheralFixes, PeripheralFixesData, PeripheralHost, PeripheralSends, PeripheralTakes, Shuts, Taken, act, central_takes, fixed, is_fixed, is_running, item_on_air, may_act, next_item, no_response, on_air, peripheral_takes, sent_up}
use Rattle.joint_laws.specs.joint_parameters.Turns.{Link}
use Rattle.phase_pairs.specs.declared.joint.PhaseEvent.TheVariants.{PeripheralBegins}
use Rattle.phase_pairs.specs.declared.joint.PhaseLink.{PhaseLink}
use Rattle.phase_pairs.specs.Counted.{counted_run}
use Rattle.joint_phases.specs.Agreement.{is_opened_right}
use Rattle.joint_phases.specs.Events.{does_begin, event_if}
use Rattle.joint_phases.proofs.JointCentral.{Goes}
use Rattle.joint_phases.proofs.Steps.{Reached, each_step, right_in, settled_in}
use Rattle.joint_keys.specs.KeyedJoint.{KeyedJoint, KeyedJointStep, Keys, central_keys_after, keyed_act, keys_taking, peripheral_keys_after}
use Rattle.joint_keys.specs.KeyedLinks.{all_keyed_steps}
use Rattle.joint_keys.proofs.Counting.{link_of_run}
use Rattle.joint_keys.proofs.LinkKeys.{is_run}
use Rattle.joint_keys.proofs.Made.{MadeOn, equal_is}
use Rattle.joint_keys.proofs.Standing.{Standing}
use Rattle.joint_keys.proofs.Stepping.{standing_next}
use Rattle.joint_keys.proofs.Vectored.{vectored}
use Rattle.joint_keys.proofs.Walking.{Here, always}
use Rattle.link_model.specs.Setup.{Setup, first_anchor, first_params}
use Rattle.link_pairs.specs.Ends.{AreEnds}
use Rattle.link_pairs.specs.Shown.{new_link}
use Rattle.link_pairs.proofs.KeysAt.{central_phase_at, peripheral_phase_at}
use Rattle.link_pairs.proofs.Reaching.{IsReached, joint_at, keys_at}
use Rattle.link_pairs.proofs.StillOpening.{acked_on, central_enters_on, host_on, is_pause, sends_on, takes_on}

-- ---- one direction: what was taken may be sealed only as its listener opens, or pauses the encryption

abbrev IsExpectedIn : Item → EncEnd → Role → PhaseFacts → Type 0
IsExpectedIn item made role phase = seals made.role made.phase ≡ true → (opens role phase ≡ true) ⊎ (is_pause item ≡ true)

abbrev RightOn : Way → EncEnd → Role → PhaseFacts → Type 0
RightOn way made role phase = (item : Item) → way ≡ Taken item → IsExpectedIn item made role phase

not_taken : (item : Item) → Clear ≡ Taken item → ⊥
not_taken item is = cc

air_not_taken : (o : Option Item) (sealed : Bool) (item : Item) → on_air o sealed ≡ Taken item → ⊥
air_not_taken None sealed item is = cc
air_not_taken (Some other) sealed item is = cc

fixed_not_taken : (o : Option Item) (item : Item) → fixed o ≡ Taken item → ⊥
fixed_not_taken None item is = cc
fixed_not_taken (Some other) item is = cc

data_not_taken : (sealed : Bool) (item : Item) → Fixed Data sealed ≡ Taken item → ⊥
data_not_taken sealed item is = cc

sent_not_taken : (way : Way) (sealed : Bool) (item : Item) → is_fixed way ≡ true → sent_up way sealed ≡ Taken item → ⊥
sent_not_taken (Fixed Data before) sealed item may is = cc
sent_not_taken (Fixed (Control outgoing ctrl) before) sealed item may is = cc
sent_not_taken Clear sealed item may is = cc
sent_not_taken (OnAir other before) sealed item may is = cc
sent_not_taken (Taken other) sealed item may is = cc

-- its sender made nothing new, and its listener still opens
kept : (way : Way) (made now : EncEnd) (role : Role) (p q : PhaseFacts) → now ≡ made → (opens role p ≡ true → opens role q ≡ true)
    → RightOn way made role p → RightOn way now role q
kept way made now role p q same on right item at sealed = by (right item at (ap (λ (e : EncEnd). seals e.role e.phase) (sym same) ∙ sealed))
  where
    by : (opens role p ≡ true) ⊎ (is_pause item ≡ true) → (opens role q ≡ true) ⊎ (is_pause item ≡ true)
    by (inl is) = inl (on is)
    by (inr is) = inr is

took_made : (item : Option Item) (slot : ℕ) (response : Response) (x : Phased) (k : Keys) → (keys_taking item slot response x k).made ≡ k.made
took_made None slot response x k = refl
took_made (Some item) slot response x k = refl

-- ---- both directions

record AreRight (s : KeyedJoint) : Type 0 where
  down : RightOn s.joint.down s.central.made Peripheral s.joint.peripheral.phase
  up : RightOn s.joint.up s.peripheral.made Central s.joint.central.phase

module _ (s : KeyedJoint) (here : Here s.joint) (st : Standing s) where
  abbrev j : Joint
  j = s.joint

  abbrev m : PhaseLink
  m = (counted_run st.events).link

  -- a peripheral that enters an event begins no encryption
  peripheral_phase_stays : (slot : ℕ) → is_running (act (PeripheralEnters slot) j) ≡ true → (act (PeripheralEnters slot) j).peripheral.phase ≡ j.peripheral.phase
  peripheral_phase_stays slot running =
      let reached : Reached m = record { events = st.events; is = link_of_run st.events } in
      by (does_begin j.peripheral) (each_step j m st.shown here.goes (settled_in m reached) here.facts (right_in m reached) (PeripheralEnters slot) refl running)
      ∙ sym st.shown.peripheral.phase
    where
      by : (b : Bool) → Goes (event_if b PeripheralBegins) (act (PeripheralEnters slot) j) m → (act (PeripheralEnters slot) j).peripheral.phase ≡ m.peripheral.phase
      by true goes = goes.1.peripheral.phase
      by false goes = goes.peripheral.phase

  -- the listener of what is on the air opens sealed where that is sealed
  agreed : (is_opened_right Peripheral j.peripheral.phase j.down ≡ true) × (is_opened_right Central j.central.phase j.up ≡ true)
  agreed = and_parts (is_opened_right Peripheral j.peripheral.phase j.down) (is_opened_right Central j.central.phase j.up) here.sealing

  takes_down : (way : Way) (slot : ℕ) (response : Response) → is_some (item_on_air way) ≡ true → is_opened_right Peripheral j.peripheral.phase way ≡ true
      → MadeOn Central way s.central → RightOn (peripheral_takes way slot response j).down s.central.made Peripheral (peripheral_takes way slot response j).peripheral.phase
  takes_down (OnAir item sealed) slot response some right made =
      λ other at does.
      let opening : opens Peripheral j.peripheral.phase ≡ true = sym (equal_is sealed (opens Peripheral j.peripheral.phase) right) ∙ sym made.sealing ∙ does in
      subst (λ (x : Item). (opens Peripheral (peripheral_takes (OnAir item sealed) slot response j).peripheral.phase ≡ true) ⊎ (is_pause x ≡ true)) (same_item item other at)
      (takes_on Peripheral j.peripheral here.peripheral here.goes.peripheral item slot response opening)
    where
      same_item : (item other : Item) → Taken item ≡ Taken other → item ≡ other
      same_item item other at = cc
  takes_down Clear slot response some right made = absurd (cc)
  takes_down (Fixed item sealed) slot response some right made = absurd (cc)
  takes_down (Taken item) slot response some right made = absurd (cc)

  takes_up : (way : Way) (slot : ℕ) → is_some (item_on_air way) ≡ true → is_opened_right Central j.central.phase way ≡ true
      → MadeOn Peripheral way s.peripheral → RightOn (central_takes way slot j).up s.peripheral.made Central (central_takes way slot j).central.phase
  takes_up (OnAir item sealed) slot some right made =
      λ other at does.
      let opening : opens Central j.central.phase ≡ true = sym (equal_is sealed (opens Central j.central.phase) right) ∙ sym made.sealing ∙ does in
      subst (λ (x : Item). (opens Central (central_takes (OnAir item sealed) slot j).central.phase ≡ true) ⊎ (is_pause x ≡ true)) (same_item item other at)
      (takes_on Central j.central here.central here.goes.central item slot no_response opening)
    where
      same_item : (item other : Item) → Taken item ≡ Taken other → item ≡ other
      same_item item other at = cc
  takes_up Clear slot some right made = absurd (cc)
  takes_up (Fixed item sealed) slot some right made = absurd (cc)
  takes_up (Taken item) slot some right made = absurd (cc)

  -- what the one end takes leaves the other way
  down_stays : (way : Way) (slot : ℕ) → RightOn j.down s.central.made Peripheral j.peripheral.phase
      → RightOn (central_takes way slot j).down s.central.made Peripheral (central_takes way slot j).peripheral.phase
  down_stays (OnAir item sealed) slot right = right
  down_stays Clear slot right = right
  down_stays (Fixed item sealed) slot right = right
  down_stays (Taken item) slot right = right

  up_stays : (way : Way) (slot : ℕ) (response : Response) → RightOn j.up s.peripheral.made Central j.central.phase
      → RightOn (peripheral_takes way slot response j).up s.peripheral.made Central (peripheral_takes way slot response j).central.phase
  up_stays (OnAir item sealed) slot response right = right
  up_stays Clear slot response right = right
  up_stays (Fixed item sealed) slot response right = right
  up_stays (Taken item) slot response right = right

  module _ (ltk : List ℕ) (right : AreRight s) where
    abbrev p : PhaseFacts
    p = j.peripheral.phase

    abbrev q : PhaseFacts
    q = j.central.phase

    abbrev made_down : EncEnd
    made_down = s.central.made

    abbrev made_up : EncEnd
    made_up = s.peripheral.made

    down_next : (step : JointStep) → may_act step j ≡ true → is_running (act step j) ≡ true
        → RightOn (act step j).down (central_keys_after step ltk j s.central).made Peripheral (act step j).peripheral.phase
    down_next (CentralEnters slot) may running = right.down
    down_next (CentralHost host) may running = right.down
    down_next (CentralSends slot) may running = λ item at does. absurd (air_not_taken (next_item j.central) (seals Central q) item at)
    down_next CentralSendsData may running = λ item at does. absurd (air_not_taken (Some Data) (seals Central q) item at)
    down_next CentralAcked may running = λ item at does. absurd (not_taken item at)
    down_next (CentralTakes slot) may running =
        let t = central_takes j.up slot j in
        kept t.down made_down (keys_taking (item_on_air j.up) slot no_response j.central s.central).made Peripheral t.peripheral.phase t.peripheral.phase
        (took_made (item_on_air j.up) slot no_response j.central s.central) (λ is. is) (down_stays j.up slot right.down)
    down_next (PeripheralEnters slot) may running =
        kept j.down made_down made_down Peripheral p (act (PeripheralEnters slot) j).peripheral.phase refl
        (λ is. ap (opens Peripheral) (peripheral_phase_stays slot running) ∙ is) right.down
    down_next (PeripheralHost host) may running =
        kept j.down made_down made_down Peripheral p (act (PeripheralHost host) j).peripheral.phase refl
        (host_on Peripheral j.peripheral here.peripheral here.goes.peripheral host) right.down
    down_next (PeripheralFixes slot) may running =
        kept j.down made_down made_down Peripheral p (act (PeripheralFixes slot) j).peripheral.phase refl
        (sends_on Peripheral j.peripheral here.peripheral here.goes.peripheral slot) right.down
    down_next PeripheralFixesData may running = right.down
    down_next PeripheralSends may running = right.down
    down_next PeripheralAcked may running =
        kept j.down made_down made_down Peripheral p (act PeripheralAcked j).peripheral.phase refl
        (acked_on Peripheral j.peripheral here.peripheral here.goes.peripheral) right.down
    down_next (PeripheralTakes slot response) may running =
        takes_down j.down slot response (and_parts (is_some (item_on_air j.down)) _ may).0 agreed.0 st.down
    down_next Shuts may running = right.down

    up_next : (step : JointStep) → may_act step j ≡ true
        → RightOn (act step j).up (peripheral_keys_after step ltk j s.peripheral).made Central (act step j).central.phase
    up_next (CentralEnters slot) may =
        kept j.up made_up made_up Central q (act (CentralEnters slot) j).central.phase refl (central_enters_on j.central here.central here.goes.central slot) right.up
    up_next (CentralHost host) may =
        kept j.up made_up made_up Central q (act (CentralHost host) j).central.phase refl (host_on Central j.central here.central here.goes.central host) right.up
    up_next (CentralSends slot) may =
        kept j.up made_up made_up Central q (act (CentralSends slot) j).central.phase refl (sends_on Central j.central here.central here.goes.central slot) right.up
    up_next CentralSendsData may = right.up
    up_next CentralAcked may =
        kept j.up made_up made_up Central q (act CentralAcked j).central.phase refl (acked_on Central j.central here.central here.goes.central) right.up
    up_next (CentralTakes slot) may = takes_up j.up slot (and_parts (is_some (item_on_air j.up)) _ may).0 agreed.1 st.up
    up_next (PeripheralEnters slot) may = right.up
    up_next (PeripheralHost host) may = right.up
    up_next (PeripheralFixes slot) may = λ item at does. absurd (fixed_not_taken (next_item j.peripheral) item at)
    up_next PeripheralFixesData may = λ item at does. absurd (data_not_taken (seals Peripheral p) item at)
    up_next PeripheralSends may = λ item at does. absurd (sent_not_taken j.up (seals Peripheral p) item (and_parts (is_fixed j.up) _ may).0 at)
    up_next PeripheralAcked may = λ item at does. absurd (not_taken item at)
    up_next (PeripheralTakes slot response) may =
        let t = peripheral_takes j.down slot response j in
        kept t.up made_up (keys_taking (item_on_air j.down) slot response j.peripheral s.peripheral).made Central t.central.phase t.central.phase
        (took_made (item_on_air j.down) slot response j.peripheral s.peripheral) (λ is. is) (up_stays j.down slot response right.up)
    up_next Shuts may = right.up

-- ---- in each state

record Stands (s : KeyedJoint) : Type 0 where
  standing : Standing s
  right : AreRight s

stands_next : (s : KeyedJoint) (ks : KeyedJointStep) → Here s.joint → Stands s → may_act ks.step s.joint ≡ true → is_running (act ks.step s.joint) ≡ true
    → Stands (keyed_act ks s)
stands_next s ks here is may running =
    record {
      standing = standing_next s here.goes here.facts here.central here.peripheral is.standing ks may running;
      right = record {
        down = down_next s here is.standing ks.ltk is.right ks.step may running;
        up = up_next s here is.standing ks.ltk is.right ks.step may;
      };
    }

abbrev pub IsExpected : Item → EncEnd → EncEnd → Type 0
IsExpected item made listener =
    seals made.role made.phase ≡ true → (opens listener.role listener.phase ≡ true) ⊎ (is_pause item ≡ true)

module _ (central peripheral : Setup) (ends : AreEnds central peripheral) (l : Link) (r : IsReached central peripheral l)
    (running : is_running l.joint ≡ true) where
  abbrev k : KeyedJoint
  k = keys_at central peripheral l r

  same : k.joint ≡ l.joint
  same = joint_at central peripheral l r

  right_at : AreRight k
  right_at =
      let rx = central.link.max_rx in
      let other_rx = peripheral.link.max_rx in
      let first = first_params central.link.fields in
      let slot = first_anchor central in
      (always rx other_rx first slot Stands stands_next
      (record {
        standing = (vectored rx other_rx first slot [] (record { latency = ends.in_range.parameters.latency_to; in_range = tt }) refl).standing;
        right = record { down = λ item at. absurd (not_taken item at); up = λ item at. absurd (not_taken item at) };
      })
      (all_keyed_steps r.steps (new_link central peripheral))
      (is_run rx other_rx first slot (central.opened + 1) ends.in_range.parameters.latency_to r.steps r.in_range)
      (subst (λ (j : Joint). is_running j ≡ true) (sym same) running)).right

  either : (item : Item) (role : Role) (phase other : PhaseFacts) (listener : EncEnd) → other ≡ phase → listener.role ≡ role → listener.phase ≡ phase
      → (opens role other ≡ true) ⊎ (is_pause item ≡ true) → (opens listener.role listener.phase ≡ true) ⊎ (is_pause item ≡ true)
  either item role phase other listener at in_role in_phase (inl is) = inl ((λ i. opens (in_role i) (in_phase i)) ∙ ap (opens role) (sym at) ∙ is)
  either item role phase other listener at in_role in_phase (inr is) = inr is

  pub taken_down : (item : Item) → l.joint.down ≡ Taken item → IsExpected item k.central.made k.peripheral.end
  taken_down item at does =
      let here = peripheral_phase_at central peripheral ends l r running in
      either item Peripheral l.joint.peripheral.phase k.joint.peripheral.phase k.peripheral.end (ap (λ (j : Joint). j.peripheral.phase) same) here.role_too here.phase_too
      (right_at.down item (ap (λ (j : Joint). j.down) same ∙ at) does)

  pub taken_up : (item : Item) → l.joint.up ≡ Taken item → IsExpected item k.peripheral.made k.central.end
  taken_up item at does =
      let here = central_phase_at central peripheral ends l r running in
      either item Central l.joint.central.phase k.joint.central.phase k.central.end (ap (λ (j : Joint). j.central.phase) same) here.role_too here.phase_too
      (right_at.up item (ap (λ (j : Joint). j.up) same ∙ at) does)
