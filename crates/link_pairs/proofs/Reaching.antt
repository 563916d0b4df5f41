-- Links by turns and packets that come from the beginning of a link: what holds of each, and one more step.
use Rattle.std.proofs.Common.{◌≡◌, ◌+◌, ◌≤◌, ◌&&◌, not, Bool, true, false, List, [], ◌∷◌, ◌++◌, is_none, refl, sym, ap, subst, ◌∙◌, arith, ℕ}
use Rattle.std.proofs.lemmas.Bool.{and_parts}
use Rattle.ble_base.specs.declared.roles.Role.{Role}
use Rattle.ble_base.specs.declared.roles.Role.TheVariants.{Central, Peripheral}
use Rattle.joint_laws.specs.exchange_pairs.ExchangeRun.{other_role}
use Rattle.control_octets.specs.procedure_values.Limits.{tx_of}
use Rattle.link_model.specs.Setup.{Setup, first_anchor, first_params}
use Rattle.joint_laws.specs.joint_controls.Joint.{Joint, after_all, is_running, may_all}
use Rattle.joint_laws.specs.joint_exchanges.Agreement.{end_at, first_rx_at}
use Rattle.joint_laws.proofs.joint_exchanges.States.{length_transmits}
use Rattle.joint_keys.specs.KeyedJoint.{KeyedJoint}
use Rattle.joint_keys.specs.KeyedLinks.{KeyedLinkStep, keys_in_step, link_steps}
use Rattle.joint_keys.proofs.KeyedLinks.{keys_joint, keys_more}
use Rattle.joint_laws.specs.joint_parameters.Turns.{AreLinksInRange, IsLinkInRange, IsPaired, Link, LinkStep, MayLink, MayLinkAll, all_joint_steps, joint_steps, link_after, link_after_all}
use Rattle.joint_laws.proofs.joint_parameters.Linking.{joint_comes, joint_run, stays_paired}
use Rattle.joint_laws.proofs.joint_parameters.Pairing.{running_from}
use Rattle.joint_laws.proofs.joint_controls.Running.{none_of}
use Rattle.joint_laws.specs.joint_controls.phased_control.Phased.{Phased}
use Rattle.link_model.specs.Controls.{goes_on}
use Rattle.link_model.specs.Facts.{Facts}
use Rattle.link_pairs.specs.Ends.{AreEnds, is_lasting}
use Rattle.link_pairs.specs.Shown.{AreLinked, HaveKeys, Shows, keys_of, link_of, new_link}

-- a test that holds and does not
pub not_both : {A : Type 0} (b : Bool) → b ≡ false → b ≡ true → A
not_both b none is = absurd (cc)

-- ---- one list of steps after another

pub link_joined : (xs ys : List KeyedLinkStep) (l : Link)
    → link_after_all (link_steps (xs ++ ys)) l ≡ link_after_all (link_steps ys) (link_after_all (link_steps xs) l)
link_joined [] ys l = refl
link_joined (ks ∷ xs) ys l = link_joined xs ys (link_after ks.step l)

pub may_joined : (xs ys : List KeyedLinkStep) (l : Link) → MayLinkAll (link_steps xs) l → MayLinkAll (link_steps ys) (link_after_all (link_steps xs) l)
    → MayLinkAll (link_steps (xs ++ ys)) l
may_joined [] ys l first later = later
may_joined (ks ∷ xs) ys l first later = (first.0, first.1, may_joined xs ys (link_after ks.step l) first.2 later)

pub range_joined : (xs ys : List KeyedLinkStep) → AreLinksInRange (link_steps xs) → AreLinksInRange (link_steps ys) → AreLinksInRange (link_steps (xs ++ ys))
range_joined [] ys first later = later
range_joined (ks ∷ xs) ys first later = (first.0, range_joined xs ys first.1 later)

-- ---- a link that is reached

module _ (central peripheral : Setup) where
  -- some steps lead to it, each of which may come
  pub record IsReached (l : Link) : Type 0 where
    pub steps : List KeyedLinkStep
    pub may : MayLinkAll (link_steps steps) (new_link central peripheral)
    pub in_range : AreLinksInRange (link_steps steps)
    pub reaches : link_of central peripheral steps ≡ l

  -- both ends with their keys there
  abbrev pub keys_at : (l : Link) → IsReached l → KeyedJoint
  keys_at l r = keys_of central peripheral r.steps

  -- their joint run is that of the link
  pub joint_at : (l : Link) (r : IsReached l) → (keys_at l r).joint ≡ l.joint
  joint_at l r =
      keys_joint central.link.max_rx peripheral.link.max_rx (first_params central.link.fields) (first_anchor central) (central.opened + 1) r.steps
      ∙ ap (λ (k : Link). k.joint) r.reaches

  abbrev pub reached_first : IsReached (new_link central peripheral)
  reached_first = record { steps = []; may = tt; in_range = tt; reaches = refl }

  abbrev pub reached_by : (steps : List KeyedLinkStep) → MayLinkAll (link_steps steps) (new_link central peripheral)
      → AreLinksInRange (link_steps steps) → IsReached (link_of central peripheral steps)
  reached_by steps may in_range = record { steps = steps; may = may; in_range = in_range; reaches = refl }

  -- a step that may come leads on
  module _ (ks : KeyedLinkStep) (l : Link) (r : IsReached l) (running : is_running l.joint ≡ true) (comes : MayLink ks.step l)
      (range : IsLinkInRange ks.step) where
    abbrev pub reached_with : IsReached (link_after ks.step l)
    reached_with =
        record {
          steps = r.steps ++ ks ∷ [];
          may =
              may_joined r.steps (ks ∷ []) (new_link central peripheral) r.may
              (subst (λ (k : Link). MayLinkAll (ks.step ∷ []) k) (sym r.reaches) (running, comes, tt));
          in_range = range_joined r.steps (ks ∷ []) r.in_range (range, tt);
          reaches = link_joined r.steps (ks ∷ []) (new_link central peripheral) ∙ ap (link_after ks.step) r.reaches;
        }

    pub keys_next : keys_at (link_after ks.step l) reached_with ≡ keys_in_step ks l (keys_at l r)
    keys_next =
        keys_more r.steps ks (new_link central peripheral) (keys_of central peripheral [])
        ∙ ap (λ (k : Link). keys_in_step ks k (keys_at l r)) r.reaches

  -- a step in which no host gives a key
  abbrev pub reached_next : (step : LinkStep) (l : Link) → IsReached l → is_running l.joint ≡ true → MayLink step l → IsLinkInRange step
      → IsReached (link_after step l)
  reached_next step l r running comes range = reached_with (record { step = step; ltk = [] }) l r running comes range

  module _ (ends : AreEnds central peripheral) where
    anchored : central.opened + 1 ≤ first_anchor central
    anchored = omega arith

    -- the steps of the joint run in a step that may come may come
    pub comes : (step : LinkStep) (l : Link) → IsReached l → is_running l.joint ≡ true → MayLink step l → may_all (joint_steps step l) l.joint ≡ true
    comes step l r =
        subst (λ (k : Link). is_running k.joint ≡ true → MayLink step k → may_all (joint_steps step k) k.joint ≡ true) r.reaches
        (joint_comes central.link.max_rx peripheral.link.max_rx (first_params central.link.fields) (first_anchor central)
        ends.in_range.parameters.latency_to (central.opened + 1) anchored ends.in_range.parameters.interval_from (link_steps r.steps) r.in_range r.may step)

    -- both runs have one state of the tracks
    pub paired : (l : Link) → IsReached l → is_running l.joint ≡ true → IsPaired l
    paired l r =
        subst (λ (k : Link). is_running k.joint ≡ true → IsPaired k) r.reaches
        (stays_paired central.link.max_rx peripheral.link.max_rx (first_params central.link.fields) (first_anchor central)
        ends.in_range.parameters.latency_to (central.opened + 1) anchored ends.in_range.parameters.interval_from (link_steps r.steps) r.in_range r.may)

    -- no end transmits more octets than the other receives
    longest : (steps : List KeyedLinkStep) → MayLinkAll (link_steps steps) (new_link central peripheral) → AreLinksInRange (link_steps steps)
        → is_running (link_of central peripheral steps).joint ≡ true → (role : Role)
        → tx_of (end_at (other_role role) (link_of central peripheral steps).joint).control.table.lengths ≤ first_rx_at role central.link.max_rx peripheral.link.max_rx
    longest steps may in_range running role =
        subst (λ (j : Joint). tx_of (end_at (other_role role) j).control.table.lengths ≤ first_rx_at role central.link.max_rx peripheral.link.max_rx) is_joint
        (length_transmits central.link.max_rx peripheral.link.max_rx (first_params central.link.fields) (first_anchor central)
        (all_joint_steps (link_steps steps) (new_link central peripheral)) (subst (λ (j : Joint). is_running j ≡ true) (sym is_joint) running)
        ends.central_max.from ends.peripheral_max.from role)
      where
        is_joint : after_all (all_joint_steps (link_steps steps) (new_link central peripheral)) (new_link central peripheral).joint ≡ (link_of central peripheral steps).joint
        is_joint =
            joint_run central.link.max_rx peripheral.link.max_rx (first_params central.link.fields) (first_anchor central)
            ends.in_range.parameters.latency_to (central.opened + 1) anchored ends.in_range.parameters.interval_from (link_steps steps) in_range may

    pub central_transmits : (l : Link) → IsReached l → is_running l.joint ≡ true → tx_of l.joint.central.control.table.lengths ≤ peripheral.link.max_rx
    central_transmits l r =
        subst (λ (k : Link). is_running k.joint ≡ true → tx_of k.joint.central.control.table.lengths ≤ peripheral.link.max_rx) r.reaches
        (λ running. longest r.steps r.may r.in_range running Peripheral)

    pub peripheral_transmits : (l : Link) → IsReached l → is_running l.joint ≡ true → tx_of l.joint.peripheral.control.table.lengths ≤ central.link.max_rx
    peripheral_transmits l r =
        subst (λ (k : Link). is_running k.joint ≡ true → tx_of k.joint.peripheral.control.table.lengths ≤ central.link.max_rx) r.reaches
        (λ running. longest r.steps r.may r.in_range running Central)

  -- ---- both ends, and a link that shows what they hold

  pub record IsShown (turns : ℕ) (answers : Bool) (c p : Facts) : Type 0 where
    pub link : Link
    pub reached : IsReached link
    pub shows : is_running link.joint ≡ true → Shows central peripheral turns answers link c p
    pub keys : is_running link.joint ≡ true → HaveKeys (keys_at link reached) c p
    pub lasts : is_lasting c ≡ true → is_lasting p ≡ true → is_running link.joint ≡ true

  -- a run that was not stopped goes on where the link lasts at both ends
  running_by : (turns : ℕ) (answers : Bool) (l : Link) (c p : Facts) → Shows central peripheral turns answers l c p → l.joint.stopped ≡ false
      → is_lasting c ≡ true → is_lasting p ≡ true → is_running l.joint ≡ true
  running_by turns answers l c p s stopped central_lasts peripheral_lasts =
      let ends_of = λ (facts : Facts) (is : is_lasting facts ≡ true). none_of facts.control.ends (and_parts (goes_on facts) (is_none facts.leaving.ended_by_peer) is).0 in
      running_from l.joint stopped (ap (λ (x : Phased). x.control.ends) s.central_part ∙ ends_of c central_lasts)
      (ap (λ (x : Phased). x.control.ends) s.peripheral_part ∙ ends_of p peripheral_lasts)

  pub shown : (turns : ℕ) (answers : Bool) (l : Link) (c p : Facts) (reached : IsReached l) → Shows central peripheral turns answers l c p
      → HaveKeys (keys_at l reached) c p → l.joint.stopped ≡ false → IsShown turns answers c p
  shown turns answers l c p reached s keys stopped =
      record { link = l; reached = reached; shows = λ running. s; keys = λ running. keys; lasts = running_by turns answers l c p s stopped }

  -- after a step more
  pub shown_next : (turns : ℕ) (answers : Bool) (ks : KeyedLinkStep) (l : Link) (reached : IsReached l) (c p : Facts) → is_running l.joint ≡ true
      → MayLink ks.step l → IsLinkInRange ks.step → Shows central peripheral turns answers (link_after ks.step l) c p
      → HaveKeys (keys_in_step ks l (keys_at l reached)) c p → (link_after ks.step l).joint.stopped ≡ false → IsShown turns answers c p
  shown_next turns answers ks l reached c p running comes range s keys stopped =
      shown turns answers (link_after ks.step l) c p (reached_with ks l reached running comes range) s
      (subst (λ (k : KeyedJoint). HaveKeys k c p) (sym (keys_next ks l reached running comes range)) keys) stopped

  -- an end is shut
  pub shut_on : (turns : ℕ) (answers : Bool) (step : LinkStep) (l : Link) (c p : Facts) (reached : IsReached l) (running : is_running l.joint ≡ true)
      → MayLink step l → IsLinkInRange step → (link_after step l).joint.stopped ≡ true → (is_lasting c ≡ true → is_lasting p ≡ true → ⊥)
      → IsShown turns answers c p
  shut_on turns answers step l c p reached running comes range stopped never =
      let over : is_running (link_after step l).joint ≡ false = ap (λ (b : Bool). not b && (is_none (link_after step l).joint.central.control.ends && is_none (link_after step l).joint.peripheral.control.ends)) stopped in
      record {
        link = link_after step l;
        reached = reached_next step l reached running comes range;
        shows = not_both (is_running (link_after step l).joint) over;
        keys = not_both (is_running (link_after step l).joint) over;
        lasts = λ central_lasts peripheral_lasts. absurd (never central_lasts peripheral_lasts);
      }

  pub linked : (turns : ℕ) (answers : Bool) (c p : Facts) → IsShown turns answers c p
      → AreLinked central peripheral turns answers c p
  linked turns answers c p s =
      record {
        steps = s.reached.steps;
        may = s.reached.may;
        in_range = s.reached.in_range;
        shows = subst (λ (l : Link). is_running l.joint ≡ true → Shows central peripheral turns answers l c p) (sym s.reached.reaches) s.shows;
        keys = subst (λ (l : Link). is_running l.joint ≡ true → HaveKeys (keys_at s.link s.reached) c p) (sym s.reached.reaches) s.keys;
        lasts = subst (λ (l : Link). is_lasting c ≡ true → is_lasting p ≡ true → is_running l.joint ≡ true) (sym s.reached.reaches) s.lasts;
      }

  -- a run that has stopped stays so; where the link lasts at an end, it lasted before
  abbrev pub linked_stopped : (turns later : ℕ) (answers answered : Bool) (c p d q : Facts) (a : AreLinked central peripheral turns answers c p)
      → (is_lasting d ≡ true → is_lasting c ≡ true) → (is_lasting q ≡ true → is_lasting p ≡ true)
      → is_running (link_of central peripheral a.steps).joint ≡ false → AreLinked central peripheral later answered d q
  linked_stopped turns later answers answered c p d q a central_before peripheral_before stopped =
      record {
        steps = a.steps;
        may = a.may;
        in_range = a.in_range;
        shows = not_both (is_running (link_of central peripheral a.steps).joint) stopped;
        keys = not_both (is_running (link_of central peripheral a.steps).joint) stopped;
        lasts = λ central_lasts peripheral_lasts. a.lasts (central_before central_lasts) (peripheral_before peripheral_lasts);
      }

  -- where the run goes on the link goes on to what shows what they hold now
  pub linked_on : (turns later : ℕ) (answers answered : Bool) (c p d q : Facts) → AreLinked central peripheral turns answers c p
      → (is_lasting d ≡ true → is_lasting c ≡ true) → (is_lasting q ≡ true → is_lasting p ≡ true)
      → ((l : Link) (reached : IsReached l) → is_running l.joint ≡ true → Shows central peripheral turns answers l c p → HaveKeys (keys_at l reached) c p
      → IsShown later answered d q)
      → AreLinked central peripheral later answered d q
  linked_on turns later answers answered c p d q a central_before peripheral_before next = by (is_running (link_of central peripheral a.steps).joint) refl
    where
      by : (b : Bool) → is_running (link_of central peripheral a.steps).joint ≡ b → AreLinked central peripheral later answered d q
      by true running =
          linked later answered d q
          (next (link_of central peripheral a.steps) (reached_by a.steps a.may a.in_range) running (a.shows running) (a.keys running))
      by false stopped = linked_stopped turns later answers answered c p d q a central_before peripheral_before stopped
