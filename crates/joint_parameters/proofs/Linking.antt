-- A link by turns and packets is a joint run at once, and both have one state of the tracks.
use Rattle.std.proofs.Common.{◌≡◌, ◌⊎◌, inl, inr, ℕ, ◌≤◌, ◌==◌, true, ◌||◌, List, [], ◌∷◌, ◌++◌, Option, Some, None, refl, sym, subst, arith}
use Rattle.std.proofs.lemmas.Bool.{or_left, or_right}
use Rattle.ble_base.specs.declared.roles.Role.TheVariants.{Central, Peripheral}
use Rattle.instants.specs.declared.indications.Indication.{Indication}
use Rattle.instants.specs.declared.indications.Params.{Params}
use Rattle.instants.specs.declared.track.Change.{Change}
use Rattle.instants.specs.Track.{TrackFacts, event_of}
use Rattle.two_tracks.specs.TwoEnds.{LastPdu, Untaken, MayIndicateIf, MayReach, MaySend, TwoEnds, enters}
use Rattle.two_tracks.specs.TwoEnds as two_ends
use Rattle.two_tracks.specs.Reached.{AllMay, IsLate, untaken}
use Rattle.two_tracks.specs.Reached as by_turns
use Rattle.two_tracks.proofs.Reaching.{reached_first, reached_next as turns_next}
use Rattle.two_tracks.proofs.Read.{near, packets, replies}
use Rattle.joint_controls.proofs.control_model.Sending.{may_of}
use Rattle.joint_controls.specs.phased_control.Phased.{is_quiet_now}
use Rattle.joint_controls.specs.phased_control.Taken.{Sends}
use Rattle.joint_controls.specs.Joint.{CentralAcked, CentralEnters, CentralHost, CentralSends, CentralSendsData, CentralTakes, Joint, JointStep, PeripheralAcked, PeripheralEnters, PeripheralFixes, PeripheralFixesData, PeripheralHost, PeripheralSends, PeripheralTakes, Shuts, act, after, after_all, beginning, has_passed, host_step, is_near, is_running, is_taken, may, may_all}
use Rattle.joint_controls.specs.Ends.{AreStepsInRange, IsStepInRange}
use Rattle.joint_controls.proofs.Running.{GoesOn, goes_on}
use Rattle.joint_parameters.specs.Indications.{changes_taken}
use Rattle.joint_parameters.specs.Turns.{Alone, AreLinksInRange, Begins, CentralShuts, IsAnswered, IsHeard, IsLinkInRange, IsPaired, IsPairedWith, Link, LinkStep, MayLink, MayLinkAll, MayTransmit, PeripheralShuts, SendsControl, SendsData, SendsEmpty, all_joint_steps, first_link, fixing_steps, is_alone, joint_steps, link_after, link_after_all, next_indication, step_if, turn_steps}
use Rattle.joint_parameters.specs.Views.{View, change_on_air, view}
use Rattle.joint_parameters.proofs.Hearing.{is_answered, is_heard, meets_rule, near_rule, range_before, range_if}
use Rattle.joint_parameters.proofs.Meeting.{Meets}
use Rattle.joint_parameters.proofs.Pairing.{Leads, Together, after_may, leads_on, leads_one, may_now, sends_control, sends_data_too, sends_empty, together, turn_begins}
use Rattle.joint_parameters.proofs.Runs.{Facts, Inv, IsReached, central_stays, holds_after, host_stays, peripheral_stays, range_joined, reached_facts, reached_next}

-- ---- the rules on events, by turns

same_events : (c p : TrackFacts) → c.entered ≡ p.entered → (event_of c == event_of p) ≡ true
same_events c p is = grind (arith, is)

late_events : (o : Option Change) (t : TrackFacts) → IsLate o t → has_passed o (event_of t) ≡ true
late_events None t late = absurd late
late_events (Some change) t late = let over = late.0 in grind (arith, over)

module _ (first : Params) (slot : ℕ) (t : TwoEnds) (reached : by_turns.IsReached first slot t) (v : View) (p : IsPairedWith t v) where
  rule_of : MayReach t → meets_rule v ≡ true
  rule_of reaches =
      subst (λ (c : TrackFacts). ((event_of c == event_of v.peripheral) || has_passed (change_on_air v) (event_of v.peripheral)) ≡ true) p.central
      (subst (λ (q : TrackFacts). ((event_of t.central == event_of q) || has_passed (change_on_air v) (event_of q)) ≡ true) p.peripheral
      (subst (λ (o : Option Change). ((event_of t.central == event_of t.peripheral) || has_passed o (event_of t.peripheral)) ≡ true) p.coming
      (by (packets first slot t reached reaches))))
    where
      by : (t.central.entered ≡ t.peripheral.entered) ⊎ IsLate (untaken t.last) t.peripheral
          → ((event_of t.central == event_of t.peripheral) || has_passed (untaken t.last) (event_of t.peripheral)) ≡ true
      by (inl same) = or_left _ _ (same_events t.central t.peripheral same)
      by (inr late) = or_right _ _ (late_events (untaken t.last) t.peripheral late)

  near_of : MayReach t → near_rule v ≡ true
  near_of reaches =
      subst (λ (q : TrackFacts). is_near (change_on_air v) (event_of q) ≡ true) p.peripheral
      (subst (λ (o : Option Change). is_near o (event_of t.peripheral) ≡ true) p.coming (by (untaken t.last) refl))
    where
      by : (o : Option Change) → untaken t.last ≡ o → is_near o (event_of t.peripheral) ≡ true
      by None is = refl
      by (Some change) is = let less = near first slot t change reached reaches is in grind (arith, less)

  event_of_reply : t.replies ≡ true → (event_of v.central == event_of v.peripheral) ≡ true
  event_of_reply is =
      subst (λ (c : TrackFacts). (event_of c == event_of v.peripheral) ≡ true) p.central
      (subst (λ (q : TrackFacts). (event_of t.central == event_of q) ≡ true) p.peripheral
      (same_events t.central t.peripheral (replies first slot t reached is)))

-- ---- one step of a link

module _ (central_rx peripheral_rx : ℕ) (first : Params) (slot : ℕ) (latency : first.latency ≤ 499) where
  abbrev Comes : Joint → Type 0
  Comes s = IsReached central_rx peripheral_rx first slot latency s

  -- what holds of a link at any time
  pub record IsLinked (l : Link) : Type 0 where
    pub turns : by_turns.IsReached first slot l.turns
    pub joint : Comes l.joint
    pub paired : is_running l.joint ≡ true → IsPaired l

  record HasInv (s : Joint) : Type 0 where
    taken : List Change
    inv : Inv first slot taken s

  inv_at : (s : Joint) → Comes s → HasInv s
  inv_at s r =
      record {
        taken = changes_taken r.steps (beginning central_rx peripheral_rx first slot);
        inv =
            subst (Inv first slot (changes_taken r.steps (beginning central_rx peripheral_rx first slot))) r.reaches
            (holds_after central_rx peripheral_rx first slot latency r.steps r.range);
      }

  facts_at : (s : Joint) → Comes s → Facts s
  facts_at s r = reached_facts central_rx peripheral_rx first slot latency s r

  facts_next : (step : JointStep) (s : Joint) → Comes s → IsStepInRange step → may step s ≡ true → Facts (act step s)
  facts_next step s r range comes =
      subst Facts (after_may step s comes)
      (facts_at (after step s) (reached_next central_rx peripheral_rx first slot latency step s range r))

  -- what some steps lead to
  joint_all : (steps : List JointStep) (s : Joint) → AreStepsInRange steps → Comes s → Comes (after_all steps s)
  joint_all [] s range r = r
  joint_all (step ∷ steps) s range r =
      joint_all steps (after step s) range.1 (reached_next central_rx peripheral_rx first slot latency step s range.0 r)

  facts_after : (s : Joint) → Comes s → (steps : List JointStep) → AreStepsInRange steps → Facts (after_all steps s)
  facts_after s r steps range = facts_at (after_all steps s) (joint_all steps s range r)

  -- it comes by turns, and in the joint run, and both stay paired
  record Goes (step : LinkStep) (l : Link) : Type 0 where
    by_turn : AllMay (turn_steps step l) l.turns
    by_both : Together (joint_steps step l) (by_turns.after_all (turn_steps step l) l.turns) l.joint

  module _ (l : Link) (linked : IsLinked l) (running : is_running l.joint ≡ true) where
    p : IsPaired l
    p = linked.paired running

    f : Facts l.joint
    f = facts_at l.joint linked.joint

    g : GoesOn l.joint
    g = goes_on l.joint running

    h : HasInv l.joint
    h = inv_at l.joint linked.joint

    m : Meets h.taken (view l.joint)
    m = h.inv.meets running

    may_send : (indication : Option Indication) → MayTransmit l → MayIndicateIf l.turns indication → MaySend l.turns indication
    may_send indication may_transmit indicates =
        record { is_open = p.central_open; in_event = may_transmit.in_event; acknowledged = may_transmit.acknowledged; indicates = indicates }

    same_step : (step : JointStep) → may step l.joint ≡ true → view (act step l.joint) ≡ view l.joint → Goes (Alone step) l
    same_step step comes is =
        record {
          by_turn = tt;
          by_both =
              together (step ∷ []) l.turns l.joint (act step l.joint) (leads_one step l.joint comes)
              (λ still. subst (IsPairedWith l.turns) (sym is) p);
        }

    alone : (step : JointStep) → is_alone step ≡ true → may step l.joint ≡ true → Goes (Alone step) l
    alone (CentralHost host) is comes =
        same_step (CentralHost host) comes (central_stays l.joint f g (host_step host) l.joint.down (host_stays Central host))
    alone (PeripheralHost host) is comes =
        same_step (PeripheralHost host) comes (peripheral_stays l.joint f g (host_step host) (host_stays Peripheral host))
    alone (PeripheralFixes now) is comes = same_step (PeripheralFixes now) comes (peripheral_stays l.joint f g (Sends now) refl)
    alone PeripheralFixesData is comes = same_step PeripheralFixesData comes refl
    alone PeripheralSends is comes = same_step PeripheralSends comes refl
    alone (CentralEnters now) is comes = absurd (cc)
    alone (CentralSends now) is comes = absurd (cc)
    alone CentralSendsData is comes = absurd (cc)
    alone CentralAcked is comes = absurd (cc)
    alone (CentralTakes now) is comes = absurd (cc)
    alone (PeripheralEnters now) is comes = absurd (cc)
    alone PeripheralAcked is comes = absurd (cc)
    alone (PeripheralTakes now response) is comes = absurd (cc)
    alone Shuts is comes = absurd (cc)

    shuts : (t : TwoEnds) → Together (Shuts ∷ []) t l.joint
    shuts t =
        together (Shuts ∷ []) t l.joint (act Shuts l.joint) (leads_one Shuts l.joint (may_now Shuts l.joint running refl)) (λ still. absurd (cc))

    goes_by : (step : LinkStep) → MayLink step l → Goes step l
    goes_by (Begins now) may_link =
        record {
          by_turn = (tt, tt);
          by_both =
              turn_begins now l.turns l.joint (enters l.turns.turns l.turns.central_open l.turns.central)
              (enters l.turns.turns l.turns.peripheral_open l.turns.peripheral) f running p;
        }
    goes_by (SendsControl now) may_link =
        record {
          by_turn = (
            may_send (next_indication l.joint.central) may_link.0
                (may_of l.joint.central.control now (is_quiet_now l.joint.central) (f.indicates g.central) l.turns p.central p.sent),
            tt,
          );
          by_both = sends_control l.turns l.joint f running p may_link.0.acknowledged now may_link.1 may_link.2;
        }
    goes_by SendsData may_link =
        record {
          by_turn = (may_send None may_link.0 tt, tt);
          by_both = sends_data_too l.turns l.joint f running p may_link.0.acknowledged may_link.1 may_link.2;
        }
    goes_by SendsEmpty may_link =
        record { by_turn = (may_send None may_link tt, tt); by_both = sends_empty l.turns l.joint f running p may_link.acknowledged }
    goes_by (IsHeard room fixing now response) may_link =
        record {
          by_turn = (may_link.0, tt);
          by_both =
              is_heard h.taken l.turns l.joint (facts_after l.joint linked.joint) running m p
              (rule_of first slot l.turns linked.turns (view l.joint) p may_link.0) (near_of first slot l.turns linked.turns (view l.joint) p may_link.0)
              fixing now may_link.1 room response;
        }
    goes_by (IsAnswered room now) may_link =
        record {
          by_turn = (may_link, tt);
          by_both =
              is_answered l.turns l.joint f (λ comes. facts_next CentralAcked l.joint linked.joint tt comes) running p
              (event_of_reply first slot l.turns linked.turns (view l.joint) p may_link) room now;
        }
    goes_by (Alone step) may_link = alone step may_link.0 may_link.1
    goes_by CentralShuts may_link = record { by_turn = (tt, tt); by_both = shuts (two_ends.after two_ends.CentralEnds l.turns) }
    goes_by PeripheralShuts may_link = record { by_turn = (tt, tt); by_both = shuts (two_ends.after two_ends.PeripheralEnds l.turns) }

  -- ---- all steps of a link

  turns_all : (steps : List two_ends.Step) (t : TwoEnds) → AllMay steps t → by_turns.IsReached first slot t → by_turns.IsReached first slot (by_turns.after_all steps t)
  turns_all [] t may_all_of r = r
  turns_all (step ∷ steps) t may_all_of r = turns_all steps (two_ends.after step t) may_all_of.1 (turns_next first slot t step r may_all_of.0)

  range_of : (step : LinkStep) (l : Link) → IsLinkInRange step → AreStepsInRange (joint_steps step l)
  range_of (Begins now) l is =
      range_joined (step_if (enters l.turns.turns l.turns.central_open l.turns.central) (CentralEnters now)) _ (range_if _ (CentralEnters now) tt) (range_if _ (PeripheralEnters now) tt)
  range_of (SendsControl now) l is = (tt, tt)
  range_of SendsData l is = (tt, tt)
  range_of SendsEmpty l is = tt
  range_of (IsHeard room fixing now response) l is =
      range_joined (step_if (is_taken l.joint.up) PeripheralAcked ++ fixing_steps fixing now) _ (range_before l.joint fixing now)
      (range_if _ (PeripheralTakes now response) tt)
  range_of (IsAnswered room now) l is =
      range_joined (step_if (is_taken l.joint.down) CentralAcked) _ (range_if _ CentralAcked tt) (range_if _ (CentralTakes now) tt)
  range_of (Alone step) l is = (is, tt)
  range_of CentralShuts l is = (tt, tt)
  range_of PeripheralShuts l is = (tt, tt)

  linked_next : (step : LinkStep) (l : Link) → IsLinked l → is_running l.joint ≡ true → MayLink step l → IsLinkInRange step → IsLinked (link_after step l)
  linked_next step l linked running may_link range =
      let goes = goes_by l linked running step may_link in
      record {
        turns = turns_all (turn_steps step l) l.turns goes.by_turn linked.turns;
        joint = joint_all (joint_steps step l) l.joint (range_of step l range) linked.joint;
        paired = goes.by_both.paired;
      }

  all_linked : (steps : List LinkStep) (l : Link) → IsLinked l → MayLinkAll steps l → AreLinksInRange steps → IsLinked (link_after_all steps l)
  all_linked [] l linked may_links range = linked
  all_linked (step ∷ steps) l linked may_links range =
      all_linked steps (link_after step l) (linked_next step l linked may_links.0 may_links.1 range.0) may_links.2 range.1

  all_lead : (steps : List LinkStep) (l : Link) → IsLinked l → MayLinkAll steps l → AreLinksInRange steps
      → Leads (all_joint_steps steps l) l.joint (link_after_all steps l).joint
  all_lead [] l linked may_links range = record { comes = refl; to = refl }
  all_lead (step ∷ steps) l linked may_links range =
      let goes = goes_by l linked may_links.0 step may_links.1 in
      leads_on (joint_steps step l) (all_joint_steps steps (link_after step l)) l.joint (link_after step l).joint (link_after_all steps (link_after step l)).joint
      (record { comes = goes.by_both.comes; to = refl })
      (all_lead steps (link_after step l) (linked_next step l linked may_links.0 may_links.1 range.0) may_links.2 range.1)

  linked_first : (turns : ℕ) → turns ≤ slot → 6 ≤ first.interval → IsLinked (first_link central_rx peripheral_rx first slot turns)
  linked_first turns not_over interval =
      record {
        turns = reached_first first slot turns not_over interval;
        joint = record { steps = []; range = tt; reaches = refl };
        paired =
            λ running. record {
              central_open = refl;
              peripheral_open = refl;
              central = refl;
              peripheral = refl;
              sent = refl;
              way = refl;
              coming = refl;
            };
      }

  -- ---- from the beginning of a link

  module _ (turns : ℕ) (not_over : turns ≤ slot) (interval : 6 ≤ first.interval) (steps : List LinkStep)
      (range : AreLinksInRange steps) (may_links : MayLinkAll steps (first_link central_rx peripheral_rx first slot turns)) where
    abbrev l : Link
    l = link_after_all steps (first_link central_rx peripheral_rx first slot turns)

    linked : IsLinked l
    linked = all_linked steps (first_link central_rx peripheral_rx first slot turns) (linked_first turns not_over interval) may_links range

    leads : Leads (all_joint_steps steps (first_link central_rx peripheral_rx first slot turns)) (beginning central_rx peripheral_rx first slot) l.joint
    leads = all_lead steps (first_link central_rx peripheral_rx first slot turns) (linked_first turns not_over interval) may_links range

    pub turn_comes : (step : LinkStep) → is_running l.joint ≡ true → MayLink step l → AllMay (turn_steps step l) l.turns
    turn_comes step running may_link = (goes_by l linked running step may_link).by_turn

    pub joint_comes : (step : LinkStep) → is_running l.joint ≡ true → MayLink step l → may_all (joint_steps step l) l.joint ≡ true
    joint_comes step running may_link = (goes_by l linked running step may_link).by_both.comes

    pub stays_paired : is_running l.joint ≡ true → IsPaired l
    stays_paired running = linked.paired running

    pub turns_reached : by_turns.IsReached first slot l.turns
    turns_reached = linked.turns

    pub joint_run : after_all (all_joint_steps steps (first_link central_rx peripheral_rx first slot turns)) (beginning central_rx peripheral_rx first slot) ≡ l.joint
    joint_run = leads.to

    pub joint_all_come : may_all (all_joint_steps steps (first_link central_rx peripheral_rx first slot turns)) (beginning central_rx peripheral_rx first slot) ≡ true
    joint_all_come = leads.comes
