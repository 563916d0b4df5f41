-- In each state of a joint run with keys: where nothing of an end is on its way, the other end opens its next PDU, if both have
-- one session key, or the end is outside Clear and Secure and has no control PDU left.
use Rattle.std.proofs.Common.{◌≡◌, ◌⊎◌, inl, inr, ℕ, ◌+◌, Bool, true, false, not, ◌&&◌, ◌||◌, List, [], Option, Some, None, is_none, refl, sym, ap, subst, ◌∙◌, arith}
use Rattle.std.proofs.lemmas.Bool.{and_parts}
use Rattle.ble_base.specs.declared.roles.Role.TheVariants.{Central, Peripheral}
use Rattle.phase_pairs.specs.declared.joint.PhaseLink.{PhaseLink}
use Rattle.phase_pairs.specs.declared.joint.PhaseWay.{PhaseWay}
use Rattle.phase_pairs.specs.declared.peripheral.PhasePeripheral.{PhasePeripheral}
use Rattle.phase_pairs.specs.declared.peripheral.UnsentRequest.{UnsentRequest}
use Rattle.phase_pairs.specs.declared.peripheral.UnsentRequest.TheVariants.{Absent, First, Last}
use Rattle.phase_pairs.specs.enc_phase.declared.classes.PduClass.{PduClass}
use Rattle.phase_pairs.specs.enc_phase.declared.facts.PhaseFacts.{PhaseFacts}
use Rattle.phase_pairs.specs.enc_phase.Phases.{is_quiet, opens, seals}
use Rattle.phase_pairs.specs.Agreement.{is_equal}
use Rattle.phase_pairs.specs.Counted.{Counted, counted_run, is_sealed_untaken}
use Rattle.phase_pairs.proofs.Counters.{counted}
use Rattle.joint_laws.specs.joint_controls.procedure_values.declared.drafts.Draft.{Draft}
use Rattle.joint_laws.specs.joint_controls.Joint.{Clear, Fixed, Joint, OnAir, Taken, Way}
use Rattle.joint_laws.proofs.Common.{not_true}
use Rattle.joint_phases.specs.Classes.{draft_down, draft_up}
use Rattle.joint_phases.specs.Parts.{is_emptied, wait_up, way_down, way_up}
use Rattle.joint_phases.proofs.CentralQueue.{no_rejections, nothing_waits}
use Rattle.joint_phases.proofs.PeripheralQueue.{with_waits}
use Rattle.joint_phases.proofs.PeripheralQueue as peripheral_queue
use Rattle.joint_keys.specs.KeyedJoint.{KeyedJoint}
use Rattle.joint_keys.specs.Opening.{CanOpen}
use Rattle.joint_keys.proofs.Counting.{link_of_run}
use Rattle.joint_keys.proofs.EndGoing.{in_session}
use Rattle.joint_keys.proofs.Made.{equal_is}
use Rattle.joint_keys.proofs.NextPdus.{can_open_next, equal_by, is_settled, none_ahead}
use Rattle.joint_keys.proofs.Opened.{HaveVector, opens_session, turned}
use Rattle.joint_keys.proofs.Standing.{Standing, data_ahead}
use Rattle.link_pairs.specs.Parting.{HasNothing}
use Rattle.link_pairs.proofs.PhaseTests.{Tested, is_settled_way, tested}

-- ---- tests

either : (a b : Bool) → (a || b) ≡ true → (a ≡ true) ⊎ (b ≡ true)
either true b is = inl refl
either false b is = inr is

is_none_is : (o : Option PduClass) → is_none o ≡ true → o ≡ None
is_none_is None is = refl
is_none_is (Some pdu) is = absurd (cc)

-- ---- nothing is on its way

settled_down : (knows : Bool) (w : Way) → is_settled w ≡ true → is_settled_way (way_down knows w) ≡ true
settled_down knows Clear is = refl
settled_down knows (Taken item) is = refl
settled_down knows (Fixed item sealed) is = absurd (cc)
settled_down knows (OnAir item sealed) is = absurd (cc)

settled_up : (knows : Bool) (w : Way) → is_settled w ≡ true → is_settled_way (way_up knows w) ≡ true
settled_up knows Clear is = refl
settled_up knows (Taken item) is = refl
settled_up knows (Fixed item sealed) is = absurd (cc)
settled_up knows (OnAir item sealed) is = absurd (cc)

none_untaken : (w : PhaseWay) → is_settled_way w ≡ true → is_sealed_untaken w ≡ false
none_untaken PhaseWay.Clear is = refl
none_untaken (PhaseWay.Taken pause_rsp) is = refl
none_untaken (PhaseWay.Fixed pdu sealed) is = absurd (cc)
none_untaken (PhaseWay.OnAir pdu sealed) is = absurd (cc)

none_more : (m n : ℕ) → n ≡ 0 → m + n ≡ m
none_more m n is = omega (arith, is)

-- ---- nothing waits at a peripheral

emptied : (class_of : Draft → PduClass) (drafts : List Draft) (p : PhasePeripheral) (first second : Option PduClass) (request : UnsentRequest) (owes : Bool)
    → is_emptied (with_waits p first second request owes) ≡ true → wait_up class_of drafts (with_waits p first second request owes) ≡ true → drafts ≡ []
emptied class_of drafts p None None Absent false is waits = peripheral_queue.nothing_waits class_of p drafts waits
emptied class_of drafts p None None Absent true is waits = absurd (cc)
emptied class_of drafts p None None First owes is waits = absurd (cc)
emptied class_of drafts p None None Last owes is waits = absurd (cc)
emptied class_of drafts p None (Some pdu) request owes is waits = absurd (cc)
emptied class_of drafts p (Some pdu) second request owes is waits = absurd (cc)

-- ---- in a state of a joint run

pub tests : (s : KeyedJoint) (st : Standing s) → Tested (counted_run st.events).link
tests s st = subst Tested (sym (link_of_run st.events)) (tested st.events)

module _ (s : KeyedJoint) (st : Standing s) (vector : HaveVector s) where
  abbrev j : Joint
  j = s.joint

  abbrev p : PhaseFacts
  p = j.central.phase

  abbrev q : PhaseFacts
  q = j.peripheral.phase

  abbrev r : Counted
  r = counted_run st.events

  abbrev m : PhaseLink
  m = r.link

  module _ (settled : is_settled j.down ≡ true) where
    way_settled : is_settled_way m.down ≡ true
    way_settled = ap is_settled_way st.shown.down ∙ settled_down j.central.knows_version j.down settled

    can_down : is_equal (seals Central m.central.phase) (opens Peripheral m.peripheral.phase) ≡ true → CanOpen s.central.end s.peripheral.end
    can_down is =
        let same : seals Central p ≡ opens Peripheral q =
        ap (seals Central) st.shown.central.phase ∙ equal_is (seals Central m.central.phase) (opens Peripheral m.peripheral.phase) is
        ∙ ap (opens Peripheral) (sym st.shown.peripheral.phase) in
        can_open_next Central Peripheral refl p q s.central.end s.peripheral.end st.central st.peripheral same
        (λ some. vector (in_session Central p some) (opens_session Peripheral q (sym same ∙ some)))
        (λ some.
        sym st.counts.central_sent
        ∙ equal_by (seals Central m.central.phase) (opens Peripheral m.peripheral.phase) _ m.down r.central_sent r.peripheral_opened refl (none_untaken m.down way_settled)
        (ap (seals Central) (sym st.shown.central.phase) ∙ some) (ap (opens Peripheral) (sym st.shown.peripheral.phase) ∙ sym same ∙ some) (counted st.events).down
        ∙ st.counts.peripheral_opened)

    nothing_down : (not (is_quiet m.central.phase) && is_none m.central.queued) ≡ true → HasNothing j.central
    nothing_down is =
        let both = and_parts (not (is_quiet m.central.phase)) (is_none m.central.queued) is in
        let loud = not_true (is_quiet m.central.phase) both.0 in
        let none = is_none_is m.central.queued both.1 in
        record {
          loud = ap is_quiet st.shown.central.phase ∙ loud;
          rejections = no_rejections j.central.control.table.queue.rejections m.central.phase m.central.queued loud none st.shown.central.rejects;
          drafts = nothing_waits (draft_down j.central.knows_version) m.central.phase j.central.control.table.queue.drafts m.central.queued loud none st.shown.central.waits;
        }

    pub next_down : CanOpen s.central.end s.peripheral.end ⊎ HasNothing j.central
    next_down = by (either _ _ ((tests s st).down way_settled))
      where
        by : (is_equal (seals Central m.central.phase) (opens Peripheral m.peripheral.phase) ≡ true)
            ⊎ ((not (is_quiet m.central.phase) && is_none m.central.queued) ≡ true)
            → CanOpen s.central.end s.peripheral.end ⊎ HasNothing j.central
        by (inl is) = inl (can_down is)
        by (inr is) = inr (nothing_down is)

  module _ (settled : is_settled j.up ≡ true) where
    up_settled : is_settled_way m.up ≡ true
    up_settled = ap is_settled_way st.shown.up ∙ settled_up j.peripheral.knows_version j.up settled

    can_up : is_equal (seals Peripheral m.peripheral.phase) (opens Central m.central.phase) ≡ true → CanOpen s.peripheral.end s.central.end
    can_up is =
        let same : seals Peripheral q ≡ opens Central p =
        ap (seals Peripheral) st.shown.peripheral.phase ∙ equal_is (seals Peripheral m.peripheral.phase) (opens Central m.central.phase) is
        ∙ ap (opens Central) (sym st.shown.central.phase) in
        can_open_next Peripheral Central refl q p s.peripheral.end s.central.end st.peripheral st.central same
        (λ some. turned s.central.end s.peripheral.end (vector (opens_session Central p (sym same ∙ some)) (in_session Peripheral q some)))
        (λ some.
        sym (none_more s.peripheral.end.sent (data_ahead j.up) (none_ahead j.up settled)) ∙ sym st.counts.peripheral_sent
        ∙ equal_by (seals Peripheral m.peripheral.phase) (opens Central m.central.phase) _ m.up r.peripheral_sent r.central_opened refl (none_untaken m.up up_settled)
        (ap (seals Peripheral) (sym st.shown.peripheral.phase) ∙ some) (ap (opens Central) (sym st.shown.central.phase) ∙ sym same ∙ some) (counted st.events).up
        ∙ st.counts.central_opened)

    nothing_up : (not (is_quiet m.peripheral.phase) && is_emptied m.peripheral) ≡ true → HasNothing j.peripheral
    nothing_up is =
        let both = and_parts (not (is_quiet m.peripheral.phase)) (is_emptied m.peripheral) is in
        let f = m.peripheral in
        record {
          loud = ap is_quiet st.shown.peripheral.phase ∙ not_true (is_quiet m.peripheral.phase) both.0;
          rejections = st.shown.peripheral.rejects;
          drafts =
              emptied (draft_up j.peripheral.knows_version) j.peripheral.control.table.queue.drafts f f.first f.second f.request f.owes both.1
              st.shown.peripheral.waits;
        }

    pub next_up : CanOpen s.peripheral.end s.central.end ⊎ HasNothing j.peripheral
    next_up = by (either _ _ ((tests s st).up up_settled))
      where
        by : (is_equal (seals Peripheral m.peripheral.phase) (opens Central m.central.phase) ≡ true)
            ⊎ ((not (is_quiet m.peripheral.phase) && is_emptied m.peripheral) ≡ true)
            → CanOpen s.peripheral.end s.central.end ⊎ HasNothing j.peripheral
        by (inl is) = inl (can_up is)
        by (inr is) = inr (nothing_up is)
