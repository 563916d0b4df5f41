-- A peripheral that hears a packet of the central: the link goes on by that packet, in the joint run and by turns.
use Rattle.std.proofs.Common.{◌≡◌, ℕ, ◌+◌, ◌<◌, ◌≤◌, ◌&&◌, ◌||◌, Bool, true, false, not, List, [], ◌∷◌, ◌++◌, length, Option, None, is_none, is_some, refl, ap, sym, subst, ◌∙◌, arith, if◌then◌else◌}
use Rattle.std.proofs.lemmas.Bool.{and_from, and_parts}
use Rattle.ble_base.specs.declared.roles.Role.{Role}
use Rattle.ble_base.specs.declared.roles.Role.TheVariants.{Peripheral}
use Rattle.data_pdu.specs.declared.ctrl.Ctrl.{Ctrl}
use Rattle.data_pdu.specs.declared.header.DataHeader.{DataHeader}
use Rattle.control_octets.specs.procedure_values.Limits.{tx_of}
use Rattle.control_octets.specs.procedure_stages.Closing.{is_open}
use Rattle.control_octets.specs.procedure_stages.Kinds.{role_of}
use Rattle.joint_laws.specs.joint_controls.phased_control.enc_phase.Phases.{seals}
use Rattle.two_tracks.specs.TwoEnds.{LastPdu, MayReach, TwoEnds}
use Rattle.two_tracks.specs.TwoEnds as two_ends
use Rattle.data_pdu.specs.Layouts.{IsCtrl}
use Rattle.control_octets.specs.control_model.Control.{Control}
use Rattle.link_model.specs.phased_end.Taking.{drawn}
use Rattle.link_model.specs.control_end.Answers.{next_ctrl}
use Rattle.link_model.specs.control_end.Held.{held_of}
use Rattle.joint_laws.specs.joint_controls.phased_control.Phased.{Phased, is_quiet_now as is_quiet_phased}
use Rattle.joint_laws.specs.joint_controls.phased_control.Taken.{Response, response_ctrl}
use Rattle.joint_laws.specs.joint_controls.Joint.{Clear, Control as control_item, Data, Fixed, Item, Joint, JointStep, PeripheralAcked, PeripheralSends, PeripheralTakes, Way, after_all, is_free, is_running, is_taken, item_on_air, may, may_act, may_all, sent_up}
use Rattle.joint_laws.specs.joint_controls.Joint.{after as joint_after}
use Rattle.joint_laws.specs.joint_controls.Ends.{AreStepsInRange, outgoing_on}
use Rattle.joint_laws.proofs.joint_controls.Running.{GoesOn, goes_on, none_of}
use Rattle.joint_keys.specs.KeyedJoint.{KeyedJoint, Keys, keys_sending}
use Rattle.joint_keys.specs.KeyedLinks.{keys_in_step}
use Rattle.joint_keys.proofs.Closings.{GoesAlike}
use Rattle.joint_laws.specs.joint_parameters.Turns.{Alone, FixesNothing, Fixing, IsHeard, IsPaired, Link, LinkStep, MayLink, after_acknowledgement, fixing_steps, joint_steps, link_after, step_if, takes_item}
use Rattle.joint_laws.proofs.joint_parameters.Hearing.{range_before}
use Rattle.joint_laws.proofs.joint_parameters.Pairing.{may_now, running_from}
use Rattle.joint_laws.proofs.joint_parameters.Runs.{after_joined}
use Rattle.link_model.specs.Acknowledgement.{Acknowledgement, Pdu, is_acked, received_by, with_accepted, with_acked}
use Rattle.link_model.specs.Data.{Data as DataFacts, is_control, is_data, is_empty}
use Rattle.link_model.specs.OneLink.{AreInAgreement}
use Rattle.link_model.specs.Setup.{Setup}
use Rattle.link_model.specs.declared.state.Leaving.{Leaving}
use Rattle.link_model.specs.Controls.{is_quiet_now, is_terminate, next_control}
use Rattle.link_model.specs.Facts.{Encryption, Facts, keyed_of}
use Rattle.link_model.specs.Packets.{good_pdu}
use Rattle.link_model.specs.Receiving.{accepts, facts_hearing, has_ended, replies_by, replies_of, taken_if}
use Rattle.link_model.specs.Step.{PacketSent}
use Rattle.link_model.specs.Sending.{control_gone_if, fixed_sent, takes_leave}
use Rattle.link_pairs.specs.Ends.{AreEnds, HasExchange, heard_turns, is_lasting, phased_of, turns_at}
use Rattle.link_pairs.specs.Hearing.{received}
use Rattle.link_pairs.specs.Hearing as hearing
use Rattle.link_pairs.specs.Shown.{HasKeys, HaveKeys, Shows}
use Rattle.link_pairs.specs.Turns.{HasFixed, sent_if}
use Rattle.link_pairs.specs.Ways.{IsItem, ShowsLast, ShowsWay}
use Rattle.link_pairs.proofs.Answering.{HasLast, all_same, answers_plainly, fixed, gone, last_again, last_next, rests_with, seen, seen_fixed, taken, taken_acknowledgement, taken_good, took}
use Rattle.link_pairs.proofs.Answering.{taken_stays as stays_taken}
use Rattle.link_pairs.proofs.ControlKept.{acked_next, sent_ends}
use Rattle.link_pairs.proofs.Counts.{HasBitsOf, Says, acknowledged_by, heard_agreed, is_fresh, says_right, sent_agreed, turned}
use Rattle.link_pairs.proofs.FixingNext.{Empty, FixesNext, Holds, IsAnswer, control_bits, control_short, fixed_by, fixes_next, fixing_of, may_fix_after}
use Rattle.link_pairs.proofs.HeardTurns.{HearsIn, hears_in, in_exchange, last_heard, last_hears}
use Rattle.link_pairs.proofs.PeripheralSteps.{may_parts, seen_after, sends_after, with_end}
use Rattle.link_pairs.proofs.PhasedEnds.{acked_alone, acked_if, acked_lasts, acked_phased, gone_phased}
use Rattle.link_pairs.proofs.PhasedKept.{PhasedKeeps, acked_keeps_if, fits_of, gone_keeps, kept_then}
use Rattle.link_pairs.proofs.ReachedRuns.{requests_none}
use Rattle.link_pairs.proofs.Replying.{good_not_forged, replies_as}
use Rattle.link_pairs.proofs.Lasting.{lasts_before_if}
use Rattle.link_pairs.proofs.Items.{item_is_not_empty}
use Rattle.link_pairs.proofs.KeyedRuns.{all_joined, central_apart, fixing_apart, keys_acked_if, keys_all, keys_taken_if, peripheral_acked, peripheral_took}
use Rattle.link_pairs.proofs.KeysAt.{goes_alike_at}
use Rattle.link_pairs.proofs.KeysHeld.{acked_has, again_has, empty_has, has_still, have_after, new_has, sent_as, sent_is_as}
use Rattle.link_pairs.proofs.Reaching.{IsReached, IsShown, comes, joint_at, keys_at, keys_next, not_both, paired, peripheral_transmits, reached_next, shown}
use Rattle.link_pairs.proofs.SeenAcknowledged.{cleared, clear_seen, control_seen, ends_nothing, keys_seen}
use Rattle.link_pairs.proofs.TakingKeys.{took_keys}
use Rattle.link_pairs.proofs.TakingPdus.{HasTaken, TakesNext, takes_next}
use Rattle.link_pairs.proofs.Ways.{Arrival, arrives, last_same, last_taken, sent_again, way_same, way_seen, way_sent, way_sent_empty}

-- ---- its next control PDU, and that a control PDU leaves

abbrev next_at : Phased → Option Ctrl
next_at x = next_ctrl (is_quiet_phased x) (held_of x.control)

module _ (x : Phased) (none : x.request ≡ None) where
  quiet_seen : (acked : Bool) → is_quiet_phased (acked_if acked x) ≡ is_quiet_phased x
  quiet_seen true = ap is_quiet_phased (acked_alone x none)
  quiet_seen false = refl

  next_seen : (acked : Bool) → role_of x.control.table.progress ≡ Peripheral → next_at (acked_if acked x) ≡ next_at x
  next_seen true role = ap next_at (acked_alone x none) ∙ acked_next x.control (is_quiet_phased x) role
  next_seen false role = refl

gone_ends : (goes : Bool) (slot : ℕ) (facts : Facts) → (control_gone_if goes slot facts).control.ends ≡ facts.control.ends
gone_ends true slot facts = sent_ends facts.control slot (is_quiet_now facts)
gone_ends false slot facts = refl

room_for : (room has_data : Bool) → has_data ≡ false → (room || not has_data) ≡ true
room_for room true is = absurd (cc)
room_for true false is = refl
room_for false false is = refl

-- ---- the joint run as the peripheral takes a PDU, or does not

-- some steps lead to it, which leave the central, its way and the event of the peripheral as they were; the control part of
-- the peripheral is this one then
pub record TakesAt (s : Joint) (takes : Bool) (slot : ℕ) (response : Response) (now : Control) : Type 0 where
  pub steps : List JointStep
  pub in_range : AreStepsInRange steps
  pub state : Joint
  pub leads : after_all steps s ≡ state
  pub comes : may_all (step_if takes (PeripheralTakes slot response)) state ≡ true
  pub to : (after_all (step_if takes (PeripheralTakes slot response)) state).peripheral.control ≡ now
  pub central : state.central ≡ s.central
  pub down : state.down ≡ s.down
  pub entered : state.peripheral.control.track.entered ≡ s.peripheral.control.track.entered
  pub lasts : state.peripheral.control.ends ≡ None

-- ---- both ends before it

module _ (central peripheral : Setup) (slot : ℕ) (l : Link) (c p : Facts) (header : DataHeader) where
  -- a packet of the central, with this header, reaches the peripheral, which has fixed its next PDU
  pub record Meets : Type 0 where
    pub ends : AreEnds central peripheral
    pub reached : IsReached central peripheral l
    pub running : is_running l.joint ≡ true
    pub shows : Shows central peripheral (slot + 1) false l c p
    pub keys : HaveKeys (keys_at central peripheral l reached) c p
    pub out_last : p.control.table.out ≡ outgoing_on l.joint.up
    pub bits : HasBitsOf c.acknowledgement header
    pub out : is_acked c.acknowledgement ≡ false
    pub central_heard : heard_turns central c ≤ slot
    pub peripheral_heard : heard_turns peripheral p ≤ slot
    pub supervised : slot + 1 ≤ heard_turns peripheral p + 32768
    pub transmits : HasExchange slot c
    pub listens : HasExchange slot p
    pub has_fixed : HasFixed p

  module _ (m : Meets) (room : Bool) where
    abbrev s : Shows central peripheral (slot + 1) false l c p
    s = m.shows

    abbrev acks : Bool
    acks = acknowledged_by p.acknowledgement header

    abbrev fresh : Bool
    fresh = is_fresh p.acknowledgement header

    abbrev pdu : Pdu
    pdu = c.acknowledgement.last

    -- room for all but data is there always
    abbrev room_now : Bool
    room_now = room || not (is_data pdu)

    abbrev accepted : Bool
    accepted = fresh && room_now

    agreed : AreInAgreement p.acknowledgement c.acknowledgement
    agreed = turned c.acknowledgement p.acknowledgement s.agreement

    says : Says p.acknowledgement c.acknowledgement acks fresh
    says = says_right p.acknowledgement c.acknowledgement agreed header m.bits m.out

    p_paired : IsPaired l
    p_paired = paired central peripheral m.ends l m.reached m.running

    -- ---- the packet reaches it

    pub reaches : MayReach l.turns
    reaches =
        record {
          central_open = p_paired.central_open;
          peripheral_open = p_paired.peripheral_open;
          transmits =
              in_exchange central slot c l.turns.turns l.turns.central_heard_at l.turns.central m.transmits s.central_rests m.central_heard
              (ap (λ (x : Phased). x.control.track) (sym s.central_part) ∙ sym p_paired.central) s.central_heard s.begun;
          listens =
              in_exchange peripheral slot p l.turns.turns l.turns.peripheral_heard_at l.turns.peripheral m.listens s.peripheral_rests m.peripheral_heard
              (ap (λ (x : Phased). x.control.track) (sym s.peripheral_part) ∙ sym p_paired.peripheral) s.peripheral_heard s.begun;
          supervised = omega (arith, s.begun, s.peripheral_heard, m.supervised);
        }

    -- ---- it sees its last PDU acknowledged, or does not

    abbrev before : Facts
    before = seen slot header.md acks p

    -- what it would draw
    abbrev response : Response
    response = drawn p.encryption.response

    seen_is : phased_of before ≡ acked_if (acks && is_control p.acknowledgement.last) (phased_of p)
    seen_is = acked_phased (acks && is_control p.acknowledgement.last) (keyed_of p)

    goes : GoesOn l.joint
    goes = goes_on l.joint m.running

    abbrev start : Joint
    start = with_end (phased_of c) l.joint.down l.joint.up false (phased_of p)

    started : l.joint ≡ start
    started = λ i. record { central = s.central_part i; peripheral = s.peripheral_part i; down = l.joint.down; up = l.joint.up; stopped = goes.stopped i }

    lasts : p.control.ends ≡ None
    lasts = ap (λ (x : Phased). x.control.ends) (sym s.peripheral_part) ∙ goes.peripheral

    abbrev acked_steps : List JointStep
    acked_steps = step_if (is_taken l.joint.up) PeripheralAcked

    abbrev takes : Bool
    takes = takes_item room_now (item_on_air l.joint.down)

    acked_may : may_all acked_steps l.joint ≡ true
    acked_may =
        let all = comes central peripheral m.ends (IsHeard room_now FixesNothing slot response) l m.reached m.running (reaches, tt) in
        let first = may_parts (acked_steps ++ []) (step_if takes (PeripheralTakes slot response)) l.joint all in
        (may_parts acked_steps [] l.joint first.0).0

    seen_joint : after_acknowledgement l.joint ≡ with_end (phased_of c) l.joint.down (cleared l.joint.up) false (phased_of before)
    seen_joint =
        ap (after_all acked_steps) started
        ∙ seen_after (phased_of c) l.joint.down l.joint.up (phased_of p) (subst (λ (j : Joint). may_all acked_steps j ≡ true) started acked_may)
        ∙ ap (with_end (phased_of c) l.joint.down (cleared l.joint.up) false)
        (sym (control_seen p.acknowledgement c.acknowledgement acks fresh says l.joint.up (phased_of p) s.up m.out_last) ∙ sym seen_is)

    -- ---- it fixes its next one

    seen_keeps : PhasedKeeps (phased_of p) (phased_of before)
    seen_keeps =
        subst (PhasedKeeps (phased_of p)) (sym seen_is)
        (acked_keeps_if (acks && is_control p.acknowledgement.last) (phased_of p) lasts (fits_of peripheral (slot + 1) p s.peripheral_rests))

    seen_lasts : before.control.ends ≡ None
    seen_lasts =
        ap (λ (x : Phased). x.control.ends) seen_is ∙ acked_lasts (acks && is_control p.acknowledgement.last) (phased_of p) lasts

    is_role : role_of p.control.table.progress ≡ Peripheral
    is_role = s.peripheral_rests.role ∙ m.ends.is_peripheral

    no_request : (phased_of p).request ≡ None
    no_request = ap (λ (x : Phased). x.request) (sym s.peripheral_part) ∙ requests_none central peripheral m.ends l m.reached

    next_same : next_control before ≡ next_control p
    next_same = ap next_at seen_is ∙ next_seen (phased_of p) no_request (acks && is_control p.acknowledgement.last) is_role

    quiet_same : is_quiet_now before ≡ is_quiet_now p
    quiet_same = ap is_quiet_phased seen_is ∙ quiet_seen (phased_of p) no_request (acks && is_control p.acknowledgement.last)

    open_same : is_open before.control.table.closing ≡ is_open p.control.table.closing
    open_same = ap is_open seen_keeps.kept.closing

    goes_alike : GoesAlike (phased_of p)
    goes_alike = subst GoesAlike s.peripheral_part (goes_alike_at central peripheral m.ends l m.reached m.running).1

    fixed_same : before.outgoing.fixed ≡ p.outgoing.fixed
    fixed_same = seen_fixed slot header.md acks p

    abbrev fixing : Fixing
    fixing = fixing_of (is_acked before.acknowledgement) before.fixes_control (is_data before.outgoing.fixed)

    pub fixes : FixesNext (phased_of c) l.joint.down (cleared l.joint.up) slot before (is_acked before.acknowledgement) before.fixes_control fixing
    fixes =
        fixes_next (phased_of c) l.joint.down (cleared l.joint.up) slot before seen_lasts seen_keeps.fits.control
        (clear_seen p.acknowledgement c.acknowledgement acks fresh says agreed l.joint.up s.up)
        (m.has_fixed.control ∙ ap (λ (next : Option Ctrl). is_some next) (sym next_same))
        (λ is. let first = m.has_fixed.data_first (sym (ap is_data fixed_same) ∙ is) in (
          next_same ∙ first.0,
          (λ i. quiet_same i && open_same i) ∙ sym goes_alike ∙ first.1,
        ))
        (ap is_control fixed_same ∙ s.peripheral_rests.none_gone) (subst (λ (x : Pdu). x.llid < 4) (sym fixed_same) m.has_fixed.two_bits)

    abbrev heard : LinkStep
    heard = IsHeard room_now fixing slot response

    may_hear : MayLink heard l
    may_hear = (reaches, may_fix_after fixing slot l.joint _ seen_joint fixes.may_fix)

    all_may : may_all (joint_steps heard l) l.joint ≡ true
    all_may = comes central peripheral m.ends heard l m.reached m.running may_hear

    parts : (may_all (acked_steps ++ fixing_steps fixing slot) l.joint ≡ true)
        × (may_all (step_if takes (PeripheralTakes slot response)) (after_all (acked_steps ++ fixing_steps fixing slot) l.joint) ≡ true)
    parts = may_parts (acked_steps ++ fixing_steps fixing slot) (step_if takes (PeripheralTakes slot response)) l.joint all_may

    abbrev after_fixing : Facts
    after_fixing = fixed slot header.md acks p

    fixed_joint : after_all (acked_steps ++ fixing_steps fixing slot) l.joint ≡ with_end (phased_of c) l.joint.down fixes.next_way false (phased_of after_fixing)
    fixed_joint =
        after_joined acked_steps (fixing_steps fixing slot) l.joint
        ∙ ap (after_all (fixing_steps fixing slot)) seen_joint
        ∙ fixes.leads
        (subst (λ (j : Joint). may_all (fixing_steps fixing slot) j ≡ true) seen_joint
        (may_parts acked_steps (fixing_steps fixing slot) l.joint parts.0).1)

    -- ---- it takes the PDU, or does not

    fixed_keeps : PhasedKeeps (phased_of before) (phased_of after_fixing)
    fixed_keeps =
        subst (PhasedKeeps (phased_of before)) (sym (gone_phased (takes_leave before) slot before))
        (gone_keeps (takes_leave before) (phased_of before) slot seen_lasts seen_keeps.fits)

    same_response : drawn after_fixing.encryption.response ≡ response
    same_response = ap (λ (e : Encryption). drawn e.response) (gone slot header.md acks p).encryption

    fixed_lasts : after_fixing.control.ends ≡ None
    fixed_lasts = gone_ends (takes_leave before) slot before ∙ seen_lasts

    arrival : Arrival l.joint.down c.acknowledgement p.acknowledgement takes accepted
    arrival =
        arrives c.acknowledgement p.acknowledgement acks fresh says s.agreement m.out room_now (room_for room (is_data pdu)) l.joint.down s.down

    pub takes_pdu : TakesNext (phased_of c) l.joint.down fixes.next_way slot c.acknowledgement p.acknowledgement after_fixing takes accepted
    takes_pdu =
        takes_next (phased_of c) l.joint.down fixes.next_way slot c.acknowledgement p.acknowledgement after_fixing takes accepted fixed_lasts fixed_keeps.fits
        (subst (λ (r : Response). IsCtrl (response_ctrl r)) (sym same_response) s.peripheral_rests.holds.response) arrival

    abbrev now : Facts
    now = taken slot header.md acks p accepted pdu

    abbrev ready_to_take : Joint
    ready_to_take = with_end (phased_of c) l.joint.down fixes.next_way false (phased_of after_fixing)

    takes_may : may_all (step_if takes (PeripheralTakes slot response)) ready_to_take ≡ true
    takes_may = subst (λ (j : Joint). may_all (step_if takes (PeripheralTakes slot response)) j ≡ true) fixed_joint parts.1

    takes_joint : after_all (step_if takes (PeripheralTakes slot response)) ready_to_take
        ≡ with_end (phased_of c) takes_pdu.next_down fixes.next_way takes_pdu.stopped (phased_of now)
    takes_joint =
        subst (λ (r : Response). may_all (step_if takes (PeripheralTakes slot r)) ready_to_take ≡ true
        → after_all (step_if takes (PeripheralTakes slot r)) ready_to_take
        ≡ with_end (phased_of c) takes_pdu.next_down fixes.next_way takes_pdu.stopped (phased_of now))
        same_response takes_pdu.leads takes_may

    pub heard_joint : (link_after heard l).joint ≡ with_end (phased_of c) takes_pdu.next_down fixes.next_way takes_pdu.stopped (phased_of now)
    heard_joint =
        after_joined (acked_steps ++ fixing_steps fixing slot) (step_if takes (PeripheralTakes slot response)) l.joint
        ∙ ap (after_all (step_if takes (PeripheralTakes slot response))) fixed_joint ∙ takes_joint

    pub takes_at : TakesAt l.joint takes slot response now.control
    takes_at =
        record {
          steps = acked_steps ++ fixing_steps fixing slot;
          in_range = range_before l.joint fixing slot;
          state = ready_to_take;
          leads = fixed_joint;
          comes = takes_may;
          to = ap (λ (j : Joint). j.peripheral.control) takes_joint;
          central = sym s.central_part;
          down = refl;
          entered =
              fixed_keeps.kept.entered ∙ seen_keeps.kept.entered ∙ ap (λ (x : Phased). x.control.track.entered) (sym s.peripheral_part);
          lasts = fixed_lasts;
        }

    -- ---- its keys

    abbrev k : KeyedJoint
    k = keys_at central peripheral l m.reached

    seen_keys : HasKeys (keys_acked_if (is_taken l.joint.up) l.joint.peripheral k.peripheral) before
    seen_keys =
        subst (λ (x : Keys). HasKeys x before)
        (keys_seen p.acknowledgement c.acknowledgement acks fresh says l.joint.up (phased_of p) k.peripheral s.up m.out_last
        ∙ ap (λ (x : Phased). keys_acked_if (is_taken l.joint.up) x k.peripheral) (sym s.peripheral_part))
        (acked_has slot header.md acks (phased_of p) k.peripheral p refl m.keys.peripheral_keys)

    fixed_keys : HasKeys (keys_acked_if (is_taken l.joint.up) l.joint.peripheral k.peripheral) after_fixing
    fixed_keys =
        let g = gone slot header.md acks p in
        has_still _ before after_fixing
        (record {
          material = ap (λ (e : Encryption). e.material) g.encryption;
          session = ap (λ (e : Encryption). e.end) g.encryption;
          payload = g.payload;
          last = ap (λ (a : Acknowledgement). a.last) g.acknowledgement;
        }) seen_keys

    -- as the PDU is taken, or is not
    abbrev own_keys : Keys
    own_keys =
        keys_taken_if takes (item_on_air l.joint.down) slot response (phased_of after_fixing)
        (keys_acked_if (is_taken l.joint.up) l.joint.peripheral k.peripheral)

    now_keys : HasKeys own_keys now
    now_keys =
        subst
        (λ (r : Response). HasKeys (keys_taken_if takes (item_on_air l.joint.down) slot r (phased_of after_fixing)
        (keys_acked_if (is_taken l.joint.up) l.joint.peripheral k.peripheral)) now)
        same_response
        (took_keys l.joint.down c.acknowledgement p.acknowledgement takes accepted slot (phased_of after_fixing) _ after_fixing refl fixed_keys arrival)

    abbrev first_steps : List JointStep
    first_steps = acked_steps ++ fixing_steps fixing slot

    abbrev last_steps : List JointStep
    last_steps = step_if takes (PeripheralTakes slot response)

    first_keys : keys_all Peripheral first_steps [] l.joint k.peripheral ≡ keys_acked_if (is_taken l.joint.up) l.joint.peripheral k.peripheral
    first_keys =
        all_joined Peripheral acked_steps (fixing_steps fixing slot) [] l.joint k.peripheral
        ∙ fixing_apart [] (after_all acked_steps l.joint) (keys_all Peripheral acked_steps [] l.joint k.peripheral) fixing slot
        ∙ peripheral_acked [] l.joint k.peripheral (is_taken l.joint.up)

    keys_run : keys_all Peripheral (first_steps ++ last_steps) [] l.joint k.peripheral ≡ own_keys
    keys_run =
        all_joined Peripheral first_steps last_steps [] l.joint k.peripheral
        ∙ (λ i. keys_all Peripheral last_steps [] (fixed_joint i) (first_keys i))
        ∙ peripheral_took [] ready_to_take (keys_acked_if (is_taken l.joint.up) l.joint.peripheral k.peripheral) takes slot response

    heard_keys : HaveKeys (keys_in_step (record { step = heard; ltk = [] }) l k) c now
    heard_keys =
        have_after [] (first_steps ++ last_steps) k l.joint c now (joint_at central peripheral l m.reached) all_may
        (subst (λ (x : Keys). HasKeys x c) (sym (central_apart [] l.joint k.central (is_taken l.joint.up) takes fixing slot response)) m.keys.central_keys)
        (subst (λ (x : Keys). HasKeys x now) (sym keys_run) now_keys)

    -- ---- where the run goes on

    abbrev next : Link
    next = link_after heard l

    abbrev next_reached : IsReached central peripheral next
    next_reached = reached_next central peripheral heard l m.reached m.running may_hear tt

    abbrev answered : Facts
    answered = fixed_sent slot now

    abbrev next_k : KeyedJoint
    next_k = keys_at central peripheral next next_reached

    next_keys : HaveKeys next_k c now
    next_keys =
        subst (λ (x : KeyedJoint). HaveKeys x c now)
        (sym (keys_next central peripheral (record { step = heard; ltk = [] }) l m.reached m.running may_hear tt)) heard_keys

    hears : HearsIn l.turns next.turns (last_heard (room_now || not (is_free l.joint.down)) l.turns.last)
    hears = hears_in (room_now || not (is_free l.joint.down)) l.turns.last l.turns refl

    now_acknowledgement : now.acknowledgement ≡ received_by acks accepted pdu p.acknowledgement
    now_acknowledgement = taken_acknowledgement slot header.md acks p accepted pdu

    now_agreed : AreInAgreement now.acknowledgement c.acknowledgement
    now_agreed =
        subst (λ (a : Acknowledgement). AreInAgreement a c.acknowledgement) (sym now_acknowledgement)
        (heard_agreed p.acknowledgement c.acknowledgement agreed header m.bits room_now m.out)

    accepted_same : length answered.acknowledgement.accepted ≡ length (with_accepted accepted pdu p.acknowledgement).accepted
    accepted_same = ap (λ (a : Acknowledgement). length a.accepted) now_acknowledgement

    ends_none : (acks && is_terminate p.acknowledgement.last) ≡ false
    ends_none = ends_nothing p.acknowledgement c.acknowledgement acks fresh says l.joint.up s.up

    stays_now : now.leaving.acknowledged ≡ false
    stays_now = stays_taken slot header.md acks p accepted pdu ∙ λ i. s.peripheral_rests.stays i || ends_none i

    module _ (still : is_running next.joint ≡ true) where
      going : GoesOn (with_end (phased_of c) takes_pdu.next_down fixes.next_way takes_pdu.stopped (phased_of now))
      going = goes_on _ (subst (λ (j : Joint). is_running j ≡ true) heard_joint still)

      took_pdu : HasTaken (phased_of c) l.joint.down fixes.next_way slot c.acknowledgement p.acknowledgement after_fixing takes accepted takes_pdu.next_down
      took_pdu = takes_pdu.taken going.stopped

      goes_joint : next.joint ≡ with_end (phased_of c) takes_pdu.next_down fixes.next_way false (phased_of now)
      goes_joint =
          heard_joint
          ∙ ap (λ (b : Bool). with_end (phased_of c) takes_pdu.next_down fixes.next_way b (phased_of now)) going.stopped

      now_keeps : PhasedKeeps (phased_of p) (phased_of now)
      now_keeps =
          kept_then (phased_of p) (phased_of before) (phased_of now) seen_keeps
          (kept_then (phased_of before) (phased_of after_fixing) (phased_of now) fixed_keeps took_pdu.keeps)

      opens : next.turns.peripheral_open ≡ true
      opens = (paired central peripheral m.ends next next_reached still).peripheral_open

      pub shows_next : (k : Link) (up : Way) → k.joint ≡ with_end (phased_of c) takes_pdu.next_down up false (phased_of now) → k.turns ≡ next.turns
          → HasLast slot header.md acks p accepted pdu (is_acked now.acknowledgement)
          → ShowsWay up answered.acknowledgement c.acknowledgement → length answered.acknowledgement.last.body ≤ central.link.max_rx
          → Shows central peripheral (slot + 1) true k c answered
      shows_next k up joint_is turns_is last shown fits =
          record {
            central_part = ap (λ (j : Joint). j.central) joint_is;
            peripheral_part = ap (λ (j : Joint). j.peripheral) joint_is;
            down =
                subst (λ (w : Way). ShowsWay w c.acknowledgement answered.acknowledgement) (sym (ap (λ (j : Joint). j.down) joint_is))
                (way_same takes_pdu.next_down c.acknowledgement (with_accepted accepted pdu p.acknowledgement) c.acknowledgement answered.acknowledgement refl refl refl
                accepted_same took_pdu.shown);
            up = subst (λ (w : Way). ShowsWay w answered.acknowledgement c.acknowledgement) (sym (ap (λ (j : Joint). j.up) joint_is)) shown;
            agreement =
                turned answered.acknowledgement c.acknowledgement
                (sent_agreed now.outgoing.fixed now.acknowledgement c.acknowledgement now_agreed);
            begun = ap (λ (t : TwoEnds). t.turns) turns_is ∙ hears.begun ∙ s.begun;
            replies = λ is. ap (λ (t : TwoEnds). t.replies) turns_is ∙ hears.replies opens;
            last =
                subst (λ (x : LastPdu). ShowsLast x c.acknowledgement answered.acknowledgement)
                (sym (ap (λ (t : TwoEnds). t.last) turns_is ∙ hears.last opens
                ∙ last_hears c.acknowledgement p.acknowledgement acks fresh room_now says s.agreement m.out (room_for room (is_data pdu)) l.joint.down s.down
                l.joint.central.control.sent l.turns.last s.last p_paired.coming))
                (last_same (if accepted then two_ends.Taken else l.turns.last) c.acknowledgement (with_accepted accepted pdu p.acknowledgement) c.acknowledgement
                answered.acknowledgement refl refl accepted_same
                (last_taken c.acknowledgement p.acknowledgement acks fresh says s.agreement m.out l.turns.last accepted (λ is. (and_parts fresh room_now is).0) s.last));
            central_heard = ap (λ (t : TwoEnds). t.central_heard_at) turns_is ∙ hears.central_heard ∙ s.central_heard;
            peripheral_heard =
                ap (λ (t : TwoEnds). t.peripheral_heard_at) turns_is ∙ hears.peripheral_heard ∙ s.begun
                ∙ ap (turns_at peripheral.opened) (sym (taken_good slot header.md acks p accepted pdu));
            free = λ all. absurd (let no = sym m.out ∙ all in cc);
            central_rests = s.central_rests;
            peripheral_rests =
                rests_with peripheral slot header.md acks p accepted pdu s.peripheral_rests now_keeps m.listens ends_none (is_acked now.acknowledgement) last;
            central_fits = s.central_fits;
            peripheral_fits = fits;
          }

      -- ---- it answers with its last PDU again

      module _ (again : is_acked before.acknowledgement ≡ false) where
        now_out : is_acked now.acknowledgement ≡ false
        now_out = all_same slot header.md acks p accepted pdu ∙ again

        keys_again : HaveKeys next_k c answered
        keys_again =
            record {
              central_keys = next_keys.central_keys;
              peripheral_keys = subst (HasKeys next_k.peripheral) (sym (sent_is_as false slot now now_out)) (again_has slot next_k.peripheral now next_keys.peripheral_keys);
            }

        same_ack : answered.acknowledgement ≡ now.acknowledgement
        same_ack = sent_again now.outgoing.fixed now.acknowledgement now_out

        same_last : answered.acknowledgement.last ≡ p.acknowledgement.last
        same_last = ap (λ (a : Acknowledgement). a.last) (same_ack ∙ now_acknowledgement)

        way_again : ShowsWay fixes.next_way answered.acknowledgement c.acknowledgement
        way_again =
            subst (λ (w : Way). ShowsWay w answered.acknowledgement c.acknowledgement) (sym (fixes.same again))
            (way_same (cleared l.joint.up) (with_acked acks p.acknowledgement) c.acknowledgement answered.acknowledgement c.acknowledgement same_last
            (ap (λ (a : Acknowledgement). a.acked) (same_ack ∙ now_acknowledgement))
            (ap (λ (a : Acknowledgement). length a.sent) (same_ack ∙ now_acknowledgement)) refl
            (way_seen p.acknowledgement c.acknowledgement acks fresh says l.joint.up s.up))

        shows_again : Shows central peripheral (slot + 1) true next c answered
        shows_again =
            shows_next next fixes.next_way goes_joint refl
            (subst (HasLast slot header.md acks p accepted pdu) (sym now_out) (last_again slot header.md acks p accepted pdu peripheral s.peripheral_rests again))
            way_again (subst (λ (x : Pdu). length x.body ≤ central.link.max_rx) (sym same_last) s.peripheral_fits)

      -- ---- it answers with the next one

      module _ (all : is_acked before.acknowledgement ≡ true) where
        now_all : is_acked now.acknowledgement ≡ true
        now_all = all_same slot header.md acks p accepted pdu ∙ all

        now_fixed : now.outgoing.fixed ≡ after_fixing.outgoing.fixed
        now_fixed = ap (λ (o : DataFacts). o.fixed) (took slot header.md acks p accepted pdu).outgoing

        next_last : answered.acknowledgement.last ≡ now.outgoing.fixed
        next_last = ap (λ (b : Bool). if b then now.outgoing.fixed else now.acknowledgement.last) now_all

        most_sent : tx_of p.control.table.lengths ≤ central.link.max_rx
        most_sent =
            subst (λ (x : Phased). tx_of x.control.table.lengths ≤ central.link.max_rx) s.peripheral_part
            (peripheral_transmits central peripheral m.ends l m.reached m.running)

        fits_next : length now.outgoing.fixed.body ≤ central.link.max_rx
        fits_next =
            subst (λ (x : Pdu). length x.body ≤ central.link.max_rx) (sym now_fixed)
            (fixed_by (λ (x : Pdu). length x.body ≤ central.link.max_rx) (takes_leave before) slot before
            (λ next. omega (arith, control_short next, m.ends.central_max.from))
            (subst (λ (x : Pdu). length x.body ≤ central.link.max_rx) (sym fixed_same) (omega (arith, m.has_fixed.short, most_sent))))

        bits_next : now.outgoing.fixed.llid < 4
        bits_next =
            subst (λ (x : Pdu). x.llid < 4) (sym now_fixed)
            (fixed_by (λ (x : Pdu). x.llid < 4) (takes_leave before) slot before (λ next. control_bits next)
            (subst (λ (x : Pdu). x.llid < 4) (sym fixed_same) m.has_fixed.two_bits))

        has_last : HasLast slot header.md acks p accepted pdu (is_acked now.acknowledgement)
        has_last =
            subst (HasLast slot header.md acks p accepted pdu) (sym now_all)
            (last_next slot header.md acks p accepted pdu (omega (arith, fits_next, m.ends.central_max.to)) bits_next)

        shows_all : (k : Link) (up : Way) → k.joint ≡ with_end (phased_of c) takes_pdu.next_down up false (phased_of now) → k.turns ≡ next.turns
            → ShowsWay up answered.acknowledgement c.acknowledgement → Shows central peripheral (slot + 1) true k c answered
        shows_all k up joint_is turns_is shown =
            shows_next k up joint_is turns_is has_last shown (subst (λ (x : Pdu). length x.body ≤ central.link.max_rx) (sym next_last) fits_next)

        keys_by : (keys : Keys) → HasKeys keys (sent_as true slot now) → HasKeys keys answered
        keys_by keys = subst (HasKeys keys) (sym (sent_is_as true slot now now_all))

        -- an empty one
        keys_empty : is_empty after_fixing.outgoing.fixed ≡ true → HaveKeys next_k c answered
        keys_empty empty =
            record {
              central_keys = next_keys.central_keys;
              peripheral_keys = keys_by next_k.peripheral (empty_has slot next_k.peripheral now next_keys.peripheral_keys (ap is_empty now_fixed ∙ empty));
            }

        shows_empty : fixes.next_way ≡ Clear → is_empty after_fixing.outgoing.fixed ≡ true → Shows central peripheral (slot + 1) true next c answered
        shows_empty way empty =
            shows_all next fixes.next_way goes_joint refl
            (subst (λ (w : Way). ShowsWay w answered.acknowledgement c.acknowledgement) (sym way)
            (way_sent_empty now.outgoing.fixed now.acknowledgement c.acknowledgement now_agreed now_all (ap is_empty now_fixed ∙ empty)))

        -- a control PDU, or data
        module _ (item : Item) (sealed : Bool) (way : fixes.next_way ≡ Fixed item sealed) (is : IsItem item after_fixing.outgoing.fixed) where
          fixed_goes : next.joint ≡ with_end (phased_of c) takes_pdu.next_down (Fixed item sealed) false (phased_of now)
          fixed_goes = goes_joint ∙ ap (λ (w : Way). with_end (phased_of c) takes_pdu.next_down w false (phased_of now)) way

          may_send : may PeripheralSends next.joint ≡ true
          may_send =
              may_now PeripheralSends next.joint still
              (subst (λ (j : Joint). may_act PeripheralSends j ≡ true) (sym fixed_goes) took_pdu.free)

          abbrev after_next : Link
          after_next = link_after (Alone PeripheralSends) next

          sends_joint : after_next.joint ≡ with_end (phased_of c) takes_pdu.next_down (sent_up (Fixed item sealed) (seals Peripheral now.encryption.phase)) false (phased_of now)
          sends_joint =
              ap (joint_after PeripheralSends) fixed_goes
              ∙ sends_after (phased_of c) takes_pdu.next_down (phased_of now) (Fixed item sealed)
              (subst (λ (j : Joint). may PeripheralSends j ≡ true) fixed_goes may_send)

          way_on : (x : Item) → IsItem x now.outgoing.fixed
              → ShowsWay (sent_up (Fixed x sealed) (seals Peripheral now.encryption.phase)) answered.acknowledgement c.acknowledgement
          way_on Data is_item = way_sent now.outgoing.fixed now.acknowledgement c.acknowledgement now_agreed now_all Data sealed is_item
          way_on (control_item outgoing ctrl) is_item =
              way_sent now.outgoing.fixed now.acknowledgement c.acknowledgement now_agreed now_all (control_item outgoing ctrl) (seals Peripheral now.encryption.phase) is_item

          abbrev after_reached : IsReached central peripheral after_next
          after_reached = reached_next central peripheral (Alone PeripheralSends) next next_reached still (refl, may_send) tt

          keys_item : HaveKeys (keys_at central peripheral after_next after_reached) c answered
          keys_item =
              subst (λ (x : KeyedJoint). HaveKeys x c answered)
              (sym (keys_next central peripheral (record { step = Alone PeripheralSends; ltk = [] }) next next_reached still (refl, may_send) tt))
              (have_after [] (PeripheralSends ∷ []) next_k next.joint c answered (joint_at central peripheral next next_reached)
              (and_from (may PeripheralSends next.joint) true may_send refl) next_keys.central_keys
              (keys_by (keys_sending next_k.peripheral)
              (new_has slot next_k.peripheral now next_keys.peripheral_keys (ap is_empty now_fixed ∙ item_is_not_empty after_fixing.outgoing.fixed item is))))

          shows_item : Shows central peripheral (slot + 1) true after_next c answered
          shows_item =
              shows_all after_next (sent_up (Fixed item sealed) (seals Peripheral now.encryption.phase)) sends_joint refl
              (way_on item (subst (IsItem item) (sym now_fixed) is))

        answers_next : IsAnswer fixes.next_way after_fixing.outgoing.fixed → IsShown central peripheral (slot + 1) true c answered
        answers_next (Empty way empty) =
            shown central peripheral (slot + 1) true next c answered next_reached (shows_empty way empty) (keys_empty empty) (ap (λ (j : Joint). j.stopped) goes_joint)
        answers_next (Holds item sealed way is) =
            shown central peripheral (slot + 1) true (link_after (Alone PeripheralSends) next) c answered (after_reached item sealed way is)
            (shows_item item sealed way is) (keys_item item sealed way is) (ap (λ (j : Joint). j.stopped) (sends_joint item sealed way is))

      answers_by : (all : Bool) → is_acked before.acknowledgement ≡ all → IsShown central peripheral (slot + 1) true c answered
      answers_by true is = answers_next is (fixes.answer is)
      answers_by false is =
          shown central peripheral (slot + 1) true next c answered next_reached (shows_again is) (keys_again is) (ap (λ (j : Joint). j.stopped) goes_joint)

      answers_shown : IsShown central peripheral (slot + 1) true c answered
      answers_shown = answers_by (is_acked before.acknowledgement) refl

    -- ---- its packet is heard so

    module _ (octets : List ℕ) (good : is_some (good_pdu peripheral p octets) ≡ true)
        (heard_as : received peripheral slot octets room p ≡ facts_hearing peripheral.link.role slot room header pdu p) where
      and_true : (a b : Bool) → (a && (b || true)) ≡ a
      and_true true true = refl
      and_true true false = refl
      and_true false b = refl

      open_then : after_fixing.leaving.acknowledged ≡ false
      open_then =
          ap (λ (x : Leaving). x.acknowledged) (gone slot header.md acks p).leaving ∙ λ i. s.peripheral_rests.stays i || ends_none i

      accepts_same : accepts room header pdu after_fixing ≡ accepted
      accepts_same =
          (λ i. (is_fresh ((gone slot header.md acks p).acknowledgement i) header && room_now) && (is_empty pdu || not (open_then i)))
          ∙ and_true accepted (is_empty pdu)

      pub received_now : received peripheral slot octets room p ≡ now
      received_now =
          heard_as ∙ ap (λ (role : Role). facts_hearing role slot room header pdu p) m.ends.is_peripheral
          ∙ ap (λ (takes : Bool). taken_if takes pdu slot after_fixing) accepts_same

      abbrev replies : Bool
      replies = replies_of peripheral p slot octets room

      abbrev answer : Facts
      answer = hearing.answered peripheral slot octets room p

      replies_now : replies ≡ not (has_ended now)
      replies_now =
          replies_as peripheral p slot octets room (good_not_forged peripheral p octets good)
          ∙ (λ i. replies_by (m.ends.is_peripheral i) (has_ended (received_now i)) (good_pdu peripheral p octets))
          ∙ ap (λ (b : Bool). b && not (has_ended now)) good

      -- where the run goes on the peripheral answers
      answers_then : is_running next.joint ≡ true → IsShown central peripheral (slot + 1) replies c answer
      answers_then still =
          let ends = (going still).peripheral in
          let replies_true : replies ≡ true =
          replies_now ∙ λ i. not (not (is_none (ends i)) || stays_now i) in
          let is : answer ≡ answered =
          (λ i. sent_if (replies_true i) peripheral slot (received_now i)) ∙ answers_plainly slot header.md acks p accepted pdu in
          subst (λ (b : Bool). IsShown central peripheral (slot + 1) b c answer) (sym replies_true)
          (subst (IsShown central peripheral (slot + 1) true c) (sym is) (answers_shown still))

      lasts_received : is_lasting answer ≡ true → is_lasting (received peripheral slot octets room p) ≡ true
      lasts_received is = lasts_before_if replies peripheral (received peripheral slot octets room p) (PacketSent slot) is

      -- where the link lasts at both ends the run goes on
      goes_on_then : is_lasting answer ≡ true → is_running next.joint ≡ true
      goes_on_then lasts_then =
          let parts = and_parts (is_none now.control.ends) (is_none now.leaving.ended_by_peer)
          (subst (λ (f : Facts). is_lasting f ≡ true) received_now (lasts_received lasts_then)) in
          let ends = none_of now.control.ends parts.0 in
          subst (λ (j : Joint). is_running j ≡ true) (sym heard_joint)
          (running_from (with_end (phased_of c) takes_pdu.next_down fixes.next_way takes_pdu.stopped (phased_of now)) (takes_pdu.lasts ends parts.1)
          (ap (λ (x : Phased). x.control.ends) (sym s.central_part) ∙ goes.central) ends)

      hears_by : (goes_on : Bool) → is_running next.joint ≡ goes_on → IsShown central peripheral (slot + 1) replies c answer
      hears_by true still = answers_then still
      hears_by false stopped =
          record {
            link = next;
            reached = next_reached;
            shows = not_both (is_running next.joint) stopped;
            keys = not_both (is_running next.joint) stopped;
            lasts = λ central_lasts peripheral_lasts. goes_on_then peripheral_lasts;
          }

      pub hears_shown : IsShown central peripheral (slot + 1) replies c answer
      hears_shown = hears_by (is_running next.joint) refl
