-- What a PDU finds that an end of a joint run takes.
use Rattle.std.proofs.Common.{◌≡◌, true, false, not, ◌&&◌, ◌||◌, Option, Some, None, is_none, is_some, refl, sym, ap, subst, ◌∙◌}
use Rattle.std.proofs.lemmas.Bool.{and_from, and_parts}
use Rattle.data_pdu.specs.declared.ctrl.Ctrl.{Ctrl}
use Rattle.exclusive_stages.specs.declared.pdus.Exclusive.{Exclusive}
use Rattle.exclusive_stages.specs.declared.pdus.Pdu.{Pdu}
use Rattle.exclusive_stages.specs.declared.pdus.Pdu.TheVariants.{GrantInd, MapInd, PhyInd, RejectParam, RejectPhy, UpdateInd}
use Rattle.exclusive_stages.specs.declared.stages.PeripheralStage.{PeripheralStage}
use Rattle.exclusive_stages.specs.declared.stages.PeripheralStage.TheVariants.{RequestAcknowledged, RequestGranted}
use Rattle.exclusive_stages.specs.Awaited.{reads_as_answer}
use Rattle.exclusive_stages.specs.Held.{own_held_at_peripheral}
use Rattle.exclusive_stages.specs.declared.pdus.Reason.{Reason}
use Rattle.collision_steps.specs.procedure_values.declared.drafts.Draft.TheVariants.{Grant, Update}
use Rattle.collision_steps.specs.procedure_values.declared.values.NewParams.{NewParams}
use Rattle.collision_steps.specs.procedure_values.declared.drafts.Outgoing.TheVariants.{Other, Rejection}
use Rattle.collision_steps.specs.procedure_values.declared.drafts.Rejection.{Rejection as TheRejection}
use Rattle.exclusive_stages.specs.Pdus.{is_timed}
use Rattle.instants.specs.declared.track.Change.{Change}
use Rattle.collision_steps.specs.procedure_values.declared.drafts.Outgoing.{Outgoing}
use Rattle.collision_steps.specs.procedure_stages.Exclusive.{pdu_of_outgoing}
use Rattle.collisions.specs.declared.events.Event.{Event}
use Rattle.collisions.specs.declared.events.Event.TheVariants.{CentralTakes as takes_up, PeripheralTakes as takes_down}
use Rattle.collisions.specs.declared.joint.Link.{Link}
use Rattle.collisions.specs.declared.joint.Way.{Way as pdu_way}
use Rattle.collisions.specs.declared.joint.Way.TheVariants.{OnAir as on_air_pdu}
use Rattle.collisions.specs.PeripheralTable.{is_phy_sent, is_requesting, is_waiting}
use Rattle.collisions.specs.JointRun.{is_judgeable, is_taken as is_pdu_taken, pdu_on_air}
use Rattle.exclusive_stages.specs.declared.stages.CentralStage.{CentralStage}
use Rattle.exclusive_stages.specs.declared.stages.CentralStage.TheVariants.{PhyIndicated}
use Rattle.collisions.specs.declared.peripheral.Peripheral.{Peripheral as PeripheralPdus}
use Rattle.collisions.specs.Agreement.{has_none, is_response_queued, is_response_sent}
use Rattle.collisions.specs.Meaning.{is_acknowledged, is_meant, phy_ind_reads, central_reads, is_free as is_pdu_free, peripheral_reads, reads_if_some}
use Rattle.collisions.specs.Numbers.{makes, may_move}
use Rattle.collisions.proofs.CollisionEvents.{coded, is_coded}
use Rattle.collisions.proofs.CollisionStates.{states}
use Rattle.collisions.proofs.CollisionsClosed.{all_closed}
use Rattle.collisions.proofs.Lifting.{moves}
use Rattle.machines.proofs.Closing.{right_is}
use Rattle.collision_steps.specs.Parts.{outgoing_part, rejection_part}
use Rattle.collision_steps.specs.PeripheralPart.{peripheral_of}
use Rattle.joint_controls.specs.control_model.Waits.{kind_awaited, kind_waiting}
use Rattle.joint_controls.specs.Joint.{CentralTakes, Joint, PeripheralTakes, Way, is_late, is_same_event, is_supervised, is_taken, item_on_air}
use Rattle.joint_controls.proofs.Running.{comes_by}
use Rattle.joint_collisions.specs.Arrivals.{CentralMayTake, PeripheralMayTake}
use Rattle.joint_collisions.specs.Views.{kept_part, link_of, view_of, way_if, way_part}
use Rattle.joint_collisions.proofs.CentralJoint.{same_event}
use Rattle.joint_collisions.proofs.EachStep.{Before, not_false, untaken_way}
use Rattle.joint_collisions.proofs.PeripheralJoint.{in_time}
use Rattle.joint_collisions.proofs.PeripheralTakes.{ahead_is}
use Rattle.ble_base.specs.declared.procedure_kinds.Kind.{Kind}
use Rattle.joint_collisions.proofs.Resting.{rests}
use Rattle.joint_collisions.proofs.Reaching.{Seen, now_of, sound_of, take_may}

-- the places of the events do not matter
phy_ind_same : (own : CentralStage) (l m : Link) → l.peripheral ≡ m.peripheral → l.central ≡ m.central → phy_ind_reads own l ≡ phy_ind_reads own m
phy_ind_same PhyIndicated l m side center = ap (λ (p : PeripheralPdus). is_response_sent p.peer) side
phy_ind_same own l m side center =
    ap (λ (p : PeripheralPdus). is_phy_sent p.own && not (is_response_queued p.peer || is_response_sent p.peer)) side

module _ (s : Joint) (b : Before s) where
  abbrev seen : Seen (view_of s)
  seen = b.holds.seen

  meant_by : (event : Event) → may_move (makes event) (now_of (view_of s) seen.reached) ≡ true → is_meant event (now_of (view_of s) seen.reached).link ≡ true
  meant_by event comes =
      let m = moves (makes event) (now_of (view_of s) seen.reached) (sound_of (view_of s) seen.reached) comes in
      right_is coded is_coded states all_closed (now_of (view_of s) seen.reached).link event (sound_of (view_of s) seen.reached).known m.comes

  -- ---- at the peripheral

  module _ (outgoing : Outgoing) (ctrl : Ctrl) (t : PeripheralMayTake s outgoing ctrl) (pdu : Pdu) (part : outgoing_part outgoing ≡ Some pdu) where
    down_is : way_part outgoing_part s.down ≡ on_air_pdu pdu
    down_is = ap (λ (w : Way). way_part outgoing_part w) t.on_air ∙ ap (λ (o : Option Pdu). way_if (λ q. on_air_pdu q) o) part

    comes_down : may_move (makes takes_down) (now_of (view_of s) seen.reached) ≡ true
    comes_down =
        let acts = comes_by (PeripheralTakes t.slot t.response) s t.comes in
        let parts = and_parts (is_some (item_on_air s.down)) (not (is_taken s.up) && ((is_same_event s || is_late s) && is_supervised s)) acts in
        let rest = and_parts (not (is_taken s.up)) ((is_same_event s || is_late s) && is_supervised s) parts.1 in
        let time = and_parts (is_same_event s || is_late s) (is_supervised s) rest.1 in
        let free = untaken_way pdu_of_outgoing s.up (not_false (is_taken s.up) rest.0) in
        and_from (is_some (pdu_on_air (way_part outgoing_part s.down))) _ (ap (λ (w : pdu_way). is_some (pdu_on_air w)) down_is)
        (and_from (not (is_pdu_taken (way_part pdu_of_outgoing s.up))) _ (ap not free) (in_time s b time.0))

    pub reads_down : peripheral_reads pdu (link_of s) ≡ true
    reads_down =
        let h = meant_by takes_down comes_down in
        independent pdu (subst (λ (o : Option Pdu). reads_if_some peripheral_reads o (now_of (view_of s) seen.reached).link ≡ true) (ap pdu_on_air down_is) h)
      where
        -- the places do not matter
        independent : (pdu : Pdu) → peripheral_reads pdu (now_of (view_of s) seen.reached).link ≡ true → peripheral_reads pdu (link_of s) ≡ true
        independent PhyInd h = sym (phy_ind_same (view_of s).central.own (now_of (view_of s) seen.reached).link (link_of s) refl refl) ∙ h
        independent UpdateInd h = h
        independent pdu h = h

    -- an indication finds none that waits
    pub finds_free : is_timed pdu ≡ true → is_none s.peripheral.control.track.waits ≡ true
    finds_free timed = none_by s.peripheral.control.track.waits (sym b.awaits.same ∙ awaited)
      where
        free : is_pdu_free (link_of s) ≡ true
        free = by pdu timed reads_down
          where
            by : (pdu : Pdu) → is_timed pdu ≡ true → peripheral_reads pdu (link_of s) ≡ true → is_pdu_free (link_of s) ≡ true
            by UpdateInd timed h = (and_parts (is_pdu_free (link_of s)) _ h).0
            by GrantInd timed h = (and_parts (is_pdu_free (link_of s)) _ h).0
            by MapInd timed h = h
            by pdu timed h = absurd (cc)

        none_some : (o : Option Exclusive) → not (is_some o) ≡ true → is_some o ≡ false
        none_some None h = refl
        none_some (Some kind) h = absurd (cc)

        awaits_none : (o : Option Kind) → is_some o ≡ false → o ≡ None
        awaits_none None h = refl
        awaits_none (Some kind) h = absurd (cc)

        awaited : kind_awaited s.peripheral.control.table.progress ≡ None
        awaited =
            awaits_none (kind_awaited s.peripheral.control.table.progress)
            (sym (ahead_is s.peripheral.control.table b.awaits.role)
            ∙ none_some (peripheral_of s.peripheral.control.table).ahead (and_parts (not (is_waiting (peripheral_of s.peripheral.control.table))) (has_none (peripheral_of s.peripheral.control.table).peer) free).0)

        none_by : (waits : Option Change) → kind_waiting waits ≡ None → is_none waits ≡ true
        none_by None h = refl
        none_by (Some change) h = absurd (cc)

  -- ---- at the central

  module _ (outgoing : Outgoing) (ctrl : Ctrl) (t : CentralMayTake s outgoing ctrl) (pdu : Pdu) (part : pdu_of_outgoing outgoing ≡ Some pdu) where
    up_is : way_part pdu_of_outgoing s.up ≡ on_air_pdu pdu
    up_is = ap (λ (w : Way). way_part pdu_of_outgoing w) t.on_air ∙ ap (λ (o : Option Pdu). way_if (λ q. on_air_pdu q) o) part

    comes_up : may_move (makes (takes_up false)) (now_of (view_of s) seen.reached) ≡ true
    comes_up =
        let acts = comes_by (CentralTakes t.slot) s t.comes in
        let parts = and_parts (is_some (item_on_air s.up)) (not (is_taken s.down) && is_same_event s) acts in
        let rest = and_parts (not (is_taken s.down)) (is_same_event s) parts.1 in
        let free = untaken_way outgoing_part s.down (not_false (is_taken s.down) rest.0) in
        take_may (view_of s) seen (is_judgeable false) pdu (way_part pdu_of_outgoing s.up) (way_part outgoing_part s.down) up_is refl free (same_event s b rest.1)

    -- and nothing is kept then
    pub reads_up : (central_reads pdu (link_of s) ≡ true) × (kept_part s.central.kept ≡ None)
    reads_up =
        let h = meant_by (takes_up false) comes_up in
        let both = and_parts (reads_if_some central_reads (pdu_on_air (way_part pdu_of_outgoing s.up)) (now_of (view_of s) seen.reached).link) (is_none (kept_part s.central.kept)) h in (
          independent pdu (subst (λ (o : Option Pdu). reads_if_some central_reads o (now_of (view_of s) seen.reached).link ≡ true) (ap pdu_on_air up_is) both.0),
          none_kept (kept_part s.central.kept) both.1,
        )
      where
        independent : (pdu : Pdu) → central_reads pdu (now_of (view_of s) seen.reached).link ≡ true → central_reads pdu (link_of s) ≡ true
        independent UpdateInd h = h
        independent pdu h = h

        none_kept : (o : Option Pdu) → is_none o ≡ true → o ≡ None
        none_kept None h = refl
        none_kept (Some pdu) h = absurd (cc)

-- ---- LL_CONNECTION_UPDATE_IND is read as the answer that it was sent as

not_answered : (own : PeripheralStage) → not (is_acknowledged own) ≡ true → own_held_at_peripheral own ≡ own → reads_as_answer own ≡ false
not_answered RequestAcknowledged open_still held = absurd (cc)
not_answered RequestGranted open_still held = absurd (cc)
not_answered own open_still held = refl

answered : (own : PeripheralStage) → is_acknowledged own ≡ true → reads_as_answer own ≡ true
answered RequestAcknowledged is = refl
answered own is = absurd (cc)

none_ahead : (o : Option Exclusive) → not (is_some o) ≡ true → o ≡ None
none_ahead None h = refl
none_ahead (Some kind) h = absurd (cc)

module _ (s : Joint) (b : Before s) (ctrl : Ctrl) where
  abbrev own_stage : PeripheralStage
  own_stage = (peripheral_of s.peripheral.control.table).own

  pub update_reads : (params : NewParams) → PeripheralMayTake s (Other (Update params)) ctrl → reads_as_answer own_stage ≡ false
  update_reads params t =
      let h = reads_down s b (Other (Update params)) ctrl t UpdateInd refl in
      let parts = and_parts (is_pdu_free (link_of s)) (not (is_acknowledged own_stage)) h in
      let free = (and_parts (not (is_waiting (peripheral_of s.peripheral.control.table))) (has_none (peripheral_of s.peripheral.control.table).peer) parts.0).0 in
      let k = b.holds.seen.reached in
      let still = rests (now_of (view_of s) k).link (sound_of (view_of s) k).known (none_ahead (peripheral_of s.peripheral.control.table).ahead free) in
      not_answered own_stage parts.1 (ap (λ (p : PeripheralPdus). p.own) still)

  pub answer_reads : (params : NewParams) → PeripheralMayTake s (Other (Grant params)) ctrl → reads_as_answer own_stage ≡ true
  answer_reads params t =
      let h = reads_down s b (Other (Grant params)) ctrl t GrantInd refl in
      answered own_stage (and_parts (is_pdu_free (link_of s)) (is_acknowledged own_stage) h).1

  -- ---- a rejection finds the procedure that it rejects

  pub request_reads : (rejection : TheRejection) (reason : Reason) → PeripheralMayTake s (Rejection rejection) ctrl → rejection_part rejection ≡ Some (RejectParam reason)
      → is_requesting own_stage ≡ true
  request_reads rejection reason t part = reads_down s b (Rejection rejection) ctrl t (RejectParam reason) part

  pub phy_reads : (rejection : TheRejection) (reason : Reason) → PeripheralMayTake s (Rejection rejection) ctrl → rejection_part rejection ≡ Some (RejectPhy reason)
      → is_phy_sent own_stage ≡ true
  phy_reads rejection reason t part = reads_down s b (Rejection rejection) ctrl t (RejectPhy reason) part
