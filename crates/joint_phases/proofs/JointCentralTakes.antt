-- The central of a joint run takes a PDU: the machine's event.
use Rattle.std.proofs.Common.{◌≡◌, ℕ, Bool, true, false, not, ◌&&◌, ◌||◌, Some, None, is_some, refl, ap, sym, subst, ◌∙◌, if◌then◌else◌}
use Rattle.std.proofs.lemmas.Bool.{and_from, and_parts, false_from_ne_true}
use Rattle.ble_base.specs.ErrorCodes.{mic_failure}
use Rattle.ble_base.specs.declared.roles.Role.TheVariants.{Central as central_role}
use Rattle.data_pdu.specs.declared.ctrl.Ctrl.{Ctrl}
use Rattle.data_pdu.specs.declared.ctrl.Ctrl.TheVariants.{VersionInd}
use Rattle.data_pdu.specs.declared.ctrl.CtrlRead.TheVariants.{Known}
use Rattle.phase_pairs.specs.enc_phase.declared.classes.PduClass.{PduClass}
use Rattle.phase_pairs.specs.enc_phase.declared.classes.PduClass.TheVariants.{Data as data_class, Other, Request}
use Rattle.phase_pairs.specs.enc_phase.Phases.{is_quiet}
use Rattle.phase_pairs.specs.enc_phase.Taking.{allows, ctrl_class}
use Rattle.joint_controls.specs.procedure_values.declared.drafts.Outgoing.{Outgoing}
use Rattle.joint_controls.specs.procedure_stages.Kinds.{own_exchange}
use Rattle.joint_controls.specs.procedures.Taking.{outcome_of}
use Rattle.phase_pairs.specs.declared.central.PhaseCentral.{PhaseCentral}
use Rattle.phase_pairs.specs.declared.joint.PhaseEvent.{PhaseEvent}
use Rattle.phase_pairs.specs.declared.joint.PhaseEvent.TheVariants.{CentralTakes as central_takes_event}
use Rattle.phase_pairs.specs.declared.joint.PhaseLink.{PhaseLink}
use Rattle.phase_pairs.specs.declared.joint.PhaseWay.{PhaseWay}
use Rattle.phase_pairs.specs.declared.joint.PhaseWay.TheVariants.{OnAir as way_on_air}
use Rattle.phase_pairs.specs.Agreement.{has_meaning, is_encryption, is_step_right}
use Rattle.phase_pairs.specs.Central.{central_taken}
use Rattle.phase_pairs.specs.JointRun.{is_crossing_down, is_on_air, is_request, is_way_fixed, is_way_taken, phases_act, phases_may, way_kept}
use Rattle.joint_controls.specs.phased_control.Phased.{Phased}
use Rattle.joint_controls.specs.phased_control.Taken.{Takes, TakesData, ended_with, is_version as is_version_read, phased_after}
use Rattle.joint_controls.specs.Joint.{Item, Joint, Way, CentralTakes, Clear, Control, Data, Fixed, OnAir, Taken, act, is_item, is_running, is_taken, is_terminate, item_on_air, may_act, no_response}
use Rattle.joint_phases.specs.Classes.{class_up, is_version, is_version_ctrl, version_class}
use Rattle.joint_phases.specs.Events.{does_cross_up, event_if, event_of_step}
use Rattle.joint_phases.specs.Facts.{Facts, is_version_sent}
use Rattle.joint_phases.specs.Parts.{IsCentral, IsShown, is_awaiting, way_down, way_up}
use Rattle.joint_phases.proofs.CentralAwaits.{request_awaits, version_awaits}
use Rattle.joint_phases.proofs.CentralEnters.{at_open, none_of_two, opened}
use Rattle.joint_phases.proofs.CentralMoves.{takes_unquiet}
use Rattle.joint_phases.proofs.CentralQueue.{is_of_others}
use Rattle.joint_phases.proofs.CentralTakes.{plain_knows, some_none, takes_plain}
use Rattle.joint_phases.proofs.JointCentral.{Goes, Runs, none_of, runs}
use Rattle.joint_phases.proofs.Knowing.{knows_grows, knows_stays}
use Rattle.joint_phases.proofs.MachineFacts.{Settled}
use Rattle.joint_phases.proofs.PeripheralPlain.{or_not, version_read}
use Rattle.joint_phases.proofs.Plain.{taking_quiet}
use Rattle.joint_phases.proofs.Ways.{class_unquiet, encryption_up, ends_up, kept_down, others_up, plain_in_quiet, plain_up, request_down, taken_same, unversioned_down, version_up}

-- ---- the machine's central after a PDU of another procedure in Clear or Secure

awaits_after : Bool → PduClass → Bool → Bool
awaits_after crossed Request awaits = not crossed && awaits
awaits_after crossed pdu awaits = false

others_taken : (crossed : Bool) (k : PduClass) (c : PhaseCentral) → is_of_others k ≡ true → is_quiet c.phase ≡ true
    → central_taken crossed k c ≡ record c { awaits = awaits_after crossed k c.awaits }
unfolding awaits_after
others_taken crossed Request c is quiet = λ i. record c { phase = taking_quiet Request c.phase quiet i; awaits = not crossed && c.awaits }
others_taken crossed Other c is quiet = refl
others_taken crossed k c is quiet = absurd (cc)

awaits_then : (crossed : Bool) (k : PduClass) (awaits : Bool) → awaits_after crossed k awaits ≡ true → (k ≡ Request) × (crossed ≡ false) × (awaits ≡ true)
unfolding awaits_after
awaits_then false Request true h = (refl, refl, refl)
awaits_then false Request false h = absurd (cc)
awaits_then true Request awaits h = absurd (cc)
awaits_then crossed Other awaits h = absurd (cc)
awaits_then crossed k awaits h = absurd (cc)

-- ---- two LL_VERSION_IND cross

module _ (s : Joint) (m : PhaseLink) (outgoing : Outgoing) (ctrl : Ctrl) (sealed : Bool) (slot : ℕ) where
  abbrev item : Item
  item = Control outgoing ctrl

  -- it is on the air
  abbrev here : Joint
  here = record s { up = OnAir item sealed }

  abbrev class : PduClass
  class = class_up s.peripheral.knows_version ctrl

  abbrev there : PhaseLink
  there = record m { up = way_on_air class sealed }

  abbrev crossed : Bool
  crossed = does_cross_up item here

  abbrev after_it : Phased
  after_it = phased_after (Takes (Known ctrl) slot no_response) s.central

  record Crossing : Type 0 where
    version : is_version_ctrl ctrl ≡ true
    central : s.central.knows_version ≡ false
    peripheral : s.peripheral.knows_version ≡ false
    on_air : is_item is_version (item_on_air s.down) ≡ true

  not_is : (b : Bool) → not b ≡ true → b ≡ false
  not_is true h = absurd (cc)
  not_is false h = refl

  crossing : crossed ≡ true → Crossing
  crossing h =
      let one = and_parts (is_version_ctrl ctrl) _ h in
      let two = and_parts (not s.central.knows_version && not s.peripheral.knows_version) (is_item is_version (item_on_air s.down)) one.1 in
      let three = and_parts (not s.central.knows_version) (not s.peripheral.knows_version) two.0 in
      record { version = one.0; central = not_is _ three.0; peripheral = not_is _ three.1; on_air = two.1 }

  module _ (is : IsShown here there) (runs_on : Runs s) (settled : Settled there) (facts : Facts here)
      (right : (event : PhaseEvent) → phases_may event there ≡ true → is_step_right event there ≡ true)
      (may : not (is_taken s.down) ≡ true) (apart : is_terminate ctrl ≡ false) where
    crossing_air : Crossing → is_on_air is_request m.down ≡ true
    crossing_air c =
        ap (is_on_air is_request) is.down ∙ ap (λ b. is_on_air is_request (way_down b s.down)) c.central ∙ request_down s.down c.on_air

    crossing_may : (b : Bool) → crossed ≡ b → (not b || (is_request class && is_crossing_down there)) ≡ true
    crossing_may false at = refl
    crossing_may true at =
        let c = crossing at in
        let air = crossing_air c in
        and_from _ _ (ap is_request (version_up s.peripheral.knows_version ctrl c.version ∙ ap version_class c.peripheral))
        (and_from _ _ (settled.request_awaited air) air)

    comes : phases_may (central_takes_event crossed) there ≡ true
    comes =
        and_from _ _ (ap (λ b. not b) (ap is_way_taken is.down ∙ (taken_same s.central.knows_version s.down).0) ∙ may)
        (and_from _ _ (ap not (ends_up s.peripheral.knows_version ctrl apart)) (crossing_may crossed refl))

    pub right_here : (allows m.central.phase central_role class ≡ true) × (has_meaning central_role m.central.phase class ≡ true)
    right_here = and_parts (allows m.central.phase central_role class) (has_meaning central_role m.central.phase class) (right (central_takes_event crossed) comes)

    module _ (lasts : after_it.control.ends ≡ None) where
      never_fixed : is_way_fixed (way_down s.central.knows_version s.down) ≡ false
      never_fixed = ap is_way_fixed (sym is.down) ∙ not_is _ settled.never_fixed

      -- what the machine has then, as this shows it
      shown_then : IsCentral after_it (central_taken crossed class m.central)
          → (if crossed then way_kept Other m.down else m.down) ≡ way_down after_it.knows_version s.down
          → IsShown (record here { central = after_it; up = Taken item; stopped = is_terminate ctrl }) (phases_act (central_takes_event crossed) there)
      shown_then part down = record { central = part; peripheral = is.peripheral; down = down; up = refl }

      -- ---- in Clear or Secure

      module _ (quiet : is_quiet m.central.phase ≡ true) where
        plain : is_encryption class ≡ false
        plain = plain_in_quiet m.central.phase class quiet right_here.1

        plain_ctrl : is_encryption (ctrl_class ctrl) ≡ false
        plain_ctrl = sym (encryption_up s.peripheral.knows_version ctrl) ∙ plain

        -- the own exchange of versions does not await this one, unless the two cross
        not_sent : (b : Bool) → is_version_ctrl ctrl ≡ true → class ≡ Request → crossed ≡ false → s.central.knows_version ≡ b
            → is_version_sent (own_exchange s.central.control.table.progress) ≡ true → ⊥
        not_sent true version request not_crossed known sent =
            let none : is_version_ctrl ctrl ≡ false = facts.known_way known in
            none_of_two _ _ none version
        not_sent false version request not_crossed unknown sent =
            let peer : s.peripheral.knows_version ≡ false = version_unknown s.peripheral.knows_version (sym (version_up s.peripheral.knows_version ctrl version) ∙ request) in
            let air = facts.sent_comes sent unknown peer in
            let cross : crossed ≡ true =
            and_from _ _ version (and_from _ _ (and_from _ _ (ap not unknown) (ap not peer)) air) in
            none_of_two _ _ not_crossed cross
          where
            version_unknown : (knows : Bool) → version_class knows ≡ Request → knows ≡ false
            version_unknown true h = absurd (cc)
            version_unknown false h = refl

        awaits_here : (b : Bool) → is_version_ctrl ctrl ≡ b → class ≡ Request → crossed ≡ false → m.central.awaits ≡ true
            → is_awaiting (outcome_of s.central.control.table true (Known ctrl)).progress ≡ true
        awaits_here false version request not_crossed awaits =
            request_awaits s.central.control.table s.central.control.table.progress ctrl is.central.role (sym (plain_up s.peripheral.knows_version ctrl version) ∙ request) version
            ∙ is.central.awaits awaits
        awaits_here true version request not_crossed awaits = by ctrl version (not_sent s.central.knows_version version request not_crossed refl)
          where
            by : (c : Ctrl) → is_version_ctrl c ≡ true → (is_version_sent (own_exchange s.central.control.table.progress) ≡ true → ⊥)
                → is_awaiting (outcome_of s.central.control.table true (Known c)).progress ≡ true
            by (VersionInd version company sub) v none =
                version_awaits s.central.control.table s.central.control.table.progress version company sub is.central.role (is.central.awaits awaits) none
            by c v none = absurd (cc)

        awaits_next : awaits_after crossed class m.central.awaits ≡ true → is_awaiting (outcome_of s.central.control.table true (Known ctrl)).progress ≡ true
        awaits_next h =
            let t = awaits_then crossed class m.central.awaits h in
            awaits_here (is_version_ctrl ctrl) refl t.0 t.1 t.2

        abbrev Both : Phased → Type 0
        Both c =
            IsCentral c m.central → (awaits_after crossed class m.central.awaits ≡ true → is_awaiting (outcome_of c.control.table true (Known ctrl)).progress ≡ true)
            → (phased_after (Takes (Known ctrl) slot no_response) c).control.ends ≡ None
            → IsCentral (phased_after (Takes (Known ctrl) slot no_response) c) (record m.central { awaits = awaits_after crossed class m.central.awaits })
            × ((phased_after (Takes (Known ctrl) slot no_response) c).knows_version ≡ c.knows_version || is_version_read (Known ctrl))

        both : IsCentral after_it (record m.central { awaits = awaits_after crossed class m.central.awaits })
            × (after_it.knows_version ≡ s.central.knows_version || is_version_read (Known ctrl))
        both =
            at_open Both s.central runs_on.central
            (λ part. λ a. λ l. (
              takes_plain s.central m.central ctrl no_response slot (awaits_after crossed class m.central.awaits) part quiet apart plain_ctrl a l,
              plain_knows s.central m.central ctrl no_response slot (awaits_after crossed class m.central.awaits) part quiet apart plain_ctrl a l,
            )) is.central awaits_next lasts

        quiet_part : IsCentral after_it (central_taken crossed class m.central)
        quiet_part =
            subst (λ (c : PhaseCentral). IsCentral after_it c)
            (sym (others_taken crossed class m.central (others_up s.peripheral.knows_version ctrl apart plain) quiet)) both.0

        same_now : (knows : Bool) → after_it.knows_version ≡ s.central.knows_version || is_version_read (Known ctrl) → is_version_ctrl ctrl ≡ false
            → m.down ≡ way_down after_it.knows_version s.down
        same_now knows now plain_one =
            is.down ∙ ap (λ b. way_down b s.down) (sym (now ∙ or_not s.central.knows_version (is_version_read (Known ctrl)) (version_read ctrl ∙ plain_one)))

        not_crossed_down : (air known peer : Bool) → is_item is_version (item_on_air s.down) ≡ air → s.central.knows_version ≡ known → s.peripheral.knows_version ≡ peer
            → is_version_ctrl ctrl ≡ true → crossed ≡ false → m.down ≡ way_down after_it.knows_version s.down
        not_crossed_down false known peer at_air at_known at_peer version not_crossed =
            is.down ∙ sym (unversioned_down s.central.knows_version after_it.knows_version s.down never_fixed at_air)
        not_crossed_down true true peer at_air at_known at_peer version not_crossed =
            is.down ∙ ap (λ b. way_down b s.down) (at_known ∙ sym (both.1 ∙ ap (λ b. b || is_version_read (Known ctrl)) at_known))
        not_crossed_down true false true at_air at_known at_peer version not_crossed = none_of_two _ _ (facts.known_down at_peer) at_air
        not_crossed_down true false false at_air at_known at_peer version not_crossed =
            none_of_two _ _ not_crossed (and_from _ _ version (and_from _ _ (and_from _ _ (ap not at_known) (ap not at_peer)) at_air))

        down_by : (b v : Bool) → crossed ≡ b → is_version_ctrl ctrl ≡ v → (if b then way_kept Other m.down else m.down) ≡ way_down after_it.knows_version s.down
        down_by true v at at_version =
            let c = crossing at in
            ap (way_kept Other) is.down ∙ ap (λ b. way_kept Other (way_down b s.down)) c.central ∙ kept_down s.down c.on_air
            ∙ ap (λ b. way_down b s.down) (sym (both.1 ∙ (λ i. c.central i || (version_read ctrl ∙ c.version) i)))
        down_by false false at at_version = same_now false both.1 at_version
        down_by false true at at_version =
            not_crossed_down (is_item is_version (item_on_air s.down)) s.central.knows_version s.peripheral.knows_version refl refl refl at_version at

        in_quiet : IsShown (record here { central = after_it; up = Taken item; stopped = is_terminate ctrl }) (phases_act (central_takes_event crossed) there)
        in_quiet = shown_then quiet_part (down_by crossed (is_version_ctrl ctrl) refl refl)

      -- ---- in another phase

      module _ (unquiet : is_quiet m.central.phase ≡ false) where
        unawaited : m.central.awaits ≡ false
        unawaited = false_from_ne_true m.central.awaits (λ a. none_of_two _ _ unquiet (settled.awaits_in_quiet a))

        not_crossed : crossed ≡ false
        not_crossed = false_from_ne_true crossed (λ h. none_of_two _ _ unawaited (settled.request_awaited (crossing_air (crossing h))))

        none_on_air : s.central.knows_version ≡ false → is_item is_version (item_on_air s.down) ≡ false
        none_on_air unknown =
            false_from_ne_true _ (λ air. none_of_two _ _ unawaited
            (settled.request_awaited (ap (is_on_air is_request) is.down ∙ ap (λ b. is_on_air is_request (way_down b s.down)) unknown ∙ request_down s.down air)))

        same_class : class ≡ ctrl_class ctrl
        same_class = class_unquiet s.peripheral.knows_version ctrl m.central.phase unquiet right_here.0

        none_queued : is_encryption (ctrl_class ctrl) ≡ true → m.central.queued ≡ None
        none_queued enc = none_of _ (settled.up_queued (encryption_up s.peripheral.knows_version ctrl ∙ enc))

        abbrev Part : Phased → Type 0
        Part c =
            IsCentral c m.central → (phased_after (Takes (Known ctrl) slot no_response) c).control.ends ≡ None
            → IsCentral (phased_after (Takes (Known ctrl) slot no_response) c) (central_taken crossed (ctrl_class ctrl) m.central)

        unquiet_part : IsCentral after_it (central_taken crossed class m.central)
        unquiet_part =
            let allowed : allows m.central.phase central_role (ctrl_class ctrl) ≡ true = ap (λ k. allows m.central.phase central_role k) (sym same_class) ∙ right_here.0 in
            let part : IsCentral after_it (central_taken crossed (ctrl_class ctrl) m.central) =
            at_open Part s.central runs_on.central
            (λ p. λ l. takes_unquiet s.central m.central no_response slot p unquiet unawaited crossed ctrl apart none_queued allowed l) is.central lasts in
            subst (λ (k : PduClass). IsCentral after_it (central_taken crossed k m.central)) (sym same_class) part

        known_by : (known : Bool) → s.central.knows_version ≡ known → m.down ≡ way_down after_it.knows_version s.down
        known_by true at = is.down ∙ ap (λ b. way_down b s.down) (at ∙ sym (knows_grows s.central ctrl no_response slot at))
        known_by false at = is.down ∙ sym (unversioned_down s.central.knows_version after_it.knows_version s.down never_fixed (none_on_air at))

        unquiet_down : (b : Bool) → crossed ≡ b → (if b then way_kept Other m.down else m.down) ≡ way_down after_it.knows_version s.down
        unquiet_down true at = none_of_two _ _ not_crossed at
        unquiet_down false at = known_by s.central.knows_version refl

        in_unquiet : IsShown (record here { central = after_it; up = Taken item; stopped = is_terminate ctrl }) (phases_act (central_takes_event crossed) there)
        in_unquiet = shown_then unquiet_part (unquiet_down crossed refl)

      by_phase : (quiet : Bool) → is_quiet m.central.phase ≡ quiet
          → IsShown (record here { central = after_it; up = Taken item; stopped = is_terminate ctrl }) (phases_act (central_takes_event crossed) there)
      by_phase true at = in_quiet at
      by_phase false at = in_unquiet at

      takes_control : Goes (Some (central_takes_event crossed)) (act (CentralTakes slot) here) there
      takes_control = (comes, by_phase (is_quiet m.central.phase) refl)

      pub goes_control : Goes (event_of_step (CentralTakes slot) here) (act (CentralTakes slot) here) there
      goes_control =
          subst (λ (b : Bool). Goes (event_if b (central_takes_event crossed)) (act (CentralTakes slot) here) there) (sym (ap not apart)) takes_control

-- ---- data

module _ (s : Joint) (m : PhaseLink) (sealed : Bool) (slot : ℕ) where
  abbrev with_data : Joint
  with_data = record s { up = OnAir Data sealed }

  abbrev with_data_class : PhaseLink
  with_data_class = record m { up = way_on_air data_class sealed }

  module _ (is : IsShown with_data with_data_class) (runs_on : Runs s) (may : not (is_taken s.down) ≡ true)
      (lasts : (phased_after TakesData s.central).control.ends ≡ None) where
    abbrev DataPart : Phased → Type 0
    DataPart c = IsCentral c m.central → (phased_after TakesData c).control.ends ≡ None → IsCentral (phased_after TakesData c) m.central

    data_by : (b : Bool) → IsCentral (opened s.central) m.central → (if b then opened s.central else ended_with mic_failure (opened s.central)).control.ends ≡ None
        → IsCentral (if b then opened s.central else ended_with mic_failure (opened s.central)) m.central
    data_by true part l = part
    data_by false part l = some_none (record { 0 = mic_failure }) _ l

    data_part : IsCentral (phased_after TakesData s.central) m.central
    data_part = at_open DataPart s.central runs_on.central (λ p. λ l. data_by _ p l) is.central lasts

    pub goes_data : Goes (event_of_step (CentralTakes slot) with_data) (act (CentralTakes slot) with_data) with_data_class
    goes_data = (
      and_from _ _ (ap (λ b. not b) (ap is_way_taken is.down ∙ (taken_same s.central.knows_version s.down).0) ∙ may) refl,
      record {
        central = data_part;
        peripheral = is.peripheral;
        down = is.down ∙ ap (λ b. way_down b s.down) (sym (knows_stays TakesData s.central refl));
        up = refl;
      },
    )

-- ---- whichever comes

module _ (s : Joint) (m : PhaseLink) (slot : ℕ) where
  abbrev at_way : Way → Joint
  at_way w = record s { up = w }

  abbrev link_at : PhaseWay → PhaseLink
  link_at u = record m { up = u }

  -- the premises, with this on its way
  record Takable (w : Way) (u : PhaseWay) : Type 0 where
    is : IsShown (at_way w) (link_at u)
    settled : Settled (link_at u)
    facts : Facts (at_way w)
    right : (event : PhaseEvent) → phases_may event (link_at u) ≡ true → is_step_right event (link_at u) ≡ true

  takes_way : (w : Way) → Runs s → is_some (item_on_air w) ≡ true → not (is_taken s.down) ≡ true → is_running (act (CentralTakes slot) (at_way w)) ≡ true
      → Takable w (way_up s.peripheral.knows_version w) → Goes (event_of_step (CentralTakes slot) (at_way w)) (act (CentralTakes slot) (at_way w)) (link_at (way_up s.peripheral.knows_version w))
  takes_way (OnAir Data sealed) runs_on air may running t =
      goes_data s m sealed slot t.is runs_on may (runs (act (CentralTakes slot) (at_way (OnAir Data sealed))) running).central
  takes_way (OnAir (Control outgoing ctrl) sealed) runs_on air may running t =
      let next = runs (act (CentralTakes slot) (at_way (OnAir (Control outgoing ctrl) sealed))) running in
      goes_control s m outgoing ctrl sealed slot t.is runs_on t.settled t.facts t.right may next.goes next.central
  takes_way Clear runs_on air may running t = absurd (cc)
  takes_way (Fixed item sealed) runs_on air may running t = absurd (cc)
  takes_way (Taken item) runs_on air may running t = absurd (cc)

  pub goes_takes : IsShown s m → Runs s → Settled m → Facts s → ((event : PhaseEvent) → phases_may event m ≡ true → is_step_right event m ≡ true)
      → may_act (CentralTakes slot) s ≡ true → is_running (act (CentralTakes slot) s) ≡ true → Goes (event_of_step (CentralTakes slot) s) (act (CentralTakes slot) s) m
  goes_takes is runs_on settled facts right may running =
      let one = and_parts (is_some (item_on_air s.up)) _ may in
      let two = and_parts (not (is_taken s.down)) _ one.1 in
      let P : PhaseWay → Type 0 = λ u. Takable s.up u → Goes (event_of_step (CentralTakes slot) s) (act (CentralTakes slot) s) (link_at u) in
      let h : P (way_up s.peripheral.knows_version s.up) = takes_way s.up runs_on one.0 two.0 running in
      subst P (sym is.up) h (record { is = is; settled = settled; facts = facts; right = right })
