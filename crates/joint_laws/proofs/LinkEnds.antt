-- How a step of a joint run may end the link: an end of the run is that of an indication that came after its Instant.
use Rattle.std.proofs.Common.{◌≡◌, ◌≤◌, inl, inr, arith, ℕ, Bool, true, not, ◌&&◌, ◌||◌, if◌then◌else◌, List, [], ◌∷◌, Option, Some, None, is_some, refl, ap, sym, subst, ◌∙◌}
use Rattle.std.proofs.lemmas.Bool.{and_parts}
use Rattle.ble_base.specs.ErrorCodes.{instant_passed}
use Rattle.ble_base.specs.declared.error_codes.ErrCode.{ErrCode}
use Rattle.ble_base.specs.declared.roles.Role.{Role}
use Rattle.ble_base.specs.declared.roles.Role.TheVariants.{Central, Peripheral}
use Rattle.data_pdu.specs.declared.ctrl.Ctrl.{Ctrl}
use Rattle.data_pdu.specs.declared.ctrl.CtrlRead.TheVariants.{Known}
use Rattle.joint_parameters.specs.enc_phase.Taking.{allows, ctrl_class}
use Rattle.instants.specs.declared.indications.Params.{Params}
use Rattle.joint_parameters.specs.procedure_stages.Queue.{waiting_in}
use Rattle.joint_parameters.specs.procedure_values.declared.drafts.Outgoing.{Outgoing}
use Rattle.joint_parameters.specs.control_model.Waits.{EndsByCollision}
use Rattle.joint_phases.specs.phase_pairs.Agreement.{has_meaning}
use Rattle.joint_parameters.specs.phased_control.Phased.{Phased, is_quiet_now}
use Rattle.joint_parameters.specs.phased_control.Taken.{PhasedStep, Response, Enters, SeesAcknowledged, Sends, Takes, phased_after, phased_after_all, role_now, seen_as}
use Rattle.joint_parameters.specs.joint_controls.Ends.{IsStepInRange, central_does, peripheral_does, takes_if}
use Rattle.joint_parameters.specs.joint_controls.Joint.{AnswersRequest, AsksFor, CentralAcked, CentralEnters, CentralHost, CentralSends, CentralTakes, Clear, Control, Data, Ends, Fixed, HasKey, HasNoKey, HostStep, Item, Joint, JointStep, OnAir, PeripheralAcked, PeripheralEnters, PeripheralFixes, PeripheralHost, PeripheralTakes, Taken, Way, act, after, after_all, beginning, host_step, is_late, is_running, is_same_event, is_supervised, is_taken, item_on_air, may, may_act, no_response}
use Rattle.joint_parameters.proofs.joint_controls.EndSteps.{central_acts, peripheral_acts}
use Rattle.joint_parameters.proofs.joint_controls.Running.{goes_on}
use Rattle.joint_collisions.proofs.Runs.{Walk, before, walk, walk_step}
use Rattle.joint_collisions.proofs.EachStep.{Before}
use Rattle.joint_laws.specs.Ends.{EndsLateAlone}
use Rattle.joint_laws.proofs.Lateness.{is_late_now}
use Rattle.joint_exchanges.specs.Agreement.{end_at}
use Rattle.joint_phases.specs.Agreement.{is_allowed_right, is_taken_right}
use Rattle.joint_phases.specs.Classes.{class_down, class_up, item_class}
use Rattle.joint_phases.specs.Events.{events_of}
use Rattle.joint_laws.specs.Runs.{IsRun}
use Rattle.joint_laws.proofs.EachState.{Known as KnownBefore, Now}
use Rattle.joint_laws.proofs.FewWait.{few_control_pdus}
use Rattle.joint_laws.proofs.PhaseLaws.{known_of, now_of, taken_now}
use Rattle.joint_laws.proofs.StepEnds.{PhasedEnd, collided, data_lasts, others_last, passed, takes_nothing, takes_phased}
use Rattle.joint_laws.proofs.TakenEnds.{IsLate}
use Rattle.joint_laws.proofs.Common.{not_true}

host_takes_nothing : (step : HostStep) → takes_nothing (host_step step) ≡ true
host_takes_nothing (AsksFor ask) = refl
host_takes_nothing (AnswersRequest answer) = refl
host_takes_nothing (Ends reason) = refl
host_takes_nothing HasKey = refl
host_takes_nothing HasNoKey = refl

-- the item on the air
item_is : (way : Way) (item : Item) → item_on_air way ≡ Some item → (sealed : Bool) × (way ≡ OnAir item sealed)
item_is Clear item is = absurd (cc)
item_is (Fixed other sealed) item is = absurd (cc)
item_is (Taken other) item is = absurd (cc)
item_is (OnAir other sealed) item is = (sealed, ap (λ (x : Item). OnAir x sealed) (same is))
  where
    same : {a b : Item} → Some a ≡ Some b → a ≡ b
    same {a} {b} is = ap (λ (x : Option Item). elim x as (λ y. Item) [ Some c ↦ c | None ↦ a ]) is

-- the peripheral takes an indication that comes too late
pub record TakesLate (step : JointStep) (s : Joint) : Type 0 where
  pub slot : ℕ
  pub response : Response
  pub is : step ≡ PeripheralTakes slot response
  pub outgoing : Outgoing
  pub ctrl : Ctrl
  pub item : item_on_air s.down ≡ Some (Control outgoing ctrl)
  pub late : IsLate (seen_as (Known ctrl) s.peripheral) (is_quiet_now s.peripheral) s.peripheral.control

pub data PeripheralEnd (step : JointStep) (s : Joint) : Option ErrCode → Type 0 where
  no_end : PeripheralEnd step s None
  too_late : TakesLate step s → PeripheralEnd step s (Some (record { 0 = instant_passed }))

module _ (central_rx peripheral_rx : ℕ) (first : Params) (slot : ℕ) (steps : List JointStep) (is : IsRun first steps)
    (running : is_running (after_all steps (beginning central_rx peripheral_rx first slot)) ≡ true) where
  abbrev start : Joint
  start = beginning central_rx peripheral_rx first slot

  abbrev s : Joint
  s = after_all steps start

  known : KnownBefore central_rx peripheral_rx first slot is.latency steps
  known = known_of central_rx peripheral_rx first slot steps is

  now : Now central_rx peripheral_rx first slot is.latency steps
  now = now_of central_rx peripheral_rx first slot steps is running

  few : (role : Role) → waiting_in (end_at role s).control.table.queue ≤ 10
  few role =
      few_control_pdus central_rx peripheral_rx first slot steps running known.meant now.reached (events_of steps start) now.shown role

  central_lasts : s.central.control.ends ≡ None
  central_lasts = (goes_on s running).central

  peripheral_lasts : s.peripheral.control.ends ≡ None
  peripheral_lasts = (goes_on s running).peripheral

  module _ (step : JointStep) (in_range : IsStepInRange step) (comes : may step s ≡ true) where
    walked : Walk central_rx peripheral_rx first slot is.latency (after step s)
    walked =
        walk_step central_rx peripheral_rx first slot is.latency step s in_range (λ goes. now.exclusive)
        (walk central_rx peripheral_rx first slot is.latency steps known.range known.exclusive)

    acted : after step s ≡ act step s
    acted = ap (λ (b : Bool). if b then act step s else s) comes

    central_never : EndsByCollision (act step s).central.control.ends → ⊥
    central_never met = walked.central_never (subst (λ (t : Joint). EndsByCollision t.central.control.ends) (sym acted) met)

    peripheral_never : EndsByCollision (act step s).peripheral.control.ends → ⊥
    peripheral_never met = walked.peripheral_never (subst (λ (t : Joint). EndsByCollision t.peripheral.control.ends) (sym acted) met)

    taken_right : is_taken_right step s ≡ true
    taken_right = taken_now central_rx peripheral_rx first slot steps step is comes

    -- ---- the central

    central_role_is : role_now s.central ≡ Central
    central_role_is = now.shown.central.role

    not_peripheral : {A : Type 0} → role_now s.central ≡ Peripheral → A
    not_peripheral there = absurd (apart (sym central_role_is ∙ there))
      where
        apart : ◌≡◌ {A = Role} Central Peripheral → ⊥
        apart is = absurd (cc)

    central_takes_end : (slot : ℕ) (item : Option Item) → (act step s).central ≡ phased_after_all (takes_if item slot no_response) s.central
        → is_allowed_right Central s.central.phase (class_up s.peripheral.knows_version) item ≡ true → (act step s).central.control.ends ≡ None
    central_takes_end slot None is allowed = ap (λ (t : Phased). t.control.ends) is ∙ central_lasts
    central_takes_end slot (Some Data) is allowed =
        ap (λ (t : Phased). t.control.ends) is
        ∙ data_lasts s.central central_lasts (subst (λ (r : Role). allows s.central.phase r (item_class ctrl_class Data) ≡ true) (sym central_role_is) (and_parts _ (has_meaning Central s.central.phase (item_class (class_up s.peripheral.knows_version) Data)) allowed).0)
    central_takes_end slot (Some (Control outgoing ctrl)) is allowed =
        ap (λ (t : Phased). t.control.ends) is
        ∙ by (phased_after (Takes (Known ctrl) slot no_response) s.central).control.ends refl
        (takes_phased slot no_response (Known ctrl) s.central central_lasts (few Central)
        (subst (λ (r : Role). allows s.central.phase r (ctrl_class ctrl) ≡ true) (sym central_role_is) (and_parts (allows s.central.phase Central (ctrl_class ctrl)) _ allowed).0)
        (λ there. not_peripheral there))
      where
        by : (ends : Option ErrCode) → (phased_after (Takes (Known ctrl) slot no_response) s.central).control.ends ≡ ends → PhasedEnd (Known ctrl) s.central ends → ends ≡ None
        by None at end = refl
        by (Some code) at (collided other met) = absurd (central_never (subst EndsByCollision (sym (ap (λ (t : Phased). t.control.ends) is ∙ at)) met))
        by (Some code) at (passed late) = not_peripheral late.role

    pub central_end : (act step s).central.control.ends ≡ None
    central_end = by step refl
      where
        one : (x : PhasedStep) → takes_nothing x ≡ true → (act step s).central ≡ phased_after_all (x ∷ []) s.central → (act step s).central.control.ends ≡ None
        one x nothing is = ap (λ (t : Phased). t.control.ends) is ∙ others_last x s.central nothing central_lasts

        at_of : (x : JointStep) → step ≡ x → (act step s).central ≡ phased_after_all (central_does x s) s.central
        at_of x is = central_acts step s ∙ ap (λ (y : JointStep). phased_after_all (central_does y s) s.central) is

        by : (x : JointStep) → step ≡ x → (act step s).central.control.ends ≡ None
        by (CentralEnters slot) is = one (Enters slot) refl (at_of (CentralEnters slot) is)
        by (CentralHost host) is = one (host_step host) (host_takes_nothing host) (at_of (CentralHost host) is)
        by (CentralSends slot) is = one (Sends slot) refl (at_of (CentralSends slot) is)
        by CentralAcked is = one SeesAcknowledged refl (at_of CentralAcked is)
        by (CentralTakes slot) is =
            central_takes_end slot (item_on_air s.up) (at_of (CentralTakes slot) is) (subst (λ (y : JointStep). is_taken_right y s ≡ true) is taken_right)
        by x is = ap (λ (t : Phased). t.control.ends) (at_of x is) ∙ central_lasts

    -- ---- the peripheral

    peripheral_role_is : role_now s.peripheral ≡ Peripheral
    peripheral_role_is = now.shown.peripheral.role

    lasts_end : (ends : Option ErrCode) → ends ≡ None → PeripheralEnd step s ends
    lasts_end ends is = subst (PeripheralEnd step s) (sym is) no_end

    peripheral_takes_end : (slot : ℕ) (response : Response) (item : Option Item) → step ≡ PeripheralTakes slot response → item_on_air s.down ≡ item
        → (act step s).peripheral ≡ phased_after_all (takes_if item slot response) s.peripheral
        → is_allowed_right Peripheral s.peripheral.phase (class_down s.central.knows_version) item ≡ true → PeripheralEnd step s (act step s).peripheral.control.ends
    peripheral_takes_end slot response None at on is allowed = lasts_end _ (ap (λ (t : Phased). t.control.ends) is ∙ peripheral_lasts)
    peripheral_takes_end slot response (Some Data) at on is allowed =
        lasts_end _
        (ap (λ (t : Phased). t.control.ends) is
        ∙ data_lasts s.peripheral peripheral_lasts (subst (λ (r : Role). allows s.peripheral.phase r (item_class ctrl_class Data) ≡ true) (sym peripheral_role_is)
        (and_parts _ (has_meaning Peripheral s.peripheral.phase (item_class (class_down s.central.knows_version) Data)) allowed).0))
    peripheral_takes_end slot response (Some (Control outgoing ctrl)) at on is allowed =
        subst (PeripheralEnd step s) (sym (ap (λ (t : Phased). t.control.ends) is))
        (by (phased_after (Takes (Known ctrl) slot response) s.peripheral).control.ends refl
        (takes_phased slot response (Known ctrl) s.peripheral peripheral_lasts (few Peripheral)
        (subst (λ (r : Role). allows s.peripheral.phase r (ctrl_class ctrl) ≡ true) (sym peripheral_role_is) (and_parts (allows s.peripheral.phase Peripheral (ctrl_class ctrl)) _ allowed).0)
        (λ there. now.shown.peripheral.kept)))
      where
        by : (ends : Option ErrCode) → (phased_after (Takes (Known ctrl) slot response) s.peripheral).control.ends ≡ ends → PhasedEnd (Known ctrl) s.peripheral ends → PeripheralEnd step s ends
        by None here end = no_end
        by (Some code) here (collided other met) = absurd (peripheral_never (subst EndsByCollision (sym (ap (λ (t : Phased). t.control.ends) is ∙ here)) met))
        by (Some code) here (passed late) =
            too_late (record { slot = slot; response = response; is = at; outgoing = outgoing; ctrl = ctrl; item = on; late = late })

    pub peripheral_end : PeripheralEnd step s (act step s).peripheral.control.ends
    peripheral_end = by step refl
      where
        at_of : (x : JointStep) → step ≡ x → (act step s).peripheral ≡ phased_after_all (peripheral_does x s) s.peripheral
        at_of x is = peripheral_acts step s ∙ ap (λ (y : JointStep). phased_after_all (peripheral_does y s) s.peripheral) is

        one : (x : PhasedStep) → takes_nothing x ≡ true → (act step s).peripheral ≡ phased_after_all (x ∷ []) s.peripheral → PeripheralEnd step s (act step s).peripheral.control.ends
        one x nothing is = lasts_end _ (ap (λ (t : Phased). t.control.ends) is ∙ others_last x s.peripheral nothing peripheral_lasts)

        by : (x : JointStep) → step ≡ x → PeripheralEnd step s (act step s).peripheral.control.ends
        by (PeripheralEnters slot) is = one (Enters slot) refl (at_of (PeripheralEnters slot) is)
        by (PeripheralHost host) is = one (host_step host) (host_takes_nothing host) (at_of (PeripheralHost host) is)
        by (PeripheralFixes slot) is = one (Sends slot) refl (at_of (PeripheralFixes slot) is)
        by PeripheralAcked is = one SeesAcknowledged refl (at_of PeripheralAcked is)
        by (PeripheralTakes slot response) is =
            peripheral_takes_end slot response (item_on_air s.down) is refl (at_of (PeripheralTakes slot response) is)
            (subst (λ (y : JointStep). is_taken_right y s ≡ true) is taken_right)
        by x is = lasts_end _ (ap (λ (t : Phased). t.control.ends) (at_of x is) ∙ peripheral_lasts)

    -- ---- an end for a passed Instant

    late_end : (ends : Option ErrCode) → PeripheralEnd step s ends → EndsLateAlone s ends
    late_end None no_end = inl refl
    late_end (Some code) (too_late takes) = inr (refl, passed_now)
      where
        here : Before s
        here =
            before central_rx peripheral_rx first slot is.latency s (walk central_rx peripheral_rx first slot is.latency steps known.range known.exclusive) running now.exclusive

        may_take : may_act (PeripheralTakes takes.slot takes.response) s ≡ true
        may_take = (and_parts (is_running s) (may_act (PeripheralTakes takes.slot takes.response) s) (ap (λ (y : JointStep). may y s) (sym takes.is) ∙ comes)).1

        passed_now : is_late s ≡ true
        passed_now =
            let on = item_is s.down (Control takes.outgoing takes.ctrl) takes.item in
            let parts = and_parts (is_some (item_on_air s.down)) (not (is_taken s.up) && ((is_same_event s || is_late s) && is_supervised s)) may_take in
            let rest = and_parts (not (is_taken s.up)) ((is_same_event s || is_late s) && is_supervised s) parts.1 in
            let time = and_parts (is_same_event s || is_late s) (is_supervised s) rest.1 in
            is_late_now s here takes.outgoing takes.ctrl on.0 on.1 (let less = few Peripheral in omega (arith, less)) (not_true (is_taken s.up) rest.0) time.0 takes.late

    pub peripheral_ends_late : EndsLateAlone s (act step s).peripheral.control.ends
    peripheral_ends_late = late_end (act step s).peripheral.control.ends peripheral_end
