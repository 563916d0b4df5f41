-- An indication that comes after its Instant comes to a peripheral that has passed that.
use Rattle.std.proofs.Common.{◌≡◌, ◌≤◌, ℕ, ◌+◌, ◌-◌, ◌%◌, ◌^◌, nat_le, nat_lt, Bool, true, false, ◌||◌, if◌then◌else◌, Option, Some, None, is_some, refl, ap, sym, subst, ◌∙◌, arith, leb-true, ltb-false}
use Rattle.ble_base.specs.Instant.{gap_of}
use Rattle.ble_base.specs.declared.error_codes.ErrCode.{ErrCode}
use Rattle.ble_base.specs.declared.roles.Role.{Role}
use Rattle.ble_base.specs.declared.roles.Role.TheVariants.{Peripheral as peripheral_role}
use Rattle.data_pdu.specs.declared.ctrl.Ctrl.{Ctrl}
use Rattle.data_pdu.specs.declared.ctrl.Ctrl.TheVariants.{TerminateInd}
use Rattle.data_pdu.specs.declared.ctrl.CtrlRead.{CtrlRead}
use Rattle.data_pdu.specs.declared.ctrl.CtrlRead.TheVariants.{Known, Unknown}
use Rattle.data_pdu.specs.Reading.{opcode_of}
use Rattle.joint_parameters.specs.enc_phase.declared.facts.PhaseFacts.{PhaseFacts}
use Rattle.joint_parameters.specs.enc_phase.Taking.{ctrl_class, is_unknown}
use Rattle.exclusive_stages.specs.declared.pdus.Pdu.{Pdu}
use Rattle.exclusive_stages.specs.Pdus.{is_timed}
use Rattle.instants.specs.declared.indications.Indication.{Indication}
use Rattle.instants.specs.declared.track.Change.{Change}
use Rattle.instants.specs.Track.{event_of, gap_ahead}
use Rattle.joint_parameters.specs.procedure_values.declared.drafts.Outgoing.{Outgoing}
use Rattle.joint_parameters.specs.joint_controls.Joint.{Control, Joint, OnAir, Way, has_passed, is_indication, is_item, is_late, item_on_air, last_change}
use Rattle.joint_collisions.specs.collision_steps.CentralPart.{passed_from, passed_from_of}
use Rattle.joint_collisions.specs.collision_steps.Parts.{outgoing_part}
use Rattle.collisions.specs.JointRun.{is_pdu, pdu_on_air}
use Rattle.collisions.specs.declared.joint.Way.TheVariants.{OnAir as on_air_pdu}
use Rattle.joint_collisions.specs.Views.{view_of, way_if, way_part}
use Rattle.ble_base.specs.declared.procedure_kinds.Kind.{Kind}
use Rattle.collisions.specs.declared.joint.End.{End}
use Rattle.collisions.specs.declared.peripheral.Peripheral.{Peripheral as PeripheralPdus}
use Rattle.joint_collisions.specs.collision_steps.Answers.{stops_run}
use Rattle.joint_collisions.specs.collision_steps.PeripheralPart.{answer_to, peripheral_of, step_of_read}
use Rattle.joint_collisions.proofs.collision_steps.PeripheralTaking
use Rattle.joint_parameters.specs.control_model.Control.{indicated_by}
use Rattle.joint_parameters.specs.control_model.Waits.{kind_awaited}
use Rattle.joint_parameters.proofs.control_model.Outcomes.{Hands, HandsOn, fits}
use Rattle.exclusive_stages.specs.declared.pdus.Exclusive.{Exclusive}
use Rattle.joint_collisions.proofs.DownMeanings.{Means, down_means, means_none, means_one, timed_has, untimed}
use Rattle.joint_collisions.proofs.EachStep.{Before, passed_is_last}
use Rattle.collisions.specs.declared.joint.Way.{Way as pdu_way}
use Rattle.collisions.specs.JointRun.{is_taken as is_pdu_taken}
use Rattle.instants.specs.Parameters.{instant_of}
use Rattle.joint_collisions.proofs.EachStep.{InstantOn, untaken_way}
use Rattle.joint_collisions.proofs.Instants.{PeripheralTook, peripheral_takes as pdu_taken}
use Rattle.joint_collisions.proofs.PeripheralJoint.{in_time, last_both, last_none, timed_indication}
use Rattle.joint_collisions.proofs.PeripheralSteps.{is_peripheral}
use Rattle.joint_collisions.proofs.PeripheralTakes.{ahead_is}
use Rattle.joint_collisions.proofs.Reaching.{sound_of}
use Rattle.joint_collisions.specs.Facts.{fits_if}
use Rattle.joint_parameters.specs.joint_controls.Ends.{IsSentOn}
use Rattle.joint_parameters.specs.joint_controls.Joint.{is_same_event, is_taken}
use Rattle.joint_parameters.specs.phased_control.Phased.{is_quiet_now}
use Rattle.joint_parameters.specs.phased_control.Taken.{seen_as}
use Rattle.joint_parameters.specs.procedure_stages.Exclusive.{pdu_of_outgoing}
use Rattle.joint_laws.proofs.TakenEnds.{IsLate}
use Rattle.joint_collisions.proofs.Readings.{hears, indication_in, same_indication}
use Rattle.joint_collisions.specs.Facts.{fits_down}
use Rattle.joint_parameters.specs.joint_controls.Ends.{IsSentAs}
use Rattle.joint_parameters.specs.joint_controls.Joint.{is_terminate}
use Rattle.joint_parameters.specs.phased_control.Taken.{seen_if}
use Rattle.joint_parameters.specs.procedure_stages.declared.stages.Peripheral.{Peripheral as ThePeripheral}
use Rattle.joint_parameters.specs.procedure_stages.declared.stages.Progress.{Progress}
use Rattle.joint_parameters.specs.procedure_stages.declared.stages.Progress.TheVariants.{Peripheral as peripheral}
use Rattle.joint_parameters.specs.procedure_stages.declared.steps.Step.{Step as the_step}
use Rattle.joint_parameters.specs.procedure_stages.Kinds.{role_of}
use Rattle.joint_parameters.specs.procedure_stages.Queue.{waiting_in}
use Rattle.joint_parameters.specs.procedures.declared.outcome.Outcome.{Outcome}
use Rattle.joint_parameters.specs.procedures.Table.{TableFacts}
use Rattle.joint_parameters.specs.procedures.Taking.{facts_with, lacks_room, no_room, outcome_of, taken_by, took_step}
use Rattle.joint_laws.proofs.TakenEnds.{has_room}
use Rattle.joint_laws.proofs.Common.{settled_of}

differ : true ≡ false → ⊥
differ is = absurd (cc)

-- ---- what an indication leaves of a table

unknown_effect : (f : TableFacts) (quiet : Bool) (opcode : ℕ) (indication : Indication) → indicated_by (outcome_of f quiet (Unknown opcode)).step.effect ≡ Some indication → ⊥
unknown_effect f quiet opcode indication is = absurd (cc)

terminate_effect : (f : TableFacts) (x : ThePeripheral) → f.progress ≡ peripheral x → (quiet : Bool) (code : ℕ) (indication : Indication)
    → indicated_by (outcome_of f quiet (Known (TerminateInd code))).step.effect ≡ Some indication → ⊥
terminate_effect f x at quiet code indication is =
    let own : indicated_by (taken_by (peripheral x) f quiet (TerminateInd code)).step.effect ≡ Some indication =
    ap (λ (p : Progress). indicated_by (taken_by p f quiet (TerminateInd code)).step.effect) (sym at) ∙ is in absurd (cc)

settled_goes : (a b : Bool) (f k : TableFacts) (x y z : the_step) → a ≡ false → b ≡ false → (settled_of a b f k x y z).0.progress ≡ k.progress
settled_goes a b f k x y z ha hb = rw (ha, hb) refl

-- an indication waits that the table did not await
waits_new : (f : TableFacts) (quiet : Bool) (read : CtrlRead) (indication : Indication) → indicated_by (outcome_of f quiet read).step.effect ≡ Some indication
    → HandsOn indication f.progress (outcome_of f quiet read).progress
waits_new f quiet read indication is = by (indicated_by (outcome_of f quiet read).step.effect) is (fits f quiet read).hands
  where
    by : (o : Option Indication) → o ≡ Some indication → Hands o f.progress (outcome_of f quiet read).progress → HandsOn indication f.progress (outcome_of f quiet read).progress
    by None is h = absurd (cc)
    by (Some other) is h = subst (λ (i : Indication). HandsOn i f.progress (outcome_of f quiet read).progress) (same_indication other indication is) h

module _ (f : TableFacts) (phase : PhaseFacts) (x : ThePeripheral) (at : f.progress ≡ peripheral x) (slot : ℕ) (quiet : Bool) (outgoing : Outgoing) (ctrl : Ctrl)
    (sent : IsSentAs outgoing ctrl) (fit : fits_down outgoing ≡ true) (room : waiting_in f.queue ≤ 15) where
  abbrev read : CtrlRead
  read = seen_if (is_unknown phase peripheral_role (ctrl_class ctrl)) (Known ctrl)

  abbrev o : Outcome
  o = outcome_of f quiet read

  module _ (indication : Indication) (ends : o.step.ends ≡ None) (effect : indicated_by o.step.effect ≡ Some indication) where
    -- it has a meaning, and is no LL_TERMINATE_IND
    known : is_unknown phase peripheral_role (ctrl_class ctrl) ≡ false
    known = by (is_unknown phase peripheral_role (ctrl_class ctrl)) effect
      where
        by : (u : Bool) → indicated_by (outcome_of f quiet (seen_if u (Known ctrl))).step.effect ≡ Some indication → u ≡ false
        by true is = absurd (unknown_effect f quiet (opcode_of ctrl) indication is)
        by false is = refl

    plainly : indicated_by (outcome_of f quiet (Known ctrl)).step.effect ≡ Some indication
    plainly = subst (λ (u : Bool). indicated_by (outcome_of f quiet (seen_if u (Known ctrl))).step.effect ≡ Some indication) known effect

    ends_plainly : (outcome_of f quiet (Known ctrl)).step.ends ≡ None
    ends_plainly = subst (λ (u : Bool). (outcome_of f quiet (seen_if u (Known ctrl))).step.ends ≡ None) known ends

    live : is_terminate ctrl ≡ false
    live = by ctrl plainly
      where
        by : (c : Ctrl) → indicated_by (outcome_of f quiet (Known c)).step.effect ≡ Some indication → is_terminate c ≡ false
        by (TerminateInd code) is = absurd (terminate_effect f x at quiet code indication is)
        by c is = refl

    not_stopping : stops_run read ≡ false
    not_stopping = subst (λ (u : Bool). stops_run (seen_if u (Known ctrl)) ≡ false) (sym known) (by ctrl live)
      where
        by : (c : Ctrl) → is_terminate c ≡ false → stops_run (Known c) ≡ false
        by (TerminateInd code) is = absurd (cc)
        by c is = refl

    -- so it is an indication that the central sent
    timed : is_pdu is_timed (outgoing_part outgoing) ≡ true
    timed = by (is_pdu is_timed (outgoing_part outgoing)) refl
      where
        h : HandsOn indication f.progress o.progress
        h = waits_new f quiet read indication effect

        g : TableFacts
        g = (took_step f read slot quiet).0

        progress : g.progress ≡ o.progress
        progress =
            settled_goes (lacks_room f o) (is_some o.step.ends) f (facts_with f slot o) no_room o.step o.step (has_room f slot quiet room read) (ap (λ (e : Option ErrCode). is_some e) ends)

        waits : is_some (peripheral_of g).ahead ≡ true
        waits = ahead_is g (ap role_of progress ∙ h.role) ∙ ap (λ (p : Progress). is_some (kind_awaited p)) progress ∙ ap (λ (k : Option Kind). is_some k) h.awaited

        free : is_some (peripheral_of f).ahead ≡ false
        free = ahead_is f h.here ∙ ap (λ (k : Option Kind). is_some k) h.free

        part : peripheral_of g ≡ (answer_to (step_of_read f.progress read) (peripheral_of f)).0
        part = (PeripheralTaking.took f x read slot quiet at (has_room f slot quiet room read) not_stopping).part

        apart : (answer : PeripheralPdus × End) → peripheral_of g ≡ answer.0 → answer.0.ahead ≡ (peripheral_of f).ahead → ⊥
        apart answer is same =
            differ (sym waits ∙ ap (λ (t : PeripheralPdus). is_some t.ahead) is ∙ ap (λ (a : Option Exclusive). is_some a) same ∙ free)

        never : (pdu : Option Pdu) → Means (answer_to (step_of_read f.progress read) (peripheral_of f)) (peripheral_of f) pdu → is_pdu is_timed pdu ≡ false → ⊥
        never None (means_none is) plain = apart (answer_to (step_of_read f.progress read) (peripheral_of f)) part (ap (λ (a : PeripheralPdus × End). a.0.ahead) is)
        never (Some pdu) (means_one _ is) plain =
            apart (answer_to (step_of_read f.progress read) (peripheral_of f)) part (ap (λ (a : PeripheralPdus × End). a.0.ahead) is ∙ (untimed false pdu (peripheral_of f) plain).ahead)

        by : (b : Bool) → is_pdu is_timed (outgoing_part outgoing) ≡ b → is_pdu is_timed (outgoing_part outgoing) ≡ true
        by true is = is
        by false is = absurd (never (outgoing_part outgoing) (down_means f phase outgoing ctrl sent fit live) is)

    -- and it is read as that
    read_as_sent : indication_in ctrl ≡ Some indication
    read_as_sent =
        let has = timed_has outgoing ctrl sent timed in
        let own = hears f x at quiet ctrl has.indication has.is ends_plainly in
        let same : ◌≡◌ {A = Option Indication} (Some has.indication) (Some indication) = sym own ∙ plainly in has.is ∙ same

-- ---- in a state of a joint run

-- fewer than 32,767 events ahead
near_ahead : (gap over event : ℕ) → gap ≡ (over - 1) - event → over - 1 ≤ event + 505 → nat_lt gap 32767 ≡ false → ⊥
near_ahead gap over event is less far = let most = ltb-false gap 32767 far in omega (arith, is, less, most)

later : (at event : ℕ) → at + 1 ≤ event → nat_lt at event ≡ true
later at event less = by (nat_lt at event) refl
  where
    by : (b : Bool) → nat_lt at event ≡ b → b ≡ true
    by true is = refl
    by false is = let more = ltb-false at event is in absurd (omega (arith, less, more))

module _ (s : Joint) (b : Before s) (outgoing : Outgoing) (ctrl : Ctrl) (sealed : Bool) (on : s.down ≡ OnAir (Control outgoing ctrl) sealed)
    (room : waiting_in s.peripheral.control.table.queue ≤ 15) (free : is_taken s.up ≡ false) (time : (is_same_event s || is_late s) ≡ true)
    (late : IsLate (seen_as (Known ctrl) s.peripheral) (is_quiet_now s.peripheral) s.peripheral.control) where
  abbrev over : ℕ
  over = passed_from s.central.control.table.progress

  abbrev event : ℕ
  event = event_of s.peripheral.control.track

  sent : IsSentAs outgoing ctrl
  sent = subst IsSentOn on b.tied.sent_down

  fit : fits_down outgoing ≡ true
  fit = subst (λ (w : Way). fits_if fits_down (item_on_air w) ≡ true) on b.facts.down

  abbrev own : (x : ThePeripheral) × (s.peripheral.control.table.progress ≡ peripheral x)
  own = is_peripheral s.peripheral.control.table.progress b.awaits.role

  -- as the peripheral reads it
  abbrev seen_here : CtrlRead
  seen_here = seen_if (is_unknown s.peripheral.phase peripheral_role (ctrl_class ctrl)) (Known ctrl)

  same_read : seen_as (Known ctrl) s.peripheral ≡ seen_here
  same_read = ap (λ (r : Role). seen_if (is_unknown s.peripheral.phase r (ctrl_class ctrl)) (Known ctrl)) b.awaits.role

  ends : (outcome_of s.peripheral.control.table (is_quiet_now s.peripheral) seen_here).step.ends ≡ None
  ends = subst (λ (r : CtrlRead). (outcome_of s.peripheral.control.table (is_quiet_now s.peripheral) r).step.ends ≡ None) same_read late.ends

  effect : indicated_by (outcome_of s.peripheral.control.table (is_quiet_now s.peripheral) seen_here).step.effect ≡ Some late.indication
  effect =
      subst (λ (r : CtrlRead). indicated_by (outcome_of s.peripheral.control.table (is_quiet_now s.peripheral) r).step.effect ≡ Some late.indication) same_read late.effect

  timed_now : is_pdu is_timed (outgoing_part outgoing) ≡ true
  timed_now = timed s.peripheral.control.table s.peripheral.phase own.0 own.1 0 (is_quiet_now s.peripheral) outgoing ctrl sent fit room late.indication ends effect

  read_now : indication_in ctrl ≡ Some late.indication
  read_now = read_as_sent s.peripheral.control.table s.peripheral.phase own.0 own.1 0 (is_quiet_now s.peripheral) outgoing ctrl sent fit room late.indication ends effect

  instant : instant_of late.indication ≡ (over - 1) % 2 ^ 16
  instant = subst (λ (w : Way). InstantOn w over) on b.holds.instant timed_now late.indication read_now

  on_way : is_item is_indication (item_on_air s.down) ≡ true
  on_way = ap (λ (w : Way). is_item is_indication (item_on_air w)) on ∙ sym (timed_indication outgoing) ∙ timed_now

  -- the way, as the machine has it
  the_pdu : (o : Option Pdu) → is_pdu is_timed o ≡ true → (pdu : Pdu) × (o ≡ Some pdu)
  the_pdu None is = absurd (cc)
  the_pdu (Some pdu) is = (pdu, refl)

  abbrev pdu_is : (pdu : Pdu) × (outgoing_part outgoing ≡ Some pdu)
  pdu_is = the_pdu (outgoing_part outgoing) timed_now

  down_is : (view_of s).down ≡ on_air_pdu pdu_is.0
  down_is = ap (λ (w : Way). way_part outgoing_part w) on ∙ ap (λ (o : Option Pdu). way_if (λ q. on_air_pdu q) o) pdu_is.1

  up_is : is_pdu_taken (view_of s).up ≡ false
  up_is = untaken_way pdu_of_outgoing s.up free

  timed_way : is_pdu is_timed (pdu_on_air (view_of s).down) ≡ true
  timed_way = ap (λ (w : pdu_way). is_pdu is_timed (pdu_on_air w)) down_is ∙ ap (λ (o : Option Pdu). is_pdu is_timed o) (sym pdu_is.1) ∙ timed_now

  -- the peripheral has passed the Instant
  past : nat_le over event ≡ true
  past = by (nat_le over event) refl
    where
      took : PeripheralTook (view_of s) b.holds.seen pdu_is.0
      took = pdu_taken (view_of s) b.holds.seen pdu_is.0 down_is up_is (in_time s b time)

      by : (x : Bool) → nat_le over event ≡ x → x ≡ true
      by true is = refl
      by false is =
          let ahead = took.ahead is in
          absurd (near_ahead (gap_ahead event late.indication) over event (ap (λ (n : ℕ). gap_of n (event % 2 ^ 16)) instant ∙ ahead.0) ahead.1 late.passed)

  over_is : (change : Change) → last_change s.central.control.sent ≡ Some change → over ≡ change.at.0 + 1
  over_is change is = passed_is_last s b s.central.control.sent refl ∙ ap passed_from_of (last_both s.central.control.sent change is)

  over_none : last_change s.central.control.sent ≡ None → over ≡ 0
  over_none is = passed_is_last s b s.central.control.sent refl ∙ ap passed_from_of (last_none s.central.control.sent is)

  pub is_late_now : is_late s ≡ true
  is_late_now = by (last_change s.central.control.sent) refl
    where
      by : (last : Option Change) → last_change s.central.control.sent ≡ last → is_late s ≡ true
      by None is =
          let none = over_none is in
          let one = (sound_of (view_of s) b.holds.seen.reached).fits.sent timed_way in absurd (omega (arith, none, one))
      by (Some change) is =
          let h = over_is change is in
          let passed_it = leb-true over event past in
          ap (λ (x : Bool). has_passed (if x then last_change s.central.control.sent else None) event) on_way
          ∙ ap (λ (o : Option Change). has_passed o event) is ∙ later change.at.0 event (omega (arith, h, passed_it))
