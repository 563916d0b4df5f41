-- What a peripheral's control part makes of a PDU of the central, as joint runs of the procedures that exclude each other see
-- it.
use Rattle.std.proofs.Common.{◌≡◌, inl, inr, ℕ, Bool, true, false, if◌then◌else◌, Option, Some, None, is_some, refl, sym, ap, subst, ◌∙◌, arith}
use Rattle.ble_base.specs.ErrorCodes.{instant_passed, memory_capacity_exceeded}
use Rattle.ble_base.specs.declared.error_codes.ErrCode.{ErrCode}
use Rattle.ble_base.specs.declared.roles.Role.TheVariants.{Peripheral as peripheral_role}
use Rattle.data_pdu.specs.declared.ctrl.Ctrl.{Ctrl}
use Rattle.data_pdu.specs.declared.ctrl.Ctrl.TheVariants.{ChannelMapInd, ConnectionUpdateInd}
use Rattle.data_pdu.specs.declared.ctrl.CtrlRead.{CtrlRead}
use Rattle.data_pdu.specs.declared.ctrl.CtrlRead.TheVariants.{Known}
use Rattle.instants.specs.declared.indications.Indication.{Indication}
use Rattle.instants.specs.declared.indications.Indication.TheVariants.{Map as map_indication, Update as update_indication}
use Rattle.instants.specs.Track.{track_after_take}
use Rattle.collision_steps.specs.procedure_stages.declared.stages.Ahead.{Ahead}
use Rattle.collision_steps.specs.procedure_stages.declared.stages.Ahead.TheVariants.{Map as map_ahead, Nothing as nothing_ahead, Update as update_ahead}
use Rattle.collision_steps.specs.procedure_stages.declared.stages.Peripheral.{Peripheral}
use Rattle.collision_steps.specs.procedure_stages.declared.stages.Progress.{Progress}
use Rattle.collision_steps.specs.procedure_stages.declared.stages.Progress.TheVariants.{Peripheral as peripheral}
use Rattle.collision_steps.specs.procedure_stages.declared.steps.Step.{Step as TableStep}
use Rattle.collision_steps.specs.procedure_stages.Collisions.{collision}
use Rattle.collision_steps.specs.procedure_stages.Exclusive.{peripheral_stage}
use Rattle.collision_steps.specs.procedure_stages.Kinds.{kind_at_peripheral, role_of}
use Rattle.exclusive_stages.specs.declared.stages.PeerAtPeripheral.TheVariants.{MapTaken}
use Rattle.exclusive_stages.specs.Awaited.{central_answered, reads_as_answer}
use Rattle.ble_base.specs.declared.procedure_kinds.Kind.TheVariants.{Map as map_kind}
use Rattle.collision_steps.specs.procedures.Map.{map_taken}
use Rattle.collision_steps.specs.procedures.Request.{outlived}
use Rattle.collision_steps.specs.procedures.Table.{TableFacts}
use Rattle.collision_steps.specs.procedures.Taking.{facts_with, lacks_room, no_room, outcome_of, taken_by, took_step}
use Rattle.collision_steps.specs.procedures.Update.{follow, followed, granted, update_begun, update_taken}
use Rattle.collision_steps.specs.procedures.declared.outcome.Outcome.{Outcome}
use Rattle.collisions.specs.declared.peripheral.Peripheral.{Peripheral as PeripheralPdus}
use Rattle.collisions.specs.declared.joint.End.{End}
use Rattle.collisions.specs.declared.joint.End.TheVariants.{Open}
use Rattle.collision_steps.specs.Answers.{stops_run}
use Rattle.collision_steps.specs.PeripheralPart.{answer_to, peripheral_of, step_of_read}
use Rattle.collision_steps.proofs.PeripheralTaking as taking
use Rattle.collision_steps.proofs.PeripheralTaking.{over}
use Rattle.joint_controls.specs.control_model.Control.{Control, Takes, after, ended, indicated_by, is_to_come, taken, took}
use Rattle.joint_controls.specs.control_model.Waits.{EndsByCollision, kind_awaited, kind_of_indication}
use Rattle.joint_controls.proofs.control_model.Calls.{open_step}
use Rattle.joint_controls.proofs.control_model.Outcomes.{Hands, fits}
use Rattle.joint_collisions.proofs.Answers.{IsCollided, collided_of, not_passed, open_of}

-- ---- the indication in a PDU

abbrev pub indication_in : Ctrl → Option Indication
indication_in (ConnectionUpdateInd win_size win_offset interval latency timeout instant) =
    Some (update_indication win_offset interval latency timeout instant)
indication_in (ChannelMapInd map instant) = Some (map_indication map instant)
indication_in ctrl = None

abbrev Hears : Indication → Outcome → Type 0
Hears indication o = o.step.ends ≡ None → indicated_by o.step.effect ≡ Some indication

hears_if : (indication : Indication) (b : Bool) (o q : Outcome) → Hears indication o → Hears indication q → Hears indication (if b then o else q)
hears_if indication true o q ho hq = ho
hears_if indication false o q ho hq = hq

follow_hears : (f : TableFacts) (ahead new : Ahead) (indication : Indication) (o : Outcome) → Hears indication o → Hears indication (follow f ahead new o)
follow_hears f nothing_ahead new indication o h = h
follow_hears f update_ahead new indication o h = λ ends. absurd (cc)
follow_hears f map_ahead new indication o h = λ ends. absurd (cc)

outlived_hears : (f : TableFacts) (code : Option ErrCode) (indication : Indication) (o : Outcome) → Hears indication o → Hears indication (outlived f code o)
outlived_hears f None indication o h = h
outlived_hears f (Some code) indication o h = λ ends. absurd (cc)

update_hears : (f : TableFacts) (p : Peripheral) (indication : Indication) → Hears indication (update_taken f p indication)
update_hears f p indication =
    follow_hears f p.ahead update_ahead indication _
    (hears_if indication (reads_as_answer (peripheral_stage p.own)) (granted f p indication) (update_begun f p indication) (λ ends. refl) (λ ends. refl))

map_hears : (f : TableFacts) (p : Peripheral) (indication : Indication) → Hears indication (map_taken f p indication)
map_hears f p indication =
    let o = follow f p.ahead map_ahead (followed f (record p { peer = MapTaken }) map_ahead indication) in
    let h = follow_hears f p.ahead map_ahead indication (followed f (record p { peer = MapTaken }) map_ahead indication) (λ ends. refl) in
    hears_if indication (central_answered (peripheral_stage p.own)) (outlived f (collision (kind_at_peripheral p.own) map_kind) o) o
    (outlived_hears f (collision (kind_at_peripheral p.own) map_kind) indication o h) h

pub same_indication : (a b : Indication) → ◌≡◌ {A = Option Indication} (Some a) (Some b) → a ≡ b
same_indication a b is = cc

module _ (f : TableFacts) (x : Peripheral) (is : f.progress ≡ peripheral x) (quiet : Bool) where
  abbrev HearsOf : Ctrl → Indication → Type 0
  HearsOf ctrl indication = Hears indication (outcome_of f quiet (Known ctrl))

  pub hears : (ctrl : Ctrl) (indication : Indication) → indication_in ctrl ≡ Some indication → HearsOf ctrl indication
  hears (ConnectionUpdateInd win_size win_offset interval latency timeout instant) indication some =
      let own = update_indication win_offset interval latency timeout instant in
      let ctrl = ConnectionUpdateInd win_size win_offset interval latency timeout instant in
      subst (HearsOf ctrl) (same_indication own indication some)
      (subst (λ (p : Progress). Hears own (taken_by p f quiet ctrl)) (sym is) (update_hears f x own))
  hears (ChannelMapInd map instant) indication some =
      let own = map_indication map instant in
      subst (HearsOf (ChannelMapInd map instant)) (same_indication own indication some)
      (subst (λ (p : Progress). Hears own (taken_by p f quiet (ChannelMapInd map instant))) (sym is) (map_hears f x own))
  hears ctrl indication some = absurd (cc)

-- ---- what is read

-- how a PDU that is taken goes on: nothing new waits, or its indication does
pub data Took (c d : Control) (read : CtrlRead) (slot : ℕ) (quiet : Bool) : Type 0 where
  nothing_waits : d.track ≡ c.track → kind_awaited d.table.progress ≡ kind_awaited c.table.progress → Took c d read slot quiet
  one_waits :
      (indication : Indication) → (outcome_of c.table quiet read).step.ends ≡ None → indicated_by (outcome_of c.table quiet read).step.effect ≡ Some indication
      → is_to_come c.track indication ≡ true → d.track ≡ track_after_take c.track indication → kind_awaited c.table.progress ≡ None
      → kind_awaited d.table.progress ≡ Some (kind_of_indication indication) → Took c d read slot quiet

-- and what it means in a joint run
pub record ReadAs (c d : Control) (read : CtrlRead) (slot : ℕ) (quiet : Bool) (answer : PeripheralPdus × End) : Type 0 where
  pub role : role_of d.table.progress ≡ peripheral_role
  pub open_end : d.ends ≡ None → answer.1 ≡ Open
  pub part : d.ends ≡ None → peripheral_of d.table ≡ answer.0
  pub took : d.ends ≡ None → Took c d read slot quiet
  -- an indication that is not read as passed is not lost
  pub plain : d.ends ≡ None → (outcome_of c.table quiet read).step.ends ≡ None
  pub collides : EndsByCollision d.ends → IsCollided answer.1

module _ (c : Control) (x : Peripheral) (is : c.table.progress ≡ peripheral x) (lasts : c.ends ≡ None) (read : CtrlRead) (slot : ℕ) (quiet : Bool)
    (goes_on : stops_run read ≡ false) where
  own_role : role_of c.table.progress ≡ peripheral_role
  own_role = rw is refl

  abbrev o : Outcome
  o = outcome_of c.table quiet read

  abbrev after_facts : TableFacts
  after_facts = facts_with c.table slot o

  abbrev answer : PeripheralPdus × End
  answer = answer_to (step_of_read c.table.progress read) (peripheral_of c.table)

  ended_read : (code : ErrCode) → (EndsByCollision (Some code) → IsCollided answer.1) → ReadAs c (ended code c) read slot quiet answer
  ended_read code met =
      record {
        role = own_role;
        open_end = λ h. absurd (cc);
        part = λ h. absurd (cc);
        took = λ h. absurd (cc);
        plain = λ h. absurd (cc);
        collides = met;
      }

  not_room : EndsByCollision (Some (record { 0 = memory_capacity_exceeded })) → ⊥
  not_room (inl h) = omega (arith, h)
  not_room (inr h) = omega (arith, h)

  -- with room, and without an end
  goes_with : (some : Option Indication) → indicated_by o.step.effect ≡ some → o.step.ends ≡ None → answer.1 ≡ Open → peripheral_of after_facts ≡ answer.0
      → Hands some c.table.progress o.progress → ReadAs c (taken after_facts None some c) read slot quiet answer
  goes_with None effect ends opened part h =
      record {
        role = h.role ∙ own_role;
        open_end = λ lasts_still. opened;
        part = λ lasts_still. part;
        took = λ lasts_still. nothing_waits refl h.awaited;
        plain = λ lasts_still. ends;
        collides = λ met. absurd (subst EndsByCollision lasts met);
      }
  goes_with (Some indication) effect ends opened part h = by (is_to_come c.track indication) refl
    where
      by : (to_come : Bool) → is_to_come c.track indication ≡ to_come
          → ReadAs c (if to_come then record c { table = after_facts; track = track_after_take c.track indication } else ended (record { 0 = instant_passed }) c) read slot quiet answer
      by true to_come =
          record {
            role = h.role;
            open_end = λ lasts_still. opened;
            part = λ lasts_still. part;
            took = λ lasts_still. one_waits indication ends effect to_come refl h.free h.awaited;
            plain = λ lasts_still. ends;
            collides = λ met. absurd (subst EndsByCollision lasts met);
          }
      by false to_come = ended_read (record { 0 = instant_passed }) (λ met. absurd (not_passed met))

  abbrev settled_as : Bool → Option ErrCode → TableFacts × TableStep
  settled_as full ends = if full then (c.table, no_room) else (if is_some ends then (c.table, o.step) else (after_facts, o.step))

  abbrev step : TableFacts × TableStep
  step = took_step c.table read slot quiet

  taken_read : (ends : Option ErrCode) → o.step.ends ≡ ends → taking.Took c.table read slot quiet → step ≡ settled_as false ends
      → ReadAs c (taken (settled_as false ends).0 (settled_as false ends).1.ends (indicated_by (settled_as false ends).1.effect) c) read slot quiet answer
  taken_read (Some code) ends t same =
      rw ends (ended_read code (λ met. collided_of answer.1 (subst EndsByCollision (sym (ap (λ (r : TableFacts × TableStep). r.1.ends) same ∙ ends) ∙ t.ends) met)))
  taken_read None ends t same =
      let opened = open_of answer.1 (sym t.ends ∙ ap (λ (r : TableFacts × TableStep). r.1.ends) same ∙ ends) in
      let part : peripheral_of after_facts ≡ answer.0 = sym (ap (λ (r : TableFacts × TableStep). peripheral_of r.0) same) ∙ t.part in
      rw ends (goes_with (indicated_by o.step.effect) refl ends opened part (fits c.table quiet read).hands)

  read_by : (full : Bool) → lacks_room c.table o ≡ full → (ends : Option ErrCode) → o.step.ends ≡ ends
      → step ≡ settled_as full ends → ReadAs c (took read slot quiet c) read slot quiet answer
  read_by true full ends ends_is same =
      subst (λ (r : TableFacts × TableStep). ReadAs c (taken r.0 r.1.ends (indicated_by r.1.effect) c) read slot quiet answer) (sym same)
      (ended_read (record { 0 = memory_capacity_exceeded }) (λ met. absurd (not_room met)))
  read_by false full ends ends_is same =
      subst (λ (r : TableFacts × TableStep). ReadAs c (taken r.0 r.1.ends (indicated_by r.1.effect) c) read slot quiet answer) (sym same)
      (taken_read ends ends_is (taking.took c.table x read slot quiet is full goes_on) same)

  pub read_as : ReadAs c (after (Takes read slot quiet) c) read slot quiet answer
  read_as =
      open_step (λ (d : Control). ReadAs c d read slot quiet answer) (Takes read slot quiet) c lasts
      (read_by (lacks_room c.table o) refl o.step.ends refl refl)
