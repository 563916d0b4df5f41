-- What a central's control part makes of a PDU of the peripheral, as joint runs of the procedures that exclude each other see
-- it.
use Rattle.std.proofs.Common.{◌≡◌, inl, inr, ℕ, Bool, true, false, Option, Some, None, refl, sym, ap, subst, ◌∙◌, arith}
use Rattle.ble_base.specs.ErrorCodes.{instant_passed, memory_capacity_exceeded}
use Rattle.ble_base.specs.declared.error_codes.ErrCode.{ErrCode}
use Rattle.ble_base.specs.declared.roles.Role.TheVariants.{Central as central_role}
use Rattle.data_pdu.specs.declared.ctrl.CtrlRead.{CtrlRead}
use Rattle.exclusive_stages.specs.declared.pdus.Pdu.{Pdu}
use Rattle.exclusive_stages.specs.declared.pdus.Reason.{Reason}
use Rattle.exclusive_stages.specs.declared.pdus.Reason.TheVariants.{Other as other_reason, OtherKind, SameKind}
use Rattle.instants.specs.declared.indications.Indication.{Indication}
use Rattle.collision_steps.specs.procedure_stages.declared.stages.Central.{Central}
use Rattle.collision_steps.specs.procedure_stages.declared.stages.Progress.TheVariants.{Central as central}
use Rattle.collision_steps.specs.procedure_stages.declared.steps.Step.{Step as TableStep}
use Rattle.collision_steps.specs.procedure_stages.Kinds.{role_of}
use Rattle.collision_steps.specs.procedures.Table.{TableFacts}
use Rattle.collision_steps.specs.procedures.Taking.{facts_with, lacks_room, outcome_of, took_step}
use Rattle.collisions.specs.declared.central.Central.{Central as CentralPdus}
use Rattle.collisions.specs.declared.joint.End.{End}
use Rattle.collisions.specs.declared.joint.End.TheVariants.{Collided, InstantPassed, Open}
use Rattle.collisions.specs.CentralTable
use Rattle.collisions.specs.JointRun.{is_judgeable}
use Rattle.collision_steps.specs.Answers.{code_of_end, stops_run}
use Rattle.collision_steps.specs.CentralPart.{answer_to, central_of, step_of_read}
use Rattle.collision_steps.proofs.CentralTaking as taking
use Rattle.collision_steps.proofs.CentralTaking.{no_room_left}
use Rattle.joint_controls.specs.control_model.Control.{Control, Takes, after, indicated_by, taken, took}
use Rattle.joint_controls.specs.control_model.Waits.{EndsByCollision, last_instant_of}
use Rattle.joint_controls.proofs.control_model.Calls.{open_step, took_by}
use Rattle.joint_controls.proofs.control_model.Outcomes.{Hands, fits}
use Rattle.joint_controls.proofs.control_model.Waiting.{handed}

-- ---- how a link ends

pub open_of : (end : End) → code_of_end end ≡ None → end ≡ Open
open_of Open is = refl
open_of InstantPassed is = absurd (cc)
open_of (Collided SameKind) is = absurd (cc)
open_of (Collided OtherKind) is = absurd (cc)
open_of (Collided other_reason) is = absurd (cc)

pub record IsCollided (end : End) : Type 0 where
  pub reason : Reason
  pub is : end ≡ Collided reason

pub not_passed : EndsByCollision (Some (record { 0 = instant_passed })) → ⊥
not_passed (inl h) = omega (arith, h)
not_passed (inr h) = omega (arith, h)

pub collided_of : (end : End) → EndsByCollision (code_of_end end) → IsCollided end
collided_of Open h = absurd h
collided_of InstantPassed h = absurd (not_passed h)
collided_of (Collided SameKind) h = record { reason = SameKind; is = refl }
collided_of (Collided OtherKind) h = record { reason = OtherKind; is = refl }
collided_of (Collided other_reason) h = record { reason = other_reason; is = refl }

-- ---- what is read of a PDU

-- the last Instant and the track stay as they were
pub record SameEnd (c d : Control) : Type 0 where
  pub role : role_of d.table.progress ≡ central_role
  pub last : last_instant_of d.table.progress ≡ last_instant_of c.table.progress
  pub track : d.track ≡ c.track

pub record ReadAs (c d : Control) (answer : CentralPdus × End) : Type 0 where
  pub same : SameEnd c d
  pub goes : d.ends ≡ None → (answer.1 ≡ Open) × (central_of d.table ≡ answer.0)
  pub collides : EndsByCollision d.ends → IsCollided answer.1

module _ (c : Control) (x : Central) (is : c.table.progress ≡ central x) (lasts : c.ends ≡ None) (read : CtrlRead) (slot : ℕ) (quiet : Bool)
    (goes_on : stops_run read ≡ false) where
  own_role : role_of c.table.progress ≡ central_role
  own_role = rw is refl

  -- a central is handed no indication
  none_handed : (some : Option Indication) → Hands some c.table.progress (outcome_of c.table quiet read).progress
      → SameEnd c (taken (facts_with c.table slot (outcome_of c.table quiet read)) None some c)
  none_handed None h = record { role = h.role ∙ own_role; last = h.last; track = refl }
  none_handed (Some indication) h = absurd (let here = h.here in let own = own_role in cc)

  same_end : SameEnd c (took read slot quiet c)
  same_end =
      took_by (SameEnd c) c (λ code. record { role = own_role; last = refl; track = refl }) read slot quiet
      (none_handed (indicated_by (outcome_of c.table quiet read).step.effect) (fits c.table quiet read).hands)

  abbrev step : TableFacts × TableStep
  step = took_step c.table read slot quiet

  abbrev answer : CentralPdus × End
  answer = answer_to (step_of_read c.table.progress read) (central_of c.table)

  abbrev taken_with : Option ErrCode → Option Indication → Control
  taken_with ends indication = taken step.0 ends indication c

  -- with room
  goes_none : (ends : Option ErrCode) (some : Option Indication) → step.1.ends ≡ ends → indicated_by step.1.effect ≡ some → taking.Took c.table read slot quiet
      → (taken_with ends some).ends ≡ None → (answer.1 ≡ Open) × (central_of (taken_with ends some).table ≡ answer.0)
  goes_none (Some code) some ends_is some_is t h = absurd (cc)
  goes_none None None ends_is some_is t h = (open_of answer.1 (sym t.ends ∙ ends_is), t.part)
  goes_none None (Some indication) ends_is some_is t h =
      absurd (let here = (handed c.table read slot quiet indication some_is).here in let own = own_role in cc)

  collides_some : (ends : Option ErrCode) (some : Option Indication) → step.1.ends ≡ ends → indicated_by step.1.effect ≡ some → taking.Took c.table read slot quiet
      → EndsByCollision (taken_with ends some).ends → IsCollided answer.1
  collides_some (Some code) some ends_is some_is t h = collided_of answer.1 (subst EndsByCollision (sym ends_is ∙ t.ends) h)
  collides_some None None ends_is some_is t h = absurd (subst EndsByCollision lasts h)
  collides_some None (Some indication) ends_is some_is t h =
      absurd (let here = (handed c.table read slot quiet indication some_is).here in let own = own_role in cc)

  -- and without
  no_room_ends : lacks_room c.table (outcome_of c.table quiet read) ≡ true → (took read slot quiet c).ends ≡ Some (record { 0 = memory_capacity_exceeded })
  no_room_ends full = ap (λ (r : TableFacts × TableStep). (taken r.0 r.1.ends (indicated_by r.1.effect) c).ends) (no_room_left c.table read slot quiet full)

  goes_by : (full : Bool) → lacks_room c.table (outcome_of c.table quiet read) ≡ full
      → (took read slot quiet c).ends ≡ None → (answer.1 ≡ Open) × (central_of (took read slot quiet c).table ≡ answer.0)
  goes_by true full h = absurd (let ends = no_room_ends full in cc)
  goes_by false full h = goes_none step.1.ends (indicated_by step.1.effect) refl refl (taking.took c.table x read slot quiet is full goes_on) h

  no_collision : EndsByCollision (Some (record { 0 = memory_capacity_exceeded })) → ⊥
  no_collision (inl h) = omega (arith, h)
  no_collision (inr h) = omega (arith, h)

  collides_by : (full : Bool) → lacks_room c.table (outcome_of c.table quiet read) ≡ full → EndsByCollision (took read slot quiet c).ends → IsCollided answer.1
  collides_by true full h = absurd (no_collision (subst EndsByCollision (no_room_ends full) h))
  collides_by false full h =
      collides_some step.1.ends (indicated_by step.1.effect) refl refl (taking.took c.table x read slot quiet is full goes_on) h

  pub read_as : ReadAs c (after (Takes read slot quiet) c) answer
  read_as =
      open_step (λ (d : Control). ReadAs c d answer) (Takes read slot quiet) c lasts
      (record { same = same_end; goes = goes_by _ refl; collides = collides_by _ refl })

-- ---- a PDU means the same in a joint run of these procedures

-- none of these means nothing; an LL_CONNECTION_PARAM_REQ may be judged
pub data Means (answer : CentralPdus × End) (t : CentralPdus) : Option Pdu → Type 0 where
  means_none : answer ≡ (t, Open) → Means answer t None
  means_one : (judged : Bool) (pdu : Pdu) → is_judgeable judged pdu ≡ true → answer ≡ CentralTable.taken judged pdu t → Means answer t (Some pdu)
