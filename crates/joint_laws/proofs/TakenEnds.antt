-- With which codes a PDU that is taken may end the link at an end where there is room for answers.
use Rattle.std.proofs.Common.{◌≡◌, ◌≤◌, inl, inr, ℕ, nat_le, Bool, true, false, ◌&&◌, ◌||◌, if◌then◌else◌, Option, Some, None, is_some, refl, ap, sym, subst, ◌∙◌, arith, leb-true}
use Rattle.ble_base.specs.ErrorCodes.{instant_passed}
use Rattle.ble_base.specs.declared.error_codes.ErrCode.{ErrCode}
use Rattle.ble_base.specs.declared.roles.Role.TheVariants.{Peripheral as peripheral_role}
use Rattle.data_pdu.specs.declared.ctrl.Ctrl.TheVariants.{TerminateInd}
use Rattle.data_pdu.specs.declared.ctrl.CtrlRead.{CtrlRead}
use Rattle.data_pdu.specs.declared.ctrl.CtrlRead.TheVariants.{Known}
use Rattle.exclusive_stages.specs.declared.pdus.Exclusive.{Exclusive}
use Rattle.exclusive_stages.specs.declared.pdus.Exclusive.TheVariants.{Map, Phy, Request, Update}
use Rattle.exclusive_stages.specs.declared.stages.PeerAtPeripheral.TheVariants.{MapTaken, PhyRspUnsent}
use Rattle.exclusive_stages.specs.Pdus.{reason_of, rejection_of}
use Rattle.instants.specs.Track.{track_after_take}
use Rattle.exclusive_stages.specs.declared.pdus.Pdu.TheVariants.{GrantInd, MapInd, ParamReq, PhyReq, PhyRsp, UpdateInd}
use Rattle.exclusive_stages.specs.declared.pdus.Reason.TheVariants.{SameKind}
use Rattle.exclusive_stages.specs.Awaited.{central_answered, peer_answered}
use Rattle.exclusive_stages.specs.Kinds.{central_kind}
use Rattle.instants.specs.declared.indications.Indication.{Indication}
use Rattle.joint_parameters.specs.procedure_stages.declared.stages.Progress.{Progress}
use Rattle.joint_parameters.specs.procedure_stages.declared.stages.Progress.TheVariants.{Central as central, Peripheral as peripheral}
use Rattle.joint_parameters.specs.procedure_stages.declared.steps.Step.{Step as the_step}
use Rattle.joint_parameters.specs.procedure_stages.Closing.{is_open}
use Rattle.joint_parameters.specs.procedure_stages.Kinds.{role_of}
use Rattle.joint_parameters.specs.procedure_stages.Queue.{has_reply, waiting_in}
use Rattle.joint_parameters.specs.procedure_stages.Steps.{asks_host}
use Rattle.joint_parameters.specs.procedures.Table.{TableFacts}
use Rattle.joint_parameters.specs.procedures.Taking.{lacks_room, outcome_of, taken_by, took_step}
use Rattle.collisions.specs.CentralTable
use Rattle.collisions.specs.PeripheralTable
use Rattle.collisions.specs.declared.central.Central.{Central as TheCentral}
use Rattle.collisions.specs.declared.joint.End.{End}
use Rattle.collisions.specs.declared.joint.End.TheVariants.{Collided, InstantPassed, Open}
use Rattle.collisions.specs.declared.peripheral.Peripheral.{Peripheral as ThePeripheral}
use Rattle.joint_collisions.specs.collision_steps.Answers.{code_of_end, stops_run}
use Rattle.joint_collisions.specs.collision_steps.CentralPart
use Rattle.joint_collisions.specs.collision_steps.PeripheralPart
use Rattle.joint_collisions.proofs.collision_steps.CentralTaking
use Rattle.joint_collisions.proofs.collision_steps.CentralTaking.{step_of_settled}
use Rattle.joint_collisions.proofs.collision_steps.PeripheralTaking
use Rattle.joint_parameters.specs.control_model.Control.{Control, Takes, after, ended, indicated_by, is_to_come, taken}
use Rattle.joint_parameters.specs.control_model.Waits.{EndsByCollision}
use Rattle.joint_parameters.proofs.control_model.Calls.{open_step}
use Rattle.joint_parameters.proofs.control_model.Outcomes.{Hands, fits}

-- ---- an end by the procedures that exclude each other

-- that is for no Instant: that of an indication is tested by the layer above
abbrev IsNoPassed : End → Type 0
IsNoPassed InstantPassed = ⊥
IsNoPassed end = Unit {0}

pair_if : {A : Type 0} (b : Bool) (x y : A × End) → IsNoPassed x.1 → IsNoPassed y.1 → IsNoPassed (if◌then◌else◌ {A = A × End} b x y).1
pair_if true x y hx hy = hx
pair_if false x y hx hy = hy

collision_ends : (p q : Exclusive) (t : TheCentral) → IsNoPassed (CentralTable.collision p q t).1
collision_ends p q t = pair_if (peer_answered t.own) (t, Collided (reason_of p q)) (CentralTable.rejected (rejection_of q (reason_of p q)) t, Open) tt tt

request_ends : (own : Option Exclusive) (judged : Bool) (t : TheCentral) → IsNoPassed (CentralTable.request_taken own judged t).1
request_ends (Some p) judged t = collision_ends p Request t
request_ends None judged t = tt

phy_ends : (own : Option Exclusive) (t : TheCentral) → IsNoPassed (CentralTable.phy_taken own t).1
phy_ends (Some p) t = collision_ends p Phy t
phy_ends None t = tt

central_ends : (step : Option CentralPart.CentralStep) (t : TheCentral) → IsNoPassed (CentralPart.answer_to step t).1
central_ends (Some (CentralPart.takes judged ParamReq)) t = request_ends (central_kind t.own) judged t
central_ends (Some (CentralPart.takes judged PhyReq)) t = phy_ends (central_kind t.own) t
central_ends (Some (CentralPart.takes judged pdu)) t = tt
central_ends (Some step) t = tt
central_ends None t = tt

followed_ends : (end : End) (kind : Exclusive) (x y : ThePeripheral) → IsNoPassed end → IsNoPassed (PeripheralTable.followed end kind x y).1
followed_ends Open kind x y h = tt
followed_ends InstantPassed kind x y h = absurd h
followed_ends (Collided reason) kind x y h = tt

indication_ends : (ahead : Option Exclusive) (kind : Exclusive) → IsNoPassed (PeripheralTable.indication_end ahead false kind)
indication_ends None kind = tt
indication_ends (Some waiting) kind = tt

peripheral_ends : (step : Option PeripheralPart.PeripheralStep) (t : ThePeripheral) → IsNoPassed (PeripheralPart.answer_to step t).1
peripheral_ends (Some (PeripheralPart.takes UpdateInd)) t = followed_ends (PeripheralTable.indication_end t.ahead false Update) Update _ _ (indication_ends t.ahead Update)
peripheral_ends (Some (PeripheralPart.takes GrantInd)) t = followed_ends (PeripheralTable.indication_end t.ahead false Update) Update _ _ (indication_ends t.ahead Update)
peripheral_ends (Some (PeripheralPart.takes MapInd)) t =
    pair_if (central_answered t.own) (t, Collided (reason_of Request Map)) (PeripheralTable.followed (PeripheralTable.indication_end t.ahead false Map) Map (record t { peer = MapTaken }) t) tt
    (followed_ends (PeripheralTable.indication_end t.ahead false Map) Map _ _ (indication_ends t.ahead Map))
peripheral_ends (Some (PeripheralPart.takes PhyReq)) t =
    pair_if (central_answered t.own) (t, Collided (reason_of Request Phy)) (PeripheralTable.queued PhyRsp (record t { peer = PhyRspUnsent }), Open) tt tt
peripheral_ends (Some (PeripheralPart.takes pdu)) t = tt
peripheral_ends (Some step) t = tt
peripheral_ends None t = tt

code_collides : (end : End) (code : ErrCode) → IsNoPassed end → code_of_end end ≡ Some code → EndsByCollision (Some code)
code_collides Open code h is = absurd (cc)
code_collides InstantPassed code h is = absurd h
code_collides (Collided SameKind) code h is = subst EndsByCollision is (inl refl)
code_collides (Collided reason) code h is = subst EndsByCollision is (inr refl)

-- ---- a table

not_full : (b c : Bool) (n : ℕ) → n ≤ 15 → (b && nat_le 16 n && c) ≡ false
not_full b c n less = by b (nat_le 16 n) refl
  where
    by : (x full : Bool) → nat_le 16 n ≡ full → (x && full && c) ≡ false
    by false full is = refl
    by true false is = refl
    by true true is = let more = leb-true 16 n is in absurd (omega (arith, more, less))

module _ (f : TableFacts) (slot : ℕ) (quiet : Bool) (room : waiting_in f.queue ≤ 15) where
  pub has_room : (read : CtrlRead) → lacks_room f (outcome_of f quiet read) ≡ false
  has_room read =
      not_full (is_open f.closing) (has_reply (outcome_of f quiet read).reply || asks_host (outcome_of f quiet read).step.effect) (waiting_in f.queue) room

  step_is : (read : CtrlRead) → (took_step f read slot quiet).1 ≡ (outcome_of f quiet read).step
  step_is read = step_of_settled f slot (outcome_of f quiet read) (is_some (outcome_of f quiet read).step.ends) (has_room read) refl

  terminate_goes : (p : Progress) (code : ℕ) → (taken_by p f quiet (TerminateInd code)).step.ends ≡ None
  terminate_goes (central c) code = refl
  terminate_goes (peripheral p) code = refl

  -- it ends the link only for a collision
  pub table_ends : (read : CtrlRead) (code : ErrCode) → (took_step f read slot quiet).1.ends ≡ Some code → EndsByCollision (Some code)
  table_ends read code is = by (stops_run read) refl
    where
      stopping : (read : CtrlRead) → stops_run read ≡ true → (took_step f read slot quiet).1.ends ≡ Some code → EndsByCollision (Some code)
      stopping (Known (TerminateInd reason)) stops is =
          absurd (none_and_some (sym (ap (λ (s : the_step). s.ends) (step_is (Known (TerminateInd reason))) ∙ terminate_goes f.progress reason) ∙ is))
        where
          none_and_some : {A : ErrCode} → None ≡ Some A → ⊥
          none_and_some is = absurd (cc)
      stopping read stops is = absurd (cc)

      going : (p : Progress) → f.progress ≡ p → stops_run read ≡ false → EndsByCollision (Some code)
      going (central c) at goes =
          code_collides _ code (central_ends (CentralPart.step_of_read f.progress read) (CentralPart.central_of f))
          (sym (CentralTaking.took f c read slot quiet at (has_room read) goes).ends ∙ is)
      going (peripheral p) at goes =
          code_collides _ code (peripheral_ends (PeripheralPart.step_of_read f.progress read) (PeripheralPart.peripheral_of f))
          (sym (PeripheralTaking.took f p read slot quiet at (has_room read) goes).ends ∙ is)

      by : (stops : Bool) → stops_run read ≡ stops → EndsByCollision (Some code)
      by true stops = stopping read stops is
      by false stops = going f.progress refl stops

-- ---- an end with its track

-- an indication of a central that comes after its Instant
pub record IsLate (read : CtrlRead) (quiet : Bool) (c : Control) : Type 0 where
  pub indication : Indication
  pub role : role_of c.table.progress ≡ peripheral_role
  pub ends : (outcome_of c.table quiet read).step.ends ≡ None
  pub effect : indicated_by (outcome_of c.table quiet read).step.effect ≡ Some indication
  pub passed : is_to_come c.track indication ≡ false

pub data TakenEnd (read : CtrlRead) (quiet : Bool) (c : Control) : Option ErrCode → Type 0 where
  no_end : TakenEnd read quiet c None
  by_collision : (code : ErrCode) → EndsByCollision (Some code) → TakenEnd read quiet c (Some code)
  too_late : IsLate read quiet c → TakenEnd read quiet c (Some (record { 0 = instant_passed }))

pub takes_end : (read : CtrlRead) (slot : ℕ) (quiet : Bool) (c : Control) → c.ends ≡ None → waiting_in c.table.queue ≤ 15
    → TakenEnd read quiet c (after (Takes read slot quiet) c).ends
takes_end read slot quiet c lasts room =
    open_step (λ (d : Control). TakenEnd read quiet c d.ends) (Takes read slot quiet) c lasts
    (by (took_step c.table read slot quiet).1.ends (indicated_by (took_step c.table read slot quiet).1.effect) refl refl)
  where
    same : (took_step c.table read slot quiet).1 ≡ (outcome_of c.table quiet read).step
    same = step_is c.table slot quiet room read

    handed : (indication : Indication) (p q : Progress) (o : Option Indication) → o ≡ Some indication → Hands o p q → role_of p ≡ peripheral_role
    handed indication p q None is h = absurd (cc)
    handed indication p q (Some other) is h = h.here

    by : (code : Option ErrCode) (indication : Option Indication) → (took_step c.table read slot quiet).1.ends ≡ code → indicated_by (took_step c.table read slot quiet).1.effect ≡ indication
        → TakenEnd read quiet c (taken (took_step c.table read slot quiet).0 code indication c).ends
    by (Some code) indication ends effect = by_collision code (table_ends c.table slot quiet room read code ends)
    by None None ends effect = subst (TakenEnd read quiet c) (sym lasts) no_end
    by None (Some indication) ends effect = timed (is_to_come c.track indication) refl
      where
        timed : (b : Bool) → is_to_come c.track indication ≡ b
            → TakenEnd read quiet c (if b then record c { table = (took_step c.table read slot quiet).0; track = track_after_take c.track indication } else ended (record { 0 = instant_passed }) c).ends
        timed true is = subst (TakenEnd read quiet c) (sym lasts) no_end
        timed false is =
            too_late (record {
              indication = indication;
              role = handed indication c.table.progress _ (indicated_by (outcome_of c.table quiet read).step.effect) (ap (λ (s : the_step). indicated_by s.effect) (sym same) ∙ effect)
                  (fits c.table quiet read).hands;
              ends = ap (λ (s : the_step). s.ends) (sym same) ∙ ends;
              effect = ap (λ (s : the_step). indicated_by s.effect) (sym same) ∙ effect;
              passed = is;
            })
