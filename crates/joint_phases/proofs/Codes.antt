-- A link ends by a message integrity failure only where a phase forbids a PDU.
use Rattle.std.proofs.Common.{◌≡◌, ℕ, Bool, true, false, ◌||◌, Option, Some, None, is_some, refl, if◌then◌else◌}
use Rattle.ble_base.specs.ErrorCodes.{instant_passed}
use Rattle.ble_base.specs.declared.error_codes.ErrCode.{ErrCode}
use Rattle.ble_base.specs.declared.procedure_kinds.Kind.{Kind}
use Rattle.ble_base.specs.declared.procedure_kinds.Kind.TheVariants.{Map as map_kind, Phy, Request}
use Rattle.data_pdu.specs.declared.ctrl.Ctrl.{Ctrl}
use Rattle.data_pdu.specs.declared.ctrl.Ctrl.TheVariants.{ChannelMapInd, ConnectionParamReq, ConnectionUpdateInd, EncReq, EncRsp, FeatureRsp, LengthRsp, PauseEncRsp, PhyReq, PhyRsp, PhyUpdateInd, RejectExtInd, RejectInd, StartEncReq, StartEncRsp, UnknownRsp}
use Rattle.data_pdu.specs.declared.ctrl.CtrlRead.{CtrlRead}
use Rattle.data_pdu.specs.declared.ctrl.CtrlRead.TheVariants.{Bare, Known, Unknown}
use Rattle.exclusive_stages.specs.Awaited.{awaits_phy_ind, awaits_phy_rsp, central_answered, has_phy_of_central, peer_answered, reads_as_answer}
use Rattle.instants.specs.declared.indications.Indication.{Indication}
use Rattle.instants.specs.Track.{track_after_take}
use Rattle.joint_controls.specs.procedure_values.Asks.{is_same_kind}
use Rattle.joint_controls.specs.procedure_values.Values.{are_valid}
use Rattle.joint_controls.specs.procedure_stages.declared.stages.Ahead.{Ahead}
use Rattle.joint_controls.specs.procedure_stages.declared.stages.Ahead.TheVariants.{Map as map_ahead, Nothing as nothing_ahead, Update as update_ahead}
use Rattle.joint_controls.specs.procedure_stages.declared.stages.Central.{Central}
use Rattle.joint_controls.specs.procedure_stages.declared.stages.Peripheral.{Peripheral}
use Rattle.joint_controls.specs.procedure_stages.declared.stages.Progress.{Progress}
use Rattle.joint_controls.specs.procedure_stages.declared.stages.Progress.TheVariants.{Central as central, Peripheral as peripheral}
use Rattle.joint_controls.specs.procedure_stages.declared.steps.Step.{Step}
use Rattle.joint_controls.specs.procedure_stages.Awaited.{awaits_features, awaits_lengths, is_own_encryption}
use Rattle.joint_controls.specs.procedure_stages.Collisions.{are_incompatible, collision, collision_code}
use Rattle.joint_controls.specs.procedure_stages.Exclusive.{central_stage, peripheral_stage}
use Rattle.joint_controls.specs.procedure_stages.Kinds.{kind_at_central, kind_at_peripheral, own_exchange}
use Rattle.joint_controls.specs.procedure_stages.Opcodes.{connection_param_req_opcode, first_opcode, is_opcode, later_opcode, phy_req_opcode}
use Rattle.joint_controls.specs.procedures.declared.outcome.Outcome.{Outcome}
use Rattle.joint_controls.specs.procedures.Refusals.{refused_if}
use Rattle.joint_controls.specs.procedures.Request.{after_grant, collided, outlived, request_judged}
use Rattle.joint_controls.specs.procedures.Table.{TableFacts}
use Rattle.joint_controls.specs.procedures.Taking.{facts_with, lacks_room, outcome_of, taken_by, taken_by_either}
use Rattle.joint_controls.specs.procedures.Update.{follow}
use Rattle.joint_controls.specs.control_model.Control.{Control, ended, indicated_by, is_to_come, taken, took}
use Rattle.joint_phases.specs.Agreement.{is_integrity_failure}
use Rattle.joint_controls.proofs.control_model.Calls.{settled_as, taken_by_step}

-- ---- a PDU that the table sees

abbrev Spares : Outcome → Type 0
Spares o = is_integrity_failure o.step.ends ≡ false

spares_if : (b : Bool) (x y : Outcome) → Spares x → Spares y → Spares (if b then x else y)
spares_if true x y hx hy = hx
spares_if false x y hx hy = hy

collision_by : (same incompatible : Bool) (p q : Kind) → is_same_kind p q ≡ same → is_integrity_failure (if incompatible then Some (collision_code p q) else None) ≡ false
collision_by true true p q at = rw at refl
collision_by false true p q at = rw at refl
collision_by same false p q at = refl

collision_spares : (own : Option Kind) (kind : Kind) → is_integrity_failure (collision own kind) ≡ false
collision_spares None kind = refl
collision_spares (Some own) kind = collision_by (is_same_kind own kind) (are_incompatible own kind) own kind refl

module _ (f : TableFacts) where
  refused_spares : (is_one : Bool) (code : ErrCode) → Spares (refused_if is_one f code)
  refused_spares true code = refl
  refused_spares false code = refl

  collided_spares : (answered : Bool) (opcode : ℕ) (code : Option ErrCode) (other : Outcome) → is_integrity_failure code ≡ false → Spares other → Spares (collided f answered opcode code other)
  collided_spares answered opcode None other not_mic h = h
  collided_spares true opcode (Some code) other not_mic h = not_mic
  collided_spares false opcode (Some code) other not_mic h = refl

  outlived_spares : (code : Option ErrCode) (other : Outcome) → is_integrity_failure code ≡ false → Spares other → Spares (outlived f code other)
  outlived_spares None other not_mic h = h
  outlived_spares (Some code) other not_mic h = not_mic

  grant_spares : (p : Peripheral) (kind : Kind) (other : Outcome) → Spares other → Spares (after_grant f p kind other)
  grant_spares p kind other h =
      spares_if (central_answered (peripheral_stage p.own)) _ _
      (outlived_spares (collision (kind_at_peripheral p.own) kind) other (collision_spares (kind_at_peripheral p.own) kind) h) h

  follow_update : (waiting : Ahead) (other : Outcome) → Spares other → Spares (follow f waiting update_ahead other)
  follow_update nothing_ahead other h = h
  follow_update update_ahead other h = refl
  follow_update map_ahead other h = refl

  follow_map : (waiting : Ahead) (other : Outcome) → Spares other → Spares (follow f waiting map_ahead other)
  follow_map nothing_ahead other h = h
  follow_map update_ahead other h = refl
  follow_map map_ahead other h = refl

  either_spares : (ctrl : Ctrl) → Spares (taken_by_either f ctrl)
  either_spares (UnknownRsp opcode) = refused_spares (is_opcode (first_opcode f.progress) opcode) _
  either_spares (FeatureRsp features) = spares_if (awaits_features (own_exchange f.progress)) _ _ refl refl
  either_spares (RejectInd code) = refused_spares (is_some (first_opcode f.progress)) _
  either_spares (RejectExtInd opcode code) = refused_spares (is_opcode (first_opcode f.progress) opcode || is_opcode (later_opcode f.progress) opcode) _
  either_spares (LengthRsp rx rx_time tx tx_time) = spares_if (awaits_lengths (own_exchange f.progress)) _ _ refl refl
  either_spares ctrl = refl

  central_spares : (c : Central) (quiet : Bool) (ctrl : Ctrl) → Spares (taken_by (central c) f quiet ctrl)
  central_spares c true (EncRsp skd_s iv_s) = refl
  central_spares c false (EncRsp skd_s iv_s) = refl
  central_spares c true StartEncReq = refl
  central_spares c false StartEncReq = refl
  central_spares c true PauseEncRsp = refl
  central_spares c false PauseEncRsp = refl
  central_spares c true StartEncRsp = refl
  central_spares c false StartEncRsp = spares_if (is_own_encryption c.own) _ _ refl refl
  central_spares c quiet (ConnectionParamReq min max latency timeout periodicity reference offsets) =
      collided_spares (peer_answered (central_stage c.own)) connection_param_req_opcode (collision (kind_at_central c.own) Request) (request_judged f c min max latency timeout)
      (collision_spares (kind_at_central c.own) Request) (spares_if (are_valid min max latency timeout) _ _ refl refl)
  central_spares c quiet (PhyReq tx rx) =
      collided_spares (peer_answered (central_stage c.own)) phy_req_opcode (collision (kind_at_central c.own) Phy) _ (collision_spares (kind_at_central c.own) Phy) refl
  central_spares c quiet (PhyRsp tx rx) = spares_if (awaits_phy_rsp (central_stage c.own)) _ _ refl refl
  central_spares c quiet (UnknownRsp opcode) = either_spares (UnknownRsp opcode)
  central_spares c quiet (FeatureRsp features) = either_spares (FeatureRsp features)
  central_spares c quiet (RejectInd code) = either_spares (RejectInd code)
  central_spares c quiet (RejectExtInd opcode code) = either_spares (RejectExtInd opcode code)
  central_spares c quiet (LengthRsp rx rx_time tx tx_time) = either_spares (LengthRsp rx rx_time tx tx_time)
  central_spares c quiet ctrl = refl

  peripheral_spares : (p : Peripheral) (quiet : Bool) (ctrl : Ctrl) → Spares (taken_by (peripheral p) f quiet ctrl)
  peripheral_spares p quiet (ConnectionUpdateInd win_size win_offset interval latency timeout instant) =
      follow_update p.ahead _ (spares_if (reads_as_answer (peripheral_stage p.own)) _ _ refl refl)
  peripheral_spares p quiet (ChannelMapInd map instant) = grant_spares p map_kind _ (follow_map p.ahead _ refl)
  peripheral_spares p quiet (EncReq rand ediv skd_m iv_m) = refl
  peripheral_spares p true PauseEncRsp = refl
  peripheral_spares p false PauseEncRsp = refl
  peripheral_spares p true StartEncRsp = refl
  peripheral_spares p false StartEncRsp = refl
  peripheral_spares p quiet (PhyReq tx rx) = grant_spares p Phy _ refl
  peripheral_spares p quiet (PhyUpdateInd to_peripheral to_central instant) =
      spares_if (has_phy_of_central p.peer) _ _ refl (spares_if (awaits_phy_ind (peripheral_stage p.own)) _ _ refl refl)
  peripheral_spares p quiet (UnknownRsp opcode) = either_spares (UnknownRsp opcode)
  peripheral_spares p quiet (FeatureRsp features) = either_spares (FeatureRsp features)
  peripheral_spares p quiet (RejectInd code) = either_spares (RejectInd code)
  peripheral_spares p quiet (RejectExtInd opcode code) = either_spares (RejectExtInd opcode code)
  peripheral_spares p quiet (LengthRsp rx rx_time tx tx_time) = either_spares (LengthRsp rx rx_time tx tx_time)
  peripheral_spares p quiet ctrl = refl

  by_role : (q : Progress) (quiet : Bool) (ctrl : Ctrl) → Spares (taken_by q f quiet ctrl)
  by_role (central c) quiet ctrl = central_spares c quiet ctrl
  by_role (peripheral p) quiet ctrl = peripheral_spares p quiet ctrl

  outcome_spares : (quiet : Bool) (read : CtrlRead) → Spares (outcome_of f quiet read)
  outcome_spares quiet (Known ctrl) = by_role f.progress quiet ctrl
  outcome_spares quiet (Unknown opcode) = refl
  outcome_spares quiet Bare = refl

-- ---- the control part

module _ (c : Control) (read : CtrlRead) (slot : ℕ) (quiet : Bool) (before : is_integrity_failure c.ends ≡ false) where
  abbrev o : Outcome
  o = outcome_of c.table quiet read

  handed : (indication : Option Indication) (g : TableFacts) → is_integrity_failure (taken g None indication c).ends ≡ false
  handed None g = before
  handed (Some indication) g = by (is_to_come c.track indication)
    where
      by : (b : Bool) → is_integrity_failure (if b then record c { table = g; track = track_after_take c.track indication } else ended (record { 0 = instant_passed }) c).ends ≡ false
      by true = before
      by false = refl

  by_ends : (full : Bool) (code : Option ErrCode) (step : Step) (g : TableFacts) → step.ends ≡ code → is_integrity_failure code ≡ false
      → is_integrity_failure (taken_by_step (settled_as full code c.table g step) c).ends ≡ false
  by_ends true code step g at not_mic = refl
  by_ends false (Some code) step g at not_mic = rw at not_mic
  by_ends false None step g at not_mic = rw at (handed (indicated_by step.effect) g)

  pub took_spares : is_integrity_failure (took read slot quiet c).ends ≡ false
  took_spares = by_ends (lacks_room c.table o) o.step.ends o.step (facts_with c.table slot o) refl (outcome_spares c.table quiet read)
