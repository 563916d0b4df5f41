-- A control PDU of the peer is taken: what its outcome leaves open.
use Rattle.std.proofs.Common.{◌≡◌, ℕ, Bool, true, false, ◌||◌, Option, Some, None, is_some, refl, sym, ◌∙◌, if◌then◌else◌}
use Rattle.ble_base.specs.declared.procedure_kinds.Kind.{Kind}
use Rattle.joint_controls.proofs.control_model.Calls.{settled_as, taken_by_step}
use Rattle.exclusive_stages.specs.Awaited.{awaits_phy_ind, awaits_phy_rsp, central_answered, has_phy_of_central, peer_answered, reads_as_answer}
use Rattle.joint_controls.specs.procedure_stages.declared.stages.Ahead.{Ahead}
use Rattle.joint_controls.specs.procedure_stages.declared.stages.Ahead.TheVariants.{Map as map_ahead, Nothing as nothing_ahead, Update as update_ahead}
use Rattle.joint_controls.specs.procedure_stages.Awaited.{awaits_features, awaits_lengths}
use Rattle.joint_controls.specs.procedure_stages.Collisions.{collision}
use Rattle.joint_controls.specs.procedure_stages.Exclusive.{central_stage, peripheral_stage}
use Rattle.joint_controls.specs.procedure_stages.Kinds.{kind_at_central, kind_at_peripheral, own_exchange}
use Rattle.joint_controls.specs.procedure_stages.Opcodes.{connection_param_req_opcode, first_opcode, is_opcode, later_opcode, phy_req_opcode}
use Rattle.joint_controls.specs.procedure_values.Values.{are_valid}
use Rattle.joint_controls.specs.procedures.Refusals.{refused_if}
use Rattle.joint_controls.specs.procedures.Request.{after_grant, collided, outlived, request_judged}
use Rattle.joint_controls.specs.procedures.Update.{follow}
use Rattle.std.proofs.lemmas.Bool.{false_from_ne_true}
use Rattle.ble_base.specs.declared.error_codes.ErrCode.{ErrCode}
use Rattle.ble_base.specs.declared.procedure_kinds.Kind.TheVariants.{Map as map_kind, Phy, Request}
use Rattle.data_pdu.specs.declared.ctrl.Ctrl.{Ctrl}
use Rattle.data_pdu.specs.declared.ctrl.Ctrl.TheVariants.{ChannelMapInd, ConnectionParamReq, ConnectionUpdateInd, EncReq, EncRsp, FeatureRsp, LengthRsp, PauseEncRsp, PhyReq, PhyRsp, PhyUpdateInd, RejectExtInd, RejectInd, StartEncReq, StartEncRsp, TerminateInd, UnknownRsp}
use Rattle.data_pdu.specs.declared.ctrl.CtrlRead.{CtrlRead}
use Rattle.data_pdu.specs.declared.ctrl.CtrlRead.TheVariants.{Known}
use Rattle.joint_controls.specs.procedure_stages.declared.closing.Closing.{Closing}
use Rattle.joint_controls.specs.procedure_stages.declared.stages.Central.{Central}
use Rattle.joint_controls.specs.procedure_stages.declared.stages.Peripheral.{Peripheral}
use Rattle.joint_controls.specs.procedure_stages.declared.stages.Progress.{Progress}
use Rattle.joint_controls.specs.procedure_stages.declared.stages.Progress.TheVariants.{Central as central, Peripheral as peripheral}
use Rattle.joint_controls.specs.procedure_stages.declared.steps.Step.{Step}
use Rattle.joint_controls.specs.procedure_stages.Steps.{closing_after}
use Rattle.joint_controls.specs.procedures.declared.outcome.Outcome.{Outcome}
use Rattle.joint_controls.specs.procedures.Calls.{takes}
use Rattle.joint_controls.specs.procedures.Table.{TableFacts}
use Rattle.joint_controls.specs.procedures.Taking.{facts_with, lacks_room, outcome_of, taken_by, taken_by_either, took_step}
use Rattle.joint_controls.specs.table_laws.Encrypting.{MayBeginBy, has_encryption}
use Rattle.joint_controls.proofs.table_laws.Encrypting.{begins_by}
use Rattle.joint_controls.specs.control_model.Control.{Control, ended, indicated_by, taken, took}
use Rattle.joint_controls.specs.Joint.{is_terminate}

-- ---- the link goes on, with the table that the outcome says

module _ (P : Control → Type 0) (c : Control) (read : CtrlRead) (slot : ℕ) (quiet : Bool) where
  abbrev outcome : Outcome
  outcome = outcome_of c.table quiet read

  goes_by : (full : Bool) (code : Option ErrCode) (step : Step) (g : TableFacts) → lacks_room c.table outcome ≡ full → step.ends ≡ code
      → ((e : ErrCode) → P (ended e c))
      → (lacks_room c.table outcome ≡ false → step.ends ≡ None → P (taken g None (indicated_by step.effect) c))
      → P (taken_by_step (settled_as full code c.table g step) c)
  goes_by true code step g full ends stops goes = stops _
  goes_by false (Some code) step g full ends stops goes = rw ends (stops code)
  goes_by false None step g full ends stops goes = rw ends (goes full ends)

  pub took_goes : ((e : ErrCode) → P (ended e c))
      → (lacks_room c.table outcome ≡ false → outcome.step.ends ≡ None
      → P (taken (facts_with c.table slot outcome) None (indicated_by outcome.step.effect) c))
      → P (took read slot quiet c)
  took_goes stops goes =
      goes_by (lacks_room c.table outcome) outcome.step.ends outcome.step (facts_with c.table slot outcome) refl refl stops goes

-- an encryption does not begin by a PDU at a central
module _ (f : TableFacts) (read : CtrlRead) (slot : ℕ) (quiet : Bool) where
  abbrev outcome_here : Outcome
  outcome_here = outcome_of f quiet read

  settled_goes : (full : Bool) (code : Option ErrCode) → lacks_room f outcome_here ≡ full → outcome_here.step.ends ≡ code → full ≡ false → code ≡ None
      → has_encryption (took_step f read slot quiet).0.progress ≡ has_encryption outcome_here.progress
  settled_goes full code at_full at_code no_full no_code =
      let one : lacks_room f outcome_here ≡ false = at_full ∙ no_full in
      let two : outcome_here.step.ends ≡ None = at_code ∙ no_code in
      λ i. has_encryption (settled_as (one i) (two i) f (facts_with f slot outcome_here) outcome_here.step).0.progress

  pub none_begins : lacks_room f outcome_here ≡ false → outcome_here.step.ends ≡ None → (MayBeginBy f.progress (takes read slot quiet) → ⊥)
      → has_encryption f.progress ≡ false → has_encryption outcome_here.progress ≡ false
  none_begins full ends apart none =
      sym (settled_goes _ _ refl refl full ends)
      ∙ false_from_ne_true _ (λ h. apart (begins_by f (takes read slot quiet) none h))

-- ---- no PDU but LL_TERMINATE_IND says that the link is to end

abbrev IsOpen : Outcome → Type 0
IsOpen o = (closing : Closing) → closing_after o.step.effect closing ≡ closing

open_if : (b : Bool) (x y : Outcome) → IsOpen x → IsOpen y → IsOpen (if b then x else y)
open_if true x y hx hy = hx
open_if false x y hx hy = hy

module _ (f : TableFacts) where
  refused_open : (is_one : Bool) (code : ErrCode) → IsOpen (refused_if is_one f code)
  refused_open true code closing = refl
  refused_open false code closing = refl

  either_open : (ctrl : Ctrl) → is_terminate ctrl ≡ false → IsOpen (taken_by_either f ctrl)
  either_open (TerminateInd code) apart closing = absurd (cc)
  either_open (UnknownRsp opcode) apart closing = refused_open (is_opcode (first_opcode f.progress) opcode) _ closing
  either_open (FeatureRsp features) apart closing = open_if (awaits_features (own_exchange f.progress)) _ _ (λ cl. refl) (λ cl. refl) closing
  either_open (RejectInd code) apart closing = refused_open (is_some (first_opcode f.progress)) _ closing
  either_open (RejectExtInd opcode code) apart closing = refused_open (is_opcode (first_opcode f.progress) opcode || is_opcode (later_opcode f.progress) opcode) _ closing
  either_open (LengthRsp rx rx_time tx tx_time) apart closing = open_if (awaits_lengths (own_exchange f.progress)) _ _ (λ cl. refl) (λ cl. refl) closing
  either_open ctrl apart closing = refl

  collided_open : (answered : Bool) (opcode : ℕ) (code : Option ErrCode) (other : Outcome) → IsOpen other → IsOpen (collided f answered opcode code other)
  collided_open answered opcode None other h = h
  collided_open true opcode (Some code) other h = λ cl. refl
  collided_open false opcode (Some code) other h = λ cl. refl

  central_open : (c : Central) (quiet : Bool) (ctrl : Ctrl) → is_terminate ctrl ≡ false → IsOpen (taken_by (central c) f quiet ctrl)
  central_open c true (EncRsp skd_s iv_s) apart closing = refl
  central_open c false (EncRsp skd_s iv_s) apart closing = refl
  central_open c true StartEncReq apart closing = refl
  central_open c false StartEncReq apart closing = refl
  central_open c true PauseEncRsp apart closing = refl
  central_open c false PauseEncRsp apart closing = refl
  central_open c true StartEncRsp apart closing = refl
  central_open c false StartEncRsp apart closing = refl
  central_open c quiet (ConnectionParamReq min max latency timeout periodicity reference offsets) apart closing =
      collided_open (peer_answered (central_stage c.own)) connection_param_req_opcode (collision (kind_at_central c.own) Request) (request_judged f c min max latency timeout)
      (open_if (are_valid min max latency timeout) _ _ (λ cl. refl) (λ cl. refl)) closing
  central_open c quiet (PhyReq tx rx) apart closing =
      collided_open (peer_answered (central_stage c.own)) phy_req_opcode (collision (kind_at_central c.own) Phy) _ (λ cl. refl) closing
  central_open c quiet (PhyRsp tx rx) apart closing = open_if (awaits_phy_rsp (central_stage c.own)) _ _ (λ cl. refl) (λ cl. refl) closing
  central_open c quiet (TerminateInd code) apart closing = absurd (cc)
  central_open c quiet (UnknownRsp opcode) apart closing = either_open (UnknownRsp opcode) refl closing
  central_open c quiet (FeatureRsp features) apart closing = either_open (FeatureRsp features) refl closing
  central_open c quiet (RejectInd code) apart closing = either_open (RejectInd code) refl closing
  central_open c quiet (RejectExtInd opcode code) apart closing = either_open (RejectExtInd opcode code) refl closing
  central_open c quiet (LengthRsp rx rx_time tx tx_time) apart closing = either_open (LengthRsp rx rx_time tx tx_time) refl closing
  central_open c quiet ctrl apart closing = refl

  follow_open : (waiting new : Ahead) (other : Outcome) → IsOpen other → IsOpen (follow f waiting new other)
  follow_open nothing_ahead new other h = h
  follow_open update_ahead new other h = λ cl. refl
  follow_open map_ahead new other h = λ cl. refl

  outlived_open : (code : Option ErrCode) (other : Outcome) → IsOpen other → IsOpen (outlived f code other)
  outlived_open None other h = h
  outlived_open (Some code) other h = λ cl. refl

  grant_open : (p : Peripheral) (kind : Kind) (other : Outcome) → IsOpen other → IsOpen (after_grant f p kind other)
  grant_open p kind other h = open_if (central_answered (peripheral_stage p.own)) _ _ (outlived_open (collision (kind_at_peripheral p.own) kind) other h) h

  peripheral_open : (p : Peripheral) (quiet : Bool) (ctrl : Ctrl) → is_terminate ctrl ≡ false → IsOpen (taken_by (peripheral p) f quiet ctrl)
  peripheral_open p quiet (ConnectionUpdateInd win_size win_offset interval latency timeout instant) apart closing =
      follow_open p.ahead update_ahead _ (open_if (reads_as_answer (peripheral_stage p.own)) _ _ (λ cl. refl) (λ cl. refl)) closing
  peripheral_open p quiet (ChannelMapInd map instant) apart closing =
      grant_open p map_kind _ (follow_open p.ahead map_ahead _ (λ cl. refl)) closing
  peripheral_open p quiet (EncReq rand ediv skd_m iv_m) apart closing = refl
  peripheral_open p true PauseEncRsp apart closing = refl
  peripheral_open p false PauseEncRsp apart closing = refl
  peripheral_open p true StartEncRsp apart closing = refl
  peripheral_open p false StartEncRsp apart closing = refl
  peripheral_open p quiet (PhyReq tx rx) apart closing = grant_open p Phy _ (λ cl. refl) closing
  peripheral_open p quiet (PhyUpdateInd to_peripheral to_central instant) apart closing =
      open_if (has_phy_of_central p.peer) _ _ (λ cl. refl) (open_if (awaits_phy_ind (peripheral_stage p.own)) _ _ (λ cl. refl) (λ cl. refl)) closing
  peripheral_open p quiet (TerminateInd code) apart closing = absurd (cc)
  peripheral_open p quiet (UnknownRsp opcode) apart closing = either_open (UnknownRsp opcode) refl closing
  peripheral_open p quiet (FeatureRsp features) apart closing = either_open (FeatureRsp features) refl closing
  peripheral_open p quiet (RejectInd code) apart closing = either_open (RejectInd code) refl closing
  peripheral_open p quiet (RejectExtInd opcode code) apart closing = either_open (RejectExtInd opcode code) refl closing
  peripheral_open p quiet (LengthRsp rx rx_time tx tx_time) apart closing = either_open (LengthRsp rx rx_time tx tx_time) refl closing
  peripheral_open p quiet ctrl apart closing = refl

  open_by : (p : Progress) (quiet : Bool) (ctrl : Ctrl) → is_terminate ctrl ≡ false → IsOpen (taken_by p f quiet ctrl)
  open_by (central c) quiet ctrl apart = central_open c quiet ctrl apart
  open_by (peripheral p) quiet ctrl apart = peripheral_open p quiet ctrl apart

  pub keeps_open : (quiet : Bool) (ctrl : Ctrl) → is_terminate ctrl ≡ false → (closing : Closing)
      → closing_after (outcome_of f quiet (Known ctrl)).step.effect closing ≡ closing
  keeps_open quiet ctrl apart = open_by f.progress quiet ctrl apart
