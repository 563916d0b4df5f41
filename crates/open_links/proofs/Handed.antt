-- An indication that an end takes from the peer leaves an interval of at least 6 slots (Core 5.2, volume 6 part B,
-- sections 2.4.2.1 and 4.5.1).
use Rattle.std.proofs.Common.{◌≤◌, ℕ, Bool, true, false, ◌||◌, if◌then◌else◌, Option, Some, None, IfSome, is_some}
use Rattle.std.specs.Bool.{⊤}
use Rattle.ble_base.specs.declared.error_codes.ErrCode.{ErrCode}
use Rattle.ble_base.specs.declared.procedure_kinds.Kind.{Kind}
use Rattle.ble_base.specs.declared.procedure_kinds.Kind.TheVariants.{Map as map_kind, Phy, Request}
use Rattle.data_pdu.specs.Ranges.{IsInRange}
use Rattle.data_pdu.specs.Reading.{IfKnown}
use Rattle.data_pdu.specs.declared.ctrl.Ctrl.{Ctrl}
use Rattle.data_pdu.specs.declared.ctrl.Ctrl.TheVariants.{TerminateInd, UnknownRsp, FeatureRsp, VersionInd, RejectInd, RejectExtInd, LengthReq, LengthRsp, ConnectionUpdateInd, ChannelMapInd, EncReq, EncRsp, StartEncReq, StartEncRsp, FeatureReq, PauseEncReq, PauseEncRsp, PeripheralFeatureReq, ConnectionParamReq, PhyReq, PhyRsp, PhyUpdateInd}
use Rattle.data_pdu.specs.declared.ctrl.CtrlRead.{CtrlRead}
use Rattle.data_pdu.specs.declared.ctrl.CtrlRead.TheVariants.{Known, Unknown, Bare}
use Rattle.procedures.specs.procedure_values.Values.{are_valid}
use Rattle.procedures.specs.procedure_stages.Awaited.{awaits_features, awaits_lengths}
use Rattle.procedures.specs.procedure_stages.Collisions.{collision}
use Rattle.procedures.specs.procedure_stages.Exclusive.{central_stage, peripheral_stage}
use Rattle.procedures.specs.procedure_stages.Foreign.{is_foreign}
use Rattle.procedures.specs.procedure_stages.Kinds.{kind_at_central, kind_at_peripheral, own_exchange, role_of}
use Rattle.procedures.specs.procedure_stages.Opcodes.{connection_param_req_opcode, first_opcode, later_opcode, is_opcode, phy_req_opcode}
use Rattle.procedures.specs.procedure_stages.declared.stages.Ahead.{Ahead}
use Rattle.procedures.specs.procedure_stages.declared.stages.Ahead.TheVariants.{Nothing, Update as update_ahead, Map as map_ahead}
use Rattle.procedures.specs.procedure_stages.declared.stages.Central.{Central}
use Rattle.procedures.specs.procedure_stages.declared.stages.Peripheral.{Peripheral}
use Rattle.procedures.specs.procedure_stages.declared.stages.Progress.{Progress}
use Rattle.procedures.specs.procedure_stages.declared.stages.Progress.TheVariants.{Central as central, Peripheral as peripheral}
use Rattle.procedures.specs.procedure_stages.declared.steps.Step.{Step}
use Rattle.exclusive_stages.specs.Awaited.{awaits_phy_ind, awaits_phy_rsp, central_answered, has_phy_of_central, peer_answered, reads_as_answer}
use Rattle.procedures.specs.declared.outcome.Outcome.{Outcome}
use Rattle.procedures.specs.Encryption.{start_rsp_at_central}
use Rattle.procedures.specs.Refusals.{refused_if}
use Rattle.procedures.specs.Request.{after_grant, against_central, collided, outlived}
use Rattle.procedures.specs.Table.{TableFacts}
use Rattle.procedures.specs.Taking.{facts_with, lacks_room, no_room, outcome_of, taken_by_role, taken_by_central, taken_by_either, taken_by_peripheral, took_step}
use Rattle.procedures.specs.Update.{follow}
use Rattle.two_tracks.specs.TwoEnds.{HasSlots}
use Rattle.link_end.specs.control_model.Control.{indicated_by}
use Rattle.link_end.specs.link_model.Acknowledgement.{Pdu}
use Rattle.link_end.specs.link_model.Controls.{read_of}
use Rattle.link_end.proofs.link_model.ReadRanges.{read_range}

-- ---- what is read of a body is in its range (`ReadRanges` of link_model), so an interval is at least 6 slots

abbrev pub HasInterval : Ctrl → Type 0
HasInterval (ConnectionUpdateInd win_size win_offset interval latency timeout instant) = 6 ≤ interval
HasInterval ctrl = ⊤

range_interval : (ctrl : Ctrl) → IsInRange ctrl → HasInterval ctrl
range_interval (ConnectionUpdateInd win_size win_offset interval latency timeout instant) is = is.interval_from
range_interval ctrl is = tt

read_interval : (read : CtrlRead) → IfKnown read IsInRange → IfKnown read HasInterval
read_interval (Known ctrl) is = range_interval ctrl is
read_interval (Unknown opcode) is = tt
read_interval Bare is = tt

pub pdu_interval : (pdu : Pdu) → IfKnown (read_of pdu) HasInterval
pdu_interval pdu = read_interval (read_of pdu) (read_range pdu)

-- ---- the indication that an outcome hands on

abbrev HandsSlots : Outcome → Type 0
HandsSlots o = IfSome (indicated_by o.step.effect) HasSlots

choice : (b : Bool) (x y : Outcome) → HandsSlots x → HandsSlots y → HandsSlots (if b then x else y)
choice true x y hx hy = hx
choice false x y hx hy = hy

module _ (f : TableFacts) where
  refusal : (b : Bool) (code : ErrCode) → HandsSlots (refused_if b f code)
  refusal true code = tt
  refusal false code = tt

  either : (ctrl : Ctrl) → HandsSlots (taken_by_either f ctrl)
  either (TerminateInd code) = tt
  either (UnknownRsp opcode) = refusal (is_opcode (first_opcode f.progress) opcode) _
  either (FeatureRsp value) = choice (awaits_features (own_exchange f.progress)) _ _ tt tt
  either (VersionInd number company sub) = tt
  either (RejectInd code) = refusal (is_some (first_opcode f.progress)) _
  either (RejectExtInd opcode code) = refusal (is_opcode (first_opcode f.progress) opcode || is_opcode (later_opcode f.progress) opcode) _
  either (LengthReq rx rx_time tx tx_time) = tt
  either (LengthRsp rx rx_time tx tx_time) = choice (awaits_lengths (own_exchange f.progress)) _ _ tt tt
  either other = tt

  -- ---- at a central

  start_rsp : (c : Central) (quiet : Bool) (ctrl : Ctrl) → HandsSlots (start_rsp_at_central f c quiet ctrl)
  start_rsp c true ctrl = tt
  start_rsp c false ctrl = tt

  against : (c : Central) (kind : Kind) (opcode : ℕ) (other : Outcome) → HandsSlots other → HandsSlots (against_central f c kind opcode other)
  against c kind opcode other h = by (peer_answered (central_stage c.own)) (collision (kind_at_central c.own) kind)
    where
      by : (answered : Bool) (code : Option ErrCode) → HandsSlots (collided f answered opcode code other)
      by answered None = h
      by answered (Some code) = choice answered _ _ tt tt

  at_central : (c : Central) (quiet : Bool) (ctrl : Ctrl) → HandsSlots (taken_by_central f c quiet ctrl)
  at_central c quiet (EncRsp skd_s iv_s) = choice quiet _ _ tt tt
  at_central c quiet StartEncReq = choice quiet _ _ tt tt
  at_central c quiet PauseEncRsp = choice quiet _ _ tt tt
  at_central c quiet StartEncRsp = start_rsp c quiet StartEncRsp
  at_central c quiet (PeripheralFeatureReq value) = tt
  at_central c quiet (ConnectionParamReq min max latency timeout periodicity reference offsets) =
      against c Request connection_param_req_opcode _ (choice (are_valid min max latency timeout) _ _ tt tt)
  at_central c quiet (PhyReq tx rx) = against c Phy phy_req_opcode _ tt
  at_central c quiet (PhyRsp tx rx) = choice (awaits_phy_rsp (central_stage c.own)) _ _ tt tt
  at_central c quiet other = either other

  -- ---- at a peripheral

  followed_slots : (ahead new : Ahead) (o : Outcome) → HandsSlots o → HandsSlots (follow f ahead new o)
  followed_slots Nothing new o h = h
  followed_slots update_ahead new o h = tt
  followed_slots map_ahead new o h = tt

  granting : (p : Peripheral) (kind : Kind) (o : Outcome) → HandsSlots o → HandsSlots (after_grant f p kind o)
  granting p kind o h = choice (central_answered (peripheral_stage p.own)) _ _ (by (collision (kind_at_peripheral p.own) kind)) h
    where
      by : (code : Option ErrCode) → HandsSlots (outlived f code o)
      by None = h
      by (Some code) = tt

  at_peripheral : (p : Peripheral) (quiet : Bool) (ctrl : Ctrl) → HasInterval ctrl → HandsSlots (taken_by_peripheral f p quiet ctrl)
  at_peripheral p quiet (ConnectionUpdateInd win_size win_offset interval latency timeout instant) is =
      followed_slots p.ahead update_ahead _ (choice (reads_as_answer (peripheral_stage p.own)) _ _ is is)
  at_peripheral p quiet (ChannelMapInd map instant) is = granting p map_kind _ (followed_slots p.ahead map_ahead _ _)
  at_peripheral p quiet (EncReq rand ediv skd_m iv_m) is = tt
  at_peripheral p quiet PauseEncReq is = tt
  at_peripheral p quiet PauseEncRsp is = choice quiet _ _ tt tt
  at_peripheral p quiet StartEncRsp is = choice quiet _ _ tt tt
  at_peripheral p quiet (FeatureReq value) is = tt
  at_peripheral p quiet (PhyReq tx rx) is = granting p Phy _ tt
  at_peripheral p quiet (PhyUpdateInd to_peripheral to_central instant) is =
      choice (has_phy_of_central p.peer) _ _ tt (choice (awaits_phy_ind (peripheral_stage p.own)) _ _ tt tt)
  at_peripheral p quiet other is = either other

  by_progress : (p : Progress) (quiet : Bool) (ctrl : Ctrl) → HasInterval ctrl → HandsSlots (taken_by_role p f quiet ctrl)
  by_progress (central c) quiet ctrl is = at_central c quiet ctrl
  by_progress (peripheral p) quiet ctrl is = at_peripheral p quiet ctrl is

  outcome_slots : (quiet : Bool) (read : CtrlRead) → IfKnown read HasInterval → HandsSlots (outcome_of f quiet read)
  outcome_slots quiet (Known ctrl) is = choice (is_foreign (role_of f.progress) ctrl) _ _ tt (by_progress f.progress quiet ctrl is)
  outcome_slots quiet (Unknown opcode) is = tt
  outcome_slots quiet Bare is = tt

-- ---- the indication that a table hands on

abbrev StepHandsSlots : TableFacts × Step → Type 0
StepHandsSlots r = IfSome (indicated_by r.1.effect) HasSlots

settled_slots : (full ends : Bool) (f g : TableFacts) (step : Step) → IfSome (indicated_by step.effect) HasSlots
    → StepHandsSlots (if full then (f, no_room) else (if ends then (f, step) else (g, step)))
settled_slots true ends f g step is = tt
settled_slots false true f g step is = is
settled_slots false false f g step is = is

pub took_slots : (f : TableFacts) (read : CtrlRead) (slot : ℕ) (quiet : Bool) → IfKnown read HasInterval
    → IfSome (indicated_by (took_step f read slot quiet).1.effect) HasSlots
took_slots f read slot quiet is =
    let o = outcome_of f quiet read in
    settled_slots (lacks_room f o) (is_some o.step.ends) f (facts_with f slot o) o.step (outcome_slots f quiet read is)
