-- What a control PDU of the peer does to an end fits, by PDU: the answer, the lengths and the indication.
use Rattle.std.proofs.Common.{◌≡◌, ℕ, ◌<◌, Bool, true, false, ◌||◌, if◌then◌else◌, Option, Some, None, is_some, refl, arith}
use Rattle.std.specs.Prelude.{IfSome}
use Rattle.ble_base.specs.ErrorCodes.{different_transaction_collision, ll_procedure_collision}
use Rattle.ble_base.specs.declared.error_codes.ErrCode.{ErrCode}
use Rattle.ble_base.specs.declared.procedure_kinds.Kind.{Kind}
use Rattle.ble_base.specs.declared.procedure_kinds.Kind.TheVariants.{Map as map_kind, Phy, Request}
use Rattle.data_pdu.specs.Layouts.{IsCtrl}
use Rattle.data_pdu.specs.Reading.{opcode_of}
use Rattle.data_pdu.specs.declared.ctrl.Ctrl.{Ctrl}
use Rattle.data_pdu.specs.declared.ctrl.Ctrl.TheVariants.{TerminateInd, UnknownRsp, FeatureRsp, VersionInd, RejectInd, RejectExtInd, LengthReq, LengthRsp, ConnectionUpdateInd, ChannelMapInd, EncReq, EncRsp, StartEncReq, StartEncRsp, FeatureReq, PauseEncReq, PauseEncRsp, PeripheralFeatureReq, ConnectionParamReq, PhyReq, PhyRsp, PhyUpdateInd}
use Rattle.data_pdu.specs.declared.ctrl.CtrlRead.{CtrlRead}
use Rattle.data_pdu.specs.declared.ctrl.CtrlRead.TheVariants.{Known, Unknown, Bare}
use Rattle.instants.specs.declared.indications.Indication.{Indication}
use Rattle.instants.specs.declared.indications.Indication.TheVariants.{Update as update_indication}
use Rattle.control_model.specs.procedure_values.Asks.{is_same_kind}
use Rattle.control_model.specs.procedure_values.Values.{are_valid}
use Rattle.control_model.specs.procedure_stages.Awaited.{awaits_features, awaits_lengths, is_own_encryption}
use Rattle.control_model.specs.procedure_stages.Collisions.{are_incompatible, collision, collision_code}
use Rattle.control_model.specs.procedure_stages.Exclusive.{central_stage, peripheral_stage}
use Rattle.control_model.specs.procedure_stages.Foreign.{is_foreign}
use Rattle.control_model.specs.procedure_stages.Kinds.{kind_at_central, kind_at_peripheral, own_exchange, role_of}
use Rattle.control_model.specs.procedure_stages.Opcodes.{connection_param_req_opcode, first_opcode, later_opcode, is_opcode, phy_req_opcode}
use Rattle.control_model.specs.procedure_stages.declared.stages.Ahead.{Ahead}
use Rattle.control_model.specs.procedure_stages.declared.stages.Ahead.TheVariants.{Nothing, Update as update_ahead, Map as map_ahead}
use Rattle.control_model.specs.procedure_stages.declared.stages.Central.{Central}
use Rattle.control_model.specs.procedure_stages.declared.stages.Peripheral.{Peripheral}
use Rattle.control_model.specs.procedure_stages.declared.stages.Progress.{Progress}
use Rattle.control_model.specs.procedure_stages.declared.stages.Progress.TheVariants.{Central as central, Peripheral as peripheral}
use Rattle.exclusive_stages.specs.Awaited.{awaits_phy_ind, awaits_phy_rsp, central_answered, has_phy_of_central, peer_answered, reads_as_answer}
use Rattle.control_model.specs.procedures.declared.outcome.Outcome.{Outcome}
use Rattle.control_model.specs.procedures.Encryption.{cipher_at_central, start_rsp_at_central}
use Rattle.control_model.specs.procedures.Features.{features_taken}
use Rattle.control_model.specs.procedures.Length.{length_taken}
use Rattle.control_model.specs.procedures.Outcomes.{ended, unchanged, unknown}
use Rattle.control_model.specs.procedures.Phy.{phy_ind_taken}
use Rattle.control_model.specs.procedures.Refusals.{refused_if}
use Rattle.control_model.specs.procedures.Request.{after_grant, against_central, collided, outlived, request_judged}
use Rattle.control_model.specs.procedures.Table.{TableFacts}
use Rattle.control_model.specs.procedures.Taking.{outcome_of, taken_by_role, taken_by_central, taken_by_either, taken_by_peripheral}
use Rattle.control_model.specs.procedures.Update.{follow, update_taken}
use Rattle.control_model.specs.procedures.Version.{version_reply, version_taken}
use Rattle.control_model.specs.Control.{indicated_by}
use Rattle.control_octets.specs.Fitting.{CodeFits, IndicationFits, LengthsFit, ReadFits, TimesFit}
use Rattle.control_octets.proofs.Pdus.{feature_rsp_fits, length_rsp_fits, phy_ind_fits, phy_rsp_fits, unknown_fits, version_fits}
use Rattle.control_octets.proofs.Queues.{ReplyFits}

pub record OutcomeFits (o : Outcome) : Type 0 where
  pub reply : ReplyFits o.reply
  pub lengths : LengthsFit o.lengths
  pub indication : IfSome (indicated_by o.step.effect) IndicationFits

choice : (b : Bool) (x y : Outcome) → OutcomeFits x → OutcomeFits y → OutcomeFits (if b then x else y)
choice true x y hx hy = hx
choice false x y hx hy = hy

-- ---- codes and opcodes

same_or_not : (b : Bool) → CodeFits (if b then record { 0 = ll_procedure_collision } else record { 0 = different_transaction_collision })
same_or_not true = omega arith
same_or_not false = omega arith

collision_fits : (own : Option Kind) (kind : Kind) → IfSome (collision own kind) CodeFits
collision_fits None kind = tt
collision_fits (Some own) kind = by (are_incompatible own kind)
  where
    by : (b : Bool) → IfSome (if b then Some (collision_code own kind) else None) CodeFits
    by true = same_or_not (is_same_kind own kind)
    by false = tt

pub opcode_small : (ctrl : Ctrl) → opcode_of ctrl < 256
opcode_small StartEncReq = omega arith
opcode_small other = omega arith

module _ (f : TableFacts) (l : LengthsFit f.lengths) where
  -- nothing is answered or handed on, and the lengths are as they were
  plain : (o : Outcome) → ReplyFits o.reply → o.lengths ≡ f.lengths → indicated_by o.step.effect ≡ None → OutcomeFits o
  plain o reply same none = record { reply = reply; lengths = rw same l; indication = rw none tt }

  nothing : OutcomeFits (unchanged f)
  nothing = plain _ tt refl refl

  end_fits : (code : ErrCode) → OutcomeFits (ended f code)
  end_fits code = plain _ tt refl refl

  -- ---- the PDUs that mean the same at either end

  refusal : (b : Bool) (code : ErrCode) → OutcomeFits (refused_if b f code)
  refusal true code = plain _ tt refl refl
  refusal false code = nothing

  features : (value : ℕ) → OutcomeFits (features_taken f value)
  features value = choice (awaits_features (own_exchange f.progress)) _ _ (plain _ tt refl refl) nothing

  lengths_taken : (rx tx : ℕ) → OutcomeFits (length_taken f rx tx)
  lengths_taken rx tx =
      choice (awaits_lengths (own_exchange f.progress)) _ _
      (record { reply = tt; lengths = record { own_rx = l.own_rx; own_tx = l.own_tx }; indication = tt }) nothing

  version : (number company sub : ℕ) → OutcomeFits (version_taken f number company sub)
  version number company sub = plain _ (by f.version_used) refl refl
    where
      by : (used : Bool) → ReplyFits (version_reply used)
      by true = tt
      by false = version_fits

  either : (ctrl : Ctrl) → OutcomeFits (taken_by_either f ctrl)
  either (TerminateInd code) = plain _ tt refl refl
  either (UnknownRsp opcode) = refusal (is_opcode (first_opcode f.progress) opcode) _
  either (FeatureRsp value) = features value
  either (VersionInd number company sub) = version number company sub
  either (RejectInd code) = refusal (is_some (first_opcode f.progress)) _
  either (RejectExtInd opcode code) = refusal (is_opcode (first_opcode f.progress) opcode || is_opcode (later_opcode f.progress) opcode) _
  either (LengthReq rx rx_time tx tx_time) =
      record {
        reply = length_rsp_fits f.lengths.own_rx f.lengths.own_tx l.own_rx l.own_tx;
        lengths = record { own_rx = l.own_rx; own_tx = l.own_tx };
        indication = tt;
      }
  either (LengthRsp rx rx_time tx tx_time) = lengths_taken rx tx
  either other = nothing

  -- ---- at a central

  cipher : (c : Central) (quiet : Bool) (ctrl : Ctrl) → OutcomeFits (cipher_at_central f c quiet ctrl)
  cipher c quiet ctrl = choice quiet _ _ nothing (plain _ tt refl refl)

  start_rsp : (c : Central) (quiet : Bool) (ctrl : Ctrl) → OutcomeFits (start_rsp_at_central f c quiet ctrl)
  start_rsp c true ctrl = nothing
  start_rsp c false ctrl = by (is_own_encryption c.own) refl
    where
      by : (b : Bool) → is_own_encryption c.own ≡ b → OutcomeFits (start_rsp_at_central f c false ctrl)
      by true is = rw is (plain _ tt refl refl)
      by false is = rw is (plain _ tt refl refl)

  against : (c : Central) (kind : Kind) (opcode : ℕ) (other : Outcome) → opcode < 256 → OutcomeFits other
      → OutcomeFits (against_central f c kind opcode other)
  against c kind opcode other small h =
      by (peer_answered (central_stage c.own)) (collision (kind_at_central c.own) kind) (collision_fits (kind_at_central c.own) kind)
    where
      by : (answered : Bool) (code : Option ErrCode) → IfSome code CodeFits → OutcomeFits (collided f answered opcode code other)
      by answered None fits = h
      by answered (Some code) fits =
          choice answered _ _ (end_fits code) (plain _ (record { opcode = small; code = fits }) refl refl)

  judged : (c : Central) (min max latency timeout : ℕ) → OutcomeFits (request_judged f c min max latency timeout)
  judged c min max latency timeout =
      choice (are_valid min max latency timeout) _ _
      (plain _ tt refl refl)
      (plain _ (record { opcode = omega arith; code = omega arith }) refl refl)

  at_central : (c : Central) (quiet : Bool) (ctrl : Ctrl) → OutcomeFits (taken_by_central f c quiet ctrl)
  at_central c quiet (EncRsp skd_s iv_s) = cipher c quiet (EncRsp skd_s iv_s)
  at_central c quiet StartEncReq = cipher c quiet StartEncReq
  at_central c quiet PauseEncRsp = cipher c quiet PauseEncRsp
  at_central c quiet StartEncRsp = start_rsp c quiet StartEncRsp
  at_central c quiet (PeripheralFeatureReq value) = plain _ feature_rsp_fits refl refl
  at_central c quiet (ConnectionParamReq min max latency timeout periodicity reference offsets) =
      against c Request connection_param_req_opcode _ (omega arith) (judged c min max latency timeout)
  at_central c quiet (PhyReq tx rx) = against c Phy phy_req_opcode _ (omega arith) (plain _ phy_ind_fits refl refl)
  at_central c quiet (PhyRsp tx rx) = choice (awaits_phy_rsp (central_stage c.own)) _ _ (plain _ phy_ind_fits refl refl) nothing
  at_central c quiet other = either other

  -- ---- at a peripheral

  -- where none waits the indication is handed on, else the link ends
  follow_fits : (ahead new : Ahead) (o : Outcome) → OutcomeFits o → OutcomeFits (follow f ahead new o)
  follow_fits Nothing new o h = h
  follow_fits update_ahead new o h = end_fits _
  follow_fits map_ahead new o h = end_fits _

  granting : (p : Peripheral) (kind : Kind) (o : Outcome) → OutcomeFits o → OutcomeFits (after_grant f p kind o)
  granting p kind o h = choice (central_answered (peripheral_stage p.own)) _ _ (by (collision (kind_at_peripheral p.own) kind)) h
    where
      by : (code : Option ErrCode) → OutcomeFits (outlived f code o)
      by None = h
      by (Some code) = end_fits code

  handed : (o : Outcome) (indication : Indication) → ReplyFits o.reply → o.lengths ≡ f.lengths → indicated_by o.step.effect ≡ Some indication
      → IndicationFits indication → OutcomeFits o
  handed o indication reply same some fits = record { reply = reply; lengths = rw same l; indication = rw some fits }

  update : (p : Peripheral) (win_offset interval latency timeout instant : ℕ) → TimesFit interval latency timeout
      → OutcomeFits (update_taken f p (update_indication win_offset interval latency timeout instant))
  update p win_offset interval latency timeout instant fits =
      follow_fits p.ahead update_ahead _
      (choice (reads_as_answer (peripheral_stage p.own)) _ _ (handed _ _ tt refl refl fits) (handed _ _ tt refl refl fits))

  phy_ind : (p : Peripheral) → OutcomeFits (phy_ind_taken f p)
  phy_ind p =
      choice (has_phy_of_central p.peer) _ _ (plain _ tt refl refl)
      (choice (awaits_phy_ind (peripheral_stage p.own)) _ _ (plain _ tt refl refl) nothing)

  at_peripheral : (p : Peripheral) (quiet : Bool) (ctrl : Ctrl) → IsCtrl ctrl → OutcomeFits (taken_by_peripheral f p quiet ctrl)
  at_peripheral p quiet (ConnectionUpdateInd win_size win_offset interval latency timeout instant) is =
      update p win_offset interval latency timeout instant
      (record { interval_to = is.range.interval_to; latency_to = is.range.latency_to; timeout_to = is.range.timeout_to })
  at_peripheral p quiet (ChannelMapInd map instant) is =
      granting p map_kind _ (follow_fits p.ahead map_ahead _ (handed _ _ tt refl refl is.range))
  at_peripheral p quiet (EncReq rand ediv skd_m iv_m) is = plain _ tt refl refl
  at_peripheral p quiet PauseEncReq is = plain _ tt refl refl
  at_peripheral p quiet PauseEncRsp is = choice quiet _ _ nothing (plain _ tt refl refl)
  at_peripheral p quiet StartEncRsp is = choice quiet _ _ nothing (plain _ tt refl refl)
  at_peripheral p quiet (FeatureReq value) is = plain _ feature_rsp_fits refl refl
  at_peripheral p quiet (PhyReq tx rx) is = granting p Phy _ (plain _ phy_rsp_fits refl refl)
  at_peripheral p quiet (PhyUpdateInd to_peripheral to_central instant) is = phy_ind p
  at_peripheral p quiet other is = either other

  by_progress : (p : Progress) (quiet : Bool) (ctrl : Ctrl) → IsCtrl ctrl → OutcomeFits (taken_by_role p f quiet ctrl)
  by_progress (central c) quiet ctrl is = at_central c quiet ctrl
  by_progress (peripheral p) quiet ctrl is = at_peripheral p quiet ctrl is

  not_known : (opcode : ℕ) → opcode < 256 → OutcomeFits (unknown f opcode)
  not_known opcode small = plain _ (unknown_fits opcode small) refl refl

  pub outcome_fits : (quiet : Bool) (read : CtrlRead) → ReadFits read → OutcomeFits (outcome_of f quiet read)
  outcome_fits quiet (Known ctrl) is =
      choice (is_foreign (role_of f.progress) ctrl) _ _ (not_known (opcode_of ctrl) (opcode_small ctrl)) (by_progress f.progress quiet ctrl is)
  outcome_fits quiet (Unknown opcode) is = not_known opcode is
  outcome_fits quiet Bare is = nothing
