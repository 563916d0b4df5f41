-- An end answers with LL_UNKNOWN_RSP only what its peer never begins: it knows each first PDU of the procedures that exclude others.
use Rattle.std.proofs.Common.{◌≡◌, ℕ, Bool, true, false, not, ◌||◌, if◌then◌else◌, Option, Some, None, is_some, refl, sym, subst}
use Rattle.ble_base.specs.declared.error_codes.ErrCode.{ErrCode}
use Rattle.ble_base.specs.declared.procedure_kinds.Kind.{Kind}
use Rattle.ble_base.specs.declared.procedure_kinds.Kind.TheVariants.{Map as map_kind, Phy, Request}
use Rattle.data_pdu.specs.declared.ctrl.Ctrl.{Ctrl}
use Rattle.data_pdu.specs.declared.ctrl.Ctrl.TheVariants.{ChannelMapInd, ConnectionParamReq, ConnectionParamRsp, ConnectionUpdateInd, EncReq, EncRsp, FeatureReq, FeatureRsp, LengthReq, LengthRsp, PauseEncReq, PauseEncRsp, PeripheralFeatureReq, PhyReq, PhyRsp, PhyUpdateInd, RejectExtInd, RejectInd, StartEncReq, StartEncRsp, TerminateInd, UnknownRsp, VersionInd}
use Rattle.data_pdu.specs.declared.ctrl.CtrlRead.TheVariants.{Known}
use Rattle.data_pdu.specs.Reading.{opcode_of}
use Rattle.exclusive_stages.specs.Awaited.{awaits_phy_ind, awaits_phy_rsp, central_answered, has_phy_of_central, peer_answered, reads_as_answer}
use Rattle.collision_steps.specs.procedure_values.declared.drafts.Draft.TheVariants.{UnknownRsp as unknown_rsp}
use Rattle.collision_steps.specs.procedure_values.Values.{are_valid}
use Rattle.collision_steps.specs.procedure_stages.declared.reply.Reply.{Reply}
use Rattle.collision_steps.specs.procedure_stages.declared.reply.Reply.TheVariants.{Answer}
use Rattle.collision_steps.specs.procedure_stages.declared.stages.Ahead.{Ahead}
use Rattle.collision_steps.specs.procedure_stages.declared.stages.Ahead.TheVariants.{Map as map_ahead, Nothing, Update as update_ahead}
use Rattle.collision_steps.specs.procedure_stages.declared.stages.Central.{Central}
use Rattle.collision_steps.specs.procedure_stages.declared.stages.Peripheral.{Peripheral}
use Rattle.collision_steps.specs.procedure_stages.declared.stages.Progress.{Progress}
use Rattle.collision_steps.specs.procedure_stages.declared.stages.Progress.TheVariants.{Central as central, Peripheral as peripheral}
use Rattle.collision_steps.specs.procedure_stages.Awaited.{awaits_features, awaits_lengths, is_own_encryption}
use Rattle.collision_steps.specs.procedure_stages.Collisions.{collision}
use Rattle.collision_steps.specs.procedure_stages.Exclusive.{central_stage, peripheral_stage}
use Rattle.collision_steps.specs.procedure_stages.Kinds.{kind_at_central, kind_at_peripheral, own_exchange}
use Rattle.collision_steps.specs.procedure_stages.Opcodes.{connection_param_req_opcode, first_opcode, is_opcode, later_opcode, phy_req_opcode}
use Rattle.collision_steps.specs.procedures.declared.outcome.Outcome.{Outcome}
use Rattle.collision_steps.specs.procedures.Encryption.{start_rsp_at_central}
use Rattle.collision_steps.specs.procedures.Refusals.{refused_if}
use Rattle.collision_steps.specs.procedures.Request.{after_grant, against_central, collided, outlived, request_judged}
use Rattle.collision_steps.specs.procedures.Table.{TableFacts}
use Rattle.collision_steps.specs.procedures.Taking.{outcome_of, taken_by, taken_by_either}
use Rattle.collision_steps.specs.procedures.Update.{follow}
use Rattle.collision_steps.specs.procedures.Version.{version_reply}
use Rattle.joint_controls.specs.phased_control.Taken.{seen_if}
use Rattle.joint_controls.proofs.phased_control.Unknown.{MayBeUnknown}
use Rattle.joint_collisions.specs.Facts.{is_first_down, is_first_up}

-- no such PDU is answered with LL_UNKNOWN_RSP
abbrev pub knows : (ℕ → Bool) → Reply → Bool
knows names (Answer (unknown_rsp opcode)) = not (names opcode)
knows names reply = true

abbrev pub Knows : (ℕ → Bool) → Outcome → Type 0
Knows names o = knows names o.reply ≡ true

module _ (names : ℕ → Bool) (f : TableFacts) where
  choice : (b : Bool) (x y : Outcome) → Knows names x → Knows names y → Knows names (if b then x else y)
  choice true x y hx hy = hx
  choice false x y hx hy = hy

  refusal : (b : Bool) (code : ErrCode) → Knows names (refused_if b f code)
  refusal true code = refl
  refusal false code = refl

  version : (used : Bool) → knows names (version_reply used) ≡ true
  version true = refl
  version false = refl

  either : (ctrl : Ctrl) → Knows names (taken_by_either f ctrl)
  either (TerminateInd code) = refl
  either (UnknownRsp opcode) = refusal (is_opcode (first_opcode f.progress) opcode) _
  either (FeatureRsp value) = choice (awaits_features (own_exchange f.progress)) _ _ refl refl
  either (VersionInd number company sub) = version f.version_used
  either (RejectInd code) = refusal (is_some (first_opcode f.progress)) _
  either (RejectExtInd opcode code) = refusal (is_opcode (first_opcode f.progress) opcode || is_opcode (later_opcode f.progress) opcode) _
  either (LengthReq rx rx_time tx tx_time) = refl
  either (LengthRsp rx rx_time tx tx_time) = choice (awaits_lengths (own_exchange f.progress)) _ _ refl refl
  either other = refl

-- ---- at a central

module _ (f : TableFacts) where
  against : (c : Central) (kind : Kind) (opcode : ℕ) (other : Outcome) → Knows is_first_up other → Knows is_first_up (against_central f c kind opcode other)
  against c kind opcode other h = by (peer_answered (central_stage c.own)) (collision (kind_at_central c.own) kind)
    where
      by : (answered : Bool) (code : Option ErrCode) → Knows is_first_up (collided f answered opcode code other)
      by answered None = h
      by true (Some code) = refl
      by false (Some code) = refl

  judged : (c : Central) (min max latency timeout : ℕ) → Knows is_first_up (request_judged f c min max latency timeout)
  judged c min max latency timeout = choice is_first_up f (are_valid min max latency timeout) _ _ refl refl

  start_rsp : (c : Central) (quiet own : Bool) → is_own_encryption c.own ≡ own → Knows is_first_up (start_rsp_at_central f c quiet StartEncRsp)
  start_rsp c true own is = refl
  start_rsp c false true is = rw is refl
  start_rsp c false false is = rw is refl

  at_central : (c : Central) (quiet : Bool) (ctrl : Ctrl) → Knows is_first_up (taken_by (central c) f quiet ctrl)
  at_central c quiet (ConnectionUpdateInd win_size win_offset interval latency timeout instant) = refl
  at_central c quiet (ChannelMapInd map instant) = refl
  at_central c quiet (EncReq rand ediv skd_m iv_m) = refl
  at_central c quiet (FeatureReq value) = refl
  at_central c quiet PauseEncReq = refl
  at_central c quiet (PhyUpdateInd to_peripheral to_central instant) = refl
  at_central c quiet (ConnectionParamRsp min max latency timeout periodicity reference offsets) = refl
  at_central c quiet (EncRsp skd_s iv_s) = choice is_first_up f quiet _ _ refl refl
  at_central c quiet StartEncReq = choice is_first_up f quiet _ _ refl refl
  at_central c quiet PauseEncRsp = choice is_first_up f quiet _ _ refl refl
  at_central c quiet StartEncRsp = start_rsp c quiet (is_own_encryption c.own) refl
  at_central c quiet (PeripheralFeatureReq value) = refl
  at_central c quiet (ConnectionParamReq min max latency timeout periodicity reference offsets) =
      against c Request connection_param_req_opcode _ (judged c min max latency timeout)
  at_central c quiet (PhyReq tx rx) = against c Phy phy_req_opcode _ refl
  at_central c quiet (PhyRsp tx rx) = choice is_first_up f (awaits_phy_rsp (central_stage c.own)) _ _ refl refl
  at_central c quiet other = either is_first_up f other

  -- ---- at a peripheral

  granting : (p : Peripheral) (kind : Kind) (o : Outcome) → Knows is_first_down o → Knows is_first_down (after_grant f p kind o)
  granting p kind o h = choice is_first_down f (central_answered (peripheral_stage p.own)) _ _ (by (collision (kind_at_peripheral p.own) kind)) h
    where
      by : (code : Option ErrCode) → Knows is_first_down (outlived f code o)
      by None = h
      by (Some code) = refl

  followed : (ahead new : Ahead) (o : Outcome) → Knows is_first_down o → Knows is_first_down (follow f ahead new o)
  followed Nothing new o h = h
  followed update_ahead new o h = refl
  followed map_ahead new o h = refl

  at_peripheral : (p : Peripheral) (quiet : Bool) (ctrl : Ctrl) → Knows is_first_down (taken_by (peripheral p) f quiet ctrl)
  at_peripheral p quiet (ConnectionUpdateInd win_size win_offset interval latency timeout instant) =
      followed p.ahead update_ahead _ (choice is_first_down f (reads_as_answer (peripheral_stage p.own)) _ _ refl refl)
  at_peripheral p quiet (ChannelMapInd map instant) = granting p map_kind _ (followed p.ahead map_ahead _ refl)
  at_peripheral p quiet (EncReq rand ediv skd_m iv_m) = refl
  at_peripheral p quiet PauseEncReq = refl
  at_peripheral p quiet PauseEncRsp = choice is_first_down f quiet _ _ refl refl
  at_peripheral p quiet StartEncRsp = choice is_first_down f quiet _ _ refl refl
  at_peripheral p quiet (EncRsp skd_s iv_s) = refl
  at_peripheral p quiet StartEncReq = refl
  at_peripheral p quiet (PeripheralFeatureReq value) = refl
  at_peripheral p quiet (ConnectionParamReq min max latency timeout periodicity reference offsets) = refl
  at_peripheral p quiet (ConnectionParamRsp min max latency timeout periodicity reference offsets) = refl
  at_peripheral p quiet (FeatureReq value) = refl
  at_peripheral p quiet (PhyReq tx rx) = granting p Phy _ refl
  at_peripheral p quiet (PhyUpdateInd to_peripheral to_central instant) =
      choice is_first_down f (has_phy_of_central p.peer) _ _ refl (choice is_first_down f (awaits_phy_ind (peripheral_stage p.own)) _ _ refl refl)
  at_peripheral p quiet other = either is_first_down f other

-- ---- a PDU of the encryption that is seen as unknown

unknown_up : (ctrl : Ctrl) → MayBeUnknown ctrl → not (is_first_up (opcode_of ctrl)) ≡ true
unknown_up (EncReq rand ediv skd_m iv_m) is = refl
unknown_up (EncRsp skd_s iv_s) is = refl
unknown_up StartEncReq is = refl
unknown_up PauseEncReq is = refl
unknown_up ctrl is = absurd is

unknown_down : (ctrl : Ctrl) → MayBeUnknown ctrl → not (is_first_down (opcode_of ctrl)) ≡ true
unknown_down (EncReq rand ediv skd_m iv_m) is = refl
unknown_down (EncRsp skd_s iv_s) is = refl
unknown_down StartEncReq is = refl
unknown_down PauseEncReq is = refl
unknown_down ctrl is = absurd is

pub central_knows : (f : TableFacts) (c : Central) (unknown : Bool) (ctrl : Ctrl) (quiet : Bool) → (unknown ≡ true → MayBeUnknown ctrl) → f.progress ≡ central c
    → Knows is_first_up (outcome_of f quiet (seen_if unknown (Known ctrl)))
central_knows f c true ctrl quiet of is = unknown_up ctrl (of refl)
central_knows f c false ctrl quiet of is = subst (λ (p : Progress). Knows is_first_up (taken_by p f quiet ctrl)) (sym is) (at_central f c quiet ctrl)

pub peripheral_knows : (f : TableFacts) (p : Peripheral) (unknown : Bool) (ctrl : Ctrl) (quiet : Bool) → (unknown ≡ true → MayBeUnknown ctrl) → f.progress ≡ peripheral p
    → Knows is_first_down (outcome_of f quiet (seen_if unknown (Known ctrl)))
peripheral_knows f p true ctrl quiet of is = unknown_down ctrl (of refl)
peripheral_knows f p false ctrl quiet of is = subst (λ (q : Progress). Knows is_first_down (taken_by q f quiet ctrl)) (sym is) (at_peripheral f p quiet ctrl)
