-- What the laws of one end speak of (Core 5.2, volume 6 part B, section 5).
use Rattle.std.specs.Prelude.{⊤, ◌||◌, Bool, true, false, not, is_none, Some}
use Rattle.ble_base.specs.declared.error_codes.ErrCode.{ErrCode}
use Rattle.ble_base.specs.declared.procedure_kinds.Kind.{Kind}
use Rattle.data_pdu.specs.declared.ctrl.Ctrl.{Ctrl}
use Rattle.data_pdu.specs.declared.ctrl.Ctrl.TheVariants.{PhyRsp, PhyUpdateInd, EncRsp, StartEncReq, StartEncRsp, PauseEncRsp, UnknownRsp, FeatureRsp, LengthRsp, RejectInd, RejectExtInd}
use Rattle.procedure_stages.specs.procedure_values.declared.drafts.Outgoing.{Outgoing}
use Rattle.procedure_stages.specs.procedure_values.declared.drafts.Outgoing.TheVariants.{Other}
use Rattle.procedure_stages.specs.declared.stages.Progress.{Progress}
use Rattle.procedure_stages.specs.declared.stages.Progress.TheVariants.{Central, Peripheral}
use Rattle.procedure_stages.specs.Awaited.{awaits_features, awaits_lengths}
use Rattle.exclusive_stages.specs.Awaited.{awaits_phy_rsp, awaits_phy_ind, has_phy_of_central}
use Rattle.procedure_stages.specs.Kinds.{own_exchange}
use Rattle.procedure_stages.specs.Opcodes.{first_opcode, later_opcode, is_opcode}
use Rattle.procedure_stages.specs.declared.steps.Step.{Step}
use Rattle.procedures.specs.Outcomes.{empty_step}
use Rattle.procedure_stages.specs.Exclusive.{central_stage, peripheral_stage}

-- rejections and LL_TERMINATE_IND of a Disconnect: what goes before the end of a link
abbrev pub GoesBeforeTheEnd : Outgoing → Type 0
GoesBeforeTheEnd (Other draft) = ⊥
GoesBeforeTheEnd other = ⊤

-- whether a PDU that answers a procedure is awaited by none at an end, in phase Clear or Secure
abbrev pub is_unawaited_by_role : Progress → Ctrl → Bool
is_unawaited_by_role (Central c) (PhyRsp tx rx) = not (awaits_phy_rsp (central_stage c.own))
is_unawaited_by_role (Central c) (EncRsp skd_s iv_s) = true
is_unawaited_by_role (Central c) StartEncReq = true
is_unawaited_by_role (Central c) StartEncRsp = true
is_unawaited_by_role (Central c) PauseEncRsp = true
is_unawaited_by_role (Peripheral p) (PhyRsp tx rx) = true
is_unawaited_by_role (Peripheral p) (PhyUpdateInd to_peripheral to_central instant) =
    not (has_phy_of_central p.peer || awaits_phy_ind (peripheral_stage p.own))
is_unawaited_by_role (Peripheral p) StartEncRsp = true
is_unawaited_by_role (Peripheral p) PauseEncRsp = true
is_unawaited_by_role progress other = false

abbrev pub is_unawaited : Progress → Ctrl → Bool
is_unawaited progress (UnknownRsp opcode) = not (is_opcode (first_opcode progress) opcode)
is_unawaited progress (FeatureRsp features) = not (awaits_features (own_exchange progress))
is_unawaited progress (RejectInd code) = is_none (first_opcode progress)
is_unawaited progress (RejectExtInd opcode code) =
    not (is_opcode (first_opcode progress) opcode || is_opcode (later_opcode progress) opcode)
is_unawaited progress (LengthRsp rx rx_time tx tx_time) = not (awaits_lengths (own_exchange progress))
is_unawaited progress other = is_unawaited_by_role progress other

-- the step of a refusal of this kind
abbrev pub refusal_step : Kind → ErrCode → Step
refusal_step kind code = record empty_step { refused = Some (kind, code) }
