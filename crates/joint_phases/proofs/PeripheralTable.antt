-- What a PDU of the central does to the table of a peripheral: what is sent for it.
use Rattle.std.proofs.Common.{◌≡◌, ℕ, Bool, true, false, ◌||◌, Option, Some, None, refl, if◌then◌else◌}
use Rattle.ble_base.specs.declared.error_codes.ErrCode.{ErrCode}
use Rattle.ble_base.specs.declared.procedure_kinds.Kind.TheVariants.{Map as map_kind, Phy}
use Rattle.ble_base.specs.declared.roles.Role.TheVariants.{Peripheral as peripheral_role}
use Rattle.data_pdu.specs.declared.ctrl.Ctrl.{Ctrl}
use Rattle.data_pdu.specs.declared.ctrl.Ctrl.TheVariants.{ChannelMapInd, ConnectionParamReq, ConnectionParamRsp, ConnectionUpdateInd, EncReq as enc_req, FeatureReq, FeatureRsp, LengthReq, LengthRsp, PauseEncReq as pause_enc_req, PauseEncRsp as pause_enc_rsp, PeripheralFeatureReq, PhyReq, PhyRsp, PhyUpdateInd, RejectExtInd, StartEncRsp as start_enc_rsp, UnknownRsp, VersionInd}
use Rattle.phase_pairs.specs.enc_phase.declared.classes.PduClass.TheVariants.{Other, Request}
use Rattle.joint_controls.specs.procedure_values.declared.drafts.Draft.{Draft}
use Rattle.joint_controls.specs.procedure_values.declared.drafts.Draft.TheVariants.{FeatureRsp as feature_rsp, LengthRsp as length_rsp, PhyRsp as phy_rsp, UnknownRsp as unknown_rsp}
use Rattle.exclusive_stages.specs.Awaited.{awaits_phy_ind, central_answered, has_phy_of_central, reads_as_answer}
use Rattle.joint_controls.specs.procedure_stages.declared.reply.Reply.TheVariants.{Answer, Nothing as no_reply}
use Rattle.joint_controls.specs.procedure_stages.declared.stages.Ahead.{Ahead}
use Rattle.joint_controls.specs.procedure_stages.declared.stages.Ahead.TheVariants.{Map as map_ahead, Nothing as nothing_ahead, Update as update_ahead}
use Rattle.joint_controls.specs.procedure_stages.declared.stages.Peripheral.{Peripheral}
use Rattle.joint_controls.specs.procedure_stages.declared.stages.Progress.{Progress}
use Rattle.joint_controls.specs.procedure_stages.declared.stages.Progress.TheVariants.{Central as central, Peripheral as peripheral}
use Rattle.joint_controls.specs.procedure_stages.Awaited.{awaits_features, awaits_lengths}
use Rattle.joint_controls.specs.procedure_stages.Collisions.{collision}
use Rattle.joint_controls.specs.procedure_stages.Exclusive.{peripheral_stage}
use Rattle.joint_controls.specs.procedure_stages.Kinds.{kind_at_peripheral, own_exchange, role_of}
use Rattle.joint_controls.specs.procedure_stages.Opcodes.{first_opcode, is_opcode, later_opcode}
use Rattle.joint_controls.specs.procedures.declared.outcome.Outcome.{Outcome}
use Rattle.joint_controls.specs.procedures.Refusals.{refused_if}
use Rattle.joint_controls.specs.procedures.Request.{outlived}
use Rattle.joint_controls.specs.procedures.Table.{TableFacts}
use Rattle.joint_controls.specs.procedures.Taking.{taken_by}
use Rattle.joint_controls.specs.procedures.Update.{follow}
use Rattle.joint_controls.specs.procedures.Version.{version_reply}
use Rattle.joint_phases.specs.Classes.{class_down, draft_up, is_version_ctrl}

-- ---- nothing is sent

abbrev IsSilent : Outcome → Type 0
IsSilent o = o.reply ≡ no_reply

silent_if : (b : Bool) (x y : Outcome) → IsSilent x → IsSilent y → IsSilent (if b then x else y)
silent_if true x y hx hy = hx
silent_if false x y hx hy = hy

-- ---- an answer is sent, unless the link ends

pub record IsAnswered (o : Outcome) : Type 0 where
  pub draft : Draft
  pub reply : o.reply ≡ Answer draft
  pub class : (knows : Bool) → draft_up knows draft ≡ Other

abbrev Answers : Outcome → Type 0
Answers o = o.step.ends ≡ None → IsAnswered o

ends_not : (code : ErrCode) (E : Type 0) → ◌≡◌ {A = Option ErrCode} (Some code) None → E
ends_not code E h = absurd (cc)

-- the PDUs of the encryption that the central sends, in the phases in which they mean something
abbrev pub is_cipher : Ctrl → Bool
is_cipher (enc_req rand ediv skd_m iv_m) = true
is_cipher pause_enc_req = true
is_cipher start_enc_rsp = true
is_cipher pause_enc_rsp = true
is_cipher ctrl = false

module _ (f : TableFacts) where
  refused_silent : (is_one : Bool) (code : ErrCode) → IsSilent (refused_if is_one f code)
  refused_silent true code = refl
  refused_silent false code = refl

  follow_silent : (waiting new : Ahead) (other : Outcome) → IsSilent other → IsSilent (follow f waiting new other)
  follow_silent nothing_ahead new other h = h
  follow_silent update_ahead new other h = refl
  follow_silent map_ahead new other h = refl

  outlived_silent : (code : Option ErrCode) (other : Outcome) → IsSilent other → IsSilent (outlived f code other)
  outlived_silent None other h = h
  outlived_silent (Some code) other h = refl

  outlived_answers : (code : Option ErrCode) (other : Outcome) → Answers other → Answers (outlived f code other)
  outlived_answers None other h = h
  outlived_answers (Some code) other h = λ lasts. ends_not code _ lasts

  grant_answers : (b : Bool) (code : Option ErrCode) (other : Outcome) → Answers other → Answers (if b then outlived f code other else other)
  grant_answers true code other h = outlived_answers code other h
  grant_answers false code other h = h

  module _ (x : Peripheral) (quiet knows : Bool) where
    -- a PDU that the machine knows as one that is answered
    answered : (ctrl : Ctrl) → is_version_ctrl ctrl ≡ false → class_down knows ctrl ≡ Request → Answers (taken_by (peripheral x) f quiet ctrl)
    answered (FeatureReq features) plain class lasts = record { draft = feature_rsp; reply = refl; class = λ k. refl }
    answered (LengthReq rx rx_time tx tx_time) plain class lasts =
        record { draft = length_rsp f.lengths.own_rx f.lengths.own_tx; reply = refl; class = λ k. refl }
    answered (PhyReq tx rx) plain class lasts =
        grant_answers (central_answered (peripheral_stage x.own)) (collision (kind_at_peripheral x.own) Phy) _
        (λ l. record { draft = phy_rsp; reply = refl; class = λ k. refl }) lasts
    answered (PeripheralFeatureReq features) plain class lasts = record { draft = unknown_rsp _; reply = refl; class = λ k. refl }
    answered (ConnectionParamReq min max latency timeout periodicity reference offsets) plain class lasts =
        record { draft = unknown_rsp _; reply = refl; class = λ k. refl }
    answered (ConnectionParamRsp min max latency timeout periodicity reference offsets) plain class lasts =
        record { draft = unknown_rsp _; reply = refl; class = λ k. refl }
    answered (VersionInd version company sub) plain class lasts = absurd (cc)
    answered ctrl plain class lasts = absurd (cc)

    -- and one that it knows as another
    silent : (ctrl : Ctrl) → is_version_ctrl ctrl ≡ false → class_down knows ctrl ≡ Other → IsSilent (taken_by (peripheral x) f quiet ctrl)
    silent (ConnectionUpdateInd win_size win_offset interval latency timeout instant) plain class =
        follow_silent x.ahead update_ahead _ (silent_if (reads_as_answer (peripheral_stage x.own)) _ _ refl refl)
    silent (ChannelMapInd map instant) plain class =
        silent_if (central_answered (peripheral_stage x.own)) _ _
        (outlived_silent (collision (kind_at_peripheral x.own) map_kind) _ (follow_silent x.ahead map_ahead _ refl)) (follow_silent x.ahead map_ahead _ refl)
    silent (PhyUpdateInd to_peripheral to_central instant) plain class =
        silent_if (has_phy_of_central x.peer) _ _ refl (silent_if (awaits_phy_ind (peripheral_stage x.own)) _ _ refl refl)
    silent (UnknownRsp opcode) plain class = refused_silent (is_opcode (first_opcode f.progress) opcode) _
    silent (FeatureRsp features) plain class = silent_if (awaits_features (own_exchange f.progress)) _ _ refl refl
    silent (RejectExtInd opcode code) plain class = refused_silent (is_opcode (first_opcode f.progress) opcode || is_opcode (later_opcode f.progress) opcode) _
    silent (LengthRsp rx rx_time tx tx_time) plain class = silent_if (awaits_lengths (own_exchange f.progress)) _ _ refl refl
    silent (VersionInd version company sub) plain class = absurd (cc)
    silent (PhyRsp tx rx) plain class = refl
    silent ctrl plain class = absurd (cc)

  -- ---- by role

  pub is_answered : (q : Progress) (quiet knows : Bool) (ctrl : Ctrl) → role_of q ≡ peripheral_role → is_version_ctrl ctrl ≡ false → class_down knows ctrl ≡ Request
      → Answers (taken_by q f quiet ctrl)
  is_answered (peripheral x) quiet knows ctrl role plain class = answered x quiet knows ctrl plain class
  is_answered (central x) quiet knows ctrl role plain class = absurd (cc)

  pub is_silent : (q : Progress) (quiet knows : Bool) (ctrl : Ctrl) → role_of q ≡ peripheral_role → is_version_ctrl ctrl ≡ false → class_down knows ctrl ≡ Other
      → IsSilent (taken_by q f quiet ctrl)
  is_silent (peripheral x) quiet knows ctrl role plain class = silent x quiet knows ctrl plain class
  is_silent (central x) quiet knows ctrl role plain class = absurd (cc)

  -- an LL_VERSION_IND is answered with the own one, once
  pub version_sent : (q : Progress) (quiet : Bool) (version company sub : ℕ) → role_of q ≡ peripheral_role
      → (taken_by q f quiet (VersionInd version company sub)).reply ≡ version_reply f.version_used
  version_sent (peripheral x) quiet version company sub role = refl
  version_sent (central x) quiet version company sub role = absurd (cc)

  cipher_here : (x : Peripheral) (quiet : Bool) (ctrl : Ctrl) → is_cipher ctrl ≡ true → IsSilent (taken_by (peripheral x) f quiet ctrl)
  cipher_here x quiet (enc_req rand ediv skd_m iv_m) is = refl
  cipher_here x quiet pause_enc_req is = refl
  cipher_here x true start_enc_rsp is = refl
  cipher_here x false start_enc_rsp is = refl
  cipher_here x true pause_enc_rsp is = refl
  cipher_here x false pause_enc_rsp is = refl
  cipher_here x quiet ctrl is = absurd (cc)

  pub cipher_silent : (q : Progress) (quiet : Bool) (ctrl : Ctrl) → role_of q ≡ peripheral_role → is_cipher ctrl ≡ true → IsSilent (taken_by q f quiet ctrl)
  cipher_silent (peripheral x) quiet ctrl role is = cipher_here x quiet ctrl is
  cipher_silent (central x) quiet ctrl role is = absurd (cc)
