-- What a control PDU of the peer does at an end, as an indication, as the end of the link and as an answer, by PDU.
use Rattle.std.proofs.Common.{inl, inr, ◌≡◌, ℕ, Bool, true, false, ◌||◌, ◌==◌, if◌then◌else◌, Option, Some, None, is_none, is_some, refl}
use Rattle.std.specs.Prelude.{⊤}
use Rattle.ble_base.specs.ErrorCodes.{instant_passed}
use Rattle.ble_base.specs.declared.error_codes.ErrCode.{ErrCode}
use Rattle.ble_base.specs.declared.procedure_kinds.Kind.{Kind}
use Rattle.ble_base.specs.declared.procedure_kinds.Kind.TheVariants.{Map as map_kind, Phy, Request}
use Rattle.ble_base.specs.declared.roles.Role.{Role}
use Rattle.ble_base.specs.declared.roles.Role.TheVariants.{Central as central_role, Peripheral as peripheral_role}
use Rattle.data_pdu.specs.declared.ctrl.Ctrl.{Ctrl}
use Rattle.data_pdu.specs.declared.ctrl.Ctrl.TheVariants.{TerminateInd, UnknownRsp, FeatureRsp, VersionInd, RejectInd, ConnectionParamRsp, RejectExtInd, LengthReq, LengthRsp, ConnectionUpdateInd, ChannelMapInd, EncReq, EncRsp, StartEncReq, StartEncRsp, FeatureReq, PauseEncReq, PauseEncRsp, PeripheralFeatureReq, ConnectionParamReq, PhyReq, PhyRsp, PhyUpdateInd}
use Rattle.data_pdu.specs.declared.ctrl.CtrlRead.{CtrlRead}
use Rattle.data_pdu.specs.declared.ctrl.CtrlRead.TheVariants.{Known, Unknown, Bare}
use Rattle.instants.specs.declared.indications.Indication.{Indication}
use Rattle.instants.specs.declared.indications.Indication.TheVariants.{Update as update_indication}
use Rattle.joint_controls.specs.procedure_values.Asks.{is_same_kind}
use Rattle.joint_controls.specs.procedure_values.declared.drafts.Draft.{Draft}
use Rattle.joint_controls.specs.procedure_values.declared.drafts.Draft.TheVariants.{Cipher}
use Rattle.joint_controls.specs.procedure_values.Values.{are_valid}
use Rattle.joint_controls.specs.procedure_stages.declared.reply.Reply.{Reply}
use Rattle.joint_controls.specs.procedure_stages.declared.reply.Reply.TheVariants.{Answer}
use Rattle.joint_controls.specs.procedure_stages.declared.stages.Ahead.{Ahead}
use Rattle.joint_controls.specs.procedure_stages.declared.stages.Ahead.TheVariants.{Nothing, Update as update_ahead, Map as map_ahead}
use Rattle.joint_controls.specs.procedure_stages.declared.stages.Central.{Central}
use Rattle.joint_controls.specs.procedure_stages.declared.stages.Peripheral.{Peripheral}
use Rattle.joint_controls.specs.procedure_stages.declared.stages.Progress.{Progress}
use Rattle.joint_controls.specs.procedure_stages.declared.stages.Progress.TheVariants.{Central as central, Peripheral as peripheral}
use Rattle.exclusive_stages.specs.Awaited.{awaits_phy_ind, awaits_phy_rsp, central_answered, has_phy_of_central, peer_answered, reads_as_answer}
use Rattle.joint_controls.specs.procedure_stages.Exclusive.{central_stage, peripheral_stage}
use Rattle.joint_controls.specs.procedure_stages.Awaited.{awaits_features, awaits_lengths, is_own_encryption}
use Rattle.joint_controls.specs.procedure_stages.Collisions.{are_incompatible, collision, collision_code}
use Rattle.joint_controls.specs.procedure_stages.Kinds.{kind_at_central, kind_at_peripheral, own_exchange, role_of}
use Rattle.joint_controls.specs.procedure_stages.Opcodes.{connection_param_req_opcode, first_opcode, later_opcode, is_opcode, phy_req_opcode}
use Rattle.joint_controls.specs.procedures.declared.outcome.Outcome.{Outcome}
use Rattle.joint_controls.specs.procedures.Encryption.{cipher_at_central, start_rsp_at_central}
use Rattle.joint_controls.specs.procedures.Features.{features_taken}
use Rattle.joint_controls.specs.procedures.Length.{length_taken}
use Rattle.joint_controls.specs.procedures.Outcomes.{ended, unchanged}
use Rattle.joint_controls.specs.procedures.Phy.{phy_ind_taken}
use Rattle.joint_controls.specs.procedures.Refusals.{refused_if}
use Rattle.joint_controls.specs.procedures.Request.{after_grant, against_central, collided, outlived, request_judged}
use Rattle.joint_controls.specs.procedures.Table.{TableFacts}
use Rattle.joint_controls.specs.procedures.Taking.{outcome_of, taken_by, taken_by_either}
use Rattle.joint_controls.specs.procedures.Update.{follow, update_taken}
use Rattle.joint_controls.specs.procedures.Version.{version_reply, version_taken}
use Rattle.joint_controls.specs.procedure_stages.Queue.{has_reply}
use Rattle.joint_controls.specs.procedure_stages.Steps.{asks_host}
use Rattle.joint_controls.specs.control_model.Control.{indicated_by}
use Rattle.joint_controls.specs.control_model.Waits.{EndsByCollision}
use Rattle.joint_parameters.specs.Indications.{indication_in}

-- a PDU of the encryption that waits is no indication
abbrev pub is_plain : Draft → Bool
is_plain (Cipher ctrl) = is_none (indication_in ctrl)
is_plain draft = true

abbrev pub IsPlain : Draft → Type 0
IsPlain draft = is_plain draft ≡ true

abbrev pub IsPlainReply : Reply → Type 0
IsPlainReply (Answer draft) = IsPlain draft
IsPlainReply other = ⊤

-- not the code of an instant that has passed
abbrev pub IsOther : Option ErrCode → Type 0
IsOther None = ⊤
IsOther (Some code) = (code.0 == instant_passed) ≡ false

-- what each end reads as an indication
abbrev pub indication_at : Role → Ctrl → Option Indication
indication_at central_role ctrl = None
indication_at peripheral_role ctrl = indication_in ctrl

abbrev pub indication_by : Role → CtrlRead → Option Indication
indication_by role (Known ctrl) = indication_at role ctrl
indication_by role read = None

pub record Reads (i : Option Indication) (o : Outcome) : Type 0 where
  pub hands : o.step.ends ≡ None → indicated_by o.step.effect ≡ i
  pub code : IsOther o.step.ends
  pub reply : IsPlainReply o.reply

abbrev pub at : TableFacts → Progress → TableFacts
at f p = record f { progress = p }

-- the link goes on, and nothing is handed on
plain : (o : Outcome) → o.step.ends ≡ None → indicated_by o.step.effect ≡ None → IsPlainReply o.reply → Reads None o
plain o lasts none reply = record { hands = λ goes. none; code = rw lasts tt; reply = reply }

choice : (i : Option Indication) (b : Bool) (x y : Outcome) → Reads i x → Reads i y → Reads i (if b then x else y)
choice i true x y hx hy = hx
choice i false x y hx hy = hy

module _ (f : TableFacts) where
  nothing : (p : Progress) → Reads None (unchanged (at f p))
  nothing p = plain _ refl refl tt

  end_reads : (i : Option Indication) (p : Progress) (code : ErrCode) → IsOther (Some code) → Reads i (ended (at f p) code)
  end_reads i p code is = record { hands = λ goes. absurd (cc); code = is; reply = tt }

  -- ---- two procedures that collide

  code_of : (b : Bool) → IsOther (Some (if b then record { 0 = 0x23 } else record { 0 = 0x2A }))
  code_of true = refl
  code_of false = refl

  code_if : (b : Bool) (p q : Kind) → IsOther (if b then Some (collision_code p q) else None)
  code_if true p q = code_of (is_same_kind p q)
  code_if false p q = tt

  collides : (own : Option Kind) (q : Kind) → IsOther (collision own q)
  collides None q = tt
  collides (Some p) q = code_if (are_incompatible p q) p q

  against : (c : Central) (kind : Kind) (opcode : ℕ) (other : Outcome) → Reads None other
      → Reads None (against_central (at f (central c)) c kind opcode other)
  against c kind opcode other h =
      by (peer_answered (central_stage c.own)) (collision (kind_at_central c.own) kind) (collides (kind_at_central c.own) kind)
    where
      by : (answered : Bool) (code : Option ErrCode) → IsOther code → Reads None (collided (at f (central c)) answered opcode code other)
      by answered None is = h
      by true (Some code) is = end_reads None (central c) code is
      by false (Some code) is = plain _ refl refl tt

  granting : (i : Option Indication) (p : Peripheral) (kind : Kind) (o : Outcome) → Reads i o → Reads i (after_grant (at f (peripheral p)) p kind o)
  granting i p kind o h =
      choice i (central_answered (peripheral_stage p.own)) _ _
      (by (collision (kind_at_peripheral p.own) kind) (collides (kind_at_peripheral p.own) kind)) h
    where
      by : (code : Option ErrCode) → IsOther code → Reads i (outlived (at f (peripheral p)) code o)
      by None is = h
      by (Some code) is = end_reads i (peripheral p) code is

  -- ---- the PDUs that mean the same at either end

  refusal : (p : Progress) (b : Bool) (code : ErrCode) → Reads None (refused_if b (at f p) code)
  refusal p true code = plain _ refl refl tt
  refusal p false code = nothing p

  features : (p : Progress) (value : ℕ) → Reads None (features_taken (at f p) value)
  features p value = choice None (awaits_features (own_exchange p)) _ _ (plain _ refl refl tt) (nothing p)

  lengths : (p : Progress) (rx tx : ℕ) → Reads None (length_taken (at f p) rx tx)
  lengths p rx tx = choice None (awaits_lengths (own_exchange p)) _ _ (plain _ refl refl tt) (nothing p)

  version : (p : Progress) (number company sub : ℕ) → Reads None (version_taken (at f p) number company sub)
  version p number company sub = plain _ refl refl (reply f.version_used)
    where
      reply : (used : Bool) → IsPlainReply (version_reply used)
      reply true = tt
      reply false = refl

  either : (p : Progress) (ctrl : Ctrl) → Reads None (taken_by_either (at f p) ctrl)
  either p (TerminateInd code) = plain _ refl refl tt
  either p (UnknownRsp opcode) = refusal p (is_opcode (first_opcode p) opcode) _
  either p (FeatureRsp value) = features p value
  either p (VersionInd number company sub) = version p number company sub
  either p (RejectInd code) = refusal p (is_some (first_opcode p)) _
  either p (RejectExtInd opcode code) = refusal p (is_opcode (first_opcode p) opcode || is_opcode (later_opcode p) opcode) _
  either p (LengthReq rx rx_time tx tx_time) = plain _ refl refl refl
  either p (LengthRsp rx rx_time tx tx_time) = lengths p rx tx
  either p other = nothing p

  -- ---- at a central

  cipher : (c : Central) (quiet : Bool) (ctrl : Ctrl) → Reads None (cipher_at_central (at f (central c)) c quiet ctrl)
  cipher c quiet ctrl = choice None quiet _ _ (nothing (central c)) (plain _ refl refl tt)

  start_rsp : (c : Central) (quiet : Bool) (ctrl : Ctrl) → Reads None (start_rsp_at_central (at f (central c)) c quiet ctrl)
  start_rsp c true ctrl = nothing (central c)
  start_rsp c false ctrl = by (is_own_encryption c.own) refl
    where
      by : (b : Bool) → is_own_encryption c.own ≡ b → Reads None (start_rsp_at_central (at f (central c)) c false ctrl)
      by true is = rw is (plain _ refl refl tt)
      by false is = rw is (plain _ refl refl tt)

  judged : (c : Central) (min max latency timeout : ℕ) → Reads None (request_judged (at f (central c)) c min max latency timeout)
  judged c min max latency timeout =
      choice None (are_valid min max latency timeout) _ _ (plain _ refl refl tt) (plain _ refl refl tt)

  at_central : (c : Central) (quiet : Bool) (ctrl : Ctrl) → Reads None (taken_by (central c) (at f (central c)) quiet ctrl)
  at_central c quiet (ConnectionUpdateInd win_size win_offset interval latency timeout instant) = plain _ refl refl refl
  at_central c quiet (ChannelMapInd map instant) = plain _ refl refl refl
  at_central c quiet (EncReq rand ediv skd_m iv_m) = plain _ refl refl refl
  at_central c quiet (FeatureReq value) = plain _ refl refl refl
  at_central c quiet PauseEncReq = plain _ refl refl refl
  at_central c quiet (PhyUpdateInd to_peripheral to_central instant) = plain _ refl refl refl
  at_central c quiet (ConnectionParamRsp min max latency timeout periodicity reference offsets) = plain _ refl refl refl
  at_central c quiet (EncRsp skd_s iv_s) = cipher c quiet (EncRsp skd_s iv_s)
  at_central c quiet StartEncReq = cipher c quiet StartEncReq
  at_central c quiet PauseEncRsp = cipher c quiet PauseEncRsp
  at_central c quiet StartEncRsp = start_rsp c quiet StartEncRsp
  at_central c quiet (PeripheralFeatureReq value) = plain _ refl refl refl
  at_central c quiet (ConnectionParamReq min max latency timeout periodicity reference offsets) =
      against c Request connection_param_req_opcode _ (judged c min max latency timeout)
  at_central c quiet (PhyReq tx rx) = against c Phy phy_req_opcode _ (plain _ refl refl refl)
  at_central c quiet (PhyRsp tx rx) =
      choice None (awaits_phy_rsp (central_stage c.own)) _ _ (plain _ refl refl refl) (nothing (central c))
  at_central c quiet other = either (central c) other

  -- ---- at a peripheral

  -- where none waits the indication is handed on, else the link ends
  follow_reads : (i : Option Indication) (p : Peripheral) (ahead new : Ahead) (o : Outcome) → Reads i o
      → Reads i (follow (at f (peripheral p)) ahead new o)
  follow_reads i p Nothing new o h = h
  follow_reads i p update_ahead update_ahead o h = end_reads i (peripheral p) _ refl
  follow_reads i p update_ahead other o h = end_reads i (peripheral p) _ refl
  follow_reads i p map_ahead map_ahead o h = end_reads i (peripheral p) _ refl
  follow_reads i p map_ahead other o h = end_reads i (peripheral p) _ refl

  hands_on : (i : Indication) (o : Outcome) → indicated_by o.step.effect ≡ Some i → o.step.ends ≡ None → IsPlainReply o.reply → Reads (Some i) o
  hands_on i o is lasts reply = record { hands = λ goes. is; code = rw lasts tt; reply = reply }

  update : (p : Peripheral) (win_offset interval latency timeout instant : ℕ)
      → Reads (Some (update_indication win_offset interval latency timeout instant))
      (update_taken (at f (peripheral p)) p (update_indication win_offset interval latency timeout instant))
  update p win_offset interval latency timeout instant =
      follow_reads _ p p.ahead update_ahead _
      (choice _ (reads_as_answer (peripheral_stage p.own)) _ _ (hands_on _ _ refl refl tt) (hands_on _ _ refl refl tt))

  phy_ind : (p : Peripheral) → Reads None (phy_ind_taken (at f (peripheral p)) p)
  phy_ind p =
      choice None (has_phy_of_central p.peer) _ _ (plain _ refl refl tt)
      (choice None (awaits_phy_ind (peripheral_stage p.own)) _ _ (plain _ refl refl tt) (nothing (peripheral p)))

  at_peripheral : (p : Peripheral) (quiet : Bool) (ctrl : Ctrl) → Reads (indication_in ctrl) (taken_by (peripheral p) (at f (peripheral p)) quiet ctrl)
  at_peripheral p quiet (ConnectionUpdateInd win_size win_offset interval latency timeout instant) =
      update p win_offset interval latency timeout instant
  at_peripheral p quiet (ChannelMapInd map instant) =
      granting _ p map_kind _ (follow_reads _ p p.ahead map_ahead _ (hands_on _ _ refl refl tt))
  at_peripheral p quiet (EncReq rand ediv skd_m iv_m) = plain _ refl refl tt
  at_peripheral p quiet PauseEncReq = plain _ refl refl tt
  at_peripheral p quiet PauseEncRsp = choice None quiet _ _ (nothing (peripheral p)) (plain _ refl refl tt)
  at_peripheral p quiet StartEncRsp = choice None quiet _ _ (nothing (peripheral p)) (plain _ refl refl tt)
  at_peripheral p quiet (EncRsp skd_s iv_s) = plain _ refl refl refl
  at_peripheral p quiet StartEncReq = plain _ refl refl refl
  at_peripheral p quiet (PeripheralFeatureReq value) = plain _ refl refl refl
  at_peripheral p quiet (ConnectionParamReq min max latency timeout periodicity reference offsets) = plain _ refl refl refl
  at_peripheral p quiet (ConnectionParamRsp min max latency timeout periodicity reference offsets) = plain _ refl refl refl
  at_peripheral p quiet (FeatureReq value) = plain _ refl refl refl
  at_peripheral p quiet (PhyReq tx rx) = granting None p Phy _ (plain _ refl refl refl)
  at_peripheral p quiet (PhyUpdateInd to_peripheral to_central instant) = phy_ind p
  at_peripheral p quiet (TerminateInd code) = either (peripheral p) (TerminateInd code)
  at_peripheral p quiet other = either (peripheral p) other

  by_progress : (p : Progress) (quiet : Bool) (ctrl : Ctrl) → Reads (indication_at (role_of p) ctrl) (taken_by p (at f p) quiet ctrl)
  by_progress (central c) quiet ctrl = at_central c quiet ctrl
  by_progress (peripheral p) quiet ctrl = at_peripheral p quiet ctrl

  pub reads : (quiet : Bool) (read : CtrlRead) → Reads (indication_by (role_of f.progress) read) (outcome_of f quiet read)
  reads quiet (Known ctrl) = by_progress f.progress quiet ctrl
  reads quiet (Unknown opcode) = plain _ refl refl refl
  reads quiet Bare = nothing f.progress

-- ---- an indication at a peripheral: it needs no room, and only a collision ends the link

abbrev pub IsCollision : Option ErrCode → Type 0
IsCollision None = ⊤
IsCollision (Some code) = EndsByCollision (Some code)

pub record IsDirect (o : Outcome) : Type 0 where
  pub ends : IsCollision o.step.ends
  pub room : (has_reply o.reply || asks_host o.step.effect) ≡ false

module _ (f : TableFacts) where
  ended_direct : (p : Progress) (code : ErrCode) → EndsByCollision (Some code) → IsDirect (ended (at f p) code)
  ended_direct p code is = record { ends = is; room = refl }

  either_direct : (b : Bool) (x y : Outcome) → IsDirect x → IsDirect y → IsDirect (if b then x else y)
  either_direct true x y hx hy = hx
  either_direct false x y hx hy = hy

  follow_direct : (p : Peripheral) (ahead new : Ahead) (o : Outcome) → IsDirect o → IsDirect (follow (at f (peripheral p)) ahead new o)
  follow_direct p Nothing new o h = h
  follow_direct p update_ahead update_ahead o h = ended_direct (peripheral p) _ (inl refl)
  follow_direct p update_ahead other o h = ended_direct (peripheral p) _ (inr refl)
  follow_direct p map_ahead map_ahead o h = ended_direct (peripheral p) _ (inl refl)
  follow_direct p map_ahead other o h = ended_direct (peripheral p) _ (inr refl)

  code_collides : (b : Bool) → IsCollision (Some (if b then record { 0 = 0x23 } else record { 0 = 0x2A }))
  code_collides true = inl refl
  code_collides false = inr refl

  if_collides : (b : Bool) (p q : Kind) → IsCollision (if b then Some (collision_code p q) else None)
  if_collides true p q = code_collides (is_same_kind p q)
  if_collides false p q = tt

  is_collision : (own : Option Kind) (q : Kind) → IsCollision (collision own q)
  is_collision None q = tt
  is_collision (Some p) q = if_collides (are_incompatible p q) p q

  grant_direct : (p : Peripheral) (kind : Kind) (o : Outcome) → IsDirect o → IsDirect (after_grant (at f (peripheral p)) p kind o)
  grant_direct p kind o h =
      either_direct (central_answered (peripheral_stage p.own)) _ _
      (by (collision (kind_at_peripheral p.own) kind) (is_collision (kind_at_peripheral p.own) kind)) h
    where
      by : (code : Option ErrCode) → IsCollision code → IsDirect (outlived (at f (peripheral p)) code o)
      by None is = h
      by (Some code) is = ended_direct (peripheral p) code is

  peripheral_direct : (p : Peripheral) (quiet : Bool) (ctrl : Ctrl) → is_some (indication_in ctrl) ≡ true
      → IsDirect (taken_by (peripheral p) (at f (peripheral p)) quiet ctrl)
  peripheral_direct p quiet (ConnectionUpdateInd win_size win_offset interval latency timeout instant) is =
      follow_direct p p.ahead update_ahead _
      (either_direct (reads_as_answer (peripheral_stage p.own)) _ _ (record { ends = tt; room = refl }) (record { ends = tt; room = refl }))
  peripheral_direct p quiet (ChannelMapInd map instant) is =
      grant_direct p map_kind _ (follow_direct p p.ahead map_ahead _ (record { ends = tt; room = refl }))
  peripheral_direct p quiet other is = absurd (cc)

  progress_direct : (p : Progress) (quiet : Bool) (ctrl : Ctrl) → role_of p ≡ peripheral_role → is_some (indication_in ctrl) ≡ true
      → IsDirect (taken_by p (at f p) quiet ctrl)
  progress_direct (central c) quiet ctrl role is = absurd (cc)
  progress_direct (peripheral p) quiet ctrl role is = peripheral_direct p quiet ctrl is

  pub direct : (quiet : Bool) (ctrl : Ctrl) → role_of f.progress ≡ peripheral_role → is_some (indication_in ctrl) ≡ true
      → IsDirect (outcome_of f quiet (Known ctrl))
  direct quiet ctrl role is = progress_direct f.progress quiet ctrl role is
