-- What a control PDU of the peer leaves of what both parts of an end know, by PDU.
use Rattle.std.proofs.Common.{◌≡◌, ℕ, Bool, true, false, ◌||◌, if◌then◌else◌, Option, Some, None, is_some, refl}
use Rattle.std.specs.Prelude.{⊤}
use Rattle.ble_base.specs.declared.error_codes.ErrCode.{ErrCode}
use Rattle.ble_base.specs.declared.procedure_kinds.Kind.{Kind}
use Rattle.ble_base.specs.declared.procedure_kinds.Kind.TheVariants.{Map as map_kind, Phy, Request}
use Rattle.ble_base.specs.declared.roles.Role.TheVariants.{Peripheral as peripheral_role}
use Rattle.data_pdu.specs.declared.ctrl.Ctrl.{Ctrl}
use Rattle.data_pdu.specs.declared.ctrl.Ctrl.TheVariants.{TerminateInd, UnknownRsp, FeatureRsp, VersionInd, RejectInd, RejectExtInd, LengthReq, LengthRsp, ConnectionUpdateInd, ChannelMapInd, EncReq, EncRsp, StartEncReq, StartEncRsp, FeatureReq, PauseEncReq, PauseEncRsp, PeripheralFeatureReq, ConnectionParamReq, PhyReq, PhyRsp, PhyUpdateInd}
use Rattle.data_pdu.specs.declared.ctrl.CtrlRead.{CtrlRead}
use Rattle.data_pdu.specs.declared.ctrl.CtrlRead.TheVariants.{Known, Unknown, Bare}
use Rattle.instants.specs.declared.indications.Indication.{Indication}
use Rattle.instants.specs.declared.indications.Indication.TheVariants.{Update as update_indication}
use Rattle.procedures.specs.procedure_values.Drafts.{waits_for_instant}
use Rattle.procedures.specs.procedure_stages.declared.reply.Reply.{Reply}
use Rattle.procedures.specs.procedure_stages.declared.reply.Reply.TheVariants.{Answer}
use Rattle.procedures.specs.procedure_stages.declared.stages.Ahead.{Ahead}
use Rattle.procedures.specs.procedure_stages.declared.stages.Ahead.TheVariants.{Nothing, Update as update_ahead, Map as map_ahead}
use Rattle.procedures.specs.procedure_stages.declared.stages.Central.{Central}
use Rattle.procedures.specs.procedure_stages.declared.stages.Peripheral.{Peripheral}
use Rattle.procedures.specs.procedure_stages.declared.stages.Progress.{Progress}
use Rattle.procedures.specs.procedure_stages.declared.stages.Progress.TheVariants.{Central as central, Peripheral as peripheral}
use Rattle.exclusive_stages.specs.Awaited.{awaits_phy_ind, awaits_phy_rsp, central_answered, has_phy_of_central, peer_answered, reads_as_answer}
use Rattle.procedures.specs.procedure_stages.Exclusive.{central_stage, peripheral_stage}
use Rattle.procedures.specs.procedure_stages.Awaited.{awaits_features, awaits_lengths, is_own_encryption, is_version}
use Rattle.procedures.specs.procedure_stages.Collisions.{collision}
use Rattle.procedures.specs.procedure_stages.Foreign.{is_foreign}
use Rattle.procedures.specs.procedure_stages.Kinds.{kind_at_central, kind_at_peripheral, own_exchange, role_of, without_own}
use Rattle.procedures.specs.procedure_stages.Opcodes.{connection_param_req_opcode, first_opcode, later_opcode, is_opcode, phy_req_opcode}
use Rattle.procedures.specs.procedure_values.Values.{are_valid}
use Rattle.procedures.specs.declared.outcome.Outcome.{Outcome}
use Rattle.procedures.specs.Encryption.{cipher_at_central, start_rsp_at_central}
use Rattle.procedures.specs.Features.{features_taken}
use Rattle.procedures.specs.Length.{length_taken}
use Rattle.procedures.specs.Outcomes.{ended, unchanged}
use Rattle.procedures.specs.Phy.{phy_ind_taken}
use Rattle.procedures.specs.Refusals.{refused_if}
use Rattle.procedures.specs.Request.{after_grant, against_central, collided, outlived, request_judged}
use Rattle.procedures.specs.Table.{TableFacts}
use Rattle.procedures.specs.Taking.{outcome_of, taken_by_role, taken_by, taken_by_central, taken_by_either, taken_by_peripheral}
use Rattle.procedures.specs.Update.{follow, update_taken}
use Rattle.procedures.specs.Version.{version_reply, version_taken}
use Rattle.control_model.specs.Control.{indicated_by}
use Rattle.control_model.specs.Waits.{kind_ahead, kind_awaited, kind_of_indication, last_instant_of}

-- what both parts of an end know of the procedures
pub record Same (p q : Progress) : Type 0 where
  pub role : role_of q ≡ role_of p
  pub last : last_instant_of q ≡ last_instant_of p
  pub awaited : kind_awaited q ≡ kind_awaited p

-- an answer is no indication
abbrev pub IsAnswer : Reply → Type 0
IsAnswer (Answer draft) = waits_for_instant draft ≡ false
IsAnswer other = ⊤

-- an indication that is handed on is awaited from then on, and none was before
pub record HandsOn (indication : Indication) (p q : Progress) : Type 0 where
  pub here : role_of p ≡ peripheral_role
  pub role : role_of q ≡ peripheral_role
  pub free : kind_awaited p ≡ None
  pub awaited : kind_awaited q ≡ Some (kind_of_indication indication)

abbrev pub Hands : Option Indication → Progress → Progress → Type 0
Hands None p q = Same p q
Hands (Some indication) p q = HandsOn indication p q

pub record Fits (p : Progress) (o : Outcome) : Type 0 where
  pub hands : Hands (indicated_by o.step.effect) p o.progress
  pub reply : IsAnswer o.reply

abbrev pub at : TableFacts → Progress → TableFacts
at f p = record f { progress = p }

same : (p : Progress) → Same p p
same p = record { role = refl; last = refl; awaited = refl }

own_over : (p : Progress) → Same p (without_own p)
own_over (central c) = record { role = refl; last = refl; awaited = refl }
own_over (peripheral p) = record { role = refl; last = refl; awaited = refl }

-- nothing is handed on
plain : (p : Progress) (o : Outcome) → Same p o.progress → indicated_by o.step.effect ≡ None → IsAnswer o.reply → Fits p o
plain p o is none reply = record { hands = rw none is; reply = reply }

choice : (p : Progress) (b : Bool) (x y : Outcome) → Fits p x → Fits p y → Fits p (if b then x else y)
choice p true x y hx hy = hx
choice p false x y hx hy = hy

module _ (f : TableFacts) where
  nothing : (p : Progress) → Fits p (unchanged (at f p))
  nothing p = plain p _ (same p) refl tt

  unknown_fits : (p : Progress) (o : Outcome) → o.progress ≡ p → indicated_by o.step.effect ≡ None → IsAnswer o.reply → Fits p o
  unknown_fits p o is none reply = plain p o (rw is (same p)) none reply

  end_fits : (p : Progress) (code : ErrCode) → Fits p (ended (at f p) code)
  end_fits p code = plain p _ (same p) refl tt

  -- ---- the PDUs that mean the same at either end

  refusal : (p : Progress) (b : Bool) (code : ErrCode) → Fits p (refused_if b (at f p) code)
  refusal p true code = plain p _ (own_over p) refl tt
  refusal p false code = nothing p

  features : (p : Progress) (value : ℕ) → Fits p (features_taken (at f p) value)
  features p value = choice p (awaits_features (own_exchange p)) _ _ (plain p _ (own_over p) refl tt) (nothing p)

  lengths : (p : Progress) (rx tx : ℕ) → Fits p (length_taken (at f p) rx tx)
  lengths p rx tx = choice p (awaits_lengths (own_exchange p)) _ _ (plain p _ (own_over p) refl tt) (nothing p)

  version : (p : Progress) (number company sub : ℕ) → Fits p (version_taken (at f p) number company sub)
  version p number company sub = plain p _ (by (is_version (own_exchange p))) refl (reply f.version_used)
    where
      by : (b : Bool) → Same p (if b then without_own p else p)
      by true = own_over p
      by false = same p

      reply : (used : Bool) → IsAnswer (version_reply used)
      reply true = tt
      reply false = refl

  either : (p : Progress) (ctrl : Ctrl) → Fits p (taken_by_either (at f p) ctrl)
  either p (TerminateInd code) = plain p _ (same p) refl tt
  either p (UnknownRsp opcode) = refusal p (is_opcode (first_opcode p) opcode) _
  either p (FeatureRsp value) = features p value
  either p (VersionInd number company sub) = version p number company sub
  either p (RejectInd code) = refusal p (is_some (first_opcode p)) _
  either p (RejectExtInd opcode code) = refusal p (is_opcode (first_opcode p) opcode || is_opcode (later_opcode p) opcode) _
  either p (LengthReq rx rx_time tx tx_time) = plain p _ (same p) refl refl
  either p (LengthRsp rx rx_time tx tx_time) = lengths p rx tx
  either p other = nothing p

  -- ---- at a central

  cipher : (c : Central) (quiet : Bool) (ctrl : Ctrl) → Fits (central c) (cipher_at_central (at f (central c)) c quiet ctrl)
  cipher c quiet ctrl = choice (central c) quiet _ _ (nothing (central c)) (plain (central c) _ (same (central c)) refl tt)

  start_rsp : (c : Central) (quiet : Bool) (ctrl : Ctrl) → Fits (central c) (start_rsp_at_central (at f (central c)) c quiet ctrl)
  start_rsp c true ctrl = nothing (central c)
  start_rsp c false ctrl = by (is_own_encryption c.own) refl
    where
      by : (b : Bool) → is_own_encryption c.own ≡ b → Fits (central c) (start_rsp_at_central (at f (central c)) c false ctrl)
      by true is = rw is (plain (central c) _ (own_over (central c)) refl tt)
      by false is = rw is (plain (central c) _ (same (central c)) refl tt)

  against : (c : Central) (kind : Kind) (opcode : ℕ) (other : Outcome) → Fits (central c) other
      → Fits (central c) (against_central (at f (central c)) c kind opcode other)
  against c kind opcode other h = by (peer_answered (central_stage c.own)) (collision (kind_at_central c.own) kind)
    where
      by : (answered : Bool) (code : Option ErrCode) → Fits (central c) (collided (at f (central c)) answered opcode code other)
      by answered None = h
      by answered (Some code) = choice (central c) answered _ _ (end_fits (central c) code) (plain (central c) _ (same (central c)) refl tt)

  judged : (c : Central) (min max latency timeout : ℕ) → Fits (central c) (request_judged (at f (central c)) c min max latency timeout)
  judged c min max latency timeout =
      choice (central c) (are_valid min max latency timeout) _ _
      (plain (central c) _ (record { role = refl; last = refl; awaited = refl }) refl tt)
      (plain (central c) _ (record { role = refl; last = refl; awaited = refl }) refl tt)

  at_central : (c : Central) (quiet : Bool) (ctrl : Ctrl) → Fits (central c) (taken_by_central (at f (central c)) c quiet ctrl)
  at_central c quiet (EncRsp skd_s iv_s) = cipher c quiet (EncRsp skd_s iv_s)
  at_central c quiet StartEncReq = cipher c quiet StartEncReq
  at_central c quiet PauseEncRsp = cipher c quiet PauseEncRsp
  at_central c quiet StartEncRsp = start_rsp c quiet StartEncRsp
  at_central c quiet (PeripheralFeatureReq value) = plain (central c) _ (same (central c)) refl refl
  at_central c quiet (ConnectionParamReq min max latency timeout periodicity reference offsets) =
      against c Request connection_param_req_opcode _ (judged c min max latency timeout)
  at_central c quiet (PhyReq tx rx) =
      against c Phy phy_req_opcode _ (plain (central c) _ (record { role = refl; last = refl; awaited = refl }) refl refl)
  at_central c quiet (PhyRsp tx rx) =
      choice (central c) (awaits_phy_rsp (central_stage c.own)) _ _
      (plain (central c) _ (record { role = refl; last = refl; awaited = refl }) refl refl) (nothing (central c))
  at_central c quiet other = either (central c) other

  -- ---- at a peripheral

  -- where none waits the indication is handed on, else the link ends
  follow_fits : (p : Peripheral) (new : Ahead) (o : Outcome) → (kind_ahead p.ahead ≡ None → Fits (peripheral p) o)
      → (ahead : Ahead) → p.ahead ≡ ahead → Fits (peripheral p) (follow (at f (peripheral p)) ahead new o)
  follow_fits p new o h Nothing is = h (rw is refl)
  follow_fits p new o h update_ahead is = end_fits (peripheral p) _
  follow_fits p new o h map_ahead is = end_fits (peripheral p) _

  granting : (p : Peripheral) (kind : Kind) (o : Outcome) → Fits (peripheral p) o → Fits (peripheral p) (after_grant (at f (peripheral p)) p kind o)
  granting p kind o h =
      choice (peripheral p) (central_answered (peripheral_stage p.own)) _ _ (by (collision (kind_at_peripheral p.own) kind)) h
    where
      by : (code : Option ErrCode) → Fits (peripheral p) (outlived (at f (peripheral p)) code o)
      by None = h
      by (Some code) = end_fits (peripheral p) code

  update : (p : Peripheral) (win_offset interval latency timeout instant : ℕ)
      → Fits (peripheral p) (update_taken (at f (peripheral p)) p (update_indication win_offset interval latency timeout instant))
  update p win_offset interval latency timeout instant =
      follow_fits p update_ahead _
      (λ free. choice (peripheral p) (reads_as_answer (peripheral_stage p.own)) _ _
      (record { hands = record { here = refl; role = refl; free = free; awaited = refl }; reply = tt })
      (record { hands = record { here = refl; role = refl; free = free; awaited = refl }; reply = tt }))
      p.ahead refl

  map_fits : (p : Peripheral) (o : Outcome) → (kind_ahead p.ahead ≡ None → Fits (peripheral p) o)
      → Fits (peripheral p) (after_grant (at f (peripheral p)) p map_kind (follow (at f (peripheral p)) p.ahead map_ahead o))
  map_fits p o h = granting p map_kind _ (follow_fits p map_ahead o h p.ahead refl)

  phy_ind : (p : Peripheral) → Fits (peripheral p) (phy_ind_taken (at f (peripheral p)) p)
  phy_ind p =
      choice (peripheral p) (has_phy_of_central p.peer) _ _
      (plain (peripheral p) _ (record { role = refl; last = refl; awaited = refl }) refl tt)
      (choice (peripheral p) (awaits_phy_ind (peripheral_stage p.own)) _ _ (plain (peripheral p) _ (own_over (peripheral p)) refl tt) (nothing (peripheral p)))

  at_peripheral : (p : Peripheral) (quiet : Bool) (ctrl : Ctrl) → Fits (peripheral p) (taken_by_peripheral (at f (peripheral p)) p quiet ctrl)
  at_peripheral p quiet (ConnectionUpdateInd win_size win_offset interval latency timeout instant) =
      update p win_offset interval latency timeout instant
  at_peripheral p quiet (ChannelMapInd map instant) =
      map_fits p _ (λ free. record { hands = record { here = refl; role = refl; free = free; awaited = refl }; reply = tt })
  at_peripheral p quiet (EncReq rand ediv skd_m iv_m) =
      plain (peripheral p) _ (record { role = refl; last = refl; awaited = refl }) refl tt
  at_peripheral p quiet PauseEncReq = plain (peripheral p) _ (record { role = refl; last = refl; awaited = refl }) refl tt
  at_peripheral p quiet PauseEncRsp =
      choice (peripheral p) quiet _ _ (nothing (peripheral p)) (plain (peripheral p) _ (same (peripheral p)) refl tt)
  at_peripheral p quiet StartEncRsp =
      choice (peripheral p) quiet _ _ (nothing (peripheral p))
      (plain (peripheral p) _ (record { role = refl; last = refl; awaited = refl }) refl tt)
  at_peripheral p quiet (FeatureReq value) = plain (peripheral p) _ (same (peripheral p)) refl refl
  at_peripheral p quiet (PhyReq tx rx) =
      granting p Phy _ (plain (peripheral p) _ (record { role = refl; last = refl; awaited = refl }) refl refl)
  at_peripheral p quiet (PhyUpdateInd to_peripheral to_central instant) = phy_ind p
  at_peripheral p quiet other = either (peripheral p) other

  by_progress : (p : Progress) (quiet : Bool) (ctrl : Ctrl) → Fits p (taken_by_role p (at f p) quiet ctrl)
  by_progress (central c) quiet ctrl = at_central c quiet ctrl
  by_progress (peripheral p) quiet ctrl = at_peripheral p quiet ctrl

  known_or_foreign : (p : Progress) (quiet : Bool) (ctrl : Ctrl) → Fits p (taken_by p (at f p) quiet ctrl)
  known_or_foreign p quiet ctrl = choice p (is_foreign (role_of p) ctrl) _ _ (plain p _ (same p) refl refl) (by_progress p quiet ctrl)

  pub fits : (quiet : Bool) (read : CtrlRead) → Fits f.progress (outcome_of f quiet read)
  fits quiet (Known ctrl) = known_or_foreign f.progress quiet ctrl
  fits quiet (Unknown opcode) = plain f.progress _ (same f.progress) refl refl
  fits quiet Bare = nothing f.progress
