-- What a control PDU of the peer makes of the procedure that an end has in progress, by PDU.
use Rattle.std.proofs.Common.{◌≡◌, ℕ, Bool, true, false, ◌||◌, if◌then◌else◌, List, [], ◌++◌, Option, Some, None, is_some, refl, ap, sym, subst}
use Rattle.ble_base.specs.declared.error_codes.ErrCode.{ErrCode}
use Rattle.ble_base.specs.declared.notes.Note.{Note}
use Rattle.ble_base.specs.declared.procedure_kinds.Kind.{Kind}
use Rattle.ble_base.specs.declared.procedure_kinds.Kind.TheVariants.{Map as map_kind, Phy, Request, Features, Version, Length, Encrypt}
use Rattle.data_pdu.specs.declared.ctrl.Ctrl.{Ctrl}
use Rattle.data_pdu.specs.declared.ctrl.Ctrl.TheVariants.{TerminateInd, UnknownRsp, FeatureRsp, VersionInd, RejectInd, RejectExtInd, LengthReq, LengthRsp, ConnectionUpdateInd, ChannelMapInd, EncReq, EncRsp, StartEncReq, StartEncRsp, FeatureReq, PauseEncReq, PauseEncRsp, PeripheralFeatureReq, ConnectionParamReq, PhyReq, PhyRsp, PhyUpdateInd}
use Rattle.data_pdu.specs.declared.ctrl.CtrlRead.{CtrlRead}
use Rattle.data_pdu.specs.declared.ctrl.CtrlRead.TheVariants.{Known, Unknown, Bare}
use Rattle.instants.specs.declared.indications.Indication.{Indication}
use Rattle.exclusive_stages.specs.Awaited.{awaits_phy_ind, awaits_phy_rsp, central_answered, has_phy_of_central, peer_answered, reads_as_answer}
use Rattle.link_model.specs.Entering.{done_notes}
use Rattle.link_model.specs.Receiving.{refused_notes}
use Rattle.link_model.specs.procedure_values.Values.{are_valid}
use Rattle.link_model.specs.procedure_values.Wants.{is_wanted}
use Rattle.link_model.specs.procedure_stages.Awaited.{awaits_features, awaits_lengths, is_own_encryption, is_version}
use Rattle.link_model.specs.procedure_stages.Collisions.{collision}
use Rattle.link_model.specs.procedure_stages.Exclusive.{central_stage, peripheral_stage}
use Rattle.link_model.specs.procedure_stages.Foreign.{is_foreign}
use Rattle.link_model.specs.procedure_stages.Kinds.{is_kind, kind_at_central, kind_at_peripheral, own_exchange, own_kind, role_of, without_own}
use Rattle.link_model.specs.procedure_stages.Opcodes.{connection_param_req_opcode, first_opcode, later_opcode, is_opcode, phy_req_opcode}
use Rattle.link_model.specs.procedure_stages.declared.stages.Ahead.{Ahead}
use Rattle.link_model.specs.procedure_stages.declared.stages.Ahead.TheVariants.{Nothing, Update as update_ahead, Map as map_ahead}
use Rattle.link_model.specs.procedure_stages.declared.stages.Central.{Central}
use Rattle.link_model.specs.procedure_stages.declared.stages.Peripheral.{Peripheral}
use Rattle.link_model.specs.procedure_stages.declared.stages.Progress.{Progress}
use Rattle.link_model.specs.procedure_stages.declared.stages.Progress.TheVariants.{Central as central, Peripheral as peripheral}
use Rattle.link_model.specs.procedures.declared.outcome.Outcome.{Outcome}
use Rattle.link_model.specs.procedures.Encryption.{cipher_at_central, start_rsp_at_central}
use Rattle.link_model.specs.procedures.Features.{features_taken}
use Rattle.link_model.specs.procedures.Length.{length_taken}
use Rattle.link_model.specs.procedures.Outcomes.{ended, unchanged}
use Rattle.link_model.specs.procedures.Phy.{phy_ind_taken}
use Rattle.link_model.specs.procedures.Refusals.{refused_if, refused_with}
use Rattle.link_model.specs.procedures.Request.{after_grant, against_central, collided, outlived, request_judged}
use Rattle.link_model.specs.procedures.Table.{TableFacts}
use Rattle.link_model.specs.procedures.Taking.{outcome_of, taken_by, taken_by_central, taken_by_either, taken_by_peripheral, taken_by_role}
use Rattle.link_model.specs.procedures.Update.{follow, update_taken}
use Rattle.link_model.specs.procedures.Version.{version_taken}
use Rattle.link_procedures.proofs.Noting.{GoesBy, done_goes, goes_on, refused_goes, version_done}
use Rattle.link_procedures.proofs.Stages.{encrypt_own, features_own, lengths_own, phy_ind_own, phy_rsp_own, request_own, version_other, version_own}

-- the procedure in progress goes by what is refused and what is done
pub record KeepsOwn (p : Progress) (o : Outcome) : Type 0 where
  pub goes : (handle : ℕ) → GoesBy (refused_notes handle o.step.refused ++ done_notes handle o.step.done) (own_kind p) (own_kind o.progress)

-- ---- the own procedure is over

over_none : (p : Progress) → own_kind (without_own p) ≡ None
over_none (central c) = refl
over_none (peripheral p) = refl

over : (notes : List Note) (p : Progress) (own : Option Kind) → own_kind p ≡ own → GoesBy notes own None → GoesBy notes (own_kind p) (own_kind (without_own p))
over notes p own is goes =
    subst (λ (before : Option Kind). GoesBy notes before (own_kind (without_own p))) (sym is)
    (subst (λ (later : Option Kind). GoesBy notes own later) (sym (over_none p)) goes)

refused_over : (handle : ℕ) (code : ErrCode) (own : Option Kind) → GoesBy (refused_notes handle (refused_with own code) ++ done_notes handle None) own None
refused_over handle code None kind = refl
refused_over handle code (Some own) kind = refused_goes handle own code kind

-- a procedure of this kind goes on
same_own : (own : Option Kind) (known : Kind) → own ≡ Some known → GoesBy [] own (Some known)
same_own own known is kind = ap (λ (o : Option Kind). is_kind o kind) is

-- ---- by outcome

choice : (p : Progress) (b : Bool) (x y : Outcome) → (b ≡ true → KeepsOwn p x) → KeepsOwn p y → KeepsOwn p (if b then x else y)
choice p true x y hx hy = hx refl
choice p false x y hx hy = hy

abbrev at : TableFacts → Progress → TableFacts
at f p = record f { progress = p }

module _ (f : TableFacts) where
  nothing : (p : Progress) → KeepsOwn p (unchanged (at f p))
  nothing p = record { goes = λ handle kind. refl }

  end_keeps : (p : Progress) (code : ErrCode) → KeepsOwn p (ended (at f p) code)
  end_keeps p code = record { goes = λ handle kind. refl }

  -- ---- the PDUs that mean the same at either end

  refusal : (p : Progress) (is_one : Bool) (code : ErrCode) → KeepsOwn p (refused_if is_one (at f p) code)
  refusal p true code = record {
    goes = λ handle.
        over (refused_notes handle (refused_with (own_kind p) code) ++ done_notes handle None) p (own_kind p) refl
        (refused_over handle code (own_kind p));
  }
  refusal p false code = nothing p

  features : (p : Progress) (value : ℕ) → KeepsOwn p (features_taken (at f p) value)
  features p value =
      choice p (awaits_features (own_exchange p)) _ _
      (λ awaits. record { goes = λ handle. over (done_notes handle (Some Features)) p (Some Features) (features_own p awaits) (done_goes handle Features) })
      (nothing p)

  lengths : (p : Progress) (rx tx : ℕ) → KeepsOwn p (length_taken (at f p) rx tx)
  lengths p rx tx =
      choice p (awaits_lengths (own_exchange p)) _ _
      (λ awaits. record { goes = λ handle. over (done_notes handle (Some Length)) p (Some Length) (lengths_own p awaits) (done_goes handle Length) })
      (nothing p)

  version_by : (handle : ℕ) (p : Progress) (runs wants : Bool) → is_version (own_exchange p) ≡ runs
      → GoesBy (done_notes handle (if runs || wants then Some Version else None)) (own_kind p) (own_kind (if runs then without_own p else p))
  version_by handle p true wants is = over (done_notes handle (Some Version)) p (Some Version) (version_own p is) (done_goes handle Version)
  version_by handle p false true is = version_done handle (own_kind p) (version_other p is)
  version_by handle p false false is = goes_on (own_kind p)

  version : (p : Progress) (number company sub : ℕ) → KeepsOwn p (version_taken (at f p) number company sub)
  version p number company sub =
      record { goes = λ handle kind. version_by handle p (is_version (own_exchange p)) (is_wanted Version f.wanted) refl kind }

  either : (p : Progress) (ctrl : Ctrl) → KeepsOwn p (taken_by_either (at f p) ctrl)
  either p (TerminateInd code) = record { goes = λ handle kind. refl }
  either p (UnknownRsp opcode) = refusal p (is_opcode (first_opcode p) opcode) _
  either p (FeatureRsp value) = features p value
  either p (VersionInd number company sub) = version p number company sub
  either p (RejectInd code) = refusal p (is_some (first_opcode p)) _
  either p (RejectExtInd opcode code) = refusal p (is_opcode (first_opcode p) opcode || is_opcode (later_opcode p) opcode) _
  either p (LengthReq rx rx_time tx tx_time) = record { goes = λ handle kind. refl }
  either p (LengthRsp rx rx_time tx tx_time) = lengths p rx tx
  either p other = nothing p

  -- ---- at a central

  cipher : (c : Central) (quiet : Bool) (ctrl : Ctrl) → KeepsOwn (central c) (cipher_at_central (at f (central c)) c quiet ctrl)
  cipher c quiet ctrl = choice (central c) quiet _ _ (λ is. nothing (central c)) (record { goes = λ handle kind. refl })

  start_rsp : (c : Central) (quiet : Bool) (ctrl : Ctrl) → KeepsOwn (central c) (start_rsp_at_central (at f (central c)) c quiet ctrl)
  start_rsp c true ctrl = nothing (central c)
  start_rsp c false ctrl = by (is_own_encryption c.own) refl
    where
      by : (b : Bool) → is_own_encryption c.own ≡ b → KeepsOwn (central c) (start_rsp_at_central (at f (central c)) c false ctrl)
      by true is =
          rw is (record {
            goes = λ handle. over (done_notes handle (Some Encrypt)) (central c) (Some Encrypt) (encrypt_own c.own is) (done_goes handle Encrypt);
          })
      by false is = rw is (record { goes = λ handle kind. refl })

  against : (c : Central) (kind : Kind) (opcode : ℕ) (other : Outcome) → KeepsOwn (central c) other
      → KeepsOwn (central c) (against_central (at f (central c)) c kind opcode other)
  against c kind opcode other h = by (peer_answered (central_stage c.own)) (collision (kind_at_central c.own) kind)
    where
      by : (answered : Bool) (code : Option ErrCode) → KeepsOwn (central c) (collided (at f (central c)) answered opcode code other)
      by answered None = h
      by answered (Some code) = choice (central c) answered _ _ (λ is. end_keeps (central c) code) (record { goes = λ handle kind. refl })

  judged : (c : Central) (min max latency timeout : ℕ) → KeepsOwn (central c) (request_judged (at f (central c)) c min max latency timeout)
  judged c min max latency timeout =
      choice (central c) (are_valid min max latency timeout) _ _ (λ is. record { goes = λ handle kind. refl }) (record { goes = λ handle kind. refl })

  phy_rsp : (c : Central) → KeepsOwn (central c) (taken_by_central (at f (central c)) c true (PhyRsp 0 0))
  phy_rsp c =
      choice (central c) (awaits_phy_rsp (central_stage c.own)) _ _
      (λ awaits. record { goes = λ handle kind. same_own (kind_at_central c.own) Phy (phy_rsp_own c.own awaits) kind })
      (nothing (central c))

  at_central : (c : Central) (quiet : Bool) (ctrl : Ctrl) → KeepsOwn (central c) (taken_by_central (at f (central c)) c quiet ctrl)
  at_central c quiet (EncRsp skd_s iv_s) = cipher c quiet (EncRsp skd_s iv_s)
  at_central c quiet StartEncReq = cipher c quiet StartEncReq
  at_central c quiet PauseEncRsp = cipher c quiet PauseEncRsp
  at_central c quiet StartEncRsp = start_rsp c quiet StartEncRsp
  at_central c quiet (PeripheralFeatureReq value) = record { goes = λ handle kind. refl }
  at_central c quiet (ConnectionParamReq min max latency timeout periodicity reference offsets) =
      against c Request connection_param_req_opcode _ (judged c min max latency timeout)
  at_central c quiet (PhyReq tx rx) = against c Phy phy_req_opcode _ (record { goes = λ handle kind. refl })
  at_central c quiet (PhyRsp tx rx) = phy_rsp c
  at_central c quiet other = either (central c) other

  -- ---- at a peripheral

  follow_keeps : (p : Peripheral) (new : Ahead) (o : Outcome) → KeepsOwn (peripheral p) o
      → (ahead : Ahead) → KeepsOwn (peripheral p) (follow (at f (peripheral p)) ahead new o)
  follow_keeps p new o h Nothing = h
  follow_keeps p new o h update_ahead = end_keeps (peripheral p) _
  follow_keeps p new o h map_ahead = end_keeps (peripheral p) _

  granting : (p : Peripheral) (kind : Kind) (o : Outcome) → KeepsOwn (peripheral p) o → KeepsOwn (peripheral p) (after_grant (at f (peripheral p)) p kind o)
  granting p kind o h =
      choice (peripheral p) (central_answered (peripheral_stage p.own)) _ _ (λ is. by (collision (kind_at_peripheral p.own) kind)) h
    where
      by : (code : Option ErrCode) → KeepsOwn (peripheral p) (outlived (at f (peripheral p)) code o)
      by None = h
      by (Some code) = end_keeps (peripheral p) code

  update : (p : Peripheral) (indication : Indication) → KeepsOwn (peripheral p) (update_taken (at f (peripheral p)) p indication)
  update p indication =
      follow_keeps p update_ahead _
      (choice (peripheral p) (reads_as_answer (peripheral_stage p.own)) _ _
      (λ answers. record {
        goes = λ handle kind. same_own (kind_at_peripheral p.own) Request (request_own p.own answers) kind;
      })
      (record { goes = λ handle kind. refl }))
      p.ahead

  phy_ind : (p : Peripheral) → KeepsOwn (peripheral p) (phy_ind_taken (at f (peripheral p)) p)
  phy_ind p =
      choice (peripheral p) (has_phy_of_central p.peer) _ _ (λ has. record { goes = λ handle kind. refl })
      (choice (peripheral p) (awaits_phy_ind (peripheral_stage p.own)) _ _
      (λ awaits. record { goes = λ handle. over (done_notes handle (Some Phy)) (peripheral p) (Some Phy) (phy_ind_own p.own awaits) (done_goes handle Phy) })
      (nothing (peripheral p)))

  at_peripheral : (p : Peripheral) (quiet : Bool) (ctrl : Ctrl) → KeepsOwn (peripheral p) (taken_by_peripheral (at f (peripheral p)) p quiet ctrl)
  at_peripheral p quiet (ConnectionUpdateInd win_size win_offset interval latency timeout instant) = update p _
  at_peripheral p quiet (ChannelMapInd map instant) =
      granting p map_kind _ (follow_keeps p map_ahead _ (record { goes = λ handle kind. refl }) p.ahead)
  at_peripheral p quiet (EncReq rand ediv skd_m iv_m) = record { goes = λ handle kind. refl }
  at_peripheral p quiet PauseEncReq = record { goes = λ handle kind. refl }
  at_peripheral p quiet PauseEncRsp = choice (peripheral p) quiet _ _ (λ is. nothing (peripheral p)) (record { goes = λ handle kind. refl })
  at_peripheral p quiet StartEncRsp = choice (peripheral p) quiet _ _ (λ is. nothing (peripheral p)) (record { goes = λ handle kind. refl })
  at_peripheral p quiet (FeatureReq value) = record { goes = λ handle kind. refl }
  at_peripheral p quiet (PhyReq tx rx) = granting p Phy _ (record { goes = λ handle kind. refl })
  at_peripheral p quiet (PhyUpdateInd to_peripheral to_central instant) = phy_ind p
  at_peripheral p quiet other = either (peripheral p) other

  by_progress : (p : Progress) (quiet : Bool) (ctrl : Ctrl) → KeepsOwn p (taken_by_role p (at f p) quiet ctrl)
  by_progress (central c) quiet ctrl = at_central c quiet ctrl
  by_progress (peripheral p) quiet ctrl = at_peripheral p quiet ctrl

  known_or_foreign : (p : Progress) (quiet : Bool) (ctrl : Ctrl) → KeepsOwn p (taken_by p (at f p) quiet ctrl)
  known_or_foreign p quiet ctrl =
      choice p (is_foreign (role_of p) ctrl) _ _ (λ is. record { goes = λ handle kind. refl }) (by_progress p quiet ctrl)

pub takes_pdu : (f : TableFacts) (quiet : Bool) (read : CtrlRead) → KeepsOwn f.progress (outcome_of f quiet read)
takes_pdu f quiet (Known ctrl) = known_or_foreign f f.progress quiet ctrl
takes_pdu f quiet (Unknown opcode) = record { goes = λ handle kind. refl }
takes_pdu f quiet Bare = nothing f f.progress
