-- Each control PDU that is taken is at most one step of the exchanges.
use Rattle.std.proofs.Common.{◌≡◌, ℕ, Bool, true, false, ◌||◌, Option, Some, None, is_some, refl, ap, ◌∙◌}
use Rattle.ble_base.specs.declared.error_codes.ErrCode.{ErrCode}
use Rattle.data_pdu.specs.declared.ctrl.Ctrl.{Ctrl}
use Rattle.data_pdu.specs.declared.ctrl.Ctrl.TheVariants.{ConnectionUpdateInd, ChannelMapInd, TerminateInd, EncReq, EncRsp, StartEncReq, StartEncRsp, UnknownRsp, FeatureReq, FeatureRsp, PauseEncReq, PauseEncRsp, VersionInd, RejectInd, PeripheralFeatureReq, ConnectionParamReq, ConnectionParamRsp, RejectExtInd, LengthReq, LengthRsp, PhyReq, PhyRsp, PhyUpdateInd}
use Rattle.data_pdu.specs.declared.ctrl.CtrlRead.{CtrlRead}
use Rattle.data_pdu.specs.declared.ctrl.CtrlRead.TheVariants.{Known, Unknown, Bare}
use Rattle.procedure_stages.specs.declared.stages.Central.{Central}
use Rattle.procedure_stages.specs.declared.stages.Exchange.TheVariants.{FeaturesSent, VersionSent, LengthSent}
use Rattle.procedure_stages.specs.declared.stages.OwnCentral.{OwnCentral}
use Rattle.procedure_stages.specs.declared.stages.OwnCentral.TheVariants.{Exchange as exchange}
use Rattle.procedure_stages.specs.declared.stages.OwnPeripheral.{OwnPeripheral}
use Rattle.procedure_stages.specs.declared.stages.OwnPeripheral.TheVariants.{Exchange as exchange_p}
use Rattle.procedure_stages.specs.declared.stages.Peripheral.{Peripheral}
use Rattle.procedure_stages.specs.declared.stages.Progress.{Progress}
use Rattle.procedure_stages.specs.declared.stages.Progress.TheVariants.{Central as central, Peripheral as peripheral}
use Rattle.procedure_stages.specs.Kinds.{exchange_at_central, exchange_at_peripheral, own_exchange}
use Rattle.procedure_stages.specs.Opcodes.{first_opcode, is_opcode, later_opcode, later_opcode_at_central, opcode_at_central, opcode_at_peripheral}
use Rattle.procedures.specs.declared.outcome.Outcome.{Outcome}
use Rattle.procedures.specs.Refusals.{refused_if}
use Rattle.procedures.specs.Table.{TableFacts}
use Rattle.procedures.specs.Taking.{facts_with, lacks_room, outcome_of, settled, taken_by, took_step}
use Rattle.exchange_steps.specs.Ends.{ends_of}
use Rattle.exchange_steps.specs.Steps.{EndStep, after_steps, refusal_if, step_of_ctrl, step_of_read, unless_ended}
use Rattle.exchange_steps.proofs.Same
use Rattle.exchange_steps.proofs.Same.{same_ends, unchanged_same, unknown_same}
use Rattle.exchange_steps.proofs.Taking.{IsNotUnsent, features_answer, features_question, lengths_answer, lengths_question, refused_right, refused_taken, terminated, version_pdu}

-- ---- only a procedure of which a PDU was sent is refused

sent_at_central : (own : OwnCentral) → is_some (opcode_at_central own) ≡ true → IsNotUnsent (exchange_at_central own)
sent_at_central (exchange FeaturesSent) is = tt
sent_at_central (exchange VersionSent) is = tt
sent_at_central (exchange LengthSent) is = tt
sent_at_central (exchange stage) is = absurd (cc)
sent_at_central own is = tt

sent_at_peripheral : (own : OwnPeripheral) → is_some (opcode_at_peripheral own) ≡ true → IsNotUnsent (exchange_at_peripheral own)
sent_at_peripheral (exchange_p FeaturesSent) is = tt
sent_at_peripheral (exchange_p VersionSent) is = tt
sent_at_peripheral (exchange_p LengthSent) is = tt
sent_at_peripheral (exchange_p stage) is = absurd (cc)
sent_at_peripheral own is = tt

pub first_sent : (p : Progress) → is_some (first_opcode p) ≡ true → IsNotUnsent (own_exchange p)
first_sent (central c) is = sent_at_central c.own is
first_sent (peripheral p) is = sent_at_peripheral p.own is

pub has_opcode : (own : Option ℕ) (opcode : ℕ) → is_opcode own opcode ≡ true → is_some own ≡ true
has_opcode None opcode is = is
has_opcode (Some own) opcode is = refl

later_at_central : (own : OwnCentral) (opcode : ℕ) → is_opcode (later_opcode_at_central own) opcode ≡ true → IsNotUnsent (exchange_at_central own)
later_at_central (exchange stage) opcode is = absurd (cc)
later_at_central own opcode is = tt

later_sent : (p : Progress) (opcode : ℕ) → is_opcode (later_opcode p) opcode ≡ true → IsNotUnsent (own_exchange p)
later_sent (central c) opcode is = later_at_central c.own opcode is
later_sent (peripheral p) opcode is = absurd (cc)

pub either_sent : (p : Progress) (opcode : ℕ) (a b : Bool) → is_opcode (first_opcode p) opcode ≡ a → is_opcode (later_opcode p) opcode ≡ b → (a || b) ≡ true
    → IsNotUnsent (own_exchange p)
either_sent p opcode true b first later is = first_sent p (has_opcode (first_opcode p) opcode first)
either_sent p opcode false true first later is = later_sent p opcode later
either_sent p opcode false false first later is = absurd (cc)

module _ (f : TableFacts) (slot : ℕ) where
  -- ---- by PDU

  refusal : (b : Bool) (code : ErrCode) → (b ≡ true → IsNotUnsent (own_exchange f.progress))
      → ends_of (facts_with f slot (refused_if b f code)) ≡ after_steps (refusal_if b) (ends_of f)
  refusal b code sent =
      refused_taken f slot b code (own_exchange f.progress) refl (λ is. refused_right f slot (own_exchange f.progress) (sent is))

  unknown_rsp : (opcode : ℕ) (code : ErrCode)
      → ends_of (facts_with f slot (refused_if (is_opcode (first_opcode f.progress) opcode) f code))
      ≡ after_steps (refusal_if (is_opcode (first_opcode f.progress) opcode)) (ends_of f)
  unknown_rsp opcode code =
      refusal (is_opcode (first_opcode f.progress) opcode) code (λ is. first_sent f.progress (has_opcode (first_opcode f.progress) opcode is))

  reject_ind : (code : ErrCode)
      → ends_of (facts_with f slot (refused_if (is_some (first_opcode f.progress)) f code)) ≡ after_steps (refusal_if (is_some (first_opcode f.progress))) (ends_of f)
  reject_ind code = refusal (is_some (first_opcode f.progress)) code (first_sent f.progress)

  reject_ext : (opcode : ℕ) (code : ErrCode)
      → ends_of (facts_with f slot (refused_if (is_opcode (first_opcode f.progress) opcode || is_opcode (later_opcode f.progress) opcode) f code))
      ≡ after_steps (refusal_if (is_opcode (first_opcode f.progress) opcode || is_opcode (later_opcode f.progress) opcode)) (ends_of f)
  reject_ext opcode code =
      refusal (is_opcode (first_opcode f.progress) opcode || is_opcode (later_opcode f.progress) opcode) code
      (either_sent f.progress opcode (is_opcode (first_opcode f.progress) opcode) (is_opcode (later_opcode f.progress) opcode) refl refl)

  taken_central : (c : Central) → f.progress ≡ central c → (quiet : Bool) (ctrl : Ctrl)
      → ends_of (facts_with f slot (taken_by (central c) f quiet ctrl)) ≡ after_steps (step_of_ctrl (central c) ctrl) (ends_of f)
  taken_central c is quiet (ConnectionUpdateInd win_size win_offset interval latency timeout instant) = same_ends f slot _ (unknown_same f _)
  taken_central c is quiet (ChannelMapInd map instant) = same_ends f slot _ (unknown_same f _)
  taken_central c is quiet (TerminateInd code) = terminated f slot code f.closing refl
  taken_central c is quiet (EncReq rand ediv skd_m iv_m) = same_ends f slot _ (unknown_same f _)
  taken_central c is quiet (EncRsp skd_s iv_s) = same_ends f slot _ (Same.cipher_same f c is quiet (EncRsp skd_s iv_s))
  taken_central c is quiet StartEncReq = same_ends f slot _ (Same.cipher_same f c is quiet StartEncReq)
  taken_central c is quiet StartEncRsp = same_ends f slot _ (Same.start_rsp_same f c is quiet StartEncRsp)
  taken_central c is quiet (UnknownRsp opcode) =
      unknown_rsp opcode _ ∙ ap (λ p. after_steps (refusal_if (is_opcode (first_opcode p) opcode)) (ends_of f)) is
  taken_central c is quiet (FeatureReq value) = same_ends f slot _ (unknown_same f _)
  taken_central c is quiet (FeatureRsp value) = features_answer f slot value (own_exchange f.progress) refl
  taken_central c is quiet PauseEncReq = same_ends f slot _ (unknown_same f _)
  taken_central c is quiet PauseEncRsp = same_ends f slot _ (Same.cipher_same f c is quiet PauseEncRsp)
  taken_central c is quiet (VersionInd version company sub) = version_pdu f slot (own_exchange f.progress) version company sub refl
  taken_central c is quiet (RejectInd code) =
      reject_ind _ ∙ ap (λ p. after_steps (refusal_if (is_some (first_opcode p))) (ends_of f)) is
  taken_central c is quiet (PeripheralFeatureReq value) = features_question f slot value f.closing refl
  taken_central c is quiet (ConnectionParamReq min max latency timeout periodicity reference offsets) =
      same_ends f slot _ (Same.request_same f c is min max latency timeout)
  taken_central c is quiet (ConnectionParamRsp min max latency timeout periodicity reference offsets) = same_ends f slot _ (unknown_same f _)
  taken_central c is quiet (RejectExtInd opcode code) =
      reject_ext opcode _ ∙ ap (λ p. after_steps (refusal_if (is_opcode (first_opcode p) opcode || is_opcode (later_opcode p) opcode)) (ends_of f)) is
  taken_central c is quiet (LengthReq rx rx_time tx tx_time) = lengths_question f slot rx tx f.closing refl
  taken_central c is quiet (LengthRsp rx rx_time tx tx_time) = lengths_answer f slot rx tx (own_exchange f.progress) refl
  taken_central c is quiet (PhyReq tx rx) = same_ends f slot _ (Same.phy_req_same f c is)
  taken_central c is quiet (PhyRsp tx rx) = same_ends f slot _ (Same.phy_rsp_same f c is)
  taken_central c is quiet (PhyUpdateInd to_peripheral to_central instant) = same_ends f slot _ (unknown_same f _)

  taken_peripheral : (p : Peripheral) → f.progress ≡ peripheral p → (quiet : Bool) (ctrl : Ctrl)
      → ends_of (facts_with f slot (taken_by (peripheral p) f quiet ctrl)) ≡ after_steps (step_of_ctrl (peripheral p) ctrl) (ends_of f)
  taken_peripheral p is quiet (ConnectionUpdateInd win_size win_offset interval latency timeout instant) = same_ends f slot _ (Same.update_same f p is _)
  taken_peripheral p is quiet (ChannelMapInd map instant) = same_ends f slot _ (Same.map_same f p is _)
  taken_peripheral p is quiet (TerminateInd code) = terminated f slot code f.closing refl
  taken_peripheral p is quiet (EncReq rand ediv skd_m iv_m) = same_ends f slot _ (Same.encryption_same f p is (EncReq rand ediv skd_m iv_m))
  taken_peripheral p is quiet (EncRsp skd_s iv_s) = same_ends f slot _ (unknown_same f _)
  taken_peripheral p is quiet StartEncReq = same_ends f slot _ (unknown_same f _)
  taken_peripheral p is quiet StartEncRsp = same_ends f slot _ (Same.last_rsp_same f p is quiet StartEncRsp)
  taken_peripheral p is quiet (UnknownRsp opcode) =
      unknown_rsp opcode _ ∙ ap (λ p. after_steps (refusal_if (is_opcode (first_opcode p) opcode)) (ends_of f)) is
  taken_peripheral p is quiet (FeatureReq value) = features_question f slot value f.closing refl
  taken_peripheral p is quiet (FeatureRsp value) = features_answer f slot value (own_exchange f.progress) refl
  taken_peripheral p is quiet PauseEncReq = same_ends f slot _ (Same.encryption_same f p is PauseEncReq)
  taken_peripheral p is quiet PauseEncRsp = same_ends f slot _ (Same.pause_rsp_same f p is quiet PauseEncRsp)
  taken_peripheral p is quiet (VersionInd version company sub) = version_pdu f slot (own_exchange f.progress) version company sub refl
  taken_peripheral p is quiet (RejectInd code) =
      reject_ind _ ∙ ap (λ p. after_steps (refusal_if (is_some (first_opcode p))) (ends_of f)) is
  taken_peripheral p is quiet (PeripheralFeatureReq value) = same_ends f slot _ (unknown_same f _)
  taken_peripheral p is quiet (ConnectionParamReq min max latency timeout periodicity reference offsets) = same_ends f slot _ (unknown_same f _)
  taken_peripheral p is quiet (ConnectionParamRsp min max latency timeout periodicity reference offsets) = same_ends f slot _ (unknown_same f _)
  taken_peripheral p is quiet (RejectExtInd opcode code) =
      reject_ext opcode _ ∙ ap (λ p. after_steps (refusal_if (is_opcode (first_opcode p) opcode || is_opcode (later_opcode p) opcode)) (ends_of f)) is
  taken_peripheral p is quiet (LengthReq rx rx_time tx tx_time) = lengths_question f slot rx tx f.closing refl
  taken_peripheral p is quiet (LengthRsp rx rx_time tx tx_time) = lengths_answer f slot rx tx (own_exchange f.progress) refl
  taken_peripheral p is quiet (PhyReq tx rx) = same_ends f slot _ (Same.phy_req_p_same f p is)
  taken_peripheral p is quiet (PhyRsp tx rx) = same_ends f slot _ (unchanged_same f)
  taken_peripheral p is quiet (PhyUpdateInd to_peripheral to_central instant) = same_ends f slot _ (Same.phy_ind_same f p is)

  taken : (p : Progress) → f.progress ≡ p → (quiet : Bool) (ctrl : Ctrl)
      → ends_of (facts_with f slot (taken_by p f quiet ctrl)) ≡ after_steps (step_of_ctrl p ctrl) (ends_of f)
  taken (central c) is quiet ctrl = taken_central c is quiet ctrl
  taken (peripheral p) is quiet ctrl = taken_peripheral p is quiet ctrl

  read_taken : (quiet : Bool) (read : CtrlRead)
      → ends_of (facts_with f slot (outcome_of f quiet read)) ≡ after_steps (step_of_read f.progress read) (ends_of f)
  read_taken quiet (Known ctrl) = taken f.progress refl quiet ctrl
  read_taken quiet (Unknown opcode) = same_ends f slot _ (unknown_same f opcode)
  read_taken quiet Bare = same_ends f slot _ (unchanged_same f)

  -- ---- where the link ends at once nothing happens

  settled_by : (outcome : Outcome) (steps : Option EndStep) (lacks ends : Bool) → lacks_room f outcome ≡ lacks → is_some outcome.step.ends ≡ ends
      → ends_of (facts_with f slot outcome) ≡ after_steps steps (ends_of f)
      → ends_of (settled f slot outcome).0 ≡ after_steps (unless_ended (settled f slot outcome).1 steps) (ends_of f)
  settled_by outcome steps true ends l e is = rw l refl
  settled_by outcome steps false true l e is = rw (l, e) (ended outcome steps e)
    where
      ended : (o : Outcome) (s : Option EndStep) → is_some o.step.ends ≡ true → ends_of f ≡ after_steps (unless_ended o.step s) (ends_of f)
      ended o s is = rw is refl
  settled_by outcome steps false false l e is = rw (l, e) (is ∙ goes_on outcome steps e)
    where
      goes_on : (o : Outcome) (s : Option EndStep) → is_some o.step.ends ≡ false → after_steps s (ends_of f) ≡ after_steps (unless_ended o.step s) (ends_of f)
      goes_on o s is = rw is refl

  pub took : (read : CtrlRead) (quiet : Bool)
      → ends_of (took_step f read slot quiet).0 ≡ after_steps (unless_ended (took_step f read slot quiet).1 (step_of_read f.progress read)) (ends_of f)
  took read quiet =
      settled_by (outcome_of f quiet read) (step_of_read f.progress read) (lacks_room f (outcome_of f quiet read)) (is_some (outcome_of f quiet read).step.ends)
      refl refl (read_taken quiet read)
