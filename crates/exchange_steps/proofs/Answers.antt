-- What each control PDU answers for the exchanges.
use Rattle.std.proofs.Common.{◌≡◌, ℕ, ◌==◌, Bool, true, false, not, ◌||◌, Option, Some, None, is_some, if◌then◌else◌, refl, ap, sym, ◌∙◌, subst}
use Rattle.ble_base.specs.ErrorCodes.{unsupported_remote_feature}
use Rattle.ble_base.specs.declared.error_codes.ErrCode.{ErrCode}
use Rattle.ble_base.specs.declared.procedure_kinds.Kind.{Kind}
use Rattle.ble_base.specs.declared.procedure_kinds.Kind.TheVariants.{Version}
use Rattle.data_pdu.specs.declared.ctrl.Ctrl.{Ctrl}
use Rattle.data_pdu.specs.declared.ctrl.Ctrl.TheVariants.{ConnectionUpdateInd, ChannelMapInd, TerminateInd, EncReq, EncRsp, StartEncReq, StartEncRsp, UnknownRsp, FeatureReq, FeatureRsp, PauseEncReq, PauseEncRsp, VersionInd, RejectInd, PeripheralFeatureReq, ConnectionParamReq, ConnectionParamRsp, RejectExtInd, LengthReq, LengthRsp, PhyReq, PhyRsp, PhyUpdateInd}
use Rattle.data_pdu.specs.declared.ctrl.CtrlRead.{CtrlRead}
use Rattle.data_pdu.specs.declared.ctrl.CtrlRead.TheVariants.{Known, Unknown, Bare}
use Rattle.procedure_values.specs.Wants.{count_of, is_wanted}
use Rattle.procedure_values.proofs.Counts.{wanted-counted}
use Rattle.procedure_stages.specs.declared.closing.Closing.{Closing}
use Rattle.procedure_stages.specs.declared.closing.Closing.TheVariants.{Open, Closed, Disconnecting}
use Rattle.procedure_stages.specs.declared.stages.Central.{Central}
use Rattle.procedure_stages.specs.declared.stages.Exchange.{Exchange}
use Rattle.procedure_stages.specs.declared.stages.Exchange.TheVariants.{FeaturesUnsent, FeaturesSent, VersionUnsent, VersionSent, LengthUnsent, LengthSent}
use Rattle.procedure_stages.specs.declared.stages.OwnCentral.{OwnCentral}
use Rattle.procedure_stages.specs.declared.stages.OwnCentral.TheVariants.{Exclusive as exclusive, Exchange as exchange}
use Rattle.procedure_stages.specs.declared.stages.OwnPeripheral.{OwnPeripheral}
use Rattle.procedure_stages.specs.declared.stages.OwnPeripheral.TheVariants.{Exclusive as exclusive_p, Exchange as exchange_p}
use Rattle.exclusive_stages.specs.Kinds.{central_kind, peripheral_kind}
use Rattle.procedure_stages.specs.declared.stages.Peripheral.{Peripheral}
use Rattle.procedure_stages.specs.declared.stages.Progress.{Progress}
use Rattle.procedure_stages.specs.declared.stages.Progress.TheVariants.{Central as central, Peripheral as peripheral}
use Rattle.procedure_stages.specs.Awaited.{awaits_features, awaits_lengths, is_version}
use Rattle.procedure_stages.specs.Kinds.{exchange_at_central, exchange_at_peripheral, kind_at_central, kind_at_peripheral, own_exchange, own_kind}
use Rattle.procedure_stages.specs.Opcodes.{first_opcode, is_opcode, later_opcode}
use Rattle.procedures.specs.declared.outcome.Outcome.{Outcome}
use Rattle.procedures.specs.Features.{features_asked, features_taken}
use Rattle.procedures.specs.Length.{length_asked, length_taken}
use Rattle.procedures.specs.Outcomes.{unchanged}
use Rattle.procedures.specs.Refusals.{refused_if, refused_with}
use Rattle.procedures.specs.Table.{TableFacts}
use Rattle.procedures.specs.Taking.{lacks_room, outcome_of, settled, taken_by}
use Rattle.procedures.specs.Termination.{terminate_taken}
use Rattle.procedures.specs.Version.{version_taken}
use Rattle.exchange_pairs.specs.Exchange.{Answer, Question, is_idle}
use Rattle.exchange_steps.specs.Answers.{completed, exchange_effect, exchange_kind, exchange_refusal, if_sent, known_by, refusal_code, refused_by, sent_exchange, with_code}
use Rattle.exchange_steps.specs.Ends.{ends_of, version_stage}
use Rattle.exchange_steps.specs.Steps.{EndStep, refusal_if, step_of_ctrl, step_of_read, takes_features, takes_lengths, takes_version, terminates, unless_ended}
use Rattle.exchange_steps.proofs.Apart.{none_of}
use Rattle.exchange_steps.proofs.Same
use Rattle.exchange_steps.proofs.Same.{IsSame, unchanged_same, unknown_same}
use Rattle.exchange_steps.proofs.Taking.{IsNotUnsent, at, features_done, lengths_done}
use Rattle.exchange_steps.proofs.Took.{either_sent, first_sent, has_opcode}

-- the answer is that of a step
pub record IsAnswer (f : TableFacts) (steps : Option EndStep) (read : CtrlRead) (o : Outcome) : Type 0 where
  pub done : exchange_kind o.step.done ≡ completed steps (ends_of f)
  pub refused : exchange_refusal o.step.refused ≡ refused_by steps read (ends_of f)
  pub effect : exchange_effect o.step.effect ≡ known_by steps read (ends_of f)
  -- a PDU that is a step does not end the link
  pub ends : is_some o.step.ends ≡ true → steps ≡ None

plain : (f : TableFacts) (read : CtrlRead) (o : Outcome) → IsSame f o → IsAnswer f None read o
plain f read o same = record { done = same.done; refused = same.refused; effect = same.effect; ends = λ is. refl }

-- ---- the own kind, where it is an exchange that was sent

kind_central : (f : TableFacts) (own : OwnCentral) → IsNotUnsent (exchange_at_central own) → exchange_kind (kind_at_central own) ≡ sent_exchange (at f 0 (exchange_at_central own))
kind_central f (exchange FeaturesSent) is = refl
kind_central f (exchange VersionSent) is = refl
kind_central f (exchange LengthSent) is = refl
kind_central f (exchange FeaturesUnsent) is = absurd is
kind_central f (exchange VersionUnsent) is = absurd is
kind_central f (exchange LengthUnsent) is = absurd is
kind_central f (exclusive stage) is = none_of (central_kind stage)
kind_central f own is = refl

kind_peripheral : (f : TableFacts) (own : OwnPeripheral) → IsNotUnsent (exchange_at_peripheral own) → exchange_kind (kind_at_peripheral own) ≡ sent_exchange (at f 0 (exchange_at_peripheral own))
kind_peripheral f (exchange_p FeaturesSent) is = refl
kind_peripheral f (exchange_p VersionSent) is = refl
kind_peripheral f (exchange_p LengthSent) is = refl
kind_peripheral f (exchange_p FeaturesUnsent) is = absurd is
kind_peripheral f (exchange_p VersionUnsent) is = absurd is
kind_peripheral f (exchange_p LengthUnsent) is = absurd is
kind_peripheral f (exclusive_p stage) is = none_of (peripheral_kind stage)

kind_sent : (f : TableFacts) (p : Progress) → IsNotUnsent (own_exchange p) → exchange_kind (own_kind p) ≡ sent_exchange (at f 0 (own_exchange p))
kind_sent f (central c) is = kind_central f c.own is
kind_sent f (peripheral p) is = kind_peripheral f p.own is

refusal_of : (kind : Option Kind) (code : ErrCode) → exchange_refusal (refused_with kind code) ≡ with_code (exchange_kind kind) code
refusal_of None code = refl
refusal_of (Some kind) code = refl

is_version_stage : (own : Option Exchange) → is_version own ≡ not (is_idle (version_stage own))
is_version_stage (Some VersionUnsent) = refl
is_version_stage (Some VersionSent) = refl
is_version_stage (Some FeaturesUnsent) = refl
is_version_stage (Some FeaturesSent) = refl
is_version_stage (Some LengthUnsent) = refl
is_version_stage (Some LengthSent) = refl
is_version_stage None = refl

module _ (f : TableFacts) where
  -- ---- by PDU

  question_down : (value : ℕ) → IsAnswer f (Some (takes_features Question)) (Known (FeatureReq value)) (features_asked f value)
  question_down value = record { done = refl; refused = refl; effect = refl; ends = λ is. absurd (cc) }

  question_up : (value : ℕ) → IsAnswer f (Some (takes_features Question)) (Known (PeripheralFeatureReq value)) (features_asked f value)
  question_up value = record { done = refl; refused = refl; effect = refl; ends = λ is. absurd (cc) }

  lengths_question : (rx rx_time tx tx_time : ℕ) (cl : Closing) → f.closing ≡ cl
      → IsAnswer f (Some (takes_lengths (record { pdu = Question; rx = rx; tx = tx }))) (Known (LengthReq rx rx_time tx tx_time)) (length_asked f rx tx)
  lengths_question rx rx_time tx tx_time Open is = record { done = refl; refused = refl; effect = rw is refl; ends = λ is. absurd (cc) }
  lengths_question rx rx_time tx tx_time Closed is = record { done = refl; refused = refl; effect = rw is refl; ends = λ is. absurd (cc) }
  lengths_question rx rx_time tx tx_time Disconnecting is = record { done = refl; refused = refl; effect = rw is refl; ends = λ is. absurd (cc) }

  version_pdu : (version company sub : ℕ) → IsAnswer f (Some takes_version) (Known (VersionInd version company sub)) (version_taken f version company sub)
  version_pdu version company sub =
      record {
        done = by (is_version (own_exchange f.progress)) (is_wanted Version f.wanted) (is_version_stage (own_exchange f.progress)) (wanted-counted Version f.wanted);
        refused = refl;
        effect = refl;
        ends = λ is. absurd (cc);
      }
    where
      by : (a b : Bool) → a ≡ not (is_idle (version_stage (own_exchange f.progress))) → b ≡ not (count_of Version f.wanted == 0)
          → exchange_kind (if a || b then Some Version else None) ≡ completed (Some takes_version) (ends_of f)
      by a b first second = both (a || b) ∙ (λ i. if_sent (first i || second i) Version)
        where
          both : (c : Bool) → exchange_kind (if c then Some Version else None) ≡ if_sent c Version
          both true = refl
          both false = refl

  -- by the own exchange
  abbrev IsAnswerAt : Option EndStep → CtrlRead → Option Exchange → Outcome → Type 0
  IsAnswerAt steps read own o =
      (exchange_kind o.step.done ≡ completed steps (at f 0 own)) × ((exchange_refusal o.step.refused ≡ refused_by steps read (at f 0 own))
      × ((exchange_effect o.step.effect ≡ known_by steps read (at f 0 own)) × (is_some o.step.ends ≡ false)))

  from_own : (steps : Option EndStep) (read : CtrlRead) (own : Option Exchange) (o : Outcome) → own_exchange f.progress ≡ own → IsAnswerAt steps read own o
      → IsAnswer f steps read o
  from_own steps read own o is parts =
      record {
        done = parts.0 ∙ ap (λ x. completed steps (at f 0 x)) (sym is);
        refused = parts.1.0 ∙ ap (λ x. refused_by steps read (at f 0 x)) (sym is);
        effect = parts.1.1.0 ∙ ap (λ x. known_by steps read (at f 0 x)) (sym is);
        ends = λ ended. no_end (is_some o.step.ends) parts.1.1.1 ended;
      }
    where
      no_end : (b : Bool) → b ≡ false → b ≡ true → steps ≡ None
      no_end true a b = absurd (cc)
      no_end false a b = absurd (cc)

  features_answer : (value : ℕ) (own : Option Exchange) → own_exchange f.progress ≡ own
      → IsAnswer f (Some (takes_features Answer)) (Known (FeatureRsp value)) (features_taken f value)
  features_answer value own is =
      subst (λ (x : Option Exchange). IsAnswer f (Some (takes_features Answer)) (Known (FeatureRsp value)) (if awaits_features x then features_done f 0 value else unchanged f)) (sym is)
      (from_own (Some (takes_features Answer)) (Known (FeatureRsp value)) own _ is (by own))
    where
      by : (o : Option Exchange) → IsAnswerAt (Some (takes_features Answer)) (Known (FeatureRsp value)) o (if awaits_features o then features_done f 0 value else unchanged f)
      by (Some FeaturesUnsent) = (refl, (refl, (refl, refl)))
      by (Some FeaturesSent) = (refl, (refl, (refl, refl)))
      by (Some VersionUnsent) = (refl, (refl, (refl, refl)))
      by (Some VersionSent) = (refl, (refl, (refl, refl)))
      by (Some LengthUnsent) = (refl, (refl, (refl, refl)))
      by (Some LengthSent) = (refl, (refl, (refl, refl)))
      by None = (refl, (refl, (refl, refl)))

  lengths_answer : (rx rx_time tx tx_time : ℕ) (own : Option Exchange) → own_exchange f.progress ≡ own
      → IsAnswer f (Some (takes_lengths (record { pdu = Answer; rx = rx; tx = tx }))) (Known (LengthRsp rx rx_time tx tx_time)) (length_taken f rx tx)
  lengths_answer rx rx_time tx tx_time own is =
      subst (λ (x : Option Exchange). IsAnswer f (Some (takes_lengths (record { pdu = Answer; rx = rx; tx = tx }))) (Known (LengthRsp rx rx_time tx tx_time)) (if awaits_lengths x then lengths_done f 0 rx tx else unchanged f)) (sym is)
      (from_own (Some (takes_lengths (record { pdu = Answer; rx = rx; tx = tx }))) (Known (LengthRsp rx rx_time tx tx_time)) own _ is (by own))
    where
      by : (o : Option Exchange) → IsAnswerAt (Some (takes_lengths (record { pdu = Answer; rx = rx; tx = tx }))) (Known (LengthRsp rx rx_time tx tx_time)) o (if awaits_lengths o then lengths_done f 0 rx tx else unchanged f)
      by (Some FeaturesUnsent) = (refl, (refl, (refl, refl)))
      by (Some FeaturesSent) = (refl, (refl, (refl, refl)))
      by (Some VersionUnsent) = (refl, (refl, (refl, refl)))
      by (Some VersionSent) = (refl, (refl, (refl, refl)))
      by (Some LengthUnsent) = (refl, (refl, (refl, refl)))
      by (Some LengthSent) = (refl, (refl, (refl, refl)))
      by None = (refl, (refl, (refl, refl)))

  refusal : (read : CtrlRead) (b : Bool) (code : ErrCode) → refusal_code read ≡ code → (b ≡ true → IsNotUnsent (own_exchange f.progress))
      → IsAnswer f (refusal_if b) read (refused_if b f code)
  refusal read true code is sent =
      record {
        done = refl;
        refused =
            refusal_of (own_kind f.progress) code ∙ ap (λ k. with_code k code) (kind_sent f f.progress (sent refl))
            ∙ ap (with_code (sent_exchange (ends_of f))) (sym is);
        effect = refl;
        ends = λ ended. absurd (cc);
      }
  refusal read false code is sent = plain f read (unchanged f) (unchanged_same f)

  ended : (code : ℕ) → IsAnswer f (Some terminates) (Known (TerminateInd code)) (terminate_taken f code)
  ended code = record { done = refl; refused = refl; effect = refl; ends = λ is. absurd (cc) }

  unknown_rsp : (p : Progress) → f.progress ≡ p → (opcode : ℕ)
      → IsAnswer f (refusal_if (is_opcode (first_opcode p) opcode)) (Known (UnknownRsp opcode)) (refused_if (is_opcode (first_opcode f.progress) opcode) f (record { 0 = unsupported_remote_feature }))
  unknown_rsp p is opcode =
      subst (λ (q : Progress). IsAnswer f (refusal_if (is_opcode (first_opcode q) opcode)) (Known (UnknownRsp opcode)) (refused_if (is_opcode (first_opcode f.progress) opcode) f (record { 0 = unsupported_remote_feature }))) is
      (refusal (Known (UnknownRsp opcode)) (is_opcode (first_opcode f.progress) opcode) _ refl (λ is. first_sent f.progress (has_opcode (first_opcode f.progress) opcode is)))

  reject_ind : (p : Progress) → f.progress ≡ p → (code : ℕ)
      → IsAnswer f (refusal_if (is_some (first_opcode p))) (Known (RejectInd code)) (refused_if (is_some (first_opcode f.progress)) f (record { 0 = code }))
  reject_ind p is code =
      subst (λ (q : Progress). IsAnswer f (refusal_if (is_some (first_opcode q))) (Known (RejectInd code)) (refused_if (is_some (first_opcode f.progress)) f (record { 0 = code }))) is
      (refusal (Known (RejectInd code)) (is_some (first_opcode f.progress)) _ refl (first_sent f.progress))

  reject_ext : (p : Progress) → f.progress ≡ p → (opcode code : ℕ)
      → IsAnswer f (refusal_if (is_opcode (first_opcode p) opcode || is_opcode (later_opcode p) opcode)) (Known (RejectExtInd opcode code))
      (refused_if (is_opcode (first_opcode f.progress) opcode || is_opcode (later_opcode f.progress) opcode) f (record { 0 = code }))
  reject_ext p is opcode code =
      subst (λ (q : Progress). IsAnswer f (refusal_if (is_opcode (first_opcode q) opcode || is_opcode (later_opcode q) opcode)) (Known (RejectExtInd opcode code)) (refused_if (is_opcode (first_opcode f.progress) opcode || is_opcode (later_opcode f.progress) opcode) f (record { 0 = code }))) is
      (refusal (Known (RejectExtInd opcode code)) (is_opcode (first_opcode f.progress) opcode || is_opcode (later_opcode f.progress) opcode) _ refl
      (either_sent f.progress opcode (is_opcode (first_opcode f.progress) opcode) (is_opcode (later_opcode f.progress) opcode) refl refl))

  taken_central : (c : Central) → f.progress ≡ central c → (quiet : Bool) (ctrl : Ctrl)
      → IsAnswer f (step_of_ctrl (central c) ctrl) (Known ctrl) (taken_by (central c) f quiet ctrl)
  taken_central c is quiet (ConnectionUpdateInd win_size win_offset interval latency timeout instant) = plain f _ _ (unknown_same f _)
  taken_central c is quiet (ChannelMapInd map instant) = plain f _ _ (unknown_same f _)
  taken_central c is quiet (TerminateInd code) = ended code
  taken_central c is quiet (EncReq rand ediv skd_m iv_m) = plain f _ _ (unknown_same f _)
  taken_central c is quiet (EncRsp skd_s iv_s) = plain f _ _ (Same.cipher_same f c is quiet (EncRsp skd_s iv_s))
  taken_central c is quiet StartEncReq = plain f _ _ (Same.cipher_same f c is quiet StartEncReq)
  taken_central c is quiet StartEncRsp = plain f _ _ (Same.start_rsp_same f c is quiet StartEncRsp)
  taken_central c is quiet (UnknownRsp opcode) = unknown_rsp (central c) is opcode
  taken_central c is quiet (FeatureReq value) = plain f _ _ (unknown_same f _)
  taken_central c is quiet (FeatureRsp value) = features_answer value (own_exchange f.progress) refl
  taken_central c is quiet PauseEncReq = plain f _ _ (unknown_same f _)
  taken_central c is quiet PauseEncRsp = plain f _ _ (Same.cipher_same f c is quiet PauseEncRsp)
  taken_central c is quiet (VersionInd version company sub) = version_pdu version company sub
  taken_central c is quiet (RejectInd code) = reject_ind (central c) is code
  taken_central c is quiet (PeripheralFeatureReq value) = question_up value
  taken_central c is quiet (ConnectionParamReq min max latency timeout periodicity reference offsets) = plain f _ _ (Same.request_same f c is min max latency timeout)
  taken_central c is quiet (ConnectionParamRsp min max latency timeout periodicity reference offsets) = plain f _ _ (unknown_same f _)
  taken_central c is quiet (RejectExtInd opcode code) = reject_ext (central c) is opcode code
  taken_central c is quiet (LengthReq rx rx_time tx tx_time) = lengths_question rx rx_time tx tx_time f.closing refl
  taken_central c is quiet (LengthRsp rx rx_time tx tx_time) = lengths_answer rx rx_time tx tx_time (own_exchange f.progress) refl
  taken_central c is quiet (PhyReq tx rx) = plain f _ _ (Same.phy_req_same f c is)
  taken_central c is quiet (PhyRsp tx rx) = plain f _ _ (Same.phy_rsp_same f c is)
  taken_central c is quiet (PhyUpdateInd to_peripheral to_central instant) = plain f _ _ (unknown_same f _)

  taken_peripheral : (p : Peripheral) → f.progress ≡ peripheral p → (quiet : Bool) (ctrl : Ctrl)
      → IsAnswer f (step_of_ctrl (peripheral p) ctrl) (Known ctrl) (taken_by (peripheral p) f quiet ctrl)
  taken_peripheral p is quiet (ConnectionUpdateInd win_size win_offset interval latency timeout instant) = plain f _ _ (Same.update_same f p is _)
  taken_peripheral p is quiet (ChannelMapInd map instant) = plain f _ _ (Same.map_same f p is _)
  taken_peripheral p is quiet (TerminateInd code) = ended code
  taken_peripheral p is quiet (EncReq rand ediv skd_m iv_m) = plain f _ _ (Same.encryption_same f p is (EncReq rand ediv skd_m iv_m))
  taken_peripheral p is quiet (EncRsp skd_s iv_s) = plain f _ _ (unknown_same f _)
  taken_peripheral p is quiet StartEncReq = plain f _ _ (unknown_same f _)
  taken_peripheral p is quiet StartEncRsp = plain f _ _ (Same.last_rsp_same f p is quiet StartEncRsp)
  taken_peripheral p is quiet (UnknownRsp opcode) = unknown_rsp (peripheral p) is opcode
  taken_peripheral p is quiet (FeatureReq value) = question_down value
  taken_peripheral p is quiet (FeatureRsp value) = features_answer value (own_exchange f.progress) refl
  taken_peripheral p is quiet PauseEncReq = plain f _ _ (Same.encryption_same f p is PauseEncReq)
  taken_peripheral p is quiet PauseEncRsp = plain f _ _ (Same.pause_rsp_same f p is quiet PauseEncRsp)
  taken_peripheral p is quiet (VersionInd version company sub) = version_pdu version company sub
  taken_peripheral p is quiet (RejectInd code) = reject_ind (peripheral p) is code
  taken_peripheral p is quiet (PeripheralFeatureReq value) = plain f _ _ (unknown_same f _)
  taken_peripheral p is quiet (ConnectionParamReq min max latency timeout periodicity reference offsets) = plain f _ _ (unknown_same f _)
  taken_peripheral p is quiet (ConnectionParamRsp min max latency timeout periodicity reference offsets) = plain f _ _ (unknown_same f _)
  taken_peripheral p is quiet (RejectExtInd opcode code) = reject_ext (peripheral p) is opcode code
  taken_peripheral p is quiet (LengthReq rx rx_time tx tx_time) = lengths_question rx rx_time tx tx_time f.closing refl
  taken_peripheral p is quiet (LengthRsp rx rx_time tx tx_time) = lengths_answer rx rx_time tx tx_time (own_exchange f.progress) refl
  taken_peripheral p is quiet (PhyReq tx rx) = plain f _ _ (Same.phy_req_p_same f p is)
  taken_peripheral p is quiet (PhyRsp tx rx) = plain f _ _ (unchanged_same f)
  taken_peripheral p is quiet (PhyUpdateInd to_peripheral to_central instant) = plain f _ _ (Same.phy_ind_same f p is)

  taken : (p : Progress) → f.progress ≡ p → (quiet : Bool) (ctrl : Ctrl) → IsAnswer f (step_of_ctrl p ctrl) (Known ctrl) (taken_by p f quiet ctrl)
  taken (central c) is quiet ctrl = taken_central c is quiet ctrl
  taken (peripheral p) is quiet ctrl = taken_peripheral p is quiet ctrl

  read_taken : (quiet : Bool) (read : CtrlRead) → IsAnswer f (step_of_read f.progress read) read (outcome_of f quiet read)
  read_taken quiet (Known ctrl) = taken f.progress refl quiet ctrl
  read_taken quiet (Unknown opcode) = plain f (Unknown opcode) _ (unknown_same f opcode)
  read_taken quiet Bare = plain f Bare _ (unchanged_same f)

  -- ---- the answer of the table

  abbrev Answers : Option EndStep → CtrlRead → ℕ → Outcome → Type 0
  Answers steps read slot o =
      (exchange_kind (settled f slot o).1.done ≡ completed (unless_ended (settled f slot o).1 steps) (ends_of f))
      × ((exchange_refusal (settled f slot o).1.refused ≡ refused_by (unless_ended (settled f slot o).1 steps) read (ends_of f))
      × (exchange_effect (settled f slot o).1.effect ≡ known_by (unless_ended (settled f slot o).1 steps) read (ends_of f)))

  settled_by : (steps : Option EndStep) (read : CtrlRead) (slot : ℕ) (o : Outcome) (lacks ends : Bool) → lacks_room f o ≡ lacks → is_some o.step.ends ≡ ends
      → IsAnswer f steps read o → Answers steps read slot o
  settled_by steps read slot o true ends l e is = rw l (refl, (refl, refl))
  settled_by steps read slot o false true l e is =
      rw (l, e) (
        is.done ∙ ap (λ s. completed s (ends_of f)) (is.ends e) ∙ ap (λ b. completed (if b then None else steps) (ends_of f)) (sym e),
        (
          is.refused ∙ ap (λ s. refused_by s read (ends_of f)) (is.ends e) ∙ ap (λ b. refused_by (if b then None else steps) read (ends_of f)) (sym e),
          is.effect ∙ ap (λ s. known_by s read (ends_of f)) (is.ends e) ∙ ap (λ b. known_by (if b then None else steps) read (ends_of f)) (sym e),
        ),
      )
  settled_by steps read slot o false false l e is =
      rw (l, e) (
        is.done ∙ ap (λ b. completed (if b then None else steps) (ends_of f)) (sym e),
        (
          is.refused ∙ ap (λ b. refused_by (if b then None else steps) read (ends_of f)) (sym e),
          is.effect ∙ ap (λ b. known_by (if b then None else steps) read (ends_of f)) (sym e),
        ),
      )

  pub answers : (read : CtrlRead) (slot : ℕ) (quiet : Bool) → Answers (step_of_read f.progress read) read slot (outcome_of f quiet read)
  answers read slot quiet =
      settled_by (step_of_read f.progress read) read slot (outcome_of f quiet read) (lacks_room f (outcome_of f quiet read)) (is_some (outcome_of f quiet read).step.ends)
      refl refl (read_taken quiet read)
