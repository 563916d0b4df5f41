-- A peripheral takes a PDU.
use Rattle.std.proofs.Common.{◌≡◌, ℕ, ◌==◌, Bool, true, false, [], ◌∷◌, ◌++◌, Option, Some, None, is_some, if◌then◌else◌, append-nil, eqb-true, refl, ap, sym, ◌∙◌, subst}
use Rattle.ble_base.specs.declared.error_codes.ErrCode.{ErrCode}
use Rattle.ble_base.specs.declared.procedure_kinds.Kind.{Kind}
use Rattle.instants.specs.declared.indications.Indication.{Indication}
use Rattle.procedure_values.specs.declared.drafts.Draft.{Draft}
use Rattle.procedure_values.specs.declared.drafts.Draft.TheVariants.{PhyRsp as PhyRspDraft, VersionInd as VersionDraft}
use Rattle.data_pdu.specs.declared.ctrl.Ctrl.{Ctrl}
use Rattle.data_pdu.specs.declared.ctrl.Ctrl.TheVariants.{ConnectionUpdateInd, ChannelMapInd, TerminateInd, EncReq, StartEncRsp, UnknownRsp, FeatureRsp, PauseEncReq, PauseEncRsp, VersionInd, RejectInd, RejectExtInd, LengthRsp, PhyReq, PhyRsp, PhyUpdateInd}
use Rattle.data_pdu.specs.declared.ctrl.CtrlRead.{CtrlRead}
use Rattle.data_pdu.specs.declared.ctrl.CtrlRead.TheVariants.{Known, Unknown, Bare}
use Rattle.procedures.specs.declared.outcome.Outcome.{Outcome}
use Rattle.procedure_stages.specs.declared.stages.Ahead.{Ahead}
use Rattle.procedure_stages.specs.declared.stages.Ahead.TheVariants.{Nothing, Update, Map}
use Rattle.procedure_stages.specs.declared.stages.Exchange.{Exchange}
use Rattle.procedure_stages.specs.declared.stages.Exchange.TheVariants.{FeaturesUnsent, FeaturesSent, VersionUnsent, VersionSent, LengthUnsent, LengthSent}
use Rattle.procedure_stages.specs.declared.stages.OwnPeripheral.{OwnPeripheral}
use Rattle.procedure_stages.specs.declared.stages.OwnPeripheral.TheVariants.{Exclusive as exclusive, Exchange as exchange}
use Rattle.exclusive_stages.specs.declared.stages.PeripheralStage.TheVariants.{Idle, RequestUnsent, RequestSent, RequestAcknowledged, RequestGranted, PhyUnsent, PhySent}
use Rattle.exclusive_stages.specs.declared.stages.PeerAtPeripheral.{PeerAtPeripheral}
use Rattle.exclusive_stages.specs.declared.stages.PeerAtPeripheral.TheVariants.{MapTaken, PhyRspUnsent}
use Rattle.procedure_stages.specs.declared.stages.Peripheral.{Peripheral}
use Rattle.procedure_stages.specs.declared.stages.Progress.TheVariants.{Peripheral as peripheral}
use Rattle.procedure_stages.specs.declared.closing.Closing.{Closing}
use Rattle.procedure_stages.specs.declared.closing.Closing.TheVariants.{Open, Closed, Disconnecting}
use Rattle.procedure_stages.specs.declared.steps.Step.{Step}
use Rattle.ble_base.specs.declared.procedure_kinds.Kind.TheVariants.{Version as version_kind}
use Rattle.procedure_values.specs.Wants.{is_wanted}
use Rattle.procedure_stages.specs.Exclusive.{pdu_of_draft, peripheral_stage}
use Rattle.procedure_stages.specs.Kinds.{kind_at_peripheral, kind_of_exchange}
use Rattle.procedure_stages.specs.Queue.{QueueFacts, with_draft}
use Rattle.procedure_stages.specs.Steps.{asks_host}
use Rattle.procedures.specs.Table.{TableFacts}
use Rattle.procedure_stages.specs.Closing.{is_open}
use Rattle.procedures.specs.Taking.{facts_with, lacks_room, outcome_of, settled, taken_by, took_step}
use Rattle.procedure_stages.specs.Opcodes.{is_opcode, opcode_at_peripheral}
use Rattle.procedures.specs.Refusals.{refused_if, refused_with, reject_ext_taken}
use Rattle.procedures.specs.Update.{update_taken}
use Rattle.procedures.specs.Map.{map_taken}
use Rattle.procedures.specs.Phy.{phy_ind_taken, phy_req_at_peripheral}
use Rattle.procedures.specs.Features.{features_taken}
use Rattle.procedures.specs.Length.{length_taken}
use Rattle.procedures.specs.Version.{version_taken}
use Rattle.procedures.specs.Encryption.{pause_rsp_at_peripheral, start_rsp_at_peripheral}
use Rattle.exclusive_stages.specs.Awaited.{central_answered, has_phy_of_central, reads_as_answer}
use Rattle.exclusive_stages.specs.Kinds.{kind_sent_by_peripheral, peripheral_kind}
use Rattle.exclusive_stages.specs.declared.pdus.Exclusive.{Exclusive}
use Rattle.exclusive_stages.specs.declared.pdus.Exclusive.TheVariants.{Update as UpdateKind, Request as RequestKind, Map as MapKind, Phy as PhyKind}
use Rattle.exclusive_stages.specs.declared.pdus.Pdu.{Pdu}
use Rattle.exclusive_stages.specs.declared.pdus.Pdu.TheVariants.{UpdateInd, GrantInd, MapInd, PhyReq as PhyReqPdu, PhyRsp as PhyRspPdu, PhyInd, RejectParam, RejectPhy, Refusal}
use Rattle.exclusive_stages.specs.Pdus.{reason_of}
use Rattle.collisions.specs.declared.peripheral.Peripheral.{Peripheral as JointPeripheral}
use Rattle.collisions.specs.declared.joint.End.{End}
use Rattle.collisions.specs.declared.joint.End.TheVariants.{Open as JointOpen, Collided}
use Rattle.collisions.specs.PeripheralTable
use Rattle.collision_steps.specs.Answers.{code_of_end, code_of_refusal, exclusive_done, exclusive_refusal, refusal_with, stops_run}
use Rattle.collision_steps.specs.Parts.{drafts_part, param_request_opcode, phy_request_opcode, with_part}
use Rattle.collision_steps.specs.PeripheralPart.{PeripheralStep, answer_to, begins, done_by, enters, peripheral_of, refusal_if, refused_kind, sees_acknowledged, sends, step_of_ctrl, step_of_read, step_of_rejection, takes, terminates, view}
use Rattle.collision_steps.proofs.CentralTaking.{drafts_more, named, step_of_settled, version_apart}
use Rattle.collision_steps.proofs.CentralGoing.{not_over}

-- a PDU of another kind that is queued changes nothing
pub other_draft : (p : Peripheral) (d : Draft) (cl : Closing) (q : QueueFacts) → pdu_of_draft d ≡ None
    → view (peripheral p) (is_open cl) (with_draft cl d q).drafts ≡ view (peripheral p) (is_open cl) q.drafts
other_draft p d Open q none =
    let same : drafts_part (q.drafts ++ d ∷ []) ≡ drafts_part q.drafts =
    drafts_more q.drafts d ∙ ap (λ first. drafts_part q.drafts ++ with_part first []) none ∙ append-nil (drafts_part q.drafts) in
    λ i. record (view (peripheral p) true q.drafts) { queue = record { items = same i } }
other_draft p d Closed q none = refl
other_draft p d Disconnecting q none = refl

-- one of these kinds is queued as joint runs have it
pub one_draft : (p : Peripheral) (d : Draft) (pdu : Pdu) (cl : Closing) (q : QueueFacts) → pdu_of_draft d ≡ Some pdu
    → view (peripheral p) (is_open cl) (with_draft cl d q).drafts ≡ PeripheralTable.queued pdu (view (peripheral p) (is_open cl) q.drafts)
one_draft p d pdu Open q is =
    let same : drafts_part (q.drafts ++ d ∷ []) ≡ drafts_part q.drafts ++ pdu ∷ [] =
    drafts_more q.drafts d ∙ ap (λ first. drafts_part q.drafts ++ with_part first []) is in
    λ i. record (view (peripheral p) true q.drafts) { queue = record { items = same i } }
one_draft p d pdu Closed q is = refl
one_draft p d pdu Disconnecting q is = refl

abbrev pub p_of : OwnPeripheral → PeerAtPeripheral → Ahead → Bool → Peripheral
p_of own peer ahead encrypting = record { own = own; peer = peer; ahead = ahead; encrypting = encrypting }

abbrev pub at : TableFacts → OwnPeripheral → PeerAtPeripheral → Ahead → Bool → TableFacts
at f own peer ahead encrypting = record f { progress = peripheral (p_of own peer ahead encrypting) }

-- what an outcome is in a joint run: the table and the end of the link, and what the host hears; it is never asked
record Answers (f : TableFacts) (slot : ℕ) (o : Outcome) (answer : JointPeripheral × End) (refusal : Option (Kind × ErrCode)) (over : Option Kind) : Type 0 where
  pub part : peripheral_of (facts_with f slot o) ≡ answer.0
  pub ends : o.step.ends ≡ code_of_end answer.1
  pub refused : exclusive_refusal o.step.refused ≡ refusal
  pub done : exclusive_done o.step.done ≡ over
  pub host : asks_host o.step.effect ≡ false

-- an exchange that is refused is none of these
exchange_refused : (stage : Exchange) (code : ErrCode) → exclusive_refusal (Some (kind_of_exchange stage, code)) ≡ None
exchange_refused FeaturesUnsent code = refl
exchange_refused FeaturesSent code = refl
exchange_refused VersionUnsent code = refl
exchange_refused VersionSent code = refl
exchange_refused LengthUnsent code = refl
exchange_refused LengthSent code = refl

-- a procedure whose first PDU was sent is over as it is refused, and it is the one that the host hears of
record Refusable (own : OwnPeripheral) (code : ErrCode) : Type 0 where
  pub over : PeripheralTable.own_after_refusal (peripheral_stage own) ≡ Idle
  pub told : exclusive_refusal (refused_with (kind_at_peripheral own) code) ≡ refusal_with (kind_sent_by_peripheral (peripheral_stage own)) code

refusable : (own : OwnPeripheral) (code : ErrCode) → is_some (opcode_at_peripheral own) ≡ true → Refusable own code
refusable (exclusive RequestSent) code h = record { over = refl; told = refl }
refusable (exclusive RequestAcknowledged) code h = record { over = refl; told = refl }
refusable (exclusive RequestGranted) code h = record { over = refl; told = refl }
refusable (exclusive PhySent) code h = record { over = refl; told = refl }
refusable (exclusive other) code h = absurd (cc)
refusable (exchange stage) code h = record { over = refl; told = exchange_refused stage code }

module _ (f : TableFacts) (encrypting : Bool) (slot : ℕ) where
  abbrev table : OwnPeripheral → PeerAtPeripheral → Ahead → JointPeripheral
  table own peer ahead = peripheral_of (at f own peer ahead encrypting)

  abbrev Does : OwnPeripheral → PeerAtPeripheral → Ahead → Outcome → JointPeripheral × End → Option (Kind × ErrCode) → Option Kind → Type 0
  Does own peer ahead o answer refusal over = Answers (at f own peer ahead encrypting) slot o answer refusal over

  -- the PDU is of no concern to the procedures that exclude each other
  abbrev Ignores : OwnPeripheral → PeerAtPeripheral → Ahead → Outcome → Type 0
  Ignores own peer ahead o = Does own peer ahead o (table own peer ahead, JointOpen) None None

  update_by : (own : OwnPeripheral) (peer : PeerAtPeripheral) (ahead : Ahead) (indication : Indication) (b : Bool) → reads_as_answer (peripheral_stage own) ≡ b
      → Does own peer ahead (update_taken (at f own peer ahead encrypting) (p_of own peer ahead encrypting) indication)
      (PeripheralTable.taken false UpdateInd (table own peer ahead)) None None
  update_by own peer Nothing indication true is = rw is (record { part = refl; ends = refl; refused = refl; done = refl; host = refl })
  update_by own peer Nothing indication false is = rw is (record { part = refl; ends = refl; refused = refl; done = refl; host = refl })
  update_by own peer Update indication b is = record { part = refl; ends = refl; refused = refl; done = refl; host = refl }
  update_by own peer Map indication b is = record { part = refl; ends = refl; refused = refl; done = refl; host = refl }

  map_apart : (own : OwnPeripheral) (peer : PeerAtPeripheral) (ahead : Ahead) (indication : Indication) → central_answered (peripheral_stage own) ≡ false
      → Does own peer ahead (map_taken (at f own peer ahead encrypting) (p_of own peer ahead encrypting) indication)
      (PeripheralTable.taken false MapInd (table own peer ahead)) None None
  map_apart own peer Nothing indication is = rw is (record { part = refl; ends = refl; refused = refl; done = refl; host = refl })
  map_apart own peer Update indication is = rw is (record { part = refl; ends = refl; refused = refl; done = refl; host = refl })
  map_apart own peer Map indication is = rw is (record { part = refl; ends = refl; refused = refl; done = refl; host = refl })

  map : (own : OwnPeripheral) (peer : PeerAtPeripheral) (ahead : Ahead) (indication : Indication)
      → Does own peer ahead (map_taken (at f own peer ahead encrypting) (p_of own peer ahead encrypting) indication)
      (PeripheralTable.taken false MapInd (table own peer ahead)) None None
  map (exclusive RequestGranted) peer ahead indication = record { part = refl; ends = refl; refused = refl; done = refl; host = refl }
  map (exclusive other) peer ahead indication = map_apart (exclusive other) peer ahead indication refl
  map (exchange stage) peer ahead indication = map_apart (exchange stage) peer ahead indication refl

  phy_apart : (own : OwnPeripheral) (peer : PeerAtPeripheral) (ahead : Ahead) → central_answered (peripheral_stage own) ≡ false
      → Does own peer ahead (phy_req_at_peripheral (at f own peer ahead encrypting) (p_of own peer ahead encrypting))
      (PeripheralTable.taken false PhyReqPdu (table own peer ahead)) None None
  phy_apart own peer ahead is =
      rw is (record { part = one_draft (p_of own PhyRspUnsent ahead encrypting) PhyRspDraft PhyRspPdu f.closing f.queue refl; ends = refl; refused = refl; done = refl; host = refl })

  phy_request : (own : OwnPeripheral) (peer : PeerAtPeripheral) (ahead : Ahead)
      → Does own peer ahead (phy_req_at_peripheral (at f own peer ahead encrypting) (p_of own peer ahead encrypting))
      (PeripheralTable.taken false PhyReqPdu (table own peer ahead)) None None
  phy_request (exclusive RequestGranted) peer ahead = record { part = refl; ends = refl; refused = refl; done = refl; host = refl }
  phy_request (exclusive other) peer ahead = phy_apart (exclusive other) peer ahead refl
  phy_request (exchange stage) peer ahead = phy_apart (exchange stage) peer ahead refl

  phy_ind_by : (own : OwnPeripheral) (peer : PeerAtPeripheral) (ahead : Ahead) (b : Bool) → has_phy_of_central peer ≡ b
      → Does own peer ahead (phy_ind_taken (at f own peer ahead encrypting) (p_of own peer ahead encrypting))
      (PeripheralTable.taken false PhyInd (table own peer ahead)) None (done_by (Some (takes PhyInd)) (table own peer ahead))
  phy_ind_by own peer ahead true is =
      rw is (record { part = refl; ends = refl; refused = refl; done = sym (not_over (peripheral_kind (peripheral_stage own))); host = refl })
  phy_ind_by (exclusive PhySent) peer ahead false is = rw is (record { part = refl; ends = refl; refused = refl; done = refl; host = refl })
  phy_ind_by (exclusive Idle) peer ahead false is = rw is (record { part = refl; ends = refl; refused = refl; done = refl; host = refl })
  phy_ind_by (exclusive RequestUnsent) peer ahead false is = rw is (record { part = refl; ends = refl; refused = refl; done = refl; host = refl })
  phy_ind_by (exclusive RequestSent) peer ahead false is = rw is (record { part = refl; ends = refl; refused = refl; done = refl; host = refl })
  phy_ind_by (exclusive RequestAcknowledged) peer ahead false is = rw is (record { part = refl; ends = refl; refused = refl; done = refl; host = refl })
  phy_ind_by (exclusive RequestGranted) peer ahead false is = rw is (record { part = refl; ends = refl; refused = refl; done = refl; host = refl })
  phy_ind_by (exclusive PhyUnsent) peer ahead false is = rw is (record { part = refl; ends = refl; refused = refl; done = refl; host = refl })
  phy_ind_by (exchange stage) peer ahead false is = rw is (record { part = refl; ends = refl; refused = refl; done = refl; host = refl })

  refusal : (own : OwnPeripheral) (peer : PeerAtPeripheral) (ahead : Ahead) (code : ErrCode) (b : Bool) → (b ≡ true → is_some (opcode_at_peripheral own) ≡ true)
      → Does own peer ahead (refused_if b (at f own peer ahead encrypting) code) (answer_to (refusal_if b) (table own peer ahead))
      (refusal_with (refused_kind (refusal_if b) (peripheral_stage own)) code) (done_by (refusal_if b) (table own peer ahead))
  refusal own peer ahead code true is =
      let may = refusable own code (is refl) in
      let ends = sym may.over in
      record { part = λ i. record (table own peer ahead) { own = ends i }; ends = refl; refused = may.told; done = refl; host = refl }
  refusal own peer ahead code false is = record { part = refl; ends = refl; refused = refl; done = refl; host = refl }

  abbrev Rejects : OwnPeripheral → PeerAtPeripheral → Ahead → ℕ → ℕ → Type 0
  Rejects own peer ahead opcode code =
      Does own peer ahead (reject_ext_taken (at f own peer ahead encrypting) opcode code)
      (answer_to (step_of_rejection (peripheral (p_of own peer ahead encrypting)) opcode (record { 0 = code })) (table own peer ahead))
      (refusal_with (refused_kind (step_of_rejection (peripheral (p_of own peer ahead encrypting)) opcode (record { 0 = code })) (peripheral_stage own)) (record { 0 = code }))
      (done_by (step_of_rejection (peripheral (p_of own peer ahead encrypting)) opcode (record { 0 = code })) (table own peer ahead))

  exchange_rejected : (stage : Exchange) (peer : PeerAtPeripheral) (ahead : Ahead) (opcode code : ℕ) (x y b : Bool)
      → (param_request_opcode == opcode) ≡ x → (phy_request_opcode == opcode) ≡ y → is_opcode (opcode_at_peripheral (exchange stage)) opcode ≡ b
      → Rejects (exchange stage) peer ahead opcode code
  exchange_rejected stage peer ahead opcode code true y true p q e = rw (p, e) (record { part = refl; ends = refl; refused = exchange_refused stage (record { 0 = code }); done = refl; host = refl })
  exchange_rejected stage peer ahead opcode code true y false p q e = rw (p, e) (record { part = refl; ends = refl; refused = refl; done = refl; host = refl })
  exchange_rejected stage peer ahead opcode code false true true p q e = rw (p, q, e) (record { part = refl; ends = refl; refused = exchange_refused stage (record { 0 = code }); done = refl; host = refl })
  exchange_rejected stage peer ahead opcode code false true false p q e = rw (p, q, e) (record { part = refl; ends = refl; refused = refl; done = refl; host = refl })
  exchange_rejected stage peer ahead opcode code false false true p q e = rw (p, q, e) (record { part = refl; ends = refl; refused = exchange_refused stage (record { 0 = code }); done = refl; host = refl })
  exchange_rejected stage peer ahead opcode code false false false p q e = rw (p, q, e) (record { part = refl; ends = refl; refused = refl; done = refl; host = refl })

  -- an opcode is not two
  phy_rejected : (peer : PeerAtPeripheral) (ahead : Ahead) (opcode code : ℕ) → (param_request_opcode == opcode) ≡ true
      → Rejects (exclusive PhySent) peer ahead opcode code
  phy_rejected peer ahead opcode code p =
      subst (λ n. Rejects (exclusive PhySent) peer ahead n code) (eqb-true param_request_opcode opcode p) (record { part = refl; ends = refl; refused = refl; done = refl; host = refl })

  rejected_by : (own : OwnPeripheral) (peer : PeerAtPeripheral) (ahead : Ahead) (opcode code : ℕ) (x y : Bool)
      → (param_request_opcode == opcode) ≡ x → (phy_request_opcode == opcode) ≡ y → Rejects own peer ahead opcode code
  rejected_by (exclusive RequestSent) peer ahead opcode code true y p q = rw p (record { part = refl; ends = refl; refused = refl; done = refl; host = refl })
  rejected_by (exclusive RequestSent) peer ahead opcode code false true p q = rw (p, q) (record { part = refl; ends = refl; refused = refl; done = refl; host = refl })
  rejected_by (exclusive RequestSent) peer ahead opcode code false false p q = rw (p, q) (record { part = refl; ends = refl; refused = refl; done = refl; host = refl })
  rejected_by (exclusive RequestAcknowledged) peer ahead opcode code true y p q = rw p (record { part = refl; ends = refl; refused = refl; done = refl; host = refl })
  rejected_by (exclusive RequestAcknowledged) peer ahead opcode code false true p q = rw (p, q) (record { part = refl; ends = refl; refused = refl; done = refl; host = refl })
  rejected_by (exclusive RequestAcknowledged) peer ahead opcode code false false p q = rw (p, q) (record { part = refl; ends = refl; refused = refl; done = refl; host = refl })
  rejected_by (exclusive RequestGranted) peer ahead opcode code true y p q = rw p (record { part = refl; ends = refl; refused = refl; done = refl; host = refl })
  rejected_by (exclusive RequestGranted) peer ahead opcode code false true p q = rw (p, q) (record { part = refl; ends = refl; refused = refl; done = refl; host = refl })
  rejected_by (exclusive RequestGranted) peer ahead opcode code false false p q = rw (p, q) (record { part = refl; ends = refl; refused = refl; done = refl; host = refl })
  rejected_by (exclusive PhySent) peer ahead opcode code true y p q = phy_rejected peer ahead opcode code p
  rejected_by (exclusive PhySent) peer ahead opcode code false true p q = rw (p, q) (record { part = refl; ends = refl; refused = refl; done = refl; host = refl })
  rejected_by (exclusive PhySent) peer ahead opcode code false false p q = rw (p, q) (record { part = refl; ends = refl; refused = refl; done = refl; host = refl })
  rejected_by (exclusive Idle) peer ahead opcode code true y p q = rw p (record { part = refl; ends = refl; refused = refl; done = refl; host = refl })
  rejected_by (exclusive Idle) peer ahead opcode code false true p q = rw (p, q) (record { part = refl; ends = refl; refused = refl; done = refl; host = refl })
  rejected_by (exclusive Idle) peer ahead opcode code false false p q = rw (p, q) (record { part = refl; ends = refl; refused = refl; done = refl; host = refl })
  rejected_by (exclusive RequestUnsent) peer ahead opcode code true y p q = rw p (record { part = refl; ends = refl; refused = refl; done = refl; host = refl })
  rejected_by (exclusive RequestUnsent) peer ahead opcode code false true p q = rw (p, q) (record { part = refl; ends = refl; refused = refl; done = refl; host = refl })
  rejected_by (exclusive RequestUnsent) peer ahead opcode code false false p q = rw (p, q) (record { part = refl; ends = refl; refused = refl; done = refl; host = refl })
  rejected_by (exclusive PhyUnsent) peer ahead opcode code true y p q = rw p (record { part = refl; ends = refl; refused = refl; done = refl; host = refl })
  rejected_by (exclusive PhyUnsent) peer ahead opcode code false true p q = rw (p, q) (record { part = refl; ends = refl; refused = refl; done = refl; host = refl })
  rejected_by (exclusive PhyUnsent) peer ahead opcode code false false p q = rw (p, q) (record { part = refl; ends = refl; refused = refl; done = refl; host = refl })
  rejected_by (exchange stage) peer ahead opcode code x y p q =
      exchange_rejected stage peer ahead opcode code x y (is_opcode (opcode_at_peripheral (exchange stage)) opcode) p q refl

  features : (own : OwnPeripheral) (peer : PeerAtPeripheral) (ahead : Ahead) (value : ℕ) → Ignores own peer ahead (features_taken (at f own peer ahead encrypting) value)
  features (exchange FeaturesSent) peer ahead value = record { part = refl; ends = refl; refused = refl; done = refl; host = refl }
  features (exchange other) peer ahead value = record { part = refl; ends = refl; refused = refl; done = refl; host = refl }
  features (exclusive stage) peer ahead value = record { part = refl; ends = refl; refused = refl; done = refl; host = refl }

  lengths : (own : OwnPeripheral) (peer : PeerAtPeripheral) (ahead : Ahead) (rx tx : ℕ) → Ignores own peer ahead (length_taken (at f own peer ahead encrypting) rx tx)
  lengths (exchange LengthSent) peer ahead rx tx = record { part = refl; ends = refl; refused = refl; done = refl; host = refl }
  lengths (exchange other) peer ahead rx tx = record { part = refl; ends = refl; refused = refl; done = refl; host = refl }
  lengths (exclusive stage) peer ahead rx tx = record { part = refl; ends = refl; refused = refl; done = refl; host = refl }

  versions_by : (own : OwnPeripheral) (peer : PeerAtPeripheral) (ahead : Ahead) (version company sub : ℕ) (used : Bool) → f.version_used ≡ used
      → Ignores own peer ahead (version_taken (at f own peer ahead encrypting) version company sub)
  versions_by (exchange VersionUnsent) peer ahead version company sub true is = rw is (record { part = refl; ends = refl; refused = refl; done = version_apart true; host = refl })
  versions_by (exchange VersionUnsent) peer ahead version company sub false is =
      rw is (record { part = other_draft (p_of (exclusive Idle) peer ahead encrypting) VersionDraft f.closing f.queue refl; ends = refl; refused = refl; done = version_apart true; host = refl })
  versions_by (exchange VersionSent) peer ahead version company sub true is = rw is (record { part = refl; ends = refl; refused = refl; done = version_apart true; host = refl })
  versions_by (exchange VersionSent) peer ahead version company sub false is =
      rw is (record { part = other_draft (p_of (exclusive Idle) peer ahead encrypting) VersionDraft f.closing f.queue refl; ends = refl; refused = refl; done = version_apart true; host = refl })
  versions_by (exchange other) peer ahead version company sub true is = rw is (record { part = refl; ends = refl; refused = refl; done = version_apart (is_wanted version_kind f.wanted); host = refl })
  versions_by (exchange other) peer ahead version company sub false is =
      rw is (record { part = other_draft (p_of (exchange other) peer ahead encrypting) VersionDraft f.closing f.queue refl; ends = refl; refused = refl; done = version_apart (is_wanted version_kind f.wanted); host = refl })
  versions_by (exclusive stage) peer ahead version company sub true is = rw is (record { part = refl; ends = refl; refused = refl; done = version_apart (is_wanted version_kind f.wanted); host = refl })
  versions_by (exclusive stage) peer ahead version company sub false is =
      rw is (record { part = other_draft (p_of (exclusive stage) peer ahead encrypting) VersionDraft f.closing f.queue refl; ends = refl; refused = refl; done = version_apart (is_wanted version_kind f.wanted); host = refl })

  paused : (own : OwnPeripheral) (peer : PeerAtPeripheral) (ahead : Ahead) (quiet : Bool)
      → Ignores own peer ahead (pause_rsp_at_peripheral (at f own peer ahead encrypting) quiet PauseEncRsp)
  paused own peer ahead true = record { part = refl; ends = refl; refused = refl; done = refl; host = refl }
  paused own peer ahead false = record { part = refl; ends = refl; refused = refl; done = refl; host = refl }

  started : (own : OwnPeripheral) (peer : PeerAtPeripheral) (ahead : Ahead) (quiet : Bool)
      → Ignores own peer ahead (start_rsp_at_peripheral (at f own peer ahead encrypting) (p_of own peer ahead encrypting) quiet StartEncRsp)
  started own peer ahead true = record { part = refl; ends = refl; refused = refl; done = refl; host = refl }
  started own peer ahead false = record { part = refl; ends = refl; refused = refl; done = refl; host = refl }

  unknown : (own : OwnPeripheral) (peer : PeerAtPeripheral) (ahead : Ahead) (d : Draft) (o : Outcome) → pdu_of_draft d ≡ None
      → peripheral_of (facts_with (at f own peer ahead encrypting) slot o)
      ≡ view (peripheral (p_of own peer ahead encrypting)) (is_open f.closing) (with_draft f.closing d f.queue).drafts
      → o.step.ends ≡ None → exclusive_refusal o.step.refused ≡ None → exclusive_done o.step.done ≡ None → asks_host o.step.effect ≡ false → Ignores own peer ahead o
  unknown own peer ahead d o none is ends refused done host =
      record {
        part = is ∙ other_draft (p_of own peer ahead encrypting) d f.closing f.queue none;
        ends = ends;
        refused = refused;
        done = done;
        host = host;
      }

  abbrev DoesAs : OwnPeripheral → PeerAtPeripheral → Ahead → Outcome → Option PeripheralStep → ErrCode → Type 0
  DoesAs own peer ahead o step code =
      Does own peer ahead o (answer_to step (table own peer ahead)) (refusal_with (refused_kind step (peripheral_stage own)) code) (done_by step (table own peer ahead))

  taken : (own : OwnPeripheral) (peer : PeerAtPeripheral) (ahead : Ahead) (quiet : Bool) (ctrl : Ctrl) → stops_run (Known ctrl) ≡ false
      → DoesAs own peer ahead (taken_by (peripheral (p_of own peer ahead encrypting)) (at f own peer ahead encrypting) quiet ctrl)
      (step_of_ctrl (peripheral (p_of own peer ahead encrypting)) ctrl) (code_of_refusal (Known ctrl))
  taken own peer ahead quiet (ConnectionUpdateInd win_size win_offset interval latency timeout instant) h =
      update_by own peer ahead _ (reads_as_answer (peripheral_stage own)) refl
  taken own peer ahead quiet (ChannelMapInd channels instant) h = map own peer ahead _
  taken own peer ahead quiet (TerminateInd code) h = absurd (cc)
  taken own peer ahead quiet (EncReq rand ediv skd_m iv_m) h = record { part = refl; ends = refl; refused = refl; done = refl; host = refl }
  taken own peer ahead quiet PauseEncReq h = record { part = refl; ends = refl; refused = refl; done = refl; host = refl }
  taken own peer ahead quiet StartEncRsp h = started own peer ahead quiet
  taken own peer ahead quiet (UnknownRsp opcode) h = refusal own peer ahead _ (is_opcode (opcode_at_peripheral own) opcode) (named (opcode_at_peripheral own) opcode)
  taken own peer ahead quiet (FeatureRsp value) h = features own peer ahead value
  taken own peer ahead quiet PauseEncRsp h = paused own peer ahead quiet
  taken own peer ahead quiet (VersionInd version company sub) h = versions_by own peer ahead version company sub f.version_used refl
  taken own peer ahead quiet (RejectInd code) h = refusal own peer ahead _ (is_some (opcode_at_peripheral own)) (λ is. is)
  taken own peer ahead quiet (RejectExtInd opcode code) h = rejected_by own peer ahead opcode code (param_request_opcode == opcode) (phy_request_opcode == opcode) refl refl
  taken own peer ahead quiet (LengthRsp rx rx_time tx tx_time) h = lengths own peer ahead rx tx
  taken own peer ahead quiet (PhyReq tx rx) h = phy_request own peer ahead
  taken own peer ahead quiet (PhyRsp tx rx) h = record { part = refl; ends = refl; refused = refl; done = refl; host = refl }
  taken own peer ahead quiet (PhyUpdateInd to_peripheral to_central instant) h = phy_ind_by own peer ahead (has_phy_of_central peer) refl
  taken own peer ahead quiet other h = unknown own peer ahead _ _ refl refl refl refl refl refl

  read : (own : OwnPeripheral) (peer : PeerAtPeripheral) (ahead : Ahead) (quiet : Bool) (r : CtrlRead) → stops_run r ≡ false
      → DoesAs own peer ahead (outcome_of (at f own peer ahead encrypting) quiet r) (step_of_read (peripheral (p_of own peer ahead encrypting)) r) (code_of_refusal r)
  read own peer ahead quiet (Known ctrl) h = taken own peer ahead quiet ctrl h
  read own peer ahead quiet (Unknown opcode) h = unknown own peer ahead _ _ refl refl refl refl refl refl
  read own peer ahead quiet Bare h = record { part = refl; ends = refl; refused = refl; done = refl; host = refl }

-- a fact of the table with this progress is one of each table with it
pub over : (P : TableFacts → Type 0) (f : TableFacts) (p : Peripheral) → f.progress ≡ peripheral p → P (at f p.own p.peer p.ahead p.encrypting) → P f
over P f p is h =
    let same : record f { progress = peripheral p } ≡ f = λ i. record f { progress = sym is i } in subst P same h

-- ---- the end of the link

followed_stays : (end : End) (kind : Exclusive) (accepted t : JointPeripheral)
    → is_some (code_of_end (PeripheralTable.followed end kind accepted t).1) ≡ true → (PeripheralTable.followed end kind accepted t).0 ≡ t
followed_stays JointOpen kind accepted t h = absurd (cc)
followed_stays end kind accepted t h = refl

abbrev map_if : JointPeripheral → Bool → JointPeripheral × End
map_if t b =
    (if b then (t, Collided (reason_of RequestKind MapKind))
    else PeripheralTable.followed (PeripheralTable.indication_end t.ahead false MapKind) MapKind (record t { peer = MapTaken }) t)

abbrev phy_if : JointPeripheral → Bool → JointPeripheral × End
phy_if t b =
    (if b then (t, Collided (reason_of RequestKind PhyKind)) else (PeripheralTable.queued PhyRspPdu (record t { peer = PhyRspUnsent }), JointOpen))

map_stays : (t : JointPeripheral) (b : Bool) → central_answered t.own ≡ b
    → is_some (code_of_end (PeripheralTable.map_taken false t).1) ≡ true → (PeripheralTable.map_taken false t).0 ≡ t
map_stays t true is h = rw is refl
map_stays t false is h =
    rw is (followed_stays (PeripheralTable.indication_end t.ahead false MapKind) MapKind _ t
    (subst (λ (b : Bool). is_some (code_of_end (map_if t b).1) ≡ true) is h))

phy_stays : (t : JointPeripheral) (b : Bool) → central_answered t.own ≡ b
    → is_some (code_of_end (PeripheralTable.phy_taken t).1) ≡ true → (PeripheralTable.phy_taken t).0 ≡ t
phy_stays t true is h = rw is refl
phy_stays t false is h =
    absurd (let impossible : false ≡ true = subst (λ (b : Bool). is_some (code_of_end (phy_if t b).1) ≡ true) is h in cc)

-- a table whose link ends is as it was
stays : (step : Option PeripheralStep) (t : JointPeripheral) → is_some (code_of_end (answer_to step t).1) ≡ true → (answer_to step t).0 ≡ t
stays (Some (takes UpdateInd)) t h = followed_stays (PeripheralTable.indication_end t.ahead false UpdateKind) UpdateKind _ t h
stays (Some (takes GrantInd)) t h = followed_stays (PeripheralTable.indication_end t.ahead false UpdateKind) UpdateKind _ t h
stays (Some (takes MapInd)) t h = map_stays t (central_answered t.own) refl h
stays (Some (takes PhyReqPdu)) t h = phy_stays t (central_answered t.own) refl h
stays (Some (takes PhyInd)) t h = absurd (cc)
stays (Some (takes (RejectParam reason))) t h = absurd (cc)
stays (Some (takes (RejectPhy reason))) t h = absurd (cc)
stays (Some (takes Refusal)) t h = absurd (cc)
stays (Some (takes pdu)) t h = refl
stays (Some (begins kind)) t h = absurd (cc)
stays (Some (sends pdu)) t h = absurd (cc)
stays (Some (sees_acknowledged pdu)) t h = absurd (cc)
stays (Some (enters holds)) t h = absurd (cc)
stays (Some terminates) t h = absurd (cc)
stays None t h = absurd (cc)

-- ---- the call

part_of_settled : (f : TableFacts) (slot : ℕ) (o : Outcome) (step : Option PeripheralStep) (refusal : Option (Kind × ErrCode)) (over : Option Kind) (b : Bool)
    → Answers f slot o (answer_to step (peripheral_of f)) refusal over → lacks_room f o ≡ false → is_some o.step.ends ≡ b
    → peripheral_of (settled f slot o).0 ≡ (answer_to step (peripheral_of f)).0
part_of_settled f slot o step refusal over true a l e = rw (l, e) (sym (stays step (peripheral_of f) (ap is_some (sym a.ends) ∙ e)))
part_of_settled f slot o step refusal over false a l e = rw (l, e) a.part

-- what a PDU does that is taken where there is room
pub record Took (f : TableFacts) (r : CtrlRead) (slot : ℕ) (quiet : Bool) : Type 0 where
  pub part : peripheral_of (took_step f r slot quiet).0 ≡ (answer_to (step_of_read f.progress r) (peripheral_of f)).0
  pub ends : (took_step f r slot quiet).1.ends ≡ code_of_end (answer_to (step_of_read f.progress r) (peripheral_of f)).1
  pub refused : exclusive_refusal (took_step f r slot quiet).1.refused
      ≡ refusal_with (refused_kind (step_of_read f.progress r) (peripheral_of f).own) (code_of_refusal r)
  pub done : exclusive_done (took_step f r slot quiet).1.done ≡ done_by (step_of_read f.progress r) (peripheral_of f)
  pub host : asks_host (took_step f r slot quiet).1.effect ≡ false

took_at : (f : TableFacts) (own : OwnPeripheral) (peer : PeerAtPeripheral) (ahead : Ahead) (encrypting : Bool) (r : CtrlRead) (slot : ℕ) (quiet : Bool)
    → lacks_room (at f own peer ahead encrypting) (outcome_of (at f own peer ahead encrypting) quiet r) ≡ false → stops_run r ≡ false
    → Took (at f own peer ahead encrypting) r slot quiet
took_at f own peer ahead encrypting r slot quiet room goes =
    let o : Outcome = outcome_of (at f own peer ahead encrypting) quiet r in
    let a = read f encrypting slot own peer ahead quiet r goes in
    let same : (settled (at f own peer ahead encrypting) slot o).1 ≡ o.step = step_of_settled (at f own peer ahead encrypting) slot o (is_some o.step.ends) room refl in
    record {
      part = part_of_settled (at f own peer ahead encrypting) slot o _ _ _ (is_some o.step.ends) a room refl;
      ends = ap (λ (s : Step). s.ends) same ∙ a.ends;
      refused = ap (λ (s : Step). exclusive_refusal s.refused) same ∙ a.refused;
      done = ap (λ (s : Step). exclusive_done s.done) same ∙ a.done;
      host = ap (λ (s : Step). asks_host s.effect) same ∙ a.host;
    }

pub took : (f : TableFacts) (p : Peripheral) (r : CtrlRead) (slot : ℕ) (quiet : Bool) → f.progress ≡ peripheral p
    → lacks_room f (outcome_of f quiet r) ≡ false → stops_run r ≡ false → Took f r slot quiet
took f p r slot quiet is =
    over (λ g. lacks_room g (outcome_of g quiet r) ≡ false → stops_run r ≡ false → Took g r slot quiet) f p is
    (λ room goes. took_at f p.own p.peer p.ahead p.encrypting r slot quiet room goes)
