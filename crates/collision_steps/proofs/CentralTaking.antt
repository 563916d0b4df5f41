-- A central takes a PDU.
use Rattle.std.proofs.Common.{◌≡◌, ℕ, Bool, true, false, not, ◌||◌, List, [], ◌∷◌, ◌++◌, Option, Some, None, is_some, if◌then◌else◌, append-nil, refl, ap, sym, ◌∙◌, subst}
use Rattle.ble_base.specs.declared.error_codes.ErrCode.{ErrCode}
use Rattle.ble_base.specs.declared.procedure_kinds.Kind.{Kind}
use Rattle.ble_base.specs.declared.procedure_kinds.Kind.TheVariants.{Request as request_kind, Phy as phy_kind, Version as version_kind}
use Rattle.procedure_values.specs.declared.drafts.Draft.{Draft}
use Rattle.procedure_values.specs.declared.drafts.Rejection.{Rejection}
use Rattle.exclusive_stages.specs.declared.pdus.Pdu.{Pdu}
use Rattle.data_pdu.specs.declared.ctrl.Ctrl.{Ctrl}
use Rattle.data_pdu.specs.declared.ctrl.Ctrl.TheVariants.{TerminateInd, EncRsp, StartEncReq, StartEncRsp, UnknownRsp, FeatureRsp, PauseEncRsp, VersionInd, RejectInd, ConnectionParamReq, RejectExtInd, LengthRsp, PhyReq, PhyRsp}
use Rattle.data_pdu.specs.declared.ctrl.CtrlRead.{CtrlRead}
use Rattle.data_pdu.specs.declared.ctrl.CtrlRead.TheVariants.{Known, Unknown, Bare}
use Rattle.procedures.specs.declared.outcome.Outcome.{Outcome}
use Rattle.procedure_stages.specs.declared.stages.Exchange.{Exchange}
use Rattle.procedure_stages.specs.declared.stages.Exchange.TheVariants.{FeaturesUnsent, FeaturesSent, VersionUnsent, VersionSent, LengthUnsent, LengthSent}
use Rattle.procedure_stages.specs.declared.stages.OwnCentral.{OwnCentral}
use Rattle.procedure_stages.specs.declared.stages.OwnCentral.TheVariants.{Exclusive as exclusive, Exchange as exchange, EncryptUnsent, EncryptSent}
use Rattle.exclusive_stages.specs.declared.stages.CentralStage.TheVariants.{Idle, UpdateUnsent, UpdateSent, MapUnsent, MapSent, PhyUnsent, PhySent, PhyAnswered, PhyIndicated}
use Rattle.exclusive_stages.specs.declared.stages.PeerAtCentral.{PeerAtCentral}
use Rattle.exclusive_stages.specs.declared.stages.PeerAtCentral.TheVariants.{Absent, PhyIndUnsent}
use Rattle.procedure_stages.specs.declared.stages.Central.{Central}
use Rattle.ble_base.specs.declared.counters.EventNo.{EventNo}
use Rattle.procedure_values.specs.declared.drafts.Draft.TheVariants.{PhyInd as PhyIndDraft, VersionInd as VersionDraft}
use Rattle.procedures.specs.Outcomes.{moved_and_answered}
use Rattle.procedures.specs.Phy.{phy_req_at_central, phy_rsp_taken}
use Rattle.procedures.specs.Features.{features_taken}
use Rattle.procedures.specs.Version.{version_taken}
use Rattle.procedures.specs.Length.{length_taken}
use Rattle.procedures.specs.Encryption.{cipher_at_central, start_rsp_at_central}
use Rattle.procedure_stages.specs.declared.stages.Progress.{Progress}
use Rattle.procedure_stages.specs.declared.stages.Progress.TheVariants.{Central as central, Peripheral as peripheral}
use Rattle.procedure_stages.specs.declared.closing.Closing.{Closing}
use Rattle.procedure_stages.specs.declared.closing.Closing.TheVariants.{Open, Closed, Disconnecting}
use Rattle.procedure_stages.specs.declared.steps.Step.{Step}
use Rattle.procedure_stages.specs.Collisions.{collision}
use Rattle.procedure_stages.specs.Exclusive.{central_stage, pdu_of_draft}
use Rattle.procedure_stages.specs.Kinds.{kind_at_central, kind_of_exchange}
use Rattle.procedure_stages.specs.Queue.{QueueFacts, with_draft, with_rejection}
use Rattle.procedure_stages.specs.Steps.{asks_host}
use Rattle.procedures.specs.Table.{TableFacts}
use Rattle.procedure_stages.specs.Closing.{is_open}
use Rattle.procedure_values.specs.Values.{are_valid}
use Rattle.procedure_values.specs.Wants.{is_wanted}
use Rattle.procedures.specs.Request.{request_judged, request_taken}
use Rattle.procedures.specs.Taking.{facts_with, lacks_room, no_room, outcome_of, settled, taken_by, took_step}
use Rattle.procedure_stages.specs.Opcodes.{is_opcode, later_opcode_at_central, opcode_at_central}
use Rattle.procedures.specs.Refusals.{refused_if, refused_with}
use Rattle.exclusive_stages.specs.Awaited.{peer_answered}
use Rattle.exclusive_stages.specs.Kinds.{central_kind, kind_sent_by_central}
use Rattle.collisions.specs.declared.central.Central.{Central as CentralTableFacts}
use Rattle.collisions.specs.declared.joint.End.{End}
use Rattle.collisions.specs.declared.joint.End.TheVariants.{Open as JointOpen, Collided}
use Rattle.exclusive_stages.specs.Pdus.{reason_of, rejection_of}
use Rattle.exclusive_stages.specs.declared.pdus.Exclusive.{Exclusive}
use Rattle.exclusive_stages.specs.declared.pdus.Exclusive.TheVariants.{Request as RequestKind, Phy as PhyKind}
use Rattle.exclusive_stages.specs.declared.pdus.Reason.TheVariants.{SameKind, OtherKind, Other}
use Rattle.exclusive_stages.specs.declared.pdus.Pdu.TheVariants.{ParamReq, PhyReq as PhyReqPdu, PhyRsp as PhyRspPdu, PhyInd, RejectParam, RejectPhy, Refusal}
use Rattle.collisions.specs.CentralTable
use Rattle.collision_steps.specs.Answers.{code_of_end, code_of_refusal, exclusive_done, exclusive_refusal, refusal_with, stops_run}
use Rattle.collision_steps.specs.CentralPart.{CentralStep, answer_to, asks_host_by, begins, central_of, enters, grants, refusal_if, refused_kind, refuses, sees_acknowledged, sends, step_of_ctrl, step_of_read, takes, terminates, view}
use Rattle.collision_steps.specs.Parts.{drafts_part, rejection_part, rejections_part, with_part}

-- a PDU more in a queue
with_more : (first : Option Pdu) (xs ys : List Pdu) → with_part first (xs ++ ys) ≡ with_part first xs ++ ys
with_more None xs ys = refl
with_more (Some pdu) xs ys = refl

pub drafts_more : (ds : List Draft) (d : Draft) → drafts_part (ds ++ d ∷ []) ≡ drafts_part ds ++ with_part (pdu_of_draft d) []
drafts_more [] d = refl
drafts_more (x ∷ ds) d = ap (with_part (pdu_of_draft x)) (drafts_more ds d) ∙ with_more (pdu_of_draft x) (drafts_part ds) (with_part (pdu_of_draft d) [])

pub rejections_more : (rs : List Rejection) (r : Rejection) → rejections_part (rs ++ r ∷ []) ≡ rejections_part rs ++ with_part (rejection_part r) []
rejections_more [] r = refl
rejections_more (x ∷ rs) r = ap (with_part (rejection_part x)) (rejections_more rs r) ∙ with_more (rejection_part x) (rejections_part rs) (with_part (rejection_part r) [])

-- ---- queues

-- a PDU of another kind that is queued changes nothing
pub other_draft : (p : Progress) (d : Draft) (cl : Closing) (q : QueueFacts) → pdu_of_draft d ≡ None
    → view p (is_open cl) (with_draft cl d q).rejections (with_draft cl d q).drafts ≡ view p (is_open cl) q.rejections q.drafts
other_draft p d Open q none = by p
  where
    same : drafts_part (q.drafts ++ d ∷ []) ≡ drafts_part q.drafts
    same = drafts_more q.drafts d ∙ ap (λ first. drafts_part q.drafts ++ with_part first []) none ∙ append-nil (drafts_part q.drafts)

    by : (p : Progress) → view p true q.rejections (q.drafts ++ d ∷ []) ≡ view p true q.rejections q.drafts
    by (central c) = λ i. record (view (central c) true q.rejections q.drafts) { queue = record { items = same i } }
    by (peripheral p) = refl
other_draft p d Closed q none = refl
other_draft p d Disconnecting q none = refl

-- one of these kinds is queued as joint runs have it
pub one_draft : (c : Central) (d : Draft) (pdu : Pdu) (cl : Closing) (q : QueueFacts) → pdu_of_draft d ≡ Some pdu
    → view (central c) (is_open cl) (with_draft cl d q).rejections (with_draft cl d q).drafts
    ≡ CentralTable.queued pdu (view (central c) (is_open cl) q.rejections q.drafts)
one_draft c d pdu Open q is =
    let same : drafts_part (q.drafts ++ d ∷ []) ≡ drafts_part q.drafts ++ pdu ∷ [] =
    drafts_more q.drafts d ∙ ap (λ first. drafts_part q.drafts ++ with_part first []) is in
    λ i. record (view (central c) true q.rejections q.drafts) { queue = record { items = same i } }
one_draft c d pdu Closed q is = refl
one_draft c d pdu Disconnecting q is = refl

pub one_rejection : (c : Central) (r : Rejection) (pdu : Pdu) (cl : Closing) (q : QueueFacts) → rejection_part r ≡ Some pdu
    → view (central c) (is_open cl) (with_rejection cl r q).rejections (with_rejection cl r q).drafts
    ≡ CentralTable.rejected pdu (view (central c) (is_open cl) q.rejections q.drafts)
one_rejection c r pdu Open q is =
    let same : rejections_part (q.rejections ++ r ∷ []) ≡ rejections_part q.rejections ++ pdu ∷ [] =
    rejections_more q.rejections r ∙ ap (λ first. rejections_part q.rejections ++ with_part first []) is in
    λ i. record (view (central c) true q.rejections q.drafts) { rejections = record { items = same i } }
one_rejection c r pdu Closed q is = refl
one_rejection c r pdu Disconnecting q is = refl

-- ---- each PDU

abbrev pub c_of : OwnCentral → PeerAtCentral → Option EventNo → Central
c_of own peer last = record { own = own; peer = peer; last_instant = last }

abbrev pub at : TableFacts → OwnCentral → PeerAtCentral → Option EventNo → TableFacts
at f own peer last = record f { progress = central (c_of own peer last) }

-- what an outcome is in a joint run: the table and the end of the link, and what the host hears
record Answers (f : TableFacts) (slot : ℕ) (o : Outcome) (answer : CentralTableFacts × End) (refusal : Option (Kind × ErrCode)) (asks : Bool) : Type 0 where
  pub part : central_of (facts_with f slot o) ≡ answer.0
  pub ends : o.step.ends ≡ code_of_end answer.1
  pub refused : exclusive_refusal o.step.refused ≡ refusal
  pub done : exclusive_done o.step.done ≡ None
  pub host : asks_host o.step.effect ≡ asks

-- an exchange excludes nothing
exchange_apart : (stage : Exchange) (kind : Kind) → collision (Some (kind_of_exchange stage)) kind ≡ None
exchange_apart FeaturesUnsent kind = refl
exchange_apart FeaturesSent kind = refl
exchange_apart VersionUnsent kind = refl
exchange_apart VersionSent kind = refl
exchange_apart LengthUnsent kind = refl
exchange_apart LengthSent kind = refl

pub version_apart : (b : Bool) → exclusive_done (if b then Some version_kind else None) ≡ None
version_apart true = refl
version_apart false = refl

pub named : (own : Option ℕ) (opcode : ℕ) → is_opcode own opcode ≡ true → is_some own ≡ true
named None opcode h = absurd (cc)
named (Some own) opcode h = refl

-- the later PDU of a procedure follows its first
named_either : (own : OwnCentral) (opcode : ℕ) → (is_opcode (opcode_at_central own) opcode || is_opcode (later_opcode_at_central own) opcode) ≡ true
    → is_some (opcode_at_central own) ≡ true
named_either (exclusive PhyIndicated) opcode h = refl
named_either (exclusive UpdateSent) opcode h = refl
named_either (exclusive MapSent) opcode h = refl
named_either (exclusive PhySent) opcode h = refl
named_either (exclusive PhyAnswered) opcode h = refl
named_either (exclusive other) opcode h = absurd (cc)
named_either (exchange FeaturesSent) opcode h = refl
named_either (exchange VersionSent) opcode h = refl
named_either (exchange LengthSent) opcode h = refl
named_either (exchange other) opcode h = absurd (cc)
named_either EncryptUnsent opcode h = absurd (cc)
named_either EncryptSent opcode h = refl

-- a procedure whose first PDU was sent is over as it is refused, and it is the one that the host hears of
record Refusable (own : OwnCentral) (code : ErrCode) : Type 0 where
  pub over : CentralTable.own_after_refusal (central_stage own) ≡ Idle
  pub told : exclusive_refusal (refused_with (kind_at_central own) code) ≡ refusal_with (kind_sent_by_central (central_stage own)) code

refusable : (own : OwnCentral) (code : ErrCode) → is_some (opcode_at_central own) ≡ true → Refusable own code
refusable (exclusive UpdateSent) code h = record { over = refl; told = refl }
refusable (exclusive MapSent) code h = record { over = refl; told = refl }
refusable (exclusive PhySent) code h = record { over = refl; told = refl }
refusable (exclusive PhyAnswered) code h = record { over = refl; told = refl }
refusable (exclusive PhyIndicated) code h = record { over = refl; told = refl }
refusable (exclusive other) code h = absurd (cc)
refusable (exchange FeaturesSent) code h = record { over = refl; told = refl }
refusable (exchange VersionSent) code h = record { over = refl; told = refl }
refusable (exchange LengthSent) code h = record { over = refl; told = refl }
refusable (exchange other) code h = absurd (cc)
refusable EncryptUnsent code h = absurd (cc)
refusable EncryptSent code h = record { over = refl; told = refl }

module _ (f : TableFacts) (peer : PeerAtCentral) (last : Option EventNo) (slot : ℕ) where
  abbrev table : OwnCentral → CentralTableFacts
  table own = central_of (at f own peer last)

  abbrev Does : OwnCentral → Outcome → CentralTableFacts × End → Option (Kind × ErrCode) → Bool → Type 0
  Does own o answer refusal asks = Answers (at f own peer last) slot o answer refusal asks

  -- the PDU is of no concern to the procedures that exclude each other
  abbrev Ignores : OwnCentral → Outcome → Type 0
  Ignores own o = Does own o (table own, JointOpen) None false

  judged : (own : OwnCentral) (min max latency timeout : ℕ) (b : Bool) → are_valid min max latency timeout ≡ b
      → Does own (request_judged (at f own peer last) (c_of own peer last) min max latency timeout)
      (CentralTable.request_taken None (not (are_valid min max latency timeout)) (table own)) None (not (not (are_valid min max latency timeout)))
  judged own min max latency timeout true is = rw is (record { part = refl; ends = refl; refused = refl; done = refl; host = refl })
  judged own min max latency timeout false is =
      rw is (record { part = one_rejection (c_of own Absent last) _ (RejectParam Other) f.closing f.queue refl; ends = refl; refused = refl; done = refl; host = refl })

  request : (own : OwnCentral) (min max latency timeout : ℕ)
      → Does own (request_taken (at f own peer last) (c_of own peer last) min max latency timeout)
      (CentralTable.taken (not (are_valid min max latency timeout)) ParamReq (table own)) None
      (asks_host_by (Some (takes (not (are_valid min max latency timeout)) ParamReq)) (central_stage own))
  request (exclusive UpdateUnsent) min max latency timeout =
      record { part = one_rejection (c_of (exclusive UpdateUnsent) peer last) _ (RejectParam OtherKind) f.closing f.queue refl; ends = refl; refused = refl; done = refl; host = refl }
  request (exclusive UpdateSent) min max latency timeout =
      record { part = one_rejection (c_of (exclusive UpdateSent) peer last) _ (RejectParam OtherKind) f.closing f.queue refl; ends = refl; refused = refl; done = refl; host = refl }
  request (exclusive MapUnsent) min max latency timeout =
      record { part = one_rejection (c_of (exclusive MapUnsent) peer last) _ (RejectParam OtherKind) f.closing f.queue refl; ends = refl; refused = refl; done = refl; host = refl }
  request (exclusive MapSent) min max latency timeout =
      record { part = one_rejection (c_of (exclusive MapSent) peer last) _ (RejectParam OtherKind) f.closing f.queue refl; ends = refl; refused = refl; done = refl; host = refl }
  request (exclusive PhyUnsent) min max latency timeout =
      record { part = one_rejection (c_of (exclusive PhyUnsent) peer last) _ (RejectParam OtherKind) f.closing f.queue refl; ends = refl; refused = refl; done = refl; host = refl }
  request (exclusive PhySent) min max latency timeout =
      record { part = one_rejection (c_of (exclusive PhySent) peer last) _ (RejectParam OtherKind) f.closing f.queue refl; ends = refl; refused = refl; done = refl; host = refl }
  request (exclusive PhyAnswered) min max latency timeout = record { part = refl; ends = refl; refused = refl; done = refl; host = refl }
  request (exclusive PhyIndicated) min max latency timeout = record { part = refl; ends = refl; refused = refl; done = refl; host = refl }
  request (exclusive Idle) min max latency timeout = judged (exclusive Idle) min max latency timeout (are_valid min max latency timeout) refl
  request EncryptUnsent min max latency timeout = judged EncryptUnsent min max latency timeout (are_valid min max latency timeout) refl
  request EncryptSent min max latency timeout = judged EncryptSent min max latency timeout (are_valid min max latency timeout) refl
  request (exchange stage) min max latency timeout =
      let apart = exchange_apart stage request_kind in rw apart (judged (exchange stage) min max latency timeout (are_valid min max latency timeout) refl)

  phy_accepted : (own : OwnCentral)
      → Does own (moved_and_answered (at f own peer last) (central (record (c_of own peer last) { peer = PhyIndUnsent })) PhyIndDraft)
      (CentralTable.queued PhyInd (record (table own) { peer = PhyIndUnsent }), JointOpen) None false
  phy_accepted own = record { part = one_draft (c_of own PhyIndUnsent last) PhyIndDraft PhyInd f.closing f.queue refl; ends = refl; refused = refl; done = refl; host = refl }

  phy_request : (own : OwnCentral)
      → Does own (phy_req_at_central (at f own peer last) (c_of own peer last)) (CentralTable.taken false PhyReqPdu (table own)) None false
  phy_request (exclusive UpdateUnsent) =
      record { part = one_rejection (c_of (exclusive UpdateUnsent) peer last) _ (RejectPhy OtherKind) f.closing f.queue refl; ends = refl; refused = refl; done = refl; host = refl }
  phy_request (exclusive UpdateSent) =
      record { part = one_rejection (c_of (exclusive UpdateSent) peer last) _ (RejectPhy OtherKind) f.closing f.queue refl; ends = refl; refused = refl; done = refl; host = refl }
  phy_request (exclusive MapUnsent) =
      record { part = one_rejection (c_of (exclusive MapUnsent) peer last) _ (RejectPhy OtherKind) f.closing f.queue refl; ends = refl; refused = refl; done = refl; host = refl }
  phy_request (exclusive MapSent) =
      record { part = one_rejection (c_of (exclusive MapSent) peer last) _ (RejectPhy OtherKind) f.closing f.queue refl; ends = refl; refused = refl; done = refl; host = refl }
  phy_request (exclusive PhyUnsent) =
      record { part = one_rejection (c_of (exclusive PhyUnsent) peer last) _ (RejectPhy SameKind) f.closing f.queue refl; ends = refl; refused = refl; done = refl; host = refl }
  phy_request (exclusive PhySent) =
      record { part = one_rejection (c_of (exclusive PhySent) peer last) _ (RejectPhy SameKind) f.closing f.queue refl; ends = refl; refused = refl; done = refl; host = refl }
  phy_request (exclusive PhyAnswered) = record { part = refl; ends = refl; refused = refl; done = refl; host = refl }
  phy_request (exclusive PhyIndicated) = record { part = refl; ends = refl; refused = refl; done = refl; host = refl }
  phy_request (exclusive Idle) = phy_accepted (exclusive Idle)
  phy_request EncryptUnsent = phy_accepted EncryptUnsent
  phy_request EncryptSent = phy_accepted EncryptSent
  phy_request (exchange stage) = let apart = exchange_apart stage phy_kind in rw apart (phy_accepted (exchange stage))

  phy_response : (own : OwnCentral)
      → Does own (phy_rsp_taken (at f own peer last) (c_of own peer last)) (CentralTable.taken false PhyRspPdu (table own)) None false
  phy_response (exclusive PhySent) = record { part = one_draft (c_of (exclusive PhyAnswered) peer last) PhyIndDraft PhyInd f.closing f.queue refl; ends = refl; refused = refl; done = refl; host = refl }
  phy_response (exclusive other) = record { part = refl; ends = refl; refused = refl; done = refl; host = refl }
  phy_response (exchange stage) = record { part = refl; ends = refl; refused = refl; done = refl; host = refl }
  phy_response EncryptUnsent = record { part = refl; ends = refl; refused = refl; done = refl; host = refl }
  phy_response EncryptSent = record { part = refl; ends = refl; refused = refl; done = refl; host = refl }

  refusal : (own : OwnCentral) (code : ErrCode) (b : Bool) → (b ≡ true → is_some (opcode_at_central own) ≡ true)
      → Does own (refused_if b (at f own peer last) code) (answer_to (refusal_if b) (table own))
      (refusal_with (refused_kind (refusal_if b) (central_stage own)) code) (asks_host_by (refusal_if b) (central_stage own))
  refusal own code true is =
      let may = refusable own code (is refl) in
      let ends = sym may.over in
      record { part = λ i. record (table own) { own = ends i }; ends = refl; refused = may.told; done = refl; host = refl }
  refusal own code false is = record { part = refl; ends = refl; refused = refl; done = refl; host = refl }

  other_ctrl : (own : OwnCentral) (d : Draft) → pdu_of_draft d ≡ None
      → view (central (c_of own peer last)) (is_open f.closing) (with_draft f.closing d f.queue).rejections (with_draft f.closing d f.queue).drafts
      ≡ table own
  other_ctrl own d none = other_draft (central (c_of own peer last)) d f.closing f.queue none

  features : (own : OwnCentral) (value : ℕ) → Ignores own (features_taken (at f own peer last) value)
  features (exchange FeaturesSent) value = record { part = refl; ends = refl; refused = refl; done = refl; host = refl }
  features (exchange other) value = record { part = refl; ends = refl; refused = refl; done = refl; host = refl }
  features (exclusive stage) value = record { part = refl; ends = refl; refused = refl; done = refl; host = refl }
  features EncryptUnsent value = record { part = refl; ends = refl; refused = refl; done = refl; host = refl }
  features EncryptSent value = record { part = refl; ends = refl; refused = refl; done = refl; host = refl }

  lengths : (own : OwnCentral) (rx tx : ℕ) → Ignores own (length_taken (at f own peer last) rx tx)
  lengths (exchange LengthSent) rx tx = record { part = refl; ends = refl; refused = refl; done = refl; host = refl }
  lengths (exchange other) rx tx = record { part = refl; ends = refl; refused = refl; done = refl; host = refl }
  lengths (exclusive stage) rx tx = record { part = refl; ends = refl; refused = refl; done = refl; host = refl }
  lengths EncryptUnsent rx tx = record { part = refl; ends = refl; refused = refl; done = refl; host = refl }
  lengths EncryptSent rx tx = record { part = refl; ends = refl; refused = refl; done = refl; host = refl }

  secured : (own : OwnCentral) (quiet : Bool) (ctrl : Ctrl) → Ignores own (start_rsp_at_central (at f own peer last) (c_of own peer last) quiet ctrl)
  secured own true ctrl = record { part = refl; ends = refl; refused = refl; done = refl; host = refl }
  secured EncryptUnsent false ctrl = record { part = refl; ends = refl; refused = refl; done = refl; host = refl }
  secured EncryptSent false ctrl = record { part = refl; ends = refl; refused = refl; done = refl; host = refl }
  secured (exchange stage) false ctrl = record { part = refl; ends = refl; refused = refl; done = refl; host = refl }
  secured (exclusive stage) false ctrl = record { part = refl; ends = refl; refused = refl; done = refl; host = refl }

  cipher : (own : OwnCentral) (quiet : Bool) (ctrl : Ctrl) → Ignores own (cipher_at_central (at f own peer last) (c_of own peer last) quiet ctrl)
  cipher own true ctrl = record { part = refl; ends = refl; refused = refl; done = refl; host = refl }
  cipher own false ctrl = record { part = refl; ends = refl; refused = refl; done = refl; host = refl }

  versions_by : (own : OwnCentral) (version company sub : ℕ) (used : Bool) → f.version_used ≡ used
      → Ignores own (version_taken (at f own peer last) version company sub)
  versions_by (exchange VersionUnsent) version company sub true is = rw is (record { part = refl; ends = refl; refused = refl; done = version_apart true; host = refl })
  versions_by (exchange VersionUnsent) version company sub false is =
      rw is (record { part = other_draft (central (c_of (exclusive Idle) peer last)) VersionDraft f.closing f.queue refl; ends = refl; refused = refl; done = version_apart true; host = refl })
  versions_by (exchange VersionSent) version company sub true is = rw is (record { part = refl; ends = refl; refused = refl; done = version_apart true; host = refl })
  versions_by (exchange VersionSent) version company sub false is =
      rw is (record { part = other_draft (central (c_of (exclusive Idle) peer last)) VersionDraft f.closing f.queue refl; ends = refl; refused = refl; done = version_apart true; host = refl })
  versions_by (exchange other) version company sub true is = rw is (record { part = refl; ends = refl; refused = refl; done = version_apart (is_wanted version_kind f.wanted); host = refl })
  versions_by (exchange other) version company sub false is = rw is (record { part = other_ctrl (exchange other) VersionDraft refl; ends = refl; refused = refl; done = version_apart (is_wanted version_kind f.wanted); host = refl })
  versions_by (exclusive stage) version company sub true is = rw is (record { part = refl; ends = refl; refused = refl; done = version_apart (is_wanted version_kind f.wanted); host = refl })
  versions_by (exclusive stage) version company sub false is = rw is (record { part = other_ctrl (exclusive stage) VersionDraft refl; ends = refl; refused = refl; done = version_apart (is_wanted version_kind f.wanted); host = refl })
  versions_by EncryptUnsent version company sub true is = rw is (record { part = refl; ends = refl; refused = refl; done = version_apart (is_wanted version_kind f.wanted); host = refl })
  versions_by EncryptUnsent version company sub false is = rw is (record { part = other_ctrl EncryptUnsent VersionDraft refl; ends = refl; refused = refl; done = version_apart (is_wanted version_kind f.wanted); host = refl })
  versions_by EncryptSent version company sub true is = rw is (record { part = refl; ends = refl; refused = refl; done = version_apart (is_wanted version_kind f.wanted); host = refl })
  versions_by EncryptSent version company sub false is = rw is (record { part = other_ctrl EncryptSent VersionDraft refl; ends = refl; refused = refl; done = version_apart (is_wanted version_kind f.wanted); host = refl })

  unknown : (own : OwnCentral) (d : Draft) (o : Outcome) → pdu_of_draft d ≡ None
      → central_of (facts_with (at f own peer last) slot o)
      ≡ view (central (c_of own peer last)) (is_open f.closing) (with_draft f.closing d f.queue).rejections (with_draft f.closing d f.queue).drafts
      → o.step.ends ≡ None → exclusive_refusal o.step.refused ≡ None → exclusive_done o.step.done ≡ None → asks_host o.step.effect ≡ false → Ignores own o
  unknown own d o none is ends refused done host =
      record { part = is ∙ other_ctrl own d none; ends = ends; refused = refused; done = done; host = host }

  taken : (own : OwnCentral) (quiet : Bool) (ctrl : Ctrl) → stops_run (Known ctrl) ≡ false
      → Does own (taken_by (central (c_of own peer last)) (at f own peer last) quiet ctrl)
      (answer_to (step_of_ctrl (central (c_of own peer last)) ctrl) (table own))
      (refusal_with (refused_kind (step_of_ctrl (central (c_of own peer last)) ctrl) (central_stage own)) (code_of_refusal (Known ctrl)))
      (asks_host_by (step_of_ctrl (central (c_of own peer last)) ctrl) (central_stage own))
  taken own quiet (TerminateInd code) h = absurd (cc)
  taken own quiet (EncRsp skd_s iv_s) h = cipher own quiet (EncRsp skd_s iv_s)
  taken own quiet StartEncReq h = cipher own quiet StartEncReq
  taken own quiet StartEncRsp h = secured own quiet StartEncRsp
  taken own quiet PauseEncRsp h = cipher own quiet PauseEncRsp
  taken own quiet (UnknownRsp opcode) h = refusal own _ (is_opcode (opcode_at_central own) opcode) (named (opcode_at_central own) opcode)
  taken own quiet (FeatureRsp value) h = features own value
  taken own quiet (VersionInd version company sub) h = versions_by own version company sub f.version_used refl
  taken own quiet (RejectInd code) h = refusal own _ (is_some (opcode_at_central own)) (λ is. is)
  taken own quiet (ConnectionParamReq min max latency timeout periodicity reference offsets) h = request own min max latency timeout
  taken own quiet (RejectExtInd opcode code) h =
      refusal own _ (is_opcode (opcode_at_central own) opcode || is_opcode (later_opcode_at_central own) opcode) (named_either own opcode)
  taken own quiet (LengthRsp rx rx_time tx tx_time) h = lengths own rx tx
  taken own quiet (PhyReq tx rx) h = phy_request own
  taken own quiet (PhyRsp tx rx) h = phy_response own
  taken own quiet other h = unknown own _ _ refl refl refl refl refl refl

  read : (own : OwnCentral) (quiet : Bool) (r : CtrlRead) → stops_run r ≡ false
      → Does own (outcome_of (at f own peer last) quiet r) (answer_to (step_of_read (central (c_of own peer last)) r) (table own))
      (refusal_with (refused_kind (step_of_read (central (c_of own peer last)) r) (central_stage own)) (code_of_refusal r))
      (asks_host_by (step_of_read (central (c_of own peer last)) r) (central_stage own))
  read own quiet (Known ctrl) h = taken own quiet ctrl h
  read own quiet (Unknown opcode) h = unknown own _ _ refl refl refl refl refl refl
  read own quiet Bare h = record { part = refl; ends = refl; refused = refl; done = refl; host = refl }

-- ---- the end of the link

abbrev collided_if : Exclusive → Exclusive → CentralTableFacts → Bool → CentralTableFacts × End
collided_if p q t b = (if b then (t, Collided (reason_of p q)) else (CentralTable.rejected (rejection_of q (reason_of p q)) t, JointOpen))

collided_stays : (p q : Exclusive) (t : CentralTableFacts) (b : Bool) → peer_answered t.own ≡ b
    → is_some (code_of_end (CentralTable.collision p q t).1) ≡ true → (CentralTable.collision p q t).0 ≡ t
collided_stays p q t true is h = rw is refl
collided_stays p q t false is h = absurd (let impossible : false ≡ true = subst (λ (b : Bool). is_some (code_of_end (collided_if p q t b).1) ≡ true) is h in cc)

request_stays : (own : Option Exclusive) (judged : Bool) (t : CentralTableFacts)
    → is_some (code_of_end (CentralTable.request_taken own judged t).1) ≡ true → (CentralTable.request_taken own judged t).0 ≡ t
request_stays (Some p) judged t h = collided_stays p RequestKind t (peer_answered t.own) refl h
request_stays None judged t h = absurd (cc)

phy_stays : (own : Option Exclusive) (t : CentralTableFacts)
    → is_some (code_of_end (CentralTable.phy_taken own t).1) ≡ true → (CentralTable.phy_taken own t).0 ≡ t
phy_stays (Some p) t h = collided_stays p PhyKind t (peer_answered t.own) refl h
phy_stays None t h = absurd (cc)

-- a table whose link ends is as it was
stays : (step : Option CentralStep) (t : CentralTableFacts) → is_some (code_of_end (answer_to step t).1) ≡ true → (answer_to step t).0 ≡ t
stays (Some (takes judged ParamReq)) t h = request_stays (central_kind t.own) judged t h
stays (Some (takes judged PhyReqPdu)) t h = phy_stays (central_kind t.own) t h
stays (Some (takes judged PhyRspPdu)) t h = absurd (cc)
stays (Some (takes judged Refusal)) t h = absurd (cc)
stays (Some (takes judged pdu)) t h = refl
stays (Some (begins kind)) t h = absurd (cc)
stays (Some grants) t h = absurd (cc)
stays (Some (refuses reason)) t h = absurd (cc)
stays (Some (sends pdu)) t h = absurd (cc)
stays (Some (sees_acknowledged pdu)) t h = absurd (cc)
stays (Some (enters at)) t h = absurd (cc)
stays (Some terminates) t h = absurd (cc)
stays None t h = absurd (cc)

-- ---- the call

abbrev settled_of : Bool → Bool → TableFacts → TableFacts → Step → Step → Step → TableFacts × Step
settled_of a b f g x y z = if a then (f, x) else (if b then (f, y) else (g, z))

pub step_of_settled : (f : TableFacts) (slot : ℕ) (o : Outcome) (b : Bool) → lacks_room f o ≡ false → is_some o.step.ends ≡ b
    → (settled f slot o).1 ≡ o.step
step_of_settled f slot o true l e = rw (l, e) refl
step_of_settled f slot o false l e = rw (l, e) refl

part_of_settled : (f : TableFacts) (slot : ℕ) (o : Outcome) (step : Option CentralStep) (refusal : Option (Kind × ErrCode)) (asks b : Bool)
    → Answers f slot o (answer_to step (central_of f)) refusal asks → lacks_room f o ≡ false → is_some o.step.ends ≡ b
    → central_of (settled f slot o).0 ≡ (answer_to step (central_of f)).0
part_of_settled f slot o step refusal asks true a l e =
    rw (l, e) (sym (stays step (central_of f) (ap is_some (sym a.ends) ∙ e)))
part_of_settled f slot o step refusal asks false a l e = rw (l, e) a.part

pub no_room_left : (f : TableFacts) (r : CtrlRead) (slot : ℕ) (quiet : Bool) → lacks_room f (outcome_of f quiet r) ≡ true
    → took_step f r slot quiet ≡ (f, no_room)
no_room_left f r slot quiet lacks = rw lacks refl

-- what a PDU does that is taken where there is room
pub record Took (f : TableFacts) (r : CtrlRead) (slot : ℕ) (quiet : Bool) : Type 0 where
  pub part : central_of (took_step f r slot quiet).0 ≡ (answer_to (step_of_read f.progress r) (central_of f)).0
  pub ends : (took_step f r slot quiet).1.ends ≡ code_of_end (answer_to (step_of_read f.progress r) (central_of f)).1
  pub refused : exclusive_refusal (took_step f r slot quiet).1.refused
      ≡ refusal_with (refused_kind (step_of_read f.progress r) (central_of f).own) (code_of_refusal r)
  pub done : exclusive_done (took_step f r slot quiet).1.done ≡ None
  pub host : asks_host (took_step f r slot quiet).1.effect ≡ asks_host_by (step_of_read f.progress r) (central_of f).own

took_at : (f : TableFacts) (own : OwnCentral) (peer : PeerAtCentral) (last : Option EventNo) (r : CtrlRead) (slot : ℕ) (quiet : Bool)
    → lacks_room (at f own peer last) (outcome_of (at f own peer last) quiet r) ≡ false → stops_run r ≡ false → Took (at f own peer last) r slot quiet
took_at f own peer last r slot quiet room goes =
    let o : Outcome = outcome_of (at f own peer last) quiet r in
    let a = read f peer last slot own quiet r goes in
    let same : (settled (at f own peer last) slot o).1 ≡ o.step = step_of_settled (at f own peer last) slot o (is_some o.step.ends) room refl in
    record {
      part = part_of_settled (at f own peer last) slot o _ _ _ (is_some o.step.ends) a room refl;
      ends = ap (λ (s : Step). s.ends) same ∙ a.ends;
      refused = ap (λ (s : Step). exclusive_refusal s.refused) same ∙ a.refused;
      done = ap (λ (s : Step). exclusive_done s.done) same ∙ a.done;
      host = ap (λ (s : Step). asks_host s.effect) same ∙ a.host;
    }

-- a fact of the table with this progress is one of each table with it
pub over : (P : TableFacts → Type 0) (f : TableFacts) (c : Central) → f.progress ≡ central c → P (at f c.own c.peer c.last_instant) → P f
over P f c is h =
    let same : record f { progress = central c } ≡ f = λ i. record f { progress = sym is i } in subst P same h

pub took : (f : TableFacts) (c : Central) (r : CtrlRead) (slot : ℕ) (quiet : Bool) → f.progress ≡ central c
    → lacks_room f (outcome_of f quiet r) ≡ false → stops_run r ≡ false → Took f r slot quiet
took f c r slot quiet is =
    over (λ g. lacks_room g (outcome_of g quiet r) ≡ false → stops_run r ≡ false → Took g r slot quiet) f c is
    (λ room goes. took_at f c.own c.peer c.last_instant r slot quiet room goes)
