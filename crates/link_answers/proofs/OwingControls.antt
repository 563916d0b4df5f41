-- What each step of the control part of a central leaves of the indications that it owes.
use Rattle.std.proofs.Common.{◌≡◌, ℕ, ◌&&◌, ◌||◌, not, Bool, true, false, List, [], ◌∷◌, Option, Some, None, is_some, if◌then◌else◌, Result, Ok, Err, refl, sym, ap, subst, ◌∙◌}
use Rattle.std.specs.Prelude.{◌==◌}
use Rattle.ble_base.specs.declared.error_codes.ErrCode.{ErrCode}
use Rattle.ble_base.specs.declared.procedure_kinds.Kind.{Kind}
use Rattle.ble_base.specs.declared.procedure_kinds.Kind.TheVariants.{Map as map_kind, Phy as phy_kind, Update as update_kind}
use Rattle.ble_base.specs.declared.roles.Role.TheVariants.{Central as central_role}
use Rattle.collisions.specs.declared.central.Central.{Central as CentralPdus}
use Rattle.data_pdu.specs.declared.ctrl.Ctrl.TheVariants.{ConnectionParamReq, PhyReq as phy_req, PhyRsp as phy_rsp, RejectExtInd, RejectInd, TerminateInd, UnknownRsp}
use Rattle.data_pdu.specs.declared.ctrl.CtrlRead.{CtrlRead}
use Rattle.data_pdu.specs.declared.ctrl.CtrlRead.TheVariants.{Bare, Known, Unknown}
use Rattle.exclusive_stages.specs.Kinds.{is_host_asked_at_central}
use Rattle.exclusive_stages.specs.declared.pdus.Exclusive.{Exclusive}
use Rattle.exclusive_stages.specs.declared.pdus.Exclusive.TheVariants.{Map, Phy, Update}
use Rattle.exclusive_stages.specs.declared.pdus.Pdu.{Pdu}
use Rattle.exclusive_stages.specs.declared.pdus.Pdu.TheVariants.{ParamReq, PhyReq, PhyRsp, Refusal, RejectParam, RejectPhy}
use Rattle.exclusive_stages.specs.declared.pdus.Reason.{Reason}
use Rattle.instants.specs.Track.{event_of, next_number}
use Rattle.instants.specs.declared.indications.Indication.{Indication}
use Rattle.link_model.specs.control_model.Control.{Control, Step, Answers, Asks, Disconnects, Enters, Owes as owes_step, SeesAcknowledged, Sends, Takes, after, following, goes_out, indicated_by, is_to_come, moved, table_if, taken, went}
use Rattle.link_model.specs.procedure_values.Drafts.{is_out}
use Rattle.link_model.specs.procedure_values.Values.{are_valid}
use Rattle.link_model.specs.procedure_values.declared.asks.Ask.{Ask}
use Rattle.link_model.specs.procedure_values.declared.asks.Ask.TheVariants.{Update as ask_update}
use Rattle.link_model.specs.procedure_values.declared.drafts.Draft.{Draft}
use Rattle.link_model.specs.procedure_values.declared.drafts.Outgoing.{Outgoing}
use Rattle.link_model.specs.procedure_values.declared.drafts.Outgoing.TheVariants.{Disconnect, Nothing, Other, Rejection}
use Rattle.link_model.specs.procedure_values.declared.drafts.Rejection.{Rejection as TheRejection}
use Rattle.link_model.specs.procedure_stages.Closing.{is_disconnecting, is_open}
use Rattle.link_model.specs.procedure_stages.Exclusive.{central_stage, pdu_of_draft}
use Rattle.link_model.specs.procedure_stages.InProgress.{is_host_asked}
use Rattle.link_model.specs.procedure_stages.Kinds.{role_of}
use Rattle.link_model.specs.procedure_stages.Opcodes.{first_opcode, is_opcode, later_opcode, later_opcode_at_central, opcode_at_central, phy_req_opcode}
use Rattle.link_model.specs.procedure_stages.Queue.{QueueFacts, next_by, next_disconnect, next_draft}
use Rattle.link_model.specs.procedure_stages.declared.stages.Central.{Central}
use Rattle.exclusive_stages.specs.declared.stages.CentralStage.TheVariants.{PhyAnswered}
use Rattle.link_model.specs.procedure_stages.declared.stages.OwnCentral.{OwnCentral}
use Rattle.link_model.specs.procedure_stages.declared.stages.OwnCentral.TheVariants.{Exclusive as exclusive}
use Rattle.link_model.specs.procedure_stages.declared.stages.Progress.{Progress}
use Rattle.link_model.specs.procedure_stages.declared.stages.Progress.TheVariants.{Central as central, Peripheral as peripheral}
use Rattle.link_model.specs.procedure_stages.declared.steps.Step.{Step as TableStep}
use Rattle.link_model.specs.procedures.Beginning.{begin_step}
use Rattle.link_model.specs.procedures.Going.{entered_step, host_answer_step, is_answer, terminate_step}
use Rattle.link_model.specs.procedures.Queue.{next_of, next_other}
use Rattle.link_model.specs.procedures.Sending.{acked_step, went_step}
use Rattle.link_model.specs.procedures.Table.{TableFacts}
use Rattle.link_model.specs.procedures.Taking.{facts_with, lacks_room, no_room, outcome_of, took_step}
use Rattle.link_model.specs.procedures.Termination.{terminate_taken}
use Rattle.link_model.proofs.control_model.Calls.{any_step, either_way, held_over}
use Rattle.link_model.proofs.control_model.Moving.{same_role}
use Rattle.collision_steps.specs.Answers.{stops_run}
use Rattle.collision_steps.specs.CentralPart.{ack_of, after_steps, answer_to, central_of, may_begin_by, refusal_if, sending_of, step_of_answer, step_of_begun, step_of_read}
use Rattle.collision_steps.specs.Parts.{drafts_part, outgoing_part, param_request_opcode, phy_request_opcode, reason_part, rejection_part, rejections_part, with_part}
use Rattle.collision_steps.proofs.CentralGoing.{acked_one, answers_one, begun_may, begun_part, disconnects_one, enters_one, owes_one, sends_one}
use Rattle.collision_steps.proofs.CentralTaking.{over, took}
use Rattle.link_answers.specs.Owing.{Owes, is_indication_of, is_opening_read, owing}
use Rattle.link_answers.proofs.CentralOwes.{acked_owes, begun_owes, entered_owes, given_owes, granted_owes, is_harmless, refusal_owes, refused_owes, sent_other_owes, sent_owes, taken_owes, terminated_owes}
use Rattle.link_answers.proofs.EachPhase.{MayCome}

-- ---- a central

pub is_central : (p : Progress) → role_of p ≡ central_role → (c : Central) × (p ≡ central c)
is_central (central c) is = (c, refl)
is_central (peripheral p) is = absurd cc

held_role : (f : TableFacts) (holds : Bool) → role_of f.progress ≡ central_role → role_of (entered_step f holds).0.progress ≡ central_role
held_role f true role = (held_over f.progress).role ∙ role
held_role f false role = role

-- ---- what a queue sends next

pub record IsHead (queue : QueueFacts) (draft : Draft) : Type 0 where
  pub none : queue.rejections ≡ []
  pub rest : List Draft
  pub first : queue.drafts ≡ draft ∷ rest

module _ (f : TableFacts) (event : ℕ) (quiet : Bool) (draft : Draft) (none : f.queue.rejections ≡ []) where
  waits_or : (waits : Bool) (first : Draft) (rest : List Draft) → f.queue.drafts ≡ first ∷ rest → (if waits then Nothing else Other first) ≡ Other draft
      → IsHead f.queue draft
  waits_or true first rest are is = absurd cc
  waits_or false first rest are is =
      let same : first ≡ draft = cc in record { none = none; rest = rest; first = are ∙ ap (λ (d : Draft). d ∷ rest) same }

  of_drafts : (drafts : List Draft) → f.queue.drafts ≡ drafts → next_draft f.progress event drafts ≡ Other draft → IsHead f.queue draft
  of_drafts [] are is = absurd cc
  of_drafts (first ∷ rest) are is = waits_or _ first rest are is

  no_disconnect : (code : Option ErrCode) → next_disconnect code ≡ Other draft → IsHead f.queue draft
  no_disconnect None is = absurd cc
  no_disconnect (Some code) is = absurd cc

  of_end : (ends : Bool) → (if ends then next_disconnect f.queue.disconnect else next_draft f.progress event f.queue.drafts) ≡ Other draft
      → IsHead f.queue draft
  of_end true is = no_disconnect f.queue.disconnect is
  of_end false is = of_drafts f.queue.drafts refl is

pub head_of : (f : TableFacts) (event : ℕ) (quiet : Bool) (draft : Draft) → next_of f event quiet ≡ Other draft → IsHead f.queue draft
head_of f event quiet draft is = by f.queue.rejections refl is
  where
    by : (rejections : List TheRejection) → f.queue.rejections ≡ rejections → next_by rejections (next_other f event quiet) ≡ Other draft → IsHead f.queue draft
    by [] none next = of_end f event quiet draft none (is_disconnecting f.closing && quiet) next
    by (rejection ∷ rest) none next = absurd cc

view_rejections : (f : TableFacts) (x : Central) → f.progress ≡ central x → (central_of f).rejections.items ≡ rejections_part f.queue.rejections
view_rejections f x is = over (λ (g : TableFacts). (central_of g).rejections.items ≡ rejections_part g.queue.rejections) f x is refl

pub view_queue : (f : TableFacts) (x : Central) → f.progress ≡ central x → (central_of f).queue.items ≡ drafts_part f.queue.drafts
view_queue f x is = over (λ (g : TableFacts). (central_of g).queue.items ≡ drafts_part g.queue.drafts) f x is refl

-- a rejection, by its opcode
rejection_is : (x : TheRejection) (P : Option Pdu → Type 0) → P None → ((reason : Reason) → P (Some (RejectParam reason)))
    → ((reason : Reason) → P (Some (RejectPhy reason))) → P (rejection_part x)
rejection_is x P none param phy = by (x.opcode == param_request_opcode) (x.opcode == phy_request_opcode)
  where
    by : (one other : Bool) → P (if one then Some (RejectParam (reason_part x.code)) else (if other then Some (RejectPhy (reason_part x.code)) else None))
    by true other = param (reason_part x.code)
    by false true = phy (reason_part x.code)
    by false false = none

param_apart : (kind : Exclusive) (reason : Reason) → is_indication_of kind (RejectParam reason) ≡ false
param_apart Update reason = refl
param_apart kind reason = refl

phy_apart : (kind : Exclusive) (reason : Reason) → is_indication_of kind (RejectPhy reason) ≡ false
phy_apart Update reason = refl
phy_apart kind reason = refl

-- ---- what is read

asked_apart : (kind : Exclusive) (min max latency timeout periodicity reference : ℕ) (offsets : List ℕ)
    → is_opening_read kind (Known (ConnectionParamReq min max latency timeout periodicity reference offsets)) ≡ false → is_harmless kind ParamReq ≡ true
asked_apart Update min max latency timeout periodicity reference offsets is = absurd cc
asked_apart Phy min max latency timeout periodicity reference offsets is = refl
asked_apart kind min max latency timeout periodicity reference offsets is = refl

phy_asked_apart : (kind : Exclusive) (tx rx : ℕ) → is_opening_read kind (Known (phy_req tx rx)) ≡ false → is_harmless kind PhyReq ≡ true
phy_asked_apart Update tx rx is = refl
phy_asked_apart Phy tx rx is = absurd cc
phy_asked_apart kind tx rx is = refl

-- it is of another procedure than the PHY update whose indication is owed
not_answered : (own : OwnCentral) (opcode : ℕ) → is_opcode (opcode_at_central own) opcode ≡ true → (phy_req_opcode == opcode) ≡ false
    → owing Phy (central_stage own) ≡ 0
not_answered (exclusive PhyAnswered) opcode names other = absurd (let no : true ≡ false = sym names ∙ other in cc)
not_answered (exclusive stage) opcode names other = refl
not_answered own opcode names other = refl

not_named : (own : OwnCentral) (opcode : ℕ) → (is_opcode (opcode_at_central own) opcode || is_opcode (later_opcode_at_central own) opcode) ≡ true
    → (phy_req_opcode == opcode) ≡ false → owing Phy (central_stage own) ≡ 0
not_named (exclusive PhyAnswered) opcode names other = absurd (let no : true ≡ false = sym names ∙ ap (λ (b : Bool). b || false) other in cc)
not_named (exclusive stage) opcode names other = refl
not_named own opcode names other = refl

data IsNamed (kind : Exclusive) (opcode : ℕ) : Type 0 where
  IsHarmless : is_harmless kind Refusal ≡ true → IsNamed kind opcode
  IsOther : kind ≡ Phy → (phy_req_opcode == opcode) ≡ false → IsNamed kind opcode

unknown_apart : (kind : Exclusive) (opcode : ℕ) → is_opening_read kind (Known (UnknownRsp opcode)) ≡ false → IsNamed kind opcode
unknown_apart Update opcode is = IsHarmless refl
unknown_apart Phy opcode is = IsOther refl is
unknown_apart kind opcode is = IsHarmless refl

reject_apart : (kind : Exclusive) (code : ℕ) → is_opening_read kind (Known (RejectInd code)) ≡ false → is_harmless kind Refusal ≡ true
reject_apart Update code is = refl
reject_apart Phy code is = absurd cc
reject_apart kind code is = refl

reject_ext_apart : (kind : Exclusive) (opcode code : ℕ) → is_opening_read kind (Known (RejectExtInd opcode code)) ≡ false → IsNamed kind opcode
reject_ext_apart Update opcode code is = IsHarmless refl
reject_ext_apart Phy opcode code is = IsOther refl is
reject_ext_apart kind opcode code is = IsHarmless refl

response_apart : (kind : Exclusive) → is_harmless kind PhyRsp ≡ true
response_apart Update = refl
response_apart Phy = refl
response_apart kind = refl

-- ---- each step

module _ (kind : Exclusive) where
  pub record Holds (c : Control) : Type 0 where
    pub role : role_of c.table.progress ≡ central_role
    pub owes : Owes kind (central_of c.table)

  abbrev OwesIn : Control → Type 0
  OwesIn c = Owes kind (central_of c.table)

  table_owes : (may : Bool) (g : TableFacts) (c : Control) → Owes kind (central_of g) → OwesIn c → OwesIn (table_if may g c)
  table_owes true g c now before = now
  table_owes false g c now before = before

  begins : (f : TableFacts) (slot : ℕ) (quiet : Bool) → role_of f.progress ≡ central_role → Owes kind (central_of f)
      → Owes kind (central_of (begin_step f slot quiet).0)
  begins f slot quiet role owes =
      let x = is_central f.progress role in
      subst (Owes kind) (sym (begun_part f x.0 slot quiet x.1)) (by (begin_step f slot quiet).1 (begun_may f x.0 slot quiet x.1))
    where
      by : (begun : Option Kind) → may_begin_by (step_of_begun begun) (central_of f) ≡ true → Owes kind (after_steps (step_of_begun begun) (central_of f))
      by (Some update_kind) may = begun_owes kind Update (central_of f) may owes
      by (Some map_kind) may = begun_owes kind Map (central_of f) may owes
      by (Some phy_kind) may = begun_owes kind Phy (central_of f) may owes
      by begun may = owes

  enters : (f : TableFacts) (holds : Bool) → role_of f.progress ≡ central_role → Owes kind (central_of f) → Owes kind (central_of (entered_step f holds).0)
  enters f holds role owes =
      let x = is_central f.progress role in subst (Owes kind) (sym (enters_one f x.0 holds x.1)) (entered_owes kind holds (central_of f) owes)

  asked_is : (f : TableFacts) (x : Central) → f.progress ≡ central x → is_host_asked f.progress ≡ true → is_host_asked_at_central (central_of f).peer ≡ true
  asked_is f x is = over (λ (g : TableFacts). is_host_asked g.progress ≡ true → is_host_asked_at_central (central_of g).peer ≡ true) f x is (λ h. h)

  answers : (f : TableFacts) (answer : Result Ask ErrCode) → role_of f.progress ≡ central_role → is_host_asked f.progress ≡ true → Owes kind (central_of f)
      → Owes kind (central_of (host_answer_step f answer))
  answers f answer role asked owes =
      let x = is_central f.progress role in subst (Owes kind) (sym (answers_one f x.0 answer x.1)) (by answer (asked_is f x.0 x.1 asked))
    where
      by : (answer : Result Ask ErrCode) → is_host_asked_at_central (central_of f).peer ≡ true → Owes kind (after_steps (step_of_answer answer) (central_of f))
      by (Ok (ask_update interval latency timeout)) asks = granted_owes kind (central_of f) asks owes
      by (Ok ask) asks = owes
      by (Err code) asks = refused_owes kind (reason_part code) (central_of f) owes

  disconnects : (f : TableFacts) (reason : ErrCode) → role_of f.progress ≡ central_role → is_open f.closing ≡ true → Owes kind (central_of f)
      → Owes kind (central_of (terminate_step f reason))
  disconnects f reason role opened owes =
      let x = is_central f.progress role in
      subst (Owes kind) (sym (disconnects_one f x.0 reason x.1 opened)) (terminated_owes kind (central_of f) owes)

  sends : (f : TableFacts) (event skips slot : ℕ) (quiet : Bool) → role_of f.progress ≡ central_role → Owes kind (central_of f)
      → Owes kind (central_of (went_step f event skips quiet slot).0)
  sends f event skips slot quiet role owes =
      let x = is_central f.progress role in
      subst (Owes kind) (sym (sends_one f x.0 event skips slot quiet x.1)) (by x.0 x.1 (next_of f event quiet) refl)
    where
      draft_by : (x : Central) → f.progress ≡ central x → (draft : Draft) → IsHead f.queue draft → (part : Option Pdu) → pdu_of_draft draft ≡ part
          → Owes kind (after_steps (sending_of part) (central_of f))
      draft_by x is draft head None part = owes
      draft_by x is draft head (Some pdu) part =
          sent_owes kind pdu (central_of f) (drafts_part head.rest) (view_rejections f x is ∙ ap rejections_part head.none)
          (view_queue f x is ∙ ap drafts_part head.first ∙ ap (λ (o : Option Pdu). with_part o (drafts_part head.rest)) part) owes

      by : (x : Central) → f.progress ≡ central x → (out : Outgoing) → next_of f event quiet ≡ out
          → Owes kind (after_steps (sending_of (outgoing_part out)) (central_of f))
      by x is Nothing out = owes
      by x is (Disconnect code) out = owes
      by x is (Rejection rejection) out =
          rejection_is rejection (λ (o : Option Pdu). Owes kind (after_steps (sending_of o) (central_of f))) owes
          (λ reason. sent_other_owes kind (RejectParam reason) (central_of f) (param_apart kind reason) owes)
          (λ reason. sent_other_owes kind (RejectPhy reason) (central_of f) (phy_apart kind reason) owes)
      by x is (Other draft) out = draft_by x is draft (head_of f event quiet draft out) (pdu_of_draft draft) refl

  follows : (indication : Option Indication) (c : Control) (p : Progress) → OwesIn c → OwesIn (following (role_of p) indication c)
  follows None c (central x) owes = owes
  follows (Some indication) c (central x) owes = owes
  follows indication c (peripheral x) owes = owes

  acks : (f : TableFacts) → role_of f.progress ≡ central_role → Owes kind (central_of f) → Owes kind (central_of (acked_step f).0)
  acks f role owes =
      let x = is_central f.progress role in subst (Owes kind) (sym (acked_one f x.0 x.1)) (by (outgoing_part f.out))
    where
      by : (part : Option Pdu) → Owes kind (after_steps (ack_of part) (central_of f))
      by None = owes
      by (Some pdu) = acked_owes kind pdu (central_of f) owes

  -- ---- a control PDU is taken

  settled_owes : (full ends : Bool) (f g : TableFacts) (one other : TableStep) → Owes kind (central_of f) → Owes kind (central_of g)
      → Owes kind (central_of (if◌then◌else◌ {A = TableFacts × TableStep} full (f, no_room)
      (if◌then◌else◌ {A = TableFacts × TableStep} ends (f, one) (g, other))).0)
  settled_owes true ends f g one other before now = before
  settled_owes false true f g one other before now = before
  settled_owes false false f g one other before now = now

  ends_owes : (f : TableFacts) (x : Central) (slot code : ℕ) (quiet : Bool) → f.progress ≡ central x → Owes kind (central_of f)
      → Owes kind (central_of (took_step f (Known (TerminateInd code)) slot quiet).0)
  ends_owes f x slot code quiet is =
      over (λ (g : TableFacts). Owes kind (central_of g) → Owes kind (central_of (took_step g (Known (TerminateInd code)) slot quiet).0)) f x is
      (λ owes. let g : TableFacts = record f { progress = central x } in
      let o = terminate_taken g code in
      settled_owes (lacks_room g o) (is_some o.step.ends) g (facts_with g slot o) o.step o.step owes (record { few = owes.few; none = owes.none }))

  refuses : (b : Bool) (t : CentralPdus) → is_harmless kind Refusal ≡ true → Owes kind t → Owes kind (answer_to (refusal_if b) t).0
  refuses true t is owes = taken_owes kind false Refusal t is owes
  refuses false t is owes = owes

  refuses_named : (b : Bool) (opcode : ℕ) (t : CentralPdus) → IsNamed kind opcode
      → (b ≡ true → (phy_req_opcode == opcode) ≡ false → owing Phy t.own ≡ 0) → Owes kind t → Owes kind (answer_to (refusal_if b) t).0
  refuses_named b opcode t (IsHarmless is) nothing owes = refuses b t is owes
  refuses_named true opcode t (IsOther is other) nothing owes =
      refusal_owes kind t (ap (λ (k : Exclusive). owing k t.own) is ∙ nothing refl other) owes
  refuses_named false opcode t (IsOther is other) nothing owes = owes

  -- what the table of a central has in progress
  own_is : (f : TableFacts) (x : Central) → f.progress ≡ central x → (central_of f).own ≡ central_stage x.own
  own_is f x is = over (λ (g : TableFacts). (central_of g).own ≡ central_stage x.own) f x is refl

  named : (f : TableFacts) (x : Central) (opcode : ℕ) → f.progress ≡ central x → is_opcode (first_opcode f.progress) opcode ≡ true
      → (phy_req_opcode == opcode) ≡ false → owing Phy (central_of f).own ≡ 0
  named f x opcode is names other =
      ap (owing Phy) (own_is f x is) ∙ not_answered x.own opcode (ap (λ (p : Progress). is_opcode (first_opcode p) opcode) (sym is) ∙ names) other

  named_either : (f : TableFacts) (x : Central) (opcode : ℕ) → f.progress ≡ central x
      → (is_opcode (first_opcode f.progress) opcode || is_opcode (later_opcode f.progress) opcode) ≡ true → (phy_req_opcode == opcode) ≡ false
      → owing Phy (central_of f).own ≡ 0
  named_either f x opcode is names other =
      ap (owing Phy) (own_is f x is)
      ∙ not_named x.own opcode (ap (λ (p : Progress). is_opcode (first_opcode p) opcode || is_opcode (later_opcode p) opcode) (sym is) ∙ names) other

  read_owes : (f : TableFacts) (x : Central) (read : CtrlRead) → f.progress ≡ central x → is_opening_read kind read ≡ false → Owes kind (central_of f)
      → Owes kind (answer_to (step_of_read f.progress read) (central_of f)).0
  read_owes f x (Known (ConnectionParamReq min max latency timeout periodicity reference offsets)) at is owes =
      taken_owes kind (not (are_valid min max latency timeout)) ParamReq (central_of f)
      (asked_apart kind min max latency timeout periodicity reference offsets is) owes
  read_owes f x (Known (phy_req tx rx)) at is owes = taken_owes kind false PhyReq (central_of f) (phy_asked_apart kind tx rx is) owes
  read_owes f x (Known (phy_rsp tx rx)) at is owes = taken_owes kind false PhyRsp (central_of f) (response_apart kind) owes
  read_owes f x (Known (UnknownRsp opcode)) at is owes =
      refuses_named (is_opcode (first_opcode f.progress) opcode) opcode (central_of f) (unknown_apart kind opcode is) (named f x opcode at) owes
  read_owes f x (Known (RejectInd code)) at is owes = refuses (is_some (first_opcode f.progress)) (central_of f) (reject_apart kind code is) owes
  read_owes f x (Known (RejectExtInd opcode code)) at is owes =
      refuses_named (is_opcode (first_opcode f.progress) opcode || is_opcode (later_opcode f.progress) opcode) opcode (central_of f)
      (reject_ext_apart kind opcode code is) (named_either f x opcode at) owes
  read_owes f x (Known ctrl) at is owes = owes
  read_owes f x (Unknown opcode) at is owes = owes
  read_owes f x Bare at is owes = owes

  goes_owes : (f : TableFacts) (x : Central) (read : CtrlRead) (slot : ℕ) (quiet : Bool) → f.progress ≡ central x → stops_run read ≡ false
      → is_opening_read kind read ≡ false → Owes kind (central_of f) → Owes kind (central_of (took_step f read slot quiet).0)
  goes_owes f x read slot quiet is goes opens owes = by (lacks_room f (outcome_of f quiet read)) refl
    where
      by : (full : Bool) → lacks_room f (outcome_of f quiet read) ≡ full → Owes kind (central_of (took_step f read slot quiet).0)
      by true lacks = rw lacks owes
      by false lacks =
          subst (Owes kind) (sym (took f x read slot quiet is lacks goes).part) (read_owes f x read is opens owes)

  took_owes : (f : TableFacts) (read : CtrlRead) (slot : ℕ) (quiet : Bool) → role_of f.progress ≡ central_role → is_opening_read kind read ≡ false
      → Owes kind (central_of f) → Owes kind (central_of (took_step f read slot quiet).0)
  took_owes f (Known (TerminateInd code)) slot quiet role opens owes = let x = is_central f.progress role in ends_owes f x.0 slot code quiet x.1 owes
  took_owes f (Known ctrl) slot quiet role opens owes = let x = is_central f.progress role in goes_owes f x.0 (Known ctrl) slot quiet x.1 refl opens owes
  took_owes f (Unknown opcode) slot quiet role opens owes =
      let x = is_central f.progress role in goes_owes f x.0 (Unknown opcode) slot quiet x.1 refl opens owes
  took_owes f Bare slot quiet role opens owes = let x = is_central f.progress role in goes_owes f x.0 Bare slot quiet x.1 refl opens owes

  taken_control : (g : TableFacts) (ends : Option ErrCode) (indication : Option Indication) (c : Control) → Owes kind (central_of g) → OwesIn c
      → OwesIn (taken g ends indication c)
  taken_control g (Some code) indication c now before = before
  taken_control g None None c now before = now
  taken_control g None (Some indication) c now before = either_way OwesIn (is_to_come c.track indication) _ _ now before

  -- ---- all of them

  moved_owes : (step : Step) (c : Control) → MayCome (is_opening_read kind) step → Holds c → OwesIn (moved step c)
  moved_owes (Enters slot quiet) c may h =
      let holds = is_some (next_number c.track) in
      begins (entered_step c.table holds).0 slot quiet (held_role c.table holds h.role) (enters c.table holds h.role h.owes)
  moved_owes (Asks ask) c may h = record { few = h.owes.few; none = h.owes.none }
  moved_owes (Answers answer) c may h = by (is_host_asked c.table.progress) (is_answer answer) refl
    where
      by : (asked right : Bool) → is_host_asked c.table.progress ≡ asked → OwesIn (table_if (asked && right) (host_answer_step c.table answer) c)
      by true true is = answers c.table answer h.role is h.owes
      by true false is = h.owes
      by false right is = h.owes
  moved_owes (Disconnects reason) c may h = by (is_open c.table.closing) refl
    where
      by : (opened : Bool) → is_open c.table.closing ≡ opened → OwesIn (table_if opened (terminate_step c.table reason) c)
      by true is = disconnects c.table reason h.role is h.owes
      by false is = h.owes
  moved_owes (Sends slot quiet) c may h =
      either_way OwesIn (goes_out quiet c) _ c
      (follows (went slot quiet c).1 (record c { table = (went slot quiet c).0 }) c.table.progress
      (sends c.table (event_of c.track) c.track.params.latency slot quiet h.role h.owes)) h.owes
  moved_owes SeesAcknowledged c may h = table_owes (is_out c.table.out) (acked_step c.table).0 c (acks c.table h.role h.owes) h.owes
  moved_owes (Takes read slot quiet) c may h =
      let step = took_step c.table read slot quiet in
      taken_control step.0 step.1.ends (indicated_by step.1.effect) c (took_owes c.table read slot quiet h.role may h.owes) h.owes
  moved_owes (owes_step ctrl) c may h =
      let x = is_central c.table.progress h.role in
      subst (Owes kind) (sym (owes_one c.table x.0 ctrl x.1)) (given_owes kind ctrl (central_of c.table) h.owes)

  pub control_owes : (step : Step) (c : Control) → MayCome (is_opening_read kind) step → Holds c → Holds (after step c)
  control_owes step c may h =
      record { role = same_role central_role step c h.role; owes = any_step OwesIn step c (moved_owes step c may h) h.owes }
