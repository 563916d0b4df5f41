-- The other calls on the table of a central.
use Rattle.std.proofs.Common.{◌≡◌, ℕ, ◌==◌, Bool, true, false, not, ◌&&◌, ◌||◌, List, [], ◌∷◌, Option, Some, None, Result, Ok, Err, is_none, option_map, unwrap_or, slice_get, position, remove, if◌then◌else◌, refl, ap, sym, ◌∙◌, subst, nat_le, arith, suc, ◌+◌}
use Rattle.std.proofs.Math.Dec.{leb-zero}
use Rattle.std.proofs.lemmas.Bool.{and_parts}
use Rattle.std.proofs.lemmas.List.Quantifiers.{position-Some}
use Rattle.std.proofs.lemmas.Option.{get_or_from_slice_get}
use Rattle.ble_base.specs.declared.error_codes.ErrCode.{ErrCode}
use Rattle.ble_base.specs.declared.counters.EventNo.{EventNo}
use Rattle.ble_base.specs.declared.procedure_kinds.Kind.{Kind}
use Rattle.ble_base.specs.declared.roles.Role.TheVariants.{Central as CentralRole}
use Rattle.data_pdu.specs.declared.ctrl.Ctrl.{Ctrl}
use Rattle.data_pdu.specs.declared.ctrl.Ctrl.TheVariants.{TerminateInd, EncReq}
use Rattle.procedure_values.specs.declared.asks.Ask.{Ask}
use Rattle.procedure_values.specs.declared.asks.Ask.TheVariants.{Update as ask_update, Request as ask_request, Map as ask_map, Phy as ask_phy, Features as ask_features, Version as ask_version, Length as ask_length, Encrypt as ask_encrypt}
use Rattle.procedure_values.specs.declared.drafts.Draft.{Draft}
use Rattle.procedure_values.specs.declared.drafts.Draft.TheVariants.{Update, Grant, Map, PhyReq, FeatureReq, VersionInd, LengthReq, Cipher}
use Rattle.procedure_values.specs.declared.drafts.Rejection.{Rejection}
use Rattle.procedure_values.specs.declared.drafts.Outgoing.{Outgoing}
use Rattle.procedure_values.specs.declared.drafts.Outgoing.TheVariants.{Nothing, Rejection as sent_rejection, Disconnect, Other}
use Rattle.procedure_stages.specs.declared.stages.Exchange.{Exchange}
use Rattle.procedure_stages.specs.declared.stages.Exchange.TheVariants.{FeaturesUnsent, VersionUnsent, LengthUnsent}
use Rattle.procedure_stages.specs.declared.stages.OwnCentral.{OwnCentral}
use Rattle.procedure_stages.specs.declared.stages.OwnCentral.TheVariants.{Exclusive as exclusive, Exchange as exchange, EncryptUnsent, EncryptSent}
use Rattle.exclusive_stages.specs.declared.stages.CentralStage.{CentralStage}
use Rattle.exclusive_stages.specs.declared.stages.CentralStage.TheVariants.{Idle, UpdateUnsent, UpdateSent, MapUnsent, MapSent, PhyUnsent, PhySent, PhyAnswered, PhyIndicated}
use Rattle.exclusive_stages.specs.declared.stages.PeerAtCentral.{PeerAtCentral}
use Rattle.exclusive_stages.specs.declared.stages.PeerAtCentral.TheVariants.{Absent, GrantUnsent}
use Rattle.exclusive_stages.specs.declared.pdus.Exclusive.{Exclusive}
use Rattle.exclusive_stages.specs.declared.pdus.Pdu.{Pdu}
use Rattle.exclusive_stages.specs.declared.pdus.Pdu.TheVariants.{UpdateInd, GrantInd, MapInd, RejectParam, RejectPhy, PhyReq as PhyReqPdu, PhyInd as PhyIndPdu}
use Rattle.exclusive_stages.specs.Kinds.{central_kind, has_peer_at_central, kind_of}
use Rattle.exclusive_stages.specs.Held.{done_at_central, own_held_at_central}
use Rattle.exclusive_stages.specs.Acked.{done_by_ack_at_central, own_acked_at_central}
use Rattle.exclusive_stages.specs.Sent.{own_sent_by_central}
use Rattle.exclusive_stages.specs.Pdus.{is_held_back}
use Rattle.procedure_stages.specs.declared.stages.Central.{Central}
use Rattle.procedure_stages.specs.declared.stages.Progress.TheVariants.{Central as central}
use Rattle.procedure_stages.specs.declared.closing.Closing.{Closing}
use Rattle.procedure_stages.specs.declared.closing.Closing.TheVariants.{Open, Closed, Disconnecting}
use Rattle.procedures.specs.Table.{TableFacts}
use Rattle.procedure_stages.specs.Closing.{is_disconnecting, is_open}
use Rattle.procedure_stages.specs.Exclusive.{central_stage, on_central_stage, pdu_of_draft, pdu_of_outgoing}
use Rattle.procedure_stages.specs.Queue.{is_after_instant, is_past_instant, next_draft}
use Rattle.procedures.specs.Queue.{next_of}
use Rattle.procedures.specs.Sending.{acked_step, facts_sent, went_step}
use Rattle.procedure_stages.specs.Sent.{own_draft_sent_by_central, progress_after_draft, progress_after_sending}
use Rattle.procedure_stages.specs.Acked.{central_acked, done_at_central_by_ack, progress_acked}
use Rattle.procedure_values.specs.Drafts.{waits_for_instant}
use Rattle.procedures.specs.Going.{closing_given, entered_step, host_answer_step, owe_step, terminate_step}
use Rattle.procedures.specs.Beginning.{ask_at, begin_at, begin_step, facts_begun, is_ready, may_begin, place_to_begin}
use Rattle.procedure_stages.specs.Collisions.{peer_lets}
use Rattle.procedure_stages.specs.Kinds.{begins, kind_at_central}
use Rattle.procedure_values.specs.Asks.{kind_of_ask}
use Rattle.collisions.specs.CentralTable
use Rattle.collision_steps.specs.Answers.{first_waiting, if_it_may, kind_over}
use Rattle.collision_steps.specs.Parts.{outgoing_part, param_request_opcode, phy_request_opcode, reason_part, rejection_part}
use Rattle.collision_steps.specs.CentralPart.{ack_of, after_steps, central_of, may_begin_by, may_go, passed_from, passed_from_after, passed_from_of, sending_of, step_of_answer, step_of_begun, step_of_given, view}
use Rattle.collision_steps.proofs.CentralTaking.{at, c_of, one_draft, one_rejection, other_draft, over}

-- ---- stages

-- a procedure in progress is not over
pub not_over : (kind : Option Exclusive) → kind_over kind kind ≡ None
not_over None = refl
not_over (Some kind) = refl

held_stage : (own : OwnCentral) → central_stage (on_central_stage own_held_at_central own) ≡ own_held_at_central (central_stage own)
held_stage (exclusive stage) = refl
held_stage (exchange stage) = refl
held_stage EncryptUnsent = refl
held_stage EncryptSent = refl

idle_acked : (pdu : Pdu) → own_acked_at_central pdu Idle ≡ Idle
idle_acked PhyIndPdu = refl
idle_acked pdu = refl

acked_stage : (pdu : Pdu) (own : OwnCentral) → central_stage (on_central_stage (own_acked_at_central pdu) own) ≡ own_acked_at_central pdu (central_stage own)
acked_stage pdu (exclusive stage) = refl
acked_stage pdu (exchange stage) = sym (idle_acked pdu)
acked_stage pdu EncryptUnsent = sym (idle_acked pdu)
acked_stage pdu EncryptSent = sym (idle_acked pdu)

idle_sent : (pdu : Pdu) → own_sent_by_central pdu Idle ≡ None
idle_sent UpdateInd = refl
idle_sent MapInd = refl
idle_sent PhyReqPdu = refl
idle_sent PhyIndPdu = refl
idle_sent pdu = refl

abbrev stage_sent : Option Pdu → CentralStage → CentralStage
stage_sent None stage = stage
stage_sent (Some pdu) stage = unwrap_or (own_sent_by_central pdu stage) stage

exclusive_goes : (next : Option CentralStage) (stage : CentralStage)
    → central_stage (unwrap_or (option_map (λ (s : CentralStage). exclusive s) next) (exclusive stage)) ≡ unwrap_or next stage
exclusive_goes None stage = refl
exclusive_goes (Some next) stage = refl

exchange_goes : (next : Option Exchange) (stage : Exchange)
    → central_stage (unwrap_or (option_map (λ (s : Exchange). exchange s) next) (exchange stage)) ≡ Idle
exchange_goes None stage = refl
exchange_goes (Some next) stage = refl

idle_goes : (pdu : Option Pdu) → stage_sent pdu Idle ≡ Idle
idle_goes None = refl
idle_goes (Some pdu) = rw (idle_sent pdu) refl

encryption_goes : (d : Draft) → (central_stage (unwrap_or (own_draft_sent_by_central d EncryptUnsent) EncryptUnsent) ≡ Idle)
    × (central_stage (unwrap_or (own_draft_sent_by_central d EncryptSent) EncryptSent) ≡ Idle)
encryption_goes (Cipher ctrl) = (refl, refl)
encryption_goes d = (refl, refl)

exclusive_by : (pdu : Option Pdu) (d : Draft) (stage : CentralStage) → pdu_of_draft d ≡ pdu
    → central_stage (unwrap_or (own_draft_sent_by_central d (exclusive stage)) (exclusive stage)) ≡ stage_sent pdu stage
exclusive_by None d stage is = rw is refl
exclusive_by (Some pdu) d stage is = rw is (exclusive_goes (own_sent_by_central pdu stage) stage)

sent_stage : (d : Draft) (own : OwnCentral) → central_stage (unwrap_or (own_draft_sent_by_central d own) own) ≡ stage_sent (pdu_of_draft d) (central_stage own)
sent_stage d (exclusive stage) = exclusive_by (pdu_of_draft d) d stage refl
sent_stage d (exchange stage) = exchange_goes _ stage ∙ sym (idle_goes (pdu_of_draft d))
sent_stage d EncryptUnsent = (encryption_goes d).0 ∙ sym (idle_goes (pdu_of_draft d))
sent_stage d EncryptSent = (encryption_goes d).1 ∙ sym (idle_goes (pdu_of_draft d))

-- a procedure is completed exactly where its stage ends
held_done : (stage : CentralStage) → option_map kind_of (done_at_central stage) ≡ kind_over (central_kind stage) (central_kind (own_held_at_central stage))
held_done UpdateSent = refl
held_done MapSent = refl
held_done Idle = refl
held_done UpdateUnsent = refl
held_done MapUnsent = refl
held_done PhyUnsent = refl
held_done PhySent = refl
held_done PhyAnswered = refl
held_done PhyIndicated = refl

acked_done : (pdu : Pdu) (stage : CentralStage)
    → option_map kind_of (done_by_ack_at_central pdu stage) ≡ kind_over (central_kind stage) (central_kind (own_acked_at_central pdu stage))
acked_done PhyIndPdu PhyIndicated = refl
acked_done PhyIndPdu Idle = refl
acked_done PhyIndPdu UpdateUnsent = refl
acked_done PhyIndPdu UpdateSent = refl
acked_done PhyIndPdu MapUnsent = refl
acked_done PhyIndPdu MapSent = refl
acked_done PhyIndPdu PhyUnsent = refl
acked_done PhyIndPdu PhySent = refl
acked_done PhyIndPdu PhyAnswered = refl
acked_done pdu stage = sym (not_over (central_kind stage))

module _ (f : TableFacts) (own : OwnCentral) (peer : PeerAtCentral) (last : Option EventNo) where
  enters_at : (applied : Bool) → central_of (entered_step (at f own peer last) applied).0 ≡ CentralTable.entered applied (central_of (at f own peer last))
  enters_at false = refl
  enters_at true = λ i. record (CentralTable.entered true (central_of (at f own peer last))) { own = held_stage own i }

  entered_done_at : (applied : Bool) → (entered_step (at f own peer last) applied).1
      ≡ kind_over (central_kind (central_stage own)) (central_kind (central_of (entered_step (at f own peer last) applied).0).own)
  entered_done_at false = sym (not_over (central_kind (central_stage own)))
  entered_done_at true =
      held_done (central_stage own) ∙ ap (λ (stage : CentralStage). kind_over (central_kind (central_stage own)) (central_kind stage)) (sym (held_stage own))

  answers_at : (answer : Result Ask ErrCode) → central_of (host_answer_step (at f own peer last) answer) ≡ after_steps (step_of_answer answer) (central_of (at f own peer last))
  answers_at (Ok (ask_update interval latency timeout)) = one_draft (c_of own GrantUnsent last) (Grant (record { interval = interval; latency = latency; timeout = timeout })) GrantInd f.closing f.queue refl
  answers_at (Ok (ask_request min max latency timeout)) = refl
  answers_at (Ok (ask_map map)) = refl
  answers_at (Ok ask_phy) = refl
  answers_at (Ok ask_features) = refl
  answers_at (Ok ask_version) = refl
  answers_at (Ok (ask_length tx)) = refl
  answers_at (Ok (ask_encrypt rand ediv ltk skd_m iv_m)) = refl
  answers_at (Err code) = one_rejection (c_of own Absent last) (record { opcode = param_request_opcode; code = code }) (RejectParam (reason_part code)) f.closing f.queue refl

  disconnects_at : (reason : ErrCode) (cl : Closing) → f.closing ≡ cl → is_open cl ≡ true
      → central_of (terminate_step (at f own peer last) reason) ≡ CentralTable.terminated (central_of (at f own peer last))
  disconnects_at reason Open is opened = rw is refl
  disconnects_at reason Closed is opened = absurd (cc)
  disconnects_at reason Disconnecting is opened = absurd (cc)

  disconnects_again : (reason : ErrCode) (cl : Closing) → f.closing ≡ cl → is_open cl ≡ false
      → central_of (terminate_step (at f own peer last) reason) ≡ central_of (at f own peer last)
  disconnects_again reason Open is opened = absurd (cc)
  disconnects_again reason Closed is opened = rw is refl
  disconnects_again reason Disconnecting is opened = rw is refl

  acked_draft : (pdu : Option Pdu) → view (central (central_acked pdu (c_of own peer last))) (is_open f.closing) f.queue.rejections f.queue.drafts
      ≡ after_steps (ack_of pdu) (central_of (at f own peer last))
  acked_draft None = refl
  acked_draft (Some pdu) = λ i. record (CentralTable.acked pdu (central_of (at f own peer last))) { own = acked_stage pdu own i }

  acked_by : (out : Outgoing) → view (progress_acked out (central (c_of own peer last))) (is_open f.closing) f.queue.rejections f.queue.drafts
      ≡ after_steps (ack_of (outgoing_part out)) (central_of (at f own peer last))
  acked_by Nothing = refl
  acked_by (Disconnect code) = refl
  acked_by (Other d) = acked_draft (pdu_of_draft d)
  acked_by (sent_rejection r) = by_tests (r.opcode == param_request_opcode) (r.opcode == phy_request_opcode)
    where
      by_tests : (a b : Bool) → central_of (at f own peer last)
          ≡ after_steps (ack_of (if a then Some (RejectParam (reason_part r.code)) else (if b then Some (RejectPhy (reason_part r.code)) else None))) (central_of (at f own peer last))
      by_tests true b = refl
      by_tests false true = refl
      by_tests false false = refl

  acked_done_by : (pdu : Option Pdu) → done_at_central_by_ack pdu (c_of own peer last)
      ≡ kind_over (central_kind (central_stage own)) (central_kind (central_stage (central_acked pdu (c_of own peer last)).own))
  acked_done_by None = sym (not_over (central_kind (central_stage own)))
  acked_done_by (Some pdu) =
      acked_done pdu (central_stage own)
      ∙ ap (λ (stage : CentralStage). kind_over (central_kind (central_stage own)) (central_kind stage)) (sym (acked_stage pdu own))

  owes_termination : (code : ℕ) (cl : Closing) → f.closing ≡ cl
      → central_of (owe_step (at f own peer last) (TerminateInd code)) ≡ CentralTable.terminated (central_of (at f own peer last))
  owes_termination code Open is =
      rw is (ap CentralTable.terminated (other_draft (central (c_of own peer last)) (Cipher (TerminateInd code)) Open f.queue refl))
  owes_termination code Closed is = rw is refl
  owes_termination code Disconnecting is = rw is refl

  owes_other : (ctrl : Ctrl) → closing_given ctrl f.closing ≡ f.closing → step_of_given ctrl ≡ None
      → central_of (owe_step (at f own peer last) ctrl) ≡ after_steps (step_of_given ctrl) (central_of (at f own peer last))
  owes_other ctrl stays none = rw (stays, none) (other_draft (central (c_of own peer last)) (Cipher ctrl) f.closing f.queue refl)

  owes_at : (ctrl : Ctrl) → central_of (owe_step (at f own peer last) ctrl) ≡ after_steps (step_of_given ctrl) (central_of (at f own peer last))
  owes_at (TerminateInd code) = owes_termination code f.closing refl
  owes_at (EncReq rand ediv skd_m iv_m) = owes_other (EncReq rand ediv skd_m iv_m) refl refl
  owes_at ctrl = owes_other ctrl refl refl

  -- ---- sending

  draft_view : (d : Draft) (event skips : ℕ) (b : Bool) (rest : List Draft)
      → view (progress_after_draft d event skips (central (c_of own peer last))) b [] rest
      ≡ after_steps (sending_of (pdu_of_draft d)) (view (central (c_of own peer last)) b [] (d ∷ rest))
  draft_view (Update params) event skips b rest =
      λ i. record (after_steps (sending_of (Some UpdateInd)) (view (central (c_of own peer last)) b [] (Update params ∷ rest))) { own = sent_stage (Update params) own i }
  draft_view d event skips b rest =
      λ i. record (after_steps (sending_of (pdu_of_draft d)) (view (central (c_of own peer last)) b [] (d ∷ rest))) { own = sent_stage d own i }

  rejection_view : (r : Rejection) (b : Bool) (rest : List Rejection) (ds : List Draft) (x y : Bool) → (r.opcode == param_request_opcode) ≡ x → (r.opcode == phy_request_opcode) ≡ y
      → view (central (c_of own peer last)) b rest ds
      ≡ after_steps (sending_of (rejection_part r)) (view (central (c_of own peer last)) b (r ∷ rest) ds)
  rejection_view r b rest ds true y p q = rw p refl
  rejection_view r b rest ds false true p q = rw (p, q) refl
  rejection_view r b rest ds false false p q = rw (p, q) refl

  sends_draft : (disconnect : Option ErrCode) (ds : List Draft) (event skips slot : ℕ) (b : Bool)
      → let g = record (at f own peer last) { queue = record { rejections = []; disconnect = disconnect; drafts = ds } } in
      central_of (facts_sent g (next_draft (central (c_of own peer last)) event ds) event skips slot)
      ≡ after_steps (sending_of (outgoing_part (next_draft (central (c_of own peer last)) event ds))) (central_of g)
  sends_draft disconnect [] event skips slot b = refl
  sends_draft disconnect (d ∷ rest) event skips slot b = by (waits_for_instant d && not (is_past_instant (central (c_of own peer last)) event)) refl
    where
      by : (held : Bool) → (waits_for_instant d && not (is_past_instant (central (c_of own peer last)) event)) ≡ held
          → let g = record (at f own peer last) { queue = record { rejections = []; disconnect = disconnect; drafts = d ∷ rest } } in
          central_of (facts_sent g (next_draft (central (c_of own peer last)) event (d ∷ rest)) event skips slot)
          ≡ after_steps (sending_of (outgoing_part (next_draft (central (c_of own peer last)) event (d ∷ rest)))) (central_of g)
      by true is = rw is refl
      by false is = rw is (draft_view d event skips (is_open f.closing) rest)

  sends_at : (rs : List Rejection) (disconnect : Option ErrCode) (ds : List Draft) (event skips slot : ℕ) (quiet : Bool)
      → let g = record (at f own peer last) { queue = record { rejections = rs; disconnect = disconnect; drafts = ds } } in
      central_of (went_step g event skips quiet slot).0 ≡ after_steps (sending_of (outgoing_part (next_of g event quiet))) (central_of g)
  sends_at (r ∷ rest) disconnect ds event skips slot quiet =
      rejection_view r (is_open f.closing) rest ds (r.opcode == param_request_opcode) (r.opcode == phy_request_opcode) refl refl
  sends_at [] disconnect ds event skips slot quiet = by (is_disconnecting f.closing && quiet) disconnect refl
    where
      by : (b : Bool) (x : Option ErrCode) → (is_disconnecting f.closing && quiet) ≡ b
          → let g = record (at f own peer last) { queue = record { rejections = []; disconnect = x; drafts = ds } } in
          central_of (went_step g event skips quiet slot).0 ≡ after_steps (sending_of (outgoing_part (next_of g event quiet))) (central_of g)
      by true None is = rw is refl
      by true (Some code) is = rw is refl
      by false x is = rw is (sends_draft x ds event skips slot false)

  -- ---- what is sent next

  goes_by : (d : Draft) (past : Bool) → outgoing_part (if waits_for_instant d && not past then Nothing else Other d)
      ≡ if_it_may (λ pdu. not (true && false) && (not (is_held_back pdu) || past)) (pdu_of_draft d)
  goes_by (Update params) true = refl
  goes_by (Update params) false = refl
  goes_by (Grant params) true = refl
  goes_by (Grant params) false = refl
  goes_by (Map map) true = refl
  goes_by (Map map) false = refl
  goes_by PhyReq true = refl
  goes_by PhyReq false = refl
  goes_by d past = refl

  held_by : (pdu : Option Pdu) (past : Bool) → if_it_may (λ (p : Pdu). not (true && true) && (not (is_held_back p) || past)) pdu ≡ None
  held_by None past = refl
  held_by (Some pdu) past = refl

  rejection_goes : (r : Rejection) (rest : List Rejection) (ds : List Draft) (ends past b x y : Bool) → (r.opcode == param_request_opcode) ≡ x → (r.opcode == phy_request_opcode) ≡ y
      → rejection_part r ≡ if_it_may (may_go ends past (view (central (c_of own peer last)) b (r ∷ rest) ds)) (rejection_part r)
  rejection_goes r rest ds ends past b true y p q = rw p refl
  rejection_goes r rest ds ends past b false true p q = rw (p, q) refl
  rejection_goes r rest ds ends past b false false p q = rw (p, q) refl

  -- the Instant of the last indication is past in the event after it
  past_at : (event : ℕ) → is_past_instant (central (c_of own peer last)) event ≡ nat_le (passed_from_of last) event
  past_at event = by last
    where
      by : (last : Option EventNo) → is_after_instant last event ≡ nat_le (passed_from_of last) event
      by None = sym (leb-zero event)
      by (Some instant) = let plus : suc instant.0 ≡ instant.0 + 1 = omega arith in ap (λ (n : ℕ). nat_le n event) plus

  instant_at : (out : Outgoing) (event skips : ℕ) → passed_from (progress_after_sending out event skips (central (c_of own peer last)))
      ≡ passed_from_after (outgoing_part out) event skips (passed_from_of last)
  instant_at Nothing event skips = refl
  instant_at (Disconnect code) event skips = refl
  instant_at (Other (Update params)) event skips = omega arith
  instant_at (Other (Grant params)) event skips = omega arith
  instant_at (Other (Map map)) event skips = omega arith
  instant_at (Other d) event skips = refl
  instant_at (sent_rejection r) event skips = by_tests (r.opcode == param_request_opcode) (r.opcode == phy_request_opcode)
    where
      by_tests : (a b : Bool) → passed_from_of last
          ≡ passed_from_after (if a then Some (RejectParam (reason_part r.code)) else (if b then Some (RejectPhy (reason_part r.code)) else None)) event skips (passed_from_of last)
      by_tests true b = refl
      by_tests false true = refl
      by_tests false false = refl

  goes_at : (rs : List Rejection) (disconnect : Option ErrCode) (ds : List Draft) (event : ℕ) (quiet : Bool)
      → let g = record (at f own peer last) { queue = record { rejections = rs; disconnect = disconnect; drafts = ds } } in
      outgoing_part (next_of g event quiet)
      ≡ if_it_may (may_go (is_disconnecting f.closing && quiet) (is_past_instant g.progress event) (central_of g)) (outgoing_part (first_waiting g.queue))
  goes_at (r ∷ rest) disconnect ds event quiet =
      rejection_goes r rest ds (is_disconnecting f.closing && quiet) (is_past_instant (central (c_of own peer last)) event) (is_open f.closing)
      (r.opcode == param_request_opcode) (r.opcode == phy_request_opcode) refl refl
  goes_at [] disconnect ds event quiet = by (is_disconnecting f.closing && quiet) disconnect ds refl
    where
      by : (b : Bool) (x : Option ErrCode) (ds : List Draft) → (is_disconnecting f.closing && quiet) ≡ b
          → let g = record (at f own peer last) { queue = record { rejections = []; disconnect = x; drafts = ds } } in
          outgoing_part (next_of g event quiet)
          ≡ if_it_may (may_go (is_disconnecting f.closing && quiet) (is_past_instant g.progress event) (central_of g)) (outgoing_part (first_waiting g.queue))
      by true None [] is = rw is refl
      by true (Some code) [] is = rw is refl
      by true None (d ∷ ds) is = rw is (sym (held_by (pdu_of_draft d) (is_past_instant (central (c_of own peer last)) event)))
      by true (Some code) (d ∷ ds) is = rw is (sym (held_by (pdu_of_draft d) (is_past_instant (central (c_of own peer last)) event)))
      by false x [] is = rw is refl
      by false x (d ∷ ds) is = rw is (goes_by d (is_past_instant (central (c_of own peer last)) event))

  first_at : (rs : List Rejection) (disconnect : Option ErrCode) (ds : List Draft) (pdu : Pdu)
      → let g = record (at f own peer last) { queue = record { rejections = rs; disconnect = disconnect; drafts = ds } } in
      outgoing_part (first_waiting g.queue) ≡ Some pdu → CentralTable.next_pdu (central_of g) ≡ Some pdu
  first_at (r ∷ rest) disconnect ds pdu is = rw is refl
  first_at [] disconnect [] pdu is = absurd (cc)
  first_at [] disconnect (d ∷ ds) pdu is = rw is refl

-- ---- beginning

no_own : (own : OwnCentral) → is_none (kind_at_central own) ≡ true → own ≡ exclusive Idle
no_own (exclusive Idle) h = refl
no_own (exclusive UpdateUnsent) h = absurd (cc)
no_own (exclusive UpdateSent) h = absurd (cc)
no_own (exclusive MapUnsent) h = absurd (cc)
no_own (exclusive MapSent) h = absurd (cc)
no_own (exclusive PhyUnsent) h = absurd (cc)
no_own (exclusive PhySent) h = absurd (cc)
no_own (exclusive PhyAnswered) h = absurd (cc)
no_own (exclusive PhyIndicated) h = absurd (cc)
no_own (exchange stage) h = absurd (cc)
no_own EncryptUnsent h = absurd (cc)
no_own EncryptSent h = absurd (cc)

module _ (f : TableFacts) (peer : PeerAtCentral) (last : Option EventNo) (slot : ℕ) (wanted : List Ask) where
  abbrev idle : TableFacts
  idle = at f (exclusive Idle) peer last

  version_begun : (used : Bool) → f.version_used ≡ used → central_of (facts_begun idle slot ask_version wanted) ≡ central_of idle
  version_begun true is = rw is refl
  version_begun false is = rw is (other_draft (central (c_of (exchange VersionUnsent) peer last)) VersionInd f.closing f.queue refl)

  begun_at : (ask : Ask) → begins CentralRole (kind_of_ask ask) ≡ true
      → central_of (facts_begun idle slot ask wanted) ≡ after_steps (step_of_begun (Some (kind_of_ask ask))) (central_of idle)
  begun_at (ask_update interval latency timeout) h =
      one_draft (c_of (exclusive UpdateUnsent) peer last) (Update (record { interval = interval; latency = latency; timeout = timeout })) UpdateInd f.closing f.queue refl
  begun_at (ask_request min max latency timeout) h = absurd (cc)
  begun_at (ask_map map) h = one_draft (c_of (exclusive MapUnsent) peer last) (Map map) MapInd f.closing f.queue refl
  begun_at ask_phy h = one_draft (c_of (exclusive PhyUnsent) peer last) PhyReq PhyReqPdu f.closing f.queue refl
  begun_at ask_features h = other_draft (central (c_of (exchange FeaturesUnsent) peer last)) FeatureReq f.closing f.queue refl
  begun_at ask_version h = version_begun f.version_used refl
  begun_at (ask_length tx) h = other_draft (central (c_of (exchange LengthUnsent) peer last)) (LengthReq f.lengths.own_rx f.lengths.own_tx) f.closing f.queue refl
  begun_at (ask_encrypt rand ediv ltk skd_m iv_m) h = refl

  -- the rule of joint runs lets it begin
  lets : (other : Bool) → (not (true && has_peer_at_central peer) && not other) ≡ true → not (has_peer_at_central peer) ≡ true
  lets other h = (and_parts (not (has_peer_at_central peer)) (not other) h).0

  may_at : (ask : Ask) → is_open f.closing ≡ true → peer_lets (central (c_of (exclusive Idle) peer last)) (kind_of_ask ask) ≡ true
      → may_begin_by (step_of_begun (Some (kind_of_ask ask))) (central_of idle) ≡ true
  may_at (ask_update interval latency timeout) opened h = let free = lets false h in rw (opened, free) refl
  may_at (ask_map map) opened h = let free = lets false h in rw (opened, free) refl
  may_at ask_phy opened h = let free = lets false h in rw (opened, free) refl
  may_at ask opened h = refl

-- what begins is a kind that may begin
record Begun (f g : TableFacts) (kind : Option Kind) : Type 0 where
  pub part : central_of g ≡ after_steps (step_of_begun kind) (central_of f)
  pub may : may_begin_by (step_of_begun kind) (central_of f) ≡ true

begun_if : (f : TableFacts) (own : OwnCentral) (peer : PeerAtCentral) (last : Option EventNo) (slot : ℕ) (wanted : List Ask) (ask : Ask) (quiet : Bool)
    → may_begin (at f own peer last) quiet (kind_of_ask ask) ≡ true
    → Begun (at f own peer last) (facts_begun (at f own peer last) slot ask wanted) (Some (kind_of_ask ask))
begun_if f own peer last slot wanted ask quiet h =
    let one = and_parts (is_ready (at f own peer last) quiet && begins CentralRole (kind_of_ask ask)) _ h in
    let two = and_parts (is_ready (at f own peer last) quiet) (begins CentralRole (kind_of_ask ask)) one.0 in
    let three = and_parts (is_none (kind_at_central own) && quiet) (is_open f.closing) two.0 in
    let four = and_parts (is_none (kind_at_central own)) quiet three.0 in
    subst (λ (o : OwnCentral). peer_lets (central (c_of o peer last)) (kind_of_ask ask) ≡ true
    → Begun (at f o peer last) (facts_begun (at f o peer last) slot ask wanted) (Some (kind_of_ask ask)))
    (sym (no_own own four.0))
    (λ lets. record { part = begun_at f peer last slot wanted ask two.1; may = may_at f peer last slot wanted ask three.1 lets }) one.1

pub found : (test : Ask → Bool) (wanted : List Ask) (place : ℕ) (ask : Ask) → position test wanted ≡ Some place → slice_get wanted place ≡ Some ask → test ask ≡ true
found test wanted place ask first got =
    let holds = (position-Some test wanted place ask first).1 in
    subst (λ (a : Ask). test a ≡ true) (get_or_from_slice_get wanted place ask ask got) holds

begin_by : (f : TableFacts) (own : OwnCentral) (peer : PeerAtCentral) (last : Option EventNo) (slot : ℕ) (quiet : Bool) (place : Option ℕ) (ask : Option Ask)
    → place_to_begin (at f own peer last) quiet ≡ place → ask_at place f.wanted ≡ ask
    → Begun (at f own peer last) (begin_at (at f own peer last) slot place ask).0 (begin_at (at f own peer last) slot place ask).1
begin_by f own peer last slot quiet None ask p a = record { part = refl; may = refl }
begin_by f own peer last slot quiet (Some place) None p a = record { part = refl; may = refl }
begin_by f own peer last slot quiet (Some place) (Some ask) p a =
    begun_if f own peer last slot (remove f.wanted place) ask quiet (found (λ x. may_begin (at f own peer last) quiet (kind_of_ask x)) f.wanted place ask p a)

-- ---- each call, on a central's table

begins_one : (f : TableFacts) (c : Central) (slot : ℕ) (quiet : Bool) → f.progress ≡ central c
    → Begun f (begin_step f slot quiet).0 (begin_step f slot quiet).1
begins_one f c slot quiet is =
    over (λ g. Begun g (begin_step g slot quiet).0 (begin_step g slot quiet).1) f c is (begin_by f c.own c.peer c.last_instant slot quiet _ _ refl refl)

pub begun_part : (f : TableFacts) (c : Central) (slot : ℕ) (quiet : Bool) → f.progress ≡ central c
    → central_of (begin_step f slot quiet).0 ≡ after_steps (step_of_begun (begin_step f slot quiet).1) (central_of f)
begun_part f c slot quiet is = (begins_one f c slot quiet is).part

pub begun_may : (f : TableFacts) (c : Central) (slot : ℕ) (quiet : Bool) → f.progress ≡ central c
    → may_begin_by (step_of_begun (begin_step f slot quiet).1) (central_of f) ≡ true
begun_may f c slot quiet is = (begins_one f c slot quiet is).may

pub sends_one : (f : TableFacts) (c : Central) (event skips slot : ℕ) (quiet : Bool) → f.progress ≡ central c
    → central_of (went_step f event skips quiet slot).0 ≡ after_steps (sending_of (outgoing_part (next_of f event quiet))) (central_of f)
sends_one f c event skips slot quiet is =
    over (λ g. central_of (went_step g event skips quiet slot).0 ≡ after_steps (sending_of (outgoing_part (next_of g event quiet))) (central_of g)) f c is
    (sends_at f c.own c.peer c.last_instant f.queue.rejections f.queue.disconnect f.queue.drafts event skips slot quiet)

goes_past : (f : TableFacts) (c : Central) (event : ℕ) (quiet : Bool) → f.progress ≡ central c
    → outgoing_part (next_of f event quiet)
    ≡ if_it_may (may_go (is_disconnecting f.closing && quiet) (is_past_instant f.progress event) (central_of f)) (outgoing_part (first_waiting f.queue))
goes_past f c event quiet is =
    over (λ g. outgoing_part (next_of g event quiet)
    ≡ if_it_may (may_go (is_disconnecting g.closing && quiet) (is_past_instant g.progress event) (central_of g)) (outgoing_part (first_waiting g.queue))) f c is
    (goes_at f c.own c.peer c.last_instant f.queue.rejections f.queue.disconnect f.queue.drafts event quiet)

past_one : (f : TableFacts) (c : Central) (event : ℕ) → f.progress ≡ central c → is_past_instant f.progress event ≡ nat_le (passed_from f.progress) event
past_one f c event is =
    over (λ g. is_past_instant g.progress event ≡ nat_le (passed_from g.progress) event) f c is (past_at f c.own c.peer c.last_instant event)

pub goes_one : (f : TableFacts) (c : Central) (event : ℕ) (quiet : Bool) → f.progress ≡ central c
    → outgoing_part (next_of f event quiet)
    ≡ if_it_may (may_go (is_disconnecting f.closing && quiet) (nat_le (passed_from f.progress) event) (central_of f)) (outgoing_part (first_waiting f.queue))
goes_one f c event quiet is =
    goes_past f c event quiet is
    ∙ ap (λ (past : Bool). if_it_may (may_go (is_disconnecting f.closing && quiet) past (central_of f)) (outgoing_part (first_waiting f.queue))) (past_one f c event is)

pub instant_one : (f : TableFacts) (c : Central) (event skips slot : ℕ) (quiet : Bool) → f.progress ≡ central c
    → passed_from (went_step f event skips quiet slot).0.progress
    ≡ passed_from_after (outgoing_part (next_of f event quiet)) event skips (passed_from f.progress)
instant_one f c event skips slot quiet is =
    over (λ g. passed_from (went_step g event skips quiet slot).0.progress
    ≡ passed_from_after (outgoing_part (next_of g event quiet)) event skips (passed_from g.progress)) f c is
    (instant_at f c.own c.peer c.last_instant (next_of (at f c.own c.peer c.last_instant) event quiet) event skips)

pub first_one : (f : TableFacts) (c : Central) (pdu : Pdu) → f.progress ≡ central c
    → outgoing_part (first_waiting f.queue) ≡ Some pdu → CentralTable.next_pdu (central_of f) ≡ Some pdu
first_one f c pdu is =
    over (λ g. outgoing_part (first_waiting g.queue) ≡ Some pdu → CentralTable.next_pdu (central_of g) ≡ Some pdu) f c is
    (λ h. first_at f c.own c.peer c.last_instant f.queue.rejections f.queue.disconnect f.queue.drafts pdu h)

pub acked_one : (f : TableFacts) (c : Central) → f.progress ≡ central c
    → central_of (acked_step f).0 ≡ after_steps (ack_of (outgoing_part f.out)) (central_of f)
acked_one f c is =
    over (λ g. central_of (acked_step g).0 ≡ after_steps (ack_of (outgoing_part g.out)) (central_of g)) f c is
    (acked_by f c.own c.peer c.last_instant f.out)

pub acked_done_one : (f : TableFacts) (c : Central) → f.progress ≡ central c
    → (acked_step f).1 ≡ kind_over (central_kind (central_of f).own) (central_kind (central_of (acked_step f).0).own)
acked_done_one f c is =
    over (λ g. (acked_step g).1 ≡ kind_over (central_kind (central_of g).own) (central_kind (central_of (acked_step g).0).own)) f c is
    (acked_done_by f c.own c.peer c.last_instant (pdu_of_outgoing f.out))

pub enters_one : (f : TableFacts) (c : Central) (applied : Bool) → f.progress ≡ central c
    → central_of (entered_step f applied).0 ≡ CentralTable.entered applied (central_of f)
enters_one f c applied is =
    over (λ g. central_of (entered_step g applied).0 ≡ CentralTable.entered applied (central_of g)) f c is (enters_at f c.own c.peer c.last_instant applied)

pub entered_done_one : (f : TableFacts) (c : Central) (applied : Bool) → f.progress ≡ central c
    → (entered_step f applied).1 ≡ kind_over (central_kind (central_of f).own) (central_kind (central_of (entered_step f applied).0).own)
entered_done_one f c applied is =
    over (λ g. (entered_step g applied).1 ≡ kind_over (central_kind (central_of g).own) (central_kind (central_of (entered_step g applied).0).own)) f c is
    (entered_done_at f c.own c.peer c.last_instant applied)

pub answers_one : (f : TableFacts) (c : Central) (answer : Result Ask ErrCode) → f.progress ≡ central c
    → central_of (host_answer_step f answer) ≡ after_steps (step_of_answer answer) (central_of f)
answers_one f c answer is =
    over (λ g. central_of (host_answer_step g answer) ≡ after_steps (step_of_answer answer) (central_of g)) f c is (answers_at f c.own c.peer c.last_instant answer)

pub disconnects_one : (f : TableFacts) (c : Central) (reason : ErrCode) → f.progress ≡ central c → is_open f.closing ≡ true
    → central_of (terminate_step f reason) ≡ CentralTable.terminated (central_of f)
disconnects_one f c reason is =
    over (λ g. is_open g.closing ≡ true → central_of (terminate_step g reason) ≡ CentralTable.terminated (central_of g)) f c is
    (disconnects_at f c.own c.peer c.last_instant reason f.closing refl)

pub disconnects_again_one : (f : TableFacts) (c : Central) (reason : ErrCode) → f.progress ≡ central c → is_open f.closing ≡ false
    → central_of (terminate_step f reason) ≡ central_of f
disconnects_again_one f c reason is =
    over (λ g. is_open g.closing ≡ false → central_of (terminate_step g reason) ≡ central_of g) f c is
    (disconnects_again f c.own c.peer c.last_instant reason f.closing refl)

pub owes_one : (f : TableFacts) (c : Central) (ctrl : Ctrl) → f.progress ≡ central c
    → central_of (owe_step f ctrl) ≡ after_steps (step_of_given ctrl) (central_of f)
owes_one f c ctrl is =
    over (λ g. central_of (owe_step g ctrl) ≡ after_steps (step_of_given ctrl) (central_of g)) f c is (owes_at f c.own c.peer c.last_instant ctrl)
