-- The other calls on the table of a peripheral.
use Rattle.std.proofs.Common.{◌≡◌, ℕ, Bool, true, false, not, ◌&&◌, List, [], ◌∷◌, Option, Some, None, is_none, option_map, unwrap_or, remove, if◌then◌else◌, refl, ap, sym, ◌∙◌, subst}
use Rattle.std.proofs.lemmas.Bool.{and_parts}
use Rattle.ble_base.specs.declared.error_codes.ErrCode.{ErrCode}
use Rattle.ble_base.specs.declared.procedure_kinds.Kind.{Kind}
use Rattle.ble_base.specs.declared.roles.Role.TheVariants.{Peripheral as PeripheralRole}
use Rattle.data_pdu.specs.declared.ctrl.Ctrl.{Ctrl}
use Rattle.data_pdu.specs.declared.ctrl.Ctrl.TheVariants.{TerminateInd, RejectExtInd}
use Rattle.procedure_values.specs.declared.asks.Ask.{Ask}
use Rattle.procedure_values.specs.declared.asks.Ask.TheVariants.{Update as ask_update, Request as ask_request, Map as ask_map, Phy as ask_phy, Features as ask_features, Version as ask_version, Length as ask_length, Encrypt as ask_encrypt}
use Rattle.procedure_values.specs.declared.drafts.Draft.{Draft}
use Rattle.procedure_values.specs.declared.drafts.Draft.TheVariants.{Request, PhyReq, PeripheralFeatureReq, VersionInd, LengthReq, Cipher}
use Rattle.procedure_values.specs.declared.drafts.Rejection.{Rejection}
use Rattle.procedure_values.specs.declared.drafts.Outgoing.TheVariants.{Nothing, Other}
use Rattle.procedure_stages.specs.declared.stages.Ahead.{Ahead}
use Rattle.procedure_stages.specs.declared.stages.Exchange.{Exchange}
use Rattle.procedure_stages.specs.declared.stages.Exchange.TheVariants.{FeaturesUnsent, VersionUnsent, LengthUnsent}
use Rattle.procedure_stages.specs.declared.stages.OwnPeripheral.{OwnPeripheral}
use Rattle.procedure_stages.specs.declared.stages.OwnPeripheral.TheVariants.{Exclusive as exclusive, Exchange as exchange}
use Rattle.exclusive_stages.specs.declared.stages.PeripheralStage.{PeripheralStage}
use Rattle.exclusive_stages.specs.declared.stages.PeripheralStage.TheVariants.{Idle, RequestUnsent, RequestSent, RequestAcknowledged, RequestGranted, PhyUnsent, PhySent}
use Rattle.exclusive_stages.specs.declared.stages.PeerAtPeripheral.{PeerAtPeripheral}
use Rattle.exclusive_stages.specs.declared.pdus.Pdu.{Pdu}
use Rattle.exclusive_stages.specs.declared.pdus.Pdu.TheVariants.{ParamReq, PhyReq as PhyReqPdu}
use Rattle.exclusive_stages.specs.Kinds.{has_peer_at_peripheral, kind_of, peripheral_kind}
use Rattle.exclusive_stages.specs.Held.{done_at_peripheral, own_held_at_peripheral}
use Rattle.exclusive_stages.specs.Acked.{own_acked_at_peripheral}
use Rattle.exclusive_stages.specs.Sent.{own_sent_by_peripheral}
use Rattle.procedure_stages.specs.declared.stages.Peripheral.{Peripheral}
use Rattle.procedure_stages.specs.declared.stages.Progress.TheVariants.{Peripheral as peripheral}
use Rattle.procedure_stages.specs.declared.closing.Closing.{Closing}
use Rattle.procedure_stages.specs.declared.closing.Closing.TheVariants.{Open, Closed, Disconnecting}
use Rattle.procedures.specs.Table.{TableFacts}
use Rattle.procedure_stages.specs.Closing.{is_disconnecting, is_open}
use Rattle.procedure_stages.specs.Exclusive.{on_peripheral_stage, pdu_of_draft, pdu_of_outgoing, peripheral_stage}
use Rattle.procedure_stages.specs.Queue.{next_draft}
use Rattle.procedures.specs.Queue.{next_of}
use Rattle.procedures.specs.Sending.{acked_step, facts_sent, went_step}
use Rattle.procedure_stages.specs.Sent.{own_draft_sent_by_peripheral, progress_after_draft}
use Rattle.procedure_stages.specs.Acked.{peripheral_acked}
use Rattle.procedure_values.specs.Drafts.{waits_for_instant}
use Rattle.procedures.specs.Going.{entered_step, owe_step, terminate_step}
use Rattle.procedures.specs.Beginning.{ask_at, begin_at, begin_step, facts_begun, is_ready, may_begin, place_to_begin}
use Rattle.procedure_stages.specs.Collisions.{peer_lets}
use Rattle.procedure_stages.specs.Kinds.{begins, kind_at_peripheral}
use Rattle.procedure_values.specs.Asks.{kind_of_ask}
use Rattle.collisions.specs.PeripheralTable
use Rattle.collision_steps.specs.Answers.{first_waiting, if_it_may, kind_over}
use Rattle.collision_steps.specs.PeripheralPart.{ack_of, after_steps, may_begin_by, peripheral_of, sending_of, step_of_begun, step_of_given, view}
use Rattle.collision_steps.proofs.CentralGoing.{found, not_over}
use Rattle.collision_steps.proofs.PeripheralTaking.{at, one_draft, other_draft, over, p_of}

-- ---- stages

held_stage : (own : OwnPeripheral) → peripheral_stage (on_peripheral_stage own_held_at_peripheral own) ≡ own_held_at_peripheral (peripheral_stage own)
held_stage (exclusive stage) = refl
held_stage (exchange stage) = refl

idle_acked : (pdu : Pdu) → own_acked_at_peripheral pdu Idle ≡ Idle
idle_acked ParamReq = refl
idle_acked pdu = refl

acked_stage : (pdu : Pdu) (own : OwnPeripheral) → peripheral_stage (on_peripheral_stage (own_acked_at_peripheral pdu) own) ≡ own_acked_at_peripheral pdu (peripheral_stage own)
acked_stage pdu (exclusive stage) = refl
acked_stage pdu (exchange stage) = sym (idle_acked pdu)

idle_sent : (pdu : Pdu) → own_sent_by_peripheral pdu Idle ≡ None
idle_sent ParamReq = refl
idle_sent PhyReqPdu = refl
idle_sent pdu = refl

abbrev stage_sent : Option Pdu → PeripheralStage → PeripheralStage
stage_sent None stage = stage
stage_sent (Some pdu) stage = unwrap_or (own_sent_by_peripheral pdu stage) stage

exclusive_goes : (next : Option PeripheralStage) (stage : PeripheralStage)
    → peripheral_stage (unwrap_or (option_map (λ (s : PeripheralStage). exclusive s) next) (exclusive stage)) ≡ unwrap_or next stage
exclusive_goes None stage = refl
exclusive_goes (Some next) stage = refl

exchange_goes : (next : Option Exchange) (stage : Exchange)
    → peripheral_stage (unwrap_or (option_map (λ (s : Exchange). exchange s) next) (exchange stage)) ≡ Idle
exchange_goes None stage = refl
exchange_goes (Some next) stage = refl

idle_goes : (pdu : Option Pdu) → stage_sent pdu Idle ≡ Idle
idle_goes None = refl
idle_goes (Some pdu) = rw (idle_sent pdu) refl

exclusive_by : (pdu : Option Pdu) (d : Draft) (stage : PeripheralStage) → pdu_of_draft d ≡ pdu
    → peripheral_stage (unwrap_or (own_draft_sent_by_peripheral d (exclusive stage)) (exclusive stage)) ≡ stage_sent pdu stage
exclusive_by None d stage is = rw is refl
exclusive_by (Some pdu) d stage is = rw is (exclusive_goes (own_sent_by_peripheral pdu stage) stage)

sent_stage : (d : Draft) (own : OwnPeripheral) → peripheral_stage (unwrap_or (own_draft_sent_by_peripheral d own) own) ≡ stage_sent (pdu_of_draft d) (peripheral_stage own)
sent_stage d (exclusive stage) = exclusive_by (pdu_of_draft d) d stage refl
sent_stage d (exchange stage) = exchange_goes _ stage ∙ sym (idle_goes (pdu_of_draft d))

-- a procedure is completed exactly where its stage ends
held_done : (stage : PeripheralStage) → option_map kind_of (done_at_peripheral stage) ≡ kind_over (peripheral_kind stage) (peripheral_kind (own_held_at_peripheral stage))
held_done RequestGranted = refl
held_done Idle = refl
held_done RequestUnsent = refl
held_done RequestSent = refl
held_done RequestAcknowledged = refl
held_done PhyUnsent = refl
held_done PhySent = refl

same_kind : (pdu : Pdu) (stage : PeripheralStage) → peripheral_kind (own_acked_at_peripheral pdu stage) ≡ peripheral_kind stage
same_kind ParamReq RequestSent = refl
same_kind ParamReq stage = refl
same_kind pdu stage = refl

module _ (f : TableFacts) (own : OwnPeripheral) (peer : PeerAtPeripheral) (ahead : Ahead) (encrypting : Bool) where
  abbrev here : TableFacts
  here = at f own peer ahead encrypting

  enters_at : (applied : Bool) → peripheral_of (entered_step here applied).0 ≡ PeripheralTable.entered applied (peripheral_of here)
  enters_at false = refl
  enters_at true = λ i. record (PeripheralTable.entered true (peripheral_of here)) { own = held_stage own i }

  entered_done_at : (applied : Bool) → (entered_step here applied).1
      ≡ kind_over (peripheral_kind (peripheral_stage own)) (peripheral_kind (peripheral_of (entered_step here applied).0).own)
  entered_done_at false = sym (not_over (peripheral_kind (peripheral_stage own)))
  entered_done_at true =
      held_done (peripheral_stage own)
      ∙ ap (λ (stage : PeripheralStage). kind_over (peripheral_kind (peripheral_stage own)) (peripheral_kind stage)) (sym (held_stage own))

  disconnects_at : (reason : ErrCode) (cl : Closing) → f.closing ≡ cl → is_open cl ≡ true
      → peripheral_of (terminate_step here reason) ≡ PeripheralTable.terminated (peripheral_of here)
  disconnects_at reason Open is opened = rw is refl
  disconnects_at reason Closed is opened = absurd (cc)
  disconnects_at reason Disconnecting is opened = absurd (cc)

  disconnects_again : (reason : ErrCode) (cl : Closing) → f.closing ≡ cl → is_open cl ≡ false
      → peripheral_of (terminate_step here reason) ≡ peripheral_of here
  disconnects_again reason Open is opened = absurd (cc)
  disconnects_again reason Closed is opened = rw is refl
  disconnects_again reason Disconnecting is opened = rw is refl

  acked_by : (pdu : Option Pdu) → view (peripheral (peripheral_acked pdu (p_of own peer ahead encrypting))) (is_open f.closing) f.queue.drafts
      ≡ after_steps (ack_of pdu) (peripheral_of here)
  acked_by None = refl
  acked_by (Some pdu) = λ i. record (PeripheralTable.acked pdu (peripheral_of here)) { own = acked_stage pdu own i }

  acked_done_by : (pdu : Option Pdu)
      → kind_over (peripheral_kind (peripheral_stage own)) (peripheral_kind (peripheral_stage (peripheral_acked pdu (p_of own peer ahead encrypting)).own)) ≡ None
  acked_done_by None = not_over (peripheral_kind (peripheral_stage own))
  acked_done_by (Some pdu) =
      ap (λ k. kind_over (peripheral_kind (peripheral_stage own)) k) (ap peripheral_kind (acked_stage pdu own) ∙ same_kind pdu (peripheral_stage own))
      ∙ not_over (peripheral_kind (peripheral_stage own))

  owes_termination : (code : ℕ) (cl : Closing) → f.closing ≡ cl
      → peripheral_of (owe_step here (TerminateInd code)) ≡ PeripheralTable.terminated (peripheral_of here)
  owes_termination code Open is =
      rw is (ap PeripheralTable.terminated (other_draft (p_of own peer ahead encrypting) (Cipher (TerminateInd code)) Open f.queue refl))
  owes_termination code Closed is = rw is refl
  owes_termination code Disconnecting is = rw is refl

  owes_at : (ctrl : Ctrl) → peripheral_of (owe_step here ctrl) ≡ after_steps (step_of_given ctrl) (peripheral_of here)
  owes_at (TerminateInd code) = owes_termination code f.closing refl
  owes_at (RejectExtInd opcode code) = other_draft (p_of own peer ahead false) (Cipher (RejectExtInd opcode code)) f.closing f.queue refl
  owes_at ctrl = other_draft (p_of own peer ahead encrypting) (Cipher ctrl) f.closing f.queue refl

  -- ---- sending

  draft_view : (d : Draft) (event skips : ℕ) (b : Bool) (rest : List Draft)
      → view (progress_after_draft d event skips (peripheral (p_of own peer ahead encrypting))) b rest
      ≡ after_steps (sending_of (pdu_of_draft d)) (view (peripheral (p_of own peer ahead encrypting)) b (d ∷ rest))
  draft_view (Request min max latency timeout) event skips b rest =
      λ i. record (after_steps (sending_of (Some ParamReq)) (view (peripheral (p_of own peer ahead encrypting)) b (Request min max latency timeout ∷ rest))) {
        own = sent_stage (Request min max latency timeout) own i;
      }
  draft_view d event skips b rest =
      λ i. record (after_steps (sending_of (pdu_of_draft d)) (view (peripheral (p_of own peer ahead encrypting)) b (d ∷ rest))) { own = sent_stage d own i }

  abbrev with_queue : List Rejection → Option ErrCode → List Draft → TableFacts
  with_queue rs disconnect ds = record here { queue = record { rejections = rs; disconnect = disconnect; drafts = ds } }

  sends_draft : (disconnect : Option ErrCode) (ds : List Draft) (event skips slot : ℕ)
      → let g = with_queue [] disconnect ds in
      peripheral_of (facts_sent g (next_draft (peripheral (p_of own peer ahead encrypting)) event ds) event skips slot)
      ≡ after_steps (sending_of (pdu_of_outgoing (next_draft (peripheral (p_of own peer ahead encrypting)) event ds))) (peripheral_of g)
  sends_draft disconnect [] event skips slot = refl
  sends_draft disconnect (d ∷ rest) event skips slot = by (waits_for_instant d && false) refl
    where
      by : (held : Bool) → (waits_for_instant d && false) ≡ held
          → let g = with_queue [] disconnect (d ∷ rest) in
          peripheral_of (facts_sent g (next_draft (peripheral (p_of own peer ahead encrypting)) event (d ∷ rest)) event skips slot)
          ≡ after_steps (sending_of (pdu_of_outgoing (next_draft (peripheral (p_of own peer ahead encrypting)) event (d ∷ rest)))) (peripheral_of g)
      by true is = rw is refl
      by false is = rw is (draft_view d event skips (is_open f.closing) rest)

  sends_at : (rs : List Rejection) (disconnect : Option ErrCode) (ds : List Draft) (event skips slot : ℕ) (quiet : Bool)
      → let g = with_queue rs disconnect ds in
      peripheral_of (went_step g event skips quiet slot).0 ≡ after_steps (sending_of (pdu_of_outgoing (next_of g event quiet))) (peripheral_of g)
  sends_at (r ∷ rest) disconnect ds event skips slot quiet = refl
  sends_at [] disconnect ds event skips slot quiet = by (is_disconnecting f.closing && quiet) disconnect refl
    where
      by : (b : Bool) (x : Option ErrCode) → (is_disconnecting f.closing && quiet) ≡ b
          → let g = with_queue [] x ds in
          peripheral_of (went_step g event skips quiet slot).0 ≡ after_steps (sending_of (pdu_of_outgoing (next_of g event quiet))) (peripheral_of g)
      by true None is = rw is refl
      by true (Some code) is = rw is refl
      by false x is = rw is (sends_draft x ds event skips slot)

  -- ---- what is sent next

  goes_by : (d : Draft) → pdu_of_outgoing (if waits_for_instant d && false then Nothing else Other d) ≡ if_it_may (λ (pdu : Pdu). not false) (pdu_of_draft d)
  goes_by (Request min max latency timeout) = refl
  goes_by d = refl

  held_by : (pdu : Option Pdu) → if_it_may (λ (p : Pdu). not true) pdu ≡ None
  held_by None = refl
  held_by (Some pdu) = refl

  goes_at : (rs : List Rejection) (disconnect : Option ErrCode) (ds : List Draft) (event : ℕ) (quiet : Bool)
      → let g = with_queue rs disconnect ds in
      pdu_of_outgoing (next_of g event quiet) ≡ if_it_may (λ pdu. not (is_disconnecting f.closing && quiet)) (pdu_of_outgoing (first_waiting g.queue))
  goes_at (r ∷ rest) disconnect ds event quiet = refl
  goes_at [] disconnect ds event quiet = by (is_disconnecting f.closing && quiet) disconnect ds refl
    where
      by : (b : Bool) (x : Option ErrCode) (ds : List Draft) → (is_disconnecting f.closing && quiet) ≡ b
          → let g = with_queue [] x ds in
          pdu_of_outgoing (next_of g event quiet) ≡ if_it_may (λ pdu. not (is_disconnecting f.closing && quiet)) (pdu_of_outgoing (first_waiting g.queue))
      by true None [] is = rw is refl
      by true (Some code) [] is = rw is refl
      by true None (d ∷ ds) is = rw is (sym (held_by (pdu_of_draft d)))
      by true (Some code) (d ∷ ds) is = rw is (sym (held_by (pdu_of_draft d)))
      by false x [] is = rw is refl
      by false x (d ∷ ds) is = rw is (goes_by d)

  first_at : (rs : List Rejection) (disconnect : Option ErrCode) (ds : List Draft) (pdu : Pdu)
      → let g = with_queue rs disconnect ds in
      pdu_of_outgoing (first_waiting g.queue) ≡ Some pdu → PeripheralTable.next_pdu (peripheral_of g) ≡ Some pdu
  first_at (r ∷ rest) disconnect ds pdu is = absurd (cc)
  first_at [] disconnect [] pdu is = absurd (cc)
  first_at [] disconnect (d ∷ ds) pdu is = rw is refl

-- ---- beginning

no_own : (own : OwnPeripheral) → is_none (kind_at_peripheral own) ≡ true → own ≡ exclusive Idle
no_own (exclusive Idle) h = refl
no_own (exclusive RequestUnsent) h = absurd (cc)
no_own (exclusive RequestSent) h = absurd (cc)
no_own (exclusive RequestAcknowledged) h = absurd (cc)
no_own (exclusive RequestGranted) h = absurd (cc)
no_own (exclusive PhyUnsent) h = absurd (cc)
no_own (exclusive PhySent) h = absurd (cc)
no_own (exchange stage) h = absurd (cc)

module _ (f : TableFacts) (peer : PeerAtPeripheral) (ahead : Ahead) (encrypting : Bool) (slot : ℕ) (wanted : List Ask) where
  abbrev idle : TableFacts
  idle = at f (exclusive Idle) peer ahead encrypting

  version_begun : (used : Bool) → f.version_used ≡ used → peripheral_of (facts_begun idle slot ask_version wanted) ≡ peripheral_of idle
  version_begun true is = rw is refl
  version_begun false is = rw is (other_draft (p_of (exchange VersionUnsent) peer ahead encrypting) VersionInd f.closing f.queue refl)

  begun_at : (ask : Ask) → begins PeripheralRole (kind_of_ask ask) ≡ true
      → peripheral_of (facts_begun idle slot ask wanted) ≡ after_steps (step_of_begun (Some (kind_of_ask ask))) (peripheral_of idle)
  begun_at (ask_update interval latency timeout) h = absurd (cc)
  begun_at (ask_request min max latency timeout) h = one_draft (p_of (exclusive RequestUnsent) peer ahead encrypting) (Request min max latency timeout) ParamReq f.closing f.queue refl
  begun_at (ask_map map) h = absurd (cc)
  begun_at ask_phy h = one_draft (p_of (exclusive PhyUnsent) peer ahead encrypting) PhyReq PhyReqPdu f.closing f.queue refl
  begun_at ask_features h = other_draft (p_of (exchange FeaturesUnsent) peer ahead encrypting) PeripheralFeatureReq f.closing f.queue refl
  begun_at ask_version h = version_begun f.version_used refl
  begun_at (ask_length tx) h = other_draft (p_of (exchange LengthUnsent) peer ahead encrypting) (LengthReq f.lengths.own_rx f.lengths.own_tx) f.closing f.queue refl
  begun_at (ask_encrypt rand ediv ltk skd_m iv_m) h = absurd (cc)

  -- the rule of joint runs lets it begin
  lets : (other : Bool) → (not (true && has_peer_at_peripheral peer) && not other) ≡ true → not (has_peer_at_peripheral peer) ≡ true
  lets other h = (and_parts (not (has_peer_at_peripheral peer)) (not other) h).0

  may_at : (ask : Ask) → is_open f.closing ≡ true → peer_lets (peripheral (p_of (exclusive Idle) peer ahead encrypting)) (kind_of_ask ask) ≡ true
      → may_begin_by (step_of_begun (Some (kind_of_ask ask))) (peripheral_of idle) ≡ true
  may_at (ask_request min max latency timeout) opened h = let free = lets false h in rw (opened, free) refl
  may_at ask_phy opened h = let free = lets false h in rw (opened, free) refl
  may_at ask opened h = refl

-- what begins is a kind that may begin
record Begun (f g : TableFacts) (kind : Option Kind) : Type 0 where
  pub part : peripheral_of g ≡ after_steps (step_of_begun kind) (peripheral_of f)
  pub may : may_begin_by (step_of_begun kind) (peripheral_of f) ≡ true

begun_if : (f : TableFacts) (own : OwnPeripheral) (peer : PeerAtPeripheral) (ahead : Ahead) (encrypting : Bool) (slot : ℕ) (wanted : List Ask) (ask : Ask) (quiet : Bool)
    → may_begin (at f own peer ahead encrypting) quiet (kind_of_ask ask) ≡ true
    → Begun (at f own peer ahead encrypting) (facts_begun (at f own peer ahead encrypting) slot ask wanted) (Some (kind_of_ask ask))
begun_if f own peer ahead encrypting slot wanted ask quiet h =
    let one = and_parts (is_ready (at f own peer ahead encrypting) quiet && begins PeripheralRole (kind_of_ask ask)) _ h in
    let two = and_parts (is_ready (at f own peer ahead encrypting) quiet) (begins PeripheralRole (kind_of_ask ask)) one.0 in
    let three = and_parts (is_none (kind_at_peripheral own) && quiet) (is_open f.closing) two.0 in
    let four = and_parts (is_none (kind_at_peripheral own)) quiet three.0 in
    subst (λ (o : OwnPeripheral). peer_lets (peripheral (p_of o peer ahead encrypting)) (kind_of_ask ask) ≡ true
    → Begun (at f o peer ahead encrypting) (facts_begun (at f o peer ahead encrypting) slot ask wanted) (Some (kind_of_ask ask)))
    (sym (no_own own four.0))
    (λ lets. record { part = begun_at f peer ahead encrypting slot wanted ask two.1; may = may_at f peer ahead encrypting slot wanted ask three.1 lets }) one.1

begin_by : (f : TableFacts) (p : Peripheral) (slot : ℕ) (quiet : Bool) (place : Option ℕ) (ask : Option Ask)
    → place_to_begin (at f p.own p.peer p.ahead p.encrypting) quiet ≡ place → ask_at place f.wanted ≡ ask
    → Begun (at f p.own p.peer p.ahead p.encrypting) (begin_at (at f p.own p.peer p.ahead p.encrypting) slot place ask).0
    (begin_at (at f p.own p.peer p.ahead p.encrypting) slot place ask).1
begin_by f p slot quiet None ask first got = record { part = refl; may = refl }
begin_by f p slot quiet (Some place) None first got = record { part = refl; may = refl }
begin_by f p slot quiet (Some place) (Some ask) first got =
    begun_if f p.own p.peer p.ahead p.encrypting slot (remove f.wanted place) ask quiet
    (found (λ x. may_begin (at f p.own p.peer p.ahead p.encrypting) quiet (kind_of_ask x)) f.wanted place ask first got)

-- ---- each call, on a peripheral's table

begins_one : (f : TableFacts) (p : Peripheral) (slot : ℕ) (quiet : Bool) → f.progress ≡ peripheral p
    → Begun f (begin_step f slot quiet).0 (begin_step f slot quiet).1
begins_one f p slot quiet is = over (λ g. Begun g (begin_step g slot quiet).0 (begin_step g slot quiet).1) f p is (begin_by f p slot quiet _ _ refl refl)

pub begun_part : (f : TableFacts) (p : Peripheral) (slot : ℕ) (quiet : Bool) → f.progress ≡ peripheral p
    → peripheral_of (begin_step f slot quiet).0 ≡ after_steps (step_of_begun (begin_step f slot quiet).1) (peripheral_of f)
begun_part f p slot quiet is = (begins_one f p slot quiet is).part

pub begun_may : (f : TableFacts) (p : Peripheral) (slot : ℕ) (quiet : Bool) → f.progress ≡ peripheral p
    → may_begin_by (step_of_begun (begin_step f slot quiet).1) (peripheral_of f) ≡ true
begun_may f p slot quiet is = (begins_one f p slot quiet is).may

pub sends_one : (f : TableFacts) (p : Peripheral) (event skips slot : ℕ) (quiet : Bool) → f.progress ≡ peripheral p
    → peripheral_of (went_step f event skips quiet slot).0 ≡ after_steps (sending_of (pdu_of_outgoing (next_of f event quiet))) (peripheral_of f)
sends_one f p event skips slot quiet is =
    over (λ g. peripheral_of (went_step g event skips quiet slot).0 ≡ after_steps (sending_of (pdu_of_outgoing (next_of g event quiet))) (peripheral_of g)) f p is
    (sends_at f p.own p.peer p.ahead p.encrypting f.queue.rejections f.queue.disconnect f.queue.drafts event skips slot quiet)

pub goes_one : (f : TableFacts) (p : Peripheral) (event : ℕ) (quiet : Bool) → f.progress ≡ peripheral p
    → pdu_of_outgoing (next_of f event quiet) ≡ if_it_may (λ pdu. not (is_disconnecting f.closing && quiet)) (pdu_of_outgoing (first_waiting f.queue))
goes_one f p event quiet is =
    over (λ g. pdu_of_outgoing (next_of g event quiet) ≡ if_it_may (λ (pdu : Pdu). not (is_disconnecting g.closing && quiet)) (pdu_of_outgoing (first_waiting g.queue))) f p is
    (goes_at f p.own p.peer p.ahead p.encrypting f.queue.rejections f.queue.disconnect f.queue.drafts event quiet)

pub first_one : (f : TableFacts) (p : Peripheral) (pdu : Pdu) → f.progress ≡ peripheral p
    → pdu_of_outgoing (first_waiting f.queue) ≡ Some pdu → PeripheralTable.next_pdu (peripheral_of f) ≡ Some pdu
first_one f p pdu is =
    over (λ g. pdu_of_outgoing (first_waiting g.queue) ≡ Some pdu → PeripheralTable.next_pdu (peripheral_of g) ≡ Some pdu) f p is
    (λ h. first_at f p.own p.peer p.ahead p.encrypting f.queue.rejections f.queue.disconnect f.queue.drafts pdu h)

pub acked_one : (f : TableFacts) (p : Peripheral) → f.progress ≡ peripheral p
    → peripheral_of (acked_step f).0 ≡ after_steps (ack_of (pdu_of_outgoing f.out)) (peripheral_of f)
acked_one f p is =
    over (λ g. peripheral_of (acked_step g).0 ≡ after_steps (ack_of (pdu_of_outgoing g.out)) (peripheral_of g)) f p is
    (acked_by f p.own p.peer p.ahead p.encrypting (pdu_of_outgoing f.out))

-- no acknowledgement completes a procedure of a peripheral, and none ends a stage
pub acked_done_one : (f : TableFacts) (p : Peripheral) → f.progress ≡ peripheral p
    → (acked_step f).1 ≡ kind_over (peripheral_kind (peripheral_of f).own) (peripheral_kind (peripheral_of (acked_step f).0).own)
acked_done_one f p is =
    over (λ g. (acked_step g).1 ≡ kind_over (peripheral_kind (peripheral_of g).own) (peripheral_kind (peripheral_of (acked_step g).0).own)) f p is
    (sym (acked_done_by f p.own p.peer p.ahead p.encrypting (pdu_of_outgoing f.out)))

pub enters_one : (f : TableFacts) (p : Peripheral) (applied : Bool) → f.progress ≡ peripheral p
    → peripheral_of (entered_step f applied).0 ≡ PeripheralTable.entered applied (peripheral_of f)
enters_one f p applied is =
    over (λ g. peripheral_of (entered_step g applied).0 ≡ PeripheralTable.entered applied (peripheral_of g)) f p is (enters_at f p.own p.peer p.ahead p.encrypting applied)

pub entered_done_one : (f : TableFacts) (p : Peripheral) (applied : Bool) → f.progress ≡ peripheral p
    → (entered_step f applied).1 ≡ kind_over (peripheral_kind (peripheral_of f).own) (peripheral_kind (peripheral_of (entered_step f applied).0).own)
entered_done_one f p applied is =
    over (λ g. (entered_step g applied).1 ≡ kind_over (peripheral_kind (peripheral_of g).own) (peripheral_kind (peripheral_of (entered_step g applied).0).own)) f p is
    (entered_done_at f p.own p.peer p.ahead p.encrypting applied)

pub disconnects_one : (f : TableFacts) (p : Peripheral) (reason : ErrCode) → f.progress ≡ peripheral p → is_open f.closing ≡ true
    → peripheral_of (terminate_step f reason) ≡ PeripheralTable.terminated (peripheral_of f)
disconnects_one f p reason is =
    over (λ g. is_open g.closing ≡ true → peripheral_of (terminate_step g reason) ≡ PeripheralTable.terminated (peripheral_of g)) f p is
    (disconnects_at f p.own p.peer p.ahead p.encrypting reason f.closing refl)

pub disconnects_again_one : (f : TableFacts) (p : Peripheral) (reason : ErrCode) → f.progress ≡ peripheral p → is_open f.closing ≡ false
    → peripheral_of (terminate_step f reason) ≡ peripheral_of f
disconnects_again_one f p reason is =
    over (λ g. is_open g.closing ≡ false → peripheral_of (terminate_step g reason) ≡ peripheral_of g) f p is
    (disconnects_again f p.own p.peer p.ahead p.encrypting reason f.closing refl)

pub owes_one : (f : TableFacts) (p : Peripheral) (ctrl : Ctrl) → f.progress ≡ peripheral p
    → peripheral_of (owe_step f ctrl) ≡ after_steps (step_of_given ctrl) (peripheral_of f)
owes_one f p ctrl is =
    over (λ g. peripheral_of (owe_step g ctrl) ≡ after_steps (step_of_given ctrl) (peripheral_of g)) f p is (owes_at f p.own p.peer p.ahead p.encrypting ctrl)
