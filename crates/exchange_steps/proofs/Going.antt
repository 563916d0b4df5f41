-- The other calls on a table, but for those that begin a procedure or send a PDU.
use Rattle.std.proofs.Common.{◌≡◌, ℕ, Bool, true, false, None, Result, Ok, Err, if◌then◌else◌, refl, ap, ◌∙◌, Option, Some}
use Rattle.ble_base.specs.declared.error_codes.ErrCode.{ErrCode}
use Rattle.ble_base.specs.declared.procedure_kinds.Kind.TheVariants.{Version}
use Rattle.data_pdu.specs.declared.ctrl.Ctrl.{Ctrl}
use Rattle.data_pdu.specs.declared.ctrl.Ctrl.TheVariants.{EncReq, TerminateInd}
use Rattle.procedure_values.specs.declared.asks.Ask.{Ask}
use Rattle.procedure_values.specs.declared.asks.Ask.TheVariants.{Update as ask_update, Request as ask_request, Map as ask_map, Phy as ask_phy, Features as ask_features, Version as ask_version, Length as ask_length, Encrypt as ask_encrypt}
use Rattle.procedure_values.specs.declared.drafts.Draft.TheVariants.{Cipher, Grant}
use Rattle.procedure_values.specs.declared.drafts.Outgoing.{Outgoing}
use Rattle.procedure_values.specs.Limits.{lengths_asked}
use Rattle.procedure_values.specs.Wants.{count_of, wanted_with}
use Rattle.procedure_values.proofs.Counts.{count-with}
use Rattle.procedure_stages.specs.declared.closing.Closing.{Closing}
use Rattle.procedure_stages.specs.declared.closing.Closing.TheVariants.{Open, Closed, Disconnecting}
use Rattle.procedure_stages.specs.declared.stages.OwnCentral.{OwnCentral}
use Rattle.procedure_stages.specs.declared.stages.OwnCentral.TheVariants.{Exclusive as exclusive, Exchange as exchange}
use Rattle.procedure_stages.specs.declared.stages.OwnPeripheral.{OwnPeripheral}
use Rattle.procedure_stages.specs.declared.stages.OwnPeripheral.TheVariants.{Exclusive as exclusive_p, Exchange as exchange_p}
use Rattle.exclusive_stages.specs.declared.stages.PeerAtCentral.{PeerAtCentral}
use Rattle.exclusive_stages.specs.declared.stages.PeerAtCentral.TheVariants.{Absent, GrantUnsent}
use Rattle.procedure_stages.specs.Opcodes.{connection_param_req_opcode}
use Rattle.procedure_stages.specs.declared.stages.Progress.{Progress}
use Rattle.procedure_stages.specs.declared.stages.Progress.TheVariants.{Central as central, Peripheral as peripheral}
use Rattle.procedure_stages.specs.Acked.{central_acked, done_at_central_by_ack, done_by_ack, peripheral_acked, progress_acked}
use Rattle.exclusive_stages.specs.Acked.{done_by_ack_at_central, own_acked_at_central, own_acked_at_peripheral}
use Rattle.exclusive_stages.specs.declared.pdus.Pdu.{Pdu}
use Rattle.procedure_stages.specs.Closing.{is_open}
use Rattle.procedure_stages.specs.Held.{done_held, progress_held}
use Rattle.exclusive_stages.specs.Held.{done_at_central, done_at_peripheral, own_held_at_central, own_held_at_peripheral}
use Rattle.procedure_stages.specs.InProgress.{peer_becomes}
use Rattle.procedure_stages.specs.Kinds.{exchange_at_central, exchange_at_peripheral, own_exchange}
use Rattle.procedures.specs.Beginning.{ask_step}
use Rattle.procedures.specs.Encryption.{is_rejection, progress_given}
use Rattle.procedures.specs.Going.{closing_given, entered_step, granted_by, host_answer_step, owe_step, request_refused, terminate_step}
use Rattle.procedures.specs.Sending.{acked_step}
use Rattle.procedures.specs.Table.{TableFacts}
use Rattle.exchange_steps.specs.Answers.{exchange_kind}
use Rattle.exchange_steps.specs.Ends.{ends_by, ends_of}
use Rattle.exchange_steps.specs.Steps.{after_step, after_steps, step_of_ask, step_of_given, terminates}
use Rattle.exchange_steps.proofs.Apart.{none_of}
use Rattle.exchange_steps.proofs.Queues.{other_queued, rejection_queued}
use Rattle.procedure_stages.specs.Exclusive.{central_stage, on_central_stage, on_peripheral_stage, pdu_of_outgoing, peripheral_stage}

-- ---- another progress with the same exchange

with_progress : (f : TableFacts) (p : Progress) → own_exchange p ≡ own_exchange f.progress → ends_of (record f { progress = p }) ≡ ends_of f
with_progress f p is = λ i. ends_by (is i) f.wanted f.version_used f.lengths (is_open f.closing) f.queue.drafts

-- ---- the host asks

module _ (f : TableFacts) where
  asked_other : (ask : Ask) → lengths_asked ask f.lengths ≡ f.lengths → count_of Version (wanted_with ask f.wanted) ≡ count_of Version f.wanted
      → ends_of (ask_step f ask) ≡ ends_of f
  asked_other ask same counts =
      λ i. record (ends_by (own_exchange f.progress) f.wanted f.version_used (same i) (is_open f.closing) f.queue.drafts) {
        versions = record (ends_of f).versions { wanted = counts i };
      }

  pub asks_one : (ask : Ask) → ends_of (ask_step f ask) ≡ after_steps (step_of_ask ask) (ends_of f)
  asks_one ask_version =
      λ i. record (ends_of f) { versions = record (ends_of f).versions { wanted = count-with Version ask_version f.wanted true refl i } }
  asks_one (ask_length tx) =
      λ i. record (after_steps (step_of_ask (ask_length tx)) (ends_of f)) {
        versions = record (ends_of f).versions { wanted = count-with Version (ask_length tx) f.wanted false refl i };
      }
  asks_one (ask_update interval latency timeout) = asked_other (ask_update interval latency timeout) refl (count-with Version (ask_update interval latency timeout) f.wanted false refl)
  asks_one (ask_request min max latency timeout) = asked_other (ask_request min max latency timeout) refl (count-with Version (ask_request min max latency timeout) f.wanted false refl)
  asks_one (ask_map map) = asked_other (ask_map map) refl (count-with Version (ask_map map) f.wanted false refl)
  asks_one ask_phy = asked_other ask_phy refl (count-with Version ask_phy f.wanted false refl)
  asks_one ask_features = asked_other ask_features refl (count-with Version ask_features f.wanted false refl)
  asks_one (ask_encrypt rand ediv ltk skd_m iv_m) = asked_other (ask_encrypt rand ediv ltk skd_m iv_m) refl (count-with Version (ask_encrypt rand ediv ltk skd_m iv_m) f.wanted false refl)

-- ---- an acknowledgement

acked_central : (pdu : Pdu) (own : OwnCentral) → exchange_at_central (on_central_stage (own_acked_at_central pdu) own) ≡ exchange_at_central own
acked_central pdu (exclusive own) = refl
acked_central pdu (exchange stage) = refl
acked_central pdu own = refl

acked_peripheral : (pdu : Pdu) (own : OwnPeripheral) → exchange_at_peripheral (on_peripheral_stage (own_acked_at_peripheral pdu) own) ≡ exchange_at_peripheral own
acked_peripheral pdu (exclusive_p own) = refl
acked_peripheral pdu (exchange_p stage) = refl

acked_exchange : (out : Outgoing) (p : Progress) → own_exchange (progress_acked out p) ≡ own_exchange p
acked_exchange out (central c) = by (pdu_of_outgoing out)
  where
    by : (pdu : Option Pdu) → own_exchange (central (central_acked pdu c)) ≡ exchange_at_central c.own
    by (Some pdu) = acked_central pdu c.own
    by None = refl
acked_exchange out (peripheral p) = by (pdu_of_outgoing out)
  where
    by : (pdu : Option Pdu) → own_exchange (peripheral (peripheral_acked pdu p)) ≡ exchange_at_peripheral p.own
    by (Some pdu) = acked_peripheral pdu p.own
    by None = refl

pub acked_one : (f : TableFacts) → ends_of (acked_step f).0 ≡ ends_of f
acked_one f = with_progress f (progress_acked f.out f.progress) (acked_exchange f.out f.progress)

-- ---- an event is entered

held_central : (own : OwnCentral) → exchange_at_central (on_central_stage own_held_at_central own) ≡ exchange_at_central own
held_central (exclusive own) = refl
held_central (exchange stage) = refl
held_central own = refl

held_peripheral : (own : OwnPeripheral) → exchange_at_peripheral (on_peripheral_stage own_held_at_peripheral own) ≡ exchange_at_peripheral own
held_peripheral (exclusive_p own) = refl
held_peripheral (exchange_p stage) = refl

held_exchange : (p : Progress) → own_exchange (progress_held p) ≡ own_exchange p
held_exchange (central c) = held_central c.own
held_exchange (peripheral p) = held_peripheral p.own

pub enters_one : (f : TableFacts) (applied : Bool) → ends_of (entered_step f applied).0 ≡ ends_of f
enters_one f true = with_progress f (progress_held f.progress) (held_exchange f.progress)
enters_one f false = refl

-- ---- the host answers

peer_exchange : (peer : PeerAtCentral) (p : Progress) → own_exchange (peer_becomes peer p) ≡ own_exchange p
peer_exchange peer (central c) = refl
peer_exchange peer (peripheral p) = refl

pub answers_one : (f : TableFacts) (answer : Result Ask ErrCode) → ends_of (host_answer_step f answer) ≡ ends_of f
answers_one f (Ok (ask_update interval latency timeout)) =
    (λ i. ends_by (peer_exchange GrantUnsent f.progress i) f.wanted f.version_used f.lengths (is_open f.closing) (granted_by f (ask_update interval latency timeout)).queue.drafts)
    ∙ other_queued (own_exchange f.progress) f.wanted f.version_used f.lengths f.closing f.queue (Grant (record { interval = interval; latency = latency; timeout = timeout }))
    (record { features = refl; lengths = refl; versions = refl })
answers_one f (Ok (ask_request min max latency timeout)) = refl
answers_one f (Ok (ask_map map)) = refl
answers_one f (Ok ask_phy) = refl
answers_one f (Ok ask_features) = refl
answers_one f (Ok ask_version) = refl
answers_one f (Ok (ask_length tx)) = refl
answers_one f (Ok (ask_encrypt rand ediv ltk skd_m iv_m)) = refl
answers_one f (Err code) =
    (λ i. ends_by (peer_exchange Absent f.progress i) f.wanted f.version_used f.lengths (is_open f.closing) (request_refused f code).queue.drafts)
    ∙ rejection_queued (own_exchange f.progress) f.wanted f.version_used f.lengths f.closing f.queue (record { opcode = connection_param_req_opcode; code = code })

-- ---- the end of the link, and the PDUs of the encryption

pub disconnects_one : (f : TableFacts) (reason : ErrCode) → ends_of (terminate_step f reason) ≡ after_step terminates (ends_of f)
disconnects_one f reason = by f.closing refl
  where
    by : (cl : Closing) → f.closing ≡ cl → ends_of (terminate_step f reason) ≡ after_step terminates (ends_of f)
    by Open is = rw is refl
    by Closed is = rw is refl
    by Disconnecting is = rw is refl

given_exchange : (p : Progress) (ctrl : Ctrl) → own_exchange (progress_given p ctrl) ≡ own_exchange p
given_exchange (central c) ctrl = refl
given_exchange (peripheral p) ctrl = by (is_rejection ctrl)
  where
    by : (b : Bool) → own_exchange (if b then peripheral (record p { encrypting = false }) else peripheral p) ≡ exchange_at_peripheral p.own
    by true = refl
    by false = refl

module _ (f : TableFacts) where
  given_same : (ctrl : Ctrl) → ends_by (own_exchange (progress_given f.progress ctrl)) f.wanted f.version_used f.lengths (is_open f.closing) (owe_step f ctrl).queue.drafts ≡ ends_of f
  given_same ctrl =
      (λ i. ends_by (given_exchange f.progress ctrl i) f.wanted f.version_used f.lengths (is_open f.closing) (owe_step f ctrl).queue.drafts)
      ∙ other_queued (own_exchange f.progress) f.wanted f.version_used f.lengths f.closing f.queue (Cipher ctrl) (record { features = refl; lengths = refl; versions = refl })

  given_end : (code : ℕ) (cl : Closing) → f.closing ≡ cl → ends_of (owe_step f (TerminateInd code)) ≡ after_step terminates (ends_of f)
  given_end code Open is =
      (λ i. ends_by (given_exchange f.progress (TerminateInd code) i) f.wanted f.version_used f.lengths (is_open (closing_given (TerminateInd code) (is i))) (owe_step f (TerminateInd code)).queue.drafts)
      ∙ ap (after_step terminates) (λ i. ends_by (own_exchange f.progress) f.wanted f.version_used f.lengths (is_open f.closing) (owe_step f (TerminateInd code)).queue.drafts)
      ∙ ap (after_step terminates) (other_queued (own_exchange f.progress) f.wanted f.version_used f.lengths f.closing f.queue (Cipher (TerminateInd code)) (record { features = refl; lengths = refl; versions = refl }))
  given_end code Closed is =
      (λ i. ends_by (given_exchange f.progress (TerminateInd code) i) f.wanted f.version_used f.lengths (is_open (closing_given (TerminateInd code) (is i))) (owe_step f (TerminateInd code)).queue.drafts)
      ∙ ap (after_step terminates) (other_queued (own_exchange f.progress) f.wanted f.version_used f.lengths f.closing f.queue (Cipher (TerminateInd code)) (record { features = refl; lengths = refl; versions = refl }))
  given_end code Disconnecting is =
      (λ i. ends_by (given_exchange f.progress (TerminateInd code) i) f.wanted f.version_used f.lengths (is_open (closing_given (TerminateInd code) (is i))) (owe_step f (TerminateInd code)).queue.drafts)
      ∙ ap (after_step terminates) (other_queued (own_exchange f.progress) f.wanted f.version_used f.lengths f.closing f.queue (Cipher (TerminateInd code)) (record { features = refl; lengths = refl; versions = refl }))

  pub owes_one : (ctrl : Ctrl) → ends_of (owe_step f ctrl) ≡ after_steps (step_of_given ctrl) (ends_of f)
  owes_one (TerminateInd code) = given_end code f.closing refl
  owes_one (EncReq rand ediv skd_m iv_m) = given_same (EncReq rand ediv skd_m iv_m)
  owes_one ctrl = given_same ctrl

-- ---- which procedures end by an acknowledgement, and by an event

acked_by : (out : Outgoing) (p : Progress) → exchange_kind (done_by_ack out p) ≡ None
acked_by out (central c) = by (pdu_of_outgoing out)
  where
    by : (pdu : Option Pdu) → exchange_kind (done_at_central_by_ack pdu c) ≡ None
    by (Some pdu) = none_of (done_by_ack_at_central pdu (central_stage c.own))
    by None = refl
acked_by out (peripheral p) = refl

pub acked_none : (f : TableFacts) → exchange_kind (acked_step f).1 ≡ None
acked_none f = acked_by f.out f.progress

held_by : (p : Progress) → exchange_kind (done_held p) ≡ None
held_by (central c) = none_of (done_at_central (central_stage c.own))
held_by (peripheral p) = none_of (done_at_peripheral (peripheral_stage p.own))

pub entered_none : (f : TableFacts) (applied : Bool) → exchange_kind (entered_step f applied).1 ≡ None
entered_none f true = held_by f.progress
entered_none f false = refl
