-- What each call on a table makes of the procedure that an end has in progress.
use Rattle.std.proofs.Common.{◌≡◌, ℕ, Bool, true, false, if◌then◌else◌, ◌++◌, Option, Some, None, is_some, Result, Ok, Err, option_map, unwrap_or, refl, ap, sym, subst}
use Rattle.ble_base.specs.declared.error_codes.ErrCode.{ErrCode}
use Rattle.ble_base.specs.declared.procedure_kinds.Kind.{Kind}
use Rattle.ble_base.specs.declared.procedure_kinds.Kind.TheVariants.{Map as map_kind, Phy, Request, Update}
use Rattle.data_pdu.specs.declared.ctrl.CtrlRead.{CtrlRead}
use Rattle.exclusive_stages.specs.Acked.{done_by_ack_at_central, own_acked_at_central, own_acked_at_peripheral}
use Rattle.exclusive_stages.specs.Held.{done_at_central, done_at_peripheral, own_held_at_central, own_held_at_peripheral}
use Rattle.exclusive_stages.specs.Kinds.{central_kind, kind_of, peripheral_kind}
use Rattle.exclusive_stages.specs.Sent.{own_sent_by_central, own_sent_by_peripheral}
use Rattle.exclusive_stages.specs.declared.pdus.Exclusive.{Exclusive}
use Rattle.exclusive_stages.specs.declared.pdus.Pdu.{Pdu}
use Rattle.exclusive_stages.specs.declared.pdus.Pdu.TheVariants.{UpdateInd, MapInd, PhyReq, PhyInd, ParamReq}
use Rattle.exclusive_stages.specs.declared.stages.CentralStage.{CentralStage}
use Rattle.exclusive_stages.specs.declared.stages.CentralStage.TheVariants.{MapSent, MapUnsent, PhyAnswered, PhyIndicated, PhyUnsent, UpdateSent, UpdateUnsent}
use Rattle.exclusive_stages.specs.declared.stages.PeerAtCentral.{PeerAtCentral}
use Rattle.exclusive_stages.specs.declared.stages.PeripheralStage.{PeripheralStage}
use Rattle.exclusive_stages.specs.declared.stages.PeripheralStage.TheVariants.{RequestGranted, RequestSent, RequestUnsent, PhyUnsent as phy_unsent}
use Rattle.link_model.specs.Entering.{began_notes, done_notes}
use Rattle.link_model.specs.Receiving.{given_notes, refused_notes}
use Rattle.link_model.specs.control_end.Answers.{step_shown}
use Rattle.link_model.specs.procedure_values.Asks.{kind_of_ask}
use Rattle.link_model.specs.procedure_values.declared.asks.Ask.{Ask}
use Rattle.link_model.specs.procedure_values.declared.asks.Ask.TheVariants.{Update as ask_update, Request as ask_request, Map as ask_map, Version as ask_version, Encrypt as ask_encrypt}
use Rattle.link_model.specs.procedure_values.declared.drafts.Draft.{Draft}
use Rattle.link_model.specs.procedure_values.declared.drafts.Draft.TheVariants.{Cipher, FeatureReq, LengthReq, PeripheralFeatureReq, VersionInd}
use Rattle.link_model.specs.procedure_values.declared.drafts.Outgoing.{Outgoing}
use Rattle.link_model.specs.procedure_values.declared.drafts.Outgoing.TheVariants.{Other}
use Rattle.link_model.specs.procedure_stages.Acked.{central_acked, done_at_central_by_ack, done_by_ack, peripheral_acked, progress_acked}
use Rattle.link_model.specs.procedure_stages.Begun.{progress_begun}
use Rattle.link_model.specs.procedure_stages.Exclusive.{central_stage, on_central_stage, on_peripheral_stage, pdu_of_draft, pdu_of_outgoing, peripheral_stage}
use Rattle.link_model.specs.procedure_stages.Held.{done_held, progress_held}
use Rattle.link_model.specs.procedure_stages.InProgress.{peer_becomes}
use Rattle.link_model.specs.procedure_stages.Kinds.{begins, is_kind, kind_at_central, kind_at_peripheral, kind_of_exchange, own_kind, role_of}
use Rattle.link_model.specs.procedure_stages.Sent.{exchange_sent, exclusive_sent_by_central, exclusive_sent_by_peripheral, own_draft_sent_by_central, own_draft_sent_by_peripheral, progress_after_sending}
use Rattle.link_model.specs.procedure_stages.declared.stages.Exchange.{Exchange}
use Rattle.link_model.specs.procedure_stages.declared.stages.Exchange.TheVariants.{FeaturesUnsent, LengthUnsent, VersionUnsent}
use Rattle.link_model.specs.procedure_stages.declared.stages.OwnCentral.{OwnCentral}
use Rattle.link_model.specs.procedure_stages.declared.stages.OwnCentral.TheVariants.{Exclusive as exclusive, EncryptSent, EncryptUnsent, Exchange as exchange}
use Rattle.link_model.specs.procedure_stages.declared.stages.OwnPeripheral.{OwnPeripheral}
use Rattle.link_model.specs.procedure_stages.declared.stages.OwnPeripheral.TheVariants.{Exclusive as exclusive_p, Exchange as exchange_p}
use Rattle.link_model.specs.procedure_stages.declared.stages.Progress.{Progress}
use Rattle.link_model.specs.procedure_stages.declared.stages.Progress.TheVariants.{Central as central, Peripheral as peripheral}
use Rattle.link_model.specs.procedure_stages.declared.steps.Step.{Step}
use Rattle.link_model.specs.procedures.declared.outcome.Outcome.{Outcome}
use Rattle.link_model.specs.procedures.Beginning.{ask_at, begin_at, begin_step, place_to_begin}
use Rattle.link_model.specs.procedures.Going.{entered_step, host_answer_step}
use Rattle.link_model.specs.procedures.Sending.{acked_step}
use Rattle.link_model.specs.procedures.Table.{TableFacts}
use Rattle.link_model.specs.procedures.Taking.{facts_with, lacks_room, no_room, outcome_of, took_step}
use Rattle.link_model.proofs.table_laws.Begun.{begins_of}
use Rattle.link_procedures.proofs.Noting.{GoesBy, began_goes, done_goes, goes_on}
use Rattle.link_procedures.proofs.Outcomes.{KeepsOwn, takes_pdu}

-- ---- a control PDU of the peer is taken

abbrev Goes : ℕ → TableFacts → TableFacts × Step → Type 0
Goes handle f after = after.1.ends ≡ None → GoesBy (given_notes handle (step_shown after.1)) (own_kind f.progress) (own_kind after.0.progress)

took_by : (handle : ℕ) (f g : TableFacts) (lacks ends : Bool) (o : Outcome) → is_some o.step.ends ≡ ends → KeepsOwn f.progress o → g.progress ≡ o.progress
    → Goes handle f (if lacks then (f, no_room) else (if ends then (f, o.step) else (g, o.step)))
took_by handle f g true ends o is keeps same none = absurd (cc)
took_by handle f g false true o is keeps same none = absurd (cc (is, none))
took_by handle f g false false o is keeps same none =
    subst (λ (p : Progress). GoesBy (refused_notes handle o.step.refused ++ done_notes handle o.step.done) (own_kind f.progress) (own_kind p)) (sym same)
    (keeps.goes handle)

-- where the link does not end by it
pub took_goes : (handle : ℕ) (f : TableFacts) (read : CtrlRead) (slot : ℕ) (quiet : Bool) → Goes handle f (took_step f read slot quiet)
took_goes handle f read slot quiet =
    let o = outcome_of f quiet read in
    took_by handle f (facts_with f slot o) (lacks_room f o) (is_some o.step.ends) o refl (takes_pdu f quiet read) refl

-- ---- an event is entered

held_at_central : (handle : ℕ) (stage : CentralStage)
    → GoesBy (done_notes handle (option_map kind_of (done_at_central stage))) (option_map kind_of (central_kind stage))
    (option_map kind_of (central_kind (own_held_at_central stage)))
held_at_central handle UpdateSent = done_goes handle Update
held_at_central handle MapSent = done_goes handle map_kind
held_at_central handle stage = goes_on (option_map kind_of (central_kind stage))

held_at_peripheral : (handle : ℕ) (stage : PeripheralStage)
    → GoesBy (done_notes handle (option_map kind_of (done_at_peripheral stage))) (option_map kind_of (peripheral_kind stage))
    (option_map kind_of (peripheral_kind (own_held_at_peripheral stage)))
held_at_peripheral handle RequestGranted = done_goes handle Request
held_at_peripheral handle stage = goes_on (option_map kind_of (peripheral_kind stage))

held_goes : (handle : ℕ) (p : Progress) → GoesBy (done_notes handle (done_held p)) (own_kind p) (own_kind (progress_held p))
held_goes handle (central c) = by c.own
  where
    by : (own : OwnCentral)
        → GoesBy (done_notes handle (option_map kind_of (done_at_central (central_stage own)))) (kind_at_central own)
        (kind_at_central (on_central_stage own_held_at_central own))
    by (exclusive stage) = held_at_central handle stage
    by own = goes_on (kind_at_central own)
held_goes handle (peripheral p) = by p.own
  where
    by : (own : OwnPeripheral)
        → GoesBy (done_notes handle (option_map kind_of (done_at_peripheral (peripheral_stage own)))) (kind_at_peripheral own)
        (kind_at_peripheral (on_peripheral_stage own_held_at_peripheral own))
    by (exclusive_p stage) = held_at_peripheral handle stage
    by own = goes_on (kind_at_peripheral own)

pub entered_goes : (handle : ℕ) (f : TableFacts) (applied : Bool)
    → GoesBy (done_notes handle (entered_step f applied).1) (own_kind f.progress) (own_kind (entered_step f applied).0.progress)
entered_goes handle f true = held_goes handle f.progress
entered_goes handle f false = goes_on (own_kind f.progress)

-- ---- a procedure begins

begun_kind : (ask : Ask) (used : Bool) (p : Progress) → begins (role_of p) (kind_of_ask ask) ≡ true
    → own_kind (progress_begun ask used p) ≡ Some (kind_of_ask ask)
begun_kind ask_version true (central c) is = refl
begun_kind ask_version false (central c) is = refl
begun_kind (ask_request min max latency timeout) used (central c) is = absurd (cc)
begun_kind ask used (central c) is = refl
begun_kind ask_version true (peripheral p) is = refl
begun_kind ask_version false (peripheral p) is = refl
begun_kind (ask_update interval latency timeout) used (peripheral p) is = absurd (cc)
begun_kind (ask_map map) used (peripheral p) is = absurd (cc)
begun_kind (ask_encrypt rand ediv ltk skd_m iv_m) used (peripheral p) is = absurd (cc)
begun_kind ask used (peripheral p) is = refl

begun_by : (handle : ℕ) (f : TableFacts) (slot : ℕ) (quiet : Bool) (place : Option ℕ) (ask : Option Ask) → place_to_begin f quiet ≡ place
    → ask_at place f.wanted ≡ ask
    → GoesBy (began_notes handle (begin_at f slot place ask).1) (own_kind f.progress) (own_kind (begin_at f slot place ask).0.progress)
begun_by handle f slot quiet None ask first got = goes_on (own_kind f.progress)
begun_by handle f slot quiet (Some place) None first got = goes_on (own_kind f.progress)
begun_by handle f slot quiet (Some place) (Some ask) first got =
    let may = begins_of f quiet place ask first got in
    let notes = began_notes handle (Some (kind_of_ask ask)) in
    let later = own_kind (progress_begun ask f.version_used f.progress) in
    subst (λ (before : Option Kind). GoesBy notes before later) (sym may.none)
    (subst (λ (own : Option Kind). GoesBy notes None own) (sym (begun_kind ask f.version_used f.progress may.role)) (began_goes handle (kind_of_ask ask)))

pub begin_goes : (handle : ℕ) (f : TableFacts) (slot : ℕ) (quiet : Bool)
    → GoesBy (began_notes handle (begin_step f slot quiet).1) (own_kind f.progress) (own_kind (begin_step f slot quiet).0.progress)
begin_goes handle f slot quiet = begun_by handle f slot quiet (place_to_begin f quiet) (ask_at (place_to_begin f quiet) f.wanted) refl refl

-- ---- a control PDU is acknowledged

acked_stage : (handle : ℕ) (pdu : Pdu) (stage : CentralStage)
    → GoesBy (done_notes handle (option_map kind_of (done_by_ack_at_central pdu stage))) (option_map kind_of (central_kind stage))
    (option_map kind_of (central_kind (own_acked_at_central pdu stage)))
acked_stage handle PhyInd PhyIndicated = done_goes handle Phy
acked_stage handle pdu stage = goes_on (option_map kind_of (central_kind stage))

acked_own : (handle : ℕ) (pdu : Pdu) (own : OwnCentral)
    → GoesBy (done_notes handle (option_map kind_of (done_by_ack_at_central pdu (central_stage own)))) (kind_at_central own)
    (kind_at_central (on_central_stage (own_acked_at_central pdu) own))
acked_own handle pdu (exclusive stage) = acked_stage handle pdu stage
acked_own handle PhyInd own = goes_on (kind_at_central own)
acked_own handle pdu own = goes_on (kind_at_central own)

acked_peripheral : (pdu : Pdu) (own : OwnPeripheral) → kind_at_peripheral (on_peripheral_stage (own_acked_at_peripheral pdu) own) ≡ kind_at_peripheral own
acked_peripheral ParamReq (exclusive_p RequestSent) = refl
acked_peripheral pdu (exclusive_p stage) = refl
acked_peripheral pdu own = refl

acked_progress : (handle : ℕ) (out : Outgoing) (p : Progress) → GoesBy (done_notes handle (done_by_ack out p)) (own_kind p) (own_kind (progress_acked out p))
acked_progress handle out (central c) = by (pdu_of_outgoing out)
  where
    by : (pdu : Option Pdu) → GoesBy (done_notes handle (done_at_central_by_ack pdu c)) (kind_at_central c.own) (own_kind (central (central_acked pdu c)))
    by None = goes_on (kind_at_central c.own)
    by (Some pdu) = acked_own handle pdu c.own
acked_progress handle out (peripheral p) = by (pdu_of_outgoing out)
  where
    by : (pdu : Option Pdu) → GoesBy (done_notes handle None) (kind_at_peripheral p.own) (own_kind (peripheral (peripheral_acked pdu p)))
    by None kind = refl
    by (Some pdu) kind = ap (λ (o : Option Kind). is_kind o kind) (sym (acked_peripheral pdu p.own))

pub acked_goes : (handle : ℕ) (f : TableFacts) → GoesBy (done_notes handle (acked_step f).1) (own_kind f.progress) (own_kind (acked_step f).0.progress)
acked_goes handle f = acked_progress handle f.out f.progress

-- ---- a control PDU is sent

sent_central_stage : (pdu : Pdu) (stage : CentralStage) → central_kind (unwrap_or (own_sent_by_central pdu stage) stage) ≡ central_kind stage
sent_central_stage UpdateInd UpdateUnsent = refl
sent_central_stage MapInd MapUnsent = refl
sent_central_stage PhyReq PhyUnsent = refl
sent_central_stage PhyInd PhyAnswered = refl
sent_central_stage pdu stage = refl

sent_peripheral_stage : (pdu : Pdu) (stage : PeripheralStage) → peripheral_kind (unwrap_or (own_sent_by_peripheral pdu stage) stage) ≡ peripheral_kind stage
sent_peripheral_stage ParamReq RequestUnsent = refl
sent_peripheral_stage PhyReq phy_unsent = refl
sent_peripheral_stage pdu stage = refl

sent_exchange : (draft : Draft) (stage : Exchange) → kind_of_exchange (unwrap_or (exchange_sent draft stage) stage) ≡ kind_of_exchange stage
sent_exchange FeatureReq FeaturesUnsent = refl
sent_exchange PeripheralFeatureReq FeaturesUnsent = refl
sent_exchange VersionInd VersionUnsent = refl
sent_exchange (LengthReq rx tx) LengthUnsent = refl
sent_exchange draft stage = refl

sent_at_central : (draft : Draft) (own : OwnCentral) → kind_at_central (unwrap_or (own_draft_sent_by_central draft own) own) ≡ kind_at_central own
sent_at_central draft (exclusive stage) = by (pdu_of_draft draft)
  where
    by : (pdu : Option Pdu)
        → kind_at_central (unwrap_or (option_map (λ next. exclusive next) (exclusive_sent_by_central pdu stage)) (exclusive stage))
        ≡ kind_at_central (exclusive stage)
    by None = refl
    by (Some pdu) = inside (own_sent_by_central pdu stage) (sent_central_stage pdu stage)
      where
        inside : (next : Option CentralStage) → central_kind (unwrap_or next stage) ≡ central_kind stage
            → kind_at_central (unwrap_or (option_map (λ next. exclusive next) next) (exclusive stage)) ≡ kind_at_central (exclusive stage)
        inside None is = refl
        inside (Some next) is = ap (λ (kind : Option Exclusive). option_map kind_of kind) is
sent_at_central draft (exchange stage) = by (exchange_sent draft stage) (sent_exchange draft stage)
  where
    by : (next : Option Exchange) → kind_of_exchange (unwrap_or next stage) ≡ kind_of_exchange stage
        → kind_at_central (unwrap_or (option_map (λ next. exchange next) next) (exchange stage)) ≡ kind_at_central (exchange stage)
    by None is = refl
    by (Some next) is = ap (λ (kind : Kind). Some kind) is
sent_at_central (Cipher ctrl) EncryptUnsent = refl
sent_at_central draft EncryptUnsent = refl
sent_at_central (Cipher ctrl) EncryptSent = refl
sent_at_central draft EncryptSent = refl

sent_at_peripheral : (draft : Draft) (own : OwnPeripheral)
    → kind_at_peripheral (unwrap_or (own_draft_sent_by_peripheral draft own) own) ≡ kind_at_peripheral own
sent_at_peripheral draft (exclusive_p stage) = by (pdu_of_draft draft)
  where
    by : (pdu : Option Pdu)
        → kind_at_peripheral (unwrap_or (option_map (λ next. exclusive_p next) (exclusive_sent_by_peripheral pdu stage)) (exclusive_p stage))
        ≡ kind_at_peripheral (exclusive_p stage)
    by None = refl
    by (Some pdu) = inside (own_sent_by_peripheral pdu stage) (sent_peripheral_stage pdu stage)
      where
        inside : (next : Option PeripheralStage) → peripheral_kind (unwrap_or next stage) ≡ peripheral_kind stage
            → kind_at_peripheral (unwrap_or (option_map (λ next. exclusive_p next) next) (exclusive_p stage)) ≡ kind_at_peripheral (exclusive_p stage)
        inside None is = refl
        inside (Some next) is = ap (λ (kind : Option Exclusive). option_map kind_of kind) is
sent_at_peripheral draft (exchange_p stage) = by (exchange_sent draft stage) (sent_exchange draft stage)
  where
    by : (next : Option Exchange) → kind_of_exchange (unwrap_or next stage) ≡ kind_of_exchange stage
        → kind_at_peripheral (unwrap_or (option_map (λ next. exchange_p next) next) (exchange_p stage)) ≡ kind_at_peripheral (exchange_p stage)
    by None is = refl
    by (Some next) is = ap (λ (kind : Kind). Some kind) is

pub sent_same : (outgoing : Outgoing) (event skips : ℕ) (p : Progress) → own_kind (progress_after_sending outgoing event skips p) ≡ own_kind p
sent_same (Other draft) event skips (central c) = sent_at_central draft c.own
sent_same (Other draft) event skips (peripheral p) = sent_at_peripheral draft p.own
sent_same other event skips p = refl

-- ---- the host answers a request of the peripheral

peer_same : (peer : PeerAtCentral) (p : Progress) → own_kind (peer_becomes peer p) ≡ own_kind p
peer_same peer (central c) = refl
peer_same peer (peripheral p) = refl

pub answered_same : (f : TableFacts) (answer : Result Ask ErrCode) → own_kind (host_answer_step f answer).progress ≡ own_kind f.progress
answered_same f (Ok (ask_update interval latency timeout)) = peer_same _ f.progress
answered_same f (Ok other) = refl
answered_same f (Err code) = peer_same _ f.progress
