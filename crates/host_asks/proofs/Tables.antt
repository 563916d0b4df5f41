-- What the view knows of the table of an end, step by step.
use Rattle.std.proofs.Common.{◌≡◌, ℕ, ◌+◌, ◌==◌, Bool, true, false, not, ◌||◌, if◌then◌else◌, List, Option, Some, None, remove, refl, ap, sym, ◌∙◌, subst, arith}
use Rattle.std.specs.Option.{option_map, unwrap_or}
use Rattle.std.proofs.lemmas.List.Quantifiers.{position-Some}
use Rattle.std.proofs.lemmas.Option.{get_or_from_slice_get}
use Rattle.ble_base.specs.declared.error_codes.ErrCode.{ErrCode}
use Rattle.ble_base.specs.declared.procedure_kinds.Kind.{Kind}
use Rattle.ble_base.specs.declared.procedure_kinds.Kind.TheVariants.{Update, Request, Map, Phy}
use Rattle.data_pdu.specs.declared.ctrl.Ctrl.{Ctrl}
use Rattle.data_pdu.specs.declared.ctrl.Ctrl.TheVariants.{TerminateInd}
use Rattle.data_pdu.specs.declared.ctrl.CtrlRead.{CtrlRead}
use Rattle.exclusive_stages.specs.declared.pdus.Pdu.{Pdu}
use Rattle.exclusive_stages.specs.declared.pdus.Pdu.TheVariants.{GrantInd, MapInd, ParamReq, PhyInd as phy_ind_pdu, PhyReq as phy_req_pdu, UpdateInd}
use Rattle.exclusive_stages.specs.declared.stages.CentralStage.{CentralStage}
use Rattle.exclusive_stages.specs.declared.stages.CentralStage.TheVariants.{MapSent, MapUnsent, PhyAnswered, PhyIndicated, PhyUnsent, UpdateSent, UpdateUnsent}
use Rattle.exclusive_stages.specs.declared.stages.PeripheralStage.{PeripheralStage}
use Rattle.exclusive_stages.specs.declared.stages.PeripheralStage.TheVariants.{PhyUnsent as phy_unsent, RequestGranted, RequestSent, RequestUnsent}
use Rattle.exclusive_stages.specs.declared.stages.PeerAtCentral.{PeerAtCentral}
use Rattle.exclusive_stages.specs.declared.stages.PeerAtCentral.TheVariants.{GrantSent, GrantUnsent, PhyIndSent, PhyIndUnsent}
use Rattle.exclusive_stages.specs.Acked.{own_acked_at_central, own_acked_at_peripheral, peer_acked_at_central}
use Rattle.exclusive_stages.specs.Held.{own_held_at_central, own_held_at_peripheral, peer_held_at_central}
use Rattle.exclusive_stages.specs.Kinds.{is_host_asked_at_central}
use Rattle.exclusive_stages.specs.Sent.{own_sent_by_central, own_sent_by_peripheral, peer_sent_by_central}
use Rattle.link_commands.specs.open_links.procedure_values.declared.asks.Ask.{Ask}
use Rattle.link_commands.specs.open_links.procedure_values.declared.asks.Ask.TheVariants.{Update as ask_update, Request as ask_request, Map as ask_map, Version as ask_version, Encrypt as ask_encrypt}
use Rattle.link_commands.specs.open_links.procedure_values.declared.drafts.Draft.{Draft}
use Rattle.link_commands.specs.open_links.procedure_values.declared.drafts.Draft.TheVariants.{Cipher, FeatureReq, LengthReq, PeripheralFeatureReq, VersionInd}
use Rattle.link_commands.specs.open_links.procedure_values.declared.drafts.Outgoing.{Outgoing}
use Rattle.link_commands.specs.open_links.procedure_values.declared.drafts.Outgoing.TheVariants.{Other}
use Rattle.link_commands.specs.open_links.procedure_values.Asks.{is_same_kind, kind_of_ask}
use Rattle.link_commands.specs.open_links.procedure_values.Wants.{count_of, is_wanted}
use Rattle.link_commands.proofs.open_links.procedure_values.Counts.{count-removed, wanted-counted}
use Rattle.procedure_events.specs.procedure_stages.declared.closing.Closing.{Closing}
use Rattle.procedure_events.specs.procedure_stages.declared.closing.Closing.TheVariants.{Open, Closed, Disconnecting}
use Rattle.procedure_events.specs.procedure_stages.declared.stages.Exchange.{Exchange}
use Rattle.procedure_events.specs.procedure_stages.declared.stages.Exchange.TheVariants.{FeaturesUnsent, LengthUnsent, VersionUnsent}
use Rattle.procedure_events.specs.procedure_stages.declared.stages.OwnCentral.{OwnCentral}
use Rattle.procedure_events.specs.procedure_stages.declared.stages.OwnCentral.TheVariants.{Exclusive as exclusive, EncryptSent, EncryptUnsent, Exchange as exchange}
use Rattle.procedure_events.specs.procedure_stages.declared.stages.OwnPeripheral.{OwnPeripheral}
use Rattle.procedure_events.specs.procedure_stages.declared.stages.OwnPeripheral.TheVariants.{Exclusive as exclusive_p, Exchange as exchange_p}
use Rattle.procedure_events.specs.procedure_stages.declared.stages.Peripheral.{Peripheral}
use Rattle.procedure_events.specs.procedure_stages.declared.stages.Progress.{Progress}
use Rattle.procedure_events.specs.procedure_stages.declared.stages.Progress.TheVariants.{Central as central, Peripheral as peripheral}
use Rattle.procedure_events.specs.procedure_stages.declared.steps.Effect.{Effect}
use Rattle.procedure_events.specs.procedure_stages.declared.steps.Step.{Step}
use Rattle.procedure_events.specs.procedure_stages.declared.steps.Effect.TheVariants.{AskHost, PeerEnds}
use Rattle.procedure_events.specs.procedure_stages.Acked.{central_acked, done_at_central_by_ack, done_by_ack, peripheral_acked, progress_acked}
use Rattle.procedure_events.specs.procedure_stages.Begun.{progress_begun}
use Rattle.procedure_events.specs.procedure_stages.Closing.{is_disconnecting, is_open}
use Rattle.procedure_events.specs.procedure_stages.Exclusive.{on_central_stage, on_peripheral_stage, pdu_of_draft, pdu_of_outgoing}
use Rattle.procedure_events.specs.procedure_stages.Held.{done_held, progress_held}
use Rattle.procedure_events.specs.procedure_stages.InProgress.{is_host_asked}
use Rattle.procedure_events.specs.procedure_stages.Kinds.{begins, is_kind, kind_at_central, kind_at_peripheral, own_kind, role_of}
use Rattle.procedure_events.specs.procedure_stages.Sent.{exchange_sent, own_draft_sent_by_central, own_draft_sent_by_peripheral, peer_draft_sent_by_central, progress_after_sending}
use Rattle.procedure_events.specs.procedure_stages.Steps.{closing_after}
use Rattle.procedure_events.specs.procedures.Beginning.{ask_at, ask_step, begin_at, begin_step, may_ask_of, place_to_begin}
use Rattle.procedure_events.specs.procedures.Encryption.{is_rejection, progress_given}
use Rattle.procedure_events.specs.procedures.Going.{closing_given, entered_step, owe_step}
use Rattle.procedure_events.specs.procedures.Sending.{acked_step, facts_sent}
use Rattle.procedure_events.specs.procedures.Table.{TableFacts}
use Rattle.procedure_events.specs.procedures.Taking.{facts_with, outcome_of}
use Rattle.link_commands.proofs.open_links.table_laws.Begun.{Begins, begins_of}
use Rattle.host_view.specs.declared.links.Asked.{Asked}
use Rattle.host_view.specs.declared.links.Link.{Link}
use Rattle.host_view.specs.Changes.{asking, is_encryption}
use Rattle.host_view.specs.Links.{is_asked}
use Rattle.host_view.specs.Refusals.{count_if}
use Rattle.host_asks.specs.Knowing.{KnowsTable}
use Rattle.host_asks.specs.Noting.{link_with_request}
use Rattle.host_asks.proofs.Keeping.{KnowsKinds, asked_done, asked_refused, asks_one, own_begun, own_over}
use Rattle.host_asks.proofs.Outcomes.{KeepsAsks, takes_pdu, waits_after}

-- a procedure is refused, and one is done, with which the link may be encrypted
abbrev pub encrypted_done : Option Kind → Bool → Bool
encrypted_done None encrypted = encrypted
encrypted_done (Some kind) encrypted = is_encryption kind || encrypted

abbrev pub link_done : Option Kind → Link → Link
link_done done link = record link { asked = asked_done done link.asked; encrypted = encrypted_done done link.encrypted }

abbrev pub link_refused : Option (Kind × ErrCode) → Link → Link
link_refused refused link = record link { asked = asked_refused refused link.asked }

-- ---- a table whose link does not change, and one that has the same kinds

-- the procedures that an end runs stay of the same kinds
pub record SameKinds (p q : Progress) : Type 0 where
  pub role : role_of q ≡ role_of p
  pub own : own_kind q ≡ own_kind p
  pub host : is_host_asked q ≡ is_host_asked p

pub keeps_table : (link : Link) (f g : TableFacts) → g.wanted ≡ f.wanted → g.closing ≡ f.closing → SameKinds f.progress g.progress
    → KnowsTable link f → KnowsTable link g
keeps_table link f g wanted closing same knows =
    record {
      role = same.role ∙ knows.role;
      asked = λ kind other. (λ i. count_of kind (wanted i) + count_if (is_kind (same.own i) kind)) ∙ knows.asked kind other;
      closes = λ is. ap is_open closing ∙ knows.closes is;
      disconnects = λ is. knows.disconnects (sym (ap is_disconnecting closing) ∙ is);
      parameters = λ is. knows.parameters (sym same.host ∙ is);
    }

-- ---- a control PDU is sent

sent_stage_c : (pdu : Pdu) (stage : CentralStage)
    → kind_at_central (unwrap_or (option_map (λ next. exclusive next) (own_sent_by_central pdu stage)) (exclusive stage)) ≡ kind_at_central (exclusive stage)
sent_stage_c UpdateInd UpdateUnsent = refl
sent_stage_c MapInd MapUnsent = refl
sent_stage_c phy_req_pdu PhyUnsent = refl
sent_stage_c phy_ind_pdu PhyAnswered = refl
sent_stage_c pdu stage = refl

sent_stage_p : (pdu : Pdu) (stage : PeripheralStage)
    → kind_at_peripheral (unwrap_or (option_map (λ next. exclusive_p next) (own_sent_by_peripheral pdu stage)) (exclusive_p stage))
    ≡ kind_at_peripheral (exclusive_p stage)
sent_stage_p ParamReq RequestUnsent = refl
sent_stage_p phy_req_pdu phy_unsent = refl
sent_stage_p pdu stage = refl

sent_exchange_c : (draft : Draft) (stage : Exchange)
    → kind_at_central (unwrap_or (option_map (λ next. exchange next) (exchange_sent draft stage)) (exchange stage)) ≡ kind_at_central (exchange stage)
sent_exchange_c FeatureReq FeaturesUnsent = refl
sent_exchange_c PeripheralFeatureReq FeaturesUnsent = refl
sent_exchange_c VersionInd VersionUnsent = refl
sent_exchange_c (LengthReq rx tx) LengthUnsent = refl
sent_exchange_c draft stage = refl

sent_exchange_p : (draft : Draft) (stage : Exchange)
    → kind_at_peripheral (unwrap_or (option_map (λ next. exchange_p next) (exchange_sent draft stage)) (exchange_p stage)) ≡ kind_at_peripheral (exchange_p stage)
sent_exchange_p FeatureReq FeaturesUnsent = refl
sent_exchange_p PeripheralFeatureReq FeaturesUnsent = refl
sent_exchange_p VersionInd VersionUnsent = refl
sent_exchange_p (LengthReq rx tx) LengthUnsent = refl
sent_exchange_p draft stage = refl

sent_own_c : (draft : Draft) (own : OwnCentral) → kind_at_central (unwrap_or (own_draft_sent_by_central draft own) own) ≡ kind_at_central own
sent_own_c draft (exclusive stage) = by (pdu_of_draft draft) refl
  where
    by : (pdu : Option Pdu) → pdu_of_draft draft ≡ pdu
        → kind_at_central (unwrap_or (own_draft_sent_by_central draft (exclusive stage)) (exclusive stage)) ≡ kind_at_central (exclusive stage)
    by None is = rw is refl
    by (Some pdu) is = rw is (sent_stage_c pdu stage)
sent_own_c draft (exchange stage) = sent_exchange_c draft stage
sent_own_c (Cipher ctrl) EncryptUnsent = refl
sent_own_c (Cipher ctrl) EncryptSent = refl
sent_own_c draft own = refl

sent_own_p : (draft : Draft) (own : OwnPeripheral) → kind_at_peripheral (unwrap_or (own_draft_sent_by_peripheral draft own) own) ≡ kind_at_peripheral own
sent_own_p draft (exclusive_p stage) = by (pdu_of_draft draft) refl
  where
    by : (pdu : Option Pdu) → pdu_of_draft draft ≡ pdu
        → kind_at_peripheral (unwrap_or (own_draft_sent_by_peripheral draft (exclusive_p stage)) (exclusive_p stage)) ≡ kind_at_peripheral (exclusive_p stage)
    by None is = rw is refl
    by (Some pdu) is = rw is (sent_stage_p pdu stage)
sent_own_p draft (exchange_p stage) = sent_exchange_p draft stage

sent_peer : (pdu : Pdu) (peer : PeerAtCentral) → is_host_asked_at_central (peer_sent_by_central pdu peer) ≡ is_host_asked_at_central peer
sent_peer GrantInd GrantUnsent = refl
sent_peer phy_ind_pdu PhyIndUnsent = refl
sent_peer pdu peer = refl

sent_host : (pdu : Option Pdu) (peer : PeerAtCentral) → is_host_asked_at_central (peer_draft_sent_by_central pdu peer) ≡ is_host_asked_at_central peer
sent_host None peer = refl
sent_host (Some pdu) peer = sent_peer pdu peer

sent_kinds : (outgoing : Outgoing) (event skips : ℕ) (p : Progress) → SameKinds p (progress_after_sending outgoing event skips p)
sent_kinds (Other draft) event skips (central c) =
    record { role = refl; own = sent_own_c draft c.own; host = sent_host (pdu_of_draft draft) c.peer }
sent_kinds (Other draft) event skips (peripheral p) = record { role = refl; own = sent_own_p draft p.own; host = refl }
sent_kinds other event skips p = record { role = refl; own = refl; host = refl }

pub table_sent : (link : Link) (f : TableFacts) (outgoing : Outgoing) (event skips slot : ℕ) → KnowsTable link f
    → KnowsTable link (facts_sent f outgoing event skips slot)
table_sent link f outgoing event skips slot knows =
    keeps_table link f (facts_sent f outgoing event skips slot) refl refl (sent_kinds outgoing event skips f.progress) knows

-- ---- one is acknowledged

acked_own : (wanted : List Ask) (pdu : Pdu) (own : OwnCentral) (asked : Asked) → KnowsKinds wanted (kind_at_central own) asked
    → KnowsKinds wanted (kind_at_central (on_central_stage (own_acked_at_central pdu) own))
    (asked_done (done_at_central_by_ack (Some pdu) (record { own = own; peer = GrantSent; last_instant = None })) asked)
acked_own wanted phy_ind_pdu (exclusive PhyIndicated) asked knows = own_over wanted Phy asked knows
acked_own wanted pdu (exclusive stage) asked knows = knows
acked_own wanted pdu own asked knows = knows

acked_request : (pdu : Pdu) (own : OwnPeripheral) → kind_at_peripheral (on_peripheral_stage (own_acked_at_peripheral pdu) own) ≡ kind_at_peripheral own
acked_request ParamReq (exclusive_p RequestSent) = refl
acked_request pdu (exclusive_p stage) = refl
acked_request pdu own = refl

acked_peer : (pdu : Pdu) (peer : PeerAtCentral) → is_host_asked_at_central (peer_acked_at_central pdu peer) ≡ is_host_asked_at_central peer
acked_peer phy_ind_pdu PhyIndSent = refl
acked_peer pdu peer = refl

pub record AckedBy (p q : Progress) (wanted : List Ask) (done : Option Kind) : Type 0 where
  pub role : role_of q ≡ role_of p
  pub kinds : (asked : Asked) → KnowsKinds wanted (own_kind p) asked → KnowsKinds wanted (own_kind q) (asked_done done asked)
  pub host : is_host_asked q ≡ is_host_asked p

acked_by : (wanted : List Ask) (out : Outgoing) (p : Progress) → AckedBy p (progress_acked out p) wanted (done_by_ack out p)
acked_by wanted out (central c) = by (pdu_of_outgoing out)
  where
    by : (pdu : Option Pdu) → AckedBy (central c) (central (central_acked pdu c)) wanted (done_at_central_by_ack pdu c)
    by None = record { role = refl; kinds = λ asked is. is; host = refl }
    by (Some pdu) = record { role = refl; kinds = λ asked is. acked_own wanted pdu c.own asked is; host = acked_peer pdu c.peer }
acked_by wanted out (peripheral p) = by (pdu_of_outgoing out)
  where
    by : (pdu : Option Pdu) → AckedBy (peripheral p) (peripheral (peripheral_acked pdu p)) wanted None
    by None = record { role = refl; kinds = λ asked is. is; host = refl }
    by (Some pdu) =
        record {
          role = refl;
          kinds = λ asked is. subst (λ (o : Option Kind). KnowsKinds wanted o asked) (sym (acked_request pdu p.own)) is;
          host = refl;
        }

-- the procedures go on, and one may be done
goes_by : (link : Link) (f : TableFacts) (q : Progress) (done : Option Kind) → AckedBy f.progress q f.wanted done → KnowsTable link f
    → KnowsTable (link_done done link) (record f { progress = q })
goes_by link f q over by knows =
    record {
      role = by.role ∙ knows.role;
      asked = by.kinds link.asked knows.asked;
      closes = knows.closes;
      disconnects = knows.disconnects;
      parameters = λ is. knows.parameters (sym by.host ∙ is);
    }

pub table_acked : (link : Link) (f : TableFacts) → KnowsTable link f → KnowsTable (link_done (acked_step f).1 link) (acked_step f).0
table_acked link f knows =
    let is = goes_by link f (progress_acked f.out f.progress) (done_by_ack f.out f.progress) (acked_by f.wanted f.out f.progress) knows in
    record { role = is.role; asked = is.asked; closes = is.closes; disconnects = is.disconnects; parameters = is.parameters }

-- ---- an event is entered

held_own_c : (wanted : List Ask) (own : OwnCentral) (asked : Asked) → KnowsKinds wanted (kind_at_central own) asked
    → KnowsKinds wanted (kind_at_central (on_central_stage own_held_at_central own))
    (asked_done (done_held (central (record { own = own; peer = GrantSent; last_instant = None }))) asked)
held_own_c wanted (exclusive UpdateSent) asked knows = own_over wanted Update asked knows
held_own_c wanted (exclusive MapSent) asked knows = own_over wanted Map asked knows
held_own_c wanted (exclusive stage) asked knows = knows
held_own_c wanted own asked knows = knows

held_own_p : (p : Peripheral) (wanted : List Ask) (own : OwnPeripheral) (asked : Asked) → KnowsKinds wanted (kind_at_peripheral own) asked
    → KnowsKinds wanted (kind_at_peripheral (on_peripheral_stage own_held_at_peripheral own)) (asked_done (done_held (peripheral (record p { own = own }))) asked)
held_own_p p wanted (exclusive_p RequestGranted) asked knows = own_over wanted Request asked knows
held_own_p p wanted (exclusive_p stage) asked knows = knows
held_own_p p wanted own asked knows = knows

held_peer : (peer : PeerAtCentral) → is_host_asked_at_central (peer_held_at_central peer) ≡ is_host_asked_at_central peer
held_peer GrantSent = refl
held_peer peer = refl

held_by : (wanted : List Ask) (p : Progress) → AckedBy p (progress_held p) wanted (done_held p)
held_by wanted (central c) = record { role = refl; kinds = λ asked is. held_own_c wanted c.own asked is; host = held_peer c.peer }
held_by wanted (peripheral p) = record { role = refl; kinds = λ asked is. held_own_p p wanted p.own asked is; host = refl }

pub table_entered : (link : Link) (f : TableFacts) (applied : Bool) → KnowsTable link f
    → KnowsTable (link_done (entered_step f applied).1 link) (entered_step f applied).0
table_entered link f false knows = knows
table_entered link f true knows = goes_by link f (progress_held f.progress) (done_held f.progress) (held_by f.wanted f.progress) knows

-- ---- a procedure begins

pub begun_kind : (ask : Ask) (used : Bool) (p : Progress) → begins (role_of p) (kind_of_ask ask) ≡ true
    → own_kind (progress_begun ask used p) ≡ Some (kind_of_ask ask)
begun_kind ask_version true (central c) is = refl
begun_kind ask_version false (central c) is = refl
begun_kind (ask_request min max latency timeout) used (central c) is = absurd (cc)
begun_kind ask used (central c) is = refl
begun_kind ask_version true (peripheral p) is = refl
begun_kind ask_version false (peripheral p) is = refl
begun_kind (ask_update interval latency timeout) used (peripheral p) is = absurd (cc)
begun_kind (ask_map map) used (peripheral p) is = absurd (cc)
begun_kind (ask_encrypt rand ediv ltk skd_m iv_m) used (peripheral p) is = absurd (cc)
begun_kind ask used (peripheral p) is = refl

begun_role : (ask : Ask) (used : Bool) (p : Progress) → role_of (progress_begun ask used p) ≡ role_of p
begun_role ask used (central c) = refl
begun_role ask used (peripheral p) = refl

begun_host : (ask : Ask) (used : Bool) (p : Progress) → is_host_asked (progress_begun ask used p) ≡ is_host_asked p
begun_host ask used (central c) = refl
begun_host ask used (peripheral p) = refl

begun_table : (link : Link) (f : TableFacts) (slot : ℕ) (quiet : Bool) (place : Option ℕ) (ask : Option Ask) → place_to_begin f quiet ≡ place
    → ask_at place f.wanted ≡ ask → KnowsTable link f → KnowsTable link (begin_at f slot place ask).0
begun_table link f slot quiet None ask p a knows = knows
begun_table link f slot quiet (Some place) None p a knows = knows
begun_table link f slot quiet (Some place) (Some ask) p a knows =
    record {
      role = begun_role ask f.version_used f.progress ∙ knows.role;
      asked =
          subst (λ (own : Option Kind). KnowsKinds (remove f.wanted place) own link.asked) (sym (begun_kind ask f.version_used f.progress begun.role))
          (own_begun f.wanted place (kind_of_ask ask) link.asked counted
          (subst (λ (own : Option Kind). KnowsKinds f.wanted own link.asked) begun.none knows.asked));
      closes = knows.closes;
      disconnects = knows.disconnects;
      parameters = λ is. knows.parameters (sym (begun_host ask f.version_used f.progress) ∙ is);
    }
  where
    begun : Begins f quiet ask
    begun = begins_of f quiet place ask p a

    counted : (kind : Kind) → count_of kind f.wanted ≡ (if is_same_kind (kind_of_ask ask) kind then 1 else 0) + count_of kind (remove f.wanted place)
    counted kind =
        subst (λ (a : Ask). count_of kind f.wanted ≡ (if is_same_kind (kind_of_ask a) kind then 1 else 0) + count_of kind (remove f.wanted place))
        (get_or_from_slice_get f.wanted place ask ask a)
        (count-removed kind f.wanted place ask (position-Some _ f.wanted place ask p).0)

pub table_begun : (link : Link) (f : TableFacts) (slot : ℕ) (quiet : Bool) → KnowsTable link f → KnowsTable link (begin_step f slot quiet).0
table_begun link f slot quiet knows =
    begun_table link f slot quiet (place_to_begin f quiet) (ask_at (place_to_begin f quiet) f.wanted) refl refl knows

-- ---- a control PDU of the peer is taken

closing_opens : (effect : Effect) (closing : Closing) → is_open closing ≡ false → is_open (closing_after effect closing) ≡ false
closing_opens (PeerEnds code) Open is = refl
closing_opens (PeerEnds code) Closed is = refl
closing_opens (PeerEnds code) Disconnecting is = refl
closing_opens effect closing is = is

closing_disconnects : (effect : Effect) (closing : Closing) → is_disconnecting (closing_after effect closing) ≡ is_disconnecting closing
closing_disconnects (PeerEnds code) Open = refl
closing_disconnects (PeerEnds code) Closed = refl
closing_disconnects (PeerEnds code) Disconnecting = refl
closing_disconnects effect closing = refl

-- a request leaves all but what waits for the host
role_with : (effect : Effect) (link : Link) → (link_with_request effect link).role ≡ link.role
role_with (AskHost min max latency timeout) link = refl
role_with effect link = refl

asked_kinds_with : (effect : Effect) (link : Link) → (link_with_request effect link).asked ≡ link.asked
asked_kinds_with (AskHost min max latency timeout) link = refl
asked_kinds_with effect link = refl

disconnecting_with : (effect : Effect) (link : Link) → (link_with_request effect link).disconnecting ≡ link.disconnecting
disconnecting_with (AskHost min max latency timeout) link = refl
disconnecting_with effect link = refl

waits_with : (effect : Effect) (link : Link) → (link_with_request effect link).waits_for_parameters ≡ waits_after effect link.waits_for_parameters
waits_with (AskHost min max latency timeout) link = refl
waits_with effect link = refl

pub table_takes : (link : Link) (f : TableFacts) (read : CtrlRead) (slot : ℕ) (quiet : Bool) → KnowsTable link f
    → KnowsTable (link_with_request (outcome_of f quiet read).step.effect
    (link_done (outcome_of f quiet read).step.done (link_refused (outcome_of f quiet read).step.refused link)))
    (facts_with f slot (outcome_of f quiet read))
table_takes link f read slot quiet knows =
    record {
      role = keeps.role ∙ knows.role ∙ sym (role_with step.effect (link_done step.done (link_refused step.refused link)));
      asked =
          subst (λ (asked : Asked). KnowsKinds (facts_with f slot (outcome_of f quiet read)).wanted (own_kind (outcome_of f quiet read).progress) asked)
          (sym (asked_kinds_with step.effect (link_done step.done (link_refused step.refused link)))) (keeps.kinds link.asked knows.asked);
      closes = λ is. closing_opens step.effect f.closing (knows.closes (sym (disconnecting_with step.effect (link_done step.done (link_refused step.refused link))) ∙ is));
      disconnects = λ is. disconnecting_with step.effect (link_done step.done (link_refused step.refused link)) ∙ knows.disconnects (sym (closing_disconnects step.effect f.closing) ∙ is);
      parameters = λ is. waits_with step.effect (link_done step.done (link_refused step.refused link)) ∙ keeps.waits link.waits_for_parameters knows.parameters is;
    }
  where
    keeps : KeepsAsks f.progress f.wanted (outcome_of f quiet read)
    keeps = takes_pdu f quiet read

    step : Step
    step = (outcome_of f quiet read).step

-- ---- a PDU of the encryption is queued, or LL_TERMINATE_IND for want of a key

given_opens : (ctrl : Ctrl) (closing : Closing) → is_open closing ≡ false → is_open (closing_given ctrl closing) ≡ false
given_opens (TerminateInd code) Open is = refl
given_opens (TerminateInd code) Closed is = refl
given_opens (TerminateInd code) Disconnecting is = refl
given_opens ctrl closing is = is

given_disconnects : (ctrl : Ctrl) (closing : Closing) → is_disconnecting (closing_given ctrl closing) ≡ is_disconnecting closing
given_disconnects (TerminateInd code) Open = refl
given_disconnects (TerminateInd code) Closed = refl
given_disconnects (TerminateInd code) Disconnecting = refl
given_disconnects ctrl closing = refl

given_kinds : (p : Progress) (ctrl : Ctrl) → SameKinds p (progress_given p ctrl)
given_kinds (central c) ctrl = record { role = refl; own = refl; host = refl }
given_kinds (peripheral p) ctrl = by (is_rejection ctrl)
  where
    by : (b : Bool) → SameKinds (peripheral p) (if b then peripheral (record p { encrypting = false }) else peripheral p)
    by true = record { role = refl; own = refl; host = refl }
    by false = record { role = refl; own = refl; host = refl }

pub table_owes : (link : Link) (f : TableFacts) (ctrl : Ctrl) → KnowsTable link f → KnowsTable link (owe_step f ctrl)
table_owes link f ctrl knows =
    let same = given_kinds f.progress ctrl in
    record {
      role = same.role ∙ knows.role;
      asked = λ kind other. ap (λ (own : Option Kind). count_of kind f.wanted + count_if (is_kind own kind)) same.own ∙ knows.asked kind other;
      closes = λ is. given_opens ctrl f.closing (knows.closes is);
      disconnects = λ is. knows.disconnects (sym (given_disconnects ctrl f.closing) ∙ is);
      parameters = λ is. knows.parameters (sym same.host ∙ is);
    }

-- ---- the host asks for a procedure, answers a request, and ends the link

-- a procedure that the end neither wants nor runs
pub may_ask_new : (f : TableFacts) (kind : Kind) (asked : Asked) → is_same_kind kind Map ≡ false → KnowsKinds f.wanted (own_kind f.progress) asked
    → is_asked kind asked ≡ false → may_ask_of f kind ≡ true
may_ask_new f kind asked other knows new =
    by (count_of kind f.wanted) (is_wanted kind f.wanted) (is_kind (own_kind f.progress) kind)
    (knows kind other ∙ ap count_if new) (wanted-counted kind f.wanted)
  where
    by : (n : ℕ) (wanted own : Bool) → n + count_if own ≡ 0 → wanted ≡ not (n == 0) → not (wanted || own) ≡ true
    by n wanted true none is = absurd (omega (arith, none))
    by n wanted false none is =
        let zero_is : n ≡ 0 = omega (arith, none) in
        let not_wanted : wanted ≡ false = subst (λ (k : ℕ). wanted ≡ not (k == 0)) zero_is is in
        rw not_wanted refl

pub table_asks : (link : Link) (f : TableFacts) (ask : Ask) → is_asked (kind_of_ask ask) link.asked ≡ false → KnowsTable link f
    → KnowsTable (asking (kind_of_ask ask) link) (ask_step f ask)
table_asks link f ask new knows =
    record {
      role = knows.role;
      asked = asks_one ask f.wanted (own_kind f.progress) link.asked new knows.asked;
      closes = knows.closes;
      disconnects = knows.disconnects;
      parameters = knows.parameters;
    }
