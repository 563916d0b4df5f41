-- From which call on an encryption is in progress at one end, and until which.
use Rattle.std.proofs.Common.{◌≡◌, ℕ, Bool, true, false, ◌&&◌, ◌||◌, if◌then◌else◌, Option, Some, None, Result, Ok, Err, is_some, nat_le, unwrap_or, refl, arith}
use Rattle.ble_base.specs.ErrorCodes.{unsupported_remote_feature, invalid_ll_parameters}
use Rattle.ble_base.specs.declared.error_codes.ErrCode.{ErrCode}
use Rattle.ble_base.specs.declared.procedure_kinds.Kind.{Kind}
use Rattle.ble_base.specs.declared.procedure_kinds.Kind.TheVariants.{Request, Map as map_kind, Phy, Features, Length, Encrypt}
use Rattle.data_pdu.specs.declared.ctrl.Ctrl.{Ctrl}
use Rattle.data_pdu.specs.declared.ctrl.Ctrl.TheVariants.{ConnectionUpdateInd, ChannelMapInd, EncReq, EncRsp, StartEncReq, StartEncRsp, UnknownRsp as unknown_pdu, FeatureRsp as feature_pdu, PauseEncReq, PauseEncRsp, VersionInd as version_pdu, RejectInd, ConnectionParamReq, RejectExtInd, LengthRsp as length_pdu, PhyReq as phy_req_pdu, PhyRsp as phy_rsp_pdu, PhyUpdateInd}
use Rattle.data_pdu.specs.declared.ctrl.CtrlRead.{CtrlRead}
use Rattle.data_pdu.specs.declared.ctrl.CtrlRead.TheVariants.{Known, Unknown, Bare}
use Rattle.instants.specs.declared.indications.Indication.TheVariants.{Update as update_indication, Map as map_indication}
use Rattle.procedures.specs.procedure_values.declared.asks.Ask.{Ask}
use Rattle.procedures.specs.procedure_values.declared.asks.Ask.TheVariants.{Update as ask_update, Request as ask_request, Map as ask_map, Phy as ask_phy, Features as ask_features, Version as ask_version, Length as ask_length, Encrypt as ask_encrypt}
use Rattle.procedures.specs.procedure_values.declared.drafts.Draft.{Draft}
use Rattle.procedures.specs.procedure_values.declared.drafts.Draft.TheVariants.{Update, Grant, Map, Request as request_draft, PhyReq, PhyRsp, PhyInd, FeatureReq, PeripheralFeatureReq, FeatureRsp, VersionInd, LengthReq, LengthRsp, UnknownRsp, Cipher}
use Rattle.procedures.specs.procedure_values.declared.drafts.Outgoing.{Outgoing}
use Rattle.procedures.specs.procedure_values.declared.drafts.Outgoing.TheVariants.{Nothing, Rejection, Disconnect, Other}
use Rattle.procedures.specs.declared.outcome.Outcome.{Outcome}
use Rattle.procedures.specs.procedure_stages.declared.stages.Ahead.{Ahead}
use Rattle.procedures.specs.procedure_stages.declared.stages.Ahead.TheVariants.{Nothing as nothing_ahead, Update as update_ahead, Map as map_ahead}
use Rattle.procedures.specs.procedure_stages.declared.stages.Exchange.TheVariants.{FeaturesUnsent, VersionUnsent, LengthUnsent}
use Rattle.procedures.specs.procedure_stages.declared.stages.OwnCentral.{OwnCentral}
use Rattle.procedures.specs.procedure_stages.declared.stages.OwnCentral.TheVariants.{Exclusive as exclusive, Exchange as exchange, EncryptUnsent, EncryptSent}
use Rattle.exclusive_stages.specs.declared.stages.CentralStage.TheVariants.{Idle, UpdateUnsent, UpdateSent, MapUnsent, MapSent, PhyUnsent, PhySent, PhyAnswered}
use Rattle.procedures.specs.procedure_stages.declared.stages.OwnPeripheral.TheVariants.{Exclusive as exclusive_p}
use Rattle.exclusive_stages.specs.declared.stages.PeripheralStage.TheVariants.{Idle as idle}
use Rattle.exclusive_stages.specs.declared.stages.PeerAtCentral.TheVariants.{Absent, HostAsked, PhyIndUnsent}
use Rattle.exclusive_stages.specs.declared.stages.PeerAtPeripheral.TheVariants.{Absent as absent, MapTaken, PhyRspUnsent}
use Rattle.procedures.specs.procedure_stages.declared.stages.Central.{Central}
use Rattle.procedures.specs.procedure_stages.declared.stages.Peripheral.{Peripheral}
use Rattle.procedures.specs.procedure_stages.declared.stages.Progress.{Progress}
use Rattle.procedures.specs.procedure_stages.declared.stages.Progress.TheVariants.{Central as central, Peripheral as peripheral}
use Rattle.procedures.specs.procedure_stages.declared.steps.Effect.TheVariants.{PeerFeatures, AskHost, Cipher as cipher_effect}
use Rattle.procedures.specs.procedure_stages.declared.steps.Step.{Step}
use Rattle.procedures.specs.procedure_stages.Kinds.{begins, exchange_at_central, kind_at_central, kind_at_peripheral, own_exchange, own_kind, role_of, without_own}
use Rattle.procedures.specs.procedure_values.Asks.{kind_of_ask}
use Rattle.procedures.specs.procedure_stages.Collisions.{collision}
use Rattle.procedures.specs.procedure_values.Limits.{with_peer}
use Rattle.procedures.specs.Table.{TableFacts}
use Rattle.procedures.specs.procedure_stages.Closing.{is_open}
use Rattle.procedures.specs.Queue.{next_of}
use Rattle.procedures.specs.procedure_stages.Queue.{waiting_in}
use Rattle.procedures.specs.Outcomes.{unchanged, moved, moved_and_answered, rejected, with_effect, with_done}
use Rattle.procedures.specs.Update.{follow, followed, granted, update_begun}
use Rattle.procedures.specs.procedure_stages.Awaited.{awaits_features, awaits_lengths, is_own_encryption, is_version}
use Rattle.exclusive_stages.specs.Awaited.{reads_as_answer, peer_answered, central_answered, awaits_phy_rsp, has_phy_of_central, awaits_phy_ind}
use Rattle.procedures.specs.Request.{collided, outlived, request_judged}
use Rattle.procedures.specs.procedure_values.Values.{are_valid}
use Rattle.procedures.specs.Phy.{phy_answered}
use Rattle.procedures.specs.procedure_stages.Acked.{central_acked, peripheral_acked, progress_acked}
use Rattle.exclusive_stages.specs.Acked.{own_acked_at_central}
use Rattle.exclusive_stages.specs.declared.pdus.Pdu.{Pdu}
use Rattle.procedures.specs.Length.{with_lengths}
use Rattle.procedures.specs.procedure_stages.Opcodes.{first_opcode, is_opcode, later_opcode, opcode_at_central, enc_req_opcode, connection_param_req_opcode, phy_req_opcode}
use Rattle.procedures.specs.Refusals.{refused_if}
use Rattle.procedures.specs.Version.{version_taken}
use Rattle.procedures.specs.Taking.{facts_with, lacks_room, no_room, outcome_of, settled, taken_by}
use Rattle.procedures.specs.Beginning.{ask_at, begin_at, begin_step, place_to_begin}
use Rattle.procedures.specs.procedure_stages.Begun.{progress_begun}
use Rattle.procedures.specs.procedure_stages.Sent.{own_draft_sent_by_central, progress_after_sending}
use Rattle.procedures.specs.procedure_stages.Held.{progress_held}
use Rattle.exclusive_stages.specs.Held.{own_held_at_central}
use Rattle.procedures.specs.Calls.{Call, asks, begins_one, takes, sends, is_acked, enters, host_answers, disconnects, is_given, after_call}
use Rattle.table_laws.specs.Encrypting.{BeginsAtPeripheral, EndsAtCentral, EndsAtPeripheral, MayBeginBy, MayEndBy, has_encryption}
use Rattle.table_laws.proofs.Begun.{begins_of}
use Rattle.procedures.specs.procedure_stages.Exclusive.{central_stage, peripheral_stage, on_central_stage, pdu_of_outgoing}

-- an encryption may begin or end by a PDU, or by a call, as its progress goes from one to another
pub record Goes (before after : Bool) (Begins Ends : Type 0) : Type 0 where
  pub begins : before ≡ false → after ≡ true → Begins
  pub ends : before ≡ true → after ≡ false → Ends

same : (before after : Bool) (B E : Type 0) → after ≡ before → Goes before after B E
same before after B E is = record { begins = λ h. λ k. absurd (cc); ends = λ h. λ k. absurd (cc) }

-- ---- a central takes a PDU

abbrev OfCtrl : OwnCentral → Type 0 → Outcome → Type 0
OfCtrl own E o = Goes (is_own_encryption own) (has_encryption o.progress) ⊥ E

refuses_encryption : (own : OwnCentral) (opcode : ℕ) → is_own_encryption own ≡ true → is_opcode (opcode_at_central own) opcode ≡ true → opcode ≡ enc_req_opcode
refuses_encryption EncryptSent opcode is h = grind arith
refuses_encryption EncryptUnsent opcode is h = absurd (cc)
refuses_encryption other opcode is h = absurd (cc)

no_later : (own : OwnCentral) (c : Central) (opcode : ℕ) → is_own_encryption own ≡ true
    → (is_opcode (opcode_at_central own) opcode || is_opcode (later_opcode (central (record c { own = own }))) opcode) ≡ true → is_opcode (opcode_at_central own) opcode ≡ true
no_later EncryptSent c opcode is h = by (is_opcode (opcode_at_central EncryptSent) opcode) h
  where
    by : (b : Bool) → (b || false) ≡ true → b ≡ true
    by true h = refl
    by false h = absurd (cc)
no_later EncryptUnsent c opcode is h = absurd (cc)
no_later other c opcode is h = absurd (cc)

module _ (f : TableFacts) (c : Central) where
  abbrev at_c : TableFacts
  at_c = record f { progress = central c }

  refused_c : (E : Type 0) (is_one : Bool) (code : ErrCode) → (is_own_encryption c.own ≡ true → is_one ≡ true → E)
      → OfCtrl c.own E (refused_if is_one at_c code)
  refused_c E true code h = record { begins = λ before. λ after. absurd (cc); ends = λ before. λ after. h before refl }
  refused_c E false code h = same _ _ _ _ refl

  if_c : (E : Type 0) (b : Bool) (x y : Outcome) → (b ≡ true → OfCtrl c.own E x) → OfCtrl c.own E y → OfCtrl c.own E (if b then x else y)
  if_c E true x y hx hy = hx refl
  if_c E false x y hx hy = hy

  features_apart : (own : OwnCentral) → awaits_features (exchange_at_central own) ≡ true → is_own_encryption own ≡ false
  features_apart (exchange stage) h = refl
  features_apart other h = absurd (cc)

  lengths_apart : (own : OwnCentral) → awaits_lengths (exchange_at_central own) ≡ true → is_own_encryption own ≡ false
  lengths_apart (exchange stage) h = refl
  lengths_apart other h = absurd (cc)

  version_apart : (own : OwnCentral) → is_version (exchange_at_central own) ≡ true → is_own_encryption own ≡ false
  version_apart (exchange stage) h = refl
  version_apart other h = absurd (cc)

  phy_apart : (own : OwnCentral) → awaits_phy_rsp (central_stage own) ≡ true → is_own_encryption own ≡ false
  phy_apart (exclusive PhySent) h = refl
  phy_apart (exclusive other) h = absurd (cc)
  phy_apart other h = absurd (cc)

  version_by : (E : Type 0) (b : Bool) (o : Outcome) → o.progress ≡ (if b then central (record c { own = exclusive Idle }) else central c) → (b ≡ true → is_own_encryption c.own ≡ false)
      → OfCtrl c.own E o
  version_by E true o is apart = same _ _ _ _ (rw (is, apart refl) refl)
  version_by E false o is apart = same _ _ _ _ (rw is refl)

  secured_by : (b : Bool)
      → OfCtrl c.own (false ≡ false) (with_effect (cipher_effect StartEncRsp) (if b then with_done Encrypt (moved at_c (central (record c { own = exclusive Idle }))) else unchanged at_c))
  secured_by true = record { begins = λ before. λ after. absurd (cc); ends = λ before. λ after. refl }
  secured_by false = same _ _ _ _ refl

  collided_c : (E : Type 0) (answered : Bool) (opcode : ℕ) (code : Option ErrCode) (other : Outcome) → OfCtrl c.own E other → OfCtrl c.own E (collided at_c answered opcode code other)
  collided_c E answered opcode None other h = h
  collided_c E true opcode (Some code) other h = same _ _ _ _ refl
  collided_c E false opcode (Some code) other h = same _ _ _ _ refl

  at_central : (quiet : Bool) (ctrl : Ctrl) → OfCtrl c.own (EndsAtCentral ctrl quiet) (taken_by (central c) at_c quiet ctrl)
  at_central true (EncRsp skd_s iv_s) = same _ _ _ _ refl
  at_central false (EncRsp skd_s iv_s) = same _ _ _ _ refl
  at_central true StartEncReq = same _ _ _ _ refl
  at_central false StartEncReq = same _ _ _ _ refl
  at_central true PauseEncRsp = same _ _ _ _ refl
  at_central false PauseEncRsp = same _ _ _ _ refl
  at_central true StartEncRsp = same _ _ _ _ refl
  at_central false StartEncRsp = secured_by (is_own_encryption c.own)
  at_central quiet (ConnectionParamReq min max latency timeout periodicity reference offsets) =
      collided_c _ (peer_answered (central_stage c.own)) connection_param_req_opcode (collision (kind_at_central c.own) Request) (request_judged at_c c min max latency timeout)
      (if_c _ (are_valid min max latency timeout)
      (with_effect (AskHost min max latency timeout) (moved at_c (central (record c { peer = HostAsked }))))
      (record (rejected at_c connection_param_req_opcode (record { 0 = invalid_ll_parameters })) { progress = central (record c { peer = Absent }) })
      (λ h. same _ _ _ _ refl) (same _ _ _ _ refl))
  at_central quiet (phy_req_pdu tx rx) =
      collided_c _ (peer_answered (central_stage c.own)) phy_req_opcode (collision (kind_at_central c.own) Phy)
      (moved_and_answered at_c (central (record c { peer = PhyIndUnsent })) PhyInd) (same _ _ _ _ refl)
  at_central quiet (phy_rsp_pdu tx rx) =
      if_c _ (awaits_phy_rsp (central_stage c.own)) (phy_answered at_c c) (unchanged at_c) (λ h. same _ _ _ _ (rw (phy_apart c.own h) refl)) (same _ _ _ _ refl)
  at_central quiet (unknown_pdu opcode) =
      refused_c _ (is_opcode (opcode_at_central c.own) opcode) (record { 0 = unsupported_remote_feature }) (refuses_encryption c.own opcode)
  at_central quiet (feature_pdu features) =
      if_c _ (awaits_features (exchange_at_central c.own))
      (with_done Features (with_effect (PeerFeatures features) (moved at_c (without_own (central c))))) (unchanged at_c)
      (λ h. same _ _ _ _ (rw (features_apart c.own h) refl)) (same _ _ _ _ refl)
  at_central quiet (version_pdu version company sub) =
      version_by _ (is_version (exchange_at_central c.own)) (version_taken at_c version company sub) refl (version_apart c.own)
  at_central quiet (RejectInd code) = refused_c _ (is_some (opcode_at_central c.own)) (record { 0 = code }) (λ is. λ h. _)
  at_central quiet (RejectExtInd opcode code) =
      refused_c _ (is_opcode (opcode_at_central c.own) opcode || is_opcode (later_opcode (central c)) opcode) (record { 0 = code })
      (λ is. λ h. refuses_encryption c.own opcode is (no_later c.own c opcode is h))
  at_central quiet (length_pdu rx rx_time tx tx_time) =
      if_c _ (awaits_lengths (exchange_at_central c.own))
      (with_done Length (with_lengths (with_peer f.lengths rx tx) (moved at_c (without_own (central c))))) (unchanged at_c)
      (λ h. same _ _ _ _ (rw (lengths_apart c.own h) refl)) (same _ _ _ _ refl)
  at_central quiet other = same _ _ _ _ refl

-- ---- a peripheral takes one

module _ (f : TableFacts) (p : Peripheral) where
  abbrev at_p : TableFacts
  at_p = record f { progress = peripheral p }

  abbrev OfCtrlHere : Type 0 → Type 0 → Outcome → Type 0
  OfCtrlHere B E o = Goes p.encrypting (has_encryption o.progress) B E

  follow_p : (B E : Type 0) (waiting new : Ahead) (other : Outcome) → OfCtrlHere B E other → OfCtrlHere B E (follow at_p waiting new other)
  follow_p B E nothing_ahead new other h = h
  follow_p B E update_ahead new other h = same _ _ _ _ refl
  follow_p B E map_ahead new other h = same _ _ _ _ refl

  outlived_p : (B E : Type 0) (code : Option ErrCode) (other : Outcome) → OfCtrlHere B E other → OfCtrlHere B E (outlived at_p code other)
  outlived_p B E None other h = h
  outlived_p B E (Some code) other h = same _ _ _ _ refl

  after_grant_p : (B E : Type 0) (answered : Bool) (code : Option ErrCode) (other : Outcome) → OfCtrlHere B E other → OfCtrlHere B E (if answered then outlived at_p code other else other)
  after_grant_p B E true code other h = outlived_p B E code other h
  after_grant_p B E false code other h = h

  if_p : (B E : Type 0) (b : Bool) (x y : Outcome) → OfCtrlHere B E x → OfCtrlHere B E y → OfCtrlHere B E (if b then x else y)
  if_p B E true x y hx hy = hx
  if_p B E false x y hx hy = hy

  refused_p : (B E : Type 0) (is_one : Bool) (code : ErrCode) → OfCtrlHere B E (refused_if is_one at_p code)
  refused_p B E true code = same _ _ _ _ refl
  refused_p B E false code = same _ _ _ _ refl

  version_p : (B E : Type 0) (b : Bool) (o : Outcome) → o.progress ≡ (if b then peripheral (record p { own = exclusive_p idle }) else peripheral p) → OfCtrlHere B E o
  version_p B E true o is = same _ _ _ _ (rw is refl)
  version_p B E false o is = same _ _ _ _ (rw is refl)

  ind_p : (B E : Type 0) (a b : Bool)
      → OfCtrlHere B E (if a then moved at_p (peripheral (record p { peer = absent })) else (if b then with_done Phy (moved at_p (peripheral (record p { own = exclusive_p idle }))) else unchanged at_p))
  ind_p B E true b = same _ _ _ _ refl
  ind_p B E false true = same _ _ _ _ refl
  ind_p B E false false = same _ _ _ _ refl

  at_peripheral : (quiet : Bool) (ctrl : Ctrl) → OfCtrlHere (BeginsAtPeripheral ctrl) (EndsAtPeripheral ctrl quiet) (taken_by (peripheral p) at_p quiet ctrl)
  at_peripheral quiet (ConnectionUpdateInd win_size win_offset interval latency timeout instant) =
      follow_p _ _ p.ahead update_ahead
      (if reads_as_answer (peripheral_stage p.own) then granted at_p p (update_indication win_offset interval latency timeout instant) else update_begun at_p p (update_indication win_offset interval latency timeout instant))
      (if_p _ _ (reads_as_answer (peripheral_stage p.own)) (granted at_p p (update_indication win_offset interval latency timeout instant)) (update_begun at_p p (update_indication win_offset interval latency timeout instant)) (same _ _ _ _ refl) (same _ _ _ _ refl))
  at_peripheral quiet (ChannelMapInd map instant) =
      after_grant_p _ _ (central_answered (peripheral_stage p.own)) (collision (kind_at_peripheral p.own) map_kind)
      (follow at_p p.ahead map_ahead (followed at_p (record p { peer = MapTaken }) map_ahead (map_indication map instant)))
      (follow_p _ _ p.ahead map_ahead (followed at_p (record p { peer = MapTaken }) map_ahead (map_indication map instant)) (same _ _ _ _ refl))
  at_peripheral quiet (EncReq rand ediv skd_m iv_m) = record { begins = λ before. λ after. _; ends = λ before. λ after. absurd (cc) }
  at_peripheral quiet PauseEncReq = record { begins = λ before. λ after. _; ends = λ before. λ after. absurd (cc) }
  at_peripheral true PauseEncRsp = same _ _ _ _ refl
  at_peripheral false PauseEncRsp = same _ _ _ _ refl
  at_peripheral true StartEncRsp = same _ _ _ _ refl
  at_peripheral false StartEncRsp = record { begins = λ before. λ after. absurd (cc); ends = λ before. λ after. refl }
  at_peripheral quiet (phy_req_pdu tx rx) =
      after_grant_p _ _ (central_answered (peripheral_stage p.own)) (collision (kind_at_peripheral p.own) Phy)
      (moved_and_answered at_p (peripheral (record p { peer = PhyRspUnsent })) PhyRsp) (same _ _ _ _ refl)
  at_peripheral quiet (PhyUpdateInd to_peripheral to_central instant) = ind_p _ _ (has_phy_of_central p.peer) (awaits_phy_ind (peripheral_stage p.own))
  at_peripheral quiet (unknown_pdu opcode) = refused_p _ _ (is_opcode (first_opcode (peripheral p)) opcode) (record { 0 = unsupported_remote_feature })
  at_peripheral quiet (feature_pdu features) =
      if_p _ _ (awaits_features (own_exchange (peripheral p)))
      (with_done Features (with_effect (PeerFeatures features) (moved at_p (without_own (peripheral p))))) (unchanged at_p) (same _ _ _ _ refl) (same _ _ _ _ refl)
  at_peripheral quiet (version_pdu version company sub) = version_p _ _ (is_version (own_exchange (peripheral p))) (version_taken at_p version company sub) refl
  at_peripheral quiet (RejectInd code) = refused_p _ _ (is_some (first_opcode (peripheral p))) (record { 0 = code })
  at_peripheral quiet (RejectExtInd opcode code) =
      refused_p _ _ (is_opcode (first_opcode (peripheral p)) opcode || is_opcode (later_opcode (peripheral p)) opcode) (record { 0 = code })
  at_peripheral quiet (length_pdu rx rx_time tx tx_time) =
      if_p _ _ (awaits_lengths (own_exchange (peripheral p)))
      (with_done Length (with_lengths (with_peer f.lengths rx tx) (moved at_p (without_own (peripheral p))))) (unchanged at_p) (same _ _ _ _ refl) (same _ _ _ _ refl)
  at_peripheral quiet other = same _ _ _ _ refl

-- ---- each call

abbrev pub OfCall : Progress → Progress → Call → Type 0
OfCall before after call = Goes (has_encryption before) (has_encryption after) (MayBeginBy before call) (MayEndBy before call)

took_by : (f : TableFacts) (p : Progress) (read : CtrlRead) (slot : ℕ) (quiet : Bool)
    → OfCall p (outcome_of (record f { progress = p }) quiet read).progress (takes read slot quiet)
took_by f (central c) (Known ctrl) slot quiet = at_central f c quiet ctrl
took_by f (peripheral p) (Known ctrl) slot quiet = at_peripheral f p quiet ctrl
took_by f p (Unknown opcode) slot quiet = same _ _ _ _ refl
took_by f p Bare slot quiet = same _ _ _ _ refl

abbrev settled_of : Bool → Bool → TableFacts → TableFacts → Step → Step → Step → TableFacts × Step
settled_of a b f g x y z = if a then (f, x) else (if b then (f, y) else (g, z))

settled_by : (a b : Bool) (f g : TableFacts) (x y z : Step) (call : Call) → OfCall f.progress g.progress call → OfCall f.progress (settled_of a b f g x y z).0.progress call
settled_by true b f g x y z call h = same _ _ _ _ refl
settled_by false true f g x y z call h = same _ _ _ _ refl
settled_by false false f g x y z call h = h

none_apart : (own : OwnCentral) → kind_at_central own ≡ None → is_own_encryption own ≡ false
none_apart (exclusive Idle) h = refl
none_apart (exclusive other) h = absurd (cc)
none_apart other h = absurd (cc)

began_by : (p : Progress) (ask : Ask) (used : Bool) (slot : ℕ) (quiet : Bool) → own_kind p ≡ None → quiet ≡ true → OfCall p (progress_begun ask used p) (begins_one slot quiet)
began_by (central c) ask used slot quiet none is = record { begins = λ before. λ after. is; ends = λ before. λ after. absurd (let apart = none_apart c.own none in cc) }
began_by (peripheral p) ask used slot quiet none is = same _ _ _ _ refl

begin_by : (f : TableFacts) (slot : ℕ) (quiet : Bool) (place : Option ℕ) (ask : Option Ask) → place_to_begin f quiet ≡ place → ask_at place f.wanted ≡ ask
    → OfCall f.progress (begin_at f slot place ask).0.progress (begins_one slot quiet)
begin_by f slot quiet None ask p a = same _ _ _ _ refl
begin_by f slot quiet (Some place) None p a = same _ _ _ _ refl
begin_by f slot quiet (Some place) (Some ask) p a =
    let may = begins_of f quiet place ask p a in
    began_by f.progress ask f.version_used slot quiet may.none may.is_quiet

-- an encryption goes on as its PDUs are sent
sent_own : (draft : Draft) (own : OwnCentral) → is_own_encryption (unwrap_or (own_draft_sent_by_central draft own) own) ≡ is_own_encryption own
sent_own (Update params) (exclusive UpdateUnsent) = refl
sent_own (Update params) (exclusive other) = refl
sent_own (Update params) other = refl
sent_own (Map map) (exclusive MapUnsent) = refl
sent_own (Map map) (exclusive other) = refl
sent_own (Map map) other = refl
sent_own PhyReq (exclusive PhyUnsent) = refl
sent_own PhyReq (exclusive other) = refl
sent_own PhyReq other = refl
sent_own PhyInd (exclusive PhyAnswered) = refl
sent_own PhyInd (exclusive other) = refl
sent_own PhyInd other = refl
sent_own (Cipher ctrl) EncryptUnsent = refl
sent_own (Cipher ctrl) EncryptSent = refl
sent_own (Cipher ctrl) other = refl
sent_own FeatureReq (exchange FeaturesUnsent) = refl
sent_own FeatureReq (exchange other) = refl
sent_own FeatureReq other = refl
sent_own PeripheralFeatureReq (exchange FeaturesUnsent) = refl
sent_own PeripheralFeatureReq (exchange other) = refl
sent_own PeripheralFeatureReq other = refl
sent_own VersionInd (exchange VersionUnsent) = refl
sent_own VersionInd (exchange other) = refl
sent_own VersionInd other = refl
sent_own (LengthReq rx tx) (exchange LengthUnsent) = refl
sent_own (LengthReq rx tx) (exchange other) = refl
sent_own (LengthReq rx tx) other = refl
sent_own (Grant params) (exchange stage) = refl
sent_own (Grant params) other = refl
sent_own (request_draft min max latency timeout) (exchange stage) = refl
sent_own (request_draft min max latency timeout) other = refl
sent_own PhyRsp (exchange stage) = refl
sent_own PhyRsp other = refl
sent_own FeatureRsp (exchange stage) = refl
sent_own FeatureRsp other = refl
sent_own (LengthRsp rx tx) (exchange stage) = refl
sent_own (LengthRsp rx tx) other = refl
sent_own (UnknownRsp opcode) (exchange stage) = refl
sent_own (UnknownRsp opcode) other = refl

sent_same : (outgoing : Outgoing) (event skips : ℕ) (p : Progress) → has_encryption (progress_after_sending outgoing event skips p) ≡ has_encryption p
sent_same (Other draft) event skips (central c) = sent_own draft c.own
sent_same (Other draft) event skips (peripheral p) = refl
sent_same Nothing event skips p = refl
sent_same (Rejection rejection) event skips p = refl
sent_same (Disconnect code) event skips p = refl

acked_same : (out : Outgoing) (p : Progress) → has_encryption (progress_acked out p) ≡ has_encryption p
acked_same out (central c) = by (pdu_of_outgoing out) c.own
  where
    own_by : (pdu : Pdu) (own : OwnCentral) → is_own_encryption (on_central_stage (own_acked_at_central pdu) own) ≡ is_own_encryption own
    own_by pdu (exclusive stage) = refl
    own_by pdu (exchange stage) = refl
    own_by pdu EncryptUnsent = refl
    own_by pdu EncryptSent = refl

    by : (pdu : Option Pdu) (own : OwnCentral) → is_own_encryption (central_acked pdu (record c { own = own })).own ≡ is_own_encryption own
    by (Some pdu) own = own_by pdu own
    by None own = refl
acked_same out (peripheral p) = by (pdu_of_outgoing out)
  where
    by : (pdu : Option Pdu) → (peripheral_acked pdu p).encrypting ≡ p.encrypting
    by (Some pdu) = refl
    by None = refl

held_same : (p : Progress) → has_encryption (progress_held p) ≡ has_encryption p
held_same (central c) = by c.own
  where
    by : (own : OwnCentral) → is_own_encryption (on_central_stage own_held_at_central own) ≡ is_own_encryption own
    by (exclusive UpdateSent) = refl
    by (exclusive MapSent) = refl
    by (exclusive other) = refl
    by other = refl
held_same (peripheral p) = refl

answered_same : (f : TableFacts) (p : Progress) (answer : Result Ask ErrCode) → has_encryption (after_call (record f { progress = p }) (host_answers answer)).progress ≡ has_encryption p
answered_same f (central c) (Ok (ask_update interval latency timeout)) = refl
answered_same f (peripheral p) (Ok (ask_update interval latency timeout)) = refl
answered_same f (central c) (Err code) = refl
answered_same f (peripheral p) (Err code) = refl
answered_same f p (Ok other) = refl

given_by : (f : TableFacts) (p : Progress) (ctrl : Ctrl) → OfCall p (after_call (record f { progress = p }) (is_given ctrl)).progress (is_given ctrl)
given_by f (central c) ctrl = same _ _ _ _ refl
given_by f (peripheral p) (RejectExtInd opcode code) = record { begins = λ before. λ after. absurd (cc); ends = λ before. λ after. _ }
given_by f (peripheral p) other = same _ _ _ _ refl

of_call : (f : TableFacts) (call : Call) → OfCall f.progress (after_call f call).progress call
of_call f (asks ask) = same _ _ _ _ refl
of_call f (begins_one slot quiet) = begin_by f slot quiet _ _ refl refl
of_call f (takes read slot quiet) =
    settled_by (lacks_room f (outcome_of f quiet read)) (is_some (outcome_of f quiet read).step.ends) f (facts_with f slot (outcome_of f quiet read)) _ _ _ (takes read slot quiet)
    (took_by f f.progress read slot quiet)
of_call f (sends event skips quiet slot) = same _ _ _ _ (sent_same (next_of f event quiet) event skips f.progress)
of_call f is_acked = same _ _ _ _ (acked_same f.out f.progress)
of_call f (enters true) = same _ _ _ _ (held_same f.progress)
of_call f (enters false) = same _ _ _ _ refl
of_call f (host_answers answer) = same _ _ _ _ (answered_same f f.progress answer)
of_call f (disconnects reason) = same _ _ _ _ refl
of_call f (is_given ctrl) = given_by f f.progress ctrl

pub begins_by : (f : TableFacts) (call : Call) → has_encryption f.progress ≡ false → has_encryption (after_call f call).progress ≡ true → MayBeginBy f.progress call
begins_by f call = (of_call f call).begins

pub ends_by : (f : TableFacts) (call : Call) → has_encryption f.progress ≡ true → has_encryption (after_call f call).progress ≡ false → MayEndBy f.progress call
ends_by f call = (of_call f call).ends

-- ---- what begins is in progress, and the last PDU ends it

begun_one : (p : Progress) (ask : Ask) (used : Bool) → ◌≡◌ {A = Option Kind} (Some (kind_of_ask ask)) (Some Encrypt) → begins (role_of p) (kind_of_ask ask) ≡ true → has_encryption (progress_begun ask used p) ≡ true
begun_one (central c) (ask_encrypt rand ediv ltk skd_m iv_m) used is may = refl
begun_one (peripheral p) (ask_encrypt rand ediv ltk skd_m iv_m) used is may = absurd (cc)
begun_one p (ask_update interval latency timeout) used is may = absurd (cc)
begun_one p (ask_request min max latency timeout) used is may = absurd (cc)
begun_one p (ask_map map) used is may = absurd (cc)
begun_one p ask_phy used is may = absurd (cc)
begun_one p ask_features used is may = absurd (cc)
begun_one p ask_version used is may = absurd (cc)
begun_one p (ask_length tx) used is may = absurd (cc)

begun_by : (f : TableFacts) (slot : ℕ) (quiet : Bool) (place : Option ℕ) (ask : Option Ask) → place_to_begin f quiet ≡ place → ask_at place f.wanted ≡ ask
    → (begin_at f slot place ask).1 ≡ Some Encrypt → has_encryption (begin_at f slot place ask).0.progress ≡ true
begun_by f slot quiet None ask p a is = absurd (cc)
begun_by f slot quiet (Some place) None p a is = absurd (cc)
begun_by f slot quiet (Some place) (Some ask) p a is = begun_one f.progress ask f.version_used is (begins_of f quiet place ask p a).role

pub begun : (f : TableFacts) (slot : ℕ) (quiet : Bool) → (begin_step f slot quiet).1 ≡ Some Encrypt → has_encryption (begin_step f slot quiet).0.progress ≡ true
begun f slot quiet is = begun_by f slot quiet _ _ refl refl is

and_false : (b : Bool) → (b && false) ≡ false
and_false true = refl
and_false false = refl

settled_over : (a b : Bool) (f g : TableFacts) (x y z : Step) → a ≡ false → b ≡ false → has_encryption g.progress ≡ false
    → has_encryption (settled_of a b f g x y z).0.progress ≡ false
settled_over a b f g x y z ha hb h = rw (ha, hb) h

confirmed : (f : TableFacts) (p : Progress) (slot : ℕ) → has_encryption (after_call (record f { progress = p }) (takes (Known StartEncRsp) slot false)).progress ≡ false
confirmed f (peripheral p) slot =
    settled_over (lacks_room (at_p f p) o) (is_some o.step.ends) (at_p f p) (facts_with (at_p f p) slot o) no_room o.step o.step
    (and_false (is_open f.closing && nat_le 16 (waiting_in f.queue))) refl refl
  where
    o : Outcome
    o = outcome_of (at_p f p) false (Known StartEncRsp)
confirmed f (central c) slot = by (is_own_encryption c.own) refl
  where
    o : Bool → Outcome
    o b = with_effect (cipher_effect StartEncRsp) (if b then with_done Encrypt (moved (at_c f c) (central (record c { own = exclusive Idle }))) else unchanged (at_c f c))

    by : (b : Bool) → is_own_encryption c.own ≡ b → has_encryption (settled (at_c f c) slot (o b)).0.progress ≡ false
    by true is =
        settled_over (lacks_room (at_c f c) (o true)) (is_some (o true).step.ends) (at_c f c) (facts_with (at_c f c) slot (o true)) no_room (o true).step (o true).step
        (and_false (is_open f.closing && nat_le 16 (waiting_in f.queue))) refl refl
    by false is =
        settled_over (lacks_room (at_c f c) (o false)) (is_some (o false).step.ends) (at_c f c) (facts_with (at_c f c) slot (o false)) no_room (o false).step (o false).step
        (and_false (is_open f.closing && nat_le 16 (waiting_in f.queue))) refl is

pub ended : (f : TableFacts) (slot : ℕ) → has_encryption (after_call f (takes (Known StartEncRsp) slot false)).progress ≡ false
ended f slot = confirmed f f.progress slot
