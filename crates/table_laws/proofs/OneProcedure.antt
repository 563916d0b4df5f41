-- Of the procedures that exclude each other an end has one at a time, call by call.
use Rattle.std.proofs.Common.{◌≡◌, ℕ, ◌+◌, ◌≤◌, Bool, true, false, ◌||◌, if◌then◌else◌, Option, Some, None, is_some, refl, arith}
use Rattle.std.specs.Prelude.{⊤}
use Rattle.ble_base.specs.ErrorCodes.{unsupported_remote_feature, invalid_ll_parameters}
use Rattle.ble_base.specs.declared.error_codes.ErrCode.{ErrCode}
use Rattle.ble_base.specs.declared.procedure_kinds.Kind.TheVariants.{Map as map_kind, Phy, Features, Length, Encrypt}
use Rattle.data_pdu.specs.declared.ctrl.Ctrl.{Ctrl}
use Rattle.data_pdu.specs.declared.ctrl.Ctrl.TheVariants.{ConnectionUpdateInd, ChannelMapInd, EncReq, EncRsp, StartEncReq, StartEncRsp, UnknownRsp as unknown_pdu, FeatureRsp as feature_pdu, PauseEncReq, PauseEncRsp, VersionInd as version_pdu, RejectInd, ConnectionParamReq, RejectExtInd, LengthRsp as length_pdu, PhyReq as phy_req_pdu, PhyRsp as phy_rsp_pdu, PhyUpdateInd}
use Rattle.data_pdu.specs.declared.ctrl.CtrlRead.{CtrlRead}
use Rattle.data_pdu.specs.declared.ctrl.CtrlRead.TheVariants.{Known, Unknown, Bare}
use Rattle.instants.specs.declared.indications.Indication.{Indication}
use Rattle.instants.specs.declared.indications.Indication.TheVariants.{Update as update_indication, Map as map_indication}
use Rattle.procedures.specs.procedure_values.declared.drafts.Draft.TheVariants.{PhyRsp}
use Rattle.procedures.specs.declared.outcome.Outcome.{Outcome}
use Rattle.procedures.specs.procedure_stages.declared.reply.Reply.{Reply}
use Rattle.procedures.specs.procedure_stages.declared.reply.Reply.TheVariants.{Answer}
use Rattle.procedures.specs.procedure_stages.declared.stages.Ahead.{Ahead}
use Rattle.procedures.specs.procedure_stages.declared.stages.Ahead.TheVariants.{Nothing as nothing_ahead, Update as update_ahead, Map as map_ahead}
use Rattle.procedures.specs.procedure_stages.declared.stages.Exchange.TheVariants.{FeaturesUnsent, FeaturesSent, VersionUnsent, VersionSent, LengthUnsent, LengthSent}
use Rattle.procedures.specs.procedure_stages.declared.stages.OwnCentral.{OwnCentral}
use Rattle.procedures.specs.procedure_stages.declared.stages.OwnCentral.TheVariants.{Exclusive as exclusive, Exchange as exchange, EncryptUnsent, EncryptSent}
use Rattle.exclusive_stages.specs.declared.stages.CentralStage.TheVariants.{Idle, UpdateUnsent, UpdateSent, MapUnsent, MapSent, PhyUnsent, PhySent, PhyAnswered, PhyIndicated}
use Rattle.procedures.specs.procedure_stages.declared.stages.OwnPeripheral.{OwnPeripheral}
use Rattle.procedures.specs.procedure_stages.declared.stages.OwnPeripheral.TheVariants.{Exclusive as exclusive_p}
use Rattle.exclusive_stages.specs.declared.stages.PeripheralStage.TheVariants.{Idle as idle}
use Rattle.exclusive_stages.specs.declared.stages.PeerAtCentral.{PeerAtCentral}
use Rattle.exclusive_stages.specs.declared.stages.PeerAtCentral.TheVariants.{Absent, HostAsked, GrantUnsent, PhyIndUnsent}
use Rattle.exclusive_stages.specs.declared.stages.PeerAtPeripheral.{PeerAtPeripheral}
use Rattle.exclusive_stages.specs.declared.stages.PeerAtPeripheral.TheVariants.{Absent as absent, UpdateTaken, MapTaken, PhyRspUnsent}
use Rattle.procedures.specs.procedure_stages.declared.stages.Central.{Central}
use Rattle.procedures.specs.procedure_stages.declared.stages.Peripheral.{Peripheral}
use Rattle.procedures.specs.procedure_stages.declared.stages.Progress.{Progress}
use Rattle.procedures.specs.procedure_stages.declared.stages.Progress.TheVariants.{Central as central, Peripheral as peripheral}
use Rattle.procedures.specs.procedure_stages.declared.steps.Effect.TheVariants.{PeerFeatures, AskHost, Cipher as cipher_effect}
use Rattle.procedures.specs.procedure_stages.Kinds.{exchange_at_central, kind_at_peripheral, own_exchange, without_own}
use Rattle.procedures.specs.procedure_stages.Collisions.{collision}
use Rattle.procedures.specs.procedure_values.Limits.{with_peer}
use Rattle.procedures.specs.Table.{TableFacts}
use Rattle.procedures.specs.Outcomes.{unchanged, moved, moved_and_answered, rejected, with_effect, with_done}
use Rattle.procedures.specs.Update.{follow, followed, granted, update_begun}
use Rattle.procedures.specs.procedure_stages.Awaited.{awaits_features, awaits_lengths, is_own_encryption, is_version}
use Rattle.exclusive_stages.specs.Awaited.{reads_as_answer, peer_answered, central_answered, awaits_phy_rsp, has_phy_of_central, awaits_phy_ind}
use Rattle.procedures.specs.Request.{outlived, request_judged, request_taken}
use Rattle.procedures.specs.procedure_values.Values.{are_valid}
use Rattle.procedures.specs.Phy.{phy_answered, phy_req_at_central}
use Rattle.procedures.specs.Length.{with_lengths}
use Rattle.procedures.specs.procedure_stages.Opcodes.{first_opcode, is_opcode, later_opcode, opcode_at_central, connection_param_req_opcode}
use Rattle.procedures.specs.Refusals.{refused_if}
use Rattle.procedures.specs.Version.{version_reply}
use Rattle.procedures.specs.Taking.{outcome_of, taken_by}
use Rattle.table_laws.specs.Waiting.{count_if}
use Rattle.table_laws.specs.Exclusive.{PeerMayBegin, MayComeTo, MayComeToCentral, MayComeToPeripheral, has_indication, is_of_exclusive}
use Rattle.table_laws.proofs.Outcomes.{named, named_either}
use Rattle.procedures.specs.procedure_stages.Exclusive.{central_stage, peripheral_stage}

-- ---- the stages in which a PDU of such a procedure waits at a central

abbrev pub room_of_own : OwnCentral → ℕ
room_of_own (exclusive UpdateUnsent) = 1
room_of_own (exclusive MapUnsent) = 1
room_of_own (exclusive PhyUnsent) = 1
room_of_own (exclusive PhyAnswered) = 1
room_of_own (exclusive other) = 0
room_of_own other = 0

abbrev pub room_of_peer : PeerAtCentral → ℕ
room_of_peer GrantUnsent = 1
room_of_peer PhyIndUnsent = 1
room_of_peer other = 0

abbrev pub room : Progress → ℕ
room (central c) = room_of_own c.own + room_of_peer c.peer
room (peripheral p) = 0

-- an own procedure beside which there is none of the peripheral
abbrev pub excludes : OwnCentral → Bool
excludes (exclusive Idle) = false
excludes (exchange stage) = false
excludes (exclusive other) = true
excludes other = true

abbrev pub is_indication : PeerAtPeripheral → Bool
is_indication UpdateTaken = true
is_indication MapTaken = true
is_indication other = false

pub record AloneHere (p : Peripheral) : Type 0 where
  pub phy : p.encrypting ≡ true → has_phy_of_central p.peer ≡ false
  pub waits : is_indication p.peer ≡ true → has_indication p.ahead ≡ true

abbrev pub IsAlone : Progress → Type 0
IsAlone (central c) = excludes c.own ≡ true → c.peer ≡ Absent
IsAlone (peripheral p) = AloneHere p

abbrev pub Fits : Progress → ℕ → Type 0
Fits (central c) waits = waits ≤ room_of_own c.own + room_of_peer c.peer
Fits (peripheral p) waits = ⊤

abbrev pub of_reply : Reply → ℕ
of_reply (Answer draft) = count_if (is_of_exclusive draft)
of_reply other = 0

-- an outcome at an end with these procedures
pub record TookOne (progress : Progress) (o : Outcome) : Type 0 where
  pub fits : (waits : ℕ) → Fits progress waits → Fits o.progress (waits + of_reply o.reply)
  pub alone : IsAlone progress → IsAlone o.progress

-- ---- at a central

refused_room : (own : OwnCentral) → is_some (opcode_at_central own) ≡ true → peer_answered (central_stage own) ≡ false → room_of_own own ≡ 0
refused_room (exchange stage) h unanswered = refl
refused_room (exclusive UpdateUnsent) h unanswered = absurd (cc)
refused_room (exclusive MapUnsent) h unanswered = absurd (cc)
refused_room (exclusive PhyUnsent) h unanswered = absurd (cc)
refused_room (exclusive PhyAnswered) h unanswered = absurd (cc)
refused_room (exclusive other) h unanswered = refl
refused_room other h unanswered = refl

module _ (f : TableFacts) (c : Central) where
  abbrev at_c : TableFacts
  at_c = record f { progress = central c }

  abbrev IsTook : Outcome → Type 0
  IsTook o = TookOne (central c) o

  same_c : (o : Outcome) → o.progress ≡ central c → of_reply o.reply ≡ 0 → IsTook o
  same_c o is none =
      record {
        fits = λ waits. λ h. rw is (let less : waits ≤ room_of_own c.own + room_of_peer c.peer = h in omega (arith, less, none));
        alone = λ h. rw is h;
      }

  idled : (o : Outcome) → o.progress ≡ central (record c { own = exclusive Idle }) → of_reply o.reply ≡ 0 → room_of_own c.own ≡ 0 → IsTook o
  idled o is none empty =
      record {
        fits = λ waits. λ h. rw is (let less : waits ≤ room_of_own c.own + room_of_peer c.peer = h in omega (arith, less, none, empty));
        alone = λ h. rw is (λ excluded. absurd (cc));
      }

  took_if : (b : Bool) (x y : Outcome) → (b ≡ true → IsTook x) → IsTook y → IsTook (if b then x else y)
  took_if true x y hx hy = hx refl
  took_if false x y hx hy = hy

  refusal_c : (is_one : Bool) (code : ErrCode) → peer_answered (central_stage c.own) ≡ false → (is_one ≡ true → is_some (opcode_at_central c.own) ≡ true) → IsTook (refused_if is_one at_c code)
  refusal_c true code unanswered h = idled _ refl refl (refused_room c.own (h refl) unanswered)
  refusal_c false code unanswered h = same_c _ refl refl

  features_room : (own : OwnCentral) → awaits_features (exchange_at_central own) ≡ true → room_of_own own ≡ 0
  features_room (exchange stage) h = refl
  features_room other h = absurd (cc)

  lengths_room : (own : OwnCentral) → awaits_lengths (exchange_at_central own) ≡ true → room_of_own own ≡ 0
  lengths_room (exchange stage) h = refl
  lengths_room other h = absurd (cc)

  version_room : (own : OwnCentral) → is_version (exchange_at_central own) ≡ true → room_of_own own ≡ 0
  version_room (exchange stage) h = refl
  version_room other h = absurd (cc)

  encryption_room : (own : OwnCentral) → is_own_encryption own ≡ true → room_of_own own ≡ 0
  encryption_room EncryptUnsent h = refl
  encryption_room EncryptSent h = refl
  encryption_room other h = absurd (cc)

  version_by : (b : Bool) (o : Outcome) → o.progress ≡ (if b then central (record c { own = exclusive Idle }) else central c) → of_reply o.reply ≡ 0
      → (b ≡ true → room_of_own c.own ≡ 0) → IsTook o
  version_by true o is none empty = idled o is none (empty refl)
  version_by false o is none empty = same_c o is none

  version_none : (used : Bool) → of_reply (version_reply used) ≡ 0
  version_none true = refl
  version_none false = refl

  secured_by : (ctrl : Ctrl) (b : Bool) → (b ≡ true → room_of_own c.own ≡ 0)
      → IsTook (with_effect (cipher_effect ctrl) (if b then with_done Encrypt (moved at_c (central (record c { own = exclusive Idle }))) else unchanged at_c))
  secured_by ctrl true empty = idled _ refl refl (empty refl)
  secured_by ctrl false empty = same_c _ refl refl

  answered_c : awaits_phy_rsp (central_stage c.own) ≡ true → IsTook (phy_answered at_c c)
  answered_c is = by c.own refl is
    where
      by : (own : OwnCentral) → c.own ≡ own → awaits_phy_rsp (central_stage own) ≡ true → IsTook (phy_answered at_c c)
      by (exclusive PhySent) own h =
          let empty : room_of_own c.own ≡ 0 = rw own refl in
          let excluded : excludes c.own ≡ true = rw own refl in
          record {
            fits = λ waits. λ fit. let less : waits ≤ room_of_own c.own + room_of_peer c.peer = fit in omega (arith, less, empty);
            alone = λ alone. λ is_excluded. alone excluded;
          }
      by (exclusive other) own h = absurd (cc)
      by other own h = absurd (cc)

  -- the peripheral begins one: there was none of it
  begun_c : (o : Outcome) (peer : PeerAtCentral) → o.progress ≡ central (record c { peer = peer }) → PeerMayBegin c → excludes c.own ≡ false
      → of_reply o.reply ≡ room_of_peer peer → IsTook o
  begun_c o peer is may apart reply =
      let gone : room_of_peer c.peer ≡ 0 = rw may.one refl in
      record {
        fits = λ waits. λ fit. rw is (let less : waits ≤ room_of_own c.own + room_of_peer c.peer = fit in omega (arith, less, gone, reply));
        alone = λ alone. rw is (λ excluded. absurd (cc));
      }

  judged_c : (min max latency timeout : ℕ) → PeerMayBegin c → excludes c.own ≡ false → IsTook (request_judged at_c c min max latency timeout)
  judged_c min max latency timeout may apart =
      took_if (are_valid min max latency timeout)
      (with_effect (AskHost min max latency timeout) (moved at_c (central (record c { peer = HostAsked }))))
      (record (rejected at_c connection_param_req_opcode (record { 0 = invalid_ll_parameters })) { progress = central (record c { peer = Absent }) })
      (λ h. begun_c _ HostAsked refl may apart refl) (begun_c _ Absent refl may apart refl)

module _ (f : TableFacts) (c : Central) where
  abbrev with_own : OwnCentral → Central
  with_own own = record c { own = own }

  request_c : (own : OwnCentral) (min max latency timeout : ℕ) → PeerMayBegin (with_own own)
      → TookOne (central (with_own own)) (request_taken (at_c f (with_own own)) (with_own own) min max latency timeout)
  request_c (exclusive Idle) min max latency timeout may = judged_c f (with_own (exclusive Idle)) min max latency timeout may refl
  request_c (exchange FeaturesUnsent) min max latency timeout may = judged_c f (with_own (exchange FeaturesUnsent)) min max latency timeout may refl
  request_c (exchange FeaturesSent) min max latency timeout may = judged_c f (with_own (exchange FeaturesSent)) min max latency timeout may refl
  request_c (exchange VersionUnsent) min max latency timeout may = judged_c f (with_own (exchange VersionUnsent)) min max latency timeout may refl
  request_c (exchange VersionSent) min max latency timeout may = judged_c f (with_own (exchange VersionSent)) min max latency timeout may refl
  request_c (exchange LengthUnsent) min max latency timeout may = judged_c f (with_own (exchange LengthUnsent)) min max latency timeout may refl
  request_c (exchange LengthSent) min max latency timeout may = judged_c f (with_own (exchange LengthSent)) min max latency timeout may refl
  request_c EncryptUnsent min max latency timeout may = absurd (let quiet = may.quiet in cc)
  request_c EncryptSent min max latency timeout may = absurd (let quiet = may.quiet in cc)
  request_c (exclusive UpdateUnsent) min max latency timeout may = same_c f (with_own (exclusive UpdateUnsent)) _ refl refl
  request_c (exclusive UpdateSent) min max latency timeout may = same_c f (with_own (exclusive UpdateSent)) _ refl refl
  request_c (exclusive MapUnsent) min max latency timeout may = same_c f (with_own (exclusive MapUnsent)) _ refl refl
  request_c (exclusive MapSent) min max latency timeout may = same_c f (with_own (exclusive MapSent)) _ refl refl
  request_c (exclusive PhyUnsent) min max latency timeout may = same_c f (with_own (exclusive PhyUnsent)) _ refl refl
  request_c (exclusive PhySent) min max latency timeout may = same_c f (with_own (exclusive PhySent)) _ refl refl
  request_c (exclusive PhyAnswered) min max latency timeout may = same_c f (with_own (exclusive PhyAnswered)) _ refl refl
  request_c (exclusive PhyIndicated) min max latency timeout may = same_c f (with_own (exclusive PhyIndicated)) _ refl refl

  phy_c : (own : OwnCentral) → PeerMayBegin (with_own own) → TookOne (central (with_own own)) (phy_req_at_central (at_c f (with_own own)) (with_own own))
  phy_c (exclusive Idle) may = begun_c f (with_own (exclusive Idle)) _ PhyIndUnsent refl may refl refl
  phy_c (exchange FeaturesUnsent) may = begun_c f (with_own (exchange FeaturesUnsent)) _ PhyIndUnsent refl may refl refl
  phy_c (exchange FeaturesSent) may = begun_c f (with_own (exchange FeaturesSent)) _ PhyIndUnsent refl may refl refl
  phy_c (exchange VersionUnsent) may = begun_c f (with_own (exchange VersionUnsent)) _ PhyIndUnsent refl may refl refl
  phy_c (exchange VersionSent) may = begun_c f (with_own (exchange VersionSent)) _ PhyIndUnsent refl may refl refl
  phy_c (exchange LengthUnsent) may = begun_c f (with_own (exchange LengthUnsent)) _ PhyIndUnsent refl may refl refl
  phy_c (exchange LengthSent) may = begun_c f (with_own (exchange LengthSent)) _ PhyIndUnsent refl may refl refl
  phy_c EncryptUnsent may = absurd (let quiet = may.quiet in cc)
  phy_c EncryptSent may = absurd (let quiet = may.quiet in cc)
  phy_c (exclusive UpdateUnsent) may = same_c f (with_own (exclusive UpdateUnsent)) _ refl refl
  phy_c (exclusive UpdateSent) may = same_c f (with_own (exclusive UpdateSent)) _ refl refl
  phy_c (exclusive MapUnsent) may = same_c f (with_own (exclusive MapUnsent)) _ refl refl
  phy_c (exclusive MapSent) may = same_c f (with_own (exclusive MapSent)) _ refl refl
  phy_c (exclusive PhyUnsent) may = same_c f (with_own (exclusive PhyUnsent)) _ refl refl
  phy_c (exclusive PhySent) may = same_c f (with_own (exclusive PhySent)) _ refl refl
  phy_c (exclusive PhyAnswered) may = same_c f (with_own (exclusive PhyAnswered)) _ refl refl
  phy_c (exclusive PhyIndicated) may = same_c f (with_own (exclusive PhyIndicated)) _ refl refl

  at_central : (quiet : Bool) (ctrl : Ctrl) → MayComeToCentral c ctrl → TookOne (central c) (taken_by (central c) (at_c f c) quiet ctrl)
  at_central true (EncRsp skd_s iv_s) may = same_c f c _ refl refl
  at_central false (EncRsp skd_s iv_s) may = same_c f c _ refl refl
  at_central true StartEncReq may = same_c f c _ refl refl
  at_central false StartEncReq may = same_c f c _ refl refl
  at_central true PauseEncRsp may = same_c f c _ refl refl
  at_central false PauseEncRsp may = same_c f c _ refl refl
  at_central true StartEncRsp may = same_c f c _ refl refl
  at_central false StartEncRsp may = secured_by f c StartEncRsp (is_own_encryption c.own) (encryption_room f c c.own)
  at_central quiet (ConnectionParamReq min max latency timeout periodicity reference offsets) may = request_c c.own min max latency timeout may
  at_central quiet (phy_req_pdu tx rx) may = phy_c c.own may
  at_central quiet (phy_rsp_pdu tx rx) may =
      took_if f c (awaits_phy_rsp (central_stage c.own)) (phy_answered (at_c f c) c) (unchanged (at_c f c)) (answered_c f c) (same_c f c _ refl refl)
  at_central quiet (unknown_pdu opcode) may =
      refusal_c f c (is_opcode (opcode_at_central c.own) opcode) (record { 0 = unsupported_remote_feature }) may (named (opcode_at_central c.own) opcode)
  at_central quiet (feature_pdu features) may =
      took_if f c (awaits_features (exchange_at_central c.own))
      (with_done Features (with_effect (PeerFeatures features) (moved (at_c f c) (without_own (central c))))) (unchanged (at_c f c))
      (λ h. idled f c _ refl refl (features_room f c c.own h)) (same_c f c _ refl refl)
  at_central quiet (version_pdu version company sub) may =
      version_by f c (is_version (exchange_at_central c.own)) _ refl (version_none f c f.version_used) (version_room f c c.own)
  at_central quiet (RejectInd code) may = refusal_c f c (is_some (opcode_at_central c.own)) (record { 0 = code }) may (λ h. h)
  at_central quiet (RejectExtInd opcode code) may =
      refusal_c f c (is_opcode (opcode_at_central c.own) opcode || is_opcode (later_opcode (central c)) opcode) (record { 0 = code }) may
      (named_either (central c) opcode)
  at_central quiet (length_pdu rx rx_time tx tx_time) may =
      took_if f c (awaits_lengths (exchange_at_central c.own))
      (with_done Length (with_lengths (with_peer f.lengths rx tx) (moved (at_c f c) (without_own (central c))))) (unchanged (at_c f c))
      (λ h. idled f c _ refl refl (lengths_room f c c.own h)) (same_c f c _ refl refl)
  at_central quiet other may = same_c f c _ refl refl

-- ---- at a peripheral

module _ (f : TableFacts) (p : Peripheral) where
  abbrev at_p : TableFacts
  at_p = record f { progress = peripheral p }

  abbrev IsTookHere : Outcome → Type 0
  IsTookHere o = TookOne (peripheral p) o

  -- what is of the central stays as it was
  same_p : (o : Outcome) (own : OwnPeripheral) → o.progress ≡ peripheral (record p { own = own }) → IsTookHere o
  same_p o own is =
      record {
        fits = λ waits. λ h. rw is _;
        alone = λ h. rw is (let alone : AloneHere p = h in record { phy = alone.phy; waits = alone.waits });
      }

  became_p : (o : Outcome) (q : Peripheral) → o.progress ≡ peripheral q → (AloneHere p → AloneHere q) → IsTookHere o
  became_p o q is next = record { fits = λ waits. λ h. rw is _; alone = λ h. rw is (next h) }

  if_p : (b : Bool) (x y : Outcome) → IsTookHere x → IsTookHere y → IsTookHere (if b then x else y)
  if_p true x y hx hy = hx
  if_p false x y hx hy = hy

  follow_p : (waiting new : Ahead) (other : Outcome) → IsTookHere other → IsTookHere (follow at_p waiting new other)
  follow_p nothing_ahead new other h = h
  follow_p update_ahead new other h = same_p _ p.own refl
  follow_p map_ahead new other h = same_p _ p.own refl

  outlived_p : (code : Option ErrCode) (other : Outcome) → IsTookHere other → IsTookHere (outlived at_p code other)
  outlived_p None other h = h
  outlived_p (Some code) other h = same_p _ p.own refl

  after_grant_p : (answered : Bool) (code : Option ErrCode) (other : Outcome) → IsTookHere other → IsTookHere (if answered then outlived at_p code other else other)
  after_grant_p true code other h = outlived_p code other h
  after_grant_p false code other h = h

  refusal_p : (is_one : Bool) (code : ErrCode) → IsTookHere (refused_if is_one at_p code)
  refusal_p true code = same_p _ (exclusive_p idle) refl
  refusal_p false code = same_p _ p.own refl

  version_p : (b : Bool) (o : Outcome) → o.progress ≡ (if b then peripheral (record p { own = exclusive_p idle }) else peripheral p) → IsTookHere o
  version_p true o is = same_p o (exclusive_p idle) is
  version_p false o is = same_p o p.own is

  update_p : (indication : Indication) → IsTookHere (follow at_p p.ahead update_ahead (if reads_as_answer (peripheral_stage p.own) then granted at_p p indication else update_begun at_p p indication))
  update_p indication =
      follow_p p.ahead update_ahead (if reads_as_answer (peripheral_stage p.own) then granted at_p p indication else update_begun at_p p indication)
      (if_p (reads_as_answer (peripheral_stage p.own)) (granted at_p p indication) (update_begun at_p p indication)
      (became_p _ _ refl (λ alone. record { phy = alone.phy; waits = λ h. refl }))
      (became_p _ _ refl (λ alone. record { phy = λ h. refl; waits = λ h. refl })))

  ind_p : (a b : Bool)
      → IsTookHere (if a then moved at_p (peripheral (record p { peer = absent })) else (if b then with_done Phy (moved at_p (peripheral (record p { own = exclusive_p idle }))) else unchanged at_p))
  ind_p true b = became_p _ _ refl (λ alone. record { phy = λ h. refl; waits = λ h. absurd (cc) })
  ind_p false true = same_p _ (exclusive_p idle) refl
  ind_p false false = same_p _ p.own refl

  at_peripheral : (quiet : Bool) (ctrl : Ctrl) → MayComeToPeripheral p ctrl → IsTookHere (taken_by (peripheral p) at_p quiet ctrl)
  at_peripheral quiet (ConnectionUpdateInd win_size win_offset interval latency timeout instant) may =
      update_p (update_indication win_offset interval latency timeout instant)
  at_peripheral quiet (ChannelMapInd map instant) may =
      after_grant_p (central_answered (peripheral_stage p.own)) (collision (kind_at_peripheral p.own) map_kind)
      (follow at_p p.ahead map_ahead (followed at_p (record p { peer = MapTaken }) map_ahead (map_indication map instant)))
      (follow_p p.ahead map_ahead (followed at_p (record p { peer = MapTaken }) map_ahead (map_indication map instant))
      (became_p _ _ refl (λ alone. record { phy = λ h. refl; waits = λ h. refl })))
  at_peripheral quiet (EncReq rand ediv skd_m iv_m) may = became_p _ _ refl (λ alone. record { phy = λ h. may; waits = alone.waits })
  at_peripheral quiet PauseEncReq may = became_p _ _ refl (λ alone. record { phy = λ h. may; waits = alone.waits })
  at_peripheral true PauseEncRsp may = same_p _ p.own refl
  at_peripheral false PauseEncRsp may = same_p _ p.own refl
  at_peripheral true StartEncRsp may = same_p _ p.own refl
  at_peripheral false StartEncRsp may = became_p _ _ refl (λ alone. record { phy = λ h. absurd (cc); waits = alone.waits })
  at_peripheral quiet (phy_req_pdu tx rx) may =
      after_grant_p (central_answered (peripheral_stage p.own)) (collision (kind_at_peripheral p.own) Phy)
      (moved_and_answered at_p (peripheral (record p { peer = PhyRspUnsent })) PhyRsp)
      (became_p _ _ refl (λ alone. record { phy = λ h. absurd (cc); waits = λ h. absurd (cc) }))
  at_peripheral quiet (PhyUpdateInd to_peripheral to_central instant) may = ind_p (has_phy_of_central p.peer) (awaits_phy_ind (peripheral_stage p.own))
  at_peripheral quiet (unknown_pdu opcode) may = refusal_p (is_opcode (first_opcode (peripheral p)) opcode) (record { 0 = unsupported_remote_feature })
  at_peripheral quiet (feature_pdu features) may =
      if_p (awaits_features (own_exchange (peripheral p)))
      (with_done Features (with_effect (PeerFeatures features) (moved at_p (without_own (peripheral p))))) (unchanged at_p)
      (same_p _ (exclusive_p idle) refl) (same_p _ p.own refl)
  at_peripheral quiet (version_pdu version company sub) may = version_p (is_version (own_exchange (peripheral p))) _ refl
  at_peripheral quiet (RejectInd code) may = refusal_p (is_some (first_opcode (peripheral p))) (record { 0 = code })
  at_peripheral quiet (RejectExtInd opcode code) may =
      refusal_p (is_opcode (first_opcode (peripheral p)) opcode || is_opcode (later_opcode (peripheral p)) opcode) (record { 0 = code })
  at_peripheral quiet (length_pdu rx rx_time tx tx_time) may =
      if_p (awaits_lengths (own_exchange (peripheral p)))
      (with_done Length (with_lengths (with_peer f.lengths rx tx) (moved at_p (without_own (peripheral p))))) (unchanged at_p)
      (same_p _ (exclusive_p idle) refl) (same_p _ p.own refl)
  at_peripheral quiet other may = same_p _ p.own refl

-- ---- at either end

took_by : (f : TableFacts) (progress : Progress) (quiet : Bool) (ctrl : Ctrl) → MayComeTo progress ctrl
    → TookOne progress (taken_by progress (record f { progress = progress }) quiet ctrl)
took_by f (central c) quiet ctrl may = at_central f c quiet ctrl may
took_by f (peripheral p) quiet ctrl may = at_peripheral f p quiet ctrl may

-- a PDU that is unknown or empty
untouched : (progress : Progress) (o : Outcome) → o.progress ≡ progress → of_reply o.reply ≡ 0 → TookOne progress o
untouched (central c) o is none =
    record {
      fits = λ waits. λ h. rw is (let less : waits ≤ room_of_own c.own + room_of_peer c.peer = h in omega (arith, less, none));
      alone = λ h. rw is h;
    }
untouched (peripheral p) o is none = record { fits = λ waits. λ h. rw is _; alone = λ h. rw is h }

abbrev pub MayTake : TableFacts → CtrlRead → Type 0
MayTake f (Known ctrl) = MayComeTo f.progress ctrl
MayTake f other = ⊤

pub took_one : (f : TableFacts) (quiet : Bool) (read : CtrlRead) → MayTake f read → TookOne f.progress (outcome_of f quiet read)
took_one f quiet (Known ctrl) may = took_by f f.progress quiet ctrl may
took_one f quiet (Unknown opcode) may = untouched f.progress _ refl refl
took_one f quiet Bare may = untouched f.progress _ refl refl
