-- What a PDU of the peer does, as far as the numbers of waiting PDUs and the roles of the ends need it.
use Rattle.std.proofs.Common.{◌≡◌, ℕ, ◌+◌, ◌≤◌, ◌==◌, Bool, true, false, not, ◌&&◌, ◌||◌, Option, Some, None, is_some, if◌then◌else◌, refl, arith}
use Rattle.ble_base.specs.ErrorCodes.{unsupported_remote_feature, invalid_ll_parameters}
use Rattle.ble_base.specs.declared.error_codes.ErrCode.{ErrCode}
use Rattle.ble_base.specs.declared.roles.Role.{Role}
use Rattle.ble_base.specs.declared.roles.Role.TheVariants.{Central as central_role, Peripheral as peripheral_role}
use Rattle.ble_base.specs.declared.procedure_kinds.Kind.TheVariants.{Request, Map, Phy, Features, Length, Encrypt}
use Rattle.data_pdu.specs.declared.ctrl.Ctrl.{Ctrl}
use Rattle.data_pdu.specs.declared.ctrl.Ctrl.TheVariants.{ConnectionUpdateInd, ChannelMapInd, TerminateInd, EncReq, EncRsp, StartEncReq, StartEncRsp, UnknownRsp, FeatureRsp, PauseEncReq, PauseEncRsp, VersionInd, RejectInd, ConnectionParamReq, RejectExtInd, LengthRsp, PhyReq, PhyRsp, PhyUpdateInd}
use Rattle.data_pdu.specs.declared.ctrl.CtrlRead.{CtrlRead}
use Rattle.data_pdu.specs.declared.ctrl.CtrlRead.TheVariants.{Known, Unknown, Bare}
use Rattle.instants.specs.declared.indications.Indication.{Indication}
use Rattle.instants.specs.declared.indications.Indication.TheVariants.{Update as update_indication, Map as map_indication}
use Rattle.procedures.specs.procedure_values.declared.drafts.Draft.{Draft}
use Rattle.procedures.specs.procedure_values.declared.drafts.Draft.TheVariants.{VersionInd as version_draft, PhyInd, PhyRsp as phy_rsp, FeatureRsp as feature_rsp, LengthRsp as length_rsp, UnknownRsp as unknown_rsp}
use Rattle.procedures.specs.declared.outcome.Outcome.{Outcome}
use Rattle.procedures.specs.procedure_stages.declared.reply.Reply.{Reply}
use Rattle.procedures.specs.procedure_stages.declared.reply.Reply.TheVariants.{Nothing as no_reply, Reject, Answer}
use Rattle.procedures.specs.procedure_stages.declared.stages.Ahead.{Ahead}
use Rattle.procedures.specs.procedure_stages.declared.stages.Ahead.TheVariants.{Nothing as nothing_ahead, Update as update_ahead, Map as map_ahead}
use Rattle.procedures.specs.procedure_stages.declared.stages.Exchange.{Exchange}
use Rattle.procedures.specs.procedure_stages.declared.stages.Exchange.TheVariants.{FeaturesUnsent, FeaturesSent, VersionUnsent, VersionSent, LengthUnsent, LengthSent}
use Rattle.procedures.specs.procedure_stages.declared.stages.OwnCentral.{OwnCentral}
use Rattle.procedures.specs.procedure_stages.declared.stages.OwnCentral.TheVariants.{Exclusive as exclusive, Exchange as exchange, EncryptUnsent, EncryptSent}
use Rattle.exclusive_stages.specs.declared.stages.CentralStage.TheVariants.{Idle, UpdateUnsent, MapUnsent, PhyUnsent, PhySent}
use Rattle.procedures.specs.procedure_stages.declared.stages.OwnPeripheral.{OwnPeripheral}
use Rattle.procedures.specs.procedure_stages.declared.stages.OwnPeripheral.TheVariants.{Exclusive as exclusive_p, Exchange as exchange_p}
use Rattle.exclusive_stages.specs.declared.stages.PeripheralStage.TheVariants.{Idle as idle, RequestUnsent, RequestAcknowledged, RequestGranted, PhyUnsent as phy_unsent, PhySent as phy_sent}
use Rattle.exclusive_stages.specs.declared.stages.PeerAtCentral.TheVariants.{Absent, HostAsked, PhyIndUnsent}
use Rattle.exclusive_stages.specs.declared.stages.PeerAtPeripheral.TheVariants.{Absent as absent, MapTaken, PhyRspUnsent}
use Rattle.procedures.specs.procedure_stages.declared.stages.Central.{Central}
use Rattle.procedures.specs.procedure_stages.declared.stages.Peripheral.{Peripheral}
use Rattle.procedures.specs.procedure_stages.declared.stages.Progress.{Progress}
use Rattle.procedures.specs.procedure_stages.declared.stages.Progress.TheVariants.{Central as central, Peripheral as peripheral}
use Rattle.procedures.specs.procedure_stages.declared.steps.Effect.TheVariants.{PeerFeatures, AskHost, Cipher}
use Rattle.procedures.specs.procedure_stages.Kinds.{exchange_at_central, exchange_at_peripheral, kind_at_central, kind_at_peripheral, own_exchange, role_of, without_own}
use Rattle.procedures.specs.procedure_stages.Collisions.{collision}
use Rattle.procedures.specs.procedure_values.Limits.{with_peer}
use Rattle.procedures.specs.Table.{TableFacts}
use Rattle.procedures.specs.Outcomes.{unchanged, moved, moved_and_answered, rejected, with_effect, with_done}
use Rattle.procedures.specs.Update.{follow, followed, granted, update_begun}
use Rattle.procedures.specs.procedure_stages.Awaited.{awaits_features, awaits_lengths, is_own_encryption, is_version}
use Rattle.exclusive_stages.specs.Awaited.{reads_as_answer, peer_answered, central_answered, awaits_phy_rsp, has_phy_of_central, awaits_phy_ind}
use Rattle.procedures.specs.Request.{collided, outlived, request_judged}
use Rattle.procedures.specs.procedure_values.Values.{are_valid}
use Rattle.procedures.specs.Phy.{phy_answered}
use Rattle.procedures.specs.Length.{with_lengths}
use Rattle.procedures.specs.procedure_stages.Opcodes.{first_opcode, is_opcode, later_opcode, opcode_at_central, opcode_at_peripheral, connection_param_req_opcode, phy_req_opcode}
use Rattle.procedures.specs.Refusals.{refused_if}
use Rattle.procedures.specs.Version.{version_reply}
use Rattle.procedures.specs.procedure_stages.Steps.{asks_host}
use Rattle.procedures.specs.Taking.{outcome_of, taken_by, taken_by_either}
use Rattle.table_laws.specs.Waiting.{is_asked, count_if}
use Rattle.procedures.specs.procedure_stages.Exclusive.{central_stage, peripheral_stage}

-- ---- the request of the own procedure may wait: its stage is the first, or it is an encryption

abbrev pub room_of_exchange : Exchange → ℕ
room_of_exchange FeaturesUnsent = 1
room_of_exchange LengthUnsent = 1
room_of_exchange other = 0

abbrev pub room_at_central : OwnCentral → ℕ
room_at_central (exchange stage) = room_of_exchange stage
room_at_central (exclusive UpdateUnsent) = 1
room_at_central (exclusive MapUnsent) = 1
room_at_central (exclusive PhyUnsent) = 1
room_at_central EncryptUnsent = 1
room_at_central EncryptSent = 1
room_at_central (exclusive other) = 0

abbrev pub room_at_peripheral : OwnPeripheral → ℕ
room_at_peripheral (exchange_p stage) = room_of_exchange stage
room_at_peripheral (exclusive_p RequestUnsent) = 1
room_at_peripheral (exclusive_p phy_unsent) = 1
room_at_peripheral (exclusive_p other) = 0

abbrev pub own_room : Progress → ℕ
own_room (central c) = room_at_central c.own
own_room (peripheral p) = room_at_peripheral p.own

abbrev pub encrypts : Progress → Bool
encrypts (central c) = is_own_encryption c.own
encrypts (peripheral p) = false

-- ---- what is sent for a PDU of the peer

abbrev pub is_central : Role → Bool
is_central central_role = true
is_central peripheral_role = false

abbrev pub is_answer : Role → Bool → Draft → Bool
is_answer role used version_draft = not used
is_answer role used feature_rsp = true
is_answer role used (length_rsp rx tx) = true
is_answer role used (unknown_rsp opcode) = true
is_answer role used PhyInd = is_central role
is_answer role used phy_rsp = not (is_central role)
is_answer role used other = false

abbrev pub is_reply : Role → Bool → Reply → Bool
is_reply role used no_reply = true
is_reply role used (Reject rejection) =
    is_central role && ((rejection.opcode == connection_param_req_opcode) || (rejection.opcode == phy_req_opcode))
is_reply role used (Answer draft) = is_answer role used draft

-- an outcome at an end with these procedures, which used its LL_VERSION_IND or not
pub record Took (progress : Progress) (used : Bool) (o : Outcome) : Type 0 where
  pub reply : is_reply (role_of progress) used o.reply ≡ true
  pub asks : (key : Bool) → count_if (is_asked o.progress key) ≤ count_if (is_asked progress key) + count_if (asks_host o.step.effect)
  pub keeps : own_room progress ≤ own_room o.progress + count_if (encrypts progress)
  pub role : role_of o.progress ≡ role_of progress

still : (progress : Progress) (used : Bool) (o : Outcome) → o.progress ≡ progress → is_reply (role_of progress) used o.reply ≡ true → Took progress used o
still progress used o is reply =
    record { reply = reply; asks = λ key. rw is (omega arith); keeps = rw is (omega arith); role = rw is refl }

took_if : (progress : Progress) (used : Bool) (b : Bool) (x y : Outcome) → (b ≡ true → Took progress used x) → Took progress used y → Took progress used (if b then x else y)
took_if progress used true x y hx hy = hx refl
took_if progress used false x y hx hy = hy

-- ---- an own procedure that is over has sent its request, or it is an encryption

refused_central : (own : OwnCentral) → is_some (opcode_at_central own) ≡ true → room_at_central own ≤ count_if (is_own_encryption own)
refused_central (exchange FeaturesUnsent) h = absurd (cc)
refused_central (exchange VersionUnsent) h = omega arith
refused_central (exchange LengthUnsent) h = absurd (cc)
refused_central (exchange FeaturesSent) h = omega arith
refused_central (exchange VersionSent) h = omega arith
refused_central (exchange LengthSent) h = omega arith
refused_central (exclusive UpdateUnsent) h = absurd (cc)
refused_central (exclusive MapUnsent) h = absurd (cc)
refused_central (exclusive PhyUnsent) h = absurd (cc)
refused_central (exclusive other) h = omega arith
refused_central other h = omega arith

refused_peripheral : (own : OwnPeripheral) → is_some (opcode_at_peripheral own) ≡ true → room_at_peripheral own ≤ 0
refused_peripheral (exchange_p FeaturesUnsent) h = absurd (cc)
refused_peripheral (exchange_p VersionUnsent) h = omega arith
refused_peripheral (exchange_p LengthUnsent) h = absurd (cc)
refused_peripheral (exchange_p FeaturesSent) h = omega arith
refused_peripheral (exchange_p VersionSent) h = omega arith
refused_peripheral (exchange_p LengthSent) h = omega arith
refused_peripheral (exclusive_p RequestUnsent) h = absurd (cc)
refused_peripheral (exclusive_p phy_unsent) h = absurd (cc)
refused_peripheral (exclusive_p other) h = omega arith

pub named : (own : Option ℕ) (opcode : ℕ) → is_opcode own opcode ≡ true → is_some own ≡ true
named None opcode h = absurd (cc)
named (Some own) opcode h = refl

-- the later PDU of a procedure follows its first
pub named_either : (progress : Progress) (opcode : ℕ) → (is_opcode (first_opcode progress) opcode || is_opcode (later_opcode progress) opcode) ≡ true → is_some (first_opcode progress) ≡ true
named_either (central c) opcode h = by c.own h
  where
    by : (own : OwnCentral) → (is_opcode (opcode_at_central own) opcode || is_opcode (later_opcode (central (record c { own = own }))) opcode) ≡ true → is_some (opcode_at_central own) ≡ true
    by (exchange FeaturesUnsent) h = absurd (cc)
    by (exchange VersionUnsent) h = absurd (cc)
    by (exchange LengthUnsent) h = absurd (cc)
    by (exchange FeaturesSent) h = refl
    by (exchange VersionSent) h = refl
    by (exchange LengthSent) h = refl
    by (exclusive Idle) h = absurd (cc)
    by (exclusive UpdateUnsent) h = absurd (cc)
    by (exclusive MapUnsent) h = absurd (cc)
    by (exclusive PhyUnsent) h = absurd (cc)
    by EncryptUnsent h = absurd (cc)
    by (exclusive other) h = refl
    by other h = refl
named_either (peripheral p) opcode h = by (opcode_at_peripheral p.own) h
  where
    by : (own : Option ℕ) → (is_opcode own opcode || false) ≡ true → is_some own ≡ true
    by None h = absurd (cc)
    by (Some first) h = refl

over : (progress : Progress) → is_some (first_opcode progress) ≡ true → own_room progress ≤ count_if (encrypts progress)
over (central c) h = refused_central c.own h
over (peripheral p) h = refused_peripheral p.own h

-- an end whose own procedure is over, of which its request does not wait
without : (f : TableFacts) (used : Bool) (o : Outcome) → o.progress ≡ without_own f.progress → own_room f.progress ≤ count_if (encrypts f.progress)
    → is_reply (role_of f.progress) used o.reply ≡ true → Took f.progress used o
without f used o is less reply = by f.progress is less reply
  where
    by : (p : Progress) → o.progress ≡ without_own p → own_room p ≤ count_if (encrypts p) → is_reply (role_of p) used o.reply ≡ true → Took p used o
    by (central c) is less reply = record { reply = reply; asks = λ key. rw is (omega arith); keeps = rw is (omega (arith, less)); role = rw is refl }
    by (peripheral p) is less reply = record { reply = reply; asks = λ key. rw is (omega arith); keeps = rw is (omega (arith, less)); role = rw is refl }

refusal : (f : TableFacts) (used is_one : Bool) (code : ErrCode) → (is_one ≡ true → is_some (first_opcode f.progress) ≡ true) → Took f.progress used (refused_if is_one f code)
refusal f used true code h = without f used _ refl (over f.progress (h refl)) refl
refusal f used false code h = still f.progress used _ refl refl

-- an exchange that awaits an answer has sent its request
awaited : (progress : Progress) → awaits_features (own_exchange progress) ≡ true → own_room progress ≤ count_if (encrypts progress)
awaited progress h = over progress (by progress h)
  where
    by : (p : Progress) → awaits_features (own_exchange p) ≡ true → is_some (first_opcode p) ≡ true
    by (central c) h = central_by c.own h
      where
        central_by : (own : OwnCentral) → awaits_features (exchange_at_central own) ≡ true → is_some (opcode_at_central own) ≡ true
        central_by (exchange FeaturesSent) h = refl
        central_by (exchange other) h = absurd (cc)
        central_by other h = absurd (cc)
    by (peripheral p) h = peripheral_by p.own h
      where
        peripheral_by : (own : OwnPeripheral) → awaits_features (exchange_at_peripheral own) ≡ true → is_some (opcode_at_peripheral own) ≡ true
        peripheral_by (exchange_p FeaturesSent) h = refl
        peripheral_by (exchange_p other) h = absurd (cc)
        peripheral_by other h = absurd (cc)

awaited_lengths : (progress : Progress) → awaits_lengths (own_exchange progress) ≡ true → own_room progress ≤ count_if (encrypts progress)
awaited_lengths progress h = over progress (by progress h)
  where
    by : (p : Progress) → awaits_lengths (own_exchange p) ≡ true → is_some (first_opcode p) ≡ true
    by (central c) h = central_by c.own h
      where
        central_by : (own : OwnCentral) → awaits_lengths (exchange_at_central own) ≡ true → is_some (opcode_at_central own) ≡ true
        central_by (exchange LengthSent) h = refl
        central_by (exchange other) h = absurd (cc)
        central_by other h = absurd (cc)
    by (peripheral p) h = peripheral_by p.own h
      where
        peripheral_by : (own : OwnPeripheral) → awaits_lengths (exchange_at_peripheral own) ≡ true → is_some (opcode_at_peripheral own) ≡ true
        peripheral_by (exchange_p LengthSent) h = refl
        peripheral_by (exchange_p other) h = absurd (cc)
        peripheral_by other h = absurd (cc)

-- an exchange of versions is over as the peer's comes; its LL_VERSION_IND is not counted
version_over : (progress : Progress) → is_version (own_exchange progress) ≡ true → own_room progress ≤ count_if (encrypts progress)
version_over (central c) h = by c.own h
  where
    by : (own : OwnCentral) → is_version (exchange_at_central own) ≡ true → room_at_central own ≤ count_if (is_own_encryption own)
    by (exchange VersionUnsent) h = omega arith
    by (exchange VersionSent) h = omega arith
    by (exchange other) h = absurd (cc)
    by other h = absurd (cc)
version_over (peripheral p) h = by p.own h
  where
    by : (own : OwnPeripheral) → is_version (exchange_at_peripheral own) ≡ true → room_at_peripheral own ≤ 0
    by (exchange_p VersionUnsent) h = omega arith
    by (exchange_p VersionSent) h = omega arith
    by (exchange_p other) h = absurd (cc)
    by other h = absurd (cc)

single_reply : (role : Role) (used : Bool) → is_reply role used (version_reply used) ≡ true
single_reply role true = refl
single_reply role false = refl

-- ---- the PDUs that mean the same at either end

version_by : (f : TableFacts) (used b : Bool) (o : Outcome) → o.progress ≡ (if b then without_own f.progress else f.progress)
    → (b ≡ true → own_room f.progress ≤ count_if (encrypts f.progress)) → is_reply (role_of f.progress) used o.reply ≡ true → Took f.progress used o
version_by f used true o is over reply = without f used o is (over refl) reply
version_by f used false o is over reply = still f.progress used o is reply

either : (f : TableFacts) (ctrl : Ctrl) → Took f.progress f.version_used (taken_by_either f ctrl)
either f (UnknownRsp opcode) =
    refusal f f.version_used (is_opcode (first_opcode f.progress) opcode) (record { 0 = unsupported_remote_feature })
    (named (first_opcode f.progress) opcode)
either f (FeatureRsp features) =
    took_if f.progress f.version_used (awaits_features (own_exchange f.progress))
    (with_done Features (with_effect (PeerFeatures features) (moved f (without_own f.progress)))) (unchanged f)
    (λ h. without f f.version_used _ refl (awaited f.progress h) refl) (still f.progress f.version_used _ refl refl)
either f (VersionInd version company sub) =
    version_by f f.version_used (is_version (own_exchange f.progress)) _ refl (version_over f.progress)
    (single_reply (role_of f.progress) f.version_used)
either f (RejectInd code) = refusal f f.version_used (is_some (first_opcode f.progress)) (record { 0 = code }) (λ h. h)
either f (RejectExtInd opcode code) =
    refusal f f.version_used (is_opcode (first_opcode f.progress) opcode || is_opcode (later_opcode f.progress) opcode)
    (record { 0 = code }) (named_either f.progress opcode)
either f (LengthRsp rx rx_time tx tx_time) =
    took_if f.progress f.version_used (awaits_lengths (own_exchange f.progress))
    (with_done Length (with_lengths (with_peer f.lengths rx tx) (moved f (without_own f.progress)))) (unchanged f)
    (λ h. without f f.version_used _ refl (awaited_lengths f.progress h) refl) (still f.progress f.version_used _ refl refl)
either f other = still f.progress f.version_used _ refl refl

-- ---- at a central

module _ (f : TableFacts) (c : Central) where
  abbrev at_c : TableFacts
  at_c = record f { progress = central c }

  abbrev IsTook : Outcome → Type 0
  IsTook o = Took (central c) f.version_used o

  same_c : (o : Outcome) → o.progress ≡ central c → is_reply central_role f.version_used o.reply ≡ true → IsTook o
  same_c o is reply = still (central c) f.version_used o is reply

  collided_c : (answered : Bool) (opcode : ℕ) (code : Option ErrCode) (other : Outcome)
      → ((opcode == connection_param_req_opcode) || (opcode == phy_req_opcode)) ≡ true → IsTook other → IsTook (collided at_c answered opcode code other)
  collided_c answered opcode None other names h = h
  collided_c true opcode (Some code) other names h = same_c _ refl refl
  collided_c false opcode (Some code) other names h = same_c _ refl names

  encryption_over : (own : OwnCentral) → is_own_encryption own ≡ true → room_at_central own ≤ count_if (is_own_encryption own)
  encryption_over EncryptUnsent h = omega arith
  encryption_over EncryptSent h = omega arith
  encryption_over other h = absurd (cc)

  secured_by : (ctrl : Ctrl) (b : Bool) → (b ≡ true → room_at_central c.own ≤ count_if (is_own_encryption c.own))
      → IsTook (with_effect (Cipher ctrl) (if b then with_done Encrypt (moved at_c (central (record c { own = exclusive Idle }))) else unchanged at_c))
  secured_by ctrl true over =
      let h = over refl in
      record { reply = refl; asks = λ key. omega arith; keeps = omega (arith, h); role = refl }
  secured_by ctrl false over = same_c _ refl refl

  phy_over : (own : OwnCentral) → awaits_phy_rsp (central_stage own) ≡ true → room_at_central own ≤ count_if (is_own_encryption own)
  phy_over (exclusive PhySent) h = omega arith
  phy_over (exclusive other) h = absurd (cc)
  phy_over other h = absurd (cc)

  judged_c : (min max latency timeout : ℕ) → IsTook (request_judged at_c c min max latency timeout)
  judged_c min max latency timeout =
      took_if (central c) f.version_used (are_valid min max latency timeout)
      (with_effect (AskHost min max latency timeout) (moved at_c (central (record c { peer = HostAsked }))))
      (record (rejected at_c connection_param_req_opcode (record { 0 = invalid_ll_parameters })) { progress = central (record c { peer = Absent }) })
      (λ h. record { reply = refl; asks = λ key. omega arith; keeps = omega arith; role = refl })
      (record { reply = refl; asks = λ key. omega arith; keeps = omega arith; role = refl })

  at_central : (quiet : Bool) (ctrl : Ctrl) → IsTook (taken_by (central c) at_c quiet ctrl)
  at_central true (EncRsp skd_s iv_s) = same_c _ refl refl
  at_central false (EncRsp skd_s iv_s) = same_c _ refl refl
  at_central true StartEncReq = same_c _ refl refl
  at_central false StartEncReq = same_c _ refl refl
  at_central true PauseEncRsp = same_c _ refl refl
  at_central false PauseEncRsp = same_c _ refl refl
  at_central true StartEncRsp = same_c _ refl refl
  at_central false StartEncRsp = secured_by StartEncRsp (is_own_encryption c.own) (encryption_over c.own)
  at_central quiet (ConnectionParamReq min max latency timeout periodicity reference offsets) =
      collided_c (peer_answered (central_stage c.own)) connection_param_req_opcode (collision (kind_at_central c.own) Request)
      (request_judged at_c c min max latency timeout) refl (judged_c min max latency timeout)
  at_central quiet (PhyReq tx rx) =
      collided_c (peer_answered (central_stage c.own)) phy_req_opcode (collision (kind_at_central c.own) Phy)
      (moved_and_answered at_c (central (record c { peer = PhyIndUnsent })) PhyInd) refl
      (record { reply = refl; asks = λ key. omega arith; keeps = omega arith; role = refl })
  at_central quiet (PhyRsp tx rx) =
      took_if (central c) f.version_used (awaits_phy_rsp (central_stage c.own)) (phy_answered at_c c) (unchanged at_c)
      (λ h. let less = phy_over c.own h in record { reply = refl; asks = λ key. omega arith; keeps = omega (arith, less); role = refl })
      (same_c _ refl refl)
  at_central quiet (TerminateInd code) = either at_c (TerminateInd code)
  at_central quiet (UnknownRsp opcode) = either at_c (UnknownRsp opcode)
  at_central quiet (FeatureRsp features) = either at_c (FeatureRsp features)
  at_central quiet (VersionInd version company sub) = either at_c (VersionInd version company sub)
  at_central quiet (RejectInd code) = either at_c (RejectInd code)
  at_central quiet (RejectExtInd opcode code) = either at_c (RejectExtInd opcode code)
  at_central quiet (LengthRsp rx rx_time tx tx_time) = either at_c (LengthRsp rx rx_time tx tx_time)
  at_central quiet other = same_c _ refl refl

-- ---- at a peripheral

module _ (f : TableFacts) (p : Peripheral) where
  abbrev at_p : TableFacts
  at_p = record f { progress = peripheral p }

  abbrev IsTookHere : Outcome → Type 0
  IsTookHere o = Took (peripheral p) f.version_used o

  same_p : (o : Outcome) → o.progress ≡ peripheral p → is_reply peripheral_role f.version_used o.reply ≡ true → IsTookHere o
  same_p o is reply = still (peripheral p) f.version_used o is reply

  follow_p : (waiting new : Ahead) (other : Outcome) → IsTookHere other → IsTookHere (follow at_p waiting new other)
  follow_p nothing_ahead new other h = h
  follow_p update_ahead new other h = same_p _ refl refl
  follow_p map_ahead new other h = same_p _ refl refl

  outlived_p : (code : Option ErrCode) (other : Outcome) → IsTookHere other → IsTookHere (outlived at_p code other)
  outlived_p None other h = h
  outlived_p (Some code) other h = same_p _ refl refl

  after_grant_p : (answered : Bool) (code : Option ErrCode) (other : Outcome) → IsTookHere other → IsTookHere (if answered then outlived at_p code other else other)
  after_grant_p true code other h = outlived_p code other h
  after_grant_p false code other h = h

  answer_over : (own : OwnPeripheral) → reads_as_answer (peripheral_stage own) ≡ true → room_at_peripheral own ≤ 0
  answer_over (exclusive_p RequestAcknowledged) h = omega arith
  answer_over (exclusive_p RequestGranted) h = omega arith
  answer_over (exclusive_p other) h = absurd (cc)
  answer_over other h = absurd (cc)

  phy_sent_over : (own : OwnPeripheral) → awaits_phy_ind (peripheral_stage own) ≡ true → room_at_peripheral own ≤ 0
  phy_sent_over (exclusive_p phy_sent) h = omega arith
  phy_sent_over (exclusive_p other) h = absurd (cc)
  phy_sent_over other h = absurd (cc)

  update_p : (indication : Indication) → IsTookHere (follow at_p p.ahead update_ahead (if reads_as_answer (peripheral_stage p.own) then granted at_p p indication else update_begun at_p p indication))
  update_p indication =
      follow_p p.ahead update_ahead (if reads_as_answer (peripheral_stage p.own) then granted at_p p indication else update_begun at_p p indication)
      (took_if (peripheral p) f.version_used (reads_as_answer (peripheral_stage p.own)) (granted at_p p indication) (update_begun at_p p indication)
      (λ h. let less = answer_over p.own h in record { reply = refl; asks = λ key. omega arith; keeps = omega (arith, less); role = refl })
      (record { reply = refl; asks = λ key. omega arith; keeps = omega arith; role = refl }))

  ind_p : (a b : Bool) → (b ≡ true → room_at_peripheral p.own ≤ 0)
      → IsTookHere (if a then moved at_p (peripheral (record p { peer = absent })) else (if b then with_done Phy (moved at_p (peripheral (record p { own = exclusive_p idle }))) else unchanged at_p))
  ind_p true b over = record { reply = refl; asks = λ key. omega arith; keeps = omega arith; role = refl }
  ind_p false true over = let less = over refl in record { reply = refl; asks = λ key. omega arith; keeps = omega (arith, less); role = refl }
  ind_p false false over = same_p _ refl refl

  at_peripheral : (quiet : Bool) (ctrl : Ctrl) → IsTookHere (taken_by (peripheral p) at_p quiet ctrl)
  at_peripheral quiet (ConnectionUpdateInd win_size win_offset interval latency timeout instant) =
      update_p (update_indication win_offset interval latency timeout instant)
  at_peripheral quiet (ChannelMapInd map instant) =
      after_grant_p (central_answered (peripheral_stage p.own)) (collision (kind_at_peripheral p.own) Map)
      (follow at_p p.ahead map_ahead (followed at_p (record p { peer = MapTaken }) map_ahead (map_indication map instant)))
      (follow_p p.ahead map_ahead (followed at_p (record p { peer = MapTaken }) map_ahead (map_indication map instant))
      (record { reply = refl; asks = λ key. omega arith; keeps = omega arith; role = refl }))
  at_peripheral quiet (EncReq rand ediv skd_m iv_m) = record { reply = refl; asks = λ key. omega arith; keeps = omega arith; role = refl }
  at_peripheral quiet PauseEncReq = record { reply = refl; asks = λ key. omega arith; keeps = omega arith; role = refl }
  at_peripheral true PauseEncRsp = same_p _ refl refl
  at_peripheral false PauseEncRsp = same_p _ refl refl
  at_peripheral true StartEncRsp = same_p _ refl refl
  at_peripheral false StartEncRsp = record { reply = refl; asks = λ key. omega arith; keeps = omega arith; role = refl }
  at_peripheral quiet (PhyReq tx rx) =
      after_grant_p (central_answered (peripheral_stage p.own)) (collision (kind_at_peripheral p.own) Phy)
      (moved_and_answered at_p (peripheral (record p { peer = PhyRspUnsent })) phy_rsp)
      (record { reply = refl; asks = λ key. omega arith; keeps = omega arith; role = refl })
  at_peripheral quiet (PhyUpdateInd to_peripheral to_central instant) =
      ind_p (has_phy_of_central p.peer) (awaits_phy_ind (peripheral_stage p.own)) (phy_sent_over p.own)
  at_peripheral quiet (TerminateInd code) = either at_p (TerminateInd code)
  at_peripheral quiet (UnknownRsp opcode) = either at_p (UnknownRsp opcode)
  at_peripheral quiet (FeatureRsp features) = either at_p (FeatureRsp features)
  at_peripheral quiet (VersionInd version company sub) = either at_p (VersionInd version company sub)
  at_peripheral quiet (RejectInd code) = either at_p (RejectInd code)
  at_peripheral quiet (RejectExtInd opcode code) = either at_p (RejectExtInd opcode code)
  at_peripheral quiet (LengthRsp rx rx_time tx tx_time) = either at_p (LengthRsp rx rx_time tx tx_time)
  at_peripheral quiet other = same_p _ refl refl

-- ---- at either end

took_by : (f : TableFacts) (progress : Progress) (quiet : Bool) (ctrl : Ctrl)
    → Took progress f.version_used (taken_by progress (record f { progress = progress }) quiet ctrl)
took_by f (central c) quiet ctrl = at_central f c quiet ctrl
took_by f (peripheral p) quiet ctrl = at_peripheral f p quiet ctrl

pub took : (f : TableFacts) (quiet : Bool) (read : CtrlRead) → Took f.progress f.version_used (outcome_of f quiet read)
took f quiet (Known ctrl) = took_by f f.progress quiet ctrl
took f quiet (Unknown opcode) = still f.progress f.version_used _ refl refl
took f quiet Bare = still f.progress f.version_used _ refl refl
