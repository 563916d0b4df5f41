-- LL_VERSION_IND is queued at most once: where it waits it was queued, and where it was queued it is not queued again.
use Rattle.std.proofs.Common.{◌≡◌, ℕ, ◌+◌, ◌≤◌, Bool, true, false, not, ◌&&◌, ◌||◌, if◌then◌else◌, List, [], ◌∷◌, ◌++◌, Option, Some, None, Ok, Err, refl, arith}
use Rattle.std.specs.List.{remove}
use Rattle.std.specs.Option.{is_some}
use Rattle.ble_base.specs.declared.error_codes.ErrCode.{ErrCode}
use Rattle.ble_base.specs.declared.roles.Role.{Role}
use Rattle.ble_base.specs.declared.roles.Role.TheVariants.{Central as central_role, Peripheral as peripheral_role}
use Rattle.ble_base.specs.declared.procedure_kinds.Kind.TheVariants.{Request, Map, Phy, Features, Length, Encrypt}
use Rattle.ble_base.specs.ErrorCodes.{unsupported_remote_feature, invalid_ll_parameters}
use Rattle.data_pdu.specs.declared.ctrl.Ctrl.{Ctrl}
use Rattle.data_pdu.specs.declared.ctrl.Ctrl.TheVariants.{ConnectionUpdateInd, ChannelMapInd, TerminateInd, EncRsp, StartEncReq, StartEncRsp, UnknownRsp, FeatureRsp, PauseEncRsp, VersionInd, RejectInd, ConnectionParamReq, RejectExtInd, LengthRsp, PhyReq, PhyRsp, PhyUpdateInd}
use Rattle.data_pdu.specs.declared.ctrl.CtrlRead.{CtrlRead}
use Rattle.data_pdu.specs.declared.ctrl.CtrlRead.TheVariants.{Known, Unknown, Bare}
use Rattle.instants.specs.declared.indications.Indication.TheVariants.{Update as update_indication, Map as map_indication}
use Rattle.procedure_stages.specs.declared.opcodes.TheConstants.{CONNECTION_PARAM_REQ, PHY_REQ}
use Rattle.procedure_stages.specs.declared.stages.OwnCentral.TheVariants.{Exclusive as exclusive}
use Rattle.exclusive_stages.specs.declared.stages.CentralStage.TheVariants.{Idle}
use Rattle.procedure_stages.specs.declared.stages.OwnPeripheral.TheVariants.{Exclusive as exclusive_p}
use Rattle.exclusive_stages.specs.declared.stages.PeripheralStage.TheVariants.{Idle as idle}
use Rattle.exclusive_stages.specs.declared.stages.PeerAtCentral.TheVariants.{Absent, HostAsked, PhyIndUnsent}
use Rattle.exclusive_stages.specs.declared.stages.PeerAtPeripheral.TheVariants.{Absent as absent, MapTaken, PhyRspUnsent}
use Rattle.procedure_stages.specs.declared.steps.Effect.TheVariants.{PeerFeatures, AskHost}
use Rattle.procedure_stages.specs.Kinds.{kind_at_central, kind_at_peripheral, own_exchange, without_own, role_of}
use Rattle.procedure_stages.specs.declared.steps.Step.{Step}
use Rattle.procedure_stages.specs.procedure_values.Limits.{with_peer}
use Rattle.procedure_stages.specs.procedure_values.declared.asks.Ask.{Ask}
use Rattle.procedure_stages.specs.procedure_values.declared.asks.Ask.TheVariants.{Update as ask_update, Request as ask_request, Map as ask_map, Phy as ask_phy, Features as ask_features, Version as ask_version, Length as ask_length, Encrypt as ask_encrypt}
use Rattle.procedure_stages.specs.procedure_values.declared.drafts.Draft.{Draft}
use Rattle.procedure_stages.specs.procedure_values.declared.drafts.Draft.TheVariants.{VersionInd as version_ind, PhyInd, PhyRsp as phy_rsp}
use Rattle.procedure_stages.specs.procedure_values.declared.drafts.Rejection.{Rejection as TheRejection}
use Rattle.procedure_stages.specs.procedure_values.declared.drafts.Outgoing.TheVariants.{Nothing, Other}
use Rattle.procedures.specs.declared.outcome.Outcome.{Outcome}
use Rattle.procedure_stages.specs.declared.reply.Reply.{Reply}
use Rattle.procedure_stages.specs.declared.reply.Reply.TheVariants.{Nothing as no_reply, Reject, Answer}
use Rattle.procedure_stages.specs.declared.stages.Ahead.{Ahead}
use Rattle.procedure_stages.specs.declared.stages.Ahead.TheVariants.{Nothing as nothing_ahead, Update as update_ahead, Map as map_ahead}
use Rattle.procedure_stages.specs.declared.stages.Central.{Central}
use Rattle.procedure_stages.specs.declared.stages.Peripheral.{Peripheral}
use Rattle.procedure_stages.specs.declared.stages.Progress.{Progress}
use Rattle.procedure_stages.specs.declared.stages.Progress.TheVariants.{Central as central, Peripheral as peripheral}
use Rattle.procedure_stages.specs.declared.closing.Closing.{Closing}
use Rattle.procedure_stages.specs.Collisions.{collision}
use Rattle.procedures.specs.Table.{TableFacts, first_facts}
use Rattle.procedure_stages.specs.Queue.{QueueFacts, with_draft, with_reply, without_next, next_by, next_draft, next_disconnect, is_past_instant, is_version_reply}
use Rattle.procedure_stages.specs.Closing.{is_open, is_disconnecting}
use Rattle.procedures.specs.Queue.{next_of}
use Rattle.procedure_stages.specs.procedure_values.Drafts.{waits_for_instant}
use Rattle.procedures.specs.Outcomes.{unchanged, moved, moved_and_answered, rejected, with_effect, with_done}
use Rattle.procedures.specs.Update.{follow, followed, granted, update_begun}
use Rattle.procedure_stages.specs.Awaited.{awaits_features, awaits_lengths, is_own_encryption}
use Rattle.exclusive_stages.specs.Awaited.{reads_as_answer, peer_answered, central_answered, awaits_phy_rsp, has_phy_of_central, awaits_phy_ind}
use Rattle.procedures.specs.Request.{collided, outlived, request_judged}
use Rattle.procedure_stages.specs.procedure_values.Values.{are_valid}
use Rattle.procedures.specs.Phy.{phy_answered}
use Rattle.procedures.specs.Length.{with_lengths}
use Rattle.procedure_stages.specs.Opcodes.{is_opcode, first_opcode, later_opcode}
use Rattle.procedures.specs.Refusals.{refused_if}
use Rattle.procedures.specs.Version.{version_reply}
use Rattle.procedures.specs.Taking.{taken_by_either, taken_by, outcome_of, lacks_room, facts_with}
use Rattle.procedures.specs.Beginning.{facts_begun, begin_at, place_to_begin, ask_at, with_first_draft}
use Rattle.procedure_stages.specs.Begun.{version_draft, feature_draft}
use Rattle.procedures.specs.Calls.{Call, asks, begins_one, takes, sends, is_acked, enters, host_answers, disconnects, is_given, after_call, sent_by, version_count, versions_sent}
use Rattle.procedure_stages.specs.Exclusive.{central_stage, peripheral_stage}

-- ---- a PDU of the peer is answered by LL_VERSION_IND only where that was not queued

abbrev IsSingle : Bool → Outcome → Type 0
IsSingle used outcome = (is_version_reply outcome.reply && used) ≡ false

single_if : (used b : Bool) (x y : Outcome) → IsSingle used x → IsSingle used y → IsSingle used (if b then x else y)
single_if used true x y hx hy = hx
single_if used false x y hx hy = hy

single_collided : (used : Bool) (f : TableFacts) (answered : Bool) (opcode : ℕ) (code : Option ErrCode) (other : Outcome) → IsSingle used other → IsSingle used (collided f answered opcode code other)
single_collided used f answered opcode None other h = h
single_collided used f true opcode (Some code) other h = refl
single_collided used f false opcode (Some code) other h = refl

single_outlived : (used : Bool) (f : TableFacts) (code : Option ErrCode) (other : Outcome) → IsSingle used other → IsSingle used (outlived f code other)
single_outlived used f None other h = h
single_outlived used f (Some code) other h = refl

single_follow : (used : Bool) (f : TableFacts) (waiting new : Ahead) (other : Outcome) → IsSingle used other → IsSingle used (follow f waiting new other)
single_follow used f nothing_ahead new other h = h
single_follow used f update_ahead new other h = refl
single_follow used f map_ahead new other h = refl

single_reply : (used : Bool) → (is_version_reply (version_reply used) && used) ≡ false
single_reply true = refl
single_reply false = refl

single_refused : (used is_one : Bool) (f : TableFacts) (code : ErrCode) → IsSingle used (refused_if is_one f code)
single_refused used true f code = refl
single_refused used false f code = refl

single_either : (f : TableFacts) (ctrl : Ctrl) → IsSingle f.version_used (taken_by_either f ctrl)
single_either f (UnknownRsp opcode) = single_refused f.version_used (is_opcode (first_opcode f.progress) opcode) f (record { 0 = unsupported_remote_feature })
single_either f (FeatureRsp features) =
    single_if f.version_used (awaits_features (own_exchange f.progress))
    (with_done Features (with_effect (PeerFeatures features) (moved f (without_own f.progress)))) (unchanged f) refl refl
single_either f (VersionInd version company sub) = single_reply f.version_used
single_either f (RejectInd code) = single_refused f.version_used (is_some (first_opcode f.progress)) f (record { 0 = code })
single_either f (RejectExtInd opcode code) =
    single_refused f.version_used (is_opcode (first_opcode f.progress) opcode || is_opcode (later_opcode f.progress) opcode) f (record { 0 = code })
single_either f (LengthRsp rx rx_time tx tx_time) =
    single_if f.version_used (awaits_lengths (own_exchange f.progress))
    (with_done Length (with_lengths (with_peer f.lengths rx tx) (moved f (without_own f.progress)))) (unchanged f) refl refl
single_either f other = refl

single_central : (f : TableFacts) (c : Central) (quiet : Bool) (ctrl : Ctrl) → IsSingle f.version_used (taken_by (central c) f quiet ctrl)
single_central f c true (EncRsp skd_s iv_s) = refl
single_central f c false (EncRsp skd_s iv_s) = refl
single_central f c true StartEncReq = refl
single_central f c false StartEncReq = refl
single_central f c true PauseEncRsp = refl
single_central f c false PauseEncRsp = refl
single_central f c true StartEncRsp = refl
single_central f c false StartEncRsp =
    single_if f.version_used (is_own_encryption c.own)
    (with_done Encrypt (moved f (central (record c { own = exclusive Idle })))) (unchanged f) refl refl
single_central f c quiet (ConnectionParamReq min max latency timeout periodicity reference offsets) =
    single_collided f.version_used f (peer_answered (central_stage c.own)) CONNECTION_PARAM_REQ (collision (kind_at_central c.own) Request) (request_judged f c min max latency timeout)
    (single_if f.version_used (are_valid min max latency timeout)
    (with_effect (AskHost min max latency timeout) (moved f (central (record c { peer = HostAsked }))))
    (record (rejected f CONNECTION_PARAM_REQ (record { 0 = invalid_ll_parameters })) { progress = central (record c { peer = Absent }) }) refl refl)
single_central f c quiet (PhyReq tx rx) =
    single_collided f.version_used f (peer_answered (central_stage c.own)) PHY_REQ (collision (kind_at_central c.own) Phy)
    (moved_and_answered f (central (record c { peer = PhyIndUnsent })) PhyInd) refl
single_central f c quiet (PhyRsp tx rx) =
    single_if f.version_used (awaits_phy_rsp (central_stage c.own)) (phy_answered f c) (unchanged f) refl refl
single_central f c quiet (TerminateInd code) = single_either f (TerminateInd code)
single_central f c quiet (UnknownRsp opcode) = single_either f (UnknownRsp opcode)
single_central f c quiet (FeatureRsp features) = single_either f (FeatureRsp features)
single_central f c quiet (VersionInd version company sub) = single_either f (VersionInd version company sub)
single_central f c quiet (RejectInd code) = single_either f (RejectInd code)
single_central f c quiet (RejectExtInd opcode code) = single_either f (RejectExtInd opcode code)
single_central f c quiet (LengthRsp rx rx_time tx tx_time) = single_either f (LengthRsp rx rx_time tx tx_time)
single_central f c quiet other = refl

single_after_grant : (used answered : Bool) (f : TableFacts) (code : Option ErrCode) (other : Outcome) → IsSingle used other
    → IsSingle used (if answered then outlived f code other else other)
single_after_grant used true f code other h = single_outlived used f code other h
single_after_grant used false f code other h = h

single_peripheral : (f : TableFacts) (p : Peripheral) (quiet : Bool) (ctrl : Ctrl) → IsSingle f.version_used (taken_by (peripheral p) f quiet ctrl)
single_peripheral f p quiet (ConnectionUpdateInd win_size win_offset interval latency timeout instant) =
    single_follow f.version_used f p.ahead update_ahead
    (if reads_as_answer (peripheral_stage p.own) then granted f p (update_indication win_offset interval latency timeout instant) else update_begun f p (update_indication win_offset interval latency timeout instant))
    (single_if f.version_used (reads_as_answer (peripheral_stage p.own)) (granted f p (update_indication win_offset interval latency timeout instant)) (update_begun f p (update_indication win_offset interval latency timeout instant)) refl refl)
single_peripheral f p quiet (ChannelMapInd map instant) =
    single_after_grant f.version_used (central_answered (peripheral_stage p.own)) f (collision (kind_at_peripheral p.own) Map)
    (follow f p.ahead map_ahead (followed f (record p { peer = MapTaken }) map_ahead (map_indication map instant)))
    (single_follow f.version_used f p.ahead map_ahead (followed f (record p { peer = MapTaken }) map_ahead (map_indication map instant)) refl)
single_peripheral f p true PauseEncRsp = refl
single_peripheral f p false PauseEncRsp = refl
single_peripheral f p true StartEncRsp = refl
single_peripheral f p false StartEncRsp = refl
single_peripheral f p quiet (PhyReq tx rx) =
    single_after_grant f.version_used (central_answered (peripheral_stage p.own)) f (collision (kind_at_peripheral p.own) Phy)
    (moved_and_answered f (peripheral (record p { peer = PhyRspUnsent })) phy_rsp) refl
single_peripheral f p quiet (PhyUpdateInd to_peripheral to_central instant) = single_ind (has_phy_of_central p.peer) (awaits_phy_ind (peripheral_stage p.own))
  where
    single_ind : (a b : Bool) → IsSingle f.version_used (if a then moved f (peripheral (record p { peer = absent })) else (if b then with_done Phy (moved f (peripheral (record p { own = exclusive_p idle }))) else unchanged f))
    single_ind true b = refl
    single_ind false true = refl
    single_ind false false = refl
single_peripheral f p quiet (TerminateInd code) = single_either f (TerminateInd code)
single_peripheral f p quiet (UnknownRsp opcode) = single_either f (UnknownRsp opcode)
single_peripheral f p quiet (FeatureRsp features) = single_either f (FeatureRsp features)
single_peripheral f p quiet (VersionInd version company sub) = single_either f (VersionInd version company sub)
single_peripheral f p quiet (RejectInd code) = single_either f (RejectInd code)
single_peripheral f p quiet (RejectExtInd opcode code) = single_either f (RejectExtInd opcode code)
single_peripheral f p quiet (LengthRsp rx rx_time tx tx_time) = single_either f (LengthRsp rx rx_time tx tx_time)
single_peripheral f p quiet other = refl

single_by : (progress : Progress) (f : TableFacts) (quiet : Bool) (ctrl : Ctrl) → IsSingle f.version_used (taken_by progress f quiet ctrl)
single_by (central c) f quiet ctrl = single_central f c quiet ctrl
single_by (peripheral p) f quiet ctrl = single_peripheral f p quiet ctrl

single : (f : TableFacts) (quiet : Bool) (read : CtrlRead) → IsSingle f.version_used (outcome_of f quiet read)
single f quiet (Known ctrl) = single_by f.progress f quiet ctrl
single f quiet (Unknown opcode) = refl
single f quiet Bare = refl

-- ---- how many LL_VERSION_IND wait

abbrev one : Draft → ℕ
one draft = version_count (Other draft)

abbrev number_of_versions : List Draft → ℕ
number_of_versions [] = 0
number_of_versions (draft ∷ drafts) = one draft + number_of_versions drafts

versions-push : (drafts : List Draft) (draft : Draft) → number_of_versions (drafts ++ draft ∷ []) ≡ number_of_versions drafts + one draft
versions-push [] draft = omega arith
versions-push (first ∷ drafts) draft = let h = versions-push drafts draft in omega (arith, h)

abbrev used_count : Bool → ℕ
used_count used = if used then 1 else 0

-- what a table has of LL_VERSION_IND may grow only as that is marked as queued
record Keeps (before after sent : ℕ) (used used' : Bool) : Type 0 where
  kept : after + sent + used_count used ≤ before + used_count used'

same : (n : ℕ) (used used' : Bool) → used_count used ≤ used_count used' → Keeps n n 0 used used'
same n used used' h = record { kept = omega (arith, h) }

grows : (a b : Bool) → used_count a ≤ used_count (a || b)
grows true b = omega arith
grows false true = omega arith
grows false false = omega arith

-- a draft is queued, or the link is to end
pushed-by : (b : Bool) (queue : QueueFacts) (draft : Draft) (used used' : Bool) → one draft + used_count used ≤ used_count used'
    → Keeps (number_of_versions queue.drafts) (number_of_versions (if b then record queue { drafts = queue.drafts ++ draft ∷ [] } else queue).drafts) 0 used used'
pushed-by true queue draft used used' h = let k = versions-push queue.drafts draft in record { kept = omega (arith, h, k) }
pushed-by false queue draft used used' h = record { kept = omega (arith, h) }

pushed : (closing : Closing) (queue : QueueFacts) (draft : Draft) (used used' : Bool) → one draft + used_count used ≤ used_count used'
    → Keeps (number_of_versions queue.drafts) (number_of_versions (with_draft closing draft queue).drafts) 0 used used'
pushed closing queue draft used used' h = pushed-by (is_open closing) queue draft used used' h

plain : (a b : Bool) → 0 + used_count a ≤ used_count (a || b)
plain a b = let h = grows a b in omega (arith, h)

refused-by : (b : Bool) (queue : QueueFacts) (rejection : TheRejection) (used used' : Bool) → used_count used ≤ used_count used'
    → Keeps (number_of_versions queue.drafts) (number_of_versions (if b then record queue { rejections = queue.rejections ++ rejection ∷ [] } else queue).drafts) 0 used used'
refused-by true queue rejection used used' h = same _ used used' h
refused-by false queue rejection used used' h = same _ used used' h

ended-by : (b : Bool) (queue : QueueFacts) (code : ErrCode) (used : Bool)
    → Keeps (number_of_versions queue.drafts) (number_of_versions (if b then record queue { disconnect = Some code } else queue).drafts) 0 used used
ended-by true queue code used = same _ used used (omega arith)
ended-by false queue code used = same _ used used (omega arith)

-- the first LL_VERSION_IND
first-by : (b : Bool) (queue : QueueFacts) (used : Bool) → (true && used) ≡ false
    → Keeps (number_of_versions queue.drafts) (number_of_versions (if b then record queue { drafts = queue.drafts ++ version_ind ∷ [] } else queue).drafts) 0 used (used || (true && b))
first-by true queue false once = let k = versions-push queue.drafts version_ind in record { kept = omega (arith, k) }
first-by false queue false once = record { kept = omega arith }
first-by b queue true once = absurd (cc)

-- what is queued for a PDU of the peer
replied : (closing : Closing) (queue : QueueFacts) (reply : Reply) (used : Bool) → (is_version_reply reply && used) ≡ false
    → Keeps (number_of_versions queue.drafts) (number_of_versions (with_reply closing reply queue).drafts) 0 used (used || (is_version_reply reply && is_open closing))
replied closing queue no_reply used once = same _ used _ (grows used false)
replied closing queue (Reject rejection) used once = refused-by (is_open closing) queue rejection used _ (grows used false)
replied closing queue (Answer version_ind) used once = first-by (is_open closing) queue used once
replied closing queue (Answer other) used once = pushed closing queue other used _ (plain used false)

-- ---- call by call

abbrev number_in : TableFacts → ℕ
number_in f = number_of_versions f.queue.drafts

abbrev KeepsIn : TableFacts → TableFacts → ℕ → Type 0
KeepsIn f g sent = Keeps (number_in f) (number_in g) sent f.version_used g.version_used

unmoved : (f : TableFacts) → Keeps (number_of_versions f.queue.drafts) (number_of_versions f.queue.drafts) 0 f.version_used f.version_used
unmoved f = same _ f.version_used f.version_used (omega arith)

began : (f : TableFacts) (slot : ℕ) (ask : Ask) (wanted : List Ask)
    → Keeps (number_of_versions f.queue.drafts) (number_of_versions (facts_begun f slot ask wanted).queue.drafts) 0 f.version_used (facts_begun f slot ask wanted).version_used
began f slot (ask_update interval latency timeout) wanted = pushed f.closing f.queue _ f.version_used _ (plain f.version_used false)
began f slot (ask_request min max latency timeout) wanted = pushed f.closing f.queue _ f.version_used _ (plain f.version_used false)
began f slot (ask_map map) wanted = pushed f.closing f.queue _ f.version_used _ (plain f.version_used false)
began f slot ask_phy wanted = pushed f.closing f.queue _ f.version_used _ (plain f.version_used false)
began f slot ask_features wanted = features (role_of f.progress)
  where
    features : (role : Role) → Keeps (number_of_versions f.queue.drafts) (number_of_versions (with_draft f.closing (feature_draft role) f.queue).drafts) 0 f.version_used (f.version_used || false)
    features central_role = pushed f.closing f.queue _ f.version_used _ (plain f.version_used false)
    features peripheral_role = pushed f.closing f.queue _ f.version_used _ (plain f.version_used false)
began f slot ask_version wanted = versions f.version_used
  where
    versions : (used : Bool) → Keeps (number_of_versions f.queue.drafts) (number_of_versions (with_first_draft f.closing (version_draft used) f.queue).drafts) 0 used (used || true)
    versions true = same _ true true (omega arith)
    versions false = pushed f.closing f.queue version_ind false true (omega arith)
began f slot (ask_length tx) wanted = pushed f.closing f.queue _ f.version_used _ (plain f.version_used false)
began f slot (ask_encrypt rand ediv ltk skd_m iv_m) wanted = same _ f.version_used _ (grows f.version_used false)

began_at : (f : TableFacts) (slot : ℕ) (place : Option ℕ) (ask : Option Ask)
    → Keeps (number_of_versions f.queue.drafts) (number_of_versions (begin_at f slot place ask).0.queue.drafts) 0 f.version_used (begin_at f slot place ask).0.version_used
began_at f slot (Some place) (Some ask) = began f slot ask (remove f.wanted place)
began_at f slot (Some place) None = unmoved f
began_at f slot None ask = unmoved f

abbrev settled_of : Bool → Bool → TableFacts → TableFacts → Step → Step → Step → TableFacts × Step
settled_of a b f g x y z = if a then (f, x) else (if b then (f, y) else (g, z))

took_by : (a b : Bool) (f g : TableFacts) (x y z : Step) → KeepsIn f g 0 → KeepsIn f (settled_of a b f g x y z).0 0
took_by true b f g x y z h = unmoved f
took_by false true f g x y z h = unmoved f
took_by false false f g x y z h = h

drafts_next : (q : QueueFacts) (p : Progress) (event : ℕ) (drafts : List Draft) → q.drafts ≡ drafts
    → number_of_versions (without_next (next_draft p event drafts) q).drafts + version_count (next_draft p event drafts) ≤ number_of_versions q.drafts
drafts_next q p event [] is = omega arith
drafts_next q p event (draft ∷ drafts) is = by (waits_for_instant draft && not (is_past_instant p event))
  where
    by : (b : Bool) → number_of_versions (without_next (if b then Nothing else Other draft) q).drafts + version_count (if b then Nothing else Other draft) ≤ number_of_versions q.drafts
    by true = omega arith
    by false = rw is (omega arith)

sent_by_queue : (q : QueueFacts) (p : Progress) (event : ℕ) (ends : Bool) (rejections : List TheRejection) (disconnect : Option ErrCode)
    → number_of_versions (without_next (next_by rejections (if ends then next_disconnect disconnect else next_draft p event q.drafts)) q).drafts
    + version_count (next_by rejections (if ends then next_disconnect disconnect else next_draft p event q.drafts)) ≤ number_of_versions q.drafts
sent_by_queue q p event ends (rejection ∷ rejections) disconnect = omega arith
sent_by_queue q p event true [] None = omega arith
sent_by_queue q p event true [] (Some code) = omega arith
sent_by_queue q p event false [] disconnect = drafts_next q p event q.drafts refl

sent_keeps : (f : TableFacts) (event : ℕ) (quiet : Bool)
    → Keeps (number_of_versions f.queue.drafts) (number_of_versions (without_next (next_of f event quiet) f.queue).drafts) (version_count (next_of f event quiet)) f.version_used f.version_used
sent_keeps f event quiet =
    let h = sent_by_queue f.queue f.progress event (is_disconnecting f.closing && quiet) f.queue.rejections f.queue.disconnect in
    record { kept = omega (arith, h) }

keeps : (f : TableFacts) (call : Call) → KeepsIn f (after_call f call) (version_count (sent_by f call))
keeps f (asks ask) = unmoved f
keeps f (begins_one slot quiet) = began_at f slot (place_to_begin f quiet) (ask_at (place_to_begin f quiet) f.wanted)
keeps f (takes read slot quiet) =
    took_by (lacks_room f (outcome_of f quiet read)) (is_some (outcome_of f quiet read).step.ends) f
    (facts_with f slot (outcome_of f quiet read)) _ _ _
    (replied f.closing f.queue (outcome_of f quiet read).reply f.version_used (single f quiet read))
keeps f (sends event skips quiet slot) = sent_keeps f event quiet
keeps f is_acked = unmoved f
keeps f (enters true) = unmoved f
keeps f (enters false) = unmoved f
keeps f (host_answers (Ok (ask_update interval latency timeout))) = pushed f.closing f.queue _ f.version_used f.version_used (omega arith)
keeps f (host_answers (Ok other)) = unmoved f
keeps f (host_answers (Err code)) = refused-by (is_open f.closing) f.queue _ f.version_used f.version_used (omega arith)
keeps f (disconnects reason) = ended-by (is_open f.closing) f.queue reason f.version_used
keeps f (is_given ctrl) = pushed f.closing f.queue _ f.version_used f.version_used (omega arith)

at_most_one : (used : Bool) → used_count used ≤ 1
at_most_one true = omega arith
at_most_one false = omega arith

sent_at_most : (f : TableFacts) (calls : List Call) → versions_sent f calls + used_count f.version_used ≤ number_in f + 1
sent_at_most f [] = let h = at_most_one f.version_used in omega (arith, h)
sent_at_most f (call ∷ calls) =
    let rest = sent_at_most (after_call f call) calls in
    let here = (keeps f call).kept in
    omega (arith, rest, here)

pub sent_once : (role : Role) (max_rx : ℕ) (calls : List Call) → versions_sent (first_facts role max_rx) calls ≤ 1
sent_once role max_rx calls = let h = sent_at_most (first_facts role max_rx) calls in omega (arith, h)
