-- Which control PDUs wait at an end, by its role, call by call on its table.
use Rattle.std.proofs.Common.{◌≡◌, ℕ, Bool, true, false, not, ◌&&◌, if◌then◌else◌, List, [], ◌∷◌, ◌++◌, remove, Option, Some, None, is_some, Result, Ok, Err, refl, sym, ◌∙◌, subst}
use Rattle.std.specs.Bool.{⊤}
use Rattle.std.specs.List.{AllByRecursion}
use Rattle.ble_base.specs.ErrorCodes.{invalid_ll_parameters}
use Rattle.ble_base.specs.declared.error_codes.ErrCode.{ErrCode}
use Rattle.ble_base.specs.declared.procedure_kinds.Kind.TheVariants.{Phy}
use Rattle.ble_base.specs.declared.roles.Role.{Role}
use Rattle.ble_base.specs.declared.roles.Role.TheVariants.{Central as central_role, Peripheral as peripheral_role}
use Rattle.data_pdu.specs.declared.ctrl.Ctrl.{Ctrl}
use Rattle.data_pdu.specs.declared.ctrl.Ctrl.TheVariants.{ChannelMapInd, ConnectionParamReq, ConnectionUpdateInd, EncRsp, FeatureRsp as ctrl_feature_rsp, LengthReq as ctrl_length_req, LengthRsp as ctrl_length_rsp, PauseEncRsp, PhyReq as ctrl_phy_req, PhyRsp as ctrl_phy_rsp, PhyUpdateInd, RejectExtInd, RejectInd, StartEncReq, StartEncRsp, TerminateInd, UnknownRsp as ctrl_unknown_rsp, VersionInd as ctrl_version_ind}
use Rattle.data_pdu.specs.declared.ctrl.CtrlRead.{CtrlRead}
use Rattle.data_pdu.specs.declared.ctrl.CtrlRead.TheVariants.{Bare, Known, Unknown}
use Rattle.exchange_steps.specs.procedure_values.declared.asks.Ask.{Ask}
use Rattle.exchange_steps.specs.procedure_values.declared.asks.Ask.TheVariants.{Update as ask_update, Request as ask_request, Map as ask_map, Phy as ask_phy, Features as ask_features, Version as ask_version, Length as ask_length, Encrypt as ask_encrypt}
use Rattle.exchange_steps.specs.procedure_values.declared.drafts.Draft.{Draft}
use Rattle.exchange_steps.specs.procedure_values.declared.drafts.Draft.TheVariants.{Cipher, FeatureReq, FeatureRsp, Grant, LengthRsp, PeripheralFeatureReq, PhyInd, PhyRsp, UnknownRsp, VersionInd}
use Rattle.exchange_steps.specs.procedure_values.declared.drafts.Rejection.{Rejection as TheRejection}
use Rattle.exchange_steps.specs.procedure_values.declared.drafts.Outgoing.{Outgoing}
use Rattle.exchange_steps.specs.procedure_values.declared.drafts.Outgoing.TheVariants.{Disconnect, Nothing, Other, Rejection}
use Rattle.exchange_steps.specs.procedure_values.Asks.{kind_of_ask}
use Rattle.exchange_steps.specs.procedure_values.Drafts.{waits_for_instant}
use Rattle.exchange_steps.specs.procedure_values.Values.{are_valid}
use Rattle.exchange_steps.specs.procedure_stages.declared.reply.Reply.{Reply}
use Rattle.exchange_steps.specs.procedure_stages.declared.reply.Reply.TheVariants.{Nothing as no_reply, Reject, Answer}
use Rattle.exchange_steps.specs.procedure_stages.declared.stages.Ahead.{Ahead}
use Rattle.exchange_steps.specs.procedure_stages.declared.stages.Central.{Central}
use Rattle.exchange_steps.specs.procedure_stages.declared.stages.Peripheral.{Peripheral}
use Rattle.exchange_steps.specs.procedure_stages.declared.stages.Progress.{Progress}
use Rattle.exchange_steps.specs.procedure_stages.declared.stages.Progress.TheVariants.{Central as central, Peripheral as peripheral}
use Rattle.exchange_steps.specs.procedure_stages.declared.steps.Step.{Step}
use Rattle.exclusive_stages.specs.declared.stages.PeerAtCentral.TheVariants.{Absent, HostAsked, PhyIndUnsent}
use Rattle.exclusive_stages.specs.declared.stages.PeerAtPeripheral.TheVariants.{PhyRspUnsent}
use Rattle.exclusive_stages.specs.Awaited.{awaits_phy_ind, awaits_phy_rsp, central_answered, has_phy_of_central, peer_answered, reads_as_answer}
use Rattle.exchange_steps.specs.procedure_stages.declared.steps.Effect.TheVariants.{AskHost}
use Rattle.exchange_steps.specs.procedure_stages.Awaited.{awaits_features, awaits_lengths, is_own_encryption}
use Rattle.exchange_steps.specs.procedure_stages.Acked.{progress_acked}
use Rattle.exchange_steps.specs.procedure_stages.Begun.{progress_begun, version_draft}
use Rattle.exchange_steps.specs.procedure_stages.Held.{progress_held}
use Rattle.exchange_steps.specs.procedure_stages.InProgress.{is_host_asked}
use Rattle.exchange_steps.specs.procedure_stages.Sent.{progress_after_sending}
use Rattle.exchange_steps.specs.procedure_stages.Closing.{is_disconnecting, is_open}
use Rattle.exchange_steps.specs.procedure_stages.Exclusive.{central_stage, peripheral_stage}
use Rattle.exchange_steps.specs.procedure_stages.Collisions.{collision}
use Rattle.exchange_steps.specs.procedure_stages.Kinds.{begins, kind_at_central, kind_at_peripheral, own_exchange, role_of}
use Rattle.exchange_steps.specs.procedure_stages.Foreign.{is_foreign}
use Rattle.exchange_steps.specs.procedure_stages.Opcodes.{connection_param_req_opcode, phy_req_opcode}
use Rattle.exchange_steps.specs.procedure_stages.Queue.{QueueFacts, is_past_instant, next_by, next_disconnect, next_draft, with_draft, with_rejection, with_reply, without_next}
use Rattle.exchange_steps.specs.procedures.declared.outcome.Outcome.{Outcome}
use Rattle.exchange_steps.specs.procedures.Beginning.{ask_at, ask_step, begin_at, begin_step, facts_begun, first_draft, place_to_begin, with_first_draft}
use Rattle.exchange_steps.specs.procedures.Encryption.{is_rejection, progress_given}
use Rattle.exchange_steps.specs.procedures.Going.{entered_step, host_answer_step, owe_step, terminate_step}
use Rattle.exchange_steps.specs.procedures.Outcomes.{ended, moved, moved_and_answered, rejected, unchanged, with_effect}
use Rattle.exchange_steps.specs.procedures.Queue.{next_of}
use Rattle.exchange_steps.specs.procedures.Refusals.{refused}
use Rattle.exchange_steps.specs.procedures.Request.{collided, outlived, request_judged}
use Rattle.exchange_steps.specs.procedures.Sending.{acked_step, went_step}
use Rattle.exchange_steps.specs.procedures.Table.{TableFacts}
use Rattle.exchange_steps.specs.procedures.Taking.{facts_with, lacks_room, outcome_of, taken_by_role, taken_by, taken_by_central, taken_by_either, taken_by_peripheral, took_step}
use Rattle.exchange_steps.specs.procedures.Update.{follow}
use Rattle.exchange_steps.specs.procedures.Version.{version_reply}
use Rattle.joint_controls.proofs.table_laws.Begun.{begins_of}
use Rattle.joint_controls.proofs.table_laws.Outcomes.{Took, is_reply, took}
use Rattle.joint_exchanges.specs.SentByRole.{IsTableOf, is_cipher_of, is_cipher_opcode, is_draft_of, is_outgoing_of, is_rejection_of}

abbrev pub AreDrafts : Bool → Role → List Draft → Type 0
AreDrafts unknowns role drafts = AllByRecursion (λ (draft : Draft). is_draft_of unknowns role draft ≡ true) drafts

abbrev pub AreRejections : Role → List TheRejection → Type 0
AreRejections role rejections = AllByRecursion (λ (rejection : TheRejection). is_rejection_of role rejection ≡ true) rejections

push : {X : Type 0} (P : X → Type 0) (xs : List X) (x : X) → AllByRecursion P xs → P x → AllByRecursion P (xs ++ x ∷ [])
push P [] x all h = (h, all)
push P (first ∷ xs) x all h = (all.0, push P xs x all.1 h)

module _ (unknowns : Bool) (role : Role) where
  with_drafts : (b : Bool) (queue : QueueFacts) (draft : Draft) → AreDrafts unknowns role queue.drafts → (b ≡ true → is_draft_of unknowns role draft ≡ true)
      → AreDrafts unknowns role (if b then record queue { drafts = queue.drafts ++ draft ∷ [] } else queue).drafts
  with_drafts true queue draft all is = push (λ (d : Draft). is_draft_of unknowns role d ≡ true) queue.drafts draft all (is refl)
  with_drafts false queue draft all is = all

  same_rejections : (b : Bool) (queue : QueueFacts) (draft : Draft) → AreRejections role queue.rejections
      → AreRejections role (if b then record queue { drafts = queue.drafts ++ draft ∷ [] } else queue).rejections
  same_rejections true queue draft all = all
  same_rejections false queue draft all = all

  with_rejections : (b : Bool) (queue : QueueFacts) (rejection : TheRejection) → AreRejections role queue.rejections → is_rejection_of role rejection ≡ true
      → AreRejections role (if b then record queue { rejections = queue.rejections ++ rejection ∷ [] } else queue).rejections
  with_rejections true queue rejection all is = push (λ (r : TheRejection). is_rejection_of role r ≡ true) queue.rejections rejection all is
  with_rejections false queue rejection all is = all

  same_drafts : (b : Bool) (queue : QueueFacts) (rejection : TheRejection) → AreDrafts unknowns role queue.drafts
      → AreDrafts unknowns role (if b then record queue { rejections = queue.rejections ++ rejection ∷ [] } else queue).drafts
  same_drafts true queue rejection all = all
  same_drafts false queue rejection all = all

  ended_queue : (b : Bool) (queue : QueueFacts) (code : ErrCode) (P : List TheRejection → List Draft → Type 0) → P queue.rejections queue.drafts
      → P (if b then record queue { disconnect = Some code } else queue).rejections (if b then record queue { disconnect = Some code } else queue).drafts
  ended_queue true queue code P h = h
  ended_queue false queue code P h = h

  -- a call that queues a draft, nothing, or a rejection
  pub queues : (f g : TableFacts) (draft : Draft) → IsTableOf unknowns role f → role_of g.progress ≡ role → g.queue ≡ with_draft f.closing draft f.queue
      → (is_open f.closing ≡ true → is_draft_of unknowns role draft ≡ true) → IsTableOf unknowns role g
  queues f g draft s r is of_role =
      record {
        same_role = r;
        rejections = rw is (same_rejections (is_open f.closing) f.queue draft s.rejections);
        drafts = rw is (with_drafts (is_open f.closing) f.queue draft s.drafts of_role);
      }

  pub queues_none : (f g : TableFacts) → IsTableOf unknowns role f → role_of g.progress ≡ role → g.queue ≡ f.queue → IsTableOf unknowns role g
  queues_none f g s r is = record { same_role = r; rejections = rw is s.rejections; drafts = rw is s.drafts }

  pub rejects : (f g : TableFacts) (rejection : TheRejection) → IsTableOf unknowns role f → role_of g.progress ≡ role
      → g.queue ≡ with_rejection f.closing rejection f.queue → is_rejection_of role rejection ≡ true → IsTableOf unknowns role g
  rejects f g rejection s r is of_role =
      record {
        same_role = r;
        rejections = rw is (with_rejections (is_open f.closing) f.queue rejection s.rejections of_role);
        drafts = rw is (same_drafts (is_open f.closing) f.queue rejection s.drafts);
      }

  pub disconnects_keeps : (f : TableFacts) (code : ErrCode) (g : TableFacts) → IsTableOf unknowns role f → g.progress ≡ f.progress
      → g.queue ≡ (if is_open f.closing then record f.queue { disconnect = Some code } else f.queue) → IsTableOf unknowns role g
  disconnects_keeps f code g s p is =
      record {
        same_role = rw p s.same_role;
        rejections = rw is (ended_queue (is_open f.closing) f.queue code (λ rejections drafts. AreRejections role rejections) s.rejections);
        drafts = rw is (ended_queue (is_open f.closing) f.queue code (λ rejections drafts. AreDrafts unknowns role drafts) s.drafts);
      }

  -- ---- what is sent leaves the queue

  draft_goes : (queue : QueueFacts) (draft : Draft) (rest : List Draft) → queue.drafts ≡ draft ∷ rest → AreDrafts unknowns role queue.drafts → AreDrafts unknowns role (remove queue.drafts 0)
  draft_goes queue draft rest is all = let split : AreDrafts unknowns role (draft ∷ rest) = subst (AreDrafts unknowns role) is all in rw is split.1

  rejection_goes : (queue : QueueFacts) (rejection : TheRejection) (rest : List TheRejection) → queue.rejections ≡ rejection ∷ rest
      → AreRejections role queue.rejections → AreRejections role (remove queue.rejections 0)
  rejection_goes queue rejection rest is all = let split : AreRejections role (rejection ∷ rest) = subst (AreRejections role) is all in rw is split.1

  pub record Goes (queue : QueueFacts) (outgoing : Outgoing) : Type 0 where
    pub rejections : AreRejections role (without_next outgoing queue).rejections
    pub drafts : AreDrafts unknowns role (without_next outgoing queue).drafts
    pub right : is_outgoing_of unknowns role outgoing ≡ true

  module _ (queue : QueueFacts) (rs : AreRejections role queue.rejections) (ds : AreDrafts unknowns role queue.drafts) where
    none_goes : Goes queue Nothing
    none_goes = record { rejections = rs; drafts = ds; right = refl }

    by_draft : (draft : Draft) (rest : List Draft) (b : Bool) → queue.drafts ≡ draft ∷ rest → Goes queue (if b then Nothing else Other draft)
    by_draft draft rest true is = none_goes
    by_draft draft rest false is =
        let split : AreDrafts unknowns role (draft ∷ rest) = subst (AreDrafts unknowns role) is ds in
        record { rejections = rs; drafts = draft_goes queue draft rest is ds; right = split.0 }

    by_drafts : (progress : Progress) (event : ℕ) (drafts : List Draft) → queue.drafts ≡ drafts → Goes queue (next_draft progress event drafts)
    by_drafts progress event [] is = none_goes
    by_drafts progress event (draft ∷ rest) is = by_draft draft rest (waits_for_instant draft && not (is_past_instant progress event)) is

    by_disconnect : (disconnect : Option ErrCode) → Goes queue (next_disconnect disconnect)
    by_disconnect None = none_goes
    by_disconnect (Some code) = record { rejections = rs; drafts = ds; right = refl }

    by_other : (progress : Progress) (event : ℕ) (b : Bool) → Goes queue (if b then next_disconnect queue.disconnect else next_draft progress event queue.drafts)
    by_other progress event true = by_disconnect queue.disconnect
    by_other progress event false = by_drafts progress event queue.drafts refl

    by_rejections : (rejections : List TheRejection) (other : Outgoing) → queue.rejections ≡ rejections → Goes queue other → Goes queue (next_by rejections other)
    by_rejections [] other is h = h
    by_rejections (rejection ∷ rest) other is h =
        let split : AreRejections role (rejection ∷ rest) = subst (AreRejections role) is rs in
        record { rejections = rejection_goes queue rejection rest is rs; drafts = ds; right = split.0 }

  pub next_goes : (f : TableFacts) (event : ℕ) (quiet : Bool) → IsTableOf unknowns role f → Goes f.queue (next_of f event quiet)
  next_goes f event quiet s =
      by_rejections f.queue s.rejections s.drafts f.queue.rejections _ refl
      (by_other f.queue s.rejections s.drafts f.progress event (is_disconnecting f.closing && quiet))

-- ---- what answers a PDU: LL_UNKNOWN_RSP only for a PDU of the encryption

abbrev IsKnownReply : Bool → Reply → Type 0
IsKnownReply unknowns (Answer (UnknownRsp opcode)) = (unknowns && is_cipher_opcode opcode) ≡ true
IsKnownReply unknowns reply = ⊤

-- a PDU that has a meaning here
abbrev pub IsKnownAt : Role → Ctrl → Type 0
IsKnownAt role ctrl = is_foreign role ctrl ≡ false

-- what is read comes from the other end, or has no meaning here
abbrev pub IsKnownRead : Bool → Role → CtrlRead → Type 0
IsKnownRead unknowns role (Known ctrl) = IsKnownAt role ctrl
IsKnownRead unknowns role (Unknown opcode) = (unknowns && is_cipher_opcode opcode) ≡ true
IsKnownRead unknowns role Bare = ⊤

choice : {A : Type 0} (P : A → Type 0) (b : Bool) (x y : A) → P x → P y → P (if b then x else y)
choice P true x y hx hy = hx
choice P false x y hx hy = hy

module _ (unknowns : Bool) (f : TableFacts) where
  abbrev K : Outcome → Type 0
  K o = IsKnownReply unknowns o.reply

  either_known : (ctrl : Ctrl) → K (taken_by_either f ctrl)
  either_known (TerminateInd code) = tt
  either_known (ctrl_unknown_rsp opcode) = choice K _ (refused f _) (unchanged f) tt tt
  either_known (ctrl_feature_rsp features) = choice K (awaits_features (own_exchange f.progress)) _ (unchanged f) tt tt
  either_known (ctrl_version_ind version company sub) = by f.version_used
    where
      by : (used : Bool) → IsKnownReply unknowns (version_reply used)
      by true = tt
      by false = tt
  either_known (RejectInd code) = choice K _ (refused f _) (unchanged f) tt tt
  either_known (RejectExtInd opcode code) = choice K _ (refused f _) (unchanged f) tt tt
  either_known (ctrl_length_req rx rx_time tx tx_time) = tt
  either_known (ctrl_length_rsp rx rx_time tx tx_time) = choice K (awaits_lengths (own_exchange f.progress)) _ (unchanged f) tt tt
  either_known ctrl = tt

  collided_known : (answered : Bool) (opcode : ℕ) (code : Option ErrCode) (other : Outcome) → K other → K (collided f answered opcode code other)
  collided_known answered opcode None other h = h
  collided_known answered opcode (Some code) other h = choice K answered (ended f code) (rejected f opcode code) tt tt

  outlived_known : (code : Option ErrCode) (other : Outcome) → K other → K (outlived f code other)
  outlived_known None other h = h
  outlived_known (Some code) other h = tt

  follow_known : (ahead new : Ahead) (o : Outcome) → K o → K (follow f ahead new o)
  follow_known Ahead.Nothing new o h = h
  follow_known Ahead.Update new o h = tt
  follow_known Ahead.Map new o h = tt

  judged_known : (c : Central) (min max latency timeout : ℕ) → K (request_judged f c min max latency timeout)
  judged_known c min max latency timeout = by (are_valid min max latency timeout)
    where
      by : (b : Bool) → K (if b then with_effect (AskHost min max latency timeout) (moved f (central (record c { peer = HostAsked })))
          else record (rejected f connection_param_req_opcode (record { 0 = invalid_ll_parameters })) { progress = central (record c { peer = Absent }) })
      by true = tt
      by false = tt

  central_known : (c : Central) (quiet : Bool) (ctrl : Ctrl) → K (taken_by_central f c quiet ctrl)
  central_known c quiet (EncRsp skd_s iv_s) = choice K quiet (unchanged f) _ tt tt
  central_known c quiet StartEncReq = choice K quiet (unchanged f) _ tt tt
  central_known c quiet PauseEncRsp = choice K quiet (unchanged f) _ tt tt
  central_known c quiet StartEncRsp = choice K quiet (unchanged f) _ tt (choice K (is_own_encryption c.own) _ (unchanged f) tt tt)
  central_known c quiet (ConnectionParamReq min max latency timeout periodicity reference offsets) =
      collided_known _ _ _ _ (judged_known c min max latency timeout)
  central_known c quiet (ctrl_phy_req tx rx) =
      collided_known (peer_answered (central_stage c.own)) phy_req_opcode (collision (kind_at_central c.own) Phy)
      (moved_and_answered f (central (record c { peer = PhyIndUnsent })) PhyInd) tt
  central_known c quiet (ctrl_phy_rsp tx rx) = choice K (awaits_phy_rsp (central_stage c.own)) _ (unchanged f) tt tt
  central_known c quiet (TerminateInd code) = either_known (TerminateInd code)
  central_known c quiet (ctrl_unknown_rsp opcode) = either_known (ctrl_unknown_rsp opcode)
  central_known c quiet (ctrl_feature_rsp features) = either_known (ctrl_feature_rsp features)
  central_known c quiet (ctrl_version_ind version company sub) = either_known (ctrl_version_ind version company sub)
  central_known c quiet (RejectInd code) = either_known (RejectInd code)
  central_known c quiet (RejectExtInd opcode code) = either_known (RejectExtInd opcode code)
  central_known c quiet (ctrl_length_rsp rx rx_time tx tx_time) = either_known (ctrl_length_rsp rx rx_time tx tx_time)
  central_known c quiet ctrl = tt

  peripheral_known : (p : Peripheral) (quiet : Bool) (ctrl : Ctrl) → K (taken_by_peripheral f p quiet ctrl)
  peripheral_known p quiet (ConnectionUpdateInd win_size win_offset interval latency timeout instant) =
      follow_known p.ahead _ _ (choice K (reads_as_answer (peripheral_stage p.own)) _ _ tt tt)
  peripheral_known p quiet (ChannelMapInd map instant) = choice K (central_answered (peripheral_stage p.own)) _ _ (outlived_known _ _ (follow_known p.ahead _ _ tt)) (follow_known p.ahead _ _ tt)
  peripheral_known p quiet PauseEncRsp = choice K quiet (unchanged f) _ tt tt
  peripheral_known p quiet StartEncRsp = choice K quiet (unchanged f) _ tt tt
  peripheral_known p quiet (ctrl_phy_req tx rx) =
      choice K (central_answered (peripheral_stage p.own)) _ _
      (outlived_known (collision (kind_at_peripheral p.own) Phy) (moved_and_answered f (peripheral (record p { peer = PhyRspUnsent })) PhyRsp) tt) tt
  peripheral_known p quiet (PhyUpdateInd to_peripheral to_central instant) =
      choice K (has_phy_of_central p.peer) _ _ tt (choice K (awaits_phy_ind (peripheral_stage p.own)) _ (unchanged f) tt tt)
  peripheral_known p quiet (TerminateInd code) = either_known (TerminateInd code)
  peripheral_known p quiet (ctrl_unknown_rsp opcode) = either_known (ctrl_unknown_rsp opcode)
  peripheral_known p quiet (ctrl_feature_rsp features) = either_known (ctrl_feature_rsp features)
  peripheral_known p quiet (ctrl_version_ind version company sub) = either_known (ctrl_version_ind version company sub)
  peripheral_known p quiet (RejectInd code) = either_known (RejectInd code)
  peripheral_known p quiet (RejectExtInd opcode code) = either_known (RejectExtInd opcode code)
  peripheral_known p quiet (ctrl_length_rsp rx rx_time tx tx_time) = either_known (ctrl_length_rsp rx rx_time tx tx_time)
  peripheral_known p quiet ctrl = tt

  role_known : (p : Progress) (quiet : Bool) (ctrl : Ctrl) → K (taken_by_role p f quiet ctrl)
  role_known (central c) quiet ctrl = central_known c quiet ctrl
  role_known (peripheral p) quiet ctrl = peripheral_known p quiet ctrl

  by_progress : (p : Progress) (quiet : Bool) (ctrl : Ctrl) → IsKnownAt (role_of p) ctrl → K (taken_by p f quiet ctrl)
  by_progress p quiet ctrl is = rw is (role_known p quiet ctrl)

  read_known : (quiet : Bool) (read : CtrlRead) → IsKnownRead unknowns (role_of f.progress) read → K (outcome_of f quiet read)
  read_known quiet (Known ctrl) is = by_progress f.progress quiet ctrl is
  read_known quiet (Unknown opcode) is = is
  read_known quiet Bare is = tt

answer_of : (unknowns : Bool) (role : Role) (used : Bool) (draft : Draft) → is_reply role used (Answer draft) ≡ true → IsKnownReply unknowns (Answer draft) → is_draft_of unknowns role draft ≡ true
answer_of unknowns central_role used VersionInd is known = refl
answer_of unknowns peripheral_role used VersionInd is known = refl
answer_of unknowns central_role used FeatureRsp is known = refl
answer_of unknowns peripheral_role used FeatureRsp is known = refl
answer_of unknowns central_role used (LengthRsp rx tx) is known = refl
answer_of unknowns peripheral_role used (LengthRsp rx tx) is known = refl
answer_of unknowns central_role used (UnknownRsp opcode) is known = known
answer_of unknowns peripheral_role used (UnknownRsp opcode) is known = known
answer_of unknowns central_role used PhyInd is known = refl
answer_of unknowns peripheral_role used PhyRsp is known = refl
answer_of unknowns role used draft is known = absurd (cc)

rejection_of : (role : Role) (used : Bool) (rejection : TheRejection) → is_reply role used (Reject rejection) ≡ true → is_rejection_of role rejection ≡ true
rejection_of central_role used rejection h = h
rejection_of peripheral_role used rejection h = absurd (cc)

replies : (unknowns : Bool) (role : Role) (f g : TableFacts) (used : Bool) (reply : Reply) → IsTableOf unknowns role f → role_of g.progress ≡ role
    → g.queue ≡ with_reply f.closing reply f.queue → is_reply role used reply ≡ true → IsKnownReply unknowns reply → IsTableOf unknowns role g
replies unknowns role f g used no_reply s r is h known = queues_none unknowns role f g s r is
replies unknowns role f g used (Reject rejection) s r is h known = rejects unknowns role f g rejection s r is (rejection_of role used rejection h)
replies unknowns role f g used (Answer draft) s r is h known = queues unknowns role f g draft s r is (λ lasts. answer_of unknowns role used draft h known)

abbrev settled_of : Bool → Bool → TableFacts → TableFacts → Step → Step → Step → TableFacts × Step
settled_of a b f g x y z = if a then (f, x) else (if b then (f, y) else (g, z))

settled_by : (unknowns : Bool) (role : Role) (a b : Bool) (f g : TableFacts) (x y z : Step) → IsTableOf unknowns role f → IsTableOf unknowns role g → IsTableOf unknowns role (settled_of a b f g x y z).0
settled_by unknowns role true b f g x y z s next = s
settled_by unknowns role false true f g x y z s next = s
settled_by unknowns role false false f g x y z s next = next

pub takes_keeps : (unknowns : Bool) (role : Role) (f : TableFacts) (read : CtrlRead) (slot : ℕ) (quiet : Bool) → IsTableOf unknowns role f → IsKnownRead unknowns role read
    → IsTableOf unknowns role (took_step f read slot quiet).0
takes_keeps unknowns role f read slot quiet s known =
    settled_by unknowns role (lacks_room f o) (is_some o.step.ends) f (facts_with f slot o) _ _ _ s
    (replies unknowns role f (facts_with f slot o) f.version_used o.reply s (t.role ∙ s.same_role) refl
    (subst (λ (r : Role). is_reply r f.version_used o.reply ≡ true) s.same_role t.reply)
    (read_known unknowns f quiet read (subst (λ (r : Role). IsKnownRead unknowns r read) (sym s.same_role) known)))
  where
    o : Outcome
    o = outcome_of f quiet read

    t : Took f.progress f.version_used o
    t = took f quiet read

-- ---- the other calls

begun_role : (ask : Ask) (used : Bool) (p : Progress) → role_of (progress_begun ask used p) ≡ role_of p
begun_role ask used (central c) = refl
begun_role ask used (peripheral p) = refl

first_of : (unknowns : Bool) (role : Role) (f : TableFacts) (ask : Ask) (g : TableFacts) → IsTableOf unknowns role f → role_of f.progress ≡ role → role_of g.progress ≡ role → begins role (kind_of_ask ask) ≡ true
    → g.queue ≡ with_first_draft f.closing (first_draft f ask) f.queue → IsTableOf unknowns role g
first_of unknowns central_role f (ask_update interval latency timeout) g s here r may is = queues unknowns central_role f g _ s r is (λ lasts. refl)
first_of unknowns central_role f (ask_map map) g s here r may is = queues unknowns central_role f g _ s r is (λ lasts. refl)
first_of unknowns central_role f ask_phy g s here r may is = queues unknowns central_role f g _ s r is (λ lasts. refl)
first_of unknowns central_role f ask_features g s here r may is = queues unknowns central_role f g FeatureReq s r (is ∙ (rw here refl)) (λ lasts. refl)
first_of unknowns central_role f (ask_length tx) g s here r may is = queues unknowns central_role f g _ s r is (λ lasts. refl)
first_of unknowns central_role f (ask_request min max latency timeout) g s here r may is = absurd (cc)
first_of unknowns central_role f (ask_encrypt rand ediv ltk skd_m iv_m) g s here r may is = queues_none unknowns central_role f g s r is
first_of unknowns peripheral_role f (ask_request min max latency timeout) g s here r may is = queues unknowns peripheral_role f g _ s r is (λ lasts. refl)
first_of unknowns peripheral_role f ask_phy g s here r may is = queues unknowns peripheral_role f g _ s r is (λ lasts. refl)
first_of unknowns peripheral_role f ask_features g s here r may is = queues unknowns peripheral_role f g PeripheralFeatureReq s r (is ∙ (rw here refl)) (λ lasts. refl)
first_of unknowns peripheral_role f (ask_length tx) g s here r may is = queues unknowns peripheral_role f g _ s r is (λ lasts. refl)
first_of unknowns peripheral_role f (ask_update interval latency timeout) g s here r may is = absurd (cc)
first_of unknowns peripheral_role f (ask_map map) g s here r may is = absurd (cc)
first_of unknowns peripheral_role f (ask_encrypt rand ediv ltk skd_m iv_m) g s here r may is = absurd (cc)
first_of unknowns role f ask_version g s here r may is = by f.version_used is
  where
    of_version : (role : Role) → is_draft_of unknowns role VersionInd ≡ true
    of_version central_role = refl
    of_version peripheral_role = refl

    by : (used : Bool) → g.queue ≡ with_first_draft f.closing (version_draft used) f.queue → IsTableOf unknowns role g
    by true is = queues_none unknowns role f g s r is
    by false is = queues unknowns role f g VersionInd s r is (λ lasts. of_version role)

begin_by : (unknowns : Bool) (role : Role) (f : TableFacts) (slot : ℕ) (quiet : Bool) (place : Option ℕ) (ask : Option Ask) → IsTableOf unknowns role f
    → place_to_begin f quiet ≡ place → ask_at place f.wanted ≡ ask → IsTableOf unknowns role (begin_at f slot place ask).0
begin_by unknowns role f slot quiet None ask s p a = s
begin_by unknowns role f slot quiet (Some place) None s p a = s
begin_by unknowns role f slot quiet (Some place) (Some ask) s p a =
    let may = begins_of f quiet place ask p a in
    first_of unknowns role f ask (facts_begun f slot ask (remove f.wanted place)) s s.same_role
    (begun_role ask f.version_used f.progress ∙ s.same_role)
    (subst (λ (r : Role). begins r (kind_of_ask ask) ≡ true) s.same_role may.role) refl

pub begins_keeps : (unknowns : Bool) (role : Role) (f : TableFacts) (slot : ℕ) (quiet : Bool) → IsTableOf unknowns role f → IsTableOf unknowns role (begin_step f slot quiet).0
begins_keeps unknowns role f slot quiet s = begin_by unknowns role f slot quiet _ _ s refl refl

answers_one : (unknowns : Bool) (role : Role) (f : TableFacts) (p : Progress) (answer : Result Ask ErrCode) → IsTableOf unknowns role (record f { progress = p }) → is_host_asked p ≡ true
    → IsTableOf unknowns role (host_answer_step (record f { progress = p }) answer)
answers_one unknowns central_role f (central c) (Ok (ask_update interval latency timeout)) s h = queues unknowns central_role (record f { progress = central c }) _ (Grant (record { interval = interval; latency = latency; timeout = timeout })) s refl refl (λ lasts. refl)
answers_one unknowns central_role f (central c) (Ok (ask_request min max latency timeout)) s h = s
answers_one unknowns central_role f (central c) (Ok (ask_map map)) s h = s
answers_one unknowns central_role f (central c) (Ok ask_phy) s h = s
answers_one unknowns central_role f (central c) (Ok ask_features) s h = s
answers_one unknowns central_role f (central c) (Ok ask_version) s h = s
answers_one unknowns central_role f (central c) (Ok (ask_length tx)) s h = s
answers_one unknowns central_role f (central c) (Ok (ask_encrypt rand ediv ltk skd_m iv_m)) s h = s
answers_one unknowns central_role f (central c) (Err code) s h = rejects unknowns central_role (record f { progress = central c }) _ (record { opcode = connection_param_req_opcode; code = code }) s refl refl refl
answers_one unknowns peripheral_role f (central c) answer s h = absurd (let r = s.same_role in cc)
answers_one unknowns role f (peripheral p) answer s h = absurd (cc)

pub answers_keeps : (unknowns : Bool) (role : Role) (f : TableFacts) (answer : Result Ask ErrCode) → IsTableOf unknowns role f → is_host_asked f.progress ≡ true
    → IsTableOf unknowns role (host_answer_step f answer)
answers_keeps unknowns role f answer s h = answers_one unknowns role f f.progress answer s h

acked_role : (out : Outgoing) (p : Progress) → role_of (progress_acked out p) ≡ role_of p
acked_role out (central c) = refl
acked_role out (peripheral p) = refl

held_role : (p : Progress) → role_of (progress_held p) ≡ role_of p
held_role (central c) = refl
held_role (peripheral p) = refl

given_role : (p : Progress) (ctrl : Ctrl) → role_of (progress_given p ctrl) ≡ role_of p
given_role (central c) ctrl = refl
given_role (peripheral p) ctrl = by (is_rejection ctrl)
  where
    by : (b : Bool) → role_of (if b then peripheral (record p { encrypting = false }) else peripheral p) ≡ peripheral_role
    by true = refl
    by false = refl

sent_role : (outgoing : Outgoing) (event skips : ℕ) (p : Progress) → role_of (progress_after_sending outgoing event skips p) ≡ role_of p
sent_role (Other draft) event skips (central c) = refl
sent_role (Other draft) event skips (peripheral p) = refl
sent_role Nothing event skips p = refl
sent_role (Rejection rejection) event skips p = refl
sent_role (Disconnect code) event skips p = refl

pub acked_keeps : (unknowns : Bool) (role : Role) (f : TableFacts) → IsTableOf unknowns role f → IsTableOf unknowns role (acked_step f).0
acked_keeps unknowns role f s = queues_none unknowns role f _ s (acked_role f.out f.progress ∙ s.same_role) refl

pub entered_keeps : (unknowns : Bool) (role : Role) (f : TableFacts) (applied : Bool) → IsTableOf unknowns role f → IsTableOf unknowns role (entered_step f applied).0
entered_keeps unknowns role f true s = queues_none unknowns role f _ s (held_role f.progress ∙ s.same_role) refl
entered_keeps unknowns role f false s = s

cipher_draft : (unknowns : Bool) (role : Role) (ctrl : Ctrl) → is_cipher_of role ctrl ≡ true → is_draft_of unknowns role (Cipher ctrl) ≡ true
cipher_draft unknowns central_role ctrl is = is
cipher_draft unknowns peripheral_role ctrl is = is

pub owes_keeps : (unknowns : Bool) (role : Role) (f : TableFacts) (ctrl : Ctrl) → IsTableOf unknowns role f → is_cipher_of role ctrl ≡ true → IsTableOf unknowns role (owe_step f ctrl)
owes_keeps unknowns role f ctrl s is = queues unknowns role f _ (Cipher ctrl) s (given_role f.progress ctrl ∙ s.same_role) refl (λ lasts. cipher_draft unknowns role ctrl is)

pub sends_keeps : (unknowns : Bool) (role : Role) (f : TableFacts) (event skips slot : ℕ) (quiet : Bool) → IsTableOf unknowns role f → IsTableOf unknowns role (went_step f event skips quiet slot).0
sends_keeps unknowns role f event skips slot quiet s =
    let goes = next_goes unknowns role f event quiet s in
    record { same_role = sent_role (next_of f event quiet) event skips f.progress ∙ s.same_role; rejections = goes.rejections; drafts = goes.drafts }

pub terminates_keeps : (unknowns : Bool) (role : Role) (f : TableFacts) (reason : ErrCode) → IsTableOf unknowns role f → IsTableOf unknowns role (terminate_step f reason)
terminates_keeps unknowns role f reason s = disconnects_keeps unknowns role f reason (terminate_step f reason) s refl refl

pub asks_keeps : (unknowns : Bool) (role : Role) (f : TableFacts) (ask : Ask) → IsTableOf unknowns role f → IsTableOf unknowns role (ask_step f ask)
asks_keeps unknowns role f ask s = record { same_role = s.same_role; rejections = s.rejections; drafts = s.drafts }
