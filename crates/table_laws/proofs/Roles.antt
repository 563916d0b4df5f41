-- Which control PDUs wait at an end, by its role, call by call.
use Rattle.std.proofs.Common.{◌≡◌, ℕ, Bool, true, false, not, ◌&&◌, if◌then◌else◌, List, [], ◌∷◌, ◌++◌, remove, Option, Some, None, Result, Ok, Err, is_some, refl, subst, ◌∙◌}
use Rattle.std.specs.List.{AllByRecursion}
use Rattle.ble_base.specs.declared.error_codes.ErrCode.{ErrCode}
use Rattle.ble_base.specs.declared.roles.Role.{Role}
use Rattle.ble_base.specs.declared.roles.Role.TheVariants.{Central as central_role, Peripheral as peripheral_role}
use Rattle.data_pdu.specs.declared.ctrl.Ctrl.{Ctrl}
use Rattle.data_pdu.specs.declared.ctrl.Ctrl.TheVariants.{TerminateInd, EncReq, EncRsp, StartEncReq, StartEncRsp, PauseEncReq, PauseEncRsp, RejectExtInd}
use Rattle.data_pdu.specs.declared.ctrl.CtrlRead.{CtrlRead}
use Rattle.procedures.specs.procedure_values.declared.asks.Ask.{Ask}
use Rattle.procedures.specs.procedure_values.declared.asks.Ask.TheVariants.{Update as ask_update, Request as ask_request, Map as ask_map, Phy as ask_phy, Features as ask_features, Version as ask_version, Length as ask_length, Encrypt as ask_encrypt}
use Rattle.procedures.specs.procedure_values.declared.drafts.Draft.{Draft}
use Rattle.procedures.specs.procedure_values.declared.drafts.Draft.TheVariants.{Grant, PhyRsp, PhyInd, FeatureReq, PeripheralFeatureReq, FeatureRsp, VersionInd, LengthRsp, UnknownRsp, Cipher}
use Rattle.procedures.specs.procedure_values.declared.drafts.Rejection.{Rejection as TheRejection}
use Rattle.procedures.specs.procedure_values.declared.drafts.Outgoing.{Outgoing}
use Rattle.procedures.specs.procedure_values.declared.drafts.Outgoing.TheVariants.{Nothing, Rejection, Disconnect, Other}
use Rattle.procedures.specs.declared.outcome.Outcome.{Outcome}
use Rattle.procedures.specs.procedure_stages.declared.reply.Reply.{Reply}
use Rattle.procedures.specs.procedure_stages.declared.reply.Reply.TheVariants.{Nothing as no_reply, Reject, Answer}
use Rattle.procedures.specs.procedure_stages.declared.stages.Progress.{Progress}
use Rattle.procedures.specs.procedure_stages.declared.stages.Progress.TheVariants.{Central as central, Peripheral as peripheral}
use Rattle.procedures.specs.procedure_stages.declared.steps.Step.{Step}
use Rattle.procedures.specs.procedure_stages.Kinds.{begins, role_of}
use Rattle.procedures.specs.procedure_values.Asks.{kind_of_ask}
use Rattle.procedures.specs.procedure_stages.Queue.{QueueFacts, is_past_instant, next_by, next_disconnect, next_draft, with_draft, with_rejection, with_reply, without_next}
use Rattle.procedures.specs.Table.{TableFacts, first_facts}
use Rattle.procedures.specs.procedure_stages.Closing.{is_disconnecting, is_open}
use Rattle.procedures.specs.procedure_stages.InProgress.{is_host_asked}
use Rattle.procedures.specs.procedure_values.Drafts.{ctrl_of_draft, ctrl_of_outgoing, waits_for_instant}
use Rattle.procedures.specs.Queue.{next_of}
use Rattle.procedures.specs.Encryption.{is_rejection, progress_given}
use Rattle.procedures.specs.Taking.{facts_with, lacks_room, outcome_of, took_step}
use Rattle.procedures.specs.Beginning.{ask_at, begin_at, facts_begun, first_draft, place_to_begin, with_first_draft}
use Rattle.procedures.specs.procedure_stages.Begun.{progress_begun, version_draft}
use Rattle.procedures.specs.Sending.{next_ctrl_of}
use Rattle.procedures.specs.procedure_stages.Acked.{progress_acked}
use Rattle.procedures.specs.procedure_stages.Sent.{progress_after_sending}
use Rattle.procedures.specs.Going.{host_answer_step}
use Rattle.procedures.specs.procedure_stages.Held.{progress_held}
use Rattle.procedures.specs.Calls.{Call, asks, begins_one, takes, sends, is_acked, enters, host_answers, disconnects, is_given, after_call, after_calls}
use Rattle.procedures.specs.procedure_stages.Opcodes.{connection_param_req_opcode}
use Rattle.table_laws.specs.Pasts.{May, MayAll, MayGive, key_after_call}
use Rattle.table_laws.specs.Sent.{is_sent_by}
use Rattle.table_laws.proofs.Outcomes.{Took, is_answer, is_reply, took}
use Rattle.table_laws.proofs.Begun.{begins_of}

-- a draft of an end with this role, whenever it is sent
abbrev pub IsOfRole : Role → Draft → Type 0
IsOfRole role draft = (event skips : ℕ) → is_sent_by role (ctrl_of_draft draft event skips) ≡ true

abbrev pub IsRejectedBy : Role → TheRejection → Type 0
IsRejectedBy role rejection = is_sent_by role (RejectExtInd rejection.opcode rejection.code.0) ≡ true

pub record Sends (role : Role) (f : TableFacts) : Type 0 where
  pub same_role : role_of f.progress ≡ role
  pub rejections : AllByRecursion (IsRejectedBy role) f.queue.rejections
  pub drafts : AllByRecursion (IsOfRole role) f.queue.drafts

push : {X : Type 0} (P : X → Type 0) (xs : List X) (x : X) → AllByRecursion P xs → P x → AllByRecursion P (xs ++ x ∷ [])
push P [] x all h = (h, all)
push P (first ∷ xs) x all h = (all.0, push P xs x all.1 h)

module _ (role : Role) where
  with_drafts : (b : Bool) (queue : QueueFacts) (draft : Draft) → AllByRecursion (IsOfRole role) queue.drafts → (b ≡ true → IsOfRole role draft)
      → AllByRecursion (IsOfRole role) (if b then record queue { drafts = queue.drafts ++ draft ∷ [] } else queue).drafts
  with_drafts true queue draft all is = push (IsOfRole role) queue.drafts draft all (is refl)
  with_drafts false queue draft all is = all

  same_rejections : (b : Bool) (queue : QueueFacts) (draft : Draft) → AllByRecursion (IsRejectedBy role) queue.rejections
      → AllByRecursion (IsRejectedBy role) (if b then record queue { drafts = queue.drafts ++ draft ∷ [] } else queue).rejections
  same_rejections true queue draft all = all
  same_rejections false queue draft all = all

  with_rejections : (b : Bool) (queue : QueueFacts) (rejection : TheRejection) → AllByRecursion (IsRejectedBy role) queue.rejections → IsRejectedBy role rejection
      → AllByRecursion (IsRejectedBy role) (if b then record queue { rejections = queue.rejections ++ rejection ∷ [] } else queue).rejections
  with_rejections true queue rejection all is = push (IsRejectedBy role) queue.rejections rejection all is
  with_rejections false queue rejection all is = all

  same_drafts : (b : Bool) (queue : QueueFacts) (rejection : TheRejection) → AllByRecursion (IsOfRole role) queue.drafts
      → AllByRecursion (IsOfRole role) (if b then record queue { rejections = queue.rejections ++ rejection ∷ [] } else queue).drafts
  same_drafts true queue rejection all = all
  same_drafts false queue rejection all = all

  ended_drafts : (b : Bool) (queue : QueueFacts) (code : ErrCode) → AllByRecursion (IsOfRole role) queue.drafts
      → AllByRecursion (IsOfRole role) (if b then record queue { disconnect = Some code } else queue).drafts
  ended_drafts true queue code all = all
  ended_drafts false queue code all = all

  ended_rejections : (b : Bool) (queue : QueueFacts) (code : ErrCode) → AllByRecursion (IsRejectedBy role) queue.rejections
      → AllByRecursion (IsRejectedBy role) (if b then record queue { disconnect = Some code } else queue).rejections
  ended_rejections true queue code all = all
  ended_rejections false queue code all = all

  -- a call that queues a draft, or none where the link is to end
  queues : (f g : TableFacts) (draft : Draft) → Sends role f → role_of g.progress ≡ role
      → g.queue ≡ with_draft f.closing draft f.queue → (is_open f.closing ≡ true → IsOfRole role draft) → Sends role g
  queues f g draft s r is of_role =
      record {
        same_role = r;
        rejections = rw is (same_rejections (is_open f.closing) f.queue draft s.rejections);
        drafts = rw is (with_drafts (is_open f.closing) f.queue draft s.drafts of_role);
      }

  queues_none : (f g : TableFacts) → Sends role f → role_of g.progress ≡ role → g.queue ≡ f.queue → Sends role g
  queues_none f g s r is = record { same_role = r; rejections = rw is s.rejections; drafts = rw is s.drafts }

  rejects : (f g : TableFacts) (rejection : TheRejection) → Sends role f → role_of g.progress ≡ role
      → g.queue ≡ with_rejection f.closing rejection f.queue → IsRejectedBy role rejection → Sends role g
  rejects f g rejection s r is of_role =
      record {
        same_role = r;
        rejections = rw is (with_rejections (is_open f.closing) f.queue rejection s.rejections of_role);
        drafts = rw is (same_drafts (is_open f.closing) f.queue rejection s.drafts);
      }

  -- ---- what is sent leaves the queue

  draft_goes : (queue : QueueFacts) (draft : Draft) (rest : List Draft) → queue.drafts ≡ draft ∷ rest → AllByRecursion (IsOfRole role) queue.drafts
      → AllByRecursion (IsOfRole role) (remove queue.drafts 0)
  draft_goes queue draft rest is all =
      let split : AllByRecursion (IsOfRole role) (draft ∷ rest) = subst (AllByRecursion (IsOfRole role)) is all in rw is split.1

  rejection_goes : (queue : QueueFacts) (rejection : TheRejection) (rest : List TheRejection) → queue.rejections ≡ rejection ∷ rest → AllByRecursion (IsRejectedBy role) queue.rejections
      → AllByRecursion (IsRejectedBy role) (remove queue.rejections 0)
  rejection_goes queue rejection rest is all =
      let split : AllByRecursion (IsRejectedBy role) (rejection ∷ rest) = subst (AllByRecursion (IsRejectedBy role)) is all in rw is split.1

  record Goes (queue : QueueFacts) (outgoing : Outgoing) : Type 0 where
    rejections : AllByRecursion (IsRejectedBy role) (without_next outgoing queue).rejections
    drafts : AllByRecursion (IsOfRole role) (without_next outgoing queue).drafts
    sent : (event skips : ℕ) (ctrl : Ctrl) → ctrl_of_outgoing outgoing event skips ≡ Some ctrl → is_sent_by role ctrl ≡ true

  module _ (queue : QueueFacts) (rs : AllByRecursion (IsRejectedBy role) queue.rejections) (ds : AllByRecursion (IsOfRole role) queue.drafts) where
    none_goes : Goes queue Nothing
    none_goes = record { rejections = rs; drafts = ds; sent = λ event. λ skips. λ ctrl. λ is. absurd (cc) }

    some_is : (x y : Ctrl) → ◌≡◌ {A = Option Ctrl} (Some x) (Some y) → x ≡ y
    some_is x y is = cc

    by_draft : (draft : Draft) (rest : List Draft) (b : Bool) → queue.drafts ≡ draft ∷ rest → Goes queue (if b then Nothing else Other draft)
    by_draft draft rest true is = none_goes
    by_draft draft rest false is =
        let split : AllByRecursion (IsOfRole role) (draft ∷ rest) = subst (AllByRecursion (IsOfRole role)) is ds in
        record {
          rejections = rs;
          drafts = draft_goes queue draft rest is ds;
          sent = λ event. λ skips. λ ctrl. λ same. subst (λ (c : Ctrl). is_sent_by role c ≡ true) (some_is _ ctrl same) (split.0 event skips);
        }

    by_drafts : (progress : Progress) (event : ℕ) (drafts : List Draft) → queue.drafts ≡ drafts → Goes queue (next_draft progress event drafts)
    by_drafts progress event [] is = none_goes
    by_drafts progress event (draft ∷ rest) is = by_draft draft rest (waits_for_instant draft && not (is_past_instant progress event)) is

    sent_end : (r : Role) (code : ErrCode) → is_sent_by r (TerminateInd code.0) ≡ true
    sent_end central_role code = refl
    sent_end peripheral_role code = refl

    by_disconnect : (disconnect : Option ErrCode) → Goes queue (next_disconnect disconnect)
    by_disconnect None = none_goes
    by_disconnect (Some code) =
        record {
          rejections = rs;
          drafts = ds;
          sent = λ event. λ skips. λ ctrl. λ same. subst (λ (c : Ctrl). is_sent_by role c ≡ true) (some_is _ ctrl same) (sent_end role code);
        }

    by_other : (progress : Progress) (event : ℕ) (b : Bool) → Goes queue (if b then next_disconnect queue.disconnect else next_draft progress event queue.drafts)
    by_other progress event true = by_disconnect queue.disconnect
    by_other progress event false = by_drafts progress event queue.drafts refl

    by_rejections : (rejections : List TheRejection) (other : Outgoing) → queue.rejections ≡ rejections → Goes queue other → Goes queue (next_by rejections other)
    by_rejections [] other is h = h
    by_rejections (rejection ∷ rest) other is h =
        let split : AllByRecursion (IsRejectedBy role) (rejection ∷ rest) = subst (AllByRecursion (IsRejectedBy role)) is rs in
        record {
          rejections = rejection_goes queue rejection rest is rs;
          drafts = ds;
          sent = λ event. λ skips. λ ctrl. λ same. subst (λ (c : Ctrl). is_sent_by role c ≡ true) (some_is _ ctrl same) split.0;
        }

  next_goes : (f : TableFacts) (event : ℕ) (quiet : Bool) → Sends role f → Goes f.queue (next_of f event quiet)
  next_goes f event quiet s =
      by_rejections f.queue s.rejections s.drafts f.queue.rejections _ refl
      (by_other f.queue s.rejections s.drafts f.progress event (is_disconnecting f.closing && quiet))

-- ---- what an end answers is of its role

answer_of : (role : Role) (used : Bool) (draft : Draft) → is_answer role used draft ≡ true → IsOfRole role draft
answer_of central_role used VersionInd h event skips = refl
answer_of peripheral_role used VersionInd h event skips = refl
answer_of central_role used FeatureRsp h event skips = refl
answer_of peripheral_role used FeatureRsp h event skips = refl
answer_of central_role used (LengthRsp rx tx) h event skips = refl
answer_of peripheral_role used (LengthRsp rx tx) h event skips = refl
answer_of central_role used (UnknownRsp opcode) h event skips = refl
answer_of peripheral_role used (UnknownRsp opcode) h event skips = refl
answer_of central_role used PhyInd h event skips = refl
answer_of peripheral_role used PhyInd h event skips = absurd (cc)
answer_of central_role used PhyRsp h event skips = absurd (cc)
answer_of peripheral_role used PhyRsp h event skips = refl
answer_of role used other h event skips = absurd (cc)

rejection_of : (role : Role) (used : Bool) (rejection : TheRejection) → is_reply role used (Reject rejection) ≡ true → IsRejectedBy role rejection
rejection_of central_role used rejection h = h
rejection_of peripheral_role used rejection h = absurd (cc)

replies : (role : Role) (f g : TableFacts) (used : Bool) (reply : Reply) → Sends role f → role_of g.progress ≡ role
    → g.queue ≡ with_reply f.closing reply f.queue → is_reply role used reply ≡ true → Sends role g
replies role f g used no_reply s r is h = queues_none role f g s r is
replies role f g used (Reject rejection) s r is h = rejects role f g rejection s r is (rejection_of role used rejection h)
replies role f g used (Answer draft) s r is h = queues role f g draft s r is (λ lasts. answer_of role used draft h)

-- ---- no call changes the role

begun_role : (ask : Ask) (used : Bool) (p : Progress) → role_of (progress_begun ask used p) ≡ role_of p
begun_role ask used (central c) = refl
begun_role ask used (peripheral p) = refl

sent_role : (outgoing : Outgoing) (event skips : ℕ) (p : Progress) → role_of (progress_after_sending outgoing event skips p) ≡ role_of p
sent_role (Other draft) event skips (central c) = refl
sent_role (Other draft) event skips (peripheral p) = refl
sent_role Nothing event skips p = refl
sent_role (Rejection rejection) event skips p = refl
sent_role (Disconnect code) event skips p = refl

acked_role : (out : Outgoing) (p : Progress) → role_of (progress_acked out p) ≡ role_of p
acked_role out (central c) = refl
acked_role out (peripheral p) = refl

held_role : (p : Progress) → role_of (progress_held p) ≡ role_of p
held_role (central c) = refl
held_role (peripheral p) = refl

given_role : (p : Progress) (ctrl : Ctrl) → role_of (progress_given p ctrl) ≡ role_of p
given_role (central c) ctrl = refl
given_role (peripheral p) ctrl = by (is_rejection ctrl)
  where
    by : (b : Bool) → role_of (if b then peripheral (record p { encrypting = false }) else peripheral p) ≡ peripheral_role
    by true = refl
    by false = refl

-- ---- a procedure begins

first_of : (role : Role) (f : TableFacts) (ask : Ask) (g : TableFacts) → Sends role f → role_of f.progress ≡ role → role_of g.progress ≡ role → begins role (kind_of_ask ask) ≡ true
    → g.queue ≡ with_first_draft f.closing (first_draft f ask) f.queue → Sends role g
first_of central_role f (ask_update interval latency timeout) g s here r may is = queues central_role f g _ s r is (λ lasts. λ event. λ skips. refl)
first_of central_role f (ask_map map) g s here r may is = queues central_role f g _ s r is (λ lasts. λ event. λ skips. refl)
first_of central_role f ask_phy g s here r may is = queues central_role f g _ s r is (λ lasts. λ event. λ skips. refl)
first_of central_role f ask_features g s here r may is =
    queues central_role f g FeatureReq s r (is ∙ (rw here refl)) (λ lasts. λ event. λ skips. refl)
first_of central_role f (ask_length tx) g s here r may is = queues central_role f g _ s r is (λ lasts. λ event. λ skips. refl)
first_of central_role f (ask_request min max latency timeout) g s here r may is = absurd (cc)
first_of central_role f (ask_encrypt rand ediv ltk skd_m iv_m) g s here r may is = queues_none central_role f g s r is
first_of peripheral_role f (ask_request min max latency timeout) g s here r may is = queues peripheral_role f g _ s r is (λ lasts. λ event. λ skips. refl)
first_of peripheral_role f ask_phy g s here r may is = queues peripheral_role f g _ s r is (λ lasts. λ event. λ skips. refl)
first_of peripheral_role f ask_features g s here r may is =
    queues peripheral_role f g PeripheralFeatureReq s r (is ∙ (rw here refl)) (λ lasts. λ event. λ skips. refl)
first_of peripheral_role f (ask_length tx) g s here r may is = queues peripheral_role f g _ s r is (λ lasts. λ event. λ skips. refl)
first_of peripheral_role f (ask_update interval latency timeout) g s here r may is = absurd (cc)
first_of peripheral_role f (ask_map map) g s here r may is = absurd (cc)
first_of peripheral_role f (ask_encrypt rand ediv ltk skd_m iv_m) g s here r may is = absurd (cc)
first_of role f ask_version g s here r may is = by f.version_used is
  where
    of_version : (role : Role) → IsOfRole role VersionInd
    of_version central_role event skips = refl
    of_version peripheral_role event skips = refl

    by : (used : Bool) → g.queue ≡ with_first_draft f.closing (version_draft used) f.queue → Sends role g
    by true is = queues_none role f g s r is
    by false is = queues role f g VersionInd s r is (λ lasts. of_version role)

begin_by : (role : Role) (f : TableFacts) (slot : ℕ) (quiet : Bool) (place : Option ℕ) (ask : Option Ask) → Sends role f
    → place_to_begin f quiet ≡ place → ask_at place f.wanted ≡ ask → Sends role (begin_at f slot place ask).0
begin_by role f slot quiet None ask s p a = s
begin_by role f slot quiet (Some place) None s p a = s
begin_by role f slot quiet (Some place) (Some ask) s p a =
    let may = begins_of f quiet place ask p a in
    first_of role f ask (facts_begun f slot ask (remove f.wanted place)) s s.same_role
    (begun_role ask f.version_used f.progress ∙ s.same_role)
    (subst (λ (r : Role). begins r (kind_of_ask ask) ≡ true) s.same_role may.role) refl

-- ---- a PDU of the peer is taken

abbrev settled_of : Bool → Bool → TableFacts → TableFacts → Step → Step → Step → TableFacts × Step
settled_of a b f g x y z = if a then (f, x) else (if b then (f, y) else (g, z))

settled_by : (role : Role) (a b : Bool) (f g : TableFacts) (x y z : Step) → Sends role f → Sends role g → Sends role (settled_of a b f g x y z).0
settled_by role true b f g x y z s next = s
settled_by role false true f g x y z s next = s
settled_by role false false f g x y z s next = next

takes_one : (role : Role) (f : TableFacts) (read : CtrlRead) (slot : ℕ) (quiet : Bool) → Sends role f → Sends role (took_step f read slot quiet).0
takes_one role f read slot quiet s =
    settled_by role (lacks_room f o) (is_some o.step.ends) f (facts_with f slot o) _ _ _ s
    (replies role f (facts_with f slot o) f.version_used o.reply s (t.role ∙ s.same_role) refl
    (subst (λ (r : Role). is_reply r f.version_used o.reply ≡ true) s.same_role t.reply))
  where
    o : Outcome
    o = outcome_of f quiet read

    t : Took f.progress f.version_used o
    t = took f quiet read

-- ---- the other calls

answers_one : (role : Role) (f : TableFacts) (p : Progress) (answer : Result Ask ErrCode) → Sends role (record f { progress = p }) → is_host_asked p ≡ true
    → Sends role (host_answer_step (record f { progress = p }) answer)
answers_one central_role f (central c) (Ok (ask_update interval latency timeout)) s h = queues central_role (record f { progress = central c }) _ (Grant (record { interval = interval; latency = latency; timeout = timeout })) s refl refl (λ lasts. λ event. λ skips. refl)
answers_one central_role f (central c) (Ok (ask_request min max latency timeout)) s h = s
answers_one central_role f (central c) (Ok (ask_map map)) s h = s
answers_one central_role f (central c) (Ok ask_phy) s h = s
answers_one central_role f (central c) (Ok ask_features) s h = s
answers_one central_role f (central c) (Ok ask_version) s h = s
answers_one central_role f (central c) (Ok (ask_length tx)) s h = s
answers_one central_role f (central c) (Ok (ask_encrypt rand ediv ltk skd_m iv_m)) s h = s
answers_one central_role f (central c) (Err code) s h = rejects central_role (record f { progress = central c }) _ (record { opcode = connection_param_req_opcode; code = code }) s refl refl refl
answers_one peripheral_role f (central c) answer s h = absurd (let r = s.same_role in cc)
answers_one role f (peripheral p) answer s h = absurd (cc)

given_of : (role : Role) (f : TableFacts) (p : Progress) (key : Bool) (ctrl : Ctrl) → role_of p ≡ role → MayGive p f key ctrl → IsOfRole role (Cipher ctrl)
given_of central_role f (central c) key (EncReq rand ediv skd_m iv_m) r may event skips = refl
given_of central_role f (central c) key PauseEncReq r may event skips = refl
given_of central_role f (central c) key PauseEncRsp r may event skips = refl
given_of central_role f (central c) key StartEncRsp r may event skips = refl
given_of central_role f (central c) key other r may event skips = absurd may
given_of peripheral_role f (peripheral p) key (EncRsp skd_s iv_s) r may event skips = refl
given_of peripheral_role f (peripheral p) key PauseEncRsp r may event skips = refl
given_of peripheral_role f (peripheral p) key StartEncRsp r may event skips = refl
given_of peripheral_role f (peripheral p) key StartEncReq r may event skips = refl
given_of peripheral_role f (peripheral p) key (RejectExtInd opcode code) r may event skips = rw (may.0, may.1.reason) refl
given_of peripheral_role f (peripheral p) key (TerminateInd code) r may event skips = refl
given_of peripheral_role f (peripheral p) key other r may event skips = absurd may
given_of central_role f (peripheral p) key ctrl r may event skips = absurd (cc)
given_of peripheral_role f (central c) key ctrl r may event skips = absurd (cc)

pub keeps : (role : Role) (f : TableFacts) (key : Bool) (call : Call) → Sends role f → May f key call → Sends role (after_call f call)
keeps role f key (asks ask) s may = record { same_role = s.same_role; rejections = s.rejections; drafts = s.drafts }
keeps role f key (begins_one slot quiet) s may = begin_by role f slot quiet _ _ s refl refl
keeps role f key (takes read slot quiet) s may = takes_one role f read slot quiet s
keeps role f key (sends event skips quiet slot) s may =
    let goes = next_goes role f event quiet s in
    record { same_role = sent_role (next_of f event quiet) event skips f.progress ∙ s.same_role; rejections = goes.rejections; drafts = goes.drafts }
keeps role f key is_acked s may = queues_none role f _ s (acked_role f.out f.progress ∙ s.same_role) refl
keeps role f key (enters true) s may = queues_none role f _ s (held_role f.progress ∙ s.same_role) refl
keeps role f key (enters false) s may = s
keeps role f key (host_answers answer) s may = answers_one role f f.progress answer s may
keeps role f key (disconnects reason) s may =
    record { same_role = s.same_role; rejections = ended_rejections role (is_open f.closing) f.queue reason s.rejections; drafts = ended_drafts role (is_open f.closing) f.queue reason s.drafts }
keeps role f key (is_given ctrl) s may =
    queues role f _ (Cipher ctrl) s (given_role f.progress ctrl ∙ s.same_role) refl (λ lasts. given_of role f f.progress key ctrl s.same_role (may lasts))

keeps_all : (role : Role) (f : TableFacts) (key : Bool) (calls : List Call) → Sends role f → MayAll f key calls → Sends role (after_calls f calls)
keeps_all role f key [] s may = s
keeps_all role f key (call ∷ calls) s may =
    keeps_all role (after_call f call) (key_after_call key call) calls (keeps role f key call s may.0) may.1

pub first_sends : (role : Role) (max_rx : ℕ) → Sends role (first_facts role max_rx)
first_sends central_role max_rx = record { same_role = refl; rejections = _; drafts = _ }
first_sends peripheral_role max_rx = record { same_role = refl; rejections = _; drafts = _ }

pub sent_after : (role : Role) (max_rx : ℕ) (calls : List Call) (event skips : ℕ) (quiet : Bool) (ctrl : Ctrl)
    → MayAll (first_facts role max_rx) false calls → next_ctrl_of (after_calls (first_facts role max_rx) calls) event skips quiet ≡ Some ctrl
    → is_sent_by role ctrl ≡ true
sent_after role max_rx calls event skips quiet ctrl may is =
    let s = keeps_all role (first_facts role max_rx) false calls (first_sends role max_rx) may in
    (next_goes role (after_calls (first_facts role max_rx) calls) event quiet s).sent event skips ctrl is

pub role_after : (role : Role) (max_rx : ℕ) (calls : List Call) → MayAll (first_facts role max_rx) false calls
    → role_of (after_calls (first_facts role max_rx) calls).progress ≡ role
role_after role max_rx calls may = (keeps_all role (first_facts role max_rx) false calls (first_sends role max_rx) may).same_role
