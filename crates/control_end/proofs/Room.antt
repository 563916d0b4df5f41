-- What waits at the table of an end while no PDU of the encryption is queued.
use Rattle.std.proofs.Common.{◌≡◌, ℕ, ◌≤◌, ◌<◌, Bool, true, false, not, [], ◌∷◌, ◌++◌, if◌then◌else◌, List, Option, Some, None, Result, Ok, Err, is_some, refl, sym, ◌∙◌, arith}
use Rattle.std.specs.Prelude.{option_map, remove, ⊤}
use Rattle.ble_base.specs.declared.error_codes.ErrCode.{ErrCode}
use Rattle.ble_base.specs.declared.procedure_kinds.Kind.{Kind}
use Rattle.ble_base.specs.declared.procedure_kinds.Kind.TheVariants.{Encrypt}
use Rattle.ble_base.specs.declared.roles.Role.{Role}
use Rattle.ble_base.specs.declared.roles.Role.TheVariants.{Central as central_role, Peripheral as peripheral_role}
use Rattle.data_pdu.specs.declared.ctrl.CtrlRead.{CtrlRead}
use Rattle.control_model.specs.procedures.procedure_values.declared.asks.Ask.{Ask}
use Rattle.control_model.specs.procedures.procedure_values.declared.asks.Ask.TheVariants.{Encrypt as ask_encrypt, Request as ask_request, Update as ask_update}
use Rattle.control_model.specs.procedures.procedure_values.declared.drafts.Draft.{Draft}
use Rattle.control_model.specs.procedures.procedure_values.declared.drafts.Draft.TheVariants.{FeatureRsp, LengthRsp, PhyInd, PhyRsp, UnknownRsp, VersionInd}
use Rattle.control_model.specs.procedures.procedure_values.declared.drafts.Rejection.{Rejection}
use Rattle.control_model.specs.procedures.procedure_values.Asks.{kind_of_ask}
use Rattle.exclusive_stages.specs.declared.pdus.Exclusive.{Exclusive}
use Rattle.exclusive_stages.specs.declared.pdus.Exclusive.TheVariants.{Update}
use Rattle.exclusive_stages.specs.Kinds.{central_kind, kind_of, peripheral_kind}
use Rattle.control_model.specs.procedures.procedure_stages.declared.closing.Closing.{Closing}
use Rattle.control_model.specs.procedures.procedure_stages.declared.reply.Reply.{Reply}
use Rattle.control_model.specs.procedures.procedure_stages.declared.reply.Reply.TheVariants.{Answer, Nothing as no_reply, Reject}
use Rattle.control_model.specs.procedures.procedure_stages.declared.stages.Exchange.{Exchange}
use Rattle.control_model.specs.procedures.procedure_stages.declared.stages.Exchange.TheVariants.{FeaturesUnsent}
use Rattle.control_model.specs.procedures.procedure_stages.declared.stages.OwnCentral.{OwnCentral}
use Rattle.control_model.specs.procedures.procedure_stages.declared.stages.OwnCentral.TheVariants.{Exchange as exchange, Exclusive as exclusive}
use Rattle.control_model.specs.procedures.procedure_stages.declared.stages.OwnPeripheral.{OwnPeripheral}
use Rattle.control_model.specs.procedures.procedure_stages.declared.stages.OwnPeripheral.TheVariants.{Exchange as exchange_p, Exclusive as exclusive_p}
use Rattle.control_model.specs.procedures.procedure_stages.declared.stages.Progress.{Progress}
use Rattle.control_model.specs.procedures.procedure_stages.declared.stages.Progress.TheVariants.{Central as central, Peripheral as peripheral}
use Rattle.control_model.specs.procedures.procedure_stages.declared.steps.Step.{Step}
use Rattle.control_model.specs.procedures.procedure_stages.Awaited.{is_own_encryption}
use Rattle.control_model.specs.procedures.procedure_stages.Begun.{progress_begun}
use Rattle.control_model.specs.procedures.procedure_stages.Closing.{is_open}
use Rattle.control_model.specs.procedures.procedure_stages.InProgress.{is_host_asked}
use Rattle.control_model.specs.procedures.procedure_stages.Kinds.{begins, kind_at_central, kind_at_peripheral, kind_of_exchange, own_kind, role_of}
use Rattle.control_model.specs.procedures.procedure_stages.Queue.{QueueFacts, waiting_in, with_reply}
use Rattle.control_model.specs.procedures.Beginning.{ask_at, begin_at, facts_begun, place_to_begin}
use Rattle.control_model.specs.procedures.Calls.{Call, after_call, begins_one, asks, disconnects, enters, host_answers, is_acked, is_given, sends, takes}
use Rattle.control_model.specs.procedures.Going.{host_answer_step}
use Rattle.control_model.specs.procedures.Table.{TableFacts, first_facts}
use Rattle.control_model.specs.procedures.Taking.{facts_with, lacks_room, outcome_of, took_step}
use Rattle.table_laws.specs.Encrypting.{MayBeginBy, has_encryption}
use Rattle.table_laws.specs.Pasts.{May, key_after_call}
use Rattle.table_laws.specs.Waiting.{count_if, is_own_request, own_waiting}
use Rattle.table_laws.proofs.Begun.{begins_of, no_room}
use Rattle.table_laws.proofs.Bounds.{first_kept, keeps}
use Rattle.table_laws.proofs.Encrypting.{begins_by}
use Rattle.table_laws.proofs.Kept.{Kept, at_most_one, one_room}
use Rattle.table_laws.proofs.Numbers.{next_goes, number-push, own_in}
use Rattle.table_laws.proofs.Outcomes.{encrypts, is_answer, is_reply, took}
use Rattle.table_laws.proofs.Roles.{Sends, first_sends, keeps as keeps_sends}

-- ---- no call queues a request of an own procedure but the one by which it begins

-- any other call, but for a PDU of the encryption that is queued
abbrev is_plain : Call → Bool
is_plain (begins_one slot quiet) = false
is_plain (is_given ctrl) = false
is_plain other = true

draft_fewer : (b : Bool) (queue : QueueFacts) (draft : Draft) → is_own_request draft ≡ false
    → own_in (if b then record queue { drafts = queue.drafts ++ draft ∷ [] } else queue) ≤ own_in queue
draft_fewer true queue draft is =
    let more = number-push is_own_request queue.drafts draft in
    let none : count_if (is_own_request draft) ≡ 0 = rw is refl in
    omega (arith, more, none)
draft_fewer false queue draft is = omega arith

rejection_fewer : (b : Bool) (queue : QueueFacts) (rejection : Rejection)
    → own_in (if b then record queue { rejections = queue.rejections ++ rejection ∷ [] } else queue) ≤ own_in queue
rejection_fewer true queue rejection = omega arith
rejection_fewer false queue rejection = omega arith

disconnect_fewer : (b : Bool) (queue : QueueFacts) (code : ErrCode)
    → own_in (if b then record queue { disconnect = Some code } else queue) ≤ own_in queue
disconnect_fewer true queue code = omega arith
disconnect_fewer false queue code = omega arith

-- an answer is no request
no_request : (role : Role) (used : Bool) (draft : Draft) → is_answer role used draft ≡ true → is_own_request draft ≡ false
no_request role used FeatureRsp is = refl
no_request role used VersionInd is = refl
no_request role used (LengthRsp rx tx) is = refl
no_request role used (UnknownRsp opcode) is = refl
no_request role used PhyInd is = refl
no_request role used PhyRsp is = refl
no_request role used other is = absurd (cc)

reply_fewer : (role : Role) (used : Bool) (closing : Closing) (reply : Reply) (queue : QueueFacts) → is_reply role used reply ≡ true
    → own_in (with_reply closing reply queue) ≤ own_in queue
reply_fewer role used closing no_reply queue is = omega arith
reply_fewer role used closing (Reject rejection) queue is = rejection_fewer (is_open closing) queue rejection
reply_fewer role used closing (Answer draft) queue is = draft_fewer (is_open closing) queue draft (no_request role used draft is)

abbrev settled_of : Bool → Bool → TableFacts → TableFacts → Step → Step → Step → TableFacts × Step
settled_of full ends f g x y z = (if full then (f, x) else (if ends then (f, y) else (g, z)))

settled_fewer : (full ends : Bool) (f g : TableFacts) (x y z : Step) → own_waiting g ≤ own_waiting f
    → own_waiting (settled_of full ends f g x y z).0 ≤ own_waiting f
settled_fewer true ends f g x y z less = omega arith
settled_fewer false true f g x y z less = omega arith
settled_fewer false false f g x y z less = less

takes_fewer : (f : TableFacts) (read : CtrlRead) (slot : ℕ) (quiet : Bool) → own_waiting (took_step f read slot quiet).0 ≤ own_waiting f
takes_fewer f read slot quiet =
    let o = outcome_of f quiet read in
    settled_fewer (lacks_room f o) (is_some o.step.ends) f (facts_with f slot o) _ _ _
    (reply_fewer (role_of f.progress) f.version_used f.closing o.reply f.queue (took f quiet read).reply)

answers_fewer : (f : TableFacts) (answer : Result Ask ErrCode) → own_waiting (host_answer_step f answer) ≤ own_waiting f
answers_fewer f (Ok (ask_update interval latency timeout)) = draft_fewer (is_open f.closing) f.queue _ refl
answers_fewer f (Ok other) = omega arith
answers_fewer f (Err code) = rejection_fewer (is_open f.closing) f.queue _

fewer : (f : TableFacts) (call : Call) → is_plain call ≡ true → own_waiting (after_call f call) ≤ own_waiting f
fewer f (asks ask) is = omega arith
fewer f (begins_one slot quiet) is = absurd (cc)
fewer f (takes read slot quiet) is = takes_fewer f read slot quiet
fewer f (sends event skips quiet slot) is = let gone = (next_goes f event quiet).own in omega (arith, gone)
fewer f is_acked is = omega arith
fewer f (enters true) is = omega arith
fewer f (enters false) is = omega arith
fewer f (host_answers answer) is = answers_fewer f answer
fewer f (disconnects reason) is = disconnect_fewer (is_open f.closing) f.queue reason
fewer f (is_given ctrl) is = absurd (cc)

-- ---- an encryption of a central is in progress

-- no such call begins one
began_before : (p q : Progress) (call : Call) → is_plain call ≡ true → role_of q ≡ role_of p
    → (has_encryption p ≡ false → has_encryption q ≡ true → MayBeginBy p call) → encrypts q ≡ true → encrypts p ≡ true
began_before p (peripheral q) call plain role begins is = absurd (cc)
began_before (peripheral p) (central d) call plain role begins is = absurd (cc)
began_before (central c) (central d) call plain role begins is = by (has_encryption (central c)) refl
  where
    by_none : (call : Call) → is_plain call ≡ true → MayBeginBy (central c) call → ⊥
    by_none (begins_one slot quiet) plain may = absurd (cc)
    by_none other plain may = may

    by : (b : Bool) → has_encryption (central c) ≡ b → b ≡ true
    by true was = refl
    by false was = absurd (by_none call plain (begins was is))

-- one begins without a PDU, where no request waits
begun_none : (f : TableFacts) (slot : ℕ) (ask : Ask) (wanted : List Ask) (p : Progress) → own_waiting f ≡ 0
    → begins (role_of p) (kind_of_ask ask) ≡ true → encrypts (progress_begun ask f.version_used p) ≡ true
    → own_waiting (facts_begun f slot ask wanted) ≡ 0
begun_none f slot ask wanted (peripheral p) none may is = absurd (cc)
begun_none f slot (ask_encrypt rand ediv ltk skd_m iv_m) wanted (central c) none may is = none
begun_none f slot (ask_request min max latency timeout) wanted (central c) none may is = absurd (cc)
begun_none f slot other wanted (central c) none may is = absurd (cc)

no_exclusive : (kind : Option Exclusive) → option_map kind_of kind ≡ Some Encrypt → ⊥
no_exclusive None is = absurd (cc)
no_exclusive (Some Update) is = absurd (cc)
no_exclusive (Some other) is = absurd (cc)

no_exchange : (stage : Exchange) → ◌≡◌ {A = Option Kind} (Some (kind_of_exchange stage)) (Some Encrypt) → ⊥
no_exchange FeaturesUnsent is = absurd (cc)
no_exchange other is = absurd (cc)

-- it is the own procedure of the central, and no peripheral has one
encrypts_by : (p : Progress) → own_kind p ≡ Some Encrypt → encrypts p ≡ true
encrypts_by (central c) is = by c.own is
  where
    by : (own : OwnCentral) → kind_at_central own ≡ Some Encrypt → is_own_encryption own ≡ true
    by (exclusive stage) is = absurd (no_exclusive (central_kind stage) is)
    by (exchange stage) is = absurd (no_exchange stage is)
    by other is = refl
encrypts_by (peripheral p) is = absurd (by p.own is)
  where
    by : (own : OwnPeripheral) → kind_at_peripheral own ≡ Some Encrypt → ⊥
    by (exclusive_p stage) is = no_exclusive (peripheral_kind stage) is
    by (exchange_p stage) is = no_exchange stage is

-- ---- call by call

-- what holds of a table while no PDU of the encryption is queued: no request waits while a central encrypts
pub record HasRoom (role : Role) (f : TableFacts) : Type 0 where
  pub kept : Kept f false
  pub by_role : Sends role f
  pub none : encrypts f.progress ≡ true → own_waiting f ≡ 0

-- no such PDU is queued, and the host answers a request about which it is asked
abbrev pub Comes : TableFacts → Call → Type 0
Comes f (host_answers answer) = is_host_asked f.progress ≡ true
Comes f (is_given ctrl) = ⊥
Comes f other = ⊤

not_both : (waits : ℕ) → waits ≡ 0 → 1 ≤ waits → ⊥
not_both waits none one = omega (arith, none, one)

may_come : (role : Role) (f : TableFacts) (call : Call) → HasRoom role f → Comes f call → May f false call
may_come role f (takes read slot quiet) room comes =
    λ own. λ waits. absurd (not_both (own_waiting f) (room.none (encrypts_by f.progress own)) waits)
may_come role f (host_answers answer) room comes = comes
may_come role f (is_given ctrl) room comes = absurd comes
may_come role f other room comes = tt

less_none : (a b : ℕ) → a ≤ b → b ≡ 0 → a ≡ 0
less_none a b less none = omega (arith, less, none)

module _ (role : Role) (f : TableFacts) (room : HasRoom role f) where
  begins_none : (slot : ℕ) (quiet : Bool) (place : Option ℕ) (ask : Option Ask) → place_to_begin f quiet ≡ place → ask_at place f.wanted ≡ ask
      → encrypts (begin_at f slot place ask).0.progress ≡ true → own_waiting (begin_at f slot place ask).0 ≡ 0
  begins_none slot quiet None ask p a is = room.none is
  begins_none slot quiet (Some place) None p a is = room.none is
  begins_none slot quiet (Some place) (Some ask) p a is =
      let may = begins_of f quiet place ask p a in
      begun_none f slot ask (remove f.wanted place) f.progress (less_none _ _ room.kept.own (no_room f.progress may.none)) may.role is

  call_none : (call : Call) → Comes f call → role_of (after_call f call).progress ≡ role_of f.progress
      → encrypts (after_call f call).progress ≡ true → own_waiting (after_call f call) ≡ 0
  call_none (begins_one slot quiet) comes same is = begins_none slot quiet _ _ refl refl is
  call_none (is_given ctrl) comes same is = absurd comes
  call_none other comes same is =
      less_none _ _ (fewer f other refl) (room.none (began_before f.progress _ other refl same (begins_by f other) is))

  same_key : (call : Call) → Comes f call → Kept (after_call f call) (key_after_call false call) → Kept (after_call f call) false
  same_key (is_given ctrl) comes kept = absurd comes
  same_key other comes kept = kept

  pub room_after : (call : Call) → Comes f call → HasRoom role (after_call f call)
  room_after call comes =
      let may = may_come role f call room comes in
      let by_role = keeps_sends role f false call room.by_role may in
      record {
        kept = same_key call comes (keeps f false call room.kept may);
        by_role = by_role;
        none = call_none call comes (by_role.same_role ∙ sym room.by_role.same_role);
      }

pub first_room : (role : Role) (max_rx : ℕ) → HasRoom role (first_facts role max_rx)
first_room role max_rx = record { kept = first_kept role max_rx; by_role = first_sends role max_rx; none = by role }
  where
    by : (role : Role) → encrypts (first_facts role max_rx).progress ≡ true → own_waiting (first_facts role max_rx) ≡ 0
    by central_role is = refl
    by peripheral_role is = refl

-- fewer than 24 control PDUs wait
pub few_wait : (role : Role) (f : TableFacts) → HasRoom role f → waiting_in f.queue < 24
few_wait role f room =
    let bound = room.kept.bound in
    let own = room.kept.own in
    let own_most = one_room f.progress in
    let version = room.kept.version in
    let version_most = at_most_one f.version_used in
    let end = room.kept.end in
    let end_most = at_most_one (not (is_open f.closing)) in
    omega (arith, bound, own, own_most, version, version_most, end, end_most)
