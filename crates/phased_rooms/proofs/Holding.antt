-- What waits at a table, where the first PDU of the own procedure has this room, and what each call leaves of that.
use Rattle.std.proofs.Common.{◌≡◌, ℕ, ◌+◌, ◌≤◌, ◌<◌, nat_le, Bool, true, false, ◌&&◌, ◌||◌, if◌then◌else◌, List, [], ◌∷◌, ◌++◌, remove, Option, Some, None, Result, Ok, Err, is_some, refl, sym, ap, subst, ◌∙◌, arith}
use Rattle.ble_base.specs.declared.error_codes.ErrCode.{ErrCode}
use Rattle.ble_base.specs.declared.roles.Role.{Role}
use Rattle.ble_base.specs.declared.roles.Role.TheVariants.{Central as central_role}
use Rattle.data_pdu.specs.declared.ctrl.Ctrl.{Ctrl}
use Rattle.data_pdu.specs.declared.ctrl.Ctrl.TheVariants.{TerminateInd}
use Rattle.data_pdu.specs.declared.ctrl.CtrlRead.{CtrlRead}
use Rattle.exclusive_stages.specs.Kinds.{is_host_asked_at_central}
use Rattle.exclusive_stages.specs.declared.stages.PeerAtCentral.{PeerAtCentral}
use Rattle.exclusive_stages.specs.declared.stages.PeerAtCentral.TheVariants.{GrantUnsent, HostAsked, PhyIndUnsent}
use Rattle.phased_control.specs.procedure_values.Asks.{kind_of_ask}
use Rattle.phased_control.specs.procedure_values.declared.asks.Ask.{Ask}
use Rattle.phased_control.specs.procedure_values.declared.asks.Ask.TheVariants.{Encrypt as ask_encrypt, Features as ask_features, Length as ask_length, Map as ask_map, Phy as ask_phy, Request as ask_request, Update as ask_update, Version as ask_version}
use Rattle.phased_control.specs.procedure_values.declared.drafts.Draft.{Draft}
use Rattle.phased_control.specs.procedure_values.declared.drafts.Draft.TheVariants.{Cipher, Grant, PhyInd, VersionInd}
use Rattle.phased_control.specs.procedure_values.declared.drafts.Rejection.{Rejection as TheRejection}
use Rattle.phased_control.specs.procedure_values.declared.drafts.Outgoing.{Outgoing}
use Rattle.phased_control.specs.procedure_values.declared.drafts.Outgoing.TheVariants.{Disconnect, Nothing, Other, Rejection}
use Rattle.phased_control.specs.procedure_stages.declared.closing.Closing.{Closing}
use Rattle.phased_control.specs.procedure_stages.declared.closing.Closing.TheVariants.{Closed, Disconnecting, Open}
use Rattle.phased_control.specs.procedure_stages.declared.reply.Reply.{Reply}
use Rattle.phased_control.specs.procedure_stages.declared.reply.Reply.TheVariants.{Answer, Nothing as no_reply, Reject}
use Rattle.phased_control.specs.procedure_stages.declared.stages.Central.{Central}
use Rattle.phased_control.specs.procedure_stages.declared.stages.Progress.{Progress}
use Rattle.phased_control.specs.procedure_stages.declared.stages.Progress.TheVariants.{Central as central, Peripheral as peripheral}
use Rattle.phased_control.specs.procedure_stages.declared.steps.Effect.{Effect}
use Rattle.phased_control.specs.procedure_stages.declared.steps.Effect.TheVariants.{PeerEnds}
use Rattle.phased_control.specs.procedure_stages.declared.steps.Step.{Step}
use Rattle.phased_control.specs.procedure_stages.Begun.{stage_at_central}
use Rattle.phased_control.specs.procedure_stages.Closing.{is_open}
use Rattle.phased_control.specs.procedure_stages.Exclusive.{pdu_of_draft}
use Rattle.phased_control.specs.procedure_stages.InProgress.{is_host_asked}
use Rattle.phased_control.specs.procedure_stages.Kinds.{begins, role_of}
use Rattle.phased_control.specs.procedure_stages.Queue.{QueueFacts, has_reply, is_version_reply, waiting_in, with_reply}
use Rattle.phased_control.specs.procedure_stages.Sent.{peer_draft_sent_by_central, progress_after_sending}
use Rattle.phased_control.specs.procedure_stages.Steps.{asks_host, closing_after}
use Rattle.phased_control.specs.procedures.declared.outcome.Outcome.{Outcome}
use Rattle.phased_control.specs.procedures.Beginning.{ask_at, begin_at, facts_begun, place_to_begin}
use Rattle.phased_control.specs.procedures.Encryption.{is_rejection, progress_given}
use Rattle.phased_control.specs.procedures.Going.{closing_given, host_answer_step, owe_step, terminate_step}
use Rattle.phased_control.specs.procedures.Queue.{next_of}
use Rattle.phased_control.specs.procedures.Sending.{facts_sent}
use Rattle.phased_control.specs.procedures.Table.{TableFacts}
use Rattle.phased_control.specs.procedures.Taking.{facts_with, lacks_room, no_room, outcome_of, took_step}
use Rattle.phased_control.specs.table_laws.Waiting.{count_if, is_asked, is_version_ind, version_waiting}
use Rattle.phased_control.proofs.table_laws.Begun.{at, begins_of, no_room as no_own_room}
use Rattle.phased_control.proofs.table_laws.Kept.{at_most_one}
use Rattle.phased_control.proofs.table_laws.Numbers.{next_goes, sent, version_in, version_sent, with_one, with_rejection_more}
use Rattle.phased_control.proofs.table_laws.Outcomes.{Took, is_reply, own_room, room_at_central, took}
use Rattle.phased_control.proofs.table_laws.Taken.{few}

-- the host was asked about a request
abbrev pub host_asked : TableFacts → ℕ
host_asked f = count_if (is_asked f.progress false)

-- while the link is not to end, the first PDU of the own procedure may wait with seventeen others, and LL_VERSION_IND
pub record Holds (room : ℕ) (f : TableFacts) : Type 0 where
  pub few : is_open f.closing ≡ true → waiting_in f.queue + host_asked f ≤ 17 + room + version_waiting f
  pub version : version_waiting f ≤ count_if f.version_used
  pub most : waiting_in f.queue ≤ 20

pub more_room : (room room' : ℕ) (f : TableFacts) → room ≤ room' → Holds room f → Holds room' f
more_room room room' f less holds =
    record {
      few = λ opens. let h = holds.few opens in omega (arith, h, less);
      version = holds.version;
      most = holds.most;
    }

-- the procedures alone go on
pub same_queue : (room : ℕ) (f g : TableFacts) → g.queue ≡ f.queue → g.version_used ≡ f.version_used
    → g.closing ≡ f.closing
    → host_asked g ≤ host_asked f → Holds room f → Holds room g
same_queue room f g queue used closing asked holds =
    record {
      few = λ opens. let h = holds.few (sym (ap is_open closing) ∙ opens) in rw queue (omega (arith, h, asked));
      version = rw (queue, used) holds.version;
      most = rw queue holds.most;
    }

open_or_not : {X : Type 0} (closing : Closing) → is_open closing ≡ false → is_open closing ≡ true → X
open_or_not Open shut opens = absurd (cc)
open_or_not Closed shut opens = absurd (cc)
open_or_not Disconnecting shut opens = absurd (cc)

-- ---- a PDU is sent

asked_sent : (out : Outgoing) (event skips : ℕ) (p : Progress)
    → is_asked (progress_after_sending out event skips p) false ≡ is_asked p false
asked_sent (Other draft) event skips (central c) = by draft c.peer
  where
    by : (draft : Draft) (peer : PeerAtCentral)
        → is_host_asked_at_central (peer_draft_sent_by_central (pdu_of_draft draft) peer)
        ≡ is_host_asked_at_central peer
    by (Grant params) GrantUnsent = refl
    by (Grant params) other = refl
    by PhyInd PhyIndUnsent = refl
    by PhyInd other = refl
    by other peer = refl
asked_sent (Other draft) event skips (peripheral p) = refl
asked_sent Nothing event skips p = refl
asked_sent (Rejection rejection) event skips p = refl
asked_sent (Disconnect code) event skips p = refl

pub holds_sent : (room room' : ℕ) (f : TableFacts) (event skips slot : ℕ) (quiet : Bool)
    → room + version_sent (next_of f event quiet) ≤ room' + sent (next_of f event quiet) → Holds room f
    → Holds room' (facts_sent f (next_of f event quiet) event skips slot)
holds_sent room room' f event skips slot quiet less holds =
    let goes = next_goes f event quiet in
    let n1 = goes.waiting in
    let n2 = goes.version in
    let asked : host_asked (facts_sent f (next_of f event quiet) event skips slot) ≡ host_asked f =
    ap count_if (asked_sent (next_of f event quiet) event skips f.progress) in
    record {
      few = λ opens. let h = holds.few opens in omega (arith, h, n1, n2, asked, less);
      version = let h = holds.version in omega (arith, h, n2);
      most = let h = holds.most in omega (arith, h, n1);
    }

-- ---- a PDU of the peer is taken: it is answered, or the host asked, only where fewer than sixteen wait

none_replied : (closing : Closing) (reply : Reply) (queue : QueueFacts) → has_reply reply ≡ false
    → with_reply closing reply queue ≡ queue
none_replied closing no_reply queue none = refl
none_replied closing (Reject rejection) queue none = absurd (cc)
none_replied closing (Answer draft) queue none = absurd (cc)

shut_reply : (closing : Closing) (reply : Reply) (queue : QueueFacts) → is_open closing ≡ false
    → with_reply closing reply queue ≡ queue
shut_reply closing no_reply queue shut = refl
shut_reply closing (Reject rejection) queue shut = rw shut refl
shut_reply closing (Answer draft) queue shut = rw shut refl

one_more : (closing : Closing) (reply : Reply) (queue : QueueFacts)
    → waiting_in (with_reply closing reply queue) ≤ waiting_in queue + 1
one_more closing no_reply queue = omega arith
one_more closing (Reject rejection) queue = by (is_open closing)
  where
    by : (b : Bool)
        → waiting_in (if b then record queue { rejections = queue.rejections ++ rejection ∷ [] } else queue)
        ≤ waiting_in queue + 1
    by true = let h = (with_rejection_more queue rejection).waiting in omega (arith, h)
    by false = omega arith
one_more closing (Answer draft) queue = by (is_open closing)
  where
    by : (b : Bool)
        → waiting_in (if b then record queue { drafts = queue.drafts ++ draft ∷ [] } else queue) ≤ waiting_in queue + 1
    by true = let h = (with_one queue draft).waiting in omega (arith, h)
    by false = omega arith

used_grows : (used b : Bool) → count_if used ≤ count_if (used || b)
used_grows true b = omega arith
used_grows false b = omega arith

-- LL_VERSION_IND is queued once
version_replied : (role : Role) (used : Bool) (closing : Closing) (reply : Reply) (queue : QueueFacts)
    → is_reply role used reply ≡ true → version_in queue ≤ count_if used
    → version_in (with_reply closing reply queue) ≤ count_if (used || (is_version_reply reply && is_open closing))
version_replied role used closing no_reply queue is less =
    let h = used_grows used (is_version_reply no_reply && is_open closing) in omega (arith, h, less)
version_replied role used closing (Reject rejection) queue is less = by (is_open closing)
  where
    by : (b : Bool)
        → version_in (if b then record queue { rejections = queue.rejections ++ rejection ∷ [] } else queue)
        ≤ count_if (used || false)
    by true = let h = used_grows used false in omega (arith, h, less)
    by false = let h = used_grows used false in omega (arith, h, less)
version_replied role used closing (Answer draft) queue is less = by (is_open closing) used draft is less
  where
    by : (b used : Bool) (draft : Draft) → is_reply role used (Answer draft) ≡ true → version_in queue ≤ count_if used
        → version_in (if b then record queue { drafts = queue.drafts ++ draft ∷ [] } else queue)
        ≤ count_if (used || (is_version_reply (Answer draft) && b))
    by false used draft is less =
        let h = used_grows used (is_version_reply (Answer draft) && false) in omega (arith, h, less)
    by true true VersionInd is less = absurd (cc)
    by true false VersionInd is less = let h = (with_one queue VersionInd).version in omega (arith, h, less)
    by true used other is less =
        let h = (with_one queue other).version in
        let n = used_grows used false in
        omega (arith, h, less, n)

was_open : (effect : Effect) (closing : Closing) → is_open (closing_after effect closing) ≡ true
    → is_open closing ≡ true
was_open (PeerEnds code) Open opens = absurd (cc)
was_open (PeerEnds code) Closed opens = absurd (cc)
was_open (PeerEnds code) Disconnecting opens = absurd (cc)
was_open other closing opens = opens

either_false : (a b : Bool) → (a || b) ≡ false → (a ≡ false) × (b ≡ false)
either_false true b is = absurd (cc)
either_false false b is = (refl, is)

module _ (room : ℕ) (f : TableFacts) (slot : ℕ) (o : Outcome) (t : Took f.progress f.version_used o)
    (holds : Holds room f) where
  abbrev g : TableFacts
  g = facts_with f slot o

  -- something is to be queued, or the host to be asked
  abbrev adds : Bool
  adds = has_reply o.reply || asks_host o.step.effect

  fewer : adds ≡ true → lacks_room f o ≡ false → is_open f.closing ≡ true → waiting_in f.queue ≤ 15
  fewer is full opens =
      few (waiting_in f.queue) adds
      (subst (λ (a : Bool). (a && nat_le 16 (waiting_in f.queue) && adds) ≡ false) opens full) is

  taken_few : (b : Bool) → adds ≡ b → lacks_room f o ≡ false → is_open f.closing ≡ true
      → waiting_in g.queue + host_asked g ≤ 17 + room + version_waiting g
  taken_few true is full opens =
      let less = fewer is full opens in
      let more = one_more f.closing o.reply f.queue in
      let one = at_most_one (is_asked o.progress false) in
      omega (arith, less, more, one)
  taken_few false is full opens =
      let none = either_false (has_reply o.reply) (asks_host o.step.effect) is in
      let h = holds.few opens in
      let asks = t.asks false in
      let zero : count_if (asks_host o.step.effect) ≡ 0 = ap count_if none.1 in
      rw (none_replied f.closing o.reply f.queue none.0) (omega (arith, h, asks, zero))

  taken_most : (b opens : Bool) → adds ≡ b → is_open f.closing ≡ opens → lacks_room f o ≡ false
      → waiting_in g.queue ≤ 20
  taken_most true true is opens full =
      let less = fewer is full opens in
      let more = one_more f.closing o.reply f.queue in
      omega (arith, less, more)
  taken_most true false is shut full =
      let h = holds.most in
      rw (shut_reply f.closing o.reply f.queue shut) h
  taken_most false opens is at full =
      let none = either_false (has_reply o.reply) (asks_host o.step.effect) is in
      let h = holds.most in
      rw (none_replied f.closing o.reply f.queue none.0) h

  taken_holds : lacks_room f o ≡ false → Holds room g
  taken_holds full =
      record {
        few = λ opens. taken_few _ refl full (was_open o.step.effect f.closing opens);
        version = version_replied (role_of f.progress) f.version_used f.closing o.reply f.queue t.reply holds.version;
        most = taken_most _ _ refl refl full;
      }

-- what holds of the table before, and of it after the outcome where there is room
pub settled_by : (P : TableFacts → Type 0) (f : TableFacts) (slot : ℕ) (read : CtrlRead) (quiet : Bool) → P f
    → (lacks_room f (outcome_of f quiet read) ≡ false → P (facts_with f slot (outcome_of f quiet read)))
    → P (took_step f read slot quiet).0
settled_by P f slot read quiet before next = by (lacks_room f o) (is_some o.step.ends) refl
  where
    o : Outcome
    o = outcome_of f quiet read

    of : Bool → Bool → TableFacts × Step
    of a b = (if a then (f, no_room) else (if b then (f, o.step) else (facts_with f slot o, o.step)))

    by : (a b : Bool) → lacks_room f o ≡ a → P (of a b).0
    by true b is = before
    by false true is = before
    by false false is = next is

pub holds_taken : (room : ℕ) (f : TableFacts) (read : CtrlRead) (slot : ℕ) (quiet : Bool) → Holds room f
    → Holds room (took_step f read slot quiet).0
holds_taken room f read slot quiet holds =
    settled_by (Holds room) f slot read quiet holds
    (λ full. taken_holds room f slot (outcome_of f quiet read) (took f quiet read) holds full)

-- ---- a procedure begins

requested : (f g : TableFacts) (draft : Draft) → Holds 0 f → is_open f.closing ≡ true
    → g.queue ≡ record f.queue { drafts = f.queue.drafts ++ draft ∷ [] }
    → host_asked g ≡ host_asked f → is_version_ind draft ≡ false → count_if g.version_used ≡ count_if f.version_used
    → Holds 1 g
requested f g draft holds opens queue asked is used =
    let h1 = holds.few opens in
    let h2 = holds.version in
    let one = at_most_one f.version_used in
    let n1 = (with_one f.queue draft).waiting in
    let n2 = (with_one f.queue draft).version in
    let n3 : count_if (is_version_ind draft) ≡ 0 = ap count_if is in
    record {
      few = λ opens. rw queue (omega (arith, h1, n1, n2, n3, asked));
      version = rw queue (omega (arith, h2, n2, n3, used));
      most = rw queue (omega (arith, h1, h2, one, n1));
    }

pub or_used : (used : Bool) → count_if (used || false) ≡ count_if used
or_used true = refl
or_used false = refl

module _ (f : TableFacts) (slot : ℕ) (wanted : List Ask) where
  begun_c : (c : Central) (ask : Ask) (used : Bool) → Holds 0 (at f (central c) Open used)
      → begins central_role (kind_of_ask ask) ≡ true
      → Holds (room_at_central (stage_at_central ask used c.own))
      (facts_begun (at f (central c) Open used) slot ask wanted)
  begun_c c (ask_update interval latency timeout) used holds may =
      requested (at f (central c) Open used) _ _ holds refl refl refl refl (or_used used)
  begun_c c (ask_map map) used holds may =
      requested (at f (central c) Open used) _ _ holds refl refl refl refl (or_used used)
  begun_c c ask_phy used holds may = requested (at f (central c) Open used) _ _ holds refl refl refl refl (or_used used)
  begun_c c ask_features used holds may =
      requested (at f (central c) Open used) _ _ holds refl refl refl refl (or_used used)
  begun_c c (ask_length tx) used holds may =
      requested (at f (central c) Open used) _ _ holds refl refl refl refl (or_used used)
  begun_c c (ask_request min max latency timeout) used holds may = absurd (cc)
  begun_c c (ask_encrypt rand ediv ltk skd_m iv_m) used holds may =
      let h = holds.version in
      let u = or_used used in
      record {
        few = λ opens. let h1 = holds.few opens in omega (arith, h1);
        version = omega (arith, h, u);
        most = holds.most;
      }
  begun_c c ask_version true holds may = record { few = holds.few; version = holds.version; most = holds.most }
  begun_c c ask_version false holds may =
      let h1 = holds.few refl in
      let h2 = holds.version in
      let n1 = (with_one f.queue VersionInd).waiting in
      let n2 = (with_one f.queue VersionInd).version in
      record {
        few = λ opens. omega (arith, h1, n1, n2);
        version = omega (arith, h2, n2);
        most = omega (arith, h1, h2, n1);
      }

  begun_at : (p : Progress) (closing : Closing) (used : Bool) (ask : Ask) → role_of p ≡ central_role
      → is_open closing ≡ true → begins (role_of p) (kind_of_ask ask) ≡ true
      → Holds 0 (at f p closing used)
      → Holds (own_room (facts_begun (at f p closing used) slot ask wanted).progress)
      (facts_begun (at f p closing used) slot ask wanted)
  begun_at (central c) Open used ask role lasts may holds = begun_c c ask used holds may
  begun_at (peripheral q) Open used ask role lasts may holds = absurd (cc)
  begun_at p Closed used ask role lasts may holds = absurd (cc)
  begun_at p Disconnecting used ask role lasts may holds = absurd (cc)

pub holds_begun : (f : TableFacts) (slot : ℕ) (quiet : Bool) (place : Option ℕ) (ask : Option Ask)
    → place_to_begin f quiet ≡ place → ask_at place f.wanted ≡ ask
    → role_of f.progress ≡ central_role → Holds (own_room f.progress) f
    → Holds (own_room (begin_at f slot place ask).0.progress) (begin_at f slot place ask).0
holds_begun f slot quiet None ask p a role holds = holds
holds_begun f slot quiet (Some place) None p a role holds = holds
holds_begun f slot quiet (Some place) (Some ask) p a role holds =
    let may = begins_of f quiet place ask p a in
    begun_at f slot (remove f.wanted place) f.progress f.closing f.version_used ask role may.lasts may.role
    (subst (λ (n : ℕ). Holds n f) (no_own_room f.progress may.none) holds)

-- ---- the host answers a request, or disconnects

granted : (f : TableFacts) (c : Central) (closing : Closing) (peer : PeerAtCentral) (queue : QueueFacts) (room : ℕ)
    → c.peer ≡ HostAsked → is_host_asked_at_central peer ≡ false
    → (is_open closing ≡ false → queue ≡ f.queue) → waiting_in queue ≤ waiting_in f.queue + 1
    → version_in queue ≡ version_in f.queue
    → room ≤ 1 → Holds room (at f (central c) closing f.version_used)
    → Holds room (record (at f (central (record c { peer = peer })) closing f.version_used) { queue = queue })
granted f c closing peer queue room is gone shut more version room_most holds = by (is_open closing) refl
  where
    was : count_if (is_host_asked_at_central c.peer) ≡ 1
    was = ap (λ (p : PeerAtCentral). count_if (is_host_asked_at_central p)) is

    now : count_if (is_host_asked_at_central peer) ≡ 0
    now = ap count_if gone

    one : count_if f.version_used ≤ 1
    one = at_most_one f.version_used

    by : (b : Bool) → is_open closing ≡ b
        → Holds room (record (at f (central (record c { peer = peer })) closing f.version_used) { queue = queue })
    by true opens =
        let h1 = holds.few opens in
        let h2 = holds.version in
        record {
          few = λ opens. omega (arith, h1, more, was, now, version);
          version = omega (arith, h2, version);
          most = omega (arith, h1, h2, one, more, was, room_most);
        }
    by false closed =
        let h2 = holds.version in
        let h3 = holds.most in
        record {
          few = λ opens. open_or_not closing closed opens;
          version = omega (arith, h2, version);
          most = rw (shut closed) h3;
        }

host_asked_is : (peer : PeerAtCentral) → is_host_asked_at_central peer ≡ true → peer ≡ HostAsked
host_asked_is HostAsked h = refl
host_asked_is other h = absurd (cc)

pub holds_answered : (room : ℕ) (f : TableFacts) (answer : Result Ask ErrCode) → room ≤ 1
    → is_host_asked f.progress ≡ true → Holds room f → Holds room (host_answer_step f answer)
holds_answered room f answer less asked holds = by f.progress answer asked holds
  where
    draft_more : (b : Bool) (draft : Draft)
        → waiting_in (if b then record f.queue { drafts = f.queue.drafts ++ draft ∷ [] } else f.queue)
        ≤ waiting_in f.queue + 1
    draft_more true draft = let h = (with_one f.queue draft).waiting in omega (arith, h)
    draft_more false draft = omega arith

    draft_versions : (b : Bool) (draft : Draft) → is_version_ind draft ≡ false
        → version_in (if b then record f.queue { drafts = f.queue.drafts ++ draft ∷ [] } else f.queue)
        ≡ version_in f.queue
    draft_versions true draft is =
        let h = (with_one f.queue draft).version in
        let none : count_if (is_version_ind draft) ≡ 0 = ap count_if is in
        omega (arith, h, none)
    draft_versions false draft is = refl

    reject_versions : (b : Bool) (rejections : List TheRejection)
        → version_in (if b then record f.queue { rejections = rejections } else f.queue) ≡ version_in f.queue
    reject_versions true rejections = refl
    reject_versions false rejections = refl

    by : (p : Progress) (answer : Result Ask ErrCode) → is_host_asked p ≡ true → Holds room (record f { progress = p })
        → Holds room (host_answer_step (record f { progress = p }) answer)
    by (central c) (Ok (ask_update interval latency timeout)) asked holds =
        granted f c f.closing GrantUnsent _ room (host_asked_is c.peer asked) refl
        (λ shut. shut_reply f.closing (Answer (Grant _)) f.queue shut)
        (draft_more (is_open f.closing) _) (draft_versions (is_open f.closing) _ refl) less holds
    by (central c) (Err code) asked holds =
        granted f c f.closing _ _ room (host_asked_is c.peer asked) refl
        (λ shut. shut_reply f.closing (Reject _) f.queue shut)
        (one_more f.closing (Reject _) f.queue) (reject_versions (is_open f.closing) _) less holds
    by (peripheral q) answer asked holds = absurd (cc)
    by p (Ok other) asked holds = holds

pub holds_disconnected : (room room' : ℕ) (f : TableFacts) (reason : ErrCode) → room ≤ 1 → is_open f.closing ≡ true
    → Holds room f → Holds room' (terminate_step f reason)
holds_disconnected room room' f reason less opens holds =
    let h1 = holds.few opens in
    let h2 = holds.version in
    let one = at_most_one f.version_used in
    record {
      few = λ opens. absurd (cc);
      version = rw opens h2;
      most = rw opens (ended f.queue (omega (arith, h1, h2, one, less)));
    }
  where
    ended : (queue : QueueFacts) → waiting_in queue ≤ 19 → waiting_in (record queue { disconnect = Some reason }) ≤ 20
    ended queue less = omega (arith, less)

-- ---- the layer above queues a PDU of the encryption

was_open_given : (ctrl : Ctrl) (closing : Closing) → is_open (closing_given ctrl closing) ≡ true
    → is_open closing ≡ true
was_open_given (TerminateInd code) Open opens = absurd (cc)
was_open_given (TerminateInd code) Closed opens = absurd (cc)
was_open_given (TerminateInd code) Disconnecting opens = absurd (cc)
was_open_given other closing opens = opens

asked_given : (p : Progress) (ctrl : Ctrl) → is_asked (progress_given p ctrl) false ≡ is_asked p false
asked_given (central c) ctrl = refl
asked_given (peripheral q) ctrl = by (is_rejection ctrl)
  where
    by : (b : Bool) → is_asked (if b then peripheral (record q { encrypting = false }) else peripheral q) false ≡ false
    by true = refl
    by false = refl

module _ (room room' : ℕ) (f : TableFacts) (ctrl : Ctrl) (holds : Holds room f) where
  given_shut : is_open f.closing ≡ false → Holds room' (owe_step f ctrl)
  given_shut shut =
      let h2 = holds.version in
      let h3 = holds.most in
      record {
        few = λ opens. open_or_not f.closing shut (was_open_given ctrl f.closing opens);
        version = rw shut h2;
        most = rw shut h3;
      }

  given_by : (is_open f.closing ≡ true → waiting_in f.queue + 1 ≤ 20)
      → (is_open f.closing ≡ true → waiting_in f.queue + 1 + host_asked f ≤ 17 + room' + version_waiting f)
      → Holds room' (owe_step f ctrl)
  given_by most few = by (is_open f.closing) refl
    where
      by : (b : Bool) → is_open f.closing ≡ b → Holds room' (owe_step f ctrl)
      by true opens =
          let h1 = few opens in
          let h2 = holds.version in
          let h3 = most opens in
          let n1 = (with_one f.queue (Cipher ctrl)).waiting in
          let n2 = (with_one f.queue (Cipher ctrl)).version in
          let n3 : host_asked (owe_step f ctrl) ≡ host_asked f = ap count_if (asked_given f.progress ctrl) in
          record {
            few = λ opens'. rw opens (omega (arith, h1, n1, n2, n3));
            version = rw opens (omega (arith, h2, n2));
            most = rw opens (omega (arith, h3, n1));
          }
      by false shut = given_shut shut

  -- a request of the own encryption
  pub holds_requested : room + 1 ≤ room' → room' ≤ 1 → Holds room' (owe_step f ctrl)
  holds_requested less one =
      given_by
      (λ opens.
      let h1 = holds.few opens in
      let h2 = holds.version in
      let used = at_most_one f.version_used in
      omega (arith, h1, h2, used, less, one))
      (λ opens. let h1 = holds.few opens in omega (arith, h1, less))

  -- an answer, while fewer than sixteen wait
  pub holds_replied : (is_open f.closing ≡ true → waiting_in f.queue < 16) → Holds room' (owe_step f ctrl)
  holds_replied few =
      given_by (λ opens. let h = few opens in omega (arith, h))
      (λ opens. let h = few opens in let one = at_most_one (is_asked f.progress false) in omega (arith, h, one))
