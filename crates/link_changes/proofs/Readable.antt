-- A central that is asked for values in their ranges sends indications that are read as themselves.
use Rattle.std.proofs.Common.{◌≡◌, ℕ, suc, ◌&&◌, Bool, true, false, if◌then◌else◌, List, [], ◌∷◌, ◌++◌, take, drop, remove, Option, Some, None, is_some, Result, Ok, Err, refl, subst}
use Rattle.std.specs.Prelude.{⊤}
use Rattle.std.specs.List.{All, AllByRecursion}
use Rattle.std.proofs.lemmas.List.Elements.{All-append, All-drop, All-get_or, All-head, All-nil, All-push, All-set, All-tail, All-take}
use Rattle.std.proofs.lemmas.Option.{get_or_from_slice_get, slice_get_within}
use Rattle.ble_base.specs.ChannelMap.{IsMap}
use Rattle.ble_base.specs.ErrorCodes.{instant_passed}
use Rattle.ble_base.specs.declared.error_codes.ErrCode.{ErrCode}
use Rattle.ble_base.specs.declared.procedure_kinds.Kind.TheVariants.{Version}
use Rattle.ble_base.specs.declared.roles.Role.{Role}
use Rattle.ble_base.specs.declared.roles.Role.TheVariants.{Central as central_role, Peripheral as peripheral_role}
use Rattle.data_pdu.specs.declared.ctrl.Ctrl.{Ctrl}
use Rattle.data_pdu.specs.declared.ctrl.Ctrl.TheVariants.{EncReq, EncRsp, PauseEncReq, PauseEncRsp, RejectExtInd, StartEncReq, StartEncRsp, TerminateInd}
use Rattle.instants.specs.declared.indications.Indication.{Indication}
use Rattle.instants.specs.declared.indications.Params.{Params}
use Rattle.instants.specs.Track.{event_of, next_number, track_after_take}
use Rattle.link_model.specs.procedure_values.Asks.{kind_of_ask}
use Rattle.link_model.specs.procedure_values.Drafts.{is_out}
use Rattle.link_model.specs.procedure_values.Values.{IsParams}
use Rattle.link_model.specs.procedure_values.Wants.{place_of, wanted_at, without_place}
use Rattle.link_model.specs.procedure_values.declared.asks.Ask.{Ask}
use Rattle.link_model.specs.procedure_values.declared.asks.Ask.TheVariants.{Update as ask_update, Map as ask_map, Features as ask_features, Version as ask_version, Encrypt as ask_encrypt}
use Rattle.link_model.specs.procedure_values.declared.drafts.Draft.{Draft}
use Rattle.link_model.specs.procedure_values.declared.drafts.Draft.TheVariants.{Cipher, Grant, Map, Update}
use Rattle.link_model.specs.procedure_values.declared.drafts.Outgoing.{Outgoing}
use Rattle.link_model.specs.procedure_values.declared.drafts.Outgoing.TheVariants.{Nothing, Other}
use Rattle.link_model.specs.procedure_values.declared.drafts.Rejection.{Rejection as TheRejection}
use Rattle.link_model.specs.procedure_stages.Begun.{draft_begun, feature_draft}
use Rattle.link_model.specs.procedure_stages.Closing.{is_disconnecting, is_open}
use Rattle.link_model.specs.procedure_stages.InProgress.{is_host_asked}
use Rattle.link_model.specs.procedure_stages.Kinds.{role_of}
use Rattle.link_model.specs.procedure_stages.Queue.{QueueFacts, next_by, next_disconnect, next_draft, with_reply, without_next}
use Rattle.link_model.specs.procedure_stages.Steps.{is_version_effect}
use Rattle.link_model.specs.procedure_stages.declared.closing.Closing.{Closing}
use Rattle.link_model.specs.procedure_stages.declared.reply.Reply.{Reply}
use Rattle.link_model.specs.procedure_stages.declared.reply.Reply.TheVariants.{Answer, Nothing as no_reply, Reject}
use Rattle.link_model.specs.procedure_stages.declared.stages.Progress.{Progress}
use Rattle.link_model.specs.procedures.Beginning.{ask_at, begin_at, begin_step, first_draft, place_to_begin, with_first_draft}
use Rattle.link_model.specs.procedures.Going.{entered_step, host_answer_step, is_answer, terminate_step}
use Rattle.link_model.specs.procedures.Queue.{next_of}
use Rattle.link_model.specs.procedures.Table.{TableFacts}
use Rattle.link_model.specs.procedures.Taking.{facts_with, outcome_of}
use Rattle.link_model.proofs.table_laws.Outcomes.{is_reply, took as took_reply}
use Rattle.link_model.specs.control_model.Control.{Control, Step, Answers, Asks, Disconnects, Enters, Owes, SeesAcknowledged, Sends, Takes, after, after_all, ended, first_control, following, goes_out, indicated_by, is_to_come, moved, table_if, taken, went}
use Rattle.link_model.specs.control_model.Waits.{IsInRange}
use Rattle.link_model.proofs.control_model.Calls.{any_step, either_way, took_by}

-- ---- asks and drafts whose values fit their PDUs

abbrev pub IsGoodAsk : Ask → Type 0
IsGoodAsk (ask_update interval latency timeout) = IsParams (record { interval = interval; latency = latency; timeout = timeout })
IsGoodAsk (ask_map map) = IsMap map
IsGoodAsk other = ⊤

-- the PDUs that an encryption queues
abbrev pub IsOwed : Ctrl → Type 0
IsOwed (EncReq rand ediv skd_m iv_m) = ⊤
IsOwed (EncRsp skd_s iv_s) = ⊤
IsOwed StartEncReq = ⊤
IsOwed StartEncRsp = ⊤
IsOwed PauseEncReq = ⊤
IsOwed PauseEncRsp = ⊤
IsOwed (RejectExtInd opcode code) = ⊤
IsOwed (TerminateInd code) = ⊤
IsOwed other = ⊥

abbrev pub IsGoodDraft : Draft → Type 0
IsGoodDraft (Update params) = IsParams params
IsGoodDraft (Grant params) = IsParams params
IsGoodDraft (Map map) = IsMap map
IsGoodDraft (Cipher ctrl) = IsOwed ctrl
IsGoodDraft other = ⊤

-- a step in which they do
abbrev pub HasMap : Step → Type 0
HasMap (Asks (ask_map map)) = IsMap map
HasMap (Owes ctrl) = IsOwed ctrl
HasMap other = ⊤

abbrev pub IsGood : Step → Type 0
IsGood step = IsInRange step × HasMap step

good_ask : (ask : Ask) → IsGood (Asks ask) → IsGoodAsk ask
good_ask (ask_update interval latency timeout) is = is.0
good_ask (ask_map map) is = is.1
good_ask other is = tt

pub record Readable (f : TableFacts) : Type 0 where
  pub wanted : All IsGoodAsk f.wanted
  pub drafts : All IsGoodDraft f.queue.drafts

-- ---- what waits

with_draft : (b : Bool) (queue : QueueFacts) (draft : Draft) → IsGoodDraft draft → All IsGoodDraft queue.drafts
    → All IsGoodDraft (if b then record queue { drafts = queue.drafts ++ draft ∷ [] } else queue).drafts
with_draft true queue draft is all = All-push IsGoodDraft queue.drafts draft all is
with_draft false queue draft is all = all

with_rejection : (b : Bool) (queue : QueueFacts) (rejection : TheRejection) → All IsGoodDraft queue.drafts
    → All IsGoodDraft (if b then record queue { rejections = queue.rejections ++ rejection ∷ [] } else queue).drafts
with_rejection true queue rejection all = all
with_rejection false queue rejection all = all

with_end : (b : Bool) (queue : QueueFacts) (code : ErrCode) → All IsGoodDraft queue.drafts
    → All IsGoodDraft (if b then record queue { disconnect = Some code } else queue).drafts
with_end true queue code all = all
with_end false queue code all = all

good_answer : (role : Role) (used : Bool) (draft : Draft) → is_reply role used (Answer draft) ≡ true → IsGoodDraft draft
good_answer role used (Update params) is = absurd (cc)
good_answer role used (Grant params) is = absurd (cc)
good_answer role used (Map map) is = absurd (cc)
good_answer role used (Cipher ctrl) is = absurd (cc)
good_answer role used other is = tt

replying : (closing : Closing) (role : Role) (used : Bool) (reply : Reply) (queue : QueueFacts) → is_reply role used reply ≡ true → All IsGoodDraft queue.drafts
    → All IsGoodDraft (with_reply closing reply queue).drafts
replying closing role used no_reply queue is all = all
replying closing role used (Reject rejection) queue is all = with_rejection (is_open closing) queue rejection all
replying closing role used (Answer draft) queue is all = with_draft (is_open closing) queue draft (good_answer role used draft is) all

-- ---- what is wanted

wanted_more : (place : Option ℕ) (ask : Ask) (asks : List Ask) → IsGoodAsk ask → All IsGoodAsk asks → All IsGoodAsk (wanted_at place ask asks)
wanted_more None ask asks is all = All-push IsGoodAsk asks ask all is
wanted_more (Some place) ask asks is all = All-set IsGoodAsk asks place ask is all

removed : (asks : List Ask) (place : ℕ) → All IsGoodAsk asks → All IsGoodAsk (remove asks place)
removed asks place all =
    All-append IsGoodAsk (take place asks) (drop (suc place) asks) (All-take IsGoodAsk place asks all) (All-drop IsGoodAsk (suc place) asks all)

wanted_less : (b : Bool) (place : Option ℕ) (asks : List Ask) → All IsGoodAsk asks → All IsGoodAsk (if b then without_place place asks else asks)
wanted_less true None asks all = all
wanted_less true (Some place) asks all = removed asks place all
wanted_less false place asks all = all

-- ---- a procedure begins

first_good : (f : TableFacts) (ask : Ask) → IsGoodAsk ask → All IsGoodDraft f.queue.drafts
    → All IsGoodDraft (with_first_draft f.closing (first_draft f ask) f.queue).drafts
first_good f (ask_update interval latency timeout) is all = with_draft (is_open f.closing) f.queue _ is all
first_good f (ask_map map) is all = with_draft (is_open f.closing) f.queue _ is all
first_good f ask_version is all = by f.version_used
  where
    by : (used : Bool) → All IsGoodDraft (with_first_draft f.closing (draft_begun (role_of f.progress) used f.lengths ask_version) f.queue).drafts
    by true = all
    by false = with_draft (is_open f.closing) f.queue _ tt all
first_good f ask_features is all = with_draft (is_open f.closing) f.queue _ (by (role_of f.progress)) all
  where
    by : (role : Role) → IsGoodDraft (feature_draft role)
    by central_role = tt
    by peripheral_role = tt
first_good f (ask_encrypt rand ediv ltk skd_m iv_m) is all = all
first_good f other is all = with_draft (is_open f.closing) f.queue _ tt all

begun_at : (f : TableFacts) (slot : ℕ) (place : Option ℕ) (ask : Option Ask) → ask_at place f.wanted ≡ ask → Readable f → Readable (begin_at f slot place ask).0
begun_at f slot None ask is r = r
begun_at f slot (Some place) None is r = r
begun_at f slot (Some place) (Some ask) is r = record { wanted = removed f.wanted place r.wanted; drafts = first_good f ask good r.drafts }
  where
    good : IsGoodAsk ask
    good =
        subst IsGoodAsk (get_or_from_slice_get f.wanted place ask ask is)
        (All-get_or IsGoodAsk f.wanted place ask (slice_get_within f.wanted place ask is) r.wanted)

begins : (f : TableFacts) (slot : ℕ) (quiet : Bool) → Readable f → Readable (begin_step f slot quiet).0
begins f slot quiet r = begun_at f slot (place_to_begin f quiet) (ask_at (place_to_begin f quiet) f.wanted) refl r

holds : (f : TableFacts) (applied : Bool) → Readable f → Readable (entered_step f applied).0
holds f true r = record { wanted = r.wanted; drafts = r.drafts }
holds f false r = r

-- ---- what is sent next

pub record Goes (queue : QueueFacts) (outgoing : Outgoing) : Type 0 where
  pub draft : (draft : Draft) → outgoing ≡ Other draft → IsGoodDraft draft
  pub rest : All IsGoodDraft (without_next outgoing queue).drafts

module _ (progress : Progress) (event : ℕ) (queue : QueueFacts) (all : All IsGoodDraft queue.drafts) where
  by_draft : (draft : Draft) (rest : List Draft) (b : Bool) → queue.drafts ≡ draft ∷ rest → Goes queue (if b then Nothing else Other draft)
  by_draft draft rest true is = record { draft = λ other same. absurd (cc); rest = all }
  by_draft draft rest false is =
      let both = subst (All IsGoodDraft) is all in record {
        draft = λ other same. let one : draft ≡ other = cc in subst IsGoodDraft one (All-head IsGoodDraft draft rest both);
        rest = rw is (All-tail IsGoodDraft draft rest both);
      }

  by_drafts : (drafts : List Draft) → queue.drafts ≡ drafts → Goes queue (next_draft progress event drafts)
  by_drafts [] is = record { draft = λ other same. absurd (cc); rest = all }
  by_drafts (draft ∷ rest) is = by_draft draft rest _ is

  by_disconnect : (b : Bool) → Goes queue (if b then next_disconnect queue.disconnect else next_draft progress event queue.drafts)
  by_disconnect true = by queue.disconnect
    where
      by : (disconnect : Option _) → Goes queue (next_disconnect disconnect)
      by None = record { draft = λ other same. absurd (cc); rest = all }
      by (Some code) = record { draft = λ other same. absurd (cc); rest = all }
  by_disconnect false = by_drafts queue.drafts refl

  by_rejections : (rejections : List TheRejection) (other : Outgoing) → Goes queue other → Goes queue (next_by rejections other)
  by_rejections [] other h = h
  by_rejections (rejection ∷ rest) other h = record { draft = λ draft same. absurd (cc); rest = all }

pub next_goes : (f : TableFacts) (event : ℕ) (quiet : Bool) → All IsGoodDraft f.queue.drafts → Goes f.queue (next_of f event quiet)
next_goes f event quiet all =
    by_rejections f.progress event f.queue all f.queue.rejections _ (by_disconnect f.progress event f.queue all (is_disconnecting f.closing && quiet))

-- ---- every step

abbrev Reads : Control → Type 0
Reads c = Readable c.table

reads_if : (b : Bool) (g : TableFacts) (c : Control) → Reads c → Readable g → Reads (table_if b g c)
reads_if true g c r next = next
reads_if false g c r next = r

answered : (f : TableFacts) (answer : Result Ask ErrCode) → Readable f → IsInRange (Answers answer) → Readable (host_answer_step f answer)
answered f (Ok (ask_update interval latency timeout)) r is = record { wanted = r.wanted; drafts = with_draft (is_open f.closing) f.queue _ is r.drafts }
answered f (Ok other) r is = r
answered f (Err code) r is = record { wanted = r.wanted; drafts = with_rejection (is_open f.closing) f.queue _ r.drafts }

follows_own : (role : Role) (indication : Option Indication) (c : Control) → Reads c → Reads (following role indication c)
follows_own central_role None c r = r
follows_own central_role (Some indication) c r = r
follows_own peripheral_role indication c r = r

takes_by : (c : Control) (g : TableFacts) (indication : Option Indication) → Reads c → Readable g → Reads (taken g None indication c)
takes_by c g None r next = next
takes_by c g (Some indication) r next = by (is_to_come c.track indication)
  where
    by : (b : Bool) → Reads (if b then record c { table = g; track = track_after_take c.track indication } else ended (record { 0 = instant_passed }) c)
    by true = next
    by false = r

moves : (step : Step) (c : Control) → IsGood step → Reads c → Reads (moved step c)
moves (Enters slot quiet) c is r =
    begins (entered_step c.table (is_some (next_number c.track))).0 slot quiet (holds c.table (is_some (next_number c.track)) r)
moves (Asks ask) c is r =
    record { wanted = wanted_more (place_of (kind_of_ask ask) c.table.wanted) ask c.table.wanted (good_ask ask is) r.wanted; drafts = r.drafts }
moves (Answers answer) c is r = reads_if (is_host_asked c.table.progress && is_answer answer) _ c r (answered c.table answer r is.0)
moves (Disconnects reason) c is r =
    reads_if (is_open c.table.closing) (terminate_step c.table reason) c r
    (record { wanted = r.wanted; drafts = with_end (is_open c.table.closing) c.table.queue reason r.drafts })
moves (Sends slot quiet) c is r =
    either_way Reads (goes_out quiet c) _ c
    (follows_own (role_of c.table.progress) (went slot quiet c).1 (record c { table = (went slot quiet c).0 })
    (record { wanted = r.wanted; drafts = (next_goes c.table (event_of c.track) quiet r.drafts).rest }))
    r
moves SeesAcknowledged c is r = reads_if (is_out c.table.out) _ c r (record { wanted = r.wanted; drafts = r.drafts })
moves (Takes read slot quiet) c is r =
    let o = outcome_of c.table quiet read in
    took_by Reads c (λ code. r) read slot quiet
    (takes_by c (facts_with c.table slot o) (indicated_by o.step.effect) r (record {
      wanted = wanted_less (is_version_effect o.step.effect) (place_of Version c.table.wanted) c.table.wanted r.wanted;
      drafts = replying c.table.closing (role_of c.table.progress) c.table.version_used o.reply c.table.queue (took_reply c.table quiet read).reply r.drafts;
    }))
moves (Owes ctrl) c is r =
    record { wanted = r.wanted; drafts = with_draft (is_open c.table.closing) c.table.queue (Cipher ctrl) is.1 r.drafts }

all_read : (steps : List Step) (c : Control) → AllByRecursion IsGood steps → Reads c → Reads (after_all steps c)
all_read [] c are r = r
all_read (step ∷ steps) c are r = all_read steps (after step c) are.1 (any_step Reads step c (moves step c are.0 r) r)

pub reads : (role : Role) (max_rx : ℕ) (first : Params) (slot : ℕ) (steps : List Step) → AllByRecursion IsGood steps
    → Readable (after_all steps (first_control role max_rx first slot)).table
reads role max_rx first slot steps are =
    all_read steps (first_control role max_rx first slot) are (record { wanted = All-nil IsGoodAsk; drafts = All-nil IsGoodDraft })
