-- A PDU of an encryption that waits at an end is one that the layer above queues, in all phases of encryption.
use Rattle.std.proofs.Common.{◌≡◌, ℕ, ◌&&◌, Bool, true, false, List, [], ◌∷◌, ◌++◌, fold, remove, Option, Some, None, is_some, if◌then◌else◌, Result, Ok, Err, refl}
use Rattle.std.specs.Prelude.{⊤}
use Rattle.std.specs.List.{All, AllByRecursion}
use Rattle.std.proofs.lemmas.List.Elements.{All-nil, All-push, All-tail}
use Rattle.ble_base.specs.declared.error_codes.ErrCode.{ErrCode}
use Rattle.ble_base.specs.declared.roles.Role.{Role}
use Rattle.ble_base.specs.declared.roles.Role.TheVariants.{Central as central_role, Peripheral as peripheral_role}
use Rattle.data_pdu.specs.declared.ctrl.CtrlRead.{CtrlRead}
use Rattle.data_pdu.specs.declared.ctrl.CtrlRead.TheVariants.{Unknown}
use Rattle.instants.specs.Track.{event_of, next_number}
use Rattle.instants.specs.declared.indications.Indication.{Indication}
use Rattle.link_model.specs.End.{facts_after, facts_of}
use Rattle.link_model.specs.Facts.{Facts, first_facts, keyed_of}
use Rattle.link_model.specs.KeyedSteps.{keyed_steps_in}
use Rattle.link_model.specs.Setup.{Setup}
use Rattle.link_model.specs.Step.{Step as EndStep}
use Rattle.link_model.specs.keyed_control.KeyedSteps.{KeyedStep, Takes as keyed_takes}
use Rattle.link_model.specs.control_model.Control.{Control, Step, Answers, Asks, Disconnects, Enters, Owes, SeesAcknowledged, Sends, Takes, after, following, goes_out, indicated_by, is_to_come, moved, table_if, taken, went}
use Rattle.link_model.specs.procedure_values.Drafts.{is_out}
use Rattle.link_model.specs.procedure_values.declared.asks.Ask.{Ask}
use Rattle.link_model.specs.procedure_values.declared.asks.Ask.TheVariants.{Encrypt as ask_encrypt, Features as ask_features, Update as ask_update, Version as ask_version}
use Rattle.link_model.specs.procedure_values.declared.drafts.Draft.{Draft}
use Rattle.link_model.specs.procedure_values.declared.drafts.Draft.TheVariants.{Cipher}
use Rattle.link_model.specs.procedure_values.declared.drafts.Outgoing.{Outgoing}
use Rattle.link_model.specs.procedure_values.declared.drafts.Outgoing.TheVariants.{Disconnect, Nothing, Other, Rejection}
use Rattle.link_model.specs.procedure_values.declared.drafts.Rejection.{Rejection as TheRejection}
use Rattle.link_model.specs.procedure_stages.Begun.{draft_begun, feature_draft}
use Rattle.link_model.specs.procedure_stages.Closing.{is_open}
use Rattle.link_model.specs.procedure_stages.InProgress.{is_host_asked}
use Rattle.link_model.specs.procedure_stages.Kinds.{role_of}
use Rattle.link_model.specs.procedure_stages.Queue.{QueueFacts, with_reply, without_next}
use Rattle.link_model.specs.procedure_stages.declared.closing.Closing.{Closing}
use Rattle.link_model.specs.procedure_stages.declared.reply.Reply.{Reply}
use Rattle.link_model.specs.procedure_stages.declared.reply.Reply.TheVariants.{Answer, Nothing as no_reply, Reject}
use Rattle.link_model.specs.procedures.Beginning.{ask_at, begin_at, first_draft, place_to_begin, with_first_draft}
use Rattle.link_model.specs.procedures.Going.{entered_step, host_answer_step, is_answer, terminate_step}
use Rattle.link_model.specs.procedures.Queue.{next_of}
use Rattle.link_model.specs.procedures.Sending.{acked_step}
use Rattle.link_model.specs.procedures.Table.{TableFacts}
use Rattle.link_model.specs.procedures.Taking.{facts_with, outcome_of}
use Rattle.link_model.proofs.KnownEnds.{IsPast, first_past, step_past}
use Rattle.link_model.proofs.Views.{MayOwe, is_ciphering}
use Rattle.link_model.proofs.control_model.Calls.{any_step, either_way, took_by}
use Rattle.link_model.proofs.table_laws.Outcomes.{is_reply, took as took_reply}
use Rattle.link_answers.proofs.EachPhase.{Keeps, MayCome, MayMake, end_keeps}

abbrev pub MayWait : Draft → Type 0
MayWait (Cipher ctrl) = is_ciphering ctrl ≡ true
MayWait draft = ⊤

abbrev pub MayAllWait : TableFacts → Type 0
MayAllWait f = All MayWait f.queue.drafts

-- ---- what waits

with_one : (opened : Bool) (queue : QueueFacts) (draft : Draft) → MayWait draft → All MayWait queue.drafts
    → All MayWait (if opened then record queue { drafts = queue.drafts ++ draft ∷ [] } else queue).drafts
with_one true queue draft is all = All-push MayWait queue.drafts draft all is
with_one false queue draft is all = all

with_rejection : (opened : Bool) (queue : QueueFacts) (rejection : TheRejection) → All MayWait queue.drafts
    → All MayWait (if opened then record queue { rejections = queue.rejections ++ rejection ∷ [] } else queue).drafts
with_rejection true queue rejection all = all
with_rejection false queue rejection all = all

with_end : (opened : Bool) (queue : QueueFacts) (code : ErrCode) → All MayWait queue.drafts
    → All MayWait (if opened then record queue { disconnect = Some code } else queue).drafts
with_end true queue code all = all
with_end false queue code all = all

answer_waits : (role : Role) (used : Bool) (draft : Draft) → is_reply role used (Answer draft) ≡ true → MayWait draft
answer_waits role used (Cipher ctrl) is = absurd (cc)
answer_waits role used other is = tt

replying : (closing : Closing) (role : Role) (used : Bool) (reply : Reply) (queue : QueueFacts) → is_reply role used reply ≡ true
    → All MayWait queue.drafts → All MayWait (with_reply closing reply queue).drafts
replying closing role used no_reply queue is all = all
replying closing role used (Reject rejection) queue is all = with_rejection (is_open closing) queue rejection all
replying closing role used (Answer draft) queue is all = with_one (is_open closing) queue draft (answer_waits role used draft is) all

less_one : (drafts : List Draft) → All MayWait drafts → All MayWait (remove drafts 0)
less_one [] all = all
less_one (draft ∷ drafts) all = All-tail MayWait draft drafts all

without : (outgoing : Outgoing) (queue : QueueFacts) → All MayWait queue.drafts → All MayWait (without_next outgoing queue).drafts
without Nothing queue all = all
without (Rejection rejection) queue all = all
without (Disconnect code) queue all = all
without (Other draft) queue all = less_one queue.drafts all

-- ---- a procedure begins

feature_waits : (role : Role) → MayWait (feature_draft role)
feature_waits central_role = tt
feature_waits peripheral_role = tt

first_waits : (f : TableFacts) (ask : Ask) → MayAllWait f → All MayWait (with_first_draft f.closing (first_draft f ask) f.queue).drafts
first_waits f ask_version all = by f.version_used
  where
    by : (used : Bool) → All MayWait (with_first_draft f.closing (draft_begun (role_of f.progress) used f.lengths ask_version) f.queue).drafts
    by true = all
    by false = with_one (is_open f.closing) f.queue _ tt all
first_waits f ask_features all = with_one (is_open f.closing) f.queue (feature_draft (role_of f.progress)) (feature_waits (role_of f.progress)) all
first_waits f (ask_encrypt rand ediv ltk skd_m iv_m) all = all
first_waits f other all = with_one (is_open f.closing) f.queue _ tt all

begun_waits : (f : TableFacts) (slot : ℕ) (place : Option ℕ) (ask : Option Ask) → MayAllWait f → MayAllWait (begin_at f slot place ask).0
begun_waits f slot None ask all = all
begun_waits f slot (Some place) None all = all
begun_waits f slot (Some place) (Some ask) all = first_waits f ask all

entered_waits : (f : TableFacts) (holds : Bool) → MayAllWait f → MayAllWait (entered_step f holds).0
entered_waits f true all = all
entered_waits f false all = all

answered_waits : (f : TableFacts) (answer : Result Ask ErrCode) → MayAllWait f → MayAllWait (host_answer_step f answer)
answered_waits f (Ok (ask_update interval latency timeout)) all = with_one (is_open f.closing) f.queue _ tt all
answered_waits f (Ok other) all = all
answered_waits f (Err code) all = with_rejection (is_open f.closing) f.queue _ all

-- ---- every step of the control part

-- whatever is read
abbrev none_opens : CtrlRead → Bool
none_opens read = false

none_unknown : (opcode : ℕ) → none_opens (Unknown opcode) ≡ false
none_unknown opcode = refl

abbrev Waits : Control → Type 0
Waits c = MayAllWait c.table

table_waits : (may : Bool) (g : TableFacts) (c : Control) → MayAllWait g → Waits c → Waits (table_if may g c)
table_waits true g c now before = now
table_waits false g c now before = before

follows : (role : Role) (indication : Option Indication) (c : Control) → Waits c → Waits (following role indication c)
follows central_role None c all = all
follows central_role (Some indication) c all = all
follows peripheral_role indication c all = all

taken_waits : (g : TableFacts) (indication : Option Indication) (c : Control) → MayAllWait g → Waits c → Waits (taken g None indication c)
taken_waits g None c now before = now
taken_waits g (Some indication) c now before = either_way Waits (is_to_come c.track indication) _ _ now before

moves : (step : Step) (c : Control) → MayCome none_opens step → Waits c → Waits (moved step c)
moves (Enters slot quiet) c is all =
    let f = (entered_step c.table (is_some (next_number c.track))).0 in
    begun_waits f slot (place_to_begin f quiet) (ask_at (place_to_begin f quiet) f.wanted) (entered_waits c.table (is_some (next_number c.track)) all)
moves (Asks ask) c is all = all
moves (Answers answer) c is all =
    table_waits (is_host_asked c.table.progress && is_answer answer) (host_answer_step c.table answer) c (answered_waits c.table answer all) all
moves (Disconnects reason) c is all =
    table_waits (is_open c.table.closing) (terminate_step c.table reason) c (with_end (is_open c.table.closing) c.table.queue reason all) all
moves (Sends slot quiet) c is all =
    either_way Waits (goes_out quiet c) _ c
    (follows (role_of c.table.progress) (went slot quiet c).1 (record c { table = (went slot quiet c).0 })
    (without (next_of c.table (event_of c.track) quiet) c.table.queue all)) all
moves SeesAcknowledged c is all = table_waits (is_out c.table.out) (acked_step c.table).0 c all all
moves (Takes read slot quiet) c is all =
    let o = outcome_of c.table quiet read in
    took_by Waits c (λ code. all) read slot quiet
    (taken_waits (facts_with c.table slot o) (indicated_by o.step.effect) c
    (replying c.table.closing (role_of c.table.progress) c.table.version_used o.reply c.table.queue (took_reply c.table quiet read).reply all) all)
moves (Owes ctrl) c is all = with_one (is_open c.table.closing) c.table.queue (Cipher ctrl) is all

stays : (step : Step) (c : Control) → MayCome none_opens step → Waits c → Waits (after step c)
stays step c may all = any_step Waits step c (moves step c may all) all

-- ---- every step of an end

-- what an end has, and that what waits is such
abbrev pub WaitsAt : Facts → Type 0
WaitsAt facts = Keeps none_opens Waits (keyed_of facts).phased

may_be : (step : KeyedStep) → MayMake none_opens step
may_be (keyed_takes read slot response) = refl
may_be other = tt

all_may : (steps : List KeyedStep) → AllByRecursion (MayMake none_opens) steps
all_may [] = tt
all_may (step ∷ steps) = (may_be step, all_may steps)

steps_wait : (setup : Setup) (facts : Facts) (steps : List EndStep) → IsPast setup facts → WaitsAt facts
    → WaitsAt (fold (facts_after setup) facts steps)
steps_wait setup facts [] p w = w
steps_wait setup facts (step ∷ steps) p w =
    steps_wait setup (facts_after setup facts step) steps (step_past setup facts step p)
    (end_keeps none_opens none_unknown Waits stays (λ code. λ c. λ all. all) setup facts step p (all_may (keyed_steps_in setup facts step)) w)

past_waits : (setup : Setup) (past : List EndStep) → WaitsAt (facts_of setup past)
unfolding facts_of
past_waits setup past =
    steps_wait setup (first_facts setup) past (first_past setup)
    (record { control = All-nil MayWait; hand = record { kept = refl; request = tt } })

pub past_may_wait : (setup : Setup) (past : List EndStep) → MayAllWait (facts_of setup past).control.table
past_may_wait setup past = (past_waits setup past).control

pub past_request : (setup : Setup) (past : List EndStep) → MayOwe (facts_of setup past).encryption.request
past_request setup past = (past_waits setup past).hand.request
