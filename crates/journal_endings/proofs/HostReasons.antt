-- Each LL_TERMINATE_IND that an end queues and sends has a reason that its host may give, or 06 where its host has no key.
use Rattle.std.proofs.Common.{◌≡◌, ℕ, ◌<◌, ◌==◌, ◌&&◌, ◌||◌, Bool, true, false, List, [], ◌∷◌, ◌++◌, length, remove, Option, Some, None, is_some, Result, Ok, Err, refl, ap, sym, subst, arith, if◌then◌else◌}
use Rattle.std.specs.Prelude.{IfSome, sum, ⊤}
use Rattle.std.specs.List.{AllByRecursion}
use Rattle.std.proofs.lemmas.Bool.{eqb-true}
use Rattle.ble_base.specs.ErrorCodes.{pin_or_key_missing}
use Rattle.ble_base.specs.declared.error_codes.ErrCode.{ErrCode}
use Rattle.ble_base.specs.declared.roles.Role.{Role}
use Rattle.ble_base.specs.declared.roles.Role.TheVariants.{Central as central_role, Peripheral as peripheral_role}
use Rattle.data_pdu.specs.declared.ctrl.Ctrl.{Ctrl}
use Rattle.data_pdu.specs.declared.ctrl.Ctrl.TheVariants.{StartEncReq, TerminateInd}
use Rattle.data_pdu.specs.declared.ctrl.CtrlRead.{CtrlRead}
use Rattle.data_pdu.specs.declared.ctrl.CtrlRead.TheVariants.{Known, Unknown}
use Rattle.data_pdu.specs.Layouts.{IsCtrl, Maker, makers, written}
use Rattle.data_pdu.specs.Ranges.{is_in_range}
use Rattle.data_pdu.specs.Reading.{blank_of, ctrl_by, ctrl_of, maker_in, opcode_of, read_by, widths_of}
use Rattle.data_pdu.proofs.Rows.{written_is_known}
use Rattle.instants.specs.declared.indications.Indication.{Indication}
use Rattle.instants.specs.Track.{event_of, next_number}
use Rattle.host_view.specs.Status.{is_reason}
use Rattle.wire_fields.specs.Field.{little_endian}
use Rattle.link_runs.specs.link_pairs.procedure_values.Drafts.{ctrl_of_draft, ctrl_of_outgoing, is_out}
use Rattle.link_runs.specs.link_pairs.procedure_values.declared.asks.Ask.{Ask}
use Rattle.link_runs.specs.link_pairs.procedure_values.declared.asks.Ask.TheVariants.{Update as ask_update, Version as ask_version, Features as ask_features, Encrypt as ask_encrypt}
use Rattle.link_runs.specs.link_pairs.procedure_values.declared.drafts.Draft.{Draft}
use Rattle.link_runs.specs.link_pairs.procedure_values.declared.drafts.Draft.TheVariants.{Cipher, Update}
use Rattle.link_runs.specs.link_pairs.procedure_values.declared.drafts.Outgoing.{Outgoing}
use Rattle.link_runs.specs.link_pairs.procedure_values.declared.drafts.Outgoing.TheVariants.{Disconnect, Nothing, Other, Rejection}
use Rattle.link_runs.specs.link_pairs.procedure_values.declared.drafts.Rejection.{Rejection as TheRejection}
use Rattle.link_runs.specs.link_pairs.procedure_values.declared.lengths.Lengths.{Lengths}
use Rattle.link_runs.specs.link_pairs.procedure_stages.declared.closing.Closing.{Closing}
use Rattle.link_runs.specs.link_pairs.procedure_stages.declared.reply.Reply.{Reply}
use Rattle.link_runs.specs.link_pairs.procedure_stages.declared.reply.Reply.TheVariants.{Answer, Nothing as no_reply, Reject}
use Rattle.link_runs.specs.link_pairs.procedure_stages.declared.stages.Progress.{Progress}
use Rattle.link_runs.specs.link_pairs.procedure_stages.Begun.{draft_begun}
use Rattle.link_runs.specs.link_pairs.procedure_stages.Closing.{is_disconnecting, is_open}
use Rattle.link_runs.specs.link_pairs.procedure_stages.InProgress.{is_host_asked}
use Rattle.link_runs.specs.link_pairs.procedure_stages.Kinds.{role_of}
use Rattle.link_runs.specs.link_pairs.procedure_stages.Queue.{QueueFacts, next_after_rejections, next_by, next_disconnect, next_draft, with_reply, without_next}
use Rattle.link_runs.specs.link_pairs.procedures.Beginning.{ask_at, begin_at, place_to_begin, with_first_draft}
use Rattle.link_runs.specs.link_pairs.procedures.Going.{entered_step, host_answer_step, is_answer, terminate_step}
use Rattle.link_runs.specs.link_pairs.procedures.Queue.{next_of}
use Rattle.link_runs.specs.link_pairs.procedures.Sending.{acked_step, next_ctrl_of}
use Rattle.link_runs.specs.link_pairs.procedures.Table.{TableFacts}
use Rattle.link_runs.specs.link_pairs.procedures.Taking.{facts_with, outcome_of}
use Rattle.link_runs.specs.link_pairs.control_model.Control.{Answers, Asks, Control, Disconnects, Enters, Owes, SeesAcknowledged, Sends, Step as ControlStep, Takes, after, after_all, following, goes_out, indicated_by, is_to_come, table_if, taken, went}
use Rattle.link_runs.proofs.link_pairs.control_model.Calls.{any_step, either_way, took_by}
use Rattle.link_runs.proofs.link_pairs.link_model.table_laws.Outcomes.{is_reply, took}

-- ---- a control PDU, as it is written and as it is read

-- a reason that a host may give (Core 5.2, volume 4 part E, section 7.1.6), or that it has no key after a pause of the
-- encryption (volume 6 part B, section 5.1.3.2)
abbrev pub is_ending : ℕ → Bool
is_ending code = is_reason code || (code == pin_or_key_missing)

pub host_reason : (code : ℕ) → is_reason code ≡ true → is_ending code ≡ true
host_reason code is = ap (λ b. b || (code == pin_or_key_missing)) is

-- LL_TERMINATE_IND has such a reason
abbrev pub SaysReason : Ctrl → Type 0
SaysReason (TerminateInd code) = is_ending code ≡ true
SaysReason other = ⊤

abbrev pub ReadsReason : CtrlRead → Type 0
ReadsReason (Known ctrl) = SaysReason ctrl
ReadsReason other = ⊤

-- the control PDUs that octets with some opcode may be read as
abbrev MakesReason : Option Maker → Type 0
MakesReason None = ⊤
MakesReason (Some make) = (numbers : ℕ → ℕ) → SaysReason (make numbers)

either_read : (b : Bool) (ctrl : Ctrl) (opcode : ℕ) → SaysReason ctrl → ReadsReason (if b then Known ctrl else Unknown opcode)
either_read true ctrl opcode says = says
either_read false ctrl opcode says = tt

made_reads : (found : Option Maker) (opcode : ℕ) (pdu : List ℕ) → MakesReason found → ReadsReason (read_by found opcode pdu)
made_reads None opcode pdu makes = tt
made_reads (Some make) opcode pdu makes =
    either_read ((length pdu == sum (widths_of (blank_of make))) && is_in_range (ctrl_by make pdu)) (ctrl_by make pdu) opcode (makes _)

one_octet : (code n : ℕ) (rest : Bool) → n < 256 → ((rest ≡ true) → code < 256) → ((code == n) || rest) ≡ true → code < 256
one_octet code n rest below later is = by (code == n) refl is
  where
    by : (b : Bool) → (code == n) ≡ b → (b || rest) ≡ true → code < 256
    by true same is = let equal = eqb-true code n same in omega (arith, equal, below)
    by false same is = later is

reason_below : (code : ℕ) → is_reason code ≡ true → code < 256
reason_below code is =
    one_octet code 0x05 _ (omega arith) (one_octet code 0x13 _ (omega arith) (one_octet code 0x14 _ (omega arith) (one_octet code 0x15 _ (omega arith)
    (one_octet code 0x1A _ (omega arith) (one_octet code 0x29 _ (omega arith) (λ last. let equal = eqb-true code 0x3B last in omega (arith, equal))))))) is

ending_below : (code : ℕ) → is_ending code ≡ true → code < 256
ending_below code is = by (is_reason code) refl is
  where
    by : (b : Bool) → is_reason code ≡ b → (b || (code == pin_or_key_missing)) ≡ true → code < 256
    by true host other = reason_below code host
    by false host other = let equal = eqb-true code pin_or_key_missing other in omega (arith, equal)

terminate_fits : (code : ℕ) → code < 256 → IsCtrl (TerminateInd code)
terminate_fits code below = record { range = tt; fits = (omega arith, (omega (arith, below), tt)); six_offsets = tt }

-- what is read of it has the reason that was written
pub reads_reason : (ctrl : Ctrl) → SaysReason ctrl → ReadsReason (ctrl_of (written ctrl))
unfolding ctrl_of makers little_endian
reads_reason (TerminateInd code) says =
    subst ReadsReason (sym (written_is_known (TerminateInd code) (terminate_fits code (ending_below code says)))) says
reads_reason StartEncReq says = made_reads (maker_in makers 0x05) 0x05 (written StartEncReq) (λ numbers. tt)
reads_reason other says = made_reads (maker_in makers (opcode_of other)) (opcode_of other) (written other) (λ numbers. tt)

-- ---- what waits

abbrev pub WaitsWithReason : Draft → Type 0
WaitsWithReason (Cipher ctrl) = SaysReason ctrl
WaitsWithReason other = ⊤

abbrev pub IsReason : ErrCode → Type 0
IsReason code = is_ending code.0 ≡ true

pub record QueuesReasons (queue : QueueFacts) : Type 0 where
  pub disconnect : IfSome queue.disconnect IsReason
  pub drafts : AllByRecursion WaitsWithReason queue.drafts

-- what goes next
draft_says : (draft : Draft) (event skips : ℕ) → WaitsWithReason draft → SaysReason (ctrl_of_draft draft event skips)
draft_says (Cipher ctrl) event skips waits = waits
draft_says (Update params) event skips waits = tt
draft_says other event skips waits = tt

abbrev OutWithReason : Outgoing → Type 0
OutWithReason (Disconnect code) = IsReason code
OutWithReason (Other draft) = WaitsWithReason draft
OutWithReason other = ⊤

disconnect_out : (code : Option ErrCode) → IfSome code IsReason → OutWithReason (next_disconnect code)
disconnect_out None is = tt
disconnect_out (Some code) is = is

unless_held : (held : Bool) (draft : Draft) → WaitsWithReason draft → OutWithReason (if held then Nothing else Other draft)
unless_held true draft is = tt
unless_held false draft is = is

draft_out : (progress : Progress) (event : ℕ) (drafts : List Draft) → AllByRecursion WaitsWithReason drafts → OutWithReason (next_draft progress event drafts)
draft_out progress event [] are = tt
draft_out progress event (draft ∷ drafts) are = unless_held _ draft are.0

after_out : (ends : Bool) (progress : Progress) (event : ℕ) (queue : QueueFacts) → QueuesReasons queue
    → OutWithReason (next_after_rejections ends progress event queue)
after_out true progress event queue has = disconnect_out queue.disconnect has.disconnect
after_out false progress event queue has = draft_out progress event queue.drafts has.drafts

by_out : (rejections : List TheRejection) (other : Outgoing) → OutWithReason other → OutWithReason (next_by rejections other)
by_out [] other is = is
by_out (rejection ∷ rejections) other is = tt

next_out : (f : TableFacts) (event : ℕ) (quiet : Bool) → QueuesReasons f.queue → OutWithReason (next_of f event quiet)
next_out f event quiet has =
    by_out f.queue.rejections _ (after_out (is_disconnecting f.closing && quiet) f.progress event f.queue has)

out_says : (outgoing : Outgoing) (event skips : ℕ) → OutWithReason outgoing → IfSome (ctrl_of_outgoing outgoing event skips) SaysReason
out_says Nothing event skips is = tt
out_says (Rejection rejection) event skips is = tt
out_says (Disconnect code) event skips is = is
out_says (Other draft) event skips is = draft_says draft event skips is

pub next_says : (f : TableFacts) (event skips : ℕ) (quiet : Bool) → QueuesReasons f.queue → IfSome (next_ctrl_of f event skips quiet) SaysReason
next_says f event skips quiet has = out_says (next_of f event quiet) event skips (next_out f event quiet has)

-- ---- what is queued, and what leaves

pushed : (drafts : List Draft) (draft : Draft) → WaitsWithReason draft → AllByRecursion WaitsWithReason drafts
    → AllByRecursion WaitsWithReason (drafts ++ draft ∷ [])
pushed [] draft is are = (is, tt)
pushed (first ∷ drafts) draft is are = (are.0, pushed drafts draft is are.1)

first_gone : (drafts : List Draft) → AllByRecursion WaitsWithReason drafts → AllByRecursion WaitsWithReason (remove drafts 0)
first_gone [] are = tt
first_gone (draft ∷ drafts) are = are.1

left : (outgoing : Outgoing) (queue : QueueFacts) → QueuesReasons queue → QueuesReasons (without_next outgoing queue)
left Nothing queue has = has
left (Rejection rejection) queue has = record { disconnect = has.disconnect; drafts = has.drafts }
left (Disconnect code) queue has = record { disconnect = tt; drafts = has.drafts }
left (Other draft) queue has = record { disconnect = has.disconnect; drafts = first_gone queue.drafts has.drafts }

with_one : (b : Bool) (queue : QueueFacts) (draft : Draft) → WaitsWithReason draft → QueuesReasons queue
    → QueuesReasons (if b then record queue { drafts = queue.drafts ++ draft ∷ [] } else queue)
with_one true queue draft is has = record { disconnect = has.disconnect; drafts = pushed queue.drafts draft is has.drafts }
with_one false queue draft is has = has

rejecting : (b : Bool) (queue : QueueFacts) (rejection : TheRejection) → QueuesReasons queue
    → QueuesReasons (if b then record queue { rejections = queue.rejections ++ rejection ∷ [] } else queue)
rejecting true queue rejection has = record { disconnect = has.disconnect; drafts = has.drafts }
rejecting false queue rejection has = has

ending : (b : Bool) (queue : QueueFacts) (code : ErrCode) → IsReason code → QueuesReasons queue
    → QueuesReasons (if b then record queue { disconnect = Some code } else queue)
ending true queue code is has = record { disconnect = is; drafts = has.drafts }
ending false queue code is has = has

answer_waits : (role : Role) (used : Bool) (draft : Draft) → is_reply role used (Answer draft) ≡ true → WaitsWithReason draft
answer_waits role used (Cipher ctrl) is = absurd (cc)
answer_waits role used draft is = tt

replying : (closing : Closing) (role : Role) (used : Bool) (reply : Reply) (queue : QueueFacts) → is_reply role used reply ≡ true → QueuesReasons queue
    → QueuesReasons (with_reply closing reply queue)
replying closing role used no_reply queue is has = has
replying closing role used (Reject rejection) queue is has = rejecting (is_open closing) queue rejection has
replying closing role used (Answer draft) queue is has = with_one (is_open closing) queue draft (answer_waits role used draft is) has

begun_waits : (closing : Closing) (role : Role) (used : Bool) (lengths : Lengths) (ask : Ask) (queue : QueueFacts) → QueuesReasons queue
    → QueuesReasons (with_first_draft closing (draft_begun role used lengths ask) queue)
begun_waits closing role true lengths ask_version queue has = has
begun_waits closing role false lengths ask_version queue has = with_one (is_open closing) queue _ tt has
begun_waits closing central_role used lengths ask_features queue has = with_one (is_open closing) queue _ tt has
begun_waits closing peripheral_role used lengths ask_features queue has = with_one (is_open closing) queue _ tt has
begun_waits closing role used lengths (ask_encrypt rand ediv ltk skd_m iv_m) queue has = has
begun_waits closing role used lengths ask queue has = with_one (is_open closing) queue _ tt has

-- ---- the steps of the control part

abbrev pub HoldsReasons : Control → Type 0
HoldsReasons c = QueuesReasons c.table.queue

-- the host ends the link with such a reason, and so does the layer above
abbrev pub EndsWithReason : ControlStep → Type 0
EndsWithReason (Disconnects reason) = IsReason reason
EndsWithReason (Owes ctrl) = SaysReason ctrl
EndsWithReason other = ⊤

entered_queue : (f : TableFacts) (holds : Bool) → QueuesReasons f.queue → QueuesReasons (entered_step f holds).0.queue
entered_queue f true has = has
entered_queue f false has = has

begun_queue : (f : TableFacts) (slot : ℕ) (place : Option ℕ) (ask : Option Ask) → QueuesReasons f.queue → QueuesReasons (begin_at f slot place ask).0.queue
begun_queue f slot None ask has = has
begun_queue f slot (Some place) None has = has
begun_queue f slot (Some place) (Some ask) has = begun_waits f.closing (role_of f.progress) f.version_used f.lengths ask f.queue has

answered_queue : (f : TableFacts) (answer : Result Ask ErrCode) → QueuesReasons f.queue → QueuesReasons (host_answer_step f answer).queue
answered_queue f (Ok (ask_update interval latency timeout)) has = with_one (is_open f.closing) f.queue _ tt has
answered_queue f (Ok ask) has = has
answered_queue f (Err code) has = rejecting (is_open f.closing) f.queue _ has

table_holds : (may : Bool) (g : TableFacts) (c : Control) → QueuesReasons g.queue → HoldsReasons c → HoldsReasons (table_if may g c)
table_holds true g c now before = now
table_holds false g c now before = before

following_holds : (role : Role) (indication : Option Indication) (c : Control) → HoldsReasons c → HoldsReasons (following role indication c)
following_holds central_role None c has = has
following_holds central_role (Some indication) c has = has
following_holds peripheral_role indication c has = has

taken_holds : (c : Control) (g : TableFacts) (indication : Option Indication) → QueuesReasons g.queue → HoldsReasons c → HoldsReasons (taken g None indication c)
taken_holds c g None now before = now
taken_holds c g (Some indication) now before = either_way HoldsReasons (is_to_come c.track indication) _ _ now before

pub step_holds : (step : ControlStep) (c : Control) → EndsWithReason step → HoldsReasons c → HoldsReasons (after step c)
step_holds (Enters slot quiet) c is has =
    let f = (entered_step c.table (is_some (next_number c.track))).0 in
    any_step HoldsReasons (Enters slot quiet) c
    (begun_queue f slot (place_to_begin f quiet) (ask_at (place_to_begin f quiet) f.wanted) (entered_queue c.table (is_some (next_number c.track)) has)) has
step_holds (Asks ask) c is has = any_step HoldsReasons (Asks ask) c has has
step_holds (Answers answer) c is has =
    any_step HoldsReasons (Answers answer) c
    (table_holds (is_host_asked c.table.progress && is_answer answer) (host_answer_step c.table answer) c (answered_queue c.table answer has) has) has
step_holds (Disconnects reason) c is has =
    any_step HoldsReasons (Disconnects reason) c
    (table_holds (is_open c.table.closing) (terminate_step c.table reason) c (ending (is_open c.table.closing) c.table.queue reason is has) has) has
step_holds (Sends slot quiet) c is has =
    any_step HoldsReasons (Sends slot quiet) c
    (either_way HoldsReasons (goes_out quiet c) _ c
    (following_holds (role_of c.table.progress) (went slot quiet c).1 (record c { table = (went slot quiet c).0 })
    (left (next_of c.table (event_of c.track) quiet) c.table.queue has)) has) has
step_holds SeesAcknowledged c is has =
    any_step HoldsReasons SeesAcknowledged c (table_holds (is_out c.table.out) (acked_step c.table).0 c has has) has
step_holds (Takes read slot quiet) c is has =
    let outcome = outcome_of c.table quiet read in
    any_step HoldsReasons (Takes read slot quiet) c
    (took_by HoldsReasons c (λ code. has) read slot quiet
    (taken_holds c (facts_with c.table slot outcome) (indicated_by outcome.step.effect)
    (replying c.table.closing (role_of c.table.progress) c.table.version_used outcome.reply c.table.queue (took c.table quiet read).reply has) has)) has
step_holds (Owes ctrl) c is has =
    any_step HoldsReasons (Owes ctrl) c (with_one (is_open c.table.closing) c.table.queue (Cipher ctrl) is has) has

pub steps_hold : (steps : List ControlStep) (c : Control) → AllByRecursion EndsWithReason steps → HoldsReasons c → HoldsReasons (after_all steps c)
steps_hold [] c are has = has
steps_hold (step ∷ steps) c are has = steps_hold steps (after step c) are.1 (step_holds step c are.0 has)
