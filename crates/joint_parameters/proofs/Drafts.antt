-- No PDU of the encryption that waits at a central is an indication: what each step of the control part leaves of that.
use Rattle.std.proofs.Common.{◌≡◌, ℕ, Bool, true, false, not, ◌&&◌, if◌then◌else◌, List, [], ◌∷◌, ◌++◌, Option, Some, None, is_none, is_some, Result, Ok, Err, refl}
use Rattle.std.specs.Prelude.{⊤}
use Rattle.std.specs.List.{All}
use Rattle.std.proofs.lemmas.List.Elements.{All-drop, All-head, All-push}
use Rattle.ble_base.specs.declared.error_codes.ErrCode.{ErrCode}
use Rattle.ble_base.specs.declared.roles.Role.{Role}
use Rattle.ble_base.specs.declared.roles.Role.TheVariants.{Central as central_role, Peripheral as peripheral_role}
use Rattle.instants.specs.declared.indications.Indication.{Indication}
use Rattle.instants.specs.Track.{event_of, next_number}
use Rattle.joint_controls.specs.procedure_values.declared.asks.Ask.{Ask}
use Rattle.joint_controls.specs.procedure_values.declared.asks.Ask.TheVariants.{Update as ask_update, Features as ask_features, Version as ask_version, Encrypt as ask_encrypt}
use Rattle.joint_controls.specs.procedure_values.declared.drafts.Draft.{Draft}
use Rattle.joint_controls.specs.procedure_values.declared.drafts.Outgoing.{Outgoing}
use Rattle.joint_controls.specs.procedure_values.declared.drafts.Outgoing.TheVariants.{Nothing, Rejection, Disconnect, Other}
use Rattle.joint_controls.specs.procedure_values.declared.drafts.Rejection.{Rejection as TheRejection}
use Rattle.joint_controls.specs.procedure_values.Drafts.{is_out, waits_for_instant}
use Rattle.joint_controls.specs.procedure_stages.declared.closing.Closing.{Closing}
use Rattle.joint_controls.specs.procedure_stages.declared.reply.Reply.{Reply}
use Rattle.joint_controls.specs.procedure_stages.declared.reply.Reply.TheVariants.{Nothing as no_reply, Reject, Answer}
use Rattle.joint_controls.specs.procedure_stages.Begun.{draft_begun, feature_draft}
use Rattle.joint_controls.specs.procedure_stages.Closing.{is_disconnecting, is_open}
use Rattle.joint_controls.specs.procedure_stages.InProgress.{is_host_asked}
use Rattle.joint_controls.specs.procedure_stages.Kinds.{role_of}
use Rattle.joint_controls.specs.procedure_stages.Queue.{QueueFacts, is_past_instant, next_by, next_disconnect, next_draft, with_reply, without_next}
use Rattle.joint_controls.specs.procedures.Beginning.{ask_at, begin_at, first_draft, place_to_begin, with_first_draft}
use Rattle.joint_controls.specs.procedures.Going.{entered_step, host_answer_step, is_answer}
use Rattle.joint_controls.specs.procedures.Queue.{next_of}
use Rattle.joint_controls.specs.procedures.Sending.{acked_step}
use Rattle.joint_controls.specs.procedures.Table.{TableFacts}
use Rattle.joint_controls.specs.procedures.Taking.{facts_with, outcome_of}
use Rattle.joint_controls.specs.control_model.Control.{Control, Step, Enters, Asks, Answers, Disconnects, Sends, SeesAcknowledged, Takes, Owes, after, after_all, following, goes_out, indicated_by, is_to_come, moved, taken, table_if, went}
use Rattle.joint_controls.proofs.control_model.Calls.{any_step, either_way, took_by}
use Rattle.joint_parameters.specs.Indications.{indication_in}
use Rattle.joint_parameters.proofs.Outcomes.{IsPlain, IsPlainReply, reads}

abbrev pub ArePlain : QueueFacts → Type 0
ArePlain queue = All IsPlain queue.drafts

abbrev pub HasPlain : Control → Type 0
HasPlain c = ArePlain c.table.queue

-- what the layer above queues is no indication
abbrev pub IsPlainStep : Step → Type 0
IsPlainStep (Owes ctrl) = is_none (indication_in ctrl) ≡ true
IsPlainStep step = ⊤

abbrev pub ArePlainSteps : List Step → Type 0
ArePlainSteps [] = ⊤
ArePlainSteps (step ∷ steps) = IsPlainStep step × ArePlainSteps steps

-- ---- queueing

plain_with : (b : Bool) (queue : QueueFacts) (draft : Draft) → ArePlain queue → IsPlain draft
    → ArePlain (if b then record queue { drafts = queue.drafts ++ draft ∷ [] } else queue)
plain_with true queue draft all is = All-push IsPlain queue.drafts draft all is
plain_with false queue draft all is = all

plain_rejecting : (b : Bool) (queue : QueueFacts) (rejection : TheRejection) → ArePlain queue
    → ArePlain (if b then record queue { rejections = queue.rejections ++ rejection ∷ [] } else queue)
plain_rejecting true queue rejection all = all
plain_rejecting false queue rejection all = all

plain_ending : (b : Bool) (queue : QueueFacts) (code : ErrCode) → ArePlain queue
    → ArePlain (if b then record queue { disconnect = Some code } else queue)
plain_ending true queue code all = all
plain_ending false queue code all = all

plain_replying : (closing : Closing) (reply : Reply) (queue : QueueFacts) → ArePlain queue → IsPlainReply reply → ArePlain (with_reply closing reply queue)
plain_replying closing no_reply queue all is = all
plain_replying closing (Reject rejection) queue all is = plain_rejecting (is_open closing) queue rejection all
plain_replying closing (Answer draft) queue all is = plain_with (is_open closing) queue draft all is

-- ---- a procedure begins

first_plain : (f : TableFacts) (queue : QueueFacts) (ask : Ask) → ArePlain queue → ArePlain (with_first_draft f.closing (first_draft f ask) queue)
first_plain f queue ask_version all = by f.version_used
  where
    by : (used : Bool) → ArePlain (with_first_draft f.closing (draft_begun (role_of f.progress) used f.lengths ask_version) queue)
    by true = all
    by false = plain_with (is_open f.closing) queue _ all refl
first_plain f queue ask_features all = plain_with (is_open f.closing) queue _ all (by (role_of f.progress))
  where
    by : (role : Role) → IsPlain (feature_draft role)
    by central_role = refl
    by peripheral_role = refl
first_plain f queue (ask_encrypt rand ediv ltk skd_m iv_m) all = all
first_plain f queue other all = plain_with (is_open f.closing) queue _ all refl

begun_plain : (f : TableFacts) (slot : ℕ) (place : Option ℕ) (ask : Option Ask) → ArePlain f.queue → ArePlain (begin_at f slot place ask).0.queue
begun_plain f slot None ask all = all
begun_plain f slot (Some place) None all = all
begun_plain f slot (Some place) (Some ask) all = first_plain f f.queue ask all

entered_plain : (b : Bool) (f : TableFacts) → ArePlain f.queue → ArePlain (entered_step f b).0.queue
entered_plain true f all = all
entered_plain false f all = all

-- ---- a PDU goes

abbrev pub IsPlainOut : Outgoing → Type 0
IsPlainOut (Other draft) = IsPlain draft
IsPlainOut outgoing = ⊤

module _ (f : TableFacts) (event : ℕ) (quiet : Bool) (all : ArePlain f.queue) where
  by_draft : (drafts : List Draft) → All IsPlain drafts → IsPlainOut (next_draft f.progress event drafts)
  by_draft [] plain = tt
  by_draft (draft ∷ drafts) plain = by (waits_for_instant draft && not (is_past_instant f.progress event))
    where
      by : (b : Bool) → IsPlainOut (if b then Nothing else Other draft)
      by true = tt
      by false = All-head IsPlain draft drafts plain

  by_disconnect : (b : Bool) → IsPlainOut (if b then next_disconnect f.queue.disconnect else next_draft f.progress event f.queue.drafts)
  by_disconnect true = by f.queue.disconnect
    where
      by : (code : Option ErrCode) → IsPlainOut (next_disconnect code)
      by None = tt
      by (Some code) = tt
  by_disconnect false = by_draft f.queue.drafts all

  by_rejections : (rejections : List TheRejection) (other : Outgoing) → IsPlainOut other → IsPlainOut (next_by rejections other)
  by_rejections [] other is = is
  by_rejections (rejection ∷ rejections) other is = tt

  pub next_is_plain : IsPlainOut (next_of f event quiet)
  next_is_plain = by_rejections f.queue.rejections _ (by_disconnect (is_disconnecting f.closing && quiet))

fewer_plain : (outgoing : Outgoing) (queue : QueueFacts) → ArePlain queue → ArePlain (without_next outgoing queue)
fewer_plain Nothing queue all = all
fewer_plain (Rejection rejection) queue all = all
fewer_plain (Disconnect code) queue all = all
fewer_plain (Other draft) queue all = All-drop IsPlain 1 queue.drafts all

following_plain : (role : Role) (indication : Option Indication) (c : Control) → HasPlain c → HasPlain (following role indication c)
following_plain central_role None c all = all
following_plain central_role (Some indication) c all = all
following_plain peripheral_role indication c all = all

-- ---- a PDU of the peer

taken_plain : (g : TableFacts) (indication : Option Indication) (c : Control) → ArePlain g.queue → HasPlain c → HasPlain (taken g None indication c)
taken_plain g None c now all = now
taken_plain g (Some indication) c now all = either_way HasPlain (is_to_come c.track indication) _ _ now all

-- ---- every step

if_plain : (b : Bool) (g : TableFacts) (c : Control) → ArePlain g.queue → HasPlain c → HasPlain (table_if b g c)
if_plain true g c now all = now
if_plain false g c now all = all

answered_plain : (f : TableFacts) (answer : Result Ask ErrCode) → ArePlain f.queue → ArePlain (host_answer_step f answer).queue
answered_plain f (Ok (ask_update interval latency timeout)) all = plain_with (is_open f.closing) f.queue _ all refl
answered_plain f (Ok other) all = all
answered_plain f (Err code) all = plain_rejecting (is_open f.closing) f.queue _ all

moved_plain : (step : Step) (c : Control) → IsPlainStep step → HasPlain c → HasPlain (moved step c)
moved_plain (Enters slot quiet) c is all =
    let f = (entered_step c.table (is_some (next_number c.track))).0 in
    begun_plain f slot (place_to_begin f quiet) (ask_at (place_to_begin f quiet) f.wanted) (entered_plain (is_some (next_number c.track)) c.table all)
moved_plain (Asks ask) c is all = all
moved_plain (Answers answer) c is all =
    if_plain (is_host_asked c.table.progress && is_answer answer) _ c (answered_plain c.table answer all) all
moved_plain (Disconnects reason) c is all =
    if_plain (is_open c.table.closing) _ c (plain_ending (is_open c.table.closing) c.table.queue reason all) all
moved_plain (Sends slot quiet) c is all =
    either_way HasPlain (goes_out quiet c) _ c
    (following_plain (role_of c.table.progress) (went slot quiet c).1 (record c { table = (went slot quiet c).0 })
    (fewer_plain (next_of c.table (event_of c.track) quiet) c.table.queue all)) all
moved_plain SeesAcknowledged c is all = if_plain (is_out c.table.out) (acked_step c.table).0 c all all
moved_plain (Takes read slot quiet) c is all =
    let o = outcome_of c.table quiet read in
    took_by HasPlain c (λ code. all) read slot quiet
    (taken_plain (facts_with c.table slot o) (indicated_by o.step.effect) c
    (plain_replying c.table.closing o.reply c.table.queue all (reads c.table quiet read).reply) all)
moved_plain (Owes ctrl) c is all = plain_with (is_open c.table.closing) c.table.queue _ all is

pub step_plain : (step : Step) (c : Control) → IsPlainStep step → HasPlain c → HasPlain (after step c)
step_plain step c is all = any_step HasPlain step c (moved_plain step c is all) all

pub steps_plain : (steps : List Step) (c : Control) → ArePlainSteps steps → HasPlain c → HasPlain (after_all steps c)
steps_plain [] c are all = all
steps_plain (step ∷ steps) c are all = steps_plain steps (after step c) are.1 (step_plain step c are.0 all)
