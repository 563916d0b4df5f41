-- What an end sends after its host disconnected.
use Rattle.std.proofs.Common.{◌≡◌, ℕ, Bool, true, false, not, ◌&&◌, if◌then◌else◌, List, [], ◌∷◌, ◌++◌, map, Option, Some, None, Ok, Err, is_some, refl, ap, sym, ◌∙◌}
use Rattle.std.proofs.lemmas.List.{append_assoc, append_cancel_left, append-nil}
use Rattle.ble_base.specs.declared.error_codes.ErrCode.{ErrCode}
use Rattle.data_pdu.specs.declared.ctrl.Ctrl.{Ctrl}
use Rattle.data_pdu.specs.declared.ctrl.Ctrl.TheVariants.{TerminateInd}
use Rattle.procedures.specs.procedure_values.declared.asks.Ask.{Ask}
use Rattle.procedures.specs.procedure_values.declared.asks.Ask.TheVariants.{Update as ask_update, Request as ask_request, Map as ask_map, Phy as ask_phy, Features as ask_features, Version as ask_version, Length as ask_length, Encrypt as ask_encrypt}
use Rattle.procedures.specs.procedure_values.declared.drafts.Draft.{Draft}
use Rattle.procedures.specs.procedure_values.declared.drafts.Rejection.{Rejection as TheRejection}
use Rattle.procedures.specs.procedure_values.declared.drafts.Outgoing.{Outgoing}
use Rattle.procedures.specs.procedure_values.declared.drafts.Outgoing.TheVariants.{Nothing, Rejection, Disconnect, Other}
use Rattle.procedures.specs.procedure_stages.declared.reply.Reply.{Reply}
use Rattle.procedures.specs.procedure_stages.declared.reply.Reply.TheVariants.{Nothing as no_reply, Reject, Answer}
use Rattle.procedures.specs.procedure_stages.declared.stages.Progress.{Progress}
use Rattle.procedures.specs.procedure_stages.declared.steps.Effect.{Effect}
use Rattle.procedures.specs.procedure_stages.declared.steps.Effect.TheVariants.{PeerEnds}
use Rattle.procedures.specs.procedure_stages.declared.steps.Step.{Step}
use Rattle.procedures.specs.procedure_stages.declared.closing.Closing.{Closing}
use Rattle.procedures.specs.procedure_stages.declared.closing.Closing.TheVariants.{Disconnecting}
use Rattle.procedures.specs.procedure_stages.Queue.{QueueFacts, disconnect_in_order, is_past_instant, next_by, next_disconnect, next_draft, with_reply, without_next}
use Rattle.procedures.specs.Table.{TableFacts}
use Rattle.procedures.specs.procedure_stages.Closing.{is_disconnecting, is_open}
use Rattle.procedures.specs.procedure_values.Drafts.{waits_for_instant}
use Rattle.procedures.specs.Queue.{next_of}
use Rattle.procedures.specs.Laws.{GoesBeforeTheEnd}
use Rattle.procedures.specs.procedure_stages.Steps.{closing_after}
use Rattle.procedures.specs.Taking.{facts_with, lacks_room, outcome_of}
use Rattle.procedures.specs.Beginning.{ask_at, begin_at, first_draft, place_to_begin, with_first_draft}
use Rattle.procedures.specs.Going.{closing_given, terminate_step}
use Rattle.procedures.specs.Calls.{Call, asks, begins_one, takes, sends, is_acked, enters, host_answers, disconnects, is_given, after_call, after_calls, sent_by}
use Rattle.table_laws.specs.Ending.{if_last, last_sent, last_waiting}

-- ---- what is sent is the first of those that wait

module _ (queue : QueueFacts) where
  abbrev IsFirst : Outgoing → Type 0
  IsFirst outgoing = if_last outgoing ++ last_waiting (without_next outgoing queue) ≡ last_waiting queue

  draft_first : (draft : Draft) (b : Bool) → IsFirst (if b then Nothing else Other draft)
  draft_first draft true = refl
  draft_first draft false = refl

  drafts_first : (progress : Progress) (event : ℕ) (drafts : List Draft) → IsFirst (next_draft progress event drafts)
  drafts_first progress event [] = refl
  drafts_first progress event (draft ∷ drafts) = draft_first draft (waits_for_instant draft && not (is_past_instant progress event))

  disconnect_first : (disconnect : Option ErrCode) → queue.rejections ≡ [] → queue.disconnect ≡ disconnect → IsFirst (next_disconnect disconnect)
  disconnect_first None none is = refl
  disconnect_first (Some code) none is = rw (none, is) refl

  other_first : (progress : Progress) (event : ℕ) (b : Bool) → queue.rejections ≡ [] → IsFirst (if b then next_disconnect queue.disconnect else next_draft progress event queue.drafts)
  other_first progress event true none = disconnect_first queue.disconnect none refl
  other_first progress event false none = drafts_first progress event queue.drafts

  first_by : (rejections : List TheRejection) (other : Outgoing) → queue.rejections ≡ rejections → (queue.rejections ≡ [] → IsFirst other) → IsFirst (next_by rejections other)
  first_by [] other is h = h is
  first_by (rejection ∷ rejections) other is h = rw is refl

first_goes : (f : TableFacts) (event : ℕ) (quiet : Bool) → IsFirst f.queue (next_of f event quiet)
first_goes f event quiet =
    first_by f.queue f.queue.rejections _ refl (other_first f.queue f.progress event (is_disconnecting f.closing && quiet))

-- ---- after the Disconnect no call queues anything, and the end stays so

record Ends (f : TableFacts) (call : Call) : Type 0 where
  queue : (after_call f call).queue ≡ without_next (sent_by f call) f.queue
  closing : (after_call f call).closing ≡ Disconnecting

no_draft : (closing : Closing) (draft : Option Draft) (queue : QueueFacts) → closing ≡ Disconnecting → with_first_draft closing draft queue ≡ queue
no_draft closing None queue is = refl
no_draft closing (Some draft) queue is = rw is refl

no_reply_sent : (closing : Closing) (reply : Reply) (queue : QueueFacts) → closing ≡ Disconnecting → with_reply closing reply queue ≡ queue
no_reply_sent closing no_reply queue is = refl
no_reply_sent closing (Reject rejection) queue is = rw is refl
no_reply_sent closing (Answer draft) queue is = rw is refl

stays : (effect : Effect) (closing : Closing) → closing ≡ Disconnecting → closing_after effect closing ≡ Disconnecting
stays (PeerEnds code) closing is = rw is refl
stays other closing is = is

stays_given : (ctrl : Ctrl) (closing : Closing) → closing ≡ Disconnecting → closing_given ctrl closing ≡ Disconnecting
stays_given (TerminateInd code) closing is = rw is refl
stays_given other closing is = is

begin_by : (f : TableFacts) (slot : ℕ) (place : Option ℕ) (ask : Option Ask) → f.closing ≡ Disconnecting
    → ((begin_at f slot place ask).0.queue ≡ f.queue) × ((begin_at f slot place ask).0.closing ≡ Disconnecting)
begin_by f slot (Some place) (Some ask) is = (no_draft f.closing (first_draft f ask) f.queue is, is)
begin_by f slot (Some place) None is = (refl, is)
begin_by f slot None ask is = (refl, is)

abbrev settled_of : Bool → Bool → TableFacts → TableFacts → Step → Step → Step → TableFacts × Step
settled_of a b f g x y z = if a then (f, x) else (if b then (f, y) else (g, z))

settled_by : (a b : Bool) (f g : TableFacts) (x y z : Step) → f.closing ≡ Disconnecting → (g.queue ≡ f.queue) × (g.closing ≡ Disconnecting)
    → ((settled_of a b f g x y z).0.queue ≡ f.queue) × ((settled_of a b f g x y z).0.closing ≡ Disconnecting)
settled_by true b f g x y z is next = (refl, is)
settled_by false true f g x y z is next = (refl, is)
settled_by false false f g x y z is next = next

ends : (f : TableFacts) (call : Call) → f.closing ≡ Disconnecting → Ends f call
ends f (asks ask) is = record { queue = refl; closing = is }
ends f (begins_one slot quiet) is =
    let h = begin_by f slot (place_to_begin f quiet) (ask_at (place_to_begin f quiet) f.wanted) is in
    record { queue = h.0; closing = h.1 }
ends f (takes read slot quiet) is =
    let h = settled_by (lacks_room f (outcome_of f quiet read)) (is_some (outcome_of f quiet read).step.ends) f (facts_with f slot (outcome_of f quiet read)) _ _ _ is
    (no_reply_sent f.closing (outcome_of f quiet read).reply f.queue is, stays (outcome_of f quiet read).step.effect f.closing is) in
    record { queue = h.0; closing = h.1 }
ends f (sends event skips quiet slot) is = record { queue = refl; closing = is }
ends f is_acked is = record { queue = refl; closing = is }
ends f (enters true) is = record { queue = refl; closing = is }
ends f (enters false) is = record { queue = refl; closing = is }
ends f (host_answers (Ok (ask_update interval latency timeout))) is = record { queue = rw is refl; closing = is }
ends f (host_answers (Ok (ask_request min max latency timeout))) is = record { queue = refl; closing = is }
ends f (host_answers (Ok (ask_map map))) is = record { queue = refl; closing = is }
ends f (host_answers (Ok ask_phy)) is = record { queue = refl; closing = is }
ends f (host_answers (Ok ask_features)) is = record { queue = refl; closing = is }
ends f (host_answers (Ok ask_version)) is = record { queue = refl; closing = is }
ends f (host_answers (Ok (ask_length tx))) is = record { queue = refl; closing = is }
ends f (host_answers (Ok (ask_encrypt rand ediv ltk skd_m iv_m))) is = record { queue = refl; closing = is }
ends f (host_answers (Err code)) is = record { queue = rw is refl; closing = is }
ends f (disconnects reason) is = record { queue = rw is refl; closing = refl }
ends f (is_given ctrl) is = record { queue = rw is refl; closing = stays_given ctrl f.closing is }

-- ---- over all calls

sent_first : (f : TableFacts) (call : Call) → if_last (sent_by f call) ++ last_waiting (without_next (sent_by f call) f.queue) ≡ last_waiting f.queue
sent_first f (sends event skips quiet slot) = first_goes f event quiet
sent_first f other = refl

in_order_of : (f : TableFacts) (calls : List Call) → f.closing ≡ Disconnecting → last_sent f calls ++ last_waiting (after_calls f calls).queue ≡ last_waiting f.queue
in_order_of f [] is = refl
in_order_of f (call ∷ calls) is =
    let e = ends f call is in
    append_assoc (if_last (sent_by f call)) (last_sent (after_call f call) calls) _
    ∙ ap (λ rest. if_last (sent_by f call) ++ rest) (in_order_of (after_call f call) calls e.closing)
    ∙ ap (λ (queue : QueueFacts). if_last (sent_by f call) ++ last_waiting queue) e.queue
    ∙ sent_first f call

stays_all : (f : TableFacts) (calls : List Call) → f.closing ≡ Disconnecting → (after_calls f calls).closing ≡ Disconnecting
stays_all f [] is = is
stays_all f (call ∷ calls) is = stays_all (after_call f call) calls (ends f call is).closing

disconnected : (f : TableFacts) (reason : ErrCode) → is_open f.closing ≡ true → last_waiting (terminate_step f reason).queue ≡ map (λ rejection. Rejection rejection) f.queue.rejections ++ Disconnect reason ∷ []
disconnected f reason is = rw is refl

pub order : (f : TableFacts) (reason : ErrCode) (calls : List Call) → is_open f.closing ≡ true
    → last_sent (terminate_step f reason) calls ++ last_waiting (after_calls (terminate_step f reason) calls).queue
    ≡ map (λ rejection. Rejection rejection) f.queue.rejections ++ Disconnect reason ∷ []
order f reason calls is = in_order_of (terminate_step f reason) calls refl ∙ disconnected f reason is

goes_by : (rejections : List TheRejection) (disconnect : Option ErrCode) → GoesBeforeTheEnd (next_by rejections (next_disconnect disconnect))
goes_by [] None = _
goes_by [] (Some code) = _
goes_by (rejection ∷ rejections) disconnect = _

quiet_next : (f : TableFacts) (event : ℕ) → f.closing ≡ Disconnecting → next_of f event true ≡ next_by f.queue.rejections (next_disconnect f.queue.disconnect)
quiet_next f event is = rw is refl

pub alone : (f : TableFacts) (reason : ErrCode) (calls : List Call) (event : ℕ)
    → GoesBeforeTheEnd (next_of (after_calls (terminate_step f reason) calls) event true)
alone f reason calls event =
    rw (quiet_next (after_calls (terminate_step f reason) calls) event (stays_all (terminate_step f reason) calls refl))
    (goes_by (after_calls (terminate_step f reason) calls).queue.rejections (after_calls (terminate_step f reason) calls).queue.disconnect)

none_left : (rejections : List TheRejection) (disconnect : Option ErrCode)
    → map (λ rejection. Rejection rejection) rejections ++ disconnect_in_order disconnect ≡ [] → next_by rejections (next_disconnect disconnect) ≡ Nothing
none_left [] None is = refl
none_left [] (Some code) is = absurd (cc)
none_left (rejection ∷ rejections) disconnect is = absurd (cc)

pub nothing_after : (f : TableFacts) (reason : ErrCode) (calls : List Call) (event : ℕ) → is_open f.closing ≡ true
    → last_sent (terminate_step f reason) calls ≡ map (λ rejection. Rejection rejection) f.queue.rejections ++ Disconnect reason ∷ []
    → next_of (after_calls (terminate_step f reason) calls) event true ≡ Nothing
nothing_after f reason calls event is all =
    let left : last_waiting (after_calls (terminate_step f reason) calls).queue ≡ [] =
    append_cancel_left (last_sent (terminate_step f reason) calls) _ [] (order f reason calls is ∙ sym all ∙ sym (append-nil _)) in
    quiet_next (after_calls (terminate_step f reason) calls) event (stays_all (terminate_step f reason) calls refl)
    ∙ none_left (after_calls (terminate_step f reason) calls).queue.rejections (after_calls (terminate_step f reason) calls).queue.disconnect left
