-- The control PDUs that wait to be sent (Core 5.2, volume 6 part B, sections 5.3 and 5.1.6; the order is our choice).
use Rattle.std.specs.Prelude.{ℕ, Option, Some, None, ◌+◌, length, List, [], ◌∷◌, ◌++◌, map, if◌then◌else◌, nat_lt, Bool, true, false, not, ◌&&◌, remove}
use Rattle.ble_base.specs.declared.error_codes.ErrCode.{ErrCode}
use Rattle.ble_base.specs.declared.counters.EventNo.{EventNo}
use Rattle.procedure_values.specs.declared.drafts.Outgoing.{Outgoing}
use Rattle.procedure_values.specs.declared.drafts.Outgoing.TheVariants.{Disconnect, Rejection, Other, Nothing}
use Rattle.procedure_values.specs.declared.drafts.Draft.{Draft}
use Rattle.procedure_values.specs.declared.drafts.Draft.TheVariants.{VersionInd}
use Rattle.procedure_values.specs.declared.drafts.Rejection.{Rejection as TheRejection}
use Rattle.procedure_stages.specs.declared.stages.Progress.{Progress}
use Rattle.procedure_stages.specs.declared.stages.Progress.TheVariants.{Central, Peripheral}
use Rattle.procedure_stages.specs.declared.closing.Closing.{Closing}
use Rattle.procedure_stages.specs.declared.reply.Reply.{Reply}
use Rattle.procedure_stages.specs.declared.reply.Reply.TheVariants.{Nothing as no_reply, Reject, Answer}
use Rattle.procedure_values.specs.Drafts.{waits_for_instant}
use Rattle.procedure_stages.specs.Closing.{is_open}

-- the control PDUs that wait to be sent, in the order of sending: the rejections of procedures of the peer, then
-- LL_TERMINATE_IND of an accepted Disconnect, then the others
pub record QueueFacts : Type 0 where
  pub rejections : List TheRejection
  pub disconnect : Option ErrCode
  pub drafts : List Draft

abbrev pub empty_queue : QueueFacts
empty_queue = record { rejections = []; disconnect = None; drafts = [] }

abbrev pub count_of_disconnect : Option ErrCode → ℕ
count_of_disconnect None = 0
count_of_disconnect (Some code) = 1

-- how many wait
abbrev pub waiting_in : QueueFacts → ℕ
waiting_in queue = length queue.rejections + count_of_disconnect queue.disconnect + length queue.drafts

-- all that wait, in the order of sending: rejections, LL_TERMINATE_IND of an accepted Disconnect, the others
abbrev pub disconnect_in_order : Option ErrCode → List Outgoing
disconnect_in_order None = []
disconnect_in_order (Some code) = Disconnect code ∷ []

abbrev pub in_order : QueueFacts → List Outgoing
in_order queue =
    map (λ rejection. Rejection rejection) queue.rejections ++ disconnect_in_order queue.disconnect
    ++ map (λ draft. Other draft) queue.drafts

-- ---- queueing: nothing more once the link is to end (section 5.1.6)

abbrev pub with_draft : Closing → Draft → QueueFacts → QueueFacts
with_draft closing draft queue =
    (if is_open closing then record queue { drafts = queue.drafts ++ draft ∷ [] } else queue)

abbrev pub with_rejection : Closing → TheRejection → QueueFacts → QueueFacts
with_rejection closing rejection queue =
    (if is_open closing then record queue { rejections = queue.rejections ++ rejection ∷ [] } else queue)

abbrev pub with_reply : Closing → Reply → QueueFacts → QueueFacts
with_reply closing no_reply queue = queue
with_reply closing (Reject rejection) queue = with_rejection closing rejection queue
with_reply closing (Answer draft) queue = with_draft closing draft queue

abbrev pub with_disconnect : Closing → ErrCode → QueueFacts → QueueFacts
with_disconnect closing code queue = (if is_open closing then record queue { disconnect = Some code } else queue)

-- ---- what is sent next

-- an event is after the Instant of the last indication
abbrev pub is_after_instant : Option EventNo → ℕ → Bool
is_after_instant None event = true
is_after_instant (Some instant) event = nat_lt instant.0 event

abbrev pub is_past_instant : Progress → ℕ → Bool
is_past_instant (Central c) event = is_after_instant c.last_instant event
is_past_instant (Peripheral p) event = true

-- of the others the first, unless it waits for an Instant
abbrev pub next_draft : Progress → ℕ → List Draft → Outgoing
next_draft progress event [] = Nothing
next_draft progress event (draft ∷ drafts) =
    (if waits_for_instant draft && not (is_past_instant progress event) then Nothing else Other draft)

abbrev pub next_disconnect : Option ErrCode → Outgoing
next_disconnect None = Nothing
next_disconnect (Some code) = Disconnect code

-- with no rejection: LL_TERMINATE_IND of a Disconnect where nothing else may go before it, else the others
abbrev pub next_after_rejections : Bool → Progress → ℕ → QueueFacts → Outgoing
next_after_rejections ends progress event queue =
    (if ends then next_disconnect queue.disconnect else next_draft progress event queue.drafts)

-- rejections go first
abbrev pub next_by : List TheRejection → Outgoing → Outgoing
next_by [] other = other
next_by (rejection ∷ rejections) other = Rejection rejection

abbrev pub next_in : Bool → Progress → ℕ → QueueFacts → Outgoing
next_in ends progress event queue = next_by queue.rejections (next_after_rejections ends progress event queue)

-- the queue without what is sent next
abbrev pub without_next : Outgoing → QueueFacts → QueueFacts
without_next Nothing queue = queue
without_next (Rejection rejection) queue = record queue { rejections = remove queue.rejections 0 }
without_next (Disconnect code) queue = record queue { disconnect = None }
without_next (Other draft) queue = record queue { drafts = remove queue.drafts 0 }

-- ---- what is to be sent for a PDU of the peer

-- something is to be sent
abbrev pub has_reply : Reply → Bool
has_reply no_reply = false
has_reply other = true

-- it is the own LL_VERSION_IND
abbrev pub is_version_reply : Reply → Bool
is_version_reply (Answer VersionInd) = true
is_version_reply other = false
