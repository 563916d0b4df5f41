-- How many control PDUs of each sort wait, as one is queued or sent.
use Rattle.std.proofs.Common.{◌≡◌, ℕ, ◌+◌, Bool, true, false, not, ◌&&◌, List, [], ◌∷◌, ◌++◌, length, Option, Some, None, if◌then◌else◌, refl, arith}
use Rattle.ble_base.specs.declared.error_codes.ErrCode.{ErrCode}
use Rattle.procedures.specs.procedure_values.declared.drafts.Draft.{Draft}
use Rattle.procedures.specs.procedure_values.declared.drafts.Rejection.{Rejection as TheRejection}
use Rattle.procedures.specs.procedure_values.declared.drafts.Outgoing.{Outgoing}
use Rattle.procedures.specs.procedure_values.declared.drafts.Outgoing.TheVariants.{Nothing, Disconnect, Other}
use Rattle.procedures.specs.procedure_stages.declared.stages.Progress.{Progress}
use Rattle.procedures.specs.procedure_stages.Queue.{QueueFacts, waiting_in, count_of_disconnect, is_past_instant, next_draft, next_disconnect, next_by, without_next}
use Rattle.procedures.specs.Table.{TableFacts}
use Rattle.procedures.specs.procedure_stages.Closing.{is_disconnecting}
use Rattle.procedures.specs.procedure_values.Drafts.{waits_for_instant}
use Rattle.procedures.specs.Queue.{next_of}
use Rattle.table_laws.specs.Waiting.{count_if, number_of, is_own_request, is_version_ind, is_terminate}

pub number-push : (test : Draft → Bool) (drafts : List Draft) (draft : Draft) → number_of test (drafts ++ draft ∷ []) ≡ number_of test drafts + count_if (test draft)
number-push test [] draft = omega arith
number-push test (first ∷ drafts) draft = let h = number-push test drafts draft in omega (arith, h)

length-push : {X : Type 0} (xs : List X) (x : X) → length (xs ++ x ∷ []) ≡ length xs + 1
length-push [] x = refl
length-push (first ∷ xs) x = let h = length-push xs x in omega (arith, h)

-- the numbers of a queue
abbrev pub own_in : QueueFacts → ℕ
own_in queue = number_of is_own_request queue.drafts

abbrev pub version_in : QueueFacts → ℕ
version_in queue = number_of is_version_ind queue.drafts

abbrev pub end_in : QueueFacts → ℕ
end_in queue = count_of_disconnect queue.disconnect + number_of is_terminate queue.drafts

-- these more wait in one queue than in another
pub record Counts (before after : QueueFacts) (all owns versions ends : ℕ) : Type 0 where
  pub waiting : waiting_in after ≡ waiting_in before + all
  pub own : own_in after ≡ own_in before + owns
  pub version : version_in after ≡ version_in before + versions
  pub end : end_in after ≡ end_in before + ends

pub same : (queue : QueueFacts) → Counts queue queue 0 0 0 0
same queue = record { waiting = omega arith; own = omega arith; version = omega arith; end = omega arith }

pub with_one : (queue : QueueFacts) (draft : Draft)
    → Counts queue (record queue { drafts = queue.drafts ++ draft ∷ [] }) 1 (count_if (is_own_request draft)) (count_if (is_version_ind draft)) (count_if (is_terminate draft))
with_one queue draft =
    let long = length-push queue.drafts draft in
    let ends = number-push is_terminate queue.drafts draft in
    record {
      waiting = omega (arith, long);
      own = number-push is_own_request queue.drafts draft;
      version = number-push is_version_ind queue.drafts draft;
      end = omega (arith, ends);
    }

pub with_rejection_more : (queue : QueueFacts) (rejection : TheRejection)
    → Counts queue (record queue { rejections = queue.rejections ++ rejection ∷ [] }) 1 0 0 0
with_rejection_more queue rejection =
    let long = length-push queue.rejections rejection in
    record { waiting = omega (arith, long); own = omega arith; version = omega arith; end = omega arith }

-- ---- what is sent

abbrev pub own_sent : Outgoing → ℕ
own_sent (Other draft) = count_if (is_own_request draft)
own_sent other = 0

abbrev pub version_sent : Outgoing → ℕ
version_sent (Other draft) = count_if (is_version_ind draft)
version_sent other = 0

abbrev pub end_sent : Outgoing → ℕ
end_sent (Other draft) = count_if (is_terminate draft)
end_sent (Disconnect code) = 1
end_sent other = 0

abbrev pub sent : Outgoing → ℕ
sent Nothing = 0
sent other = 1

abbrev pub Goes : QueueFacts → Outgoing → Type 0
Goes queue outgoing =
    Counts (without_next outgoing queue) queue (sent outgoing) (own_sent outgoing) (version_sent outgoing) (end_sent outgoing)

none_goes : (queue : QueueFacts) → Goes queue Nothing
none_goes queue = same queue

draft_goes : (queue : QueueFacts) (draft : Draft) (drafts : List Draft) → queue.drafts ≡ draft ∷ drafts → Goes queue (Other draft)
draft_goes queue draft drafts is =
    record {
      waiting = rw is (omega arith);
      own = rw is (omega arith);
      version = rw is (omega arith);
      end = rw is (omega arith);
    }

draft_by : (queue : QueueFacts) (draft : Draft) (drafts : List Draft) (b : Bool) → queue.drafts ≡ draft ∷ drafts → Goes queue (if b then Nothing else Other draft)
draft_by queue draft drafts true is = none_goes queue
draft_by queue draft drafts false is = draft_goes queue draft drafts is

drafts_go : (queue : QueueFacts) (progress : Progress) (event : ℕ) (drafts : List Draft) → queue.drafts ≡ drafts → Goes queue (next_draft progress event drafts)
drafts_go queue progress event [] is = none_goes queue
drafts_go queue progress event (draft ∷ drafts) is =
    draft_by queue draft drafts (waits_for_instant draft && not (is_past_instant progress event)) is

disconnect_goes : (queue : QueueFacts) (disconnect : Option ErrCode) → queue.disconnect ≡ disconnect → Goes queue (next_disconnect disconnect)
disconnect_goes queue None is = none_goes queue
disconnect_goes queue (Some code) is =
    record {
      waiting = rw is (omega arith);
      own = omega arith;
      version = omega arith;
      end = rw is (omega arith);
    }

other_goes : (queue : QueueFacts) (progress : Progress) (event : ℕ) (b : Bool)
    → Goes queue (if b then next_disconnect queue.disconnect else next_draft progress event queue.drafts)
other_goes queue progress event true = disconnect_goes queue queue.disconnect refl
other_goes queue progress event false = drafts_go queue progress event queue.drafts refl

goes_by : (queue : QueueFacts) (rejections : List TheRejection) (other : Outgoing) → queue.rejections ≡ rejections → Goes queue other → Goes queue (next_by rejections other)
goes_by queue [] other is h = h
goes_by queue (rejection ∷ rejections) other is h =
    record {
      waiting = rw is (omega arith);
      own = omega arith;
      version = omega arith;
      end = omega arith;
    }

-- what is sent next leaves the queue
pub next_goes : (f : TableFacts) (event : ℕ) (quiet : Bool) → Goes f.queue (next_of f event quiet)
next_goes f event quiet =
    goes_by f.queue f.queue.rejections _ refl (other_goes f.queue f.progress event (is_disconnecting f.closing && quiet))
