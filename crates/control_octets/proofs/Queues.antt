-- What waits at a table, and what its host wants, fits: as more is queued, and as the next one goes.
use Rattle.std.proofs.Common.{◌≡◌, ℕ, suc, Bool, true, false, not, ◌&&◌, if◌then◌else◌, List, [], ◌∷◌, ◌++◌, take, drop, remove, Option, Some, None, refl, subst}
use Rattle.std.specs.Prelude.{IfSome, ⊤}
use Rattle.std.specs.List.{All}
use Rattle.std.proofs.lemmas.List.Elements.{All-append, All-drop, All-head, All-push, All-set, All-tail, All-take}
use Rattle.ble_base.specs.declared.error_codes.ErrCode.{ErrCode}
use Rattle.control_model.specs.procedure_values.Drafts.{waits_for_instant}
use Rattle.control_model.specs.procedure_values.Wants.{wanted_at, without_place}
use Rattle.control_model.specs.procedure_values.declared.asks.Ask.{Ask}
use Rattle.control_model.specs.procedure_values.declared.drafts.Draft.{Draft}
use Rattle.control_model.specs.procedure_values.declared.drafts.Outgoing.{Outgoing}
use Rattle.control_model.specs.procedure_values.declared.drafts.Outgoing.TheVariants.{Nothing, Other}
use Rattle.control_model.specs.procedure_values.declared.drafts.Rejection.{Rejection as TheRejection}
use Rattle.control_model.specs.procedure_stages.Closing.{is_disconnecting, is_open}
use Rattle.control_model.specs.procedure_stages.Queue.{QueueFacts, is_past_instant, next_by, next_disconnect, next_draft, with_disconnect, with_draft, with_rejection, with_reply, without_next}
use Rattle.control_model.specs.procedure_stages.declared.closing.Closing.{Closing}
use Rattle.control_model.specs.procedure_stages.declared.reply.Reply.{Reply}
use Rattle.control_model.specs.procedure_stages.declared.reply.Reply.TheVariants.{Nothing as no_reply, Reject, Answer}
use Rattle.control_model.specs.procedure_stages.declared.stages.Progress.{Progress}
use Rattle.control_model.specs.procedures.Beginning.{with_first_draft}
use Rattle.control_model.specs.procedures.Queue.{next_of}
use Rattle.control_model.specs.procedures.Table.{TableFacts}
use Rattle.control_octets.specs.Fitting.{AskFits, CodeFits, DraftFits, QueueFits, RejectionFits}
use Rattle.control_octets.proofs.Pdus.{OutgoingFits}

-- ---- more is queued

pub with_draft_fits : (closing : Closing) (draft : Draft) (queue : QueueFacts) → QueueFits queue → DraftFits draft
    → QueueFits (with_draft closing draft queue)
with_draft_fits closing draft queue q is = by (is_open closing)
  where
    by : (goes_in : Bool) → QueueFits (if goes_in then record queue { drafts = queue.drafts ++ draft ∷ [] } else queue)
    by true = record { rejections = q.rejections; disconnect = q.disconnect; drafts = All-push DraftFits queue.drafts draft q.drafts is }
    by false = q

pub with_rejection_fits : (closing : Closing) (rejection : TheRejection) (queue : QueueFacts) → QueueFits queue → RejectionFits rejection
    → QueueFits (with_rejection closing rejection queue)
with_rejection_fits closing rejection queue q is = by (is_open closing)
  where
    by : (goes_in : Bool) → QueueFits (if goes_in then record queue { rejections = queue.rejections ++ rejection ∷ [] } else queue)
    by true =
        record {
          rejections = All-push RejectionFits queue.rejections rejection q.rejections is;
          disconnect = q.disconnect;
          drafts = q.drafts;
        }
    by false = q

pub with_disconnect_fits : (closing : Closing) (code : ErrCode) (queue : QueueFacts) → QueueFits queue → CodeFits code
    → QueueFits (with_disconnect closing code queue)
with_disconnect_fits closing code queue q is = by (is_open closing)
  where
    by : (goes_in : Bool) → QueueFits (if goes_in then record queue { disconnect = Some code } else queue)
    by true = record { rejections = q.rejections; disconnect = is; drafts = q.drafts }
    by false = q

-- what is to be sent for a PDU of the peer
abbrev pub ReplyFits : Reply → Type 0
ReplyFits no_reply = ⊤
ReplyFits (Reject rejection) = RejectionFits rejection
ReplyFits (Answer draft) = DraftFits draft

pub with_reply_fits : (closing : Closing) (reply : Reply) (queue : QueueFacts) → QueueFits queue → ReplyFits reply
    → QueueFits (with_reply closing reply queue)
with_reply_fits closing no_reply queue q is = q
with_reply_fits closing (Reject rejection) queue q is = with_rejection_fits closing rejection queue q is
with_reply_fits closing (Answer draft) queue q is = with_draft_fits closing draft queue q is

pub with_first_fits : (closing : Closing) (draft : Option Draft) (queue : QueueFacts) → QueueFits queue → IfSome draft DraftFits
    → QueueFits (with_first_draft closing draft queue)
with_first_fits closing None queue q is = q
with_first_fits closing (Some draft) queue q is = with_draft_fits closing draft queue q is

-- ---- the next one goes

pub record Goes (queue : QueueFacts) (outgoing : Outgoing) : Type 0 where
  pub fits : OutgoingFits outgoing
  pub rest : QueueFits (without_next outgoing queue)

module _ (progress : Progress) (event : ℕ) (queue : QueueFacts) (q : QueueFits queue) where
  none_goes : Goes queue Nothing
  none_goes = record { fits = tt; rest = q }

  first_removed : (drafts : List Draft) (draft : Draft) (rest : List Draft) → drafts ≡ draft ∷ rest → All DraftFits drafts → All DraftFits (remove drafts 0)
  first_removed drafts draft rest is all = rw is (All-tail DraftFits draft rest (subst (All DraftFits) is all))

  by_drafts : (drafts : List Draft) → queue.drafts ≡ drafts → Goes queue (next_draft progress event drafts)
  by_drafts [] is = none_goes
  by_drafts (draft ∷ rest) is = by (waits_for_instant draft && not (is_past_instant progress event))
    where
      by : (waits : Bool) → Goes queue (if waits then Nothing else Other draft)
      by true = none_goes
      by false =
          record {
            fits = All-head DraftFits draft rest (subst (All DraftFits) is q.drafts);
            rest = record {
              rejections = q.rejections;
              disconnect = q.disconnect;
              drafts = first_removed queue.drafts draft rest is q.drafts;
            };
          }

  by_disconnect : (disconnect : Option ErrCode) → queue.disconnect ≡ disconnect → Goes queue (next_disconnect disconnect)
  by_disconnect None is = none_goes
  by_disconnect (Some code) is =
      record {
        fits = subst (λ (some : Option ErrCode). IfSome some CodeFits) is q.disconnect;
        rest = record { rejections = q.rejections; disconnect = tt; drafts = q.drafts };
      }

  by_closing : (ends : Bool) → Goes queue (if ends then next_disconnect queue.disconnect else next_draft progress event queue.drafts)
  by_closing true = by_disconnect queue.disconnect refl
  by_closing false = by_drafts queue.drafts refl

  by_rejections : (rejections : List TheRejection) → queue.rejections ≡ rejections → (other : Outgoing) → Goes queue other
      → Goes queue (next_by rejections other)
  by_rejections [] is other goes = goes
  by_rejections (rejection ∷ more) is other goes =
      let all = subst (All RejectionFits) is q.rejections in
      record {
        fits = All-head RejectionFits rejection more all;
        rest = record {
          rejections = rw is (All-tail RejectionFits rejection more all);
          disconnect = q.disconnect;
          drafts = q.drafts;
        };
      }

pub next_goes : (f : TableFacts) (event : ℕ) (quiet : Bool) → QueueFits f.queue → Goes f.queue (next_of f event quiet)
next_goes f event quiet q =
    by_rejections f.progress event f.queue q f.queue.rejections refl _
    (by_closing f.progress event f.queue q (is_disconnecting f.closing && quiet))

-- ---- what the host wants

pub wants_removed : (asks : List Ask) (place : ℕ) → All AskFits asks → All AskFits (remove asks place)
wants_removed asks place all =
    All-append AskFits (take place asks) (drop (suc place) asks) (All-take AskFits place asks all) (All-drop AskFits (suc place) asks all)

pub wants_without : (place : Option ℕ) (asks : List Ask) → All AskFits asks → All AskFits (without_place place asks)
wants_without None asks all = all
wants_without (Some place) asks all = wants_removed asks place all

pub wants_with : (place : Option ℕ) (ask : Ask) (asks : List Ask) → All AskFits asks → AskFits ask → All AskFits (wanted_at place ask asks)
wants_with None ask asks all is = All-push AskFits asks ask all is
wants_with (Some place) ask asks all is = All-set AskFits asks place ask is all
