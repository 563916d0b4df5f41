-- Whatever comes before the central sends again, the rejection goes first.
use Rattle.std.proofs.Common.{◌≡◌, ℕ, Bool, true, false, not, ◌&&◌, if◌then◌else◌, List, [], ◌∷◌, ◌++◌, Option, Some, None, is_some, Result, Ok, Err, ap}
use Rattle.std.proofs.lemmas.Bool.{and_parts}
use Rattle.ble_base.specs.declared.error_codes.ErrCode.{ErrCode}
use Rattle.instants.specs.declared.indications.Indication.{Indication}
use Rattle.instants.specs.Track.{event_of, next_number}
use Rattle.collision_steps.specs.procedure_values.declared.asks.Ask.{Ask}
use Rattle.collision_steps.specs.procedure_values.declared.asks.Ask.TheVariants.{Update}
use Rattle.collision_steps.specs.procedure_values.declared.drafts.Draft.{Draft}
use Rattle.collision_steps.specs.procedure_values.declared.drafts.Outgoing.TheVariants.{Rejection}
use Rattle.collision_steps.specs.procedure_values.declared.drafts.Rejection.{Rejection as TheRejection}
use Rattle.collision_steps.specs.procedure_values.Drafts.{is_out}
use Rattle.collision_steps.specs.procedure_stages.declared.closing.Closing.{Closing}
use Rattle.collision_steps.specs.procedure_stages.declared.reply.Reply.{Reply}
use Rattle.collision_steps.specs.procedure_stages.declared.reply.Reply.TheVariants.{Answer, Nothing as no_reply, Reject}
use Rattle.collision_steps.specs.procedure_stages.Closing.{is_open}
use Rattle.collision_steps.specs.procedure_stages.InProgress.{is_host_asked}
use Rattle.collision_steps.specs.procedure_stages.Queue.{QueueFacts, next_by, with_reply}
use Rattle.collision_steps.specs.procedures.Beginning.{ask_at, begin_at, first_draft, place_to_begin, with_first_draft}
use Rattle.collision_steps.specs.procedures.Going.{entered_step, host_answer_step, is_answer, terminate_step}
use Rattle.collision_steps.specs.procedures.Queue.{next_other}
use Rattle.collision_steps.specs.procedures.Sending.{acked_step}
use Rattle.collision_steps.specs.procedures.Table.{TableFacts}
use Rattle.collision_steps.specs.procedures.Taking.{facts_with, outcome_of}
use Rattle.joint_controls.specs.control_model.Control.{Answers, Asks, Control, Disconnects, Enters, Owes, SeesAcknowledged, Takes, indicated_by, is_to_come, table_if, taken}
use Rattle.joint_controls.proofs.control_model.Calls.{any_step, either_way, took_by}
use Rattle.joint_controls.specs.phased_control.Taken.{Response}
use Rattle.joint_controls.specs.phased_control.Phased.{is_quiet_now}
use Rattle.joint_controls.specs.Joint.{CentralAcked, CentralEnters, CentralHost, CentralSends, CentralSendsData, CentralTakes, Clear, Fixed, Joint, JointStep, OnAir, PeripheralAcked, PeripheralEnters, PeripheralFixes, PeripheralFixesData, PeripheralHost, PeripheralSends, PeripheralTakes, Shuts, Taken, Way, act, after_all, central_takes, next_out, no_response, peripheral_takes}
use Rattle.joint_controls.specs.Joint as joint
use Rattle.joint_controls.proofs.EachEnd.{Keeps, acks_kept, enters_kept, hosts_kept, takes_kept}
use Rattle.joint_controls.proofs.Running.{after_one}
use Rattle.joint_collisions.specs.Arrivals.{is_sending, is_silent}

-- ---- what is queued, is queued at the end

abbrev pub HeadIs : TheRejection → QueueFacts → Type 0
HeadIs x queue = (more : List TheRejection) × (queue.rejections ≡ x ∷ more)

module _ (x : TheRejection) where
  with_draft_head : (opened : Bool) (draft : Draft) (queue : QueueFacts) → HeadIs x queue → HeadIs x (if opened then record queue { drafts = queue.drafts ++ draft ∷ [] } else queue)
  with_draft_head true draft queue h = h
  with_draft_head false draft queue h = h

  with_rejection_head : (opened : Bool) (one : TheRejection) (queue : QueueFacts) → HeadIs x queue
      → HeadIs x (if opened then record queue { rejections = queue.rejections ++ one ∷ [] } else queue)
  with_rejection_head true one queue (more, is) = (more ++ one ∷ [], ap (λ (xs : List TheRejection). xs ++ one ∷ []) is)
  with_rejection_head false one queue h = h

  with_disconnect_head : (opened : Bool) (code : ErrCode) (queue : QueueFacts) → HeadIs x queue → HeadIs x (if opened then record queue { disconnect = Some code } else queue)
  with_disconnect_head true code queue h = h
  with_disconnect_head false code queue h = h

  with_reply_head : (closing : Closing) (reply : Reply) (queue : QueueFacts) → HeadIs x queue → HeadIs x (with_reply closing reply queue)
  with_reply_head closing no_reply queue h = h
  with_reply_head closing (Reject one) queue h = with_rejection_head (is_open closing) one queue h
  with_reply_head closing (Answer draft) queue h = with_draft_head (is_open closing) draft queue h

  with_first_head : (closing : Closing) (draft : Option Draft) (queue : QueueFacts) → HeadIs x queue → HeadIs x (with_first_draft closing draft queue)
  with_first_head closing None queue h = h
  with_first_head closing (Some draft) queue h = with_draft_head (is_open closing) draft queue h

  begun_head : (f : TableFacts) (slot : ℕ) (place : Option ℕ) (ask : Option Ask) → HeadIs x f.queue → HeadIs x (begin_at f slot place ask).0.queue
  begun_head f slot None ask h = h
  begun_head f slot (Some place) None h = h
  begun_head f slot (Some place) (Some ask) h = with_first_head f.closing (first_draft f ask) f.queue h

  entered_head : (f : TableFacts) (holds : Bool) → HeadIs x f.queue → HeadIs x (entered_step f holds).0.queue
  entered_head f true h = h
  entered_head f false h = h

  answered_head : (f : TableFacts) (answer : Result Ask ErrCode) → HeadIs x f.queue → HeadIs x (host_answer_step f answer).queue
  answered_head f (Ok (Update interval latency timeout)) h = with_draft_head (is_open f.closing) _ f.queue h
  answered_head f (Ok ask) h = h
  answered_head f (Err code) h = with_rejection_head (is_open f.closing) _ f.queue h

  abbrev pub P : Control → Type 0
  P c = HeadIs x c.table.queue

  table_head : (b : Bool) (g : TableFacts) (c : Control) → HeadIs x g.queue → P c → P (table_if b g c)
  table_head true g c hg h = hg
  table_head false g c hg h = h

  taken_head : (g : TableFacts) (some : Option Indication) (c : Control) → HeadIs x g.queue → P c → P (taken g None some c)
  taken_head g None c hg h = hg
  taken_head g (Some indication) c hg h = either_way P (is_to_come c.track indication) _ _ hg h

  pub head_kept : Keeps P
  head_kept =
      record {
        enters =
            λ slot quiet c h.
            let f = (entered_step c.table (is_some (next_number c.track))).0 in
            any_step P (Enters slot quiet) c
            (begun_head f slot (place_to_begin f quiet) (ask_at (place_to_begin f quiet) f.wanted) (entered_head c.table (is_some (next_number c.track)) h)) h;
        asks = λ ask c h. any_step P (Asks ask) c h h;
        answers =
            λ answer c h. any_step P (Answers answer) c
            (table_head (is_host_asked c.table.progress && is_answer answer) (host_answer_step c.table answer) c (answered_head c.table answer h) h) h;
        disconnects =
            λ reason c h. any_step P (Disconnects reason) c
            (table_head (is_open c.table.closing) (terminate_step c.table reason) c (with_disconnect_head (is_open c.table.closing) reason c.table.queue h) h) h;
        acks = λ c h. any_step P SeesAcknowledged c (table_head (is_out c.table.out) (acked_step c.table).0 c h h) h;
        owes = λ ctrl c h. any_step P (Owes ctrl) c (with_draft_head (is_open c.table.closing) _ c.table.queue h) h;
        takes =
            λ read slot quiet c h. any_step P (Takes read slot quiet) c
            (took_by P c (λ code. h) read slot quiet
            (taken_head (facts_with c.table slot (outcome_of c.table quiet read)) (indicated_by (outcome_of c.table quiet read).step.effect) c
            (with_reply_head c.table.closing (outcome_of c.table quiet read).reply c.table.queue h) h)) h;
        ends = λ code c h. h;
      }

  -- ---- in a joint run

  abbrev pub J : Joint → Type 0
  J s = P s.central.control

  up_kept : (way : Way) (slot : ℕ) (s : Joint) → J s → J (central_takes way slot s)
  up_kept Clear slot s h = h
  up_kept (Fixed item sealed) slot s h = h
  up_kept (OnAir item sealed) slot s h = takes_kept P head_kept item slot no_response s.central h
  up_kept (Taken item) slot s h = h

  down_kept : (way : Way) (slot : ℕ) (response : Response) (s : Joint) → J s → J (peripheral_takes way slot response s)
  down_kept Clear slot response s h = h
  down_kept (Fixed item sealed) slot response s h = h
  down_kept (OnAir item sealed) slot response s h = h
  down_kept (Taken item) slot response s h = h

  step_kept : (step : JointStep) (s : Joint) → not (is_sending step) ≡ true → J s → J (act step s)
  step_kept (CentralEnters slot) s quiet h = enters_kept P head_kept slot s.central h
  step_kept (CentralHost step) s quiet h = hosts_kept P head_kept step s.central h
  step_kept (CentralSends slot) s quiet h = absurd (cc)
  step_kept CentralSendsData s quiet h = h
  step_kept CentralAcked s quiet h = acks_kept P head_kept s.central h
  step_kept (CentralTakes slot) s quiet h = up_kept s.up slot s h
  step_kept (PeripheralEnters slot) s quiet h = h
  step_kept (PeripheralHost step) s quiet h = h
  step_kept (PeripheralFixes slot) s quiet h = h
  step_kept PeripheralFixesData s quiet h = h
  step_kept PeripheralSends s quiet h = h
  step_kept PeripheralAcked s quiet h = h
  step_kept (PeripheralTakes slot response) s quiet h = down_kept s.down slot response s h
  step_kept Shuts s quiet h = h

  pub steps_kept : (steps : List JointStep) (s : Joint) → is_silent steps ≡ true → J s → J (after_all steps s)
  steps_kept [] s silent h = h
  steps_kept (step ∷ steps) s silent h =
      let both = and_parts (not (is_sending step)) (is_silent steps) silent in
      steps_kept steps (joint.after step s) both.1 (after_one J step s h (λ comes. step_kept step s both.0 h))

  pub goes_next : (s : Joint) → J s → next_out s.central ≡ Rejection x
  goes_next s (more, is) =
      ap (λ (xs : List TheRejection). next_by xs (next_other s.central.control.table (event_of s.central.control.track) (is_quiet_now s.central))) is
