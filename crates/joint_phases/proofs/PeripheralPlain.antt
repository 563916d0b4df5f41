-- A peripheral takes a PDU of another procedure in phase Clear or Secure: the machine's step.
use Rattle.std.proofs.Common.{◌≡◌, ℕ, Bool, true, false, ◌||◌, [], ◌∷◌, ◌++◌, Option, None, refl, ap, sym, subst, ◌∙◌, if◌then◌else◌}
use Rattle.ble_base.specs.declared.roles.Role.TheVariants.{Peripheral as peripheral_role}
use Rattle.data_pdu.specs.declared.ctrl.Ctrl.{Ctrl}
use Rattle.data_pdu.specs.declared.ctrl.Ctrl.TheVariants.{VersionInd}
use Rattle.data_pdu.specs.declared.ctrl.CtrlRead.TheVariants.{Known}
use Rattle.phase_pairs.specs.enc_phase.declared.classes.PduClass.{PduClass}
use Rattle.phase_pairs.specs.enc_phase.declared.classes.PduClass.TheVariants.{Other}
use Rattle.phase_pairs.specs.enc_phase.Phases.{is_quiet}
use Rattle.phase_pairs.specs.enc_phase.Taking.{allows, ctrl_class, is_unknown}
use Rattle.joint_controls.specs.procedures.declared.outcome.Outcome.{Outcome}
use Rattle.joint_controls.specs.procedure_values.declared.drafts.Draft.{Draft}
use Rattle.joint_controls.specs.procedure_stages.declared.reply.Reply.{Reply}
use Rattle.joint_controls.specs.procedure_stages.declared.reply.Reply.TheVariants.{Answer, Nothing as no_reply}
use Rattle.joint_controls.specs.procedure_stages.Closing.{is_open}
use Rattle.joint_controls.specs.procedure_stages.Queue.{QueueFacts, with_draft, with_reply}
use Rattle.joint_controls.specs.procedures.Taking.{outcome_of}
use Rattle.phase_pairs.specs.declared.peripheral.PhasePeripheral.{PhasePeripheral}
use Rattle.phase_pairs.specs.declared.peripheral.UnsentRequest.{UnsentRequest}
use Rattle.phase_pairs.specs.declared.peripheral.UnsentRequest.TheVariants.{Absent}
use Rattle.phase_pairs.specs.Peripheral.{is_open as is_peripheral_open, peripheral_answering}
use Rattle.joint_controls.specs.phased_control.Phased.{Phased}
use Rattle.joint_controls.specs.phased_control.Taken.{Response, Takes, is_version, phased_after}
use Rattle.joint_controls.specs.Joint.{is_terminate}
use Rattle.joint_phases.specs.Classes.{draft_up, has_version, is_version_ctrl}
use Rattle.joint_phases.specs.Parts.{IsPeripheral, wait_up}
use Rattle.joint_phases.proofs.CentralEnters.{opened}
use Rattle.joint_phases.proofs.PeripheralEnters.{open_up}
use Rattle.joint_phases.proofs.PeripheralQueue.{crosses, owes_more, with_waits}
use Rattle.joint_phases.proofs.PeripheralTakes.{Waits, goes, seen, taken_part}
use Rattle.joint_phases.proofs.Plain.{allows_quiet, is_session, known_at_peripheral, plain_at_peripheral, taking_quiet}

-- the part after it, and whether the version of the central is known
pub record TakesAs (t : Phased) (p : PhasePeripheral) (knows : Bool) : Type 0 where
  pub part : IsPeripheral t p
  pub knows_it : t.knows_version ≡ knows

pub version_read : (ctrl : Ctrl) → is_version (Known ctrl) ≡ is_version_ctrl ctrl
version_read (VersionInd version company sub) = refl
version_read ctrl = refl

pub or_not : (a b : Bool) → b ≡ false → (a || b) ≡ a
or_not true b is_not = refl
or_not false true is_not = absurd (cc)
or_not false false is_not = refl

-- ---- an answer that is queued

module _ (class_of : Draft → PduClass) (p : PhasePeripheral) (queue : QueueFacts) (draft : Draft) (class : class_of draft ≡ Other)
    (first : p.first ≡ None) (second : p.second ≡ None) (none : p.owes ≡ false) (waits : wait_up class_of queue.drafts p ≡ true) where
  plain_waits : wait_up class_of queue.drafts (with_waits p None None p.request false) ≡ true
  plain_waits =
      subst (λ (o : Bool). wait_up class_of queue.drafts (with_waits p None None p.request o) ≡ true) none
      (subst (λ (k : Option PduClass). wait_up class_of queue.drafts (with_waits p None k p.request p.owes) ≡ true) second
      (subst (λ (k : Option PduClass). wait_up class_of queue.drafts (with_waits p k p.second p.request p.owes) ≡ true) first waits))

  answer_by : (b : Bool) → wait_up class_of (if b then record queue { drafts = queue.drafts ++ draft ∷ [] } else queue).drafts (record p { owes = b || p.owes }) ≡ true
  answer_by false = waits
  answer_by true =
      let done : wait_up class_of (queue.drafts ++ draft ∷ []) (with_waits p None None p.request true) ≡ true = owes_more class_of p queue.drafts p.request draft class plain_waits in
      subst (λ (k : Option PduClass). wait_up class_of (queue.drafts ++ draft ∷ []) (with_waits p k p.second p.request true) ≡ true) (sym first)
      (subst (λ (k : Option PduClass). wait_up class_of (queue.drafts ++ draft ∷ []) (with_waits p None k p.request true) ≡ true) (sym second) done)

rejections_same : (b : Bool) (queue : QueueFacts) (draft : Draft) → (if b then record queue { drafts = queue.drafts ++ draft ∷ [] } else queue).rejections ≡ queue.rejections
rejections_same true queue draft = refl
rejections_same false queue draft = refl

module _ (s : Phased) (p : PhasePeripheral) (ctrl : Ctrl) (response : Response) (slot : ℕ) (is : IsPeripheral (opened s) p) (quiet : is_quiet p.phase ≡ true)
    (plain : is_session (ctrl_class ctrl) ≡ false) (apart : is_terminate ctrl ≡ false)
    (lasts : (phased_after (Takes (Known ctrl) slot response) (opened s)).control.ends ≡ None) where
  abbrev result : Phased
  result = phased_after (Takes (Known ctrl) slot response) (opened s)

  quiet_here : is_quiet s.phase ≡ true
  quiet_here = ap is_quiet is.phase ∙ quiet

  abbrev allowed : allows s.phase peripheral_role (ctrl_class ctrl) ≡ true
  allowed = allows_quiet s.phase peripheral_role (ctrl_class ctrl) quiet_here

  abbrev known : is_unknown s.phase peripheral_role (ctrl_class ctrl) ≡ false
  known = known_at_peripheral s.phase (ctrl_class ctrl) plain

  abbrev knows_now : Bool
  knows_now = s.knows_version || is_version (Known ctrl)

  abbrev outcome : Outcome
  outcome = outcome_of s.control.table (is_quiet s.phase) (Known ctrl)

  takes_with : (request : UnsentRequest) (owes : Bool)
      → (outcome.step.ends ≡ None → Waits s p ctrl response slot is allowed known request owes (with_reply s.control.table.closing outcome.reply s.control.table.queue))
      → TakesAs result (record p { request = request; owes = owes }) knows_now
  takes_with request owes waits =
      let g = goes s p ctrl response slot is allowed known lasts in
      let t : Phased = seen s p ctrl response slot is allowed known false in
      let there : result ≡ t = g.there ∙ plain_at_peripheral response ctrl t plain in
      let part = taken_part s p ctrl response slot is allowed known request owes apart (taking_quiet (ctrl_class ctrl) s.phase quiet_here ∙ is.phase) waits g.lasts in
      record {
        part = subst (λ (x : Phased). IsPeripheral x (record p { request = request; owes = owes })) (sym there) part;
        knows_it = ap (λ (x : Phased). x.knows_version) there;
      }

  -- ---- one that is not answered

  silent_waits : (now : Bool) (reply : Reply) → reply ≡ no_reply
      → wait_up (draft_up now) s.control.table.queue.drafts p ≡ true
      → ((with_reply s.control.table.closing reply s.control.table.queue).rejections ≡ [])
      × (wait_up (draft_up now) (with_reply s.control.table.closing reply s.control.table.queue).drafts p ≡ true)
  silent_waits now reply none waits = (
    ap (λ (r : Reply). (with_reply s.control.table.closing r s.control.table.queue).rejections) none ∙ is.rejects,
    ap (λ (r : Reply). wait_up (draft_up now) (with_reply s.control.table.closing r s.control.table.queue).drafts p) none ∙ waits,
  )

  pub takes_silent : (reply_none : outcome.reply ≡ no_reply) → wait_up (draft_up knows_now) s.control.table.queue.drafts p ≡ true → TakesAs result p knows_now
  takes_silent reply_none waits =
      let h = silent_waits knows_now outcome.reply reply_none waits in
      takes_with p.request p.owes (λ goes. record { rejects = h.0; waits = h.1 })

  -- ---- one that is answered

  opens : is_open s.control.table.closing ≡ is_peripheral_open p
  opens = ap is_open is.closing ∙ open_up p.closing

  answer_waits : (draft : Draft) (reply : Reply) → reply ≡ Answer draft → draft_up knows_now draft ≡ Other → p.first ≡ None → p.second ≡ None → p.owes ≡ false
      → wait_up (draft_up knows_now) s.control.table.queue.drafts p ≡ true
      → ((with_reply s.control.table.closing reply s.control.table.queue).rejections ≡ [])
      × (wait_up (draft_up knows_now) (with_reply s.control.table.closing reply s.control.table.queue).drafts (peripheral_answering false p) ≡ true)
  answer_waits draft reply is_answer class first second none waits =
      let done = answer_by (draft_up knows_now) p s.control.table.queue draft class first second none waits (is_open s.control.table.closing) in (
        ap (λ (r : Reply). (with_reply s.control.table.closing r s.control.table.queue).rejections) is_answer
            ∙ rejections_same (is_open s.control.table.closing) s.control.table.queue draft ∙ is.rejects,
        ap (λ (r : Reply). wait_up (draft_up knows_now) (with_reply s.control.table.closing r s.control.table.queue).drafts (peripheral_answering false p)) is_answer
            ∙ subst (λ (b : Bool). wait_up (draft_up knows_now) (with_draft s.control.table.closing draft s.control.table.queue).drafts (record p { owes = b || p.owes }) ≡ true) opens done,
      )

  pub takes_answered : (outcome.step.ends ≡ None → (draft : Draft) × (outcome.reply ≡ Answer draft) × (draft_up knows_now draft ≡ Other)) → p.first ≡ None → p.second ≡ None → p.owes ≡ false
      → wait_up (draft_up knows_now) s.control.table.queue.drafts p ≡ true → TakesAs result (peripheral_answering false p) knows_now
  takes_answered answers first second none waits =
      takes_with p.request (is_peripheral_open p || p.owes)
      (λ goes. let a = answers goes in
      let h = answer_waits a.0 outcome.reply a.1 a.2 first second none waits in
      record { rejects = h.0; waits = h.1 })

  -- ---- an LL_VERSION_IND that crosses the own one, which waits

  pub takes_crossing : outcome.reply ≡ no_reply → s.knows_version ≡ false → is_version (Known ctrl) ≡ true → has_version s.control.table.queue.drafts ≡ true
      → p.first ≡ None → p.second ≡ None → p.owes ≡ false → TakesAs result (peripheral_answering true p) knows_now
  takes_crossing reply_none unknown version has first second none =
      let here : wait_up (draft_up false) s.control.table.queue.drafts p ≡ true = subst (λ (b : Bool). wait_up (draft_up b) s.control.table.queue.drafts p ≡ true) unknown is.waits in
      let h : wait_up (draft_up false) s.control.table.queue.drafts (with_waits p None None p.request false) ≡ true =
      subst (λ (o : Bool). wait_up (draft_up false) s.control.table.queue.drafts (with_waits p None None p.request o) ≡ true) none
      (subst (λ (k : Option PduClass). wait_up (draft_up false) s.control.table.queue.drafts (with_waits p None k p.request p.owes) ≡ true) second
      (subst (λ (k : Option PduClass). wait_up (draft_up false) s.control.table.queue.drafts (with_waits p k p.second p.request p.owes) ≡ true) first here)) in
      let done = crosses s.control.table.queue.drafts p p.request has h in
      let one : wait_up (draft_up true) s.control.table.queue.drafts (record p { request = Absent; owes = true }) ≡ true =
      subst (λ (k : Option PduClass). wait_up (draft_up true) s.control.table.queue.drafts (with_waits p k p.second Absent true) ≡ true) (sym first)
      (subst (λ (k : Option PduClass). wait_up (draft_up true) s.control.table.queue.drafts (with_waits p None k Absent true) ≡ true) (sym second) done) in
      let knows_it : knows_now ≡ true = (λ i. unknown i || version i) in
      let waits : wait_up (draft_up knows_now) s.control.table.queue.drafts (record p { request = Absent; owes = true }) ≡ true =
      subst (λ (b : Bool). wait_up (draft_up b) s.control.table.queue.drafts (record p { request = Absent; owes = true }) ≡ true) (sym knows_it) one in
      takes_with Absent true
      (λ goes. record {
        rejects = ap (λ (r : Reply). (with_reply s.control.table.closing r s.control.table.queue).rejections) reply_none ∙ is.rejects;
        waits = ap (λ (r : Reply). wait_up (draft_up knows_now) (with_reply s.control.table.closing r s.control.table.queue).drafts (record p { request = Absent; owes = true })) reply_none ∙ waits;
      })
