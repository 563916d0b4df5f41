-- A central takes a PDU of another procedure in phase Clear or Secure: what the machine of phases sees of it.
use Rattle.std.proofs.Common.{◌≡◌, ℕ, Bool, true, false, not, ◌||◌, [], ◌∷◌, ◌++◌, Option, Some, None, is_none, refl, ap, sym, subst, ◌∙◌, if◌then◌else◌, nat_le}
use Rattle.ble_base.specs.declared.error_codes.ErrCode.{ErrCode}
use Rattle.ble_base.specs.declared.roles.Role.{Role}
use Rattle.ble_base.specs.declared.roles.Role.TheVariants.{Central as central_role}
use Rattle.data_pdu.specs.declared.ctrl.Ctrl.{Ctrl}
use Rattle.data_pdu.specs.declared.ctrl.CtrlRead.{CtrlRead}
use Rattle.data_pdu.specs.declared.ctrl.CtrlRead.TheVariants.{Known}
use Rattle.phase_pairs.specs.enc_phase.declared.classes.PduClass.{PduClass}
use Rattle.phase_pairs.specs.enc_phase.declared.facts.PhaseFacts.{PhaseFacts}
use Rattle.phase_pairs.specs.enc_phase.Phases.{is_quiet}
use Rattle.phase_pairs.specs.enc_phase.Taking.{ctrl_class}
use Rattle.instants.specs.declared.indications.Indication.{Indication}
use Rattle.joint_controls.specs.procedure_values.declared.drafts.Draft.{Draft}
use Rattle.joint_controls.specs.procedure_values.declared.drafts.Draft.TheVariants.{FeatureRsp, LengthRsp, PhyInd, UnknownRsp, VersionInd as version_draft}
use Rattle.joint_controls.specs.procedure_values.declared.drafts.Rejection.{Rejection}
use Rattle.joint_controls.specs.procedure_stages.declared.closing.Closing.{Closing}
use Rattle.joint_controls.specs.procedure_stages.declared.reply.Reply.{Reply}
use Rattle.joint_controls.specs.procedure_stages.declared.reply.Reply.TheVariants.{Answer, Nothing as no_reply, Reject}
use Rattle.joint_controls.specs.procedure_stages.declared.stages.Progress.{Progress}
use Rattle.joint_controls.specs.procedure_stages.declared.stages.Progress.TheVariants.{Central as central, Peripheral as peripheral}
use Rattle.joint_controls.specs.procedure_stages.Closing.{is_open}
use Rattle.joint_controls.specs.procedure_stages.Queue.{QueueFacts, with_reply}
use Rattle.joint_controls.specs.procedures.declared.outcome.Outcome.{Outcome}
use Rattle.joint_controls.specs.procedures.Calls.{takes}
use Rattle.joint_controls.specs.procedures.Table.{TableFacts}
use Rattle.joint_controls.specs.procedures.Taking.{facts_with, lacks_room, outcome_of}
use Rattle.joint_controls.specs.table_laws.Encrypting.{MayBeginBy, has_encryption}
use Rattle.joint_controls.proofs.table_laws.Outcomes.{is_answer, is_reply, took as table_took}
use Rattle.ble_base.specs.ErrorCodes.{instant_passed}
use Rattle.instants.specs.Track.{track_after_take}
use Rattle.joint_controls.specs.procedure_stages.Kinds.{role_of}
use Rattle.joint_controls.specs.control_model.Control.{Control, ended, indicated_by, is_to_come, taken, took}
use Rattle.phase_pairs.specs.declared.central.PhaseCentral.{PhaseCentral}
use Rattle.ble_base.specs.ErrorCodes.{memory_capacity_exceeded, mic_failure}
use Rattle.joint_controls.specs.procedure_stages.Queue.{waiting_in}
use Rattle.phase_pairs.specs.Agreement.{is_encryption}
use Rattle.joint_controls.specs.control_model.Control.{Takes as control_takes}
use Rattle.joint_controls.specs.phased_control.Phased.{Phased, is_quiet_now, with_step}
use Rattle.joint_controls.specs.phased_control.Taken.{Response, Takes, answered_if_quiet, answered_kept, ciphered, ciphered_at, ended_with, goes_on, is_answered_at, is_version, keeping, knowing, phased_after, role_now, seen_if, with_phase_taking}
use Rattle.joint_phases.proofs.Plain.{allows_quiet, keeps_quiet, never_unknown, plain_at_central, room_now, taking_quiet, unanswered}
use Rattle.joint_controls.specs.Joint.{is_terminate}
use Rattle.joint_phases.specs.Classes.{draft_down}
use Rattle.joint_phases.specs.Parts.{IsCentral, closing_down, is_awaiting, wait_down}
use Rattle.joint_phases.proofs.CentralEnters.{opened, quiet_step}
use Rattle.joint_phases.proofs.CentralQueue.{is_of_others, knows_then, others_more}
use Rattle.joint_phases.proofs.Outcomes.{keeps_open, none_begins, took_goes}

-- ---- what is sent for it waits

answer_others : (knows used : Bool) (draft : Draft) → is_answer central_role used draft ≡ true → is_of_others (draft_down knows draft) ≡ true
answer_others true used version_draft is = refl
answer_others false used version_draft is = refl
answer_others knows used FeatureRsp is = refl
answer_others knows used (LengthRsp rx tx) is = refl
answer_others knows used (UnknownRsp opcode) is = refl
answer_others knows used PhyInd is = refl
answer_others knows used draft is = absurd (cc)

module _ (knows used : Bool) (phase : PhaseFacts) (queue : QueueFacts) (queued : Option PduClass) (quiet : is_quiet phase ≡ true)
    (waits : wait_down (draft_down knows) phase queue.drafts queued ≡ true) where
  answer_waits : (b : Bool) (draft : Draft) → is_answer central_role used draft ≡ true
      → wait_down (draft_down knows) phase (if b then record queue { drafts = queue.drafts ++ draft ∷ [] } else queue).drafts queued ≡ true
  answer_waits true draft is = others_more (draft_down knows) phase queue.drafts queued draft quiet (answer_others knows used draft is) waits
  answer_waits false draft is = waits

  reject_waits : (b : Bool) (rejection : Rejection)
      → wait_down (draft_down knows) phase (if b then record queue { rejections = queue.rejections ++ rejection ∷ [] } else queue).drafts queued ≡ true
  reject_waits true rejection = waits
  reject_waits false rejection = waits

  reply_waits : (closing : Closing) (reply : Reply) → is_reply central_role used reply ≡ true
      → wait_down (draft_down knows) phase (with_reply closing reply queue).drafts queued ≡ true
  reply_waits closing no_reply is = waits
  reply_waits closing (Reject rejection) is = reject_waits (is_open closing) rejection
  reply_waits closing (Answer draft) is = answer_waits (is_open closing) draft is

no_begin : (p : Progress) (read : CtrlRead) (slot : ℕ) (quiet : Bool) → role_of p ≡ central_role → MayBeginBy p (takes read slot quiet) → ⊥
no_begin (central x) read slot quiet role begins = begins
no_begin (peripheral x) read slot quiet role begins = absurd (cc)

-- ---- a PDU is taken in Clear or Secure

module _ (s : Phased) (c : PhaseCentral) (ctrl : Ctrl) (slot : ℕ) (awaited : Bool) (is : IsCentral (opened s) c) (quiet : is_quiet c.phase ≡ true)
    (apart : is_terminate ctrl ≡ false)
    (awaits : awaited ≡ true → is_awaiting (outcome_of s.control.table true (Known ctrl)).progress ≡ true) where
  abbrev outcome : Outcome
  outcome = outcome_of s.control.table true (Known ctrl)

  abbrev knows : Bool
  knows = s.knows_version || is_version (Known ctrl)

  abbrev Holds : Control → Type 0
  Holds k = k.ends ≡ None → IsCentral (record s { control = k; knows_version = knows }) (record c { awaits = awaited })

  abbrev table_after : TableFacts
  table_after = facts_with s.control.table slot outcome

  holds_with : lacks_room s.control.table outcome ≡ false → outcome.step.ends ≡ None → (k : Control) → k.table ≡ table_after → Holds k
  holds_with room goes k is_table lasts =
      let took = table_took s.control.table true (Known ctrl) in
      let role : role_of k.table.progress ≡ central_role = ap (λ (f : TableFacts). role_of f.progress) is_table ∙ took.role ∙ is.role in
      let closing : k.table.closing ≡ closing_down c.closed =
      ap (λ (f : TableFacts). f.closing) is_table ∙ keeps_open s.control.table true ctrl apart s.control.table.closing ∙ is.closing in
      let none : has_encryption outcome.progress ≡ false =
      none_begins s.control.table (Known ctrl) slot true room goes (no_begin s.control.table.progress (Known ctrl) slot true is.role)
      (is.encrypts ∙ ap not quiet) in
      let waits : wait_down (draft_down knows) c.phase table_after.queue.drafts c.queued ≡ true =
      reply_waits knows s.control.table.version_used c.phase s.control.table.queue c.queued quiet
      (knows_then s.knows_version (is_version (Known ctrl)) c.phase s.control.table.queue.drafts c.queued quiet is.waits)
      s.control.table.closing outcome.reply (subst (λ (r : Role). is_reply r s.control.table.version_used outcome.reply ≡ true) is.role took.reply) in
      quiet_step (opened s) c k knows awaited is quiet role closing
      (λ a. ap (λ (f : TableFacts). is_awaiting f.progress) is_table ∙ awaits a)
      (ap (λ (f : TableFacts). has_encryption f.progress) is_table ∙ none)
      (subst (λ (f : TableFacts). wait_down (draft_down knows) c.phase f.queue.drafts c.queued ≡ true) (sym is_table) waits)

  indication_holds : lacks_room s.control.table outcome ≡ false → outcome.step.ends ≡ None → (indication : Option Indication)
      → Holds (taken table_after None indication (record s.control { ends = None }))
  indication_holds room goes None = holds_with room goes _ refl
  indication_holds room goes (Some indication) = by (is_to_come s.control.track indication)
    where
      by : (b : Bool) → Holds (if b then record s.control { table = table_after; track = track_after_take s.control.track indication; ends = None } else ended (record { 0 = instant_passed }) (record s.control { ends = None }))
      by true = holds_with room goes _ refl
      by false = λ lasts. absurd (cc)

  pub takes_quiet : Holds (took (Known ctrl) slot true (record s.control { ends = None }))
  takes_quiet =
      took_goes Holds (record s.control { ends = None }) (Known ctrl) slot true (λ e. λ lasts. absurd (cc))
      (λ room. λ goes. indication_holds room goes (indicated_by outcome.step.effect))

-- ---- one that is not of the encryption

pub some_none : (e : ErrCode) (E : Type 0) → ◌≡◌ {A = Option ErrCode} (Some e) None → E
some_none e E is = absurd (cc)

module _ (s : Phased) (c : PhaseCentral) (ctrl : Ctrl) (response : Response) (slot : ℕ) (awaited : Bool) (is : IsCentral (opened s) c) (quiet : is_quiet c.phase ≡ true)
    (apart : is_terminate ctrl ≡ false) (plain : is_encryption (ctrl_class ctrl) ≡ false)
    (awaits : awaited ≡ true → is_awaiting (outcome_of s.control.table true (Known ctrl)).progress ≡ true) where
  abbrev control_after : Bool → Control
  control_after q = took (Known ctrl) slot q (record s.control { ends = None })

  abbrev seen : Bool → Bool → Phased
  seen unknown q =
      with_phase_taking (Known ctrl) (with_step (control_takes (seen_if unknown (Known ctrl)) slot q) (knowing (Known ctrl) (opened s)))

  taken_as : Bool → Bool → Bool → Bool → Bool → Phased
  taken_as allowed keeps full unknown q =
      (if allowed then (if keeps then keeping (Known ctrl) (opened s)
      else (if full then ended_with memory_capacity_exceeded (opened s) else goes_on slot response (Known ctrl) (seen unknown q)))
      else ended_with mic_failure (opened s))

  quiet_here : is_quiet s.phase ≡ true
  quiet_here = ap is_quiet is.phase ∙ quiet

  taken_is : phased_after (Takes (Known ctrl) slot response) (opened s) ≡ goes_on slot response (Known ctrl) (seen false true)
  unfolding taken_as
  taken_is =
      λ i. taken_as (allows_quiet s.phase (role_now s) (ctrl_class ctrl) quiet_here i)
      (keeps_quiet (ctrl_class ctrl) (role_now s) (is_quiet s.phase) quiet_here i)
      (room_now (is_open s.control.table.closing) (nat_le 16 (waiting_in s.control.table.queue)) (is_answered_at (role_now s) ctrl s.phase) (unanswered (role_now s) ctrl s.phase plain) i)
      (never_unknown s.phase (role_now s) (ctrl_class ctrl) plain i)
      (quiet_here i)

  after_is : (control_after true).ends ≡ None → IsCentral (seen false true) (record c { awaits = awaited })
  after_is lasts =
      subst (λ (p : PhaseFacts). IsCentral (record s { control = control_after true; knows_version = s.knows_version || is_version (Known ctrl); phase = p }) (record c { awaits = awaited }))
      (sym (taking_quiet (ctrl_class ctrl) s.phase quiet_here)) (takes_quiet s c ctrl slot awaited is quiet apart awaits lasts)

  same_if : (b : Bool) (t : Phased) → (if b then t else t) ≡ t
  same_if true t = refl
  same_if false t = refl

  none_kept : (t : Phased) → t.kept ≡ None → answered_if_quiet slot t ≡ t
  none_kept t none = ap (λ (k : Option Ctrl). if is_quiet_now t then answered_kept slot k t else t) none ∙ same_if (is_quiet_now t) t

  goes_then : (t : Phased) → role_now t ≡ central_role → t.kept ≡ None → answered_if_quiet slot (ciphered response (Known ctrl) t) ≡ t
  goes_then t role none =
      ap (λ r. answered_if_quiet slot (ciphered_at r response ctrl t)) role ∙ ap (answered_if_quiet slot) (plain_at_central ctrl t plain) ∙ none_kept t none

  -- the part after it, and whether the version of the peripheral is known
  record TakenAs (t : Phased) : Type 0 where
    part : IsCentral t (record c { awaits = awaited })
    knows_it : t.knows_version ≡ s.knows_version || is_version (Known ctrl)

  by_ends : (e : Option ErrCode) → (control_after true).ends ≡ e
      → (if is_none e then answered_if_quiet slot (ciphered response (Known ctrl) (seen false true)) else seen false true).control.ends ≡ None
      → TakenAs (if is_none e then answered_if_quiet slot (ciphered response (Known ctrl) (seen false true)) else seen false true)
  by_ends (Some e) ends lasts = some_none e _ (sym ends ∙ lasts)
  by_ends None ends lasts =
      let h = after_is ends in
      subst TakenAs (sym (goes_then (seen false true) h.role (h.kept quiet))) (record { part = h; knows_it = refl })

  takes_it : (phased_after (Takes (Known ctrl) slot response) (opened s)).control.ends ≡ None → TakenAs (phased_after (Takes (Known ctrl) slot response) (opened s))
  takes_it lasts =
      subst TakenAs (sym taken_is) (by_ends (control_after true).ends refl (ap (λ (t : Phased). t.control.ends) (sym taken_is) ∙ lasts))

  pub takes_plain : (phased_after (Takes (Known ctrl) slot response) (opened s)).control.ends ≡ None
      → IsCentral (phased_after (Takes (Known ctrl) slot response) (opened s)) (record c { awaits = awaited })
  takes_plain lasts = (takes_it lasts).part

  pub plain_knows : (phased_after (Takes (Known ctrl) slot response) (opened s)).control.ends ≡ None
      → (phased_after (Takes (Known ctrl) slot response) (opened s)).knows_version ≡ s.knows_version || is_version (Known ctrl)
  plain_knows lasts = (takes_it lasts).knows_it
