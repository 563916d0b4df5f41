-- A peripheral takes a PDU of another procedure: what the machine of phases sees of it.
use Rattle.std.proofs.Common.{◌≡◌, ℕ, Bool, true, false, ◌||◌, [], Option, Some, None, is_none, refl, ap, sym, subst, ◌∙◌, if◌then◌else◌}
use Rattle.ble_base.specs.ErrorCodes.{memory_capacity_exceeded, mic_failure}
use Rattle.ble_base.specs.declared.error_codes.ErrCode.{ErrCode}
use Rattle.ble_base.specs.declared.roles.Role.TheVariants.{Peripheral as peripheral_role}
use Rattle.data_pdu.specs.declared.ctrl.Ctrl.{Ctrl}
use Rattle.data_pdu.specs.declared.ctrl.Ctrl.TheVariants.{EncReq as enc_req, PauseEncReq as pause_enc_req, PauseEncRsp as pause_enc_rsp, StartEncRsp as start_enc_rsp}
use Rattle.data_pdu.specs.declared.ctrl.CtrlRead.TheVariants.{Known}
use Rattle.phase_pairs.specs.enc_phase.declared.facts.Transition.TheVariants.{Ask, Confirm, Pause, Unlock}
use Rattle.phase_pairs.specs.enc_phase.Phases.{is_quiet, may_follow}
use Rattle.phase_pairs.specs.enc_phase.Taking.{allows, ctrl_class, is_unknown, phase_taking}
use Rattle.joint_controls.specs.procedure_stages.declared.reply.Reply.{Reply}
use Rattle.joint_controls.specs.procedure_stages.Kinds.{role_of}
use Rattle.joint_controls.specs.procedure_stages.Queue.{QueueFacts, with_reply}
use Rattle.joint_controls.specs.procedures.Table.{TableFacts}
use Rattle.joint_controls.specs.procedures.Taking.{outcome_of}
use Rattle.joint_controls.proofs.table_laws.Outcomes.{took as table_took}
use Rattle.joint_controls.specs.control_model.Control.{Control, Takes as control_takes, took}
use Rattle.phase_pairs.specs.declared.peripheral.PhasePeripheral.{PhasePeripheral}
use Rattle.phase_pairs.specs.declared.peripheral.UnsentRequest.{UnsentRequest}
use Rattle.joint_controls.specs.phased_control.Phased.{Phased, is_quiet_now, with_step}
use Rattle.joint_controls.specs.phased_control.Taken.{Response, Takes, answered_if_quiet, answered_kept, ciphered, ciphered_at, ciphered_at_peripheral, ended_with, goes_on, is_version, keeping, keeps_class, knowing, lacks_room_now, moved_to, phased_after, role_now, seen_if, with_phase_taking}
use Rattle.joint_controls.specs.Joint.{is_terminate}
use Rattle.joint_phases.specs.Classes.{draft_up}
use Rattle.joint_phases.specs.Parts.{IsPeripheral, closing_up, wait_up}
use Rattle.joint_phases.proofs.CentralEnters.{opened}
use Rattle.joint_phases.proofs.CentralTable.{took_table_if}
use Rattle.joint_phases.proofs.CentralTakes.{some_none}
use Rattle.joint_phases.proofs.Outcomes.{keeps_open}
use Rattle.joint_phases.proofs.Plain.{never_keeps}

-- ---- what a PDU leaves, before the phase has gone on

module _ (s : Phased) (p : PhasePeripheral) (ctrl : Ctrl) (response : Response) (slot : ℕ) (is : IsPeripheral (opened s) p)
    (allowed : allows s.phase peripheral_role (ctrl_class ctrl) ≡ true) (known : is_unknown s.phase peripheral_role (ctrl_class ctrl) ≡ false) where
  abbrev pub control_after : Control
  control_after = took (Known ctrl) slot (is_quiet s.phase) (record s.control { ends = None })

  abbrev pub seen : Bool → Phased
  seen unknown =
      with_phase_taking (Known ctrl) (with_step (control_takes (seen_if unknown (Known ctrl)) slot (is_quiet s.phase)) (knowing (Known ctrl) (opened s)))

  taken_as : Bool → Bool → Bool → Bool → Phased
  taken_as allows_it keeps full unknown =
      (if allows_it then (if keeps then keeping (Known ctrl) (opened s)
      else (if full then ended_with memory_capacity_exceeded (opened s) else goes_on slot response (Known ctrl) (seen unknown)))
      else ended_with mic_failure (opened s))

  allowed_here : allows s.phase (role_now s) (ctrl_class ctrl) ≡ true
  allowed_here = (λ i. allows s.phase (is.role i) (ctrl_class ctrl)) ∙ allowed

  known_here : is_unknown s.phase (role_now s) (ctrl_class ctrl) ≡ false
  known_here = (λ i. is_unknown s.phase (is.role i) (ctrl_class ctrl)) ∙ known

  never_kept : keeps_class (ctrl_class ctrl) (role_now s) (is_quiet s.phase) ≡ false
  never_kept = (λ i. keeps_class (ctrl_class ctrl) (is.role i) (is_quiet s.phase)) ∙ never_keeps (ctrl_class ctrl) (is_quiet s.phase)

  full : Bool
  full = lacks_room_now (Known ctrl) (opened s)

  abbrev after_full : Bool → Phased
  after_full b = (if b then ended_with memory_capacity_exceeded (opened s) else goes_on slot response (Known ctrl) (seen false))

  taken_is : phased_after (Takes (Known ctrl) slot response) (opened s) ≡ after_full full
  unfolding taken_as full
  taken_is = λ i. taken_as (allowed_here i) (never_kept i) full (known_here i)

  abbrev goes_to : Phased
  goes_to = answered_if_quiet slot (ciphered response (Known ctrl) (seen false))

  pub record Goes (t : Phased) : Type 0 where
    pub lasts : control_after.ends ≡ None
    pub there : t ≡ ciphered_at_peripheral response ctrl (seen false)

  role_after : control_after.ends ≡ None → role_of control_after.table.progress ≡ peripheral_role
  role_after =
      took_table_if s.control ctrl slot (is_quiet s.phase) (λ (g : TableFacts). role_of g.progress ≡ peripheral_role)
      (λ goes. (table_took s.control.table (is_quiet s.phase) (Known ctrl)).role ∙ is.role)

  same_if : (b : Bool) (t : Phased) → (if b then t else t) ≡ t
  same_if true t = refl
  same_if false t = refl

  none_kept : (t : Phased) → t.kept ≡ None → answered_if_quiet slot t ≡ t
  none_kept t none = ap (λ (k : Option Ctrl). if is_quiet_now t then answered_kept slot k t else t) none ∙ same_if (is_quiet_now t) t

  if_kept : (b : Bool) (t u : Phased) → t.kept ≡ u.kept → (if b then t else u).kept ≡ u.kept
  if_kept true t u h = h
  if_kept false t u h = refl

  moved_kept : (transition : _) (owed : Option Ctrl) (t : Phased) → (moved_to transition owed t).kept ≡ t.kept
  moved_kept transition None t = refl
  moved_kept transition (Some c) t = refl

  ciphered_kept : (c : Ctrl) (t : Phased) → (ciphered_at_peripheral response c t).kept ≡ t.kept
  ciphered_kept (enc_req rand ediv skd_m iv_m) t = if_kept (may_follow Ask t.phase) _ _ refl
  ciphered_kept pause_enc_req t = if_kept (may_follow Pause t.phase) _ _ refl
  ciphered_kept start_enc_rsp t = if_kept (may_follow Confirm t.phase) _ _ refl
  ciphered_kept pause_enc_rsp t = if_kept (may_follow Unlock t.phase) _ _ refl
  ciphered_kept c t = refl

  by_ends : (e : Option ErrCode) → control_after.ends ≡ e
      → (if is_none e then goes_to else seen false).control.ends ≡ None → Goes (if is_none e then goes_to else seen false)
  by_ends (Some e) ends lasts = some_none e _ (sym ends ∙ lasts)
  by_ends None ends lasts =
      record {
        lasts = ends;
        there =
            (λ i. answered_if_quiet slot (ciphered_at (role_after ends i) response ctrl (seen false)))
            ∙ none_kept (ciphered_at_peripheral response ctrl (seen false)) (ciphered_kept ctrl (seen false) ∙ is.kept);
      }

  by_full : (b : Bool) → (after_full b).control.ends ≡ None → Goes (after_full b)
  by_full true lasts = some_none (record { 0 = memory_capacity_exceeded }) _ lasts
  by_full false lasts = by_ends control_after.ends refl lasts

  pub goes : (phased_after (Takes (Known ctrl) slot response) (opened s)).control.ends ≡ None
      → Goes (phased_after (Takes (Known ctrl) slot response) (opened s))
  goes lasts = subst Goes (sym taken_is) (by_full full (ap (λ (t : Phased). t.control.ends) (sym taken_is) ∙ lasts))

  -- ---- the part then, with these waiting

  abbrev pub knows_after : Bool
  knows_after = s.knows_version || is_version (Known ctrl)

  abbrev pub queue_with : Reply → QueueFacts
  queue_with reply = with_reply s.control.table.closing reply s.control.table.queue

  abbrev pub reply_here : Reply
  reply_here = (outcome_of s.control.table (is_quiet s.phase) (Known ctrl)).reply

  -- what waits after the reply
  pub record Waits (request : UnsentRequest) (owes : Bool) (queue : QueueFacts) : Type 0 where
    pub rejects : queue.rejections ≡ []
    pub waits : wait_up (draft_up knows_after) queue.drafts (record p { request = request; owes = owes }) ≡ true

  record HasPart (request : UnsentRequest) (owes : Bool) (g : TableFacts) : Type 0 where
    role : role_of g.progress ≡ peripheral_role
    closing : g.closing ≡ closing_up p.closing
    queue : Waits request owes g.queue

  pub taken_part : (request : UnsentRequest) (owes : Bool) → is_terminate ctrl ≡ false → phase_taking (ctrl_class ctrl) s.phase ≡ p.phase
      → ((outcome_of s.control.table (is_quiet s.phase) (Known ctrl)).step.ends ≡ None → Waits request owes (queue_with reply_here))
      → control_after.ends ≡ None → IsPeripheral (seen false) (record p { request = request; owes = owes })
  taken_part request owes apart phase waits lasts =
      let h : HasPart request owes control_after.table =
      took_table_if s.control ctrl slot (is_quiet s.phase) (HasPart request owes)
      (λ goes. record {
        role = (table_took s.control.table (is_quiet s.phase) (Known ctrl)).role ∙ is.role;
        closing = keeps_open s.control.table (is_quiet s.phase) ctrl apart s.control.table.closing ∙ is.closing;
        queue = waits goes;
      }) lasts in
      record {
        role = h.role;
        phase = phase;
        asks_key = is.asks_key;
        closing = h.closing;
        rejects = h.queue.rejects;
        waits = h.queue.waits;
        kept = is.kept;
        request = is.request;
      }
