-- A central takes a PDU outside phases Clear and Secure, by its class: what the machine of phases sees of it.
use Rattle.std.proofs.Common.{◌≡◌, ℕ, Bool, true, false, not, [], Option, Some, None, is_some, refl, ap, sym, ◌∙◌, if◌then◌else◌}
use Rattle.std.proofs.lemmas.Bool.{false_from_ne_true, or_left}
use Rattle.ble_base.specs.declared.roles.Role.TheVariants.{Central as central_role}
use Rattle.data_pdu.specs.declared.ctrl.Ctrl.{Ctrl}
use Rattle.data_pdu.specs.declared.ctrl.Ctrl.TheVariants.{TerminateInd}
use Rattle.phase_pairs.specs.enc_phase.declared.classes.PduClass.{PduClass}
use Rattle.phase_pairs.specs.enc_phase.declared.classes.PduClass.TheVariants.{Request}
use Rattle.phase_pairs.specs.enc_phase.declared.facts.PhaseFacts.{PhaseFacts}
use Rattle.phase_pairs.specs.enc_phase.Phases.{is_quiet}
use Rattle.phase_pairs.specs.enc_phase.Taking.{ctrl_class}
use Rattle.joint_controls.specs.procedure_stages.Queue.{QueueFacts}
use Rattle.joint_controls.specs.procedure_stages.Kinds.{role_of}
use Rattle.joint_controls.specs.table_laws.Encrypting.{has_encryption}
use Rattle.joint_controls.specs.control_model.Control.{Control}
use Rattle.phase_pairs.specs.declared.central.PhaseCentral.{PhaseCentral}
use Rattle.joint_controls.specs.phased_control.Phased.{Phased}
use Rattle.joint_controls.specs.phased_control.Taken.{answered_if_quiet, answered_kept}
use Rattle.joint_controls.specs.Joint.{is_terminate}
use Rattle.joint_phases.specs.Parts.{IsCentral, IsRequest, is_encryption_unsent, may_reject, wait_down}
use Rattle.joint_phases.proofs.CentralEnters.{none_of_two, opened}
use Rattle.joint_phases.proofs.CentralQueue.{no_rejections, nothing_waits}
use Rattle.joint_phases.proofs.CentralTakes.{takes_quiet}
use Rattle.joint_phases.proofs.Stages.{unsent_is_one}
use Rattle.joint_phases.specs.Classes.{draft_down}

-- ---- what was kept is answered

request_apart : (ctrl : Ctrl) → ctrl_class ctrl ≡ Request → is_terminate ctrl ≡ false
request_apart (TerminateInd code) is = absurd (cc)
request_apart ctrl is = refl

module _ (u : Phased) (c : PhaseCentral) (slot : ℕ) (is : IsCentral (record u { kept = None; control = record u.control { ends = None } }) c) (quiet : is_quiet c.phase ≡ true)
    (none : c.awaits ≡ false) where
  kept_by : (kept : Option Ctrl) → IsRequest kept → (answered_kept slot kept (record u { kept = kept; control = record u.control { ends = None } })).control.ends ≡ None
      → IsCentral (answered_kept slot kept (record u { kept = kept; control = record u.control { ends = None } })) c
  kept_by None first lasts = is
  kept_by (Some ctrl) first lasts =
      takes_quiet (record u { kept = None }) c ctrl slot c.awaits is quiet (request_apart ctrl first) (λ a. none_of_two _ _ none a) lasts

  answered_by : (b : Bool) → b ≡ true → (if b then answered_kept slot u.kept (opened u) else opened u).control.ends ≡ None → IsRequest u.kept
      → IsCentral (if b then answered_kept slot u.kept (opened u) else opened u) c
  answered_by true at lasts first = kept_by u.kept first lasts
  answered_by false at lasts first = absurd (cc)

  pub quiet_again : IsRequest u.kept → (answered_if_quiet slot (opened u)).control.ends ≡ None → IsCentral (answered_if_quiet slot (opened u)) c
  quiet_again first lasts = answered_by (is_quiet u.phase) (ap is_quiet is.phase ∙ quiet) lasts first

-- ---- the encryption is over

module _ (s : Phased) (c : PhaseCentral) (is : IsCentral (opened s) c) (unquiet : is_quiet c.phase ≡ false) (none : c.queued ≡ None) (unawaited : c.awaits ≡ false) where
  pub unsent_none : is_encryption_unsent s.control.table.progress ≡ false
  unsent_none = false_from_ne_true _ (λ h. none_some c.queued none (is.begins h))
    where
      none_some : (q : Option PduClass) → q ≡ None → is_some q ≡ true → ⊥
      none_some None at h = absurd (cc)
      none_some (Some k) at h = absurd (cc)

  drafts_none : s.control.table.queue.drafts ≡ []
  drafts_none = nothing_waits (draft_down s.knows_version) c.phase s.control.table.queue.drafts c.queued unquiet none is.waits

  rejects_none : s.control.table.queue.rejections ≡ []
  rejects_none = no_rejections s.control.table.queue.rejections c.phase c.queued unquiet none is.rejects

  pub encryption_over : (k : Control) (knows : Bool) (phase : PhaseFacts) → is_quiet phase ≡ true → role_of k.table.progress ≡ central_role → k.table.closing ≡ s.control.table.closing
      → k.table.queue ≡ s.control.table.queue → has_encryption k.table.progress ≡ false
      → IsCentral (record s { control = k; knows_version = knows; phase = phase; kept = None }) (record c { phase = phase })
  encryption_over k knows phase quiet role closing queue over =
      record {
        role = role;
        phase = refl;
        closing = closing ∙ is.closing;
        awaits = λ a. none_of_two _ _ unawaited a;
        rejects = ap (λ (q : QueueFacts). may_reject q.rejections phase c.queued) queue ∙ rw rejects_none refl;
        waits = ap (λ (q : QueueFacts). wait_down (draft_down knows) phase q.drafts c.queued) queue ∙ rw (drafts_none, none) refl;
        asks_key = is.asks_key;
        kept = λ h. refl;
        keeps_first = _;
        encrypts = over ∙ sym (ap not quiet);
        request = or_left _ _ quiet;
        begins = λ h. none_of_two _ _ over (unsent_is_one k.table.progress h);
      }
