-- A central takes a PDU outside phases Clear and Secure: what the machine of phases sees of it.
use Rattle.std.proofs.Common.{◌≡◌, Bool, true, false, not, ◌&&◌, ◌||◌, [], ◌∷◌, ◌++◌, Option, Some, None, is_none, is_some, refl, ap, sym, subst, ◌∙◌, if◌then◌else◌}
use Rattle.joint_controls.specs.procedure_values.declared.drafts.Draft.TheVariants.{Cipher}
use Rattle.joint_controls.specs.procedures.Encryption.{progress_given}
use Rattle.joint_controls.specs.procedures.Going.{closing_given}
use Rattle.std.proofs.lemmas.Bool.{and_from}
use Rattle.data_pdu.specs.declared.ctrl.Ctrl.{Ctrl}
use Rattle.phase_pairs.specs.enc_phase.declared.classes.PduClass.{PduClass}
use Rattle.phase_pairs.specs.enc_phase.declared.classes.PduClass.TheVariants.{EncRsp, Request}
use Rattle.phase_pairs.specs.enc_phase.declared.facts.PhaseFacts.{PhaseFacts}
use Rattle.phase_pairs.specs.enc_phase.declared.facts.PhaseFacts.TheVariants.{Asked, Pausing}
use Rattle.phase_pairs.specs.enc_phase.Phases.{is_quiet}
use Rattle.phase_pairs.specs.enc_phase.Taking.{phase_taking}
use Rattle.joint_controls.specs.procedure_stages.Closing.{is_open}
use Rattle.joint_controls.specs.procedure_stages.Queue.{QueueFacts}
use Rattle.joint_controls.specs.procedure_stages.Kinds.{role_of}
use Rattle.joint_controls.specs.procedures.Table.{TableFacts}
use Rattle.joint_controls.specs.table_laws.Encrypting.{has_encryption}
use Rattle.joint_controls.specs.control_model.Control.{Control}
use Rattle.phase_pairs.specs.declared.central.PhaseCentral.{PhaseCentral}
use Rattle.phase_pairs.specs.Central.{is_ahead}
use Rattle.joint_controls.specs.phased_control.Phased.{Phased, with_owed}
use Rattle.joint_phases.specs.Classes.{draft_down}
use Rattle.joint_phases.specs.Parts.{IsCentral, IsRequest, closing_down, goes_down, is_enc_req, queued_then, is_awaiting, is_encryption_unsent, may_reject, wait_down}
use Rattle.joint_phases.proofs.CentralEnters.{none_of_two, opened}
use Rattle.joint_phases.proofs.CentralQueue.{LetsSame, no_rejections, nothing_waits, same_rejects, same_waits}

-- ---- the phase keeps what matters of a PDU

pub taking_same : (k : PduClass) (phase : PhaseFacts) → LetsSame phase (phase_taking k phase)
taking_same EncRsp (Asked after_pause rsp kept) = record { quiet = refl; ahead = asked_same }
  where
    asked_same : (queued : Option PduClass) → is_ahead (Asked after_pause true kept) queued ≡ is_ahead (Asked after_pause rsp kept) queued
    asked_same None = refl
    asked_same (Some EncRsp) = refl
    asked_same (Some pdu) = refl
taking_same EncRsp phase = record { quiet = refl; ahead = λ queued. refl }
taking_same Request (Asked after_pause rsp kept) = record { quiet = refl; ahead = asked_same }
  where
    asked_same : (queued : Option PduClass) → is_ahead (Asked after_pause rsp true) queued ≡ is_ahead (Asked after_pause rsp kept) queued
    asked_same None = refl
    asked_same (Some EncRsp) = refl
    asked_same (Some pdu) = refl
taking_same Request (Pausing kept) = record { quiet = refl; ahead = pausing_same }
  where
    pausing_same : (queued : Option PduClass) → is_ahead (Pausing true) queued ≡ is_ahead (Pausing kept) queued
    pausing_same None = refl
    pausing_same (Some EncRsp) = refl
    pausing_same (Some pdu) = refl
taking_same Request phase = record { quiet = refl; ahead = λ queued. refl }
taking_same k phase = record { quiet = refl; ahead = λ queued. refl }

-- another PDU may be kept, outside Clear and Secure, and another answer awaited no more
pub taking_central : (s : Phased) (c : PhaseCentral) (k : PduClass) (kept : Option Ctrl) (awaited : Bool) → IsCentral s c → (is_quiet c.phase ≡ true → kept ≡ None) → IsRequest kept
    → (awaited ≡ true → c.awaits ≡ true)
    → IsCentral (record s { phase = phase_taking k s.phase; kept = kept }) (record c { phase = phase_taking k c.phase; awaits = awaited })
taking_central s c k kept awaited is none first less =
    let same = taking_same k c.phase in
    record {
      role = is.role;
      phase = ap (phase_taking k) is.phase;
      closing = is.closing;
      awaits = λ a. is.awaits (less a);
      rejects = same_rejects c.phase (phase_taking k c.phase) s.control.table.queue.rejections c.queued same is.rejects;
      waits = same_waits (draft_down s.knows_version) c.phase (phase_taking k c.phase) s.control.table.queue.drafts c.queued same is.waits;
      asks_key = is.asks_key;
      kept = λ h. none (sym same.quiet ∙ h);
      keeps_first = first;
      encrypts = is.encrypts ∙ sym (ap not same.quiet);
      request = rw same.quiet is.request;
      begins = is.begins;
    }

-- ---- the table stays as it was

pub record SameTable (f g : TableFacts) : Type 0 where
  pub progress : g.progress ≡ f.progress
  pub queue : g.queue ≡ f.queue
  pub closing : g.closing ≡ f.closing

pub same_central : (s : Phased) (c : PhaseCentral) (k : Control) (knows : Bool) → IsCentral s c → SameTable s.control.table k.table → knows ≡ s.knows_version
    → IsCentral (record s { control = k; knows_version = knows }) c
same_central s c k knows is same known =
    record {
      role = ap role_of same.progress ∙ is.role;
      phase = is.phase;
      closing = same.closing ∙ is.closing;
      awaits = λ a. ap is_awaiting same.progress ∙ is.awaits a;
      rejects = ap (λ (q : QueueFacts). may_reject q.rejections c.phase c.queued) same.queue ∙ is.rejects;
      waits = (λ i. wait_down (draft_down (known i)) c.phase (same.queue i).drafts c.queued) ∙ is.waits;
      asks_key = is.asks_key;
      kept = is.kept;
      keeps_first = is.keeps_first;
      encrypts = ap has_encryption same.progress ∙ is.encrypts;
      request = is.request;
      begins = λ h. is.begins (ap is_encryption_unsent (sym same.progress) ∙ h);
    }

-- ---- a PDU of the encryption is queued, in a phase in which nothing waits

module _ (t : Phased) (c : PhaseCentral) (next : PhaseFacts) (ctrl : Ctrl) (pdu : PduClass)
    (is : IsCentral (opened t) c) (unquiet : is_quiet c.phase ≡ false) (none : c.queued ≡ None) (after : is_quiet next ≡ false)
    (given : progress_given t.control.table.progress ctrl ≡ t.control.table.progress)
    (closing : closing_given ctrl t.control.table.closing ≡ t.control.table.closing)
    (class : draft_down t.knows_version (Cipher ctrl) ≡ pdu) (goes : goes_down pdu next (Some pdu) ≡ true) (gone : queued_then pdu (Some pdu) ≡ None) where
  abbrev moved : Phased
  moved = record t { phase = next; control = record t.control { ends = None } }

  abbrev with_queue : QueueFacts → Phased
  with_queue queue =
      record t {
        phase = next;
        control =
            record t.control {
              table = record t.control.table { progress = progress_given t.control.table.progress ctrl; queue = queue; closing = closing_given ctrl t.control.table.closing };
              ends = None;
            };
      }

  no_drafts : t.control.table.queue.drafts ≡ []
  no_drafts = nothing_waits (draft_down t.knows_version) c.phase t.control.table.queue.drafts c.queued unquiet none is.waits

  no_rejects : t.control.table.queue.rejections ≡ []
  no_rejects = no_rejections t.control.table.queue.rejections c.phase c.queued unquiet none is.rejects

  not_unsent : is_encryption_unsent t.control.table.progress ≡ true → ⊥
  not_unsent h = none_some c.queued none (is.begins h)
    where
      none_some : (q : Option PduClass) → q ≡ None → is_some q ≡ true → ⊥
      none_some None at h = absurd (cc)
      none_some (Some k) at h = absurd (cc)

  with_waits : (queue : QueueFacts) (queued : Option PduClass) → may_reject queue.rejections next queued ≡ true
      → wait_down (draft_down t.knows_version) next queue.drafts queued ≡ true
      → IsCentral (with_queue queue) (record c { phase = next; queued = queued })
  with_waits queue queued rejects waits =
      record {
        role = ap role_of given ∙ is.role;
        phase = refl;
        closing = closing ∙ is.closing;
        awaits = λ a. ap is_awaiting given ∙ is.awaits a;
        rejects = rejects;
        waits = waits;
        asks_key = is.asks_key;
        kept = λ h. none_of_two _ _ after h;
        keeps_first = is.keeps_first;
        encrypts = ap has_encryption given ∙ is.encrypts ∙ ap not (unquiet ∙ sym after);
        request = in_next (is_quiet c.phase) (is_quiet next) (is_enc_req t.request) unquiet is.request;
        begins = λ h. absurd (not_unsent (ap is_encryption_unsent (sym given) ∙ h));
      }
    where
      in_next : (a b d : Bool) → a ≡ false → (a || d) ≡ true → (b || d) ≡ true
      in_next true b d not_a h = absurd (cc)
      in_next false true d not_a h = refl
      in_next false false d not_a h = h

  one_goes : (k : PduClass) → k ≡ pdu → goes_down k next (Some pdu) && is_none (queued_then k (Some pdu)) ≡ true
  one_goes k at = rw at (and_from _ _ goes (rw gone refl))

  owes_by : (closed : Bool) → is_open t.control.table.closing ≡ not closed
      → IsCentral (with_queue (if is_open t.control.table.closing then record t.control.table.queue { drafts = t.control.table.queue.drafts ++ Cipher ctrl ∷ [] } else t.control.table.queue))
      (record c { phase = next; queued = if closed then None else Some pdu })
  owes_by true opens =
      subst (λ (b : Bool). IsCentral (with_queue (if b then record t.control.table.queue { drafts = t.control.table.queue.drafts ++ Cipher ctrl ∷ [] } else t.control.table.queue)) (record c { phase = next; queued = None }))
      (sym opens) (with_waits t.control.table.queue None (rw no_rejects refl) (rw no_drafts refl))
  owes_by false opens =
      subst (λ (b : Bool). IsCentral (with_queue (if b then record t.control.table.queue { drafts = t.control.table.queue.drafts ++ Cipher ctrl ∷ [] } else t.control.table.queue)) (record c { phase = next; queued = Some pdu }))
      (sym opens)
      (with_waits (record t.control.table.queue { drafts = t.control.table.queue.drafts ++ Cipher ctrl ∷ [] }) (Some pdu) (rw no_rejects refl) (rw no_drafts (one_goes _ class)))

  opens_now : (closed : Bool) → is_open (closing_down closed) ≡ not closed
  opens_now true = refl
  opens_now false = refl

  pub owes_next : IsCentral (with_owed ctrl moved) (record c { phase = next; queued = if c.closed then None else Some pdu })
  owes_next = owes_by c.closed (ap is_open is.closing ∙ opens_now c.closed)
