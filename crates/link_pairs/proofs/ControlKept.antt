-- What the steps of the control part leave as it is, and what goes next after its last PDU was acknowledged.
use Rattle.std.proofs.Common.{◌≡◌, ℕ, Bool, true, false, ◌&&◌, ◌<◌, List, [], ◌∷◌, Option, Some, None, is_none, refl, ap, ◌∙◌, if◌then◌else◌}
use Rattle.ble_base.specs.ErrorCodes.{instant_passed}
use Rattle.ble_base.specs.declared.error_codes.ErrCode.{ErrCode}
use Rattle.ble_base.specs.declared.roles.Role.{Role}
use Rattle.ble_base.specs.declared.roles.Role.TheVariants.{Central as central_role, Peripheral as peripheral_role}
use Rattle.data_pdu.specs.declared.ctrl.Ctrl.{Ctrl}
use Rattle.data_pdu.specs.declared.ctrl.Ctrl.TheVariants.{StartEncReq, TerminateInd}
use Rattle.data_pdu.specs.declared.ctrl.CtrlRead.TheVariants.{Known, Unknown}
use Rattle.data_pdu.specs.Layouts.{IsCtrl}
use Rattle.instants.specs.declared.indications.Indication.{Indication}
use Rattle.instants.specs.Track.{event_of, track_after_take}
use Rattle.control_octets.specs.procedure_values.Drafts.{ctrl_of_outgoing, is_out}
use Rattle.control_octets.specs.procedure_values.declared.drafts.Draft.{Draft}
use Rattle.control_octets.specs.procedure_values.declared.drafts.Outgoing.{Outgoing}
use Rattle.control_octets.specs.procedure_values.declared.drafts.Outgoing.TheVariants.{Nothing}
use Rattle.control_octets.specs.procedure_stages.Acked.{progress_acked}
use Rattle.control_octets.specs.procedure_stages.declared.closing.Closing.{Closing}
use Rattle.control_octets.specs.procedure_stages.Closing.{is_disconnecting}
use Rattle.control_octets.specs.procedure_stages.declared.stages.Progress.{Progress}
use Rattle.control_octets.specs.procedure_stages.declared.stages.Progress.TheVariants.{Central as central, Peripheral as peripheral}
use Rattle.control_octets.specs.procedure_stages.Kinds.{role_of}
use Rattle.control_octets.specs.procedure_stages.Queue.{next_by, next_disconnect, next_draft}
use Rattle.control_octets.specs.procedures.Going.{closing_given}
use Rattle.control_octets.specs.procedures.Queue.{next_of}
use Rattle.control_octets.specs.procedures.Sending.{acked_step}
use Rattle.control_octets.specs.procedures.Table.{TableFacts}
use Rattle.control_octets.specs.procedures.Taking.{facts_with, outcome_of}
use Rattle.control_octets.specs.control_model.Control.{Control, Owes, SeesAcknowledged, Sends, Takes, after, ended, following, goes_out, indicated_by, is_to_come, table_if, taken, went}
use Rattle.control_octets.proofs.control_model.Calls.{acked_same, any_step, either_way, took_by}
use Rattle.control_octets.proofs.control_model.Moving.{same_role}
use Rattle.control_octets.specs.Fitting.{FitsOctets}
use Rattle.control_octets.proofs.Steps.{stays_fitting}
use Rattle.link_model.specs.control_end.Answers.{next_ctrl}
use Rattle.link_model.specs.control_end.Held.{held_of}
use Rattle.joint_laws.specs.joint_controls.Joint.{is_terminate}
use Rattle.joint_laws.proofs.joint_phases.Outcomes.{keeps_open}

-- an end is still in its event, and it is to end as before
pub record IsKept (c d : Control) : Type 0 where
  pub entered : d.track.entered ≡ c.track.entered
  pub anchor : d.track.anchor ≡ c.track.anchor
  pub closing : d.table.closing ≡ c.table.closing

pub kept_none : (c : Control) → IsKept c c
kept_none c = record { entered = refl; anchor = refl; closing = refl }

pub kept_then : (c d e : Control) → IsKept c d → IsKept d e → IsKept c e
kept_then c d e one two =
    record { entered = two.entered ∙ one.entered; anchor = two.anchor ∙ one.anchor; closing = two.closing ∙ one.closing }

-- ---- its last PDU is acknowledged

table_kept : (may : Bool) (g : TableFacts) (c : Control) → g.closing ≡ c.table.closing → IsKept c (table_if may g c)
table_kept true g c is = record { entered = refl; anchor = refl; closing = is }
table_kept false g c is = kept_none c

pub acked_kept : (c : Control) → IsKept c (after SeesAcknowledged c)
acked_kept c = any_step (IsKept c) SeesAcknowledged c (table_kept (is_out c.table.out) (acked_step c.table).0 c refl) (kept_none c)

-- ---- a control PDU is sent

following_kept : (role : Role) (indication : Option Indication) (c d : Control) → IsKept c d → IsKept c (following role indication d)
following_kept central_role None c d is = is
following_kept central_role (Some indication) c d is = record { entered = is.entered; anchor = is.anchor; closing = is.closing }
following_kept peripheral_role indication c d is = is

pub sent_kept : (c : Control) (slot : ℕ) (quiet : Bool) → IsKept c (after (Sends slot quiet) c)
sent_kept c slot quiet =
    any_step (IsKept c) (Sends slot quiet) c
    (either_way (IsKept c) (goes_out quiet c) _ c
    (following_kept (role_of c.table.progress) (went slot quiet c).1 c (record c { table = (went slot quiet c).0 })
    (record { entered = refl; anchor = refl; closing = refl }))
    (kept_none c))
    (kept_none c)

-- ---- a control PDU is taken that does not end the link

taken_by : (c : Control) (g : TableFacts) (indication : Option Indication) → g.closing ≡ c.table.closing → IsKept c (taken g None indication c)
taken_by c g None is = record { entered = refl; anchor = refl; closing = is }
taken_by c g (Some indication) is = by (is_to_come c.track indication)
  where
    by : (b : Bool) → IsKept c (if b then record c { table = g; track = track_after_take c.track indication } else ended (record { 0 = instant_passed }) c)
    by true = record { entered = refl; anchor = refl; closing = is }
    by false = record { entered = refl; anchor = refl; closing = refl }

pub taken_kept : (c : Control) (ctrl : Ctrl) (slot : ℕ) (quiet : Bool) → is_terminate ctrl ≡ false → IsKept c (after (Takes (Known ctrl) slot quiet) c)
taken_kept c ctrl slot quiet apart =
    any_step (IsKept c) (Takes (Known ctrl) slot quiet) c
    (took_by (IsKept c) c (λ code. record { entered = refl; anchor = refl; closing = refl }) (Known ctrl) slot quiet
    (taken_by c (facts_with c.table slot (outcome_of c.table quiet (Known ctrl))) (indicated_by (outcome_of c.table quiet (Known ctrl)).step.effect)
    (keeps_open c.table quiet ctrl apart c.table.closing)))
    (kept_none c)

-- ---- nothing is acknowledged where no control PDU is out

none_out : (may : Bool) (c : Control) → (if may then table_if (is_out Nothing) (acked_step c.table).0 c else c) ≡ c
none_out true c = refl
none_out false c = refl

pub acked_none : (c : Control) → c.table.out ≡ Nothing → after SeesAcknowledged c ≡ c
acked_none c is =
    ap (λ (out : Outgoing). if is_none c.ends then table_if (is_out out) (acked_step c.table).0 c else c) is ∙ none_out (is_none c.ends) c

-- ---- neither ends the link

pub table_ends : (may : Bool) (g : TableFacts) (c : Control) → (table_if may g c).ends ≡ c.ends
table_ends true g c = refl
table_ends false g c = refl

pub acked_ends : (c : Control) → (after SeesAcknowledged c).ends ≡ c.ends
acked_ends c = any_step (λ (d : Control). d.ends ≡ c.ends) SeesAcknowledged c (table_ends (is_out c.table.out) (acked_step c.table).0 c) refl

following_ends : (role : Role) (indication : Option Indication) (c d : Control) → d.ends ≡ c.ends → (following role indication d).ends ≡ c.ends
following_ends central_role None c d is = is
following_ends central_role (Some indication) c d is = is
following_ends peripheral_role indication c d is = is

pub sent_ends : (c : Control) (slot : ℕ) (quiet : Bool) → (after (Sends slot quiet) c).ends ≡ c.ends
sent_ends c slot quiet =
    any_step (λ (d : Control). d.ends ≡ c.ends) (Sends slot quiet) c
    (either_way (λ (d : Control). d.ends ≡ c.ends) (goes_out quiet c) _ c
    (following_ends (role_of c.table.progress) (went slot quiet c).1 c (record c { table = (went slot quiet c).0 }) refl) refl)
    refl

-- ---- what a peripheral sends next does not depend on what was acknowledged

drafts_same : (p q : Progress) (event : ℕ) (drafts : List Draft) → role_of p ≡ peripheral_role → role_of q ≡ peripheral_role
    → next_draft p event drafts ≡ next_draft q event drafts
drafts_same (peripheral a) (peripheral b) event [] one two = refl
drafts_same (peripheral a) (peripheral b) event (draft ∷ drafts) one two = refl
drafts_same (central a) q event drafts one two = absurd (cc)
drafts_same p (central b) event drafts one two = absurd (cc)

next_same : (f : TableFacts) (q : Progress) (out : Outgoing) (event : ℕ) (quiet : Bool) → role_of f.progress ≡ peripheral_role → role_of q ≡ peripheral_role
    → next_of (record f { progress = q; out = out }) event quiet ≡ next_of f event quiet
next_same f q out event quiet one two =
    ap (λ (other : Outgoing). next_by f.queue.rejections (if is_disconnecting f.closing && quiet then next_disconnect f.queue.disconnect else other))
    (drafts_same q f.progress event f.queue.drafts two one)

next_if : (may quiet : Bool) (c : Control) (f : TableFacts) → next_of f (event_of c.track) quiet ≡ next_of c.table (event_of c.track) quiet
    → next_ctrl quiet (held_of (table_if may f c)) ≡ next_ctrl quiet (held_of c)
next_if true quiet c f is =
    ap (λ (out : Outgoing). if is_none c.ends then ctrl_of_outgoing out (event_of c.track) c.track.params.latency else None) is
next_if false quiet c f is = refl

pub acked_next : (c : Control) (quiet : Bool) → role_of c.table.progress ≡ peripheral_role → next_ctrl quiet (held_of (after SeesAcknowledged c)) ≡ next_ctrl quiet (held_of c)
acked_next c quiet role =
    any_step (λ (d : Control). next_ctrl quiet (held_of d) ≡ next_ctrl quiet (held_of c)) SeesAcknowledged c
    (next_if (is_out c.table.out) quiet c (acked_step c.table).0
    (next_same c.table (progress_acked c.table.out c.table.progress) Nothing (event_of c.track) quiet role
    ((acked_same c.table.out c.table.progress).role ∙ role)))
    refl

-- ---- what a step keeps of an end: its event, its values and its role

pub record Keeps (c d : Control) : Type 0 where
  pub kept : IsKept c d
  pub fits : FitsOctets c → FitsOctets d
  pub role : (role : Role) → role_of c.table.progress ≡ role → role_of d.table.progress ≡ role

pub keeps_none : (c : Control) → Keeps c c
keeps_none c = record { kept = kept_none c; fits = λ is. is; role = λ role is. is }

pub keeps_then : (c d e : Control) → Keeps c d → Keeps d e → Keeps c e
keeps_then c d e one two =
    record {
      kept = kept_then c d e one.kept two.kept;
      fits = λ is. two.fits (one.fits is);
      role = λ role is. two.role role (one.role role is);
    }

pub keeps_acked : (c : Control) → Keeps c (after SeesAcknowledged c)
keeps_acked c =
    record {
      kept = acked_kept c;
      fits = λ is. stays_fitting c SeesAcknowledged is tt;
      role = λ role is. same_role role SeesAcknowledged c is;
    }

pub keeps_sent : (c : Control) (slot : ℕ) (quiet : Bool) → Keeps c (after (Sends slot quiet) c)
keeps_sent c slot quiet =
    record {
      kept = sent_kept c slot quiet;
      fits = λ is. stays_fitting c (Sends slot quiet) is tt;
      role = λ role is. same_role role (Sends slot quiet) c is;
    }

-- it is a PDU that does not end the link
pub keeps_taken : (c : Control) (ctrl : Ctrl) (slot : ℕ) (quiet : Bool) → IsCtrl ctrl → is_terminate ctrl ≡ false
    → Keeps c (after (Takes (Known ctrl) slot quiet) c)
keeps_taken c ctrl slot quiet is_ctrl apart =
    record {
      kept = taken_kept c ctrl slot quiet apart;
      fits = λ is. stays_fitting c (Takes (Known ctrl) slot quiet) is is_ctrl;
      role = λ role is. same_role role (Takes (Known ctrl) slot quiet) c is;
    }

-- a PDU that is not supported
pub keeps_unknown : (c : Control) (opcode slot : ℕ) (quiet : Bool) → opcode < 256 → Keeps c (after (Takes (Unknown opcode) slot quiet) c)
keeps_unknown c opcode slot quiet small =
    record {
      kept =
          any_step (IsKept c) (Takes (Unknown opcode) slot quiet) c
          (took_by (IsKept c) c (λ code. record { entered = refl; anchor = refl; closing = refl }) (Unknown opcode) slot quiet
          (record { entered = refl; anchor = refl; closing = refl }))
          (kept_none c);
      fits = λ is. stays_fitting c (Takes (Unknown opcode) slot quiet) is small;
      role = λ role is. same_role role (Takes (Unknown opcode) slot quiet) c is;
    }

-- a PDU of the encryption is queued that does not end the link
given_closing : (ctrl : Ctrl) (closing : Closing) → is_terminate ctrl ≡ false → closing_given ctrl closing ≡ closing
given_closing (TerminateInd code) closing apart = absurd (cc)
given_closing StartEncReq closing apart = refl
given_closing ctrl closing apart = refl

pub keeps_owed : (c : Control) (ctrl : Ctrl) → IsCtrl ctrl → is_terminate ctrl ≡ false → Keeps c (after (Owes ctrl) c)
keeps_owed c ctrl is_ctrl apart =
    record {
      kept =
          any_step (IsKept c) (Owes ctrl) c (record { entered = refl; anchor = refl; closing = given_closing ctrl c.table.closing apart })
          (kept_none c);
      fits = λ is. stays_fitting c (Owes ctrl) is is_ctrl;
      role = λ role is. same_role role (Owes ctrl) c is;
    }

-- the link ends
pub keeps_over : (c : Control) (code : ErrCode) → Keeps c (ended code c)
keeps_over c code =
    record {
      kept = record { entered = refl; anchor = refl; closing = refl };
      fits = λ is. record { table = is.table; track = is.track };
      role = λ role is. is;
    }
