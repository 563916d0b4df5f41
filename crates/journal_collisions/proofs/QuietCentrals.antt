-- A central that runs no encryption is in phase Clear or Secure, and then keeps no PDU.
use Rattle.std.proofs.Common.{◌≡◌, not, Bool, true, false, List, Option, Some, None, is_none, refl, ap, sym, ◌∙◌, if◌then◌else◌}
use Rattle.ble_base.specs.declared.error_codes.ErrCode.{ErrCode}
use Rattle.collision_steps.specs.CentralPart.{view}
use Rattle.exclusive_stages.specs.declared.pdus.Exclusive.{Exclusive}
use Rattle.exclusive_stages.specs.Kinds.{central_kind}
use Rattle.procedure_stages.specs.Exclusive.{central_stage}
use Rattle.procedure_stages.specs.declared.stages.OwnCentral.{OwnCentral}
use Rattle.procedure_stages.specs.declared.stages.OwnCentral.TheVariants.{EncryptSent, EncryptUnsent, Exchange, Exclusive as exclusive}
use Rattle.procedure_stages.specs.declared.stages.Progress.{Progress}
use Rattle.procedure_stages.specs.declared.stages.Progress.TheVariants.{Central as central, Peripheral as peripheral}
use Rattle.procedure_stages.specs.Awaited.{is_own_encryption}
use Rattle.procedure_values.specs.declared.drafts.Draft.{Draft}
use Rattle.procedure_values.specs.declared.drafts.Rejection.{Rejection}
use Rattle.data_pdu.specs.declared.ctrl.Ctrl.TheVariants.{EncReq}
use Rattle.data_pdu.specs.declared.ctrl.Ctrl.{Ctrl}
use Rattle.journal_endings.specs.journal_indications.journal_data.link_model.Controls.{goes_on, is_quiet_now}
use Rattle.journal_endings.specs.journal_indications.journal_data.link_model.End.{facts_of}
use Rattle.journal_endings.specs.journal_indications.journal_data.link_model.Facts.{Facts, keyed_of}
use Rattle.journal_endings.specs.journal_indications.journal_data.link_model.KeyedSteps.{keyed_steps_of}
use Rattle.journal_endings.specs.journal_indications.journal_data.link_model.Receiving.{keyed_acked_if}
use Rattle.journal_endings.specs.journal_indications.journal_data.link_model.Setup.{Setup, first_anchor, first_params}
use Rattle.journal_endings.specs.journal_indications.journal_data.link_model.enc_phase.Phases.{is_quiet}
use Rattle.journal_endings.specs.journal_indications.journal_data.link_model.keyed_control.Keyed.{Keyed}
use Rattle.journal_endings.specs.journal_indications.journal_data.link_model.keyed_control.KeyedSteps.{SeesAcknowledged, keyed_moved, phased_steps}
use Rattle.journal_endings.specs.journal_indications.journal_data.link_model.phased_control.Ends.{IsRequest}
use Rattle.journal_endings.specs.journal_indications.journal_data.link_model.phased_control.Phased.{Phased, asks_again, first_phased, with_step}
use Rattle.journal_endings.specs.journal_indications.journal_data.link_model.phased_control.Steps.{owed_steps}
use Rattle.journal_endings.specs.journal_indications.journal_data.link_model.phased_control.Taken.{phased_after_all}
use Rattle.journal_endings.specs.journal_indications.journal_data.link_model.phased_control.table_laws.Encrypting.{has_encryption}
use Rattle.journal_endings.specs.link_runs.link_pairs.control_model.Control.{Control, Owes, SeesAcknowledged as control_sees_acknowledged, after, after_all, table_if}
use Rattle.journal_endings.specs.link_runs.link_pairs.procedures.Sending.{acked_step}
use Rattle.procedure_values.specs.Drafts.{is_out}
use Rattle.journal_endings.proofs.journal_indications.journal_data.link_model.KeyedPasts.{past_goes}
use Rattle.journal_endings.proofs.journal_indications.journal_data.link_model.KnownEnds.{IsPast, past_knows}
use Rattle.journal_endings.proofs.journal_indications.journal_data.link_model.Views.{Knows}
use Rattle.journal_endings.proofs.journal_indications.journal_data.link_model.phased_end.keyed_control.Phases.{moves}
use Rattle.journal_endings.proofs.journal_indications.journal_data.link_model.phased_end.keyed_control.phased_control.Kept.{none_quietly}
use Rattle.journal_endings.proofs.journal_indications.journal_data.link_model.phased_end.keyed_control.phased_control.Moving.{asks_with}
use Rattle.journal_endings.proofs.link_calls.control_model.Calls.{any_step}

-- ---- the own procedure of a central excludes others, so it is no encryption

exclusive_own : (own : OwnCentral) (kind : Exclusive) → central_kind (central_stage own) ≡ Some kind → is_own_encryption own ≡ false
exclusive_own (exclusive stage) kind is = refl
exclusive_own (Exchange stage) kind is = refl
exclusive_own EncryptUnsent kind is = absurd (cc)
exclusive_own EncryptSent kind is = absurd (cc)

pub exclusive_alone : (progress : Progress) (is_open : Bool) (rejections : List Rejection) (drafts : List Draft) (kind : Exclusive)
    → central_kind (view progress is_open rejections drafts).own ≡ Some kind → has_encryption progress ≡ false
exclusive_alone (central c) is_open rejections drafts kind is = exclusive_own c.own kind is
exclusive_alone (peripheral p) is_open rejections drafts kind is = absurd (cc)

-- ---- then its phase is Clear or Secure

pub quiet_there : (setup : Setup) (facts : Facts) → IsPast setup facts → facts.control.ends ≡ None → has_encryption facts.control.table.progress ≡ false
    → is_quiet_now facts ≡ true
quiet_there setup facts p goes alone =
    let knows = past_knows setup facts p in
    ap is_quiet (sym knows.phase) ∙ (knows.fits (ap (λ (e : Option ErrCode). is_none e) goes)).agrees ∙ ap not alone

pub none_kept : (setup : Setup) (facts : Facts) → IsPast setup facts → facts.control.ends ≡ None → is_quiet_now facts ≡ true → facts.encryption.kept ≡ None
none_kept setup facts p goes quiet =
    let params = first_params setup.link.fields in
    let made = keyed_steps_of setup p.past in
    let on : goes_on (facts_of setup p.past) ≡ true = sym (ap (λ (f : Facts). goes_on f) p.is) ∙ ap (λ (e : Option ErrCode). is_none e) goes in
    let same : (keyed_of facts).phased ≡ phased_after_all (phased_steps made) (first_phased setup.link.role setup.link.max_rx params (first_anchor setup)) =
    ap (λ (f : Facts). (keyed_of f).phased) p.is ∙ ap (λ (k : Keyed). k.phased) (past_goes setup p.past on)
    ∙ moves setup.link.role setup.link.max_rx params (first_anchor setup) made in
    ap (λ (s : Phased). s.kept) same
    ∙ none_quietly setup.link.role setup.link.max_rx params (first_anchor setup) (phased_steps made) (sym (ap (λ (s : Phased). is_quiet s.phase) same) ∙ quiet)

-- ---- whether an end is to end the link does not change as it sees its last PDU acknowledged

abbrev ClosesAs : Control → Control → Type 0
ClosesAs c d = d.table.closing ≡ c.table.closing

closing_table : (may : Bool) (c : Control) → ClosesAs c (table_if may (acked_step c.table).0 c)
closing_table true c = refl
closing_table false c = refl

closing_seen : (c : Control) → ClosesAs c (after control_sees_acknowledged c)
closing_seen c = any_step (ClosesAs c) control_sees_acknowledged c (closing_table (is_out c.table.out) c) refl

-- a central may ask for encryption again
closing_again : (asks : Bool) (request : Option Ctrl) (c : Control) → (asks ≡ true → IsRequest request)
    → ClosesAs c (after_all (owed_steps (if asks then request else None)) c)
closing_again true (Some (EncReq rand ediv skd_m iv_m)) c is = any_step (ClosesAs c) (Owes (EncReq rand ediv skd_m iv_m)) c refl refl
closing_again true (Some other) c is = absurd (is refl)
closing_again true None c is = refl
closing_again false request c is = refl

pub closing_acked : (acked : Bool) (k : Keyed) → Knows k → ClosesAs k.phased.control (keyed_acked_if acked k).phased.control
closing_acked false k knows = refl
closing_acked true k knows = by (is_none k.phased.control.ends) refl
  where
    by : (goes : Bool) → is_none k.phased.control.ends ≡ goes → ClosesAs k.phased.control (if goes then keyed_moved SeesAcknowledged k else k).phased.control
    by false is = refl
    by true is =
        ap (λ (c : Control). c.table.closing) (asks_with (asks_again k.phased) k.phased.request (with_step control_sees_acknowledged k.phased) refl)
        ∙ closing_again (asks_again k.phased) k.phased.request (after control_sees_acknowledged k.phased.control) (knows.request is)
        ∙ closing_seen k.phased.control
