-- What a central keeps of the peripheral in each state of a joint run, by its phase of encryption.
use Rattle.std.proofs.Common.{◌≡◌, ℕ, Bool, true, false, not, List, Option, Some, None, is_some, refl, sym, ◌∙◌, subst}
use Rattle.ble_base.specs.declared.procedure_kinds.Kind.TheVariants.{Encrypt}
use Rattle.ble_base.specs.declared.roles.Role.TheVariants.{Central as central_role}
use Rattle.joint_controls.specs.enc_phase.declared.classes.PduClass.TheVariants.{Request}
use Rattle.joint_controls.specs.enc_phase.declared.facts.PhaseFacts.{PhaseFacts}
use Rattle.joint_controls.specs.enc_phase.declared.facts.PhaseFacts.TheVariants.{Asked, Clear, HalfClear, HalfKeyed, Pausing, Secure}
use Rattle.joint_controls.specs.enc_phase.Phases.{is_quiet}
use Rattle.joint_controls.specs.enc_phase.Taking.{allows}
use Rattle.instants.specs.declared.indications.Params.{Params}
use Rattle.exchange_steps.specs.procedure_stages.declared.stages.OwnCentral.{OwnCentral}
use Rattle.exchange_steps.specs.procedure_stages.declared.stages.OwnCentral.TheVariants.{EncryptSent, EncryptUnsent}
use Rattle.exchange_steps.specs.procedure_stages.declared.stages.Progress.{Progress}
use Rattle.exchange_steps.specs.procedure_stages.declared.stages.Progress.TheVariants.{Central as central, Peripheral as peripheral}
use Rattle.exchange_steps.specs.procedure_stages.Awaited.{is_own_encryption}
use Rattle.exchange_steps.specs.procedure_stages.Kinds.{kind_at_central, own_kind, role_of}
use Rattle.joint_controls.specs.table_laws.Encrypting.{has_encryption}
use Rattle.joint_controls.specs.phased_control.Ends.{is_half_keyed, says_kept}
use Rattle.joint_controls.specs.phased_control.Phased.{Phased, first_phased, is_quiet_now}
use Rattle.joint_controls.specs.phased_control.Taken.{PhasedStep, phased_after_all}
use Rattle.joint_controls.proofs.phased_control.Agreeing.{agrees_now}
use Rattle.joint_controls.proofs.phased_control.Kept.{none_quietly, said_now}
use Rattle.joint_controls.proofs.phased_control.Moving.{keeps_role}
use Rattle.joint_controls.specs.Ends.{steps_of_central}
use Rattle.joint_controls.specs.Joint.{Joint, JointStep, after_all, beginning}
use Rattle.joint_controls.proofs.EndSteps.{central_runs}

pub record KeepsForLater (s : Phased) : Type 0 where
  -- outside Clear and Secure its own procedure is an encryption
  pub encrypts : is_quiet_now s ≡ false → own_kind s.control.table.progress ≡ Some Encrypt
  -- in Clear and Secure nothing is kept
  pub quiet : is_quiet_now s ≡ true → s.kept ≡ None
  -- outside them a first PDU of the peripheral may come only where none is kept
  pub once : is_quiet_now s ≡ false → allows s.phase central_role Request ≡ true → s.kept ≡ None

not_false : (b : Bool) → false ≡ not b → b ≡ true
not_false true is = refl
not_false false is = absurd (cc)

own_by : (own : OwnCentral) → is_own_encryption own ≡ true → kind_at_central own ≡ Some Encrypt
own_by EncryptUnsent is = refl
own_by EncryptSent is = refl
own_by own is = absurd (cc)

encrypts_by : (p : Progress) → role_of p ≡ central_role → has_encryption p ≡ true → own_kind p ≡ Some Encrypt
encrypts_by (central c) r is = own_by c.own is
encrypts_by (peripheral p) r is = absurd (cc)

none_by : {X : Type 0} (kept : Option X) → is_some kept ≡ false → kept ≡ None
none_by None is = refl
none_by (Some x) is = absurd (cc)

-- where the first PDU of a procedure may come outside Clear and Secure, the phase says that none is kept
says_none : (phase : PhaseFacts) → is_quiet phase ≡ false → allows phase central_role Request ≡ true → (is_half_keyed phase ≡ false) × (says_kept phase ≡ false)
says_none (Asked after_pause enc_rsp true) quiet is = absurd (cc)
says_none (Asked after_pause enc_rsp false) quiet is = (refl, refl)
says_none (Pausing true) quiet is = absurd (cc)
says_none (Pausing false) quiet is = (refl, refl)
says_none (HalfClear kept) quiet is = absurd (cc)
says_none HalfKeyed quiet is = absurd (cc)
says_none Clear quiet is = absurd (cc)
says_none Secure quiet is = absurd (cc)

keeps_by : (max_rx : ℕ) (first : Params) (slot : ℕ) (steps : List PhasedStep) → KeepsForLater (phased_after_all steps (first_phased central_role max_rx first slot))
keeps_by max_rx first slot steps =
    record {
      encrypts = λ quiet. encrypts_by s.control.table.progress (keeps_role central_role max_rx first slot steps)
          (not_false (has_encryption s.control.table.progress) (sym quiet ∙ agrees_now central_role max_rx first slot steps));
      quiet = none_quietly central_role max_rx first slot steps;
      once = λ quiet lets. let says = says_none s.phase quiet lets in none_by s.kept (said_now central_role max_rx first slot steps says.0 ∙ says.1);
    }
  where
    s : Phased
    s = phased_after_all steps (first_phased central_role max_rx first slot)

-- ---- in a joint run

module _ (central_rx peripheral_rx : ℕ) (first : Params) (slot : ℕ) where
  abbrev start : Joint
  start = beginning central_rx peripheral_rx first slot

  pub central_keeps : (steps : List JointStep) → KeepsForLater (after_all steps start).central
  central_keeps steps =
      subst (λ (c : Phased). KeepsForLater c) (sym (central_runs steps start)) (keeps_by central_rx first slot (steps_of_central steps start))
