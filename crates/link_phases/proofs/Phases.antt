-- The phase of an end after any past, what it keeps there, and whether its encryption runs by its notes.
use Rattle.std.proofs.Common.{◌≡◌, Bool, true, false, not, List, [], ◌∷◌, ◌++◌, fold, Option, Some, None, is_none, option_map, refl, ap, sym, subst, ◌∙◌, if◌then◌else◌}
use Rattle.ble_base.specs.ErrorCodes.{mic_failure}
use Rattle.ble_base.specs.declared.error_codes.ErrCode.{ErrCode}
use Rattle.ble_base.specs.declared.procedure_kinds.Kind.TheVariants.{Encrypt}
use Rattle.ble_base.specs.declared.roles.Role.{Role}
use Rattle.ble_base.specs.declared.roles.Role.TheVariants.{Central, Peripheral}
use Rattle.exclusive_stages.specs.Kinds.{central_kind, kind_of, peripheral_kind}
use Rattle.exclusive_stages.specs.declared.pdus.Exclusive.{Exclusive}
use Rattle.exclusive_stages.specs.declared.pdus.Exclusive.TheVariants.{Update, Request, Map, Phy}
use Rattle.link_model.specs.Controls.{goes_on, is_quiet_now}
use Rattle.link_model.specs.End.{facts_after, facts_of, notes_of}
use Rattle.link_model.specs.Facts.{Facts, first_facts, keyed_of}
use Rattle.link_model.specs.KeyedSteps.{is_forged_in_step, keyed_steps_in, keyed_steps_of}
use Rattle.link_model.specs.Receiving.{ended_by_forgery}
use Rattle.link_model.specs.Setup.{Setup, first_anchor, first_params}
use Rattle.link_model.specs.Step.{Step}
use Rattle.link_model.specs.control_model.Control.{ended}
use Rattle.link_model.specs.keyed_control.Keyed.{Keyed, first_keyed}
use Rattle.link_model.specs.keyed_control.KeyedSteps.{KeyedStep, keyed_after_all, phased_steps}
use Rattle.link_model.specs.phased_control.Phased.{Phased, is_quiet_now as phased_quiet}
use Rattle.link_model.specs.phased_control.table_laws.Encrypting.{has_encryption}
use Rattle.link_model.specs.procedure_stages.Kinds.{is_kind, kind_of_exchange, own_kind, role_of}
use Rattle.link_model.specs.procedure_stages.declared.stages.Exchange.{Exchange}
use Rattle.link_model.specs.procedure_stages.declared.stages.Exchange.TheVariants.{FeaturesUnsent, FeaturesSent, VersionUnsent, VersionSent, LengthUnsent, LengthSent}
use Rattle.link_model.specs.procedure_stages.declared.stages.OwnCentral.{OwnCentral}
use Rattle.link_model.specs.procedure_stages.declared.stages.OwnCentral.TheVariants.{EncryptSent, EncryptUnsent, Exchange as exchange, Exclusive as exclusive}
use Rattle.link_model.specs.procedure_stages.declared.stages.OwnPeripheral.{OwnPeripheral}
use Rattle.link_model.specs.procedure_stages.declared.stages.OwnPeripheral.TheVariants.{Exchange as exchange_p, Exclusive as exclusive_p}
use Rattle.link_model.specs.procedure_stages.declared.stages.Progress.{Progress}
use Rattle.link_model.specs.procedure_stages.declared.stages.Progress.TheVariants.{Central as central, Peripheral as peripheral}
use Rattle.link_model.specs.procedure_values.Asks.{is_same_kind}
use Rattle.link_model.proofs.KeyedPasts.{over, past_goes, past_in_phase}
use Rattle.link_model.proofs.KeyedSteps.{forged_ends, joined, one_step}
use Rattle.link_model.proofs.KnownEnds.{IsPast, first_past, step_past}
use Rattle.link_model.proofs.phased_end.keyed_control.Phases.{moves}
use Rattle.link_model.proofs.phased_end.keyed_control.phased_control.Agreeing.{agrees_now}
use Rattle.link_model.proofs.phased_end.keyed_control.phased_control.Kept.{none_quietly, tied_now}
use Rattle.link_procedures.specs.Running.{runs_noted}
use Rattle.link_procedures.proofs.Steps.{past_goes as noted_goes}

-- ---- an end of this role, also one that ended the link

pub record InPhase (role : Role) (s : Phased) : Type 0 where
  pub is_role : role_of s.control.table.progress ≡ role
  -- it is in phase Clear or Secure exactly where no encryption is in progress, and keeps nothing then
  pub agrees : phased_quiet s ≡ not (has_encryption s.control.table.progress)
  pub none : phased_quiet s ≡ true → s.kept ≡ None
  -- a peripheral keeps nothing
  pub none_there : role ≡ Peripheral → s.kept ≡ None

module _ (setup : Setup) where
  abbrev first : Keyed
  first = first_keyed setup.link.role setup.link.max_rx (first_params setup.link.fields) (first_anchor setup)

  abbrev IsIn : Keyed → Type 0
  IsIn k = InPhase setup.link.role k.phased

  -- after steps of procedures, phase and keys
  after_steps : (steps : List KeyedStep) → IsIn (keyed_after_all steps first)
  after_steps steps =
      let role = setup.link.role in
      let most = setup.link.max_rx in
      let params = first_params setup.link.fields in
      let slot = first_anchor setup in
      subst (InPhase role) (sym (moves role most params slot steps))
      (record {
        is_role = (tied_now role most params slot (phased_steps steps)).is_role;
        agrees = agrees_now role most params slot (phased_steps steps);
        none = none_quietly role most params slot (phased_steps steps);
        none_there = (tied_now role most params slot (phased_steps steps)).none;
      })

  -- ---- after a past

  forged_in : (facts : Facts) → IsIn (keyed_of facts) → IsIn (keyed_of (record facts { control = ended_by_forgery facts.control }))
  forged_in facts is = by (is_none facts.control.ends)
    where
      by : (goes : Bool) → IsIn (keyed_of (record facts { control = (if goes then ended (record { 0 = mic_failure }) facts.control else facts.control) }))
      by true = record { is_role = is.is_role; agrees = is.agrees; none = is.none; none_there = is.none_there }
      by false = is

  -- after a past, and then some steps of its own more
  pub later_in : (facts : Facts) (p : IsPast setup facts) → IsIn (keyed_of facts) → (steps : List KeyedStep) → IsIn (keyed_after_all steps (keyed_of facts))
  later_in facts p is steps = by facts.control.ends refl
    where
      made : List KeyedStep
      made = keyed_steps_of setup p.past

      by : (ends : Option ErrCode) → facts.control.ends ≡ ends → IsIn (keyed_after_all steps (keyed_of facts))
      by None lasts =
          let lasting : goes_on (facts_of setup p.past) ≡ true =
          sym (ap (λ (f : Facts). goes_on f) p.is) ∙ ap (λ (e : Option ErrCode). is_none e) lasts in
          subst IsIn
          (joined made steps first ∙ ap (keyed_after_all steps) (sym (ap (λ (f : Facts). keyed_of f) p.is ∙ past_goes setup p.past lasting)))
          (after_steps (made ++ steps))
      by (Some code) lasts = subst (InPhase setup.link.role) (sym (over steps (keyed_of facts) code lasts).phased) is

  step_in : (facts : Facts) (step : Step) → IsPast setup facts → IsIn (keyed_of facts) → IsIn (keyed_of (facts_after setup facts step))
  step_in facts step p is = by (is_forged_in_step setup facts step) refl
    where
      by : (forged : Bool) → is_forged_in_step setup facts step ≡ forged → IsIn (keyed_of (facts_after setup facts step))
      by true forged = subst (λ (f : Facts). IsIn (keyed_of f)) (sym (forged_ends setup facts step forged)) (forged_in facts is)
      by false forged =
          subst IsIn
          (sym (one_step setup facts step
          (subst (λ (f : Facts). f.encryption.end.phase ≡ f.encryption.phase) (sym p.is) (past_in_phase setup p.past)) forged))
          (later_in facts p is (keyed_steps_in setup facts step))

  steps_in : (facts : Facts) (steps : List Step) → IsPast setup facts → IsIn (keyed_of facts) → IsIn (keyed_of (fold (facts_after setup) facts steps))
  steps_in facts [] p is = is
  steps_in facts (step ∷ steps) p is = steps_in (facts_after setup facts step) steps (step_past setup facts step p) (step_in facts step p is)

  past_in : (past : List Step) → IsIn (keyed_of (facts_of setup past))
  unfolding facts_of
  past_in past = steps_in (first_facts setup) past (first_past setup) (after_steps [])

  pub facts_in : (facts : Facts) → IsPast setup facts → IsIn (keyed_of facts)
  facts_in facts p = subst (λ (f : Facts). IsIn (keyed_of f)) (sym p.is) (past_in p.past)

-- ---- whether the own procedure is that of encryption

abbrev pub encrypts : Phased → Bool
encrypts s = is_kind (own_kind s.control.table.progress) Encrypt

pub exclusive_other : (own : Option Exclusive) → is_kind (option_map kind_of own) Encrypt ≡ false
exclusive_other None = refl
exclusive_other (Some Update) = refl
exclusive_other (Some Request) = refl
exclusive_other (Some Map) = refl
exclusive_other (Some Phy) = refl

exchange_other : (stage : Exchange) → is_same_kind (kind_of_exchange stage) Encrypt ≡ false
exchange_other FeaturesUnsent = refl
exchange_other FeaturesSent = refl
exchange_other VersionUnsent = refl
exchange_other VersionSent = refl
exchange_other LengthUnsent = refl
exchange_other LengthSent = refl

own_there : (p : Progress) → role_of p ≡ Peripheral → is_kind (own_kind p) Encrypt ≡ false
own_there (central c) is = absurd cc
own_there (peripheral p) is = by p.own
  where
    by : (own : OwnPeripheral) → is_kind (own_kind (peripheral (record p { own = own }))) Encrypt ≡ false
    by (exclusive_p stage) = exclusive_other (peripheral_kind stage)
    by (exchange_p stage) = exchange_other stage

own_here : (p : Progress) → role_of p ≡ Central → is_kind (own_kind p) Encrypt ≡ has_encryption p
own_here (peripheral p) is = absurd cc
own_here (central c) is = by c.own
  where
    by : (own : OwnCentral) → is_kind (own_kind (central (record c { own = own }))) Encrypt ≡ has_encryption (central (record c { own = own }))
    by (exclusive stage) = exclusive_other (central_kind stage)
    by (exchange stage) = exchange_other stage
    by EncryptUnsent = refl
    by EncryptSent = refl

other_way : (quiet has : Bool) → quiet ≡ not has → has ≡ not quiet
other_way true false is = refl
other_way false true is = refl
other_way true true is = absurd cc
other_way false false is = absurd cc

pub at_central : (s : Phased) → InPhase Central s → encrypts s ≡ not (phased_quiet s)
at_central s is = own_here s.control.table.progress is.is_role ∙ other_way (phased_quiet s) _ is.agrees

pub at_peripheral : (s : Phased) → InPhase Peripheral s → encrypts s ≡ false
at_peripheral s is = own_there s.control.table.progress is.is_role

-- an end keeps nothing where it does not encrypt
pub none_kept : (role : Role) (s : Phased) → InPhase role s → encrypts s ≡ false → s.kept ≡ None
none_kept Central s is none = is.none (quietly (phased_quiet s) (sym (at_central s is) ∙ none))
  where
    quietly : (quiet : Bool) → not quiet ≡ false → quiet ≡ true
    quietly true is = refl
    quietly false is = absurd cc
none_kept Peripheral s is none = is.none_there refl

-- ---- the laws

module _ (setup : Setup) (past : List Step) where
  abbrev now : Phased
  now = (keyed_of (facts_of setup past)).phased

  in_role : (role : Role) → setup.link.role ≡ role → InPhase role now
  in_role role is = subst (λ (r : Role). InPhase r now) is (past_in setup past)

  pub encrypts_at_central : setup.link.role ≡ Central → runs_noted Encrypt (notes_of setup past) ≡ not (is_quiet_now (facts_of setup past))
  encrypts_at_central is = noted_goes setup past Encrypt ∙ at_central now (in_role Central is)

  pub encrypts_at_peripheral : setup.link.role ≡ Peripheral → runs_noted Encrypt (notes_of setup past) ≡ false
  encrypts_at_peripheral is = noted_goes setup past Encrypt ∙ at_peripheral now (in_role Peripheral is)

  pub keeps_none : runs_noted Encrypt (notes_of setup past) ≡ false → (facts_of setup past).encryption.kept ≡ None
  keeps_none none = none_kept setup.link.role now (past_in setup past) (sym (noted_goes setup past Encrypt) ∙ none)
