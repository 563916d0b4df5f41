-- The host of a central is asked for no key: an answer to such a request changes nothing there.
use Rattle.std.proofs.Common.{◌≡◌, ℕ, ◌&&◌, not, Bool, true, false, List, [], ◌∷◌, None, is_none, refl, sym, ap, ◌∙◌, if◌then◌else◌}
use Rattle.ble_base.specs.declared.roles.Role.{Role}
use Rattle.ble_base.specs.declared.roles.Role.TheVariants.{Central, Peripheral}
use Rattle.instants.specs.declared.indications.Params.{Params}
use Rattle.run_pairs.specs.link_calls.link_model.Controls.{goes_on}
use Rattle.run_pairs.specs.link_calls.link_model.End.{facts_of}
use Rattle.run_pairs.specs.link_calls.link_model.Facts.{Facts, keyed_of, with_keyed}
use Rattle.run_pairs.specs.link_calls.link_model.Hosts.{facts_key_answered, leaving_from_if}
use Rattle.run_pairs.specs.link_calls.link_model.KeyedSteps.{keyed_steps_of}
use Rattle.run_pairs.specs.link_calls.link_model.Setup.{Setup, first_anchor, first_params}
use Rattle.run_pairs.specs.link_calls.link_model.Step.{Step}
use Rattle.run_pairs.specs.link_calls.link_model.enc_phase.declared.facts.Transition.TheVariants.{Refuse}
use Rattle.run_pairs.specs.link_calls.link_model.enc_phase.Phases.{may_follow}
use Rattle.run_pairs.specs.link_calls.link_model.keyed_control.Keyed.{Keyed}
use Rattle.run_pairs.specs.link_calls.link_model.keyed_control.KeyedSteps.{KeyedStep, end_changed, phased_steps}
use Rattle.run_pairs.specs.link_calls.link_model.phased_control.PhaseChanges.{Stays, moves_if}
use Rattle.run_pairs.specs.link_calls.link_model.phased_control.Phased.{Phased, first_phased, is_open_now, key_lacking}
use Rattle.run_pairs.specs.link_calls.link_model.phased_control.Taken.{PhasedStep, phased_after, phased_after_all}
use Rattle.link_pairs.specs.procedure_stages.Closing.{is_open}
use Rattle.run_pairs.proofs.link_calls.link_model.KeyedPasts.{past_goes}
use Rattle.run_pairs.proofs.link_calls.link_model.phased_end.keyed_control.Phases.{moves}
use Rattle.run_pairs.proofs.link_calls.link_model.phased_end.keyed_control.phased_control.Agreeing.{Sound, sound_after, sound_first}

sound_all : (role : Role) (steps : List PhasedStep) (s : Phased) → Sound role s → Sound role (phased_after_all steps s)
sound_all role [] s sound = sound
sound_all role (step ∷ steps) s sound = sound_all role steps (phased_after step s) (sound_after role step s sound)

none_at_central : (role : Role) (s : Phased) → Sound role s → role ≡ Central → s.asks_key ≡ false
none_at_central role s sound is = by s.asks_key refl
  where
    by : (b : Bool) → s.asks_key ≡ b → b ≡ false
    by true asks = absurd (let no : Central ≡ Peripheral = sym is ∙ sound.tied.asked_at asks in cc)
    by false asks = refl

module _ (setup : Setup) (past : List Step) (is : setup.link.role ≡ Central) (goes : goes_on (facts_of setup past) ≡ true) where
  abbrev steps : List KeyedStep
  steps = keyed_steps_of setup past

  abbrev params : Params
  params = first_params setup.link.fields

  asks_none : (facts_of setup past).encryption.asks_key ≡ false
  asks_none =
      let role = setup.link.role in
      let most = setup.link.max_rx in
      let slot = first_anchor setup in
      ap (λ (k : Keyed). k.phased.asks_key) (past_goes setup past goes) ∙ ap (λ (s : Phased). s.asks_key) (moves role most params slot steps)
      ∙ none_at_central role (phased_after_all (phased_steps steps) (first_phased role most params slot))
      (sound_all role (phased_steps steps) (first_phased role most params slot) (sound_first role most params slot)) is

-- what an answer makes of an end whose host is asked, or is not
abbrev keyed_if : Bool → Bool → Keyed → Keyed
keyed_if goes asks k =
    if goes
    then record {
      phased = if asks && is_open_now k.phased then key_lacking k.phased else k.phased;
      material = k.material;
      end = end_changed (if asks && is_open_now k.phased then moves_if Refuse k.phased.phase else Stays) k.material k.end;
    }
    else k

abbrev leaves_if : Bool → Bool → Facts → Bool
leaves_if goes asks facts = (goes && (asks && is_open facts.control.table.closing)) && not (may_follow Refuse facts.encryption.phase)

abbrev answered_if : Bool → Bool → ℕ → Facts → Facts
answered_if goes asks slot facts =
    record (with_keyed (keyed_if goes asks (keyed_of facts)) facts) { leaving = leaving_from_if (leaves_if goes asks facts) slot facts.leaving }

unasked : (goes : Bool) (slot : ℕ) (facts : Facts) → answered_if goes false slot facts ≡ facts
unasked true slot facts = refl
unasked false slot facts = refl

over : (asks : Bool) (slot : ℕ) (facts : Facts) → answered_if false asks slot facts ≡ facts
over asks slot facts = refl

pub key_none : (setup : Setup) (past : List Step) (slot : ℕ) → setup.link.role ≡ Central → facts_key_answered None slot (facts_of setup past) ≡ facts_of setup past
key_none setup past slot is = by (is_none facts.control.ends) refl
  where
    facts : Facts
    facts = facts_of setup past

    by : (goes : Bool) → is_none facts.control.ends ≡ goes → answered_if goes facts.encryption.asks_key slot facts ≡ facts
    by true goes = ap (λ (asks : Bool). answered_if true asks slot facts) (asks_none setup past is goes) ∙ unasked true slot facts
    by false goes = over facts.encryption.asks_key slot facts
