-- What is known of an end after any past, and as it takes a PDU, in all phases of encryption.
use Rattle.std.proofs.Common.{◌≡◌, ℕ, Bool, true, false, List, [], ◌∷◌, ◌++◌, Option, Some, None, is_none, refl, ap, sym, subst, ◌∙◌, if◌then◌else◌}
use Rattle.std.proofs.lemmas.Bool.{and_parts}
use Rattle.ble_base.specs.ErrorCodes.{mic_failure}
use Rattle.ble_base.specs.declared.error_codes.ErrCode.{ErrCode}
use Rattle.ble_base.specs.declared.roles.Role.{Role}
use Rattle.data_pdu.specs.declared.header.DataHeader.{DataHeader}
use Rattle.instants.specs.declared.indications.Params.{Params}
use Rattle.phased_end.specs.control_end.control_model.Control.{Control, ended as control_ended}
use Rattle.phased_end.proofs.Reached.{fits_now}
use Rattle.phased_end.specs.enc_phase.declared.facts.Transition.TheVariants.{Ask as AskTransition}
use Rattle.phased_end.specs.enc_phase.Phases.{may_follow}
use Rattle.phased_end.specs.phased_control.Ends.{IsFirst, IsRequest}
use Rattle.phased_end.specs.phased_control.Phased.{Phased, asks_again, first_phased, is_pause_rsp}
use Rattle.phased_end.specs.phased_control.Taken.{PhasedStep, phased_after, phased_after_all}
use Rattle.phased_end.specs.keyed_control.Keyed.{Keyed, first_keyed}
use Rattle.phased_end.specs.keyed_control.KeyedSteps.{KeyedStep, SeesAcknowledged, Sends, keyed_after_all, phased_steps}
use Rattle.phased_end.proofs.keyed_control.Phases.{moves, phase_now}
use Rattle.phased_end.proofs.keyed_control.phased_control.Agreeing.{Sound, agrees_now, asks_at_central, sound_after, sound_first}
use Rattle.phased_end.proofs.keyed_control.phased_control.Kept.{first_now}
use Rattle.phased_end.proofs.keyed_control.phased_control.PhaseFacts.{loud_in_half_clear, runs}
use Rattle.phased_end.proofs.keyed_control.phased_control.Requests.{encrypts}
use Rattle.phased_end.proofs.keyed_control.phased_control.Unpaused.{asks_in_half_clear}
use Rattle.link_model.specs.Setup.{Setup, first_anchor, first_params}
use Rattle.link_model.specs.Acknowledgement.{Pdu}
use Rattle.link_model.specs.Controls.{goes_on}
use Rattle.link_model.specs.End.{facts_after, facts_of}
use Rattle.link_model.specs.Facts.{Facts, first_facts, keyed_of}
use Rattle.link_model.specs.KeyedSteps.{is_forged_in_step, keyed_steps_in, keyed_steps_of, step_if}
use Rattle.link_model.specs.Payload.{end_accepting}
use Rattle.link_model.specs.Receiving.{accepted_if, acknowledged_if, acks_control, answers_with_control, counts_accepted, facts_before_taking, has_acknowledged, heard_in_slot}
use Rattle.link_model.specs.Step.{Step}
use Rattle.link_model.proofs.KeyedPasts.{over, past_goes, past_in_phase}
use Rattle.link_model.proofs.KeyedSteps.{acked, forged_ends, gone, joined, one_step, two}
use Rattle.link_model.proofs.Pasts.{grows}
use Rattle.link_model.proofs.Views.{Knows}

-- ---- facts after a past

pub record IsPast (setup : Setup) (facts : Facts) : Type 0 where
  pub past : List Step
  pub is : facts ≡ facts_of setup past

pub first_past : (setup : Setup) → IsPast setup (first_facts setup)
unfolding facts_of
first_past setup = record { past = []; is = refl }

pub step_past : (setup : Setup) (facts : Facts) (step : Step) → IsPast setup facts → IsPast setup (facts_after setup facts step)
step_past setup facts step p =
    record {
      past = p.past ++ step ∷ [];
      is = ap (λ (f : Facts). facts_after setup f step) p.is ∙ sym (grows setup p.past step);
    }

-- ---- an end after steps of procedures, phase and keys

module _ (role : Role) (max_rx : ℕ) (params : Params) (slot : ℕ) where
  sound_all : (steps : List PhasedStep) (s : Phased) → Sound role s → Sound role (phased_after_all steps s)
  sound_all [] s sound = sound
  sound_all (step ∷ steps) s sound = sound_all steps (phased_after step s) (sound_after role step s sound)

  -- an end that asks again has the request of its encryption
  asks_with_request : (steps : List PhasedStep)
      → let s = phased_after_all steps (first_phased role max_rx params slot) in
      asks_again s ≡ true → IsRequest s.request
  asks_with_request steps asks =
      let s = phased_after_all steps (first_phased role max_rx params slot) in
      let sound = sound_all steps (first_phased role max_rx params slot) (sound_first role max_rx params slot) in
      let at = asks_at_central role s asks sound.requests in
      let may : may_follow AskTransition s.phase ≡ true =
      (and_parts (may_follow AskTransition s.phase) _ (and_parts (is_pause_rsp s.control.table.out) _ asks).1).0 in
      let loud = loud_in_half_clear s.phase may (asks_in_half_clear s asks (sound.unpaused at)) in
      sound.requests.central at (runs (encrypts s) (sym loud ∙ agrees_now role max_rx params slot steps))

  knows_after : (steps : List KeyedStep) → Knows (keyed_after_all steps (first_keyed role max_rx params slot))
  knows_after steps =
      let same = moves role max_rx params slot steps in
      record {
        phase = phase_now role max_rx params slot steps;
        fits = λ goes. fits_now role max_rx params slot steps;
        first = λ goes. subst (λ (s : Phased). IsFirst s.kept) (sym same) (first_now role max_rx params slot (phased_steps steps));
        request =
            λ goes.
            subst (λ (s : Phased). asks_again s ≡ true → IsRequest s.request) (sym same)
            (asks_with_request (phased_steps steps));
      }

-- an end that ended the link makes no step, so one that goes on has made all of them
still_going : (steps : List KeyedStep) (k : Keyed) → is_none (keyed_after_all steps k).phased.control.ends ≡ true
    → is_none k.phased.control.ends ≡ true
still_going steps k goes = by k.phased.control.ends refl
  where
    by : (ends : Option ErrCode) → k.phased.control.ends ≡ ends → is_none ends ≡ true
    by None is = refl
    by (Some code) is =
        let same = ap (λ (s : Phased). is_none s.control.ends) (over steps k code is).phased
        ∙ ap (λ (e : Option ErrCode). is_none e) is in
        sym same ∙ goes

-- ---- an end after a past, and some steps of its own more

module _ (setup : Setup) (facts : Facts) (p : IsPast setup facts) where
  abbrev first : Keyed
  first = first_keyed setup.link.role setup.link.max_rx (first_params setup.link.fields) (first_anchor setup)

  abbrev made : List KeyedStep
  made = keyed_steps_of setup p.past

  has_made : is_none (keyed_of facts).phased.control.ends ≡ true → keyed_of facts ≡ keyed_after_all made first
  has_made goes =
      ap (λ (f : Facts). keyed_of f) p.is
      ∙ past_goes setup p.past (sym (ap (λ (f : Facts). goes_on f) p.is) ∙ goes)

  in_phase : facts.encryption.end.phase ≡ facts.encryption.phase
  in_phase =
      subst (λ (f : Facts). f.encryption.end.phase ≡ f.encryption.phase) (sym p.is) (past_in_phase setup p.past)

  -- what is known of any end that goes on, and of the phases of one that ended the link
  knows_by : (k : Keyed) → k.end.phase ≡ k.phased.phase → (is_none k.phased.control.ends ≡ true → Knows k) → Knows k
  knows_by k phase knows =
      record {
        phase = phase;
        fits = λ goes. (knows goes).fits goes;
        first = λ goes. (knows goes).first goes;
        request = λ goes. (knows goes).request goes;
      }

  phase_later : (steps : List KeyedStep) → (keyed_after_all steps (keyed_of facts)).end.phase ≡ (keyed_after_all steps (keyed_of facts)).phased.phase
  phase_later steps = by facts.control.ends refl
    where
      k : Keyed
      k = keyed_after_all steps (keyed_of facts)

      by : (ends : Option ErrCode) → facts.control.ends ≡ ends → k.end.phase ≡ k.phased.phase
      by None is =
          subst (λ (x : Keyed). x.end.phase ≡ x.phased.phase)
          (joined made steps first ∙ ap (keyed_after_all steps) (sym (has_made (ap (λ (e : Option ErrCode). is_none e) is))))
          (knows_after setup.link.role setup.link.max_rx (first_params setup.link.fields) (first_anchor setup) (made ++ steps)).phase
      by (Some code) is =
          let same = over steps (keyed_of facts) code is in
          same.phase ∙ in_phase ∙ sym (ap (λ (s : Phased). s.phase) same.phased)

  pub knows_later : (steps : List KeyedStep) (k : Keyed) → k ≡ keyed_after_all steps (keyed_of facts) → Knows k
  knows_later steps k is =
      subst Knows (sym is)
      (knows_by (keyed_after_all steps (keyed_of facts)) (phase_later steps)
      (λ goes.
      subst Knows
      (joined made steps first ∙ ap (keyed_after_all steps) (sym (has_made (still_going steps (keyed_of facts) goes))))
      (knows_after setup.link.role setup.link.max_rx (first_params setup.link.fields) (first_anchor setup) (made ++ steps))))

  -- an end after a past
  pub past_knows : Knows (keyed_of facts)
  past_knows = knows_later [] (keyed_of facts) refl

  -- an end as a new PDU is looked at
  pub knows_before_taking : (role : Role) (slot : ℕ) (header : DataHeader) → Knows (keyed_of (facts_before_taking role slot header facts))
  knows_before_taking role slot header =
      let acks = has_acknowledged facts header in
      let own = acknowledged_if acks (heard_in_slot slot header.md facts) in
      let answers = answers_with_control role own in
      let sees = step_if (acks_control acks facts) SeesAcknowledged in
      let sends = step_if answers (Sends slot) in
      knows_later (sees ++ sends) (keyed_of (facts_before_taking role slot header facts))
      (two sees sends (keyed_of facts) (keyed_of own) (keyed_of (facts_before_taking role slot header facts))
      (acked (acks_control acks facts) (keyed_of facts)) (gone answers slot own))

-- and as it is accepted
pub knows_accepted : (accepted : Bool) (pdu : Pdu) (facts : Facts) → Knows (keyed_of facts) → Knows (keyed_of (accepted_if accepted pdu facts))
knows_accepted accepted pdu facts knows = by (counts_accepted accepted pdu)
  where
    by : (counts : Bool) → Knows (record (keyed_of facts) { end = end_accepting counts facts.encryption.end })
    by true =
        record {
          phase = knows.phase;
          fits = λ goes. record { role = (knows.fits goes).role; agrees = (knows.fits goes).agrees };
          first = knows.first;
          request = knows.request;
        }
    by false = knows

-- ---- an end that ended the link stays so

pub stays_over : (setup : Setup) (facts : Facts) (step : Step) → IsPast setup facts → goes_on facts ≡ false
    → goes_on (facts_after setup facts step) ≡ false
stays_over setup facts step p ended = by (is_forged_in_step setup facts step) refl
  where
    forged_over : (c : Control) (goes : Bool) → is_none c.ends ≡ goes → is_none (if goes then control_ended (record { 0 = mic_failure }) c else c).ends ≡ false
    forged_over c true is = refl
    forged_over c false is = is

    ended_so : (ends : Option ErrCode) → facts.control.ends ≡ ends → is_none ends ≡ false
        → is_none (keyed_after_all (keyed_steps_in setup facts step) (keyed_of facts)).phased.control.ends ≡ false
    ended_so (Some code) is over_now =
        ap (λ (s : Phased). is_none s.control.ends) (over (keyed_steps_in setup facts step) (keyed_of facts) code is).phased
        ∙ ap (λ (e : Option ErrCode). is_none e) is
    ended_so None is over_now = absurd cc

    by : (forged : Bool) → is_forged_in_step setup facts step ≡ forged → goes_on (facts_after setup facts step) ≡ false
    by true is =
        ap (λ (f : Facts). goes_on f) (forged_ends setup facts step is) ∙ forged_over facts.control (is_none facts.control.ends) refl
    by false is =
        ap (λ (k : Keyed). is_none k.phased.control.ends) (one_step setup facts step (in_phase setup facts p) is)
        ∙ ended_so facts.control.ends refl ended
