-- An end goes by all the steps of its past, as long as it goes on.
use Rattle.std.proofs.Common.{◌≡◌, ◌||◌, Bool, true, false, List, [], ◌∷◌, ◌++◌, fold, Option, Some, None, Ok, Err, is_none, refl, ap, sym, subst, ◌∙◌, if◌then◌else◌}
use Rattle.std.specs.Prelude.{⊤}
use Rattle.std.proofs.lemmas.List.{append-nil, append_assoc}
use Rattle.ble_base.specs.declared.error_codes.ErrCode.{ErrCode}
use Rattle.phased_end.specs.control_end.procedure_stages.Kinds.{role_of}
use Rattle.ble_base.specs.ErrorCodes.{mic_failure}
use Rattle.phased_end.specs.control_end.control_model.Control.{Control, ended}
use Rattle.phased_end.specs.Reached.{AllMayCome, MayCome}
use Rattle.phased_end.specs.enc_phase.Sealing.{after_opening, is_right}
use Rattle.phased_end.specs.phased_control.Ends.{AllAskInRange, AsksInRange}
use Rattle.phased_end.specs.phased_control.Phased.{Phased}
use Rattle.phased_end.specs.phased_control.Taken.{PhasedStep, role_now}
use Rattle.phased_end.specs.keyed_control.Keyed.{Keyed, first_keyed}
use Rattle.phased_end.specs.keyed_control.KeyedSteps.{KeyedStep, Answers, Asks, Enters, Opens, Seals, Sends, Takes, is_of_session, keyed_after, keyed_after_all, keyed_moved, phased_step, phased_steps, step_before}
use Rattle.phased_end.proofs.keyed_control.Phases.{moves, phase_now}
use Rattle.phased_end.proofs.keyed_control.phased_control.Kept.{tied_now}
use Rattle.link_model.specs.Setup.{Setup, first_anchor, first_params}
use Rattle.link_model.specs.Facts.{Facts, first_facts, keyed_of}
use Rattle.link_model.specs.Step.{Step}
use Rattle.link_model.specs.Controls.{goes_on}
use Rattle.link_model.specs.Receiving.{ended_by_forgery}
use Rattle.link_model.specs.End.{facts_after, facts_of}
use Rattle.link_model.specs.AskRanges.{AreAsksInRange}
use Rattle.link_model.specs.KeyedSteps.{is_forged_in_step, keyed_steps_from, keyed_steps_in, keyed_steps_of}
use Rattle.link_model.proofs.Coming.{all_come}
use Rattle.link_model.proofs.KeyedSteps.{forged_ends, joined, one_step}

-- ---- an end that ended the link

-- its procedures and the phase of its session stay
pub record IsSame (one other : Keyed) : Type 0 where
  pub phased : one.phased ≡ other.phased
  pub phase : one.end.phase ≡ other.end.phase

session_same : (step : KeyedStep) (k : Keyed) → is_of_session step ≡ true → IsSame (keyed_moved step k) k
session_same (Seals header body) k is = record { phased = refl; phase = refl }
session_same (Opens header payload) k is = record { phased = refl; phase = by (is_right k.end header payload) }
  where
    by : (right : Bool) → (if right then after_opening k.end else k.end).phase ≡ k.end.phase
    by true = refl
    by false = refl
session_same step k is = absurd cc

over_once : (step : KeyedStep) (k : Keyed) (code : ErrCode) → k.phased.control.ends ≡ Some code
    → IsSame (keyed_after step k) k
over_once step k code over = by (is_of_session step) refl
  where
    by : (of_session : Bool) → is_of_session step ≡ of_session
        → IsSame (if of_session || is_none k.phased.control.ends then keyed_moved step k else k) k
    by true is = session_same step k is
    by false is =
        subst (λ (ends : Option ErrCode). IsSame (if is_none ends then keyed_moved step k else k) k) (sym over)
        (record { phased = refl; phase = refl })

pub over : (steps : List KeyedStep) (k : Keyed) (code : ErrCode) → k.phased.control.ends ≡ Some code
    → IsSame (keyed_after_all steps k) k
over [] k code is = record { phased = refl; phase = refl }
over (step ∷ steps) k code is =
    let once = over_once step k code is in
    let later = over steps (keyed_after step k) code (ap (λ (s : Phased). s.control.ends) once.phased ∙ is) in
    record { phased = later.phased ∙ once.phased; phase = later.phase ∙ once.phase }

pub forged_role : (c : Control) → role_of (ended_by_forgery c).table.progress ≡ role_of c.table.progress
forged_role c = by (is_none c.ends)
  where
    by : (goes : Bool) → role_of (if goes then ended (record { 0 = mic_failure }) c else c).table.progress
        ≡ role_of c.table.progress
    by true = refl
    by false = refl

-- it has ended the link
pub forged_over : (c : Control) → is_none (ended_by_forgery c).ends ≡ false
forged_over c = by (is_none c.ends) refl
  where
    by : (goes : Bool) → is_none c.ends ≡ goes
        → is_none (if goes then ended (record { 0 = mic_failure }) c else c).ends ≡ false
    by true is = refl
    by false is = is

no_more : {X : Type 0} (b : Bool) → b ≡ false → b ≡ true → X
no_more true off on = absurd cc
no_more false off on = absurd cc

-- ---- every past

module _ (setup : Setup) where
  abbrev first : Keyed
  first = first_keyed setup.link.role setup.link.max_rx (first_params setup.link.fields) (first_anchor setup)

  -- its session is in the phase of its procedures, it has its role, and where it goes on it has gone by these steps
  record HasGone (steps : List KeyedStep) (facts : Facts) : Type 0 where
    phase : facts.encryption.end.phase ≡ facts.encryption.phase
    role : role_of facts.control.table.progress ≡ setup.link.role
    goes : goes_on facts ≡ true → keyed_of facts ≡ keyed_after_all steps first

  gone_by : (steps : List KeyedStep) (facts : Facts) → keyed_of facts ≡ keyed_after_all steps first
      → HasGone steps facts
  gone_by steps facts is =
      let r = setup.link.role in
      let most = setup.link.max_rx in
      let params = first_params setup.link.fields in
      let tied = tied_now r most params (first_anchor setup) (phased_steps steps) in
      record {
        phase =
            subst (λ (k : Keyed). k.end.phase ≡ k.phased.phase) (sym is)
            (phase_now r most params (first_anchor setup) steps);
        role =
            ap (λ (k : Keyed). role_now k.phased) is ∙ ap role_now (moves r most params (first_anchor setup) steps)
            ∙ tied.is_role;
        goes = λ lasts. is;
      }

  -- the steps that it makes in one step
  module _ (steps : List KeyedStep) (facts : Facts) (step : Step) (has : HasGone steps facts) where
    abbrev now : List KeyedStep
    now = keyed_steps_in setup facts step

    abbrev later : Facts
    later = facts_after setup facts step

    stays_over : (code : ErrCode) → facts.control.ends ≡ Some code
        → keyed_of later ≡ keyed_after_all now (keyed_of facts)
        → HasGone (steps ++ now) later
    stays_over code is by_steps =
        let same = over now (keyed_of facts) code is in
        let phased : (keyed_of later).phased ≡ (keyed_of facts).phased =
        ap (λ (k : Keyed). k.phased) by_steps ∙ same.phased in
        let ends : goes_on later ≡ false =
        ap (λ (s : Phased). is_none s.control.ends) phased ∙ ap (λ (e : Option ErrCode). is_none e) is in
        record {
          phase =
              ap (λ (k : Keyed). k.end.phase) by_steps ∙ same.phase ∙ has.phase
              ∙ sym (ap (λ (s : Phased). s.phase) phased);
          role = ap role_now phased ∙ has.role;
          goes = no_more (goes_on later) ends;
        }

    goes_further : (ends : Option ErrCode) → facts.control.ends ≡ ends
        → keyed_of later ≡ keyed_after_all now (keyed_of facts)
        → HasGone (steps ++ now) later
    goes_further None is by_steps =
        gone_by (steps ++ now) later
        (by_steps ∙ ap (keyed_after_all now) (has.goes (ap (λ (e : Option ErrCode). is_none e) is)) ∙ sym
        (joined steps now first))
    goes_further (Some code) is by_steps = stays_over code is by_steps

    forged_further : is_forged_in_step setup facts step ≡ true → HasGone (steps ++ now) later
    forged_further is =
        subst (HasGone (steps ++ now)) (sym (forged_ends setup facts step is))
        (record {
          phase = has.phase;
          role = forged_role facts.control ∙ has.role;
          goes = no_more _ (forged_over facts.control);
        })

    further : HasGone (steps ++ now) later
    further = by (is_forged_in_step setup facts step) refl
      where
        by : (forged : Bool) → is_forged_in_step setup facts step ≡ forged → HasGone (steps ++ now) later
        by true is = forged_further is
        by false is = goes_further facts.control.ends refl (one_step setup facts step has.phase is)

  all_further : (steps : List KeyedStep) (facts : Facts) (past : List Step) → HasGone steps facts
      → HasGone (steps ++ keyed_steps_from setup facts past) (fold (facts_after setup) facts past)
  all_further steps facts [] has = subst (λ (s : List KeyedStep). HasGone s facts) (sym (append-nil steps)) has
  all_further steps facts (step ∷ past) has =
      let next = facts_after setup facts step in
      let now = keyed_steps_in setup facts step in
      subst (λ (s : List KeyedStep). HasGone s (fold (facts_after setup) next past))
      (append_assoc steps now (keyed_steps_from setup next past))
      (all_further (steps ++ now) next past (further steps facts step has))

  past_gone : (past : List Step) → HasGone (keyed_steps_of setup past) (facts_of setup past)
  unfolding facts_of keyed_steps_of
  past_gone past = all_further [] (first_facts setup) past (gone_by [] (first_facts setup) refl)

  pub past_goes : (past : List Step) → goes_on (facts_of setup past) ≡ true
      → keyed_of (facts_of setup past) ≡ keyed_after_all (keyed_steps_of setup past) first
  past_goes past = (past_gone past).goes

  pub keeps_role : (past : List Step) → role_of (facts_of setup past).control.table.progress ≡ setup.link.role
  keeps_role past = (past_gone past).role

  -- the session of an end is in the phase of its procedures, also once it ended the link
  pub past_in_phase : (past : List Step)
      → let encryption = (facts_of setup past).encryption in encryption.end.phase ≡ encryption.phase
  past_in_phase past = (past_gone past).phase

  -- ---- a past with one step more

  steps-append : (facts : Facts) (steps more : List Step)
      → keyed_steps_from setup facts (steps ++ more)
      ≡ keyed_steps_from setup facts steps ++ keyed_steps_from setup (fold (facts_after setup) facts steps) more
  steps-append facts [] more = refl
  steps-append facts (step ∷ steps) more =
      let next = facts_after setup facts step in
      ap (λ (later : List KeyedStep). keyed_steps_in setup facts step ++ later) (steps-append next steps more)
      ∙ sym (append_assoc (keyed_steps_in setup facts step) (keyed_steps_from setup next steps)
      (keyed_steps_from setup (fold (facts_after setup) next steps) more))

  pub steps_grow : (past : List Step) (step : Step)
      → keyed_steps_of setup (past ++ step ∷ [])
      ≡ keyed_steps_of setup past ++ keyed_steps_in setup (facts_of setup past) step
  unfolding facts_of keyed_steps_of
  steps_grow past step =
      steps-append (first_facts setup) past (step ∷ [])
      ∙ ap (λ (later : List KeyedStep). keyed_steps_from setup (first_facts setup) past ++ later)
      (append-nil (keyed_steps_in setup (fold (facts_after setup) (first_facts setup) past) step))

-- ---- the asks are in range where those of the host are

abbrev AsksIn : Option PhasedStep → Type 0
AsksIn None = ⊤
AsksIn (Some step) = AsksInRange step

asks_in : (step : KeyedStep) → MayCome step → AsksIn (phased_step step)
asks_in (Asks ask) may = may
asks_in (Answers (Ok ask)) may = may
asks_in (Answers (Err code)) may = tt
asks_in (Enters slot) may = tt
asks_in (Sends slot) may = tt
asks_in (Takes read slot response) may = tt
asks_in step may = tt

in_range_before : (step : Option PhasedStep) (steps : List PhasedStep) → AsksIn step → AllAskInRange steps
    → AllAskInRange (step_before step steps)
in_range_before None steps here later = later
in_range_before (Some step) steps here later = (here, later)

ranges : (steps : List KeyedStep) → AllMayCome steps → AllAskInRange (phased_steps steps)
ranges [] may = tt
ranges (step ∷ steps) may =
    in_range_before (phased_step step) (phased_steps steps) (asks_in step may.0) (ranges steps may.1)

pub past_in_range : (setup : Setup) (past : List Step) → AreAsksInRange past
    → AllAskInRange (phased_steps (keyed_steps_of setup past))
unfolding keyed_steps_of
past_in_range setup past are =
    ranges (keyed_steps_from setup (first_facts setup) past) (all_come setup (first_facts setup) past are)
