-- The control part of an end after any steps from the beginning of its link; those of a central are in range.
use Rattle.std.proofs.Common.{◌≡◌, ℕ, ◌≤◌, Bool, true, false, if◌then◌else◌, List, [], ◌∷◌, ◌++◌, Some, is_none, refl, sym, ap, ◌∙◌, subst}
use Rattle.std.specs.List.{AllByRecursion}
use Rattle.ble_base.specs.declared.error_codes.ErrCode.{ErrCode}
use Rattle.ble_base.specs.declared.roles.Role.{Role}
use Rattle.ble_base.specs.declared.roles.Role.TheVariants.{Central, Peripheral}
use Rattle.instants.specs.declared.indications.Indication.{Indication}
use Rattle.instants.specs.declared.indications.Params.{Params}
use Rattle.link_model.specs.procedure_stages.Kinds.{role_of}
use Rattle.link_model.specs.control_model.Control.{Control, Step, after, after_all, ended, first_control, moved, went}
use Rattle.link_model.specs.control_model.Waits.{AreInRange}
use Rattle.link_model.proofs.control_model.Central.{free}
use Rattle.link_model.proofs.control_model.Moving.{role_after, same_role}
use Rattle.link_model.proofs.control_model.Waiting.{Awaits, awaits}
use Rattle.link_changes.proofs.Readable.{IsGood, Readable, reads}

-- by these steps; where its phase or a forged packet ended the link it stays as it was
pub record Reached (role : Role) (max_rx : ℕ) (first : Params) (slot : ℕ) (c : Control) : Type 0 where
  pub steps : List Step
  pub is : is_none c.ends ≡ true → c ≡ after_all steps (first_control role max_rx first slot)
  pub is_role : role_of c.table.progress ≡ role
  pub good : role ≡ Central → AllByRecursion IsGood steps

-- an end that goes on after a step went on before it
pub lasted : (step : Step) (c : Control) → is_none (after step c).ends ≡ true → is_none c.ends ≡ true
lasted step c goes = by (is_none c.ends) refl goes
  where
    by : (b : Bool) → is_none c.ends ≡ b → is_none (if b then moved step c else c).ends ≡ true → is_none c.ends ≡ true
    by true is goes = is
    by false is goes = goes

one_more : (steps : List Step) (step : Step) (c : Control) → after step (after_all steps c) ≡ after_all (steps ++ step ∷ []) c
one_more [] step c = refl
one_more (first ∷ steps) step c = one_more steps step (after first c)

good_more : (steps : List Step) (step : Step) → AllByRecursion IsGood steps → IsGood step → AllByRecursion IsGood (steps ++ step ∷ [])
good_more [] step are is = (is, tt)
good_more (first ∷ steps) step are is = (are.0, good_more steps step are.1 is)

pub in_range : (steps : List Step) → AllByRecursion IsGood steps → AreInRange steps
in_range [] are = tt
in_range (step ∷ steps) are = (are.0.0, in_range steps are.1)

module _ (role : Role) (max_rx : ℕ) (first : Params) (slot : ℕ) where
  pub reached_first : Reached role max_rx first slot (first_control role max_rx first slot)
  reached_first = record { steps = []; is = λ lasts. refl; is_role = role_after role max_rx first slot []; good = λ role. tt }

  pub reached_then : (c : Control) (step : Step) → Reached role max_rx first slot c → (role ≡ Central → IsGood step) → Reached role max_rx first slot (after step c)
  reached_then c step r good = record {
    steps = r.steps ++ step ∷ [];
    is = λ lasts. ap (after step) (r.is (lasted step c lasts)) ∙ one_more r.steps step (first_control role max_rx first slot);
    is_role = same_role role step c r.is_role;
    good = λ central. good_more r.steps step (r.good central) (good central);
  }

  -- the link ends by its phase
  pub reached_over : (c : Control) (code : ErrCode) → Reached role max_rx first slot c → Reached role max_rx first slot (ended code c)
  reached_over c code r = record { steps = r.steps; is = λ lasts. absurd (cc); is_role = r.is_role; good = r.good }

  pub reached_reads : (c : Control) → Reached role max_rx first slot c → is_none c.ends ≡ true → role ≡ Central → Readable c.table
  reached_reads c r lasts central = subst (λ (d : Control). Readable d.table) (sym (r.is lasts)) (reads role max_rx first slot r.steps (r.good central))

pub reached_awaits : (role : Role) (max_rx : ℕ) (first : Params) (slot : ℕ) (c : Control) → Reached role max_rx first slot c → is_none c.ends ≡ true → role ≡ Peripheral
    → Awaits c
reached_awaits Central max_rx first slot c r lasts is = absurd (cc)
reached_awaits Peripheral max_rx first slot c r lasts is = subst Awaits (sym (r.is lasts)) (awaits max_rx first slot r.steps)

pub reached_free : (role : Role) (max_rx : ℕ) (first : Params) (slot : ℕ) (c : Control) → Reached role max_rx first slot c → is_none c.ends ≡ true → role ≡ Central
    → first.latency ≤ 499 → (now : ℕ) (quiet : Bool) (indication : Indication) → (went now quiet c).1 ≡ Some indication → is_none c.track.waits ≡ true
reached_free Peripheral max_rx first slot c r lasts is latency now quiet indication goes = absurd (cc)
reached_free Central max_rx first slot c r lasts is latency now quiet indication goes =
    subst (λ (d : Control). (went now quiet d).1 ≡ Some indication → is_none d.track.waits ≡ true) (sym (r.is lasts))
    (λ same. free max_rx first slot r.steps now quiet indication latency (in_range r.steps (r.good refl)) same) goes
