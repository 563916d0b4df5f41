-- Runs of machines, one list of events after another.
use Rattle.std.proofs.Common.{◌≡◌, Bool, true, false, ◌&&◌, List, [], ◌∷◌, ◌++◌, if◌then◌else◌, refl, ap, ◌∙◌}
use Rattle.machines.specs.Machine.{Machine, run_from, step}

module _ {S E : Type 0} (m : Machine S E) where
  -- an event that may come
  pub comes : (e : E) (s t : S) → m.may e s ≡ true → t ≡ m.act e s → t ≡ run_from m s (e ∷ [])
  comes e s t may is = is ∙ by (m.may e s) may
    where
      by : (b : Bool) → b ≡ true → m.act e s ≡ (if b then m.act e s else s)
      by true h = refl
      by false h = absurd (cc)

  pub run_more : (s : S) (first later : List E) → run_from m s (first ++ later) ≡ run_from m (run_from m s first) later
  run_more s [] later = refl
  run_more s (e ∷ first) later = run_more (step m e s) first later

pub both_true : (a b : Bool) → a ≡ true → b ≡ true → (a && b) ≡ true
both_true a b first second = ap (λ x. x && b) first ∙ second
