-- A link is reached step by step.
use Rattle.std.proofs.Common.{◌≡◌, ℕ, ◌≤◌, List, [], ◌∷◌, ◌++◌, refl, ap, ◌∙◌}
use Rattle.instants.specs.declared.indications.Params.{Params}
use Rattle.two_tracks.specs.TwoEnds.{TwoEnds, Step, May, after, beginning}
use Rattle.two_tracks.specs.Reached.{AllMay, IsReached, after_all}

after_all-push : (steps : List Step) (step : Step) (s : TwoEnds)
    → after_all (steps ++ step ∷ []) s ≡ after step (after_all steps s)
after_all-push [] step s = refl
after_all-push (one ∷ steps) step s = after_all-push steps step (after one s)

AllMay-push : (steps : List Step) (step : Step) (s : TwoEnds) → AllMay steps s → May step (after_all steps s)
    → AllMay (steps ++ step ∷ []) s
AllMay-push [] step s may next = (next, tt)
AllMay-push (one ∷ steps) step s may next = (may.0, AllMay-push steps step (after one s) may.1 next)

pub reached_first : (first : Params) (slot turns : ℕ) → turns ≤ slot → 6 ≤ first.interval
    → IsReached first slot (beginning first slot turns)
reached_first first slot turns not_over interval =
    record { turns = turns; steps = []; not_over = not_over; interval = interval; may = tt; reaches = refl }

pub reached_next : (first : Params) (slot : ℕ) (s : TwoEnds) (step : Step) → IsReached first slot s → May step s
    → IsReached first slot (after step s)
reached_next first slot s step reached may =
    record {
      turns = reached.turns;
      steps = reached.steps ++ step ∷ [];
      not_over = reached.not_over;
      interval = reached.interval;
      may = AllMay-push reached.steps step (beginning first slot reached.turns) reached.may (rw reached.reaches may);
      reaches =
          after_all-push reached.steps step (beginning first slot reached.turns) ∙ ap (after step) reached.reaches;
    }
