-- The proof of `worked_runs`: each run computes.
use Rattle.std.proofs.Common.{refl}
use Rattle.phase_pairs.proofs.laws.worked_runs.Goals as goal

pub returns : goal.returns
returns c =
    record {
      started = refl;
      both_started = refl;
      restarts = refl;
      both_restart = refl;
      refused = refl;
      ends = refl;
      crosses = refl;
    }
