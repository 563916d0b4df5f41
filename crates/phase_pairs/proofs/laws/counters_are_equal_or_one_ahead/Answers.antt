-- The proof of `counters_are_equal_or_one_ahead`.
use Rattle.phase_pairs.proofs.Counters.{counted}
use Rattle.phase_pairs.proofs.laws.counters_are_equal_or_one_ahead.Goals as goal

pub returns : goal.returns
returns c =
    record {
      down = λ events. (counted events).down;
      up = λ events. (counted events).up;
      sessions = λ events. (counted events).sessions;
    }
