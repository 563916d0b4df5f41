-- Proof of `fixing::what_open_ends_have_fixed`.
use Rattle.journal_ends.proofs.run_model.Stations.{contains_in}
use Rattle.journal_controls.proofs.FixedEnds.{fixed_in}
use Rattle.journal_controls.proofs.fixing.what_open_ends_have_fixed.Goals as goal

pub returns : goal.returns
returns c = record {
  free = λ given before rest station handle link distinct contains at is_open.
      (fixed_in given before rest station handle link distinct (contains_in given.stations station contains) at is_open).free;
  fixes = λ given before rest station handle link distinct contains at is_open.
      (fixed_in given before rest station handle link distinct (contains_in given.stations station contains) at is_open).fixes;
}
