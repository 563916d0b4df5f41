-- Proof of `runs::what_an_end_does_after_it_fixed_its_pdu`.
use Rattle.journal_controls.proofs.run_model.Stations.{contains_in}
use Rattle.journal_fixing.proofs.FixedSince.{since_in}
use Rattle.journal_fixing.proofs.runs.what_an_end_does_after_it_fixed_its_pdu.Goals as goal

pub returns : goal.returns
returns c = record {
  free = λ given before rest station handle link distinct contains at is on role.
      ((since_in given before rest station handle link distinct (contains_in given.stations station contains) at is).listens on role).0;
  listens = λ given before rest station handle link distinct contains at is on role.
      ((since_in given before rest station handle link distinct (contains_in given.stations station contains) at is).listens on role).1;
  sends_free = λ given before rest station handle link distinct contains at is on role.
      ((since_in given before rest station handle link distinct (contains_in given.stations station contains) at is).sends on role).0;
  sends = λ given before rest station handle link distinct contains at is on role.
      ((since_in given before rest station handle link distinct (contains_in given.stations station contains) at is).sends on role).1;
}
