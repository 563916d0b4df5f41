-- Proof of `answers::lines_accept_all_that_is_accepted`.
use Rattle.std.proofs.Common.{[], ◌∷◌, sym, append-nil}
use Rattle.run_model.specs.Run.{history_of, run_of}
use Rattle.run_model.proofs.Notes.{NotedBefore, run_noted}
use Rattle.run_model.proofs.Places.{each_at}
use Rattle.run_model.proofs.Stations.{contains_in}
use Rattle.host_answers.proofs.LineAnswers.{accepted_so_far}
use Rattle.host_answers.proofs.answers.lines_accept_all_that_is_accepted.Goals as goal

pub returns : goal.returns
returns c = record {
  before_an_event = λ given before rest event station are contains at outside.
      accepted_so_far given are station (contains_in given.stations station contains) before (event ∷ rest) at
      (each_at (NotedBefore given) (history_of (run_of given)) before rest event (run_noted given).each at outside station);
  at_the_end = λ given station are contains.
      accepted_so_far given are station (contains_in given.stations station contains) (history_of (run_of given)) [] (sym (append-nil (history_of (run_of given))))
      ((run_noted given).noted station);
}
