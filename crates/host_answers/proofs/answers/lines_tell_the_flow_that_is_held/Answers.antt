-- Proof of `answers::lines_tell_the_flow_that_is_held`.
use Rattle.std.proofs.Common.{[], sym, append-nil}
use Rattle.run_model.specs.Run.{history_of, run_of}
use Rattle.run_model.proofs.Notes.{run_noted}
use Rattle.run_model.proofs.Stations.{contains_in}
use Rattle.host_answers.proofs.FlowHeld.{flow_at, flow_so_far}
use Rattle.host_answers.proofs.answers.lines_tell_the_flow_that_is_held.Goals as goal

pub returns : goal.returns
returns c = record {
  before_an_event = λ given before rest event station are contains at outside.
      sym (flow_so_far given are station (contains_in given.stations station contains) before rest event at outside);
  at_the_end = λ given station are contains.
      let all = history_of (run_of given) in
      sym (flow_at given are station (contains_in given.stations station contains) all [] (sym (append-nil all)) ((run_noted given).noted station));
}
