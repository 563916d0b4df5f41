-- Proof of `answers::each_line_accepts_what_its_call_accepts`.
use Rattle.std.proofs.Common.{refl}
use Rattle.run_model.specs.History.{Called}
use Rattle.run_model.specs.Journal.{journal_of}
use Rattle.run_model.specs.Run.{history_of, run_of}
use Rattle.run_model.proofs.Notes.{NotedBefore, run_noted}
use Rattle.run_model.proofs.Places.{each_at}
use Rattle.run_model.proofs.Stations.{contains_in}
use Rattle.host_answers.proofs.LineAnswers.{call_accepts, far_accepts}
use Rattle.host_answers.proofs.answers.each_line_accepts_what_its_call_accepts.Goals as goal

pub returns : goal.returns
returns c = record {
  own = λ given before rest station step are contains at.
      call_accepts given are station (contains_in given.stations station contains) step before rest at
      (each_at (NotedBefore given) (history_of (run_of given)) before rest (Called station step) (run_noted given).each at refl station);
  other = λ given before side station step apart. far_accepts given side station step before (journal_of before) apart;
}
