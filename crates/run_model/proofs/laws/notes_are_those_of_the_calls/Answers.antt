-- Proof of `laws::notes_are_those_of_the_calls`.
use Rattle.run_model.specs.Run.{run_of, history_of}
use Rattle.run_model.proofs.Places.{each_at}
use Rattle.run_model.proofs.Notes.{NotedBefore, run_noted}
use Rattle.run_model.proofs.laws.notes_are_those_of_the_calls.Goals as goal

pub returns-clause-end : goal.returns-clause-end
returns-clause-end c = λ given. (run_noted given).noted

pub returns-clause-place : goal.returns-clause-place
returns-clause-place c = λ given before rest event station is no_note.
    each_at (NotedBefore given) (history_of (run_of given)) before rest event (run_noted given).each is no_note station
