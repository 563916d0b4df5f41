-- Proof of `laws::all_that_is_due_is_on_the_air`.
use Rattle.run_model.specs.History.{Called, Transmitted}
use Rattle.run_model.specs.Run.{run_of, history_of}
use Rattle.run_model.proofs.Places.{each_at}
use Rattle.run_model.proofs.Sending.{SentBefore, run_sent, stop_next}
use Rattle.run_model.proofs.laws.all_that_is_due_is_on_the_air.Goals as goal

pub returns-clause-phase : goal.returns-clause-phase
returns-clause-phase c = λ given before rest station step distinct is ends.
    each_at (SentBefore given) (history_of (run_of given)) before rest (Called station step) (run_sent given distinct) is ends

pub returns-clause-packet : goal.returns-clause-packet
returns-clause-packet c = λ given before rest station channel octets hearings distinct is.
    each_at (SentBefore given) (history_of (run_of given)) before rest (Transmitted station channel octets hearings) (run_sent given distinct) is

pub returns-clause-stop : goal.returns-clause-stop
returns-clause-stop c = λ given history stop distinct is. stop_next given distinct history stop is
