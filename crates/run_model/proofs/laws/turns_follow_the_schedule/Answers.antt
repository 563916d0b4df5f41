-- Proof of `laws::turns_follow_the_schedule`.
use Rattle.run_model.specs.Run.{run_of, history_of}
use Rattle.run_model.specs.Turns.{IsInTurn}
use Rattle.run_model.proofs.Places.{each_at}
use Rattle.run_model.proofs.Openings.{run_begun, stopped_turns, whole_turns}
use Rattle.run_model.proofs.laws.turns_follow_the_schedule.Goals as goal

pub returns-clause-openings : goal.returns-clause-openings
returns-clause-openings c = λ given. (run_begun given).openings

pub returns-clause-whole : goal.returns-clause-whole
returns-clause-whole c = whole_turns

pub returns-clause-stop : goal.returns-clause-stop
returns-clause-stop c = stopped_turns

pub returns-clause-place : goal.returns-clause-place
returns-clause-place c = λ given before rest event is. each_at IsInTurn (history_of (run_of given)) before rest event (run_begun given).each is
