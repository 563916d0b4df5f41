-- Proof of `laws::each_turn_has_three_phases`.
use Rattle.run_model.specs.History.{TurnBegan}
use Rattle.run_model.specs.Run.{run_of, history_of}
use Rattle.run_model.proofs.Places.{each_at}
use Rattle.run_model.proofs.Stations.{contains_in}
use Rattle.run_model.proofs.Rounds.{CalledBefore, run_called, whole_called}
use Rattle.run_model.proofs.laws.each_turn_has_three_phases.Goals as goal

pub returns-clause-turn : goal.returns-clause-turn
returns-clause-turn c = λ given before rest slot radios station distinct among is some.
    each_at (CalledBefore given) (history_of (run_of given)) before rest (TurnBegan slot radios) (run_called given distinct) is
    station (contains_in given.stations station among) some

pub returns-clause-last : goal.returns-clause-last
returns-clause-last c = λ given history station distinct among is some.
    whole_called given distinct history is station (contains_in given.stations station among) some
