-- Proof of `ends::each_station_begins_the_turns`.
use Rattle.run_model.proofs.Stations.{contains_in}
use Rattle.run_laws.proofs.BetweenTurns.{begun_before, begun_last}
use Rattle.run_laws.proofs.ends.each_station_begins_the_turns.Goals as goal

pub returns-clause-before_a_turn : goal.returns-clause-before_a_turn
returns-clause-before_a_turn c = λ given before rest slot radios station distinct is at.
    begun_before given before rest slot radios station distinct (contains_in given.stations station is) at

pub returns-clause-at_the_end : goal.returns-clause-at_the_end
returns-clause-at_the_end c = λ given history station distinct is goes.
    begun_last given history station distinct (contains_in given.stations station is) goes
