-- Proof of `stations::Station::begin`.
use Rattle.pair_world.proofs.stations.Station.begin.Goals as goal

pub returns-clause-begun : goal.returns-clause-begun
returns-clause-begun c = c.begin_turn.ensures.begun
