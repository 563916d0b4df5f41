-- Proof of `ends::ends_of_one_link_have_one_connect_ind`.
use Rattle.run_laws.proofs.SameEvent.{one_connect_ind, two_stations}
use Rattle.run_laws.proofs.ends.ends_of_one_link_have_one_connect_ind.Goals as goal

pub returns-clause-agree : goal.returns-clause-agree
returns-clause-agree c = one_connect_ind

pub returns-clause-apart : goal.returns-clause-apart
returns-clause-apart c = two_stations
