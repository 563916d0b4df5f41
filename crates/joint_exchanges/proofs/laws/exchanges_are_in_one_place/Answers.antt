-- The proof of the law `exchanges_are_in_one_place`.
use Rattle.joint_exchanges.proofs.States.{asked_idle, asked_sent, asked_unsent}
use Rattle.joint_exchanges.proofs.laws.exchanges_are_in_one_place.Goals as goal

pub returns-clause-idle : goal.returns-clause-idle
returns-clause-idle c = λ central_rx peripheral_rx first slot steps asked role on. asked_idle central_rx peripheral_rx first slot steps on asked role

pub returns-clause-unsent : goal.returns-clause-unsent
returns-clause-unsent c = λ central_rx peripheral_rx first slot steps asked role on. asked_unsent central_rx peripheral_rx first slot steps on asked role

pub returns-clause-sent : goal.returns-clause-sent
returns-clause-sent c = λ central_rx peripheral_rx first slot steps asked role on. asked_sent central_rx peripheral_rx first slot steps on asked role
