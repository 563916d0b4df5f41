-- The proof of the law `joint_runs_are_runs_of_exchanges`.
use Rattle.joint_exchanges.specs.Runs.{moves_in}
use Rattle.joint_exchanges.proofs.MachineRuns.{features_now, lengths_now, moved, none_ever, versions_now}
use Rattle.joint_exchanges.proofs.laws.joint_runs_are_runs_of_exchanges.Goals as goal

pub returns-clause-moves : goal.returns-clause-moves
returns-clause-moves c = λ central_rx peripheral_rx first slot steps on. (moved central_rx peripheral_rx first slot steps on).goes

pub returns-clause-may : goal.returns-clause-may
returns-clause-may c = λ central_rx peripheral_rx first slot steps on. (moved central_rx peripheral_rx first slot steps on).may

pub returns-clause-features : goal.returns-clause-features
returns-clause-features c = λ central_rx peripheral_rx first slot steps on. features_now central_rx peripheral_rx first slot steps on

pub returns-clause-lengths : goal.returns-clause-lengths
returns-clause-lengths c = λ central_rx peripheral_rx first slot steps on. lengths_now central_rx peripheral_rx first slot steps on

pub returns-clause-accepts : goal.returns-clause-accepts
returns-clause-accepts c = λ steps s. none_ever (moves_in steps s)

pub returns-clause-versions : goal.returns-clause-versions
returns-clause-versions c = λ central_rx peripheral_rx first slot steps on. versions_now central_rx peripheral_rx first slot steps on
