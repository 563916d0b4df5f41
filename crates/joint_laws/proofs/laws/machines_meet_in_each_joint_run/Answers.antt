-- The proof of the law `machines_meet_in_each_joint_run`.
use Rattle.joint_laws.proofs.EachState.{all_known, now}
use Rattle.joint_laws.proofs.Rejected.{state_of}
use Rattle.joint_laws.proofs.laws.machines_meet_in_each_joint_run.Goals as goal

pub returns-clause-phases : goal.returns-clause-phases
returns-clause-phases c = λ central_rx peripheral_rx first slot steps is. (all_known central_rx peripheral_rx first slot is.latency steps is).facts

pub returns-clause-phases_now : goal.returns-clause-phases_now
returns-clause-phases_now c =
    λ central_rx peripheral_rx first slot steps is goes.
    (now central_rx peripheral_rx first slot is.latency steps (all_known central_rx peripheral_rx first slot is.latency steps is) goes).facts

pub returns-clause-exclusive : goal.returns-clause-exclusive
returns-clause-exclusive c = λ central_rx peripheral_rx first slot steps is. (all_known central_rx peripheral_rx first slot is.latency steps is).exclusive

pub returns-clause-meanings : goal.returns-clause-meanings
returns-clause-meanings c = λ central_rx peripheral_rx first slot steps is. (all_known central_rx peripheral_rx first slot is.latency steps is).meant

pub returns-clause-state : goal.returns-clause-state
returns-clause-state c = λ central_rx peripheral_rx first slot steps is goes. state_of central_rx peripheral_rx first slot steps is goes
