-- The proof of the law `a_version_goes_once`.
use Rattle.joint_exchanges.proofs.States.{version_answers, version_known, version_kept_runs, version_kept_unused, version_known_used, version_once, version_running, version_sent, version_taken, version_unsent, version_used_for}
use Rattle.joint_exchanges.proofs.laws.a_version_goes_once.Goals as goal

pub returns-clause-once : goal.returns-clause-once
returns-clause-once c = λ central_rx peripheral_rx first slot steps role on. version_once central_rx peripheral_rx first slot steps on role

pub returns-clause-taken : goal.returns-clause-taken
returns-clause-taken c = λ central_rx peripheral_rx first slot steps role on. version_taken central_rx peripheral_rx first slot steps on role

pub returns-clause-known : goal.returns-clause-known
returns-clause-known c = λ central_rx peripheral_rx first slot steps role on. version_known central_rx peripheral_rx first slot steps on role

pub returns-clause-unsent : goal.returns-clause-unsent
returns-clause-unsent c = λ central_rx peripheral_rx first slot steps role on. version_unsent central_rx peripheral_rx first slot steps on role

pub returns-clause-sent : goal.returns-clause-sent
returns-clause-sent c = λ central_rx peripheral_rx first slot steps role on. version_sent central_rx peripheral_rx first slot steps on role

pub returns-clause-answering : goal.returns-clause-answering
returns-clause-answering c = λ central_rx peripheral_rx first slot steps role on. version_answers central_rx peripheral_rx first slot steps on role

pub returns-clause-used : goal.returns-clause-used
returns-clause-used c = λ central_rx peripheral_rx first slot steps role on. version_used_for central_rx peripheral_rx first slot steps on role

pub returns-clause-running : goal.returns-clause-running
returns-clause-running c = λ central_rx peripheral_rx first slot steps role on. version_running central_rx peripheral_rx first slot steps on role

pub returns-clause-known_used : goal.returns-clause-known_used
returns-clause-known_used c = λ central_rx peripheral_rx first slot steps role on. version_known_used central_rx peripheral_rx first slot steps on role

pub returns-clause-kept : goal.returns-clause-kept
returns-clause-kept c = λ central_rx peripheral_rx first slot steps on. version_kept_unused central_rx peripheral_rx first slot steps on

pub returns-clause-kept_runs : goal.returns-clause-kept_runs
returns-clause-kept_runs c = λ central_rx peripheral_rx first slot steps on. version_kept_runs central_rx peripheral_rx first slot steps on
