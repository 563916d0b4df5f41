-- Proof of `laws::only_latency_skips_events`.
use Rattle.link_model.proofs.Skipping.{central_wants, control_wants, data_wants, in_force, indication_wants, no_latency_wants, procedure_wants, unacknowledged_wants}
use Rattle.link_model.proofs.laws.only_latency_skips_events.Goals as goal

pub returns-clause-in_force : goal.returns-clause-in_force
returns-clause-in_force c = in_force

pub returns-clause-central : goal.returns-clause-central
returns-clause-central c = central_wants

pub returns-clause-no_latency : goal.returns-clause-no_latency
returns-clause-no_latency c = no_latency_wants

pub returns-clause-unacknowledged : goal.returns-clause-unacknowledged
returns-clause-unacknowledged c = unacknowledged_wants

pub returns-clause-control_waits : goal.returns-clause-control_waits
returns-clause-control_waits c = control_wants

pub returns-clause-data_waits : goal.returns-clause-data_waits
returns-clause-data_waits c = data_wants

pub returns-clause-procedure : goal.returns-clause-procedure
returns-clause-procedure c = procedure_wants

pub returns-clause-indication_waits : goal.returns-clause-indication_waits
returns-clause-indication_waits c = indication_wants
