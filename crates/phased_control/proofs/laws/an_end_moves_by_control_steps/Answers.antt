-- The proof of the law `an_end_moves_by_control_steps`.
use Rattle.phased_control.proofs.Moving.{but_end, free_where_handed, keeps_role, moves_by_steps, waits_in_both, whole}
use Rattle.phased_control.proofs.laws.an_end_moves_by_control_steps.Goals as goal

pub returns-clause-step : goal.returns-clause-step
returns-clause-step c = moves_by_steps

pub returns-clause-all : goal.returns-clause-all
returns-clause-all c = but_end

pub returns-clause-whole : goal.returns-clause-whole
returns-clause-whole c = whole

pub returns-clause-role : goal.returns-clause-role
returns-clause-role c = keeps_role

pub returns-clause-waits : goal.returns-clause-waits
returns-clause-waits c = waits_in_both

pub returns-clause-free : goal.returns-clause-free
returns-clause-free c = free_where_handed
