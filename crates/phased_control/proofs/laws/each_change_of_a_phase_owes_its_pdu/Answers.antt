-- The proof of the law `each_change_of_a_phase_owes_its_pdu`.
use Rattle.phased_control.proofs.Changing.{may_change_now, owed_with_it, phase_changes}
use Rattle.phased_control.proofs.laws.each_change_of_a_phase_owes_its_pdu.Goals as goal

pub returns-clause-may : goal.returns-clause-may
returns-clause-may c = may_change_now

pub returns-clause-phase : goal.returns-clause-phase
returns-clause-phase c = phase_changes

pub returns-clause-owed : goal.returns-clause-owed
returns-clause-owed c = owed_with_it
