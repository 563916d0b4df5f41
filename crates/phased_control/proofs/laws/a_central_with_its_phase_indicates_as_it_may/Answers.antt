-- The proof of the law `a_central_with_its_phase_indicates_as_it_may`.
use Rattle.phased_control.proofs.Indicating.{free, last, may, offset, over}
use Rattle.phased_control.proofs.laws.a_central_with_its_phase_indicates_as_it_may.Goals as goal

pub returns-clause-may : goal.returns-clause-may
returns-clause-may c = may

pub returns-clause-offset : goal.returns-clause-offset
returns-clause-offset c = offset

pub returns-clause-free : goal.returns-clause-free
returns-clause-free c = free

pub returns-clause-over : goal.returns-clause-over
returns-clause-over c = over

pub returns-clause-last : goal.returns-clause-last
returns-clause-last c = last
