-- The proof of the law `a_central_indicates_as_it_may`.
use Rattle.control_model.proofs.Central.{free, last, may, offset, over_before}
use Rattle.control_model.proofs.laws.a_central_indicates_as_it_may.Goals as goal

pub returns-clause-may : goal.returns-clause-may
returns-clause-may c = may

pub returns-clause-offset : goal.returns-clause-offset
returns-clause-offset c = offset

pub returns-clause-free : goal.returns-clause-free
returns-clause-free c = free

pub returns-clause-over : goal.returns-clause-over
returns-clause-over c = over_before

pub returns-clause-last : goal.returns-clause-last
returns-clause-last c = last
