-- The proof of the law `an_unencrypted_end_stays_unencrypted`.
use Rattle.unencrypted_ends.proofs.Staying.{none_read, stays, stays_taking}
use Rattle.unencrypted_ends.proofs.laws.an_unencrypted_end_stays_unencrypted.Goals as goal

pub returns-clause-steps : goal.returns-clause-steps
returns-clause-steps c = stays

pub returns-clause-takes : goal.returns-clause-takes
returns-clause-takes c = stays_taking

pub returns-clause-read : goal.returns-clause-read
returns-clause-read c = none_read
