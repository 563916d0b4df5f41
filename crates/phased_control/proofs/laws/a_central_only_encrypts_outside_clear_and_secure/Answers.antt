-- The proof of the law `a_central_only_encrypts_outside_clear_and_secure`.
use Rattle.phased_control.proofs.AllLawful.{alone_loudly, begins_none_loudly, first_loudly, own_loudly}
use Rattle.phased_control.proofs.laws.a_central_only_encrypts_outside_clear_and_secure.Goals as goal

pub returns-clause-own : goal.returns-clause-own
returns-clause-own c = own_loudly

pub returns-clause-first : goal.returns-clause-first
returns-clause-first c = first_loudly

pub returns-clause-begins : goal.returns-clause-begins
returns-clause-begins c = begins_none_loudly

pub returns-clause-peer : goal.returns-clause-peer
returns-clause-peer c = alone_loudly
