-- The proof of the law `searches_give_each_valid_address`.
use Rattle.scan_init.proofs.Numbers.{each_valid, none_passed, each_farther, each_new}
use Rattle.scan_init.proofs.laws.searches_give_each_valid_address.Goals as goal

pub returns-clause-valid : goal.returns-clause-valid
returns-clause-valid c = each_valid

pub returns-clause-none_passed : goal.returns-clause-none_passed
returns-clause-none_passed c = none_passed

pub returns-clause-farther : goal.returns-clause-farther
returns-clause-farther c = each_farther

pub returns-clause-distinct : goal.returns-clause-distinct
returns-clause-distinct c = each_new
