-- The proof of the law `accept_list_is_a_set`.
use Rattle.scan_init.proofs.Listed.{listed_with, listed_without, set_with, set_less}
use Rattle.scan_init.proofs.laws.accept_list_is_a_set.Goals as goal

pub returns-clause-added : goal.returns-clause-added
returns-clause-added c = listed_with

pub returns-clause-removed : goal.returns-clause-removed
returns-clause-removed c = listed_without

pub returns-clause-adding : goal.returns-clause-adding
returns-clause-adding c = set_with

pub returns-clause-removing : goal.returns-clause-removing
returns-clause-removing c = set_less
