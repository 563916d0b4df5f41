-- Answers of `access::next_access`.
use Rattle.scan_init.proofs.Searches.{found_some, found_none}
use Rattle.scan_init.proofs.access.next_access.Goals as goal

pub returns-clause-some : goal.returns-clause-some
returns-clause-some c = found_some c.args.cursor c.args.travelled c.first_valid.result c.first_valid.ensures

pub returns-clause-none : goal.returns-clause-none
returns-clause-none c = found_none c.args.cursor c.args.travelled c.first_valid.result c.first_valid.ensures
