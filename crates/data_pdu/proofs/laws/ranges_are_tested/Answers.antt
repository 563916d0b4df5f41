-- The proof of the law `ranges_are_tested`.
use Rattle.data_pdu.proofs.RangeTests.{range_is_tested}
use Rattle.data_pdu.proofs.laws.ranges_are_tested.Goals as goal

pub returns : goal.returns
returns c = range_is_tested
