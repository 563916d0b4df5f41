-- The proof of the law `numbers_are_counts`.
use Rattle.ack_bit.proofs.Counting.{nesn-counts, sn-counts}
use Rattle.ack_bit.proofs.laws.numbers_are_counts.Goals as goal

pub returns-clause-sn : goal.returns-clause-sn
returns-clause-sn c = sn-counts

pub returns-clause-nesn : goal.returns-clause-nesn
returns-clause-nesn c = nesn-counts
