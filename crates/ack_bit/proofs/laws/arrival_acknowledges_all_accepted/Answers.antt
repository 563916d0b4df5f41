-- The proof of the law `arrival_acknowledges_all_accepted`.
use Rattle.ack_bit.proofs.Links.{acked_count, acked_pdus}
use Rattle.ack_bit.proofs.laws.arrival_acknowledges_all_accepted.Goals as goal

pub returns-clause-count : goal.returns-clause-count
returns-clause-count g c = acked_count

pub returns-clause-pdus : goal.returns-clause-pdus
returns-clause-pdus g c = acked_pdus
