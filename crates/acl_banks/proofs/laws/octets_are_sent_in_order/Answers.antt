-- The proof of the law `octets_are_sent_in_order`.
use Rattle.acl_banks.proofs.Histories.{faithful-run}
use Rattle.acl_banks.proofs.laws.octets_are_sent_in_order.Goals as goal

pub returns : goal.returns
returns c buffers link bank calls empty small allowed = faithful-run buffers link bank calls empty small allowed
