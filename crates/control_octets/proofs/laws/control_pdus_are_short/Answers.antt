-- The proof of the law `control_pdus_are_short`.
use Rattle.control_octets.proofs.Pdus.{written_short}
use Rattle.control_octets.proofs.laws.control_pdus_are_short.Goals as goal

pub returns : goal.returns
returns c = written_short
