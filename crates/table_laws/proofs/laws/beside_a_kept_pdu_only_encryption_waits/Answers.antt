-- The proof of the law `beside_a_kept_pdu_only_encryption_waits`.
use Rattle.table_laws.proofs.Quiet.{kept_after}
use Rattle.table_laws.proofs.laws.beside_a_kept_pdu_only_encryption_waits.Goals as goal

pub returns : goal.returns
returns c = kept_after
