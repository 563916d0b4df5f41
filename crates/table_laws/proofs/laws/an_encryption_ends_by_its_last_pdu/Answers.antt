-- The proof of the law `an_encryption_ends_by_its_last_pdu`.
use Rattle.table_laws.proofs.Encrypting.{begins_by, begun, ended, ends_by}
use Rattle.table_laws.proofs.laws.an_encryption_ends_by_its_last_pdu.Goals as goal

pub returns-clause-begins : goal.returns-clause-begins
returns-clause-begins c = begins_by

pub returns-clause-ends : goal.returns-clause-ends
returns-clause-ends c = ends_by

pub returns-clause-begun : goal.returns-clause-begun
returns-clause-begun c = begun

pub returns-clause-ended : goal.returns-clause-ended
returns-clause-ended c = ended
