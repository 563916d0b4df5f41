-- The proof of the law `written_is_read`.
use Rattle.data_pdu.proofs.Rows.{written_is_known, written_is_one}
use Rattle.data_pdu.proofs.laws.written_is_read.Goals as goal

pub returns-clause-read : goal.returns-clause-read
returns-clause-read c = written_is_known

pub returns-clause-one : goal.returns-clause-one
returns-clause-one c = written_is_one
