-- Proof of `rows::worked_session_key`.
use Rattle.sealed_journals.proofs.Keys.{session_key_is}
use Rattle.sealed_journals.proofs.rows.worked_session_key.Goals as goal

pub returns : goal.returns
returns c = session_key_is
