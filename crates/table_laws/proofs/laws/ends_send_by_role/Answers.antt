-- The proof of the law `ends_send_by_role`.
use Rattle.table_laws.proofs.Roles.{sent_after}
use Rattle.table_laws.proofs.laws.ends_send_by_role.Goals as goal

pub returns : goal.returns
returns c = sent_after
