-- The proof of the law `ends_keep_their_role`.
use Rattle.control_model.proofs.Moving.{role_after}
use Rattle.control_model.proofs.laws.ends_keep_their_role.Goals as goal

pub returns : goal.returns
returns c = role_after
