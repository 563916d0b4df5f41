-- Proof of `laws::refused_command_changes_nothing`.
use Rattle.controller_model.proofs.Asked.{refused_leaves}
use Rattle.controller_model.proofs.laws.refused_command_changes_nothing.Goals as goal

pub returns : goal.returns
returns c = refused_leaves
