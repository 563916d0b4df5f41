-- Proof of `laws::only_entered_events_are_noted`.
use Rattle.link_changes.proofs.OtherSteps.{others_name_none}
use Rattle.link_changes.proofs.laws.only_entered_events_are_noted.Goals as goal

pub returns : goal.returns
returns c = others_name_none
