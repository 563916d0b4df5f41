-- Proof of `laws::events_are_entered_at_their_anchors`.
use Rattle.controller_model.proofs.Entries.{enters_as_turns_begin, enters_at_anchors}
use Rattle.controller_model.proofs.laws.events_are_entered_at_their_anchors.Goals as goal

pub returns-clause-entered : goal.returns-clause-entered
returns-clause-entered c = enters_at_anchors

pub returns-clause-only_as_turns_begin : goal.returns-clause-only_as_turns_begin
returns-clause-only_as_turns_begin c = enters_as_turns_begin
