-- Proof of `laws::each_event_is_entered_by_the_notes`.
use Rattle.link_changes.proofs.Entries.{enters}
use Rattle.link_changes.proofs.laws.each_event_is_entered_by_the_notes.Goals as goal

pub returns : goal.returns
returns c = λ setup past slot before later handle channel event ranges same. enters setup past slot ranges before later handle event channel same
