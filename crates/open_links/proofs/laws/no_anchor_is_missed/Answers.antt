-- Answers of `laws::no_anchor_is_missed`.
use Rattle.open_links.proofs.OnTime.{new_on_time, through_on_time}
use Rattle.open_links.proofs.laws.no_anchor_is_missed.Goals as goal

pub returns-clause-opened : goal.returns-clause-opened
returns-clause-opened c = new_on_time

pub returns-clause-slot_after_slot : goal.returns-clause-slot_after_slot
returns-clause-slot_after_slot c = through_on_time
