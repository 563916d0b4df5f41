-- Proof of `laws::each_entry_is_of_an_event`.
use Rattle.run_model.proofs.EntryEvents.{is_of_event}
use Rattle.run_model.proofs.laws.each_entry_is_of_an_event.Goals as goal

pub returns : goal.returns
returns c = is_of_event
