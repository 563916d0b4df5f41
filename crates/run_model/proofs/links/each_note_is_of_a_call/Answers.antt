-- Proof of `links::each_note_is_of_a_call`.
use Rattle.run_model.proofs.CallNotes.{noted_in_call}
use Rattle.run_model.proofs.links.each_note_is_of_a_call.Goals as goal

pub returns : goal.returns
returns c = noted_in_call
