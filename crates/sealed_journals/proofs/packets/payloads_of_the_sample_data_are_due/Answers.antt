-- The payloads by the lines are evaluated.
use Rattle.sealed_journals.proofs.Lines.{answer_due, data_due, reply_due, response_due}
use Rattle.sealed_journals.proofs.packets.payloads_of_the_sample_data_are_due.Goals as goal

pub returns : goal.returns
returns c = record { response = response_due; reply = reply_due; sent = data_due; answered = answer_due }
