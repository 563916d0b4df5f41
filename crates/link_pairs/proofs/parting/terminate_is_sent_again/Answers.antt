-- The proof of the law `terminate_is_sent_again`.
use Rattle.link_pairs.proofs.PartingEndings.{sends_again, sends_no_control, sends_no_data}
use Rattle.link_pairs.proofs.parting.terminate_is_sent_again.Goals as goal

pub returns-clause-again : goal.returns-clause-again
returns-clause-again g = sends_again

pub returns-clause-no_control : goal.returns-clause-no_control
returns-clause-no_control g = sends_no_control

pub returns-clause-no_data : goal.returns-clause-no_data
returns-clause-no_data g = sends_no_data
