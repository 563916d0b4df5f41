-- The proof of the law `a_last_pdu_is_on_its_way`.
use Rattle.joint_controls.proofs.LastPdus.{first_tied, tied}
use Rattle.joint_controls.proofs.laws.a_last_pdu_is_on_its_way.Goals as goal

pub returns-clause-central : goal.returns-clause-central
returns-clause-central c = λ central_rx peripheral_rx first slot steps. (tied steps _ (first_tied central_rx peripheral_rx first slot)).central

pub returns-clause-peripheral : goal.returns-clause-peripheral
returns-clause-peripheral c = λ central_rx peripheral_rx first slot steps. (tied steps _ (first_tied central_rx peripheral_rx first slot)).peripheral

pub returns-clause-down : goal.returns-clause-down
returns-clause-down c = λ central_rx peripheral_rx first slot steps. (tied steps _ (first_tied central_rx peripheral_rx first slot)).down

pub returns-clause-read_down : goal.returns-clause-read_down
returns-clause-read_down c = λ central_rx peripheral_rx first slot steps. (tied steps _ (first_tied central_rx peripheral_rx first slot)).sent_down

pub returns-clause-read_up : goal.returns-clause-read_up
returns-clause-read_up c = λ central_rx peripheral_rx first slot steps. (tied steps _ (first_tied central_rx peripheral_rx first slot)).sent_up
