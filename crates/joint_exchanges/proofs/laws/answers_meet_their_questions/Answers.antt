-- The proof of the law `answers_meet_their_questions`.
use Rattle.joint_exchanges.proofs.States.{answer_meant, question_meant}
use Rattle.joint_exchanges.proofs.laws.answers_meet_their_questions.Goals as goal

pub returns-clause-answers : goal.returns-clause-answers
returns-clause-answers c = λ central_rx peripheral_rx first slot steps asked role on. answer_meant central_rx peripheral_rx first slot steps on asked role

pub returns-clause-questions : goal.returns-clause-questions
returns-clause-questions c = λ central_rx peripheral_rx first slot steps asked role on. question_meant central_rx peripheral_rx first slot steps on asked role
