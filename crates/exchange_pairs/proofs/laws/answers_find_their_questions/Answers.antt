-- The proof of the law `answers_find_their_questions`.
use Rattle.exchange_pairs.proofs.Exchanges.{answers, questions, kept_questions, one_kept}
use Rattle.exchange_pairs.proofs.laws.answers_find_their_questions.Goals as goal

pub returns-clause-answers : goal.returns-clause-answers
returns-clause-answers c = answers

pub returns-clause-questions : goal.returns-clause-questions
returns-clause-questions c = questions

pub returns-clause-kept : goal.returns-clause-kept
returns-clause-kept c = kept_questions

pub returns-clause-one_kept : goal.returns-clause-one_kept
returns-clause-one_kept c = one_kept
