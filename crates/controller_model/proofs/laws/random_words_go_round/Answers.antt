-- Proof of `laws::random_words_go_round`.
use Rattle.controller_model.proofs.Rands.{drawn, rand_counts, rand_returns}
use Rattle.controller_model.proofs.laws.random_words_go_round.Goals as goal

pub returns-clause-drawn : goal.returns-clause-drawn
returns-clause-drawn c = drawn

pub returns-clause-counted : goal.returns-clause-counted
returns-clause-counted c = rand_counts

pub returns-clause-returned : goal.returns-clause-returned
returns-clause-returned c = rand_returns
