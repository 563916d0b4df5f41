-- Proof of `laws::md_is_what_waited_as_the_turn_began`.
use Rattle.link_model.proofs.MoreData.{again_stays, more_again, new_more}
use Rattle.link_model.proofs.laws.md_is_what_waited_as_the_turn_began.Goals as goal

pub returns-clause-new : goal.returns-clause-new
returns-clause-new c = new_more

pub returns-clause-again : goal.returns-clause-again
returns-clause-again c = more_again

pub returns-clause-stays : goal.returns-clause-stays
returns-clause-stays c = again_stays
