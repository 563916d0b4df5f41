-- The proof of the law `a_new_link_is_linked`.
use Rattle.link_pairs.proofs.First.{first_linked}
use Rattle.link_pairs.proofs.laws.a_new_link_is_linked.Goals as goal

pub returns : goal.returns
returns c = first_linked
