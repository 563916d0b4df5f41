-- Proof of `laws::a_procedure_is_done_only_as_it_is_answered`.
use Rattle.std.proofs.Common.{false, sym, ap, ◌∙◌}
use Rattle.link_outcomes.proofs.Awaiting.{all_right, is_answered}
use Rattle.link_outcomes.proofs.Noting.{past_right}
use Rattle.link_outcomes.proofs.laws.a_procedure_is_done_only_as_it_is_answered.Goals as goal

pub returns : goal.returns
returns c setup past kind start between later handle other count body is are begun none =
    is_answered kind start between later handle other count body (ap (all_right kind false false) (sym are) ∙ past_right kind setup past is) begun none
