-- The proof of the law `an_indication_that_is_owed_is_of_the_own_procedure`.
use Rattle.std.proofs.Common.{◌∙◌}
use Rattle.link_model.specs.End.{facts_of}
use Rattle.link_model.proofs.KeyedPasts.{keeps_role}
use Rattle.link_answers.proofs.CipherQueues.{past_may_wait}
use Rattle.link_answers.proofs.SentIndications.{sent_runs}
use Rattle.link_answers.proofs.laws.an_indication_that_is_owed_is_of_the_own_procedure.Goals as goal

pub returns : goal.returns
returns c setup past kind handle count llid body is_central none owes sent three is =
    sent_runs setup (facts_of setup past) (keeps_role setup past ∙ is_central) (past_may_wait setup past) none kind owes handle count llid body sent three is
