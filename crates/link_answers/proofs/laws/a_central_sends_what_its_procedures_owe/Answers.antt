-- The proof of the law `a_central_sends_what_its_procedures_owe`.
use Rattle.std.proofs.Common.{refl}
use Rattle.link_model.specs.End.{facts_of}
use Rattle.link_answers.proofs.OwingEnds.{steps_keep, steps_owe}
use Rattle.link_answers.proofs.laws.a_central_sends_what_its_procedures_owe.Goals as goal

pub returns-clause-owes : goal.returns-clause-owes
returns-clause-owes c setup past steps kind is_central owes kept none =
    steps_owe setup (facts_of setup past) steps kind (record { past = past; is = refl }) is_central owes kept none

pub returns-clause-kept : goal.returns-clause-kept
returns-clause-kept c setup past steps kind is_central owes kept none =
    steps_keep setup (facts_of setup past) steps kind (record { past = past; is = refl }) is_central owes kept none
