-- Proof of `rows::worked_steps`: the definitions compute.
use Rattle.std.proofs.Common.{refl}
use Rattle.link_model.specs.End.{facts_of, notes_of}
use Rattle.link_procedures.proofs.rows.worked_steps.Goals as goal

pub returns-clause-wanted : goal.returns-clause-wanted
unfolding notes_of facts_of
returns-clause-wanted c = λ setup. refl

pub returns-clause-central : goal.returns-clause-central
unfolding notes_of facts_of
returns-clause-central c = λ setup is. rw is refl

pub returns-clause-peripheral : goal.returns-clause-peripheral
unfolding notes_of facts_of
returns-clause-peripheral c = λ setup is. rw is refl
