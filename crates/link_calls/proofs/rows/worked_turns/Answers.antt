-- Proof of `rows::worked_turns`: the definitions compute.
use Rattle.std.proofs.Common.{◌≡◌, true, false, inl, inr, refl, arith}
use Rattle.run_laws.specs.link_model.End.{facts_of}
use Rattle.link_calls.proofs.rows.worked_turns.Goals as goal

pub returns-clause-central : goal.returns-clause-central
unfolding facts_of
returns-clause-central c = refl

pub returns-clause-peripheral : goal.returns-clause-peripheral
unfolding facts_of
returns-clause-peripheral c = refl

pub returns-clause-later : goal.returns-clause-later
unfolding facts_of
returns-clause-later c = refl

pub returns-clause-exchange : goal.returns-clause-exchange
unfolding facts_of
returns-clause-exchange c = record { entered = omega arith; in_event = inl refl }

pub returns-clause-unheard : goal.returns-clause-unheard
unfolding facts_of
returns-clause-unheard c = λ has. elim has.in_event [
  | inl same ↦ (let no : 3 ≡ 2 = same in omega (arith, no))
  | inr later ↦ (let no : false ≡ true = later.1 in absurd cc)
]
