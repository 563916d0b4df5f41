-- What is left when an ask is removed is still once each kind.
use Rattle.procedure_values.proofs.Counts.{wants_remove}
use Rattle.procedure_values.proofs.wants.Wants.remove.Goals as goal

pub invariant_of-self : goal.invariant_of-self
invariant_of-self c = rw c.remove.ensures.items (wants_remove c.self.inside.asks.items c.args.place c.self.invariant)
