-- Proof of `entering::enter_links`.
use Rattle.std.proofs.Common.{[], refl}
use Rattle.host_notes.proofs.entering.enter_links.Goals as goal

pub returns-clause-knows : goal.returns-clause-knows
returns-clause-knows g c = λ known received knows. (c.enter_from.ensures.enters [] known received refl knows).knows

pub returns-clause-notes : goal.returns-clause-notes
returns-clause-notes g c = λ known received knows. (c.enter_from.ensures.enters [] known received refl knows).notes

pub returns-clause-wants : goal.returns-clause-wants
returns-clause-wants g c = λ known received knows. (c.enter_from.ensures.enters [] known received refl knows).plan
