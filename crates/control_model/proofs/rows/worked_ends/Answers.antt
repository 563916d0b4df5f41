-- The proof of the rows `worked_ends`: each side computes.
use Rattle.std.proofs.Common.{refl}
use Rattle.control_model.proofs.rows.worked_ends.Goals as goal

pub returns-clause-waits : goal.returns-clause-waits
returns-clause-waits c map = refl

pub returns-clause-still : goal.returns-clause-still
returns-clause-still c map = refl

pub returns-clause-held : goal.returns-clause-held
returns-clause-held c map = refl

pub returns-clause-begins : goal.returns-clause-begins
returns-clause-begins c map = refl

pub returns-clause-map_waits : goal.returns-clause-map_waits
returns-clause-map_waits c map = refl

pub returns-clause-map_goes : goal.returns-clause-map_goes
returns-clause-map_goes c map = refl

pub returns-clause-awaits : goal.returns-clause-awaits
returns-clause-awaits c map = refl

pub returns-clause-lasts : goal.returns-clause-lasts
returns-clause-lasts c map = refl

pub returns-clause-map_ends : goal.returns-clause-map_ends
returns-clause-map_ends c map = refl

pub returns-clause-update_ends : goal.returns-clause-update_ends
returns-clause-update_ends c map = refl

pub returns-clause-late_ends : goal.returns-clause-late_ends
returns-clause-late_ends c map = refl
