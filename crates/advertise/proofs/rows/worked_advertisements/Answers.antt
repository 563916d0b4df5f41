-- The worked examples of `rows::worked_advertisements`.
use Rattle.std.proofs.Common.{refl}
use Rattle.advertise.proofs.rows.worked_advertisements.Goals as goal

pub returns-clause-sent : goal.returns-clause-sent
returns-clause-sent c = refl

pub returns-clause-channels : goal.returns-clause-channels
returns-clause-channels c = refl

pub returns-clause-due : goal.returns-clause-due
returns-clause-due c = refl
