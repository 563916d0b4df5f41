-- The worked examples of `rows::worked_windows`.
use Rattle.std.proofs.Common.{refl}
use Rattle.scan_init.proofs.rows.worked_windows.Goals as goal

pub returns-clause-channels : goal.returns-clause-channels
returns-clause-channels c = refl

pub returns-clause-rounded_up : goal.returns-clause-rounded_up
returns-clause-rounded_up c = refl
