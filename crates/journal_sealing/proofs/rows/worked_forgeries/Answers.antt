-- Proof of `rows::worked_forgeries`: the definitions compute.
use Rattle.std.proofs.Common.{refl}
use Rattle.journal_sealing.proofs.rows.worked_forgeries.Goals as goal

pub returns : goal.returns
returns c = record { in_clear = refl; again = refl; empty = refl; clear = refl }
