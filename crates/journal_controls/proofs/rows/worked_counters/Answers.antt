-- Proof of `rows::worked_counters`: the definitions compute.
use Rattle.std.proofs.Common.{refl}
use Rattle.journal_controls.proofs.rows.worked_counters.Goals as goal

pub returns : goal.returns
returns c = record { sent = refl; taken = refl; apart = λ is. absurd cc; clear = refl }
