-- Proof of `rows::worked_winners`: the definitions compute.
use Rattle.std.proofs.Common.{refl}
use Rattle.journal_wants.proofs.rows.worked_winners.Goals as goal

pub returns : goal.returns
returns c = record { least_lately = refl; by_handle = refl; advertiser = refl; not_due = refl; held = refl; free = refl }
