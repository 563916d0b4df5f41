-- Proof of `rows::worked_mixtures`: the definitions compute.
use Rattle.std.proofs.Common.{refl}
use Rattle.journal_sealing.proofs.rows.worked_mixtures.Goals as goal

pub returns : goal.returns
returns c = record { two_keys = refl; one_key = refl; in_clear = refl; again = refl; shut = refl }
