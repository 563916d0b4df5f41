-- Proof of `rows::worked_indications`: the definitions compute.
use Rattle.std.proofs.Common.{◌≡◌, refl, ap}
use Rattle.std.specs.List.{sum_by}
use Rattle.instants.specs.declared.track.Change.{Change}
use Rattle.link_changes.specs.data_pdu.Layouts.{makers}
use Rattle.link_changes.specs.data_pdu.Reading.{ctrl_of}
use Rattle.journal_agreement.proofs.rows.worked_indications.Goals as goal

pub returns : goal.returns
unfolding ctrl_of makers
returns c = record { central = refl; peripheral = refl; another = λ follows. let h : 7 ≡ 6 = ap (sum_by (λ (change : Change). change.at.0)) follows in absurd cc }
