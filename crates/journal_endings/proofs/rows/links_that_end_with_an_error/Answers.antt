-- Proof of `rows::links_that_end_with_an_error`: the definitions compute.
use Rattle.std.proofs.Common.{◌≡◌, true, false, [], refl}
use Rattle.ble_base.specs.declared.roles.Side.TheVariants.{A}
use Rattle.journal_indications.specs.journal_data.Followed.{none_mixed}
use Rattle.journal_indications.specs.journal_data.run_model.Rows.{one_connection_journal}
use Rattle.journal_endings.specs.Rows.{shut_with}
use Rattle.journal_endings.proofs.NoneEnds.{no_failure}
use Rattle.journal_endings.proofs.rows.links_that_end_with_an_error.Goals as goal

pub returns : goal.returns
returns c = record {
  lost = no_failure none_mixed (shut_with 0x08) refl;
  late = no_failure none_mixed (shut_with 0x28) refl;
  asked = no_failure none_mixed (shut_with 0x13) refl;
  full = λ none. let h : true ≡ false = none one_connection_journal [] A 1 (record { 0 = 0x07 }) refl refl in absurd cc;
  collides = λ none. let h : true ≡ false = none one_connection_journal [] A 1 (record { 0 = 0x23 }) refl refl in absurd cc;
  other = λ none. let h : true ≡ false = none one_connection_journal [] A 1 (record { 0 = 0x2A }) refl refl in absurd cc;
  mixed = λ front rest side number reason is unmixed. absurd (let h : true ≡ false = unmixed in absurd cc);
}
