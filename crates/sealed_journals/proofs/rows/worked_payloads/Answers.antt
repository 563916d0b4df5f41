-- Proof of `rows::worked_payloads`: the ciphers are evaluated.
use Rattle.std.proofs.Common.{[], ◌∷◌}
use Rattle.std.specs.Prelude.{true}
use Rattle.aes_block.specs.Field.{times}
use Rattle.aes_block.specs.State.{add_states, mix_columns, round_key, shift_rows}
use Rattle.ccm_link.specs.Payload.{additional_data, nonce}
use Rattle.sealed_journals.specs.Sample.{sample_iv}
use Rattle.sealed_journals.proofs.Lines.{central_response_is, peripheral_response_is}
use Rattle.sealed_journals.proofs.Payloads.{session_sealed}
use Rattle.sealed_journals.proofs.rows.worked_payloads.Goals as goal

pub returns : goal.returns
unfolding nonce times add_states mix_columns round_key shift_rows
returns c = record {
  central = central_response_is;
  peripheral = peripheral_response_is;
  three = session_sealed (nonce 1 true sample_iv) (additional_data 2) (0x01 ∷ 0x02 ∷ 0x03 ∷ []);
}
