-- Proof of `rows::worked_starts`: the lengths of sealed payloads, and the definitions compute.
use Rattle.std.proofs.Common.{◌≡◌, List, ℕ, [], ◌∷◌, length, refl, sym, ap, ◌∙◌}
use Rattle.std.specs.Prelude.{true}
use Rattle.ccm_link.specs.Payload.{additional_data, nonce}
use Rattle.ccm_link.proofs.Sealing.{length-sealed_payload}
use Rattle.ble_base.specs.declared.roles.Role.TheVariants.{Central}
use Rattle.journal_controls.specs.link_model.Payload.{payload_made}
use Rattle.journal_sealing.specs.Rows.{start_enc_rsp, starting}
use Rattle.journal_sealing.proofs.rows.worked_starts.Goals as goal

sealed_rsp : length (payload_made (starting Central) start_enc_rsp) ≡ 5
sealed_rsp = length-sealed_payload [] (nonce 0 true []) (additional_data 3) (0x06 ∷ [])

pub returns : goal.returns
returns c = record {
  request = refl;
  response = sealed_rsp;
  in_clear = λ is. let h : 1 ≡ 5 = ap (λ (octets : List ℕ). length octets) (sym is) ∙ sealed_rsp in absurd cc;
  empty = refl;
  full = length-sealed_payload [] (nonce 0 true []) (additional_data 2) (0x01 ∷ []);
  again = refl;
  anew = λ is. absurd cc;
}
