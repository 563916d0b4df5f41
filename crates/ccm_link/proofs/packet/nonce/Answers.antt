-- The proof of `nonce`.
use Rattle.std.proofs.Common.{List, ℕ, ◌++◌, ◌∷◌, [], slice_index, rules, ap, sym, ◌∙◌}
use Rattle.std.specs.Int.{to_le_bytes, w64}
use Rattle.ccm_link.specs.Payload.{nonce}
use Rattle.ccm_link.proofs.BlockOctets.{elements}
use Rattle.ccm_link.proofs.packet.nonce.Goals as goal

abbrev first_five : List ℕ → List ℕ
first_five o = slice_index o 0 ∷ slice_index o 1 ∷ slice_index o 2 ∷ slice_index o 3 ∷ slice_index o 4 ∷ []

pub returns : goal.returns
unfolding nonce
returns c =
    ap (λ iv. first_five c.to_le_bytes.result ++ iv) (sym (elements c.args.iv.now 8 (search rules)))
    ∙ ap (λ o. first_five o ++ c.args.iv.now) (c.to_le_bytes.ensures ∙ ap (to_le_bytes w64) c.numbered.ensures)
