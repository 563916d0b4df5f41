-- The proof of `block_with`.
use Rattle.std.proofs.Common.{◌++◌, ◌∷◌, [], slice_index, rules, ap, sym, ◌∙◌}
use Rattle.ccm_link.proofs.BlockOctets.{elements}
use Rattle.ccm_link.proofs.packet.block_with.Goals as goal

pub returns : goal.returns
returns c =
    let number = c.to_be_bytes.result in
    ap (λ n. c.args.flags ∷ n ++ slice_index number 0 ∷ slice_index number 1 ∷ []) (sym (elements c.args.nonce.now 13 (search rules)))
    ∙ ap (λ o. c.args.flags ∷ c.args.nonce.now ++ slice_index o 0 ∷ slice_index o 1 ∷ []) c.to_be_bytes.ensures
