-- The proof of `round_key`.
use Rattle.std.proofs.Common.{◌≡◌, ◌*◌, ◌+◌, length, rules, [], slice_index, map, sym, ap, ◌∙◌, arith, add-zero}
use Rattle.std.specs.List.{range_with_len, slice_index_or}
use Rattle.aes_block.specs.State.{round_key}
use Rattle.aes_block.specs.Words.{octet_words}
use Rattle.aes_block.proofs.ColumnOctets.{octets_at, state_octets-columns}
use Rattle.aes_block.proofs.columns.round_key.Goals as goal

pub returns : goal.returns
unfolding round_key
returns c =
    let words = c.args.words.now in
    let at = 4 * c.args.round in
    let len : length words ≡ 44 = search rules in
    state_octets-columns (λ r k. slice_index (slice_index_or (octet_words words) (at + k) []) r) _ _ _ _
    (octets_at words at (omega arith) ∙ ap (λ i. map (slice_index (slice_index_or (octet_words words) i [])) (range_with_len 0 4)) (sym (add-zero at)))
    (octets_at words (at + 1) (omega arith)) (octets_at words (at + 2) (omega arith)) (octets_at words (at + 3) (omega arith))
