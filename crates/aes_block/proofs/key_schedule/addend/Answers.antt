-- The proof of `addend`.
use Rattle.std.proofs.Common.{◌≡◌, ◌==◌, ◌%◌, true, ap, ◌∙◌, eq-eqb, arith}
use Rattle.aes_block.specs.KeyExpansion.{add_words}
use Rattle.aes_block.proofs.ColumnOctets.{substituted_column}
use Rattle.aes_block.proofs.WordOctets.{word_octets-xor, word_octets-rotate_left_8}
use Rattle.aes_block.specs.Words.{word_octets}
use Rattle.aes_block.proofs.key_schedule.addend.Goals as goal

pub returns-then-place-eq0 : goal.returns-then-place-eq0
returns-then-place-eq0 c =
    let turned = c.to_be_bytes.ensures ∙ ap word_octets c.rotate_left.ensures ∙ word_octets-rotate_left_8 c.args.last (omega arith) in
    let whole : (c.args.place % 4 == 0) ≡ true = eq-eqb _ _ (omega arith) in
    rw whole
    (word_octets-xor _ _ ∙ (λ i. add_words ((c.substituted.ensures ∙ ap substituted_column turned) i) (c.round_constant.ensures i)))
