-- The proof of `mixed`.
use Rattle.std.proofs.Common.{arith, ap, ◌∙◌}
use Rattle.aes_block.proofs.WordOctets.{moved, word_octets-xor_four, word_octets-rotate_right_8, word_octets-rotate_right_16, word_octets-rotate_right_24}
use Rattle.aes_block.specs.Words.{word_octets}
use Rattle.aes_block.proofs.rounds.mixed.Goals as goal

pub returns : goal.returns
returns c =
    word_octets-xor_four _ _ _ _ _ _ _ _
    c.mixed_row.ensures
    (ap word_octets c.rotate_right.ensures ∙ word_octets-rotate_right_8 _ (omega arith) ∙ ap (moved 1) c.mixed_row-2.ensures)
    (ap word_octets c.rotate_right-2.ensures ∙ word_octets-rotate_right_16 _ (omega arith) ∙ ap (moved 2) c.mixed_row-3.ensures)
    (ap word_octets c.rotate_right-3.ensures ∙ word_octets-rotate_right_24 _ (omega arith) ∙ ap (moved 3) c.mixed_row-4.ensures)
