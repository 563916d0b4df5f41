-- The proof of `full`.
use Rattle.std.proofs.Common.{ℕ, List, map, slice_index, ap, ◌∙◌}
use Rattle.std.specs.List.{range_with_len}
use Rattle.aes_block.specs.State.{add_states, coefficient, column, mix_columns, mixing, shift_rows, sub_byte, sub_bytes}
use Rattle.aes_block.specs.Words.{state_octets}
use Rattle.aes_block.proofs.ColumnOctets.{state_octets-columns}
use Rattle.aes_block.proofs.rounds.full.Goals as goal

abbrev mixed_column : List ℕ → List ℕ
mixed_column s = map (coefficient mixing (map (λ r. sub_byte (slice_index s r)) (range_with_len 0 4))) (range_with_len 0 4)

pub returns : goal.returns
unfolding mix_columns shift_rows sub_bytes
returns c =
    let shifted = shift_rows (sub_bytes (state_octets c.args.state)) in
    c.add.ensures ∙ ap (λ s. add_states s (state_octets c.args.key))
    (state_octets-columns (λ r k. coefficient mixing (column shifted k) r) _ _ _ _
    (c.mixed.ensures ∙ ap mixed_column c.shifted.ensures)
    (c.mixed-2.ensures ∙ ap mixed_column c.shifted-2.ensures)
    (c.mixed-3.ensures ∙ ap mixed_column c.shifted-3.ensures)
    (c.mixed-4.ensures ∙ ap mixed_column c.shifted-4.ensures))
