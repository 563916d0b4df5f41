-- The proof of `last`.
use Rattle.std.proofs.Common.{ap, ◌∙◌}
use Rattle.aes_block.specs.State.{add_states, octet_at, shift_rows, sub_bytes}
use Rattle.aes_block.specs.Words.{state_octets}
use Rattle.aes_block.proofs.ColumnOctets.{state_octets-columns}
use Rattle.aes_block.proofs.rounds.last.Goals as goal

pub returns : goal.returns
unfolding shift_rows sub_bytes
returns c =
    c.add.ensures ∙ ap (λ s. add_states s (state_octets c.args.key))
    (state_octets-columns (octet_at (shift_rows (sub_bytes (state_octets c.args.state)))) _ _ _ _
    c.last_column.ensures c.last_column-2.ensures c.last_column-3.ensures c.last_column-4.ensures)
