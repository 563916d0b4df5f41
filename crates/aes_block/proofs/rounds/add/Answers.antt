-- The proof of `add`.
use Rattle.std.proofs.Common.{bit_xor}
use Rattle.aes_block.specs.State.{add_states, octet_at}
use Rattle.aes_block.specs.Words.{state_octets}
use Rattle.aes_block.proofs.ColumnOctets.{state_octets-columns}
use Rattle.aes_block.proofs.WordOctets.{word_octets-xor}
use Rattle.aes_block.proofs.rounds.add.Goals as goal

pub returns : goal.returns
unfolding add_states
returns c =
    state_octets-columns (λ r k. bit_xor (octet_at (state_octets c.args.state) r k) (octet_at (state_octets c.args.key) r k)) _ _ _ _
    (word_octets-xor _ _) (word_octets-xor _ _) (word_octets-xor _ _) (word_octets-xor _ _)
