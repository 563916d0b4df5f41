-- The proof of `read`.
use Rattle.std.proofs.Common.{rules, ◌∙◌}
use Rattle.aes_block.specs.State.{octet_at}
use Rattle.aes_block.proofs.ColumnOctets.{state_octets-columns, state_of-octet_at}
use Rattle.aes_block.proofs.columns.read.Goals as goal

pub returns : goal.returns
returns c =
    let block = c.args.block.now in
    state_octets-columns (octet_at block) _ _ _ _ c.read_word.ensures c.read_word-2.ensures c.read_word-3.ensures c.read_word-4.ensures
    ∙ state_of-octet_at block (search rules)
