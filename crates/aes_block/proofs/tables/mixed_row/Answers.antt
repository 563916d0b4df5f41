-- The proof of `mixed_row`.
use Rattle.std.proofs.Common.{arith}
use Rattle.aes_block.proofs.TableEntries.{round_table_at}
use Rattle.aes_block.proofs.tables.mixed_row.Goals as goal

pub returns : goal.returns
returns c = round_table_at c.args.octet (omega arith)
