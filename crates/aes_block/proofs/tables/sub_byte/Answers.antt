-- The proof of `sub_byte`.
use Rattle.std.proofs.Common.{arith}
use Rattle.aes_block.proofs.TableEntries.{sbox_at}
use Rattle.aes_block.proofs.tables.sub_byte.Goals as goal

pub returns : goal.returns
returns c = sbox_at c.args.octet (omega arith)
