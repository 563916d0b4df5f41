-- The proof of `remainder_of`.
use Rattle.std.proofs.Common.{arith}
use Rattle.frame_bits.proofs.OctetValues.{table_at}
use Rattle.frame_bits.proofs.crc.remainder_of.Goals as goal

pub returns : goal.returns
returns c = table_at c.args.top (omega arith)
