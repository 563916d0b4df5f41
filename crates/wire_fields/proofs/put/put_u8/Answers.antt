-- The proof of `put_u8`.
use Rattle.std.proofs.Common.{arith}
use Rattle.wire_fields.proofs.LittleEndian.{little_endian_1}
use Rattle.wire_fields.proofs.put.put_u8.Goals as goal

pub returns-clause-items : goal.returns-clause-items
returns-clause-items g c = grind (arith, little_endian_1)
