-- The proof of `put_u16`.
use Rattle.std.proofs.Common.{arith}
use Rattle.wire_fields.proofs.LittleEndian.{to_le_bytes_2}
use Rattle.wire_fields.proofs.put.put_u16.Goals as goal

pub returns-clause-items : goal.returns-clause-items
returns-clause-items g c = grind (arith, to_le_bytes_2)
