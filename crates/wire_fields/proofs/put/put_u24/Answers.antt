-- The proof of `put_u24`.
use Rattle.std.proofs.Common.{arith}
use Rattle.wire_fields.proofs.LittleEndian.{take_3}
use Rattle.wire_fields.proofs.put.put_u24.Goals as goal

pub returns-clause-items : goal.returns-clause-items
returns-clause-items g c = grind (arith, take_3)
