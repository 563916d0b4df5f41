-- The proof of `put_u40`.
use Rattle.std.proofs.Common.{arith}
use Rattle.wire_fields.proofs.LittleEndian.{take_5}
use Rattle.wire_fields.proofs.put.put_u40.Goals as goal

pub returns-clause-items : goal.returns-clause-items
returns-clause-items g c = grind (arith, take_5)
