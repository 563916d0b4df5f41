-- The proof of `Fields::u32`.
use Rattle.std.proofs.Common.{sym, arith, rules}
use Rattle.wire_fields.proofs.LittleEndian.{read_4, number_taken, number_left}
use Rattle.wire_fields.proofs.fields.Fields.u32.Goals as goal

pub returns-clause-taken : goal.returns-clause-taken
returns-clause-taken c =
    read_4 c.args.self.now c.front.result c.front.new.self c.from_le_bytes.result c.front.ensures.taken (search rules) (search rules) c.from_le_bytes.ensures

pub returns-clause-value : goal.returns-clause-value
returns-clause-value c = sym (number_taken 4 _ _ _ (returns-clause-taken c) (omega arith))

pub returns-clause-new : goal.returns-clause-new
returns-clause-new c = sym (number_left 4 _ _ _ (returns-clause-taken c))
