-- The proof of `Fields::u40`.
use Rattle.std.proofs.Common.{sym, rules}
use Rattle.wire_fields.proofs.LittleEndian.{read_5, number_taken, number_left}
use Rattle.wire_fields.proofs.fields.Fields.u40.Goals as goal

pub returns-clause-taken : goal.returns-clause-taken
returns-clause-taken c =
    read_5 c.args.self.now c.front.result c.front.new.self c.from_le_bytes.result c.front.ensures.taken (search rules) (search rules) c.from_le_bytes.ensures

pub returns-clause-value : goal.returns-clause-value
returns-clause-value c = sym (number_taken 5 _ _ _ (returns-clause-taken c) (search rules))

pub returns-clause-new : goal.returns-clause-new
returns-clause-new c = sym (number_left 5 _ _ _ (returns-clause-taken c))
