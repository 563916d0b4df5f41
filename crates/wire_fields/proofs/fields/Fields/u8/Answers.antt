-- The proof of `Fields::u8`.
use Rattle.std.proofs.Common.{sym, rules}
use Rattle.wire_fields.proofs.LittleEndian.{read_1, octet_1, number_taken, number_left}
use Rattle.wire_fields.proofs.fields.Fields.u8.Goals as goal

pub returns-clause-taken : goal.returns-clause-taken
returns-clause-taken c =
    read_1 c.args.self.now c.front.result c.front.new.self c.front.ensures.taken (search rules) (search rules)

pub returns-clause-octet : goal.returns-clause-octet
returns-clause-octet c = octet_1 c.args.self.now c.front.result c.front.new.self c.front.ensures.taken (search rules)

pub returns-clause-value : goal.returns-clause-value
returns-clause-value c = sym (number_taken 1 _ _ _ (returns-clause-taken c) (search rules))

pub returns-clause-new : goal.returns-clause-new
returns-clause-new c = sym (number_left 1 _ _ _ (returns-clause-taken c))
