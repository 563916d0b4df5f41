-- The proof of `write_ctrl`.
use Rattle.std.proofs.Common.{[], ap, ◌∙◌}
use Rattle.wire_fields.proofs.Spelling.{appended-spelled}
use Rattle.data_pdu.specs.Layouts.{fields_of}
use Rattle.data_pdu.specs.Reading.{ctrl_of}
use Rattle.data_pdu.proofs.Rows.{written_is_known}
use Rattle.data_pdu.proofs.writing.write_ctrl.Goals as goal

pub returns-clause-items : goal.returns-clause-items
returns-clause-items c = c.opcode_and_fields.ensures.items ∙ appended-spelled [] (fields_of c.args.ctrl.now)

pub returns-clause-read : goal.returns-clause-read
returns-clause-read c = ap ctrl_of (returns-clause-items c) ∙ written_is_known c.args.ctrl.now c.opcode_and_fields.ensures.is_ctrl
