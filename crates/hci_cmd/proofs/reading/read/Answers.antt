-- The proof of `read`.
use Rattle.std.proofs.Common.{◌∙◌, sym, arith}
use Rattle.hci_cmd.specs.Command.{command_of}
use Rattle.hci_cmd.proofs.Parameters.{known_is, only_is, unknown_is, is_unknown, none_has, has_none, bad_is, is_bad}
use Rattle.hci_cmd.proofs.Opcodes.{every}
use Rattle.hci_cmd.proofs.reading.read.Goals as goal

pub returns-clause-value : goal.returns-clause-value
unfolding command_of
returns-clause-value c = rw (← c.new.ensures) c.command.ensures

pub returns-clause-known : goal.returns-clause-known
returns-clause-known c = rw (returns-clause-value c) (known_is c.args.opcode c.args.body.now (λ i. omega (arith, c.type_inv.body i)))

pub returns-clause-unknown : goal.returns-clause-unknown
returns-clause-unknown c = (
  λ same. unknown_is c.args.opcode c.args.body.now (sym (returns-clause-value c) ∙ same),
  λ none. returns-clause-value c ∙ is_unknown c.args.opcode c.args.body.now none,
)

pub returns-clause-no_command : goal.returns-clause-no_command
returns-clause-no_command c = (
  λ same. none_has c.args.opcode (unknown_is c.args.opcode c.args.body.now (sym (returns-clause-value c) ∙ same)),
  λ none. returns-clause-value c ∙ is_unknown c.args.opcode c.args.body.now (has_none c.args.opcode none),
)

pub returns-clause-every : goal.returns-clause-every
returns-clause-every c = every

pub returns-clause-length : goal.returns-clause-length
returns-clause-length c = (
  λ same. bad_is c.args.opcode c.args.body.now (sym (returns-clause-value c) ∙ same),
  λ bad. returns-clause-value c ∙ is_bad c.args.opcode c.args.body.now bad,
)

pub returns-clause-only : goal.returns-clause-only
returns-clause-only c = λ command is. returns-clause-value c ∙ only_is c.args.opcode c.args.body.now command is
