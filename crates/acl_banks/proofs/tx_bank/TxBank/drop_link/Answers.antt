-- The proof of `TxBank::drop_link`.
use Rattle.std.proofs.Common.{◌∙◌, length-set}
use Rattle.acl_banks.proofs.AllLinks.{IsInOrder-drop, out-drop}
use Rattle.acl_banks.proofs.tx_bank.TxBank.drop_link.Goals as goal

pub invariant_of-self : goal.invariant_of-self
invariant_of-self g c = (
  length-set c.self.inside.counts.items c.from.result 0 ∙ c.self.invariant.0,
  c.self.invariant.1,
  rw c.drop_link.ensures (IsInOrder-drop c.self.inside.packets c.args.handle c.self.invariant.2),
)

pub returns-clause-none_out : goal.returns-clause-none_out
returns-clause-none_out g c = rw c.drop_link.ensures (out-drop c.self.inside.packets c.args.handle)
