-- The proof of `TxBank::offer`.
use Rattle.std.proofs.Common.{arith}
use Rattle.acl_banks.proofs.AllLinks.{IsInOrder-offer, out-offer}
use Rattle.acl_banks.proofs.tx_bank.TxBank.offer.Goals as goal

pub invariant_of-self : goal.invariant_of-self
invariant_of-self g c = (
  c.self.invariant.0,
  c.self.invariant.1,
  rw (c.push.ensures, c.new.ensures) (IsInOrder-offer c.self.inside.packets c.args.handle c.self.invariant.2 c.args.start c.args.body.now (omega (arith, c.requires))),
)

pub returns-clause-out : goal.returns-clause-out
returns-clause-out g c link =
    rw (← c.self.view_is, c.push.ensures, c.new.ensures) (out-offer c.self.inside.packets c.args.handle c.args.start c.args.body.now link)
