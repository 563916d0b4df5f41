-- The proof of `TxBank::waits`.
use Rattle.std.proofs.Common.{get_or, sym, ap, ◌∙◌, arith}
use Rattle.acl_banks.specs.Banks.{Bank}
use Rattle.acl_banks.proofs.Steps.{waits-none, waits-is}
use Rattle.acl_banks.proofs.tx_bank.TxBank.waits.Goals as goal

pub returns-in_default : goal.returns-in_default
returns-in_default g c = (
  λ wrong. absurd (cc),
  waits-none c.args.self.now c.args.handle (sym c.first_unsent.ensures ∙ c.in_default.is) c.args.limit,
)

pub returns : goal.returns
returns g c =
    let at = sym c.first_unsent.ensures ∙ c.in-Some.is in
    let read = c.get.ensures ∙ ap (λ (bank : Bank). get_or bank.packets c.in-Some.place c.get.result.now) c.self.view_is in
    waits-is c.args.self.now c.args.handle c.in-Some.place c.get.result.now at read c.args.limit c.min-next.result c.unsent-2.result (omega arith) c.unsent-2.ensures
