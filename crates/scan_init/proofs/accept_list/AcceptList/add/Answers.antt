-- Answers of `accept_list::AcceptList::add`.
use Rattle.std.proofs.Common.{sym, ap, ◌∙◌, rules}
use Rattle.scan_init.specs.Addresses.{is_listed}
use Rattle.scan_init.proofs.Listed.{set_push}
use Rattle.scan_init.proofs.accept_list.AcceptList.add.Goals as goal

pub invariant_of-self : goal.invariant_of-self
invariant_of-self c =
    rw c.push.ensures.items
    (set_push c.self.inside.addresses.items c.args.address c.self.invariant (search rules)
    (ap (λ list. is_listed list c.args.address) c.self.view_is ∙ sym c.if-has.ensures.listed))
