-- Answers of `accept_list::AcceptList::remove`.
use Rattle.scan_init.proofs.Listed.{set_less}
use Rattle.scan_init.proofs.accept_list.AcceptList.remove.Goals as goal

pub invariant_of-self : goal.invariant_of-self
invariant_of-self c =
    rw (c.without_address-self-inside.ensures, c.as_slice.ensures.value) (set_less c.self.inside.addresses.items c.args.address c.self.invariant)
