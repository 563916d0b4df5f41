-- The proof of `TxBank::went`.
use Rattle.std.proofs.Common.{get_or, sym, ap, subst, ◌∙◌, IsSome}
use Rattle.acl_banks.specs.Packets.{IsInOrder}
use Rattle.acl_banks.specs.Banks.{Bank, packet_out}
use Rattle.acl_banks.proofs.Steps.{next_piece-absurd, went-is, went-in_order, went-out}
use Rattle.acl_banks.proofs.tx_bank.TxBank.went.Goals as goal

pub unreachable-requires : goal.unreachable-requires
unreachable-requires g c =
    next_piece-absurd c.args.self.now c.args.handle (sym c.first_unsent.ensures ∙ c.in-None.is) c.args.count c.requires.next

pub invariant_of-self : goal.invariant_of-self
invariant_of-self g c =
    let bank : Bank = record { packets = c.self.inside.packets; counts = c.self.inside.counts.items } in
    let at = rw (← c.self.view_is) at (sym c.first_unsent.ensures ∙ c.in-Some.is) in
    let none = rw (← c.self.view_is) at c.requires.none_out in
    let order = went-in_order bank c.args.handle c.in-Some.place c.get_mut.result.now at c.get_mut.ensures.value c.self.invariant.2 none c.args.count in
    (c.self.invariant.0, c.self.invariant.1, rw c.send.ensures order)

pub returns-clause-bank : goal.returns-clause-bank
returns-clause-bank g c =
    let at = rw (← c.self.view_is) at (sym c.first_unsent.ensures ∙ c.in-Some.is) in
    rw (← c.self.view_is, c.send.ensures)
    (went-is (record { packets = c.self.inside.packets; counts = c.self.inside.counts.items }) c.args.handle c.in-Some.place c.get_mut.result.now at c.get_mut.ensures.value c.args.count)

pub returns-clause-out : goal.returns-clause-out
returns-clause-out g c =
    let at = sym c.first_unsent.ensures ∙ c.in-Some.is in
    let read = c.get_mut.ensures.value ∙ ap (λ (bank : Bank). get_or bank.packets c.in-Some.place c.get_mut.result.now) c.self.view_is in
    let order = subst (λ (bank : Bank). IsInOrder bank.packets) c.self.view_is c.self.invariant.2 in
    subst (λ (bank : Bank). IsSome (packet_out bank c.args.handle)) (sym (returns-clause-bank g c))
    (went-out c.args.self.now c.args.handle c.in-Some.place c.get_mut.result.now at read order c.requires.none_out c.args.count c.requires.some)
