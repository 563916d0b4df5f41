-- The proof of `TxBank::acked`.
use Rattle.std.proofs.Common.{◌≡◌, ◌+◌, get_or, length, sym, ap, subst, ◌∙◌, None, arith, if◌then◌else◌, length-set}
use Rattle.acl_banks.specs.Packets.{IsInOrder}
use Rattle.acl_banks.specs.Banks.{Bank, credits_of, is_completed, packet_out}
use Rattle.acl_banks.proofs.Steps.{none_out-absurd, acked-whole, acked-part, acked-whole-in_order, acked-part-in_order, acked-counted, acked-none_out, count_read}
use Rattle.acl_banks.proofs.tx_bank.TxBank.acked.Goals as goal

pub unreachable-requires : goal.unreachable-requires
unreachable-requires g c =
    none_out-absurd c.args.self.now c.args.handle (sym c.place_of_piece_out.ensures ∙ c.in_default.is) c.requires.out

pub invariant_of-self : goal.invariant_of-self
invariant_of-self g c =
    let at = rw (← c.self.view_is) at (sym c.place_of_piece_out.ensures ∙ c.in-Some.is) in
    let bank : Bank = record { packets = c.self.inside.packets; counts = c.self.inside.counts.items } in (
      length-set c.self.inside.counts.items c.from.result (c.index_mut.result.now + 1) ∙ c.self.invariant.0,
      c.self.invariant.1,
      rw c.remove.ensures.rest (acked-whole-in_order bank c.args.handle c.in-Some.place c.get.result.now at c.get.ensures c.self.invariant.2),
    )

pub invariant_of-self-else-is_all_sent : goal.invariant_of-self-else-is_all_sent
invariant_of-self-else-is_all_sent g c =
    let at = rw (← c.self.view_is) at (sym c.place_of_piece_out.ensures ∙ c.in-Some.is) in
    let bank : Bank = record { packets = c.self.inside.packets; counts = c.self.inside.counts.items } in
    let part = sym c.is_all_sent.ensures ∙ c.if-is_all_sent.false in (
      c.self.invariant.0,
      c.self.invariant.1,
      rw c.acknowledge.ensures (acked-part-in_order bank c.args.handle c.in-Some.place c.get.result.now at c.get.ensures c.self.invariant.2 c.get_mut.result.now c.get_mut.ensures.value part),
    )

pub returns-then-is_all_sent-clause-bank : goal.returns-then-is_all_sent-clause-bank
returns-then-is_all_sent-clause-bank g c =
    let at = rw (← c.self.view_is) at (sym c.place_of_piece_out.ensures ∙ c.in-Some.is) in
    let bank : Bank = record { packets = c.self.inside.packets; counts = c.self.inside.counts.items } in
    let all = sym c.is_all_sent.ensures ∙ c.if-is_all_sent.true in
    let counted = count_read c.self.inside.counts.items c.from.result c.args.handle c.index_mut.result.now c.from.ensures c.index_mut.ensures.value (omega arith) c.self.invariant.0 in
    rw (← c.self.view_is, c.remove.ensures.rest, c.from.ensures)
    (acked-whole bank c.args.handle c.in-Some.place c.get.result.now at c.get.ensures c.index_mut.result.now all counted)

pub returns-then-is_all_sent-clause-counted : goal.returns-then-is_all_sent-clause-counted
returns-then-is_all_sent-clause-counted g c =
    let old = c.args.self.now in
    let handle = c.args.handle in
    let all = ap (λ (bank : Bank). length bank.counts) (sym c.self.view_is) ∙ c.self.invariant.0 in
    subst (λ (bank : Bank). credits_of bank handle ≡ (if is_completed (packet_out old handle) then credits_of old handle + 1 else credits_of old handle))
    (sym (returns-then-is_all_sent-clause-bank g c)) (acked-counted old handle (omega (arith, all)))

pub returns-then-is_all_sent-clause-none_out : goal.returns-then-is_all_sent-clause-none_out
returns-then-is_all_sent-clause-none_out g c =
    let at = sym c.place_of_piece_out.ensures ∙ c.in-Some.is in
    let read = c.get.ensures ∙ ap (λ (bank : Bank). get_or bank.packets c.in-Some.place c.get.result.now) c.self.view_is in
    let order = subst (λ (bank : Bank). IsInOrder bank.packets) c.self.view_is c.self.invariant.2 in
    subst (λ (bank : Bank). packet_out bank c.args.handle ≡ None) (sym (returns-then-is_all_sent-clause-bank g c)) (acked-none_out c.args.self.now c.args.handle c.in-Some.place c.get.result.now at read order)

pub returns-else-is_all_sent-clause-bank : goal.returns-else-is_all_sent-clause-bank
returns-else-is_all_sent-clause-bank g c =
    let at = rw (← c.self.view_is) at (sym c.place_of_piece_out.ensures ∙ c.in-Some.is) in
    let bank : Bank = record { packets = c.self.inside.packets; counts = c.self.inside.counts.items } in
    let part = sym c.is_all_sent.ensures ∙ c.if-is_all_sent.false in
    rw (← c.self.view_is, c.acknowledge.ensures)
    (acked-part bank c.args.handle c.in-Some.place c.get.result.now at c.get.ensures c.get_mut.result.now c.get_mut.ensures.value part)

pub returns-else-is_all_sent-clause-counted : goal.returns-else-is_all_sent-clause-counted
returns-else-is_all_sent-clause-counted g c =
    let old = c.args.self.now in
    let handle = c.args.handle in
    let all = ap (λ (bank : Bank). length bank.counts) (sym c.self.view_is) ∙ c.self.invariant.0 in
    subst (λ (bank : Bank). credits_of bank handle ≡ (if is_completed (packet_out old handle) then credits_of old handle + 1 else credits_of old handle))
    (sym (returns-else-is_all_sent-clause-bank g c)) (acked-counted old handle (omega (arith, all)))

pub returns-else-is_all_sent-clause-none_out : goal.returns-else-is_all_sent-clause-none_out
returns-else-is_all_sent-clause-none_out g c =
    let at = sym c.place_of_piece_out.ensures ∙ c.in-Some.is in
    let read = c.get.ensures ∙ ap (λ (bank : Bank). get_or bank.packets c.in-Some.place c.get.result.now) c.self.view_is in
    let order = subst (λ (bank : Bank). IsInOrder bank.packets) c.self.view_is c.self.invariant.2 in
    subst (λ (bank : Bank). packet_out bank c.args.handle ≡ None) (sym (returns-else-is_all_sent-clause-bank g c)) (acked-none_out c.args.self.now c.args.handle c.in-Some.place c.get.result.now at read order)
