-- The proof of `TxBank::first_unsent`.
use Rattle.std.proofs.Common.{sym, ◌∙◌, arith}
use Rattle.acl_banks.specs.Packets.{has_unsent}
use Rattle.acl_banks.proofs.Places.{none_before_first, none_before_next, found_first, found_none}
use Rattle.acl_banks.proofs.tx_bank.TxBank.first_unsent.Goals as goal

pub loop-place-init : goal.loop-place-init
loop-place-init g c = none_before_first (has_unsent c.args.handle) c.self.inside.packets

pub returns-then-has_unsent : goal.returns-then-has_unsent
returns-then-has_unsent g c =
    rw (← c.self.view_is)
    (found_first (has_unsent c.args.handle) c.self.inside.packets c.loop-place.place c.get.result.now c.loop-place.invariant (omega arith) c.get.ensures (sym c.has_unsent.ensures ∙ c.if-has_unsent.true))

pub loop-place-preserved : goal.loop-place-preserved
loop-place-preserved g c =
    none_before_next (has_unsent c.args.handle) c.self.inside.packets c.loop-place.place c.get.result.now c.loop-place.invariant (omega arith) c.get.ensures (sym c.has_unsent.ensures ∙ c.if-has_unsent.false)

pub returns : goal.returns
returns g c =
    rw (← c.self.view_is) (found_none (has_unsent c.args.handle) c.self.inside.packets c.loop-place.place c.loop-place.invariant (omega arith))
