-- The proof of `TxBank::place_of_piece_out`.
use Rattle.std.proofs.Common.{sym, ◌∙◌, arith}
use Rattle.acl_banks.specs.Packets.{has_piece_out}
use Rattle.acl_banks.proofs.Places.{none_before_first, none_before_next, found_first, found_none}
use Rattle.acl_banks.proofs.tx_bank.TxBank.place_of_piece_out.Goals as goal

pub loop-place-init : goal.loop-place-init
loop-place-init g c = none_before_first (has_piece_out c.args.handle) c.self.inside.packets

pub returns-then-has_piece_out : goal.returns-then-has_piece_out
returns-then-has_piece_out g c =
    rw (← c.self.view_is)
    (found_first (has_piece_out c.args.handle) c.self.inside.packets c.loop-place.place c.get.result.now c.loop-place.invariant (omega arith) c.get.ensures (sym c.has_piece_out.ensures ∙ c.if-has_piece_out.true))

pub loop-place-preserved : goal.loop-place-preserved
loop-place-preserved g c =
    none_before_next (has_piece_out c.args.handle) c.self.inside.packets c.loop-place.place c.get.result.now c.loop-place.invariant (omega arith) c.get.ensures (sym c.has_piece_out.ensures ∙ c.if-has_piece_out.false)

pub returns : goal.returns
returns g c =
    rw (← c.self.view_is) (found_none (has_piece_out c.args.handle) c.self.inside.packets c.loop-place.place c.loop-place.invariant (omega arith))
