-- The loop invariants of `TxBank::place_of_piece_out`.
use Rattle.acl_banks.specs.Packets.{has_piece_out}
use Rattle.acl_banks.proofs.Places.{IsNoneBefore}
use Rattle.acl_banks.proofs.tx_bank.TxBank.place_of_piece_out.Given as goal

abbrev pub invariant-loop-place : goal.invariant-loop-place
invariant-loop-place g l = IsNoneBefore (has_piece_out l.handle) l.self-inside.packets l.place
