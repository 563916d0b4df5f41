-- The loop invariants of `TxBank::first_unsent`.
use Rattle.acl_banks.specs.Packets.{has_unsent}
use Rattle.acl_banks.proofs.Places.{IsNoneBefore}
use Rattle.acl_banks.proofs.tx_bank.TxBank.first_unsent.Given as goal

abbrev pub invariant-loop-place : goal.invariant-loop-place
invariant-loop-place g l = IsNoneBefore (has_unsent l.handle) l.self-inside.packets l.place
