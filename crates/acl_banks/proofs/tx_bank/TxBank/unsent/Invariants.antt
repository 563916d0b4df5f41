-- The loop invariants of `TxBank::unsent`.
use Rattle.std.proofs.Common.{◌≡◌, ◌*◌, ◌≤◌, length, take}
use Rattle.acl_banks.proofs.Octets.{unsent_in}
use Rattle.acl_banks.proofs.tx_bank.TxBank.unsent.Given as goal

abbrev pub invariant-loop-place : goal.invariant-loop-place
invariant-loop-place g l =
    (l.count ≡ length (unsent_in l.handle (take l.place l.self-inside.packets))) × (l.count ≤ 251 * l.place)
