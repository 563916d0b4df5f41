-- The loop invariants of `encrypt`.
use Rattle.std.proofs.Common.{◌≡◌, ◌-◌}
use Rattle.aes_block.specs.Cipher.{after_rounds}
use Rattle.aes_block.specs.KeyExpansion.{key_expansion}
use Rattle.aes_block.specs.Words.{state_octets}
use Rattle.aes_block.proofs.Aes.encrypt.Given as goal

abbrev pub invariant-rounds : goal.invariant-rounds
invariant-rounds l = state_octets l.state ≡ after_rounds (key_expansion l.self) l.block (l.round - 1)
