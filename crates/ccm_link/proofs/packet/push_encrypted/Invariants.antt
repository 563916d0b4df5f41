-- The loop invariants of `push_encrypted`.
use Rattle.std.proofs.Common.{◌≡◌, ◌+◌, ◌≤◌, ◌++◌, length}
use Rattle.ccm_link.specs.Ccm.{block_count}
use Rattle.ccm_link.proofs.Cutting.{ciphered}
use Rattle.ccm_link.proofs.packet.push_encrypted.Given as goal

abbrev pub invariant-loop-chunk : goal.invariant-loop-chunk
invariant-loop-chunk g l = record {
  size : l.chunk-iterator.size ≡ 16;
  counted : l.number + block_count l.chunk-iterator.rest.now ≡ block_count l.octets;
  room : length l.out.items + length l.chunk-iterator.rest.now ≤ g.row.CAP;
  done : l.out.items ++ ciphered l.aes l.nonce (l.number + 1) l.chunk-iterator.rest.now
      ≡ l.initial.out.items ++ ciphered l.aes l.nonce 1 l.octets;
}
