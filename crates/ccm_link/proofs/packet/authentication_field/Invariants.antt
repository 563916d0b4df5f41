-- The loop invariants of `authentication_field`.
use Rattle.std.proofs.Common.{◌≡◌, fold, length}
use Rattle.ccm_link.specs.Ccm.{blocks, chain_step}
use Rattle.ccm_link.proofs.packet.authentication_field.Given as goal

abbrev pub invariant-loop-chunk : goal.invariant-loop-chunk
invariant-loop-chunk l = record {
  size : l.chunk-iterator.size ≡ 16;
  whole : length l.state ≡ 16;
  done : fold (chain_step l.aes) l.state (blocks l.chunk-iterator.rest.now) ≡ fold (chain_step l.aes) l.initial.state (blocks l.body);
}
