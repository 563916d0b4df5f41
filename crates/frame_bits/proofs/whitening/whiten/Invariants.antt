-- The loop invariants of `whiten`.
use Rattle.std.proofs.Common.{◌≡◌}
use Rattle.frame_bits.specs.Whitening.{mask_of}
use Rattle.frame_bits.proofs.Sequences.{whitening_to}
use Rattle.frame_bits.proofs.whitening.whiten.Given as goal

abbrev pub invariant-loop-octet : goal.invariant-loop-octet
invariant-loop-octet l = record {
  so_far : l.octets ≡ whitening_to l.channel l.octet-index l.initial.octets;
  mask : l.mask ≡ mask_of l.channel l.octet-index;
}
