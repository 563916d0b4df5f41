-- The loop invariants of `crc24`.
use Rattle.std.proofs.Common.{◌≡◌, ◌^◌, ◌<◌, take}
use Rattle.frame_bits.specs.Crc.{crc}
use Rattle.frame_bits.proofs.crc.crc24.Given as goal

abbrev pub invariant-loop-octet : goal.invariant-loop-octet
invariant-loop-octet l = record {
  so_far : l.register ≡ crc l.fn.init (take l.octet-index l.octets);
  bound : l.register < 2 ^ 24;
}
